-- What is queued for a session, and how it goes out.
use Rattle.std.specs.Prelude.{ℕ, ◌+◌, List, [], ◌∷◌, ◌++◌, Bool, ◌||◌, ◌==◌, codes, take, drop, if◌then◌else◌}
use Rattle.stanza_tree.specs.Spelling.{value_text}
use Rattle.stanza_tree.specs.declared.frame.Entry.{Entry}

-- a space, `/` or `>` ends the name of a start tag
abbrev pub ends_name : ℕ → Bool
ends_name b = (b == 32) || (b == 47) || (b == 62)

-- the length of `<` and the name at the front of a text
abbrev pub name_end : List ℕ → ℕ
name_end [] = 0
name_end (b ∷ more) = if ends_name b then 0 else 1 + name_end more

abbrev pub to_attribute : List ℕ → List ℕ
to_attribute to = codes " to='" ++ value_text to ++ codes "'"

-- RFC 6120, 8.1.1: the frame is the text with its `to` right after the name
abbrev pub frame : Entry → List ℕ
frame e = take (name_end e.rest) e.rest ++ to_attribute e.to ++ drop (name_end e.rest) e.rest

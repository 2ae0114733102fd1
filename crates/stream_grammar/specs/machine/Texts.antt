-- The names that are gathered are UTF-8 (RFC 3629), but for the bytes of a character that is not whole yet.
use Rattle.std.specs.Prelude.{◌≡◌, ℕ, List, [], ◌∷◌, ◌++◌, true, IsUtf8}
use Rattle.stream_lex.specs.declared.Token.{Token}
use Rattle.stream_lex.specs.declared.Token.TheVariants as token
use Rattle.stream_lex.specs.declared.characters.Pending.{Pending}
use Rattle.stream_lex.specs.machine.Characters.{bytes_of, is_begun}
use Rattle.stream_grammar.specs.declared.namespaces.Written.{Written}
use Rattle.stream_grammar.specs.grammar.Tags.{Gathered}
use Rattle.stream_grammar.specs.machine.Framing.{Frame, open_at}
use Rattle.stream_grammar.specs.machine.Sorts.{Sort, at_name, at_tag, at_attribute, at_value, sort_of}

-- a text, and then these bytes of a character
abbrev pub BeginsText : List ℕ → Pending → Type 0
BeginsText bytes p = (text : List ℕ) × IsUtf8 text × (bytes ≡ text ++ bytes_of p)

abbrev pub HaveTextNames : List Written → Type 0
HaveTextNames [] = Unit {0}
HaveTextNames (a ∷ more) = IsUtf8 a.name × HaveTextNames more

-- the name of the tag and those of the attributes that are whole
abbrev pub IsTextTag : Gathered → Type 0
IsTextTag g = IsUtf8 g.name × HaveTextNames g.attributes

-- what a tag has gathered, where these bytes of a character have come
abbrev pub AreGathered : Sort → Pending → Gathered → Type 0
AreGathered at_name p g = BeginsText g.name p × HaveTextNames g.attributes
AreGathered at_tag p g = IsTextTag g
AreGathered at_attribute p g = IsTextTag g × BeginsText g.attribute p
AreGathered at_value p g = IsTextTag g × IsUtf8 g.attribute
AreGathered s p g = Unit {0}

abbrev pub HasTexts : Frame → Gathered → Type 0
HasTexts (open_at st n) g = (is_begun st.pending ≡ true) × AreGathered (sort_of st) st.pending g
HasTexts f g = Unit {0}

-- where the tokens end a tag, its names are texts
abbrev pub AreNamed : Gathered → List Token → Type 0
AreNamed g (token.TagEnds e ∷ []) = IsTextTag g
AreNamed g ts = Unit {0}

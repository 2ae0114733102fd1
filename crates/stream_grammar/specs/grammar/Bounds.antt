-- The limits of a stream: what they make of its syntax, and on the spelling of its items.
use Rattle.std.specs.Prelude.{ℕ, ◌-◌, ◌^◌, min, length, Bool, false, nat_lt, Option, Some}
use Rattle.stanza_tree.specs.declared.node.Element.{Element}
use Rattle.stanza_tree.specs.Spelling.{text}
use Rattle.stream_grammar.specs.declared.item.Item.{Item}
use Rattle.stream_grammar.specs.declared.item.Item.TheVariants as item
use Rattle.stream_grammar.specs.declared.item.Limits.{Limits}
use Rattle.stream_grammar.specs.declared.rules.Rules.{Rules}

-- a number as it is told in 64 bits: the greatest stands for all above it
abbrev pub told_number : ℕ → ℕ
told_number n = min n (2 ^ 64 - 1)

-- the rules of the syntax that these limits make
abbrev pub rules_of : Limits → Rules
rules_of l = record { depth = l.depth; attributes = l.attrs; loose = false }

-- the canonical spelling of the element is past the limit
abbrev pub is_large : Limits → Element → Bool
is_large l e = nat_lt l.canonical (told_number (length (text e)))

abbrev pub is_large_item : Limits → Option Item → Bool
is_large_item l (Some (item.Header e space)) = is_large l e
is_large_item l (Some (item.Top e)) = is_large l e
is_large_item l i = false

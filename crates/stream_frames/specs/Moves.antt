-- What tokens do to a place and to the names that are open: the nesting, by its changes.
use Rattle.std.specs.Prelude.{ℕ, ◌+◌, List, [], ◌∷◌, length, Bool, true, false, not, cond, ◌&&◌, ◌||◌, nat_lt, nat_le}
use Rattle.stream_lex.specs.declared.Token.{Token}
use Rattle.stream_lex.specs.declared.Token.TheVariants as token
use Rattle.stream_lex.specs.declared.stages.State.{State}
use Rattle.stream_grammar.specs.declared.rules.Rules.{Rules}
use Rattle.stream_frames.specs.declared.places.Place.{Place}
use Rattle.stream_frames.specs.declared.places.Place.TheVariants as place
use Rattle.stream_frames.specs.declared.places.Move.{Move}
use Rattle.stream_frames.specs.declared.places.Move.TheVariants as move
use Rattle.stream_grammar.specs.grammar.Trees.{RawName, is_space}
use Rattle.stream_grammar.specs.machine.Framing.{comes_to_space, is_empty_mark, is_after_end_name}
use Rattle.stream_frames.specs.Stacks.{outer, begins_so, left_of, next_is, is_all}

abbrev pub is_none : List RawName → Bool
is_none [] = true
is_none (m ∷ st) = false

abbrev pub is_one : List RawName → Bool
is_one [] = false
is_one (m ∷ st) = is_none st

-- whether the character may stand in the innermost element
abbrev pub stands : Rules → List RawName → ℕ → Bool
stands r st c = cond (is_none st) false (cond (is_one st) (is_space c || r.loose) true)

abbrev pub root_move : Token → Move
root_move (token.TagOpens b) = move.Roots b
root_move t = move.Lost

abbrev pub content_move : Rules → List RawName → Token → Move
content_move r st (token.Word c) = cond (stands r st c) (move.To place.Inside) move.Lost
content_move r st (token.TagOpens b) = cond (is_none st) move.Lost (cond (nat_le (length st) r.depth) (move.Begins b) move.Lost)
content_move r st (token.CloseOpens b) = cond (begins_so st b) (move.To (place.Closing 0)) move.Lost
content_move r st t = move.Lost

abbrev pub name_move : Rules → List RawName → ℕ → Token → Move
name_move r st k (token.AttrOpens b) = cond (nat_lt k r.attributes) (move.To (place.NamingAttribute (k + 1))) move.Lost
name_move r st k (token.TagEnds true) = cond (is_none st) move.Lost (move.To place.Inside)
name_move r st k (token.TagEnds false) = move.Enters
name_move r st k t = move.Lost

abbrev pub attribute_move : ℕ → Token → Move
attribute_move k (token.AttrByte x) = move.To (place.NamingAttribute k)
attribute_move k token.ValueOpens = move.To (place.InValue k)
attribute_move k t = move.Lost

abbrev pub value_move : ℕ → Token → Move
value_move k (token.Value c) = move.To (place.InValue k)
value_move k token.ValueEnds = move.To (place.InTag k)
value_move k t = move.Lost

abbrev pub closing_move : List RawName → ℕ → Token → Move
closing_move st i (token.NameByte y) = cond (next_is (left_of st i) y) (move.To (place.Closing (i + 1))) move.Lost
closing_move st i token.CloseEnds = cond (is_all (left_of st i)) move.Leaves move.Lost
closing_move st i t = move.Lost

abbrev pub start_move : Token → Move
start_move token.Declaration = move.To place.Declared
start_move t = root_move t

abbrev pub naming_move : Rules → List RawName → Token → Move
naming_move r st (token.NameByte x) = move.Adds x
naming_move r st t = name_move r st 0 t

-- one token
abbrev pub place_move : Rules → Place → List RawName → Token → Move
place_move r place.Start st t = start_move t
place_move r place.Declared st t = root_move t
place_move r place.Inside st t = content_move r st t
place_move r place.Naming st t = naming_move r st t
place_move r (place.InTag k) st t = name_move r st k t
place_move r (place.NamingAttribute k) st t = attribute_move k t
place_move r (place.InValue k) st t = value_move k t
place_move r (place.Closing i) st t = closing_move st i t

-- words
abbrev pub words_move : Rules → List RawName → List Token → Move
words_move r st [] = move.To place.Inside
words_move r st (token.Word c ∷ ts) = cond (stands r st c) (words_move r st ts) move.Lost
words_move r st (t ∷ ts) = move.Lost

abbrev pub many_move : Rules → Place → List RawName → List Token → Move
many_move r place.Inside st ts = words_move r st ts
many_move r p st ts = move.Lost

abbrev pub tokens_move : Rules → Place → List RawName → List Token → Move
tokens_move r p st [] = move.To p
tokens_move r p st (t ∷ []) = place_move r p st t
tokens_move r p st (t ∷ u ∷ ts) = many_move r p st (t ∷ u ∷ ts)

-- Whether no stream goes on from the lexical state after the move.

abbrev pub gap_breaks : Rules → State → Bool
gap_breaks r s = not (comes_to_space s || r.loose)

abbrev pub tag_breaks : State → List RawName → Bool
tag_breaks s st = is_none st && is_empty_mark s.stage

abbrev pub place_breaks : Rules → State → Place → List RawName → Bool
place_breaks r s place.Inside st = is_one st && gap_breaks r s
place_breaks r s place.Naming st = tag_breaks s st
place_breaks r s (place.InTag k) st = tag_breaks s st
place_breaks r s (place.Closing i) st = not (is_all (left_of st i)) && is_after_end_name s.stage
place_breaks r s p st = false

abbrev pub breaks : Rules → State → Move → List RawName → Bool
breaks r s (move.To p) st = place_breaks r s p st
breaks r s (move.Roots b) st = is_empty_mark s.stage
breaks r s (move.Begins b) st = tag_breaks s st
breaks r s (move.Adds x) st = tag_breaks s st
breaks r s move.Enters st = is_none st && gap_breaks r s
breaks r s move.Leaves st = is_one (outer st) && gap_breaks r s
breaks r s move.Lost st = true

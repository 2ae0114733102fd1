-- Where the header and the top elements end, and whether one is open, by frames.
use Rattle.std.specs.Prelude.{ℕ, List, [], ◌∷◌, Bool, true, false, ◌&&◌}
use Rattle.stream_lex.specs.declared.Token.{Token}
use Rattle.stream_lex.specs.declared.Token.TheVariants as token
use Rattle.stream_lex.specs.machine.Turns.{Outcome, leads, fails, turn}
use Rattle.stream_grammar.specs.declared.rules.Rules.{Rules}
use Rattle.stream_grammar.specs.machine.Nesting.{Nest, inside, naming, in_tag, naming_attribute, in_value, closing}
use Rattle.stream_grammar.specs.machine.Framing.{Frame, open_at, frame_next, frame_after, first_frame}

-- nothing but the stream is open
abbrev pub is_between_tops : Frame → Bool
is_between_tops (open_at st (inside (m ∷ []))) = true
is_between_tops f = false

abbrev pub tokens_told : Outcome → List Token
tokens_told (leads st ts) = ts
tokens_told (fails f) = []

abbrev pub told_at : Frame → ℕ → List Token
told_at (open_at st n) b = tokens_told (turn st b)
told_at f b = []

abbrev pub is_start_end : List Token → Bool
is_start_end (token.TagEnds false ∷ []) = true
is_start_end ts = false

abbrev pub is_element_end : List Token → Bool
is_element_end (token.CloseEnds ∷ []) = true
is_element_end (token.TagEnds true ∷ []) = true
is_element_end ts = false

-- whether the byte ends the header, and whether it ends a top element
abbrev pub is_header_end : Rules → Frame → ℕ → Bool
is_header_end r f b = is_between_tops (frame_next r f b) && is_start_end (told_at f b)

abbrev pub is_top_end : Rules → Frame → ℕ → Bool
is_top_end r f b = is_between_tops (frame_next r f b) && is_element_end (told_at f b)

-- whether a header or a top element is open, as far as its start tag has come beyond its `<`
abbrev pub in_item_nest : Nest → Bool
in_item_nest (inside (m ∷ x ∷ st)) = true
in_item_nest (naming st n) = true
in_item_nest (in_tag st n k) = true
in_item_nest (naming_attribute st n k) = true
in_item_nest (in_value st n k) = true
in_item_nest (closing (x ∷ st) m) = true
in_item_nest n = false

abbrev pub in_item : Frame → Bool
in_item (open_at st n) = in_item_nest n
in_item f = false

-- the same after the bytes
abbrev pub is_open : Rules → List ℕ → Bool
is_open r bytes = in_item (frame_after r first_frame bytes)

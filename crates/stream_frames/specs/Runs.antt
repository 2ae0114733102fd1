-- Runs: bytes that end nothing and have no fault, so that they can be read at once.
use Rattle.std.specs.Prelude.{◌≡◌, ◌<◌, ◌≤◌, ℕ, ◌+◌, ◌^◌, List, [], ◌∷◌, ◌++◌, length, Bool, true, false, not, ◌==◌}
use Rattle.std.specs.Prelude.{◌&&◌, ◌||◌, nat_lt, nat_le, Option, Some, None, if◌then◌else◌, encode_utf8_all}
use Rattle.stream_grammar.specs.declared.item.Limits.{Limits}
use Rattle.stream_grammar.specs.machine.Building.{Building, Opened}
use Rattle.stream_grammar.specs.machine.Framing.{Frame, open_at}
use Rattle.stream_grammar.specs.machine.Nesting.{inside, in_value, naming, naming_attribute, closing}
use Rattle.stream_grammar.specs.machine.Texts.{HasTexts}
use Rattle.stream_grammar.specs.machine.Reading.{Reading, reads, reading_after, taken_reading, is_done}
use Rattle.stream_grammar.specs.grammar.Bounds.{told_number}
use Rattle.stream_lex.specs.grammar.Classes.{has_between, characters}
use Rattle.stream_lex.specs.machine.Characters.{is_nothing}
use Rattle.stream_lex.specs.declared.stages.Context.TheVariants.{Words, Value}
use Rattle.stream_lex.specs.declared.stages.NameOwner.TheVariants.{StartTag, EndTag, Attribute}
use Rattle.stream_lex.specs.declared.stages.Quote.{Quote}
use Rattle.stream_lex.specs.declared.stages.Quote.TheVariants.{Double, Single}
use Rattle.stream_lex.specs.declared.stages.Stage.{Stage}
use Rattle.stream_lex.specs.declared.stages.Stage.TheVariants as stage
use Rattle.stream_lex.specs.declared.stages.State.{State}

-- The bytes of a run.

-- XML 1.0, 2.4: a character of words below 128 that is no markup and no line end; a right bracket may begin the end of a section
abbrev pub is_plain_word : ℕ → Bool
is_plain_word b = (nat_le 32 b && nat_lt b 128) && (not (b == 38) && (not (b == 60) && not (b == 93)))

-- XML 1.0, 2.3 and 3.3.3: a character of a value in these quotes below 128 that is no markup, and no white space but a space
abbrev pub is_plain_value : Quote → ℕ → Bool
is_plain_value Double b = (nat_le 32 b && nat_lt b 128) && (not (b == 38) && (not (b == 60) && not (b == 34)))
is_plain_value Single b = (nat_le 32 b && nat_lt b 128) && (not (b == 38) && (not (b == 60) && not (b == 39)))

-- Namespaces in XML 1.0, 3: a further character of a name below 128, but for the colon
abbrev pub is_name_byte : ℕ → Bool
is_name_byte b = ((nat_le 97 b && nat_le b 122) || (nat_le 65 b && nat_le b 90)) || ((nat_le 48 b && nat_le b 57) || ((b == 45) || ((b == 46) || (b == 95))))

abbrev pub are_plain : (ℕ → Bool) → List ℕ → Bool
are_plain ok [] = true
are_plain ok (b ∷ bs) = ok b && are_plain ok bs

-- XML 1.0 [2]: a character from 128 on that words and values may have
abbrev pub is_wide : ℕ → Bool
is_wide c = has_between characters c c

-- a plain character of words, and one of a value in these quotes
abbrev pub is_word_character : ℕ → Bool
is_word_character c = is_plain_word c || is_wide c

abbrev pub is_value_character : Quote → ℕ → Bool
is_value_character q c = is_plain_value q c || is_wide c

-- bytes are whole characters of a kind in UTF-8 (RFC 3629, 3)
pub record Spells (ok : ℕ → Bool) (xs : List ℕ) : Type 0 where
  pub text : List ℕ
  pub plain : are_plain ok text ≡ true
  pub bytes : encode_utf8_all text ≡ xs

-- Where a run may stand.

abbrev pub is_between_characters : State → Bool
is_between_characters st = is_nothing st.pending && not st.returned

abbrev pub is_words_stage : Stage → Bool
is_words_stage (stage.Text Words) = true
is_words_stage s = false

abbrev pub value_quote : Stage → Option Quote
value_quote (stage.Text (Value q)) = Some q
value_quote s = None

abbrev pub is_attribute_stage : Stage → Bool
is_attribute_stage (stage.Name Attribute h) = true
is_attribute_stage s = false

abbrev pub is_start_stage : Stage → Bool
is_start_stage (stage.Name StartTag h) = true
is_start_stage s = false

abbrev pub is_end_stage : Stage → Bool
is_end_stage (stage.Name EndTag h) = true
is_end_stage s = false

-- in words of an element that stands in the stream's
abbrev pub is_in_words : Frame → Bool
is_in_words (open_at st (inside (m ∷ x ∷ ms))) = is_words_stage st.stage && is_between_characters st
is_in_words f = false

-- the quotes of the value that is being read
abbrev pub open_quote : Frame → Option Quote
open_quote (open_at st (in_value ms m i)) = if is_between_characters st then value_quote st.stage else None
open_quote f = None

abbrev pub is_in_attribute_name : Frame → Bool
is_in_attribute_name (open_at st (naming_attribute ms m i)) = is_attribute_stage st.stage && is_between_characters st
is_in_attribute_name f = false

abbrev pub is_in_start_name : Frame → Bool
is_in_start_name (open_at st (naming ms m)) = is_start_stage st.stage && is_between_characters st
is_in_start_name f = false

-- in the name of an end tag, but for the stream's
abbrev pub is_in_end_name : Frame → Bool
is_in_end_name (open_at st (closing (x ∷ ms) m)) = is_end_stage st.stage && is_between_characters st
is_in_end_name f = false

abbrev pub has_opened : List Opened → Bool
has_opened [] = false
has_opened (x ∷ xs) = true

-- What a run does to the place.

-- these bytes more of a start tag's name have come
abbrev pub named_on : Frame → List ℕ → Frame
named_on (open_at st (naming ms m)) xs = open_at st (naming ms (m.0, m.1 ++ xs))
named_on f xs = f

-- what is to come of an end tag's name
abbrev pub closing_left : Frame → List ℕ
closing_left (open_at st (closing ms m)) = m
closing_left f = []

-- this is to come of it
abbrev pub closing_on : Frame → List ℕ → Frame
closing_on (open_at st (closing ms m)) left = open_at st (closing ms left)
closing_on f left = f

-- Bytes lead from a reading to another and end nothing, so that of a piece that begins with them all are taken.
pub record IsRun (l : Limits) (s : Reading) (xs ys : List ℕ) (t : Reading) : Type 0 where
  pub read : reading_after l s xs ≡ t
  pub going : is_done t ≡ false
  pub rest : taken_reading l s (xs ++ ys) ≡ length xs + taken_reading l t ys

-- Bytes lead from a place and what is made to others, and are a run wherever an item may still have so many. What was gathered of names
-- stays UTF-8.
pub record Leads (f : Frame) (b : Building) (xs : List ℕ) (g : Frame) (c : Building) : Type 0 where
  pub run : (l : Limits) (n k : ℕ) (ys : List ℕ) → is_done (reads f b n k) ≡ false → k < 2 ^ 64 → n + length xs ≤ l.bytes
      → IsRun l (reads f b n k) xs ys (reads g c (n + length xs) (told_number (k + length xs)))
  pub texts : HasTexts f b.tag → HasTexts g c.tag

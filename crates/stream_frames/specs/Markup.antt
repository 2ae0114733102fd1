-- Markup that ends no tag: bytes below 128 of which each is read by its stage and place alone.
use Rattle.std.specs.Prelude.{◌≡◌, ◌<◌, ◌≤◌, ℕ, ◌+◌, ◌^◌, List, [], ◌∷◌, length, Bool, true, false, not, ◌==◌}
use Rattle.std.specs.Prelude.{◌&&◌, ◌||◌, nat_lt, nat_le, Option, Some, None, if◌then◌else◌}
use Rattle.std.specs.Option.{is_some}
use Rattle.stream_grammar.specs.declared.item.Limits.{Limits}
use Rattle.stream_grammar.specs.declared.rules.Rules.{Rules}
use Rattle.stream_grammar.specs.machine.Building.{Building, Opened}
use Rattle.stream_grammar.specs.machine.Framing.{Frame, open_at, is_empty_mark}
use Rattle.stream_grammar.specs.machine.Nesting.{Nest, inside, naming, in_tag, naming_attribute, in_value, closing}
use Rattle.stream_grammar.specs.machine.Reading.{reads, is_done}
use Rattle.stream_grammar.specs.grammar.Bounds.{told_number, rules_of}
use Rattle.stream_lex.specs.declared.characters.Pending.TheVariants as pending
use Rattle.stream_lex.specs.declared.stages.Context.TheVariants.{Words, Value}
use Rattle.stream_lex.specs.declared.stages.Half.TheVariants.{Prefix}
use Rattle.stream_lex.specs.declared.stages.NameOwner.TheVariants.{StartTag, EndTag, Attribute}
use Rattle.stream_lex.specs.declared.stages.Quote.{Quote}
use Rattle.stream_lex.specs.declared.stages.Quote.TheVariants.{Double, Single}
use Rattle.stream_lex.specs.declared.stages.Stage.{Stage}
use Rattle.stream_lex.specs.declared.stages.Stage.TheVariants as stage
use Rattle.stream_lex.specs.machine.Turns.{at}
use Rattle.stream_frames.specs.Moves.{is_none, is_one}
use Rattle.stream_frames.specs.Stacks.{outer, left_of, begins_so, is_all}
use Rattle.stream_grammar.specs.machine.Texts.{HasTexts}
use Rattle.stream_frames.specs.Runs.{is_between_characters, is_words_stage, is_end_stage, has_opened, IsRun}

-- As `Leads`, under rules on depth and attributes.
pub record LeadsBy (r : Rules) (f : Frame) (b : Building) (xs : List ℕ) (g : Frame) (c : Building) : Type 0 where
  pub run : (l : Limits) (n k : ℕ) (ys : List ℕ) → rules_of l ≡ r → is_done (reads f b n k) ≡ false → k < 2 ^ 64 → n + length xs ≤ l.bytes
      → IsRun l (reads f b n k) xs ys (reads g c (n + length xs) (told_number (k + length xs)))
  pub texts : r.loose ≡ false → HasTexts f b.tag → HasTexts g c.tag

-- Bytes that tell nothing.

abbrev pub only_at : ℕ → Stage → ℕ → Option Stage
only_at k s b = if b == k then Some s else None

-- a space, or the slash of an empty-element tag
abbrev pub after_part : ℕ → Option Stage
after_part b = if b == 32 then Some stage.InTag else if b == 47 then Some stage.EmptyTagMark else None

-- the stage after a byte that tells nothing
abbrev pub silent_stage : Stage → ℕ → Option Stage
silent_stage (stage.Text Words) b = only_at 60 stage.Less b
silent_stage stage.Less b = only_at 47 stage.EndTagMark b
silent_stage (stage.Name StartTag h) b = after_part b
silent_stage (stage.Name Attribute h) b = only_at 61 stage.ValueAwaited b
silent_stage stage.ValueEnded b = after_part b
silent_stage stage.InTag b = only_at 47 stage.EmptyTagMark b
silent_stage s b = None

-- in an element of the stream's, between tags or in a tag
abbrev pub may_be_silent : Nest → Bool
may_be_silent (inside ms) = nat_lt 1 (length ms)
may_be_silent (naming ms m) = not (is_none ms)
may_be_silent (in_tag ms m i) = not (is_none ms)
may_be_silent (naming_attribute ms m i) = true
may_be_silent n = false

abbrev pub is_silent : Frame → ℕ → Bool
is_silent (open_at st n) b = (may_be_silent n && is_between_characters st) && is_some (silent_stage st.stage b)
is_silent f b = false

abbrev pub stage_or : Stage → Option Stage → Stage
stage_or s None = s
stage_or s (Some t) = t

abbrev pub silenced : Frame → ℕ → Frame
silenced (open_at st n) b = open_at (at (stage_or st.stage (silent_stage st.stage b)) pending.Nothing false) n
silenced f b = f

-- the `<` of a tag between top elements
abbrev pub begins_item : Frame → ℕ → Bool
begins_item (open_at st (inside ms)) b = is_one ms && ((b == 60) && (is_words_stage st.stage && is_between_characters st))
begins_item f b = false

abbrev pub now_begun : Frame → Frame
now_begun (open_at st (inside ms)) = open_at (at stage.Less pending.Nothing false) (inside ms)
now_begun f = f

-- Bytes that tell a token.

-- Namespaces in XML 1.0, 3: a first character of a name below 128
abbrev pub is_name_head : ℕ → Bool
is_name_head b = (nat_le 97 b && nat_le b 122) || ((nat_le 65 b && nat_le b 90) || (b == 95))

abbrev pub is_less : Stage → Bool
is_less stage.Less = true
is_less s = false

abbrev pub is_end_mark : Stage → Bool
is_end_mark stage.EndTagMark = true
is_end_mark s = false

abbrev pub is_in_tag : Stage → Bool
is_in_tag stage.InTag = true
is_in_tag s = false

abbrev pub is_value_awaited : Stage → Bool
is_value_awaited stage.ValueAwaited = true
is_value_awaited s = false

abbrev pub quote_byte : Quote → ℕ
quote_byte Double = 34
quote_byte Single = 39

abbrev pub quote_of : ℕ → Option Quote
quote_of b = if b == 39 then Some Single else if b == 34 then Some Double else None

-- the first byte of the name of an end tag, but for the stream's
abbrev pub closes_by : Frame → ℕ → Bool
closes_by (open_at st (inside ms)) b = (is_end_mark st.stage && is_between_characters st) && (nat_lt 1 (length ms) && (begins_so ms b && is_name_head b))
closes_by f b = false

abbrev pub now_closing : Frame → Frame
now_closing (open_at st (inside ms)) = open_at (at (stage.Name EndTag Prefix) pending.Nothing false) (closing (outer ms) (left_of ms 0))
now_closing f = f

-- the quote before a value
abbrev pub awaits_value : Frame → Bool
awaits_value (open_at st (naming_attribute ms m i)) = is_value_awaited st.stage && is_between_characters st
awaits_value f = false

abbrev pub now_in_value : Frame → Quote → Frame
now_in_value (open_at st (naming_attribute ms m i)) q = open_at (at (stage.Text (Value q)) pending.Nothing false) (in_value ms m i)
now_in_value f q = f

-- the quote after it
abbrev pub now_in_tag : Frame → Frame
now_in_tag (open_at st (in_value ms m i)) = open_at (at stage.ValueEnded pending.Nothing false) (in_tag ms m i)
now_in_tag f = f

-- the first byte of the name of a start tag, but for the stream's
abbrev pub begins_by : Rules → Frame → ℕ → Bool
begins_by r (open_at st (inside ms)) b = (is_less st.stage && is_between_characters st) && ((not (is_none ms) && nat_le (length ms) r.depth) && is_name_head b)
begins_by r f b = false

abbrev pub now_naming : Frame → ℕ → Frame
now_naming (open_at st (inside ms)) b = open_at (at (stage.Name StartTag Prefix) pending.Nothing false) (naming ms (b, []))
now_naming f b = f

-- the first byte of the name of an attribute
abbrev pub attributed_by : Rules → Frame → ℕ → Bool
attributed_by r (open_at st (naming ms m)) b = (is_in_tag st.stage && is_between_characters st) && (nat_lt 0 r.attributes && is_name_head b)
attributed_by r (open_at st (in_tag ms m i)) b = (is_in_tag st.stage && is_between_characters st) && (nat_lt i r.attributes && is_name_head b)
attributed_by r f b = false

abbrev pub now_attributed : Frame → Frame
now_attributed (open_at st (naming ms m)) = open_at (at (stage.Name Attribute Prefix) pending.Nothing false) (naming_attribute ms m 1)
now_attributed (open_at st (in_tag ms m i)) = open_at (at (stage.Name Attribute Prefix) pending.Nothing false) (naming_attribute ms m (i + 1))
now_attributed f = f

-- Bytes that end a tag in an item that goes on.

-- an element is open in one of the stream's
abbrev pub has_parent : List Opened → Bool
has_parent [] = false
has_parent (x ∷ xs) = has_opened xs

-- a start tag ends at a `>` from here
abbrev pub ends_start : Stage → Bool
ends_start (stage.Name StartTag h) = true
ends_start stage.InTag = true
ends_start stage.ValueEnded = true
ends_start s = false

-- the end of a start tag, but for the stream's
abbrev pub enters_by : Frame → ℕ → Bool
enters_by (open_at st (naming ms m)) b = (ends_start st.stage && is_between_characters st) && (not (is_none ms) && (b == 62))
enters_by (open_at st (in_tag ms m i)) b = (ends_start st.stage && is_between_characters st) && (not (is_none ms) && (b == 62))
enters_by f b = false

abbrev pub now_entered : Frame → Frame
now_entered (open_at st (naming ms m)) = open_at (at (stage.Text Words) pending.Nothing false) (inside (m ∷ ms))
now_entered (open_at st (in_tag ms m i)) = open_at (at (stage.Text Words) pending.Nothing false) (inside (m ∷ ms))
now_entered f = f

-- the end of an empty-element tag in an element of the stream's
abbrev pub hollows_by : Frame → ℕ → Bool
hollows_by (open_at st (naming ms m)) b = (is_empty_mark st.stage && is_between_characters st) && (nat_lt 1 (length ms) && (b == 62))
hollows_by (open_at st (in_tag ms m i)) b = (is_empty_mark st.stage && is_between_characters st) && (nat_lt 1 (length ms) && (b == 62))
hollows_by f b = false

abbrev pub now_hollow : Frame → Frame
now_hollow (open_at st (naming ms m)) = open_at (at (stage.Text Words) pending.Nothing false) (inside ms)
now_hollow (open_at st (in_tag ms m i)) = open_at (at (stage.Text Words) pending.Nothing false) (inside ms)
now_hollow f = f

-- the end of an end tag in an element of the stream's
abbrev pub leaves_by : Frame → ℕ → Bool
leaves_by (open_at st (closing ms left)) b = (is_end_stage st.stage && is_between_characters st) && (nat_lt 1 (length ms) && (is_all left && (b == 62)))
leaves_by f b = false

abbrev pub now_left : Frame → Frame
now_left (open_at st (closing ms left)) = open_at (at (stage.Text Words) pending.Nothing false) (inside ms)
now_left f = f

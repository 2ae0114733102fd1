-- How a stream is read, byte by byte: its syntax, the elements that are made of it, and the limits on bytes.
use Rattle.std.specs.Prelude.{ℕ, ◌+◌, List, [], ◌∷◌, length, Bool, true, false, not, ◌&&◌, ◌||◌, nat_le, Option, Some, None, if◌then◌else◌}
use Rattle.stream_grammar.specs.declared.FrameFault.{FrameFault}
use Rattle.stream_grammar.specs.declared.FrameFault.TheVariants as fault
use Rattle.stream_grammar.specs.declared.item.Item.{Item}
use Rattle.stream_grammar.specs.declared.item.Item.TheVariants as item
use Rattle.stream_grammar.specs.declared.item.Limits.{Limits}
use Rattle.stream_grammar.specs.machine.Framing.{Frame, frame_next, first_frame}
use Rattle.stream_grammar.specs.machine.Ends.{told_at, in_item}
use Rattle.stream_grammar.specs.machine.Telling.{fault_told}
use Rattle.stream_grammar.specs.machine.Building.{Building, nothing_built, build_all, told_judged}
use Rattle.stream_grammar.specs.grammar.Bounds.{told_number, rules_of, is_large_item}

-- Where the reading of a stream stands: the place in its syntax, what is made of it, how many bytes of a header or of a top
-- element have come, with the byte that may begin one, and how many bytes in all; or the fault, and the number of its byte.
pub data Reading : Type 0 where
  reads : Frame → Building → ℕ → ℕ → Reading
  stopped : FrameFault → ℕ → Reading

abbrev pub first_reading : Reading
first_reading = reads first_frame nothing_built 0 0

-- The limits on bytes.

-- a header or a top element is open before the byte or after it, and the byte is past its limit
abbrev pub is_past : Limits → Frame → Frame → ℕ → Bool
is_past l before after n = (in_item before || in_item after) && nat_le l.bytes n

-- how many bytes have come of what is open, or of what the next byte may open
abbrev pub extent_after : Frame → ℕ → ℕ
extent_after f n = if in_item f then n + 1 else 1

-- The faults of a byte, in their order.

abbrev pub or_else : {X : Type 0} → Option X → Option X → Option X
or_else (Some x) later = Some x
or_else None later = later

abbrev pub fault_if : Bool → FrameFault → Option FrameFault
fault_if true f = Some f
fault_if false f = None

abbrev pub byte_judged : Limits → Frame → Building → ℕ → ℕ → Option FrameFault
byte_judged l f b n byte =
    or_else (fault_if (is_past l f (frame_next (rules_of l) f byte) n) fault.TooLong)
    (or_else (fault_told (rules_of l) f byte)
    (or_else (told_judged b (told_at f byte))
    (fault_if (is_large_item l (build_all b (told_at f byte)).item) fault.TooLong)))

-- What a byte does.

abbrev pub concluded : Option FrameFault → Reading → ℕ → Reading
concluded None next k = next
concluded (Some f) next k = stopped f k

abbrev pub reading_next : Limits → Reading → ℕ → Reading
reading_next l (stopped f k) byte = stopped f k
reading_next l (reads f b n k) byte =
    concluded (byte_judged l f b n byte)
    (reads (frame_next (rules_of l) f byte) (build_all b (told_at f byte)) (extent_after (frame_next (rules_of l) f byte) n) (told_number (k + 1)))
    (told_number (k + 1))

abbrev pub reading_after : Limits → Reading → List ℕ → Reading
reading_after l s [] = s
reading_after l s (b ∷ bs) = reading_after l (reading_next l s b) bs

-- What is handed out.

abbrev pub waiting : Reading → Option Item
waiting (reads f b n k) = b.item
waiting (stopped f k) = Some (item.Broken f k)

abbrev pub handed : Reading → Reading
handed (reads f b n k) = reads f (record b { item = None }) n k
handed (stopped f k) = stopped f k

abbrev pub is_none : Option Item → Bool
is_none None = true
is_none (Some i) = false

-- no item but a fault waits
abbrev pub is_ready : Reading → Bool
is_ready (reads f b n k) = is_none b.item
is_ready (stopped f k) = true

-- How many bytes are taken: up to the first that ends an item or has the fault, and else all.

abbrev pub is_stopped : Reading → Bool
is_stopped (reads f b n k) = false
is_stopped (stopped f k) = true

abbrev pub is_done : Reading → Bool
is_done s = is_stopped s || not (is_ready s)

abbrev pub taken_reading : Limits → Reading → List ℕ → ℕ
taken_reading l s [] = 0
taken_reading l s (b ∷ bs) = if is_done (reading_next l s b) then 1 else 1 + taken_reading l (reading_next l s b) bs

abbrev pub taken : Limits → Reading → List ℕ → ℕ
taken l (stopped f k) bytes = length bytes
taken l (reads f b n k) bytes = taken_reading l (reads f b n k) bytes

-- A stream that is read while each item is handed out before the next byte.
abbrev pub went : Limits → Reading → List ℕ → Reading
went l s [] = s
went l s (b ∷ bs) = went l (reading_next l (handed s) b) bs

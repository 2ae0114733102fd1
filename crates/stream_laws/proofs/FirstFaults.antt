-- The fault at which a reading stops, in the words of the grammar.
use Rattle.std.proofs.Common.{◌≡◌, ℕ, ◌+◌, inl, inr, List, [], ◌∷◌, ◌++◌, length, refl, sym, ◌∙◌, Bool, true, false}
use Rattle.stream_lex.proofs.Lists.{false-true}
use Rattle.stream_grammar.specs.declared.FrameFault.{FrameFault}
use Rattle.stream_grammar.specs.declared.item.Limits.{Limits}
use Rattle.stream_grammar.specs.machine.Framing.{Frame, frame_next, frame_after, first_frame}
use Rattle.stream_grammar.specs.machine.Building.{nothing_built}
use Rattle.stream_grammar.specs.machine.Reading.{Reading, reads, stopped, first_reading, is_stopped, went, is_past}
use Rattle.stream_grammar.specs.grammar.Bounds.{rules_of, told_number}
use Rattle.stream_grammar.specs.grammar.Parts.{IsByteFault}
use Rattle.stream_laws.proofs.Handing.{HasRead, went-read}
use Rattle.stream_laws.proofs.Faulting.{IsFaultAt, IsFaultIn, fault-waits, none-waits}
use Rattle.stream_laws.proofs.Exact.{fault-stops}
use Rattle.stream_laws.proofs.Extents.{extent, HasExtent, went-extent}
use Rattle.stream_laws.proofs.OpenGrammar.{past-limit, limit-past}

abbrev Counts : Limits → List ℕ → Frame → ℕ → Type 0
Counts l bytes f n = (f ≡ frame_after (rules_of l) first_frame bytes) × (n ≡ extent (rules_of l) first_frame 0 bytes)

not-both : (t : Bool) → t ≡ true → t ≡ false → ⊥
not-both t e f = false-true (sym f ∙ e)

at-byte : (l : Limits) (f : Frame) (n : ℕ) (bytes : List ℕ) (byte : ℕ) (g : FrameFault) → Counts l bytes f n → IsFaultAt l f n bytes byte g
    → IsByteFault l bytes byte g
at-byte l f n bytes byte g (e, h) (inl (past, is)) = inl (past-limit l bytes byte n f e h past, is)
at-byte l f n bytes byte g (e, h) (inr (past, more)) = inr ((λ k. not-both _ (limit-past l bytes byte n f e h k) past), more)

from-byte : (l : Limits) (f : Frame) (n : ℕ) (bytes : List ℕ) (byte : ℕ) (g : FrameFault) → Counts l bytes f n → IsByteFault l bytes byte g
    → IsFaultAt l f n bytes byte g
from-byte l f n bytes byte g (e, h) (inl (past, is)) = inl (limit-past l bytes byte n f e h past, is)
from-byte l f n bytes byte g (e, h) (inr (never, more)) = inr (by (is_past l f (frame_next (rules_of l) f byte) n) refl, more)
  where
    by : (t : Bool) → is_past l f (frame_next (rules_of l) f byte) n ≡ t → t ≡ false
    by true k = absurd (never (past-limit l bytes byte n f e h k))
    by false k = refl

reading-byte : (l : Limits) (bytes : List ℕ) (byte : ℕ) (s : Reading) (g : FrameFault) → HasRead (rules_of l) first_frame nothing_built bytes s
    → HasExtent (rules_of l) first_frame 0 bytes s → IsFaultIn l s bytes byte g → (is_stopped s ≡ false) × IsByteFault l bytes byte g
reading-byte l bytes byte (stopped f k) g h n e = absurd e
reading-byte l bytes byte (reads f b m k) g (p, q) n e = (refl, at-byte l f m bytes byte g (p, n) e)

byte-reading : (l : Limits) (bytes : List ℕ) (byte : ℕ) (s : Reading) (g : FrameFault) → HasRead (rules_of l) first_frame nothing_built bytes s
    → HasExtent (rules_of l) first_frame 0 bytes s → is_stopped s ≡ false → IsByteFault l bytes byte g → IsFaultIn l s bytes byte g
byte-reading l bytes byte (stopped f k) g h n o e = false-true (sym o)
byte-reading l bytes byte (reads f b m k) g (p, q) n o e = from-byte l f m bytes byte g (p, n) e

-- the reading of these has not stopped, and the byte after them has this fault
abbrev pub IsNextFault : Limits → List ℕ → ℕ → FrameFault → Type 0
IsNextFault l bytes byte g = (is_stopped (went l first_reading bytes) ≡ false) × IsByteFault l bytes byte g

told-first : (l : Limits) (bytes : List ℕ) (byte : ℕ) (g : FrameFault) → IsFaultIn l (went l first_reading bytes) bytes byte g → IsNextFault l bytes byte g
told-first l bytes byte g e = reading-byte l bytes byte (went l first_reading bytes) g (went-read bytes l first_frame nothing_built 0 0)
    (went-extent bytes l first_frame nothing_built 0 0) e

first-told : (l : Limits) (bytes : List ℕ) (byte : ℕ) (g : FrameFault) → IsNextFault l bytes byte g → IsFaultIn l (went l first_reading bytes) bytes byte g
first-told l bytes byte g (o, e) = byte-reading l bytes byte (went l first_reading bytes) g (went-read bytes l first_frame nothing_built 0 0)
    (went-extent bytes l first_frame nothing_built 0 0) o e

pub fault_waits : (l : Limits) (bytes : List ℕ) (byte : ℕ) (g : FrameFault) (k : ℕ) → is_stopped (went l first_reading bytes) ≡ false
    → went l first_reading (bytes ++ byte ∷ []) ≡ stopped g k
    → IsNextFault l bytes byte g × (k ≡ told_number (length bytes + 1))
fault_waits l bytes byte g k o e = let (is, number) = fault-waits l bytes byte g k o e in (told-first l bytes byte g is, number)

pub fault_stops : (l : Limits) (bytes : List ℕ) (byte : ℕ) (g : FrameFault) → IsNextFault l bytes byte g
    → went l first_reading (bytes ++ byte ∷ []) ≡ stopped g (told_number (length bytes + 1))
fault_stops l bytes byte g e = fault-stops l bytes byte g (first-told l bytes byte g e)

pub none_waits : (l : Limits) (bytes : List ℕ) (byte : ℕ) (g : FrameFault) → is_stopped (went l first_reading (bytes ++ byte ∷ [])) ≡ false
    → IsNextFault l bytes byte g → ⊥
none_waits l bytes byte g o e = none-waits l bytes byte g o (first-told l bytes byte g e)

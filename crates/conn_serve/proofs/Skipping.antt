-- What is left of what was read, when some of it was heard.
use Rattle.std.proofs.Common.{◌≡◌, ℕ, ◌≤◌, ◌+◌, ◌-◌, List, [], ◌∷◌, Bool, true, false, suc, length, take, drop, refl, subst, arith, drop-drop}
use Rattle.std.specs.Prelude.{if◌then◌else◌}
use Rattle.stream_grammar.specs.machine.Reading.{Reading, is_done, reading_next, reads, stopped, taken, taken_reading}
use Rattle.stream_grammar.specs.declared.item.Limits.{Limits}
use Rattle.conn_flow.specs.Flows.{State, taken_of}
use Rattle.std.proofs.lemmas.List.{drop-take}
use Rattle.std.proofs.lemmas.Grind.{common_steps}

skipped : (buffer : List ℕ) (from to n : ℕ) → from ≤ to → n ≤ length (take (to - from) (drop from buffer))
    → take (to - (from + n)) (drop (from + n) buffer) ≡ drop n (take (to - from) (drop from buffer))
skipped buffer from to n le h =
    let bound : n ≤ to - from = grind (arith, common_steps) in
    let split : to - from ≡ n + (to - (from + n)) = omega arith in
    let more : drop n (drop from buffer) ≡ drop (from + n) buffer = drop-drop n from buffer in
    rw (split, drop-take, more) refl

pub skip_ahead : (buffer : List ℕ) (from to n : ℕ) (old : List ℕ)
    → from ≤ to → take (to - from) (drop from buffer) ≡ old → n ≤ length old
    → take (to - (from + n)) (drop (from + n) buffer) ≡ drop n old
skip_ahead buffer from to n old le e h =
    subst (λ (o : List ℕ). n ≤ length o → take (to - (from + n)) (drop (from + n) buffer) ≡ drop n o) e
    (skipped buffer from to n le) h

-- no more is taken than there is

least : (done : Bool) (n most : ℕ) → n ≤ most → (if done then 1 else 1 + n) ≤ suc most
least true n most h = omega arith
least false n most h = omega (arith, h)

taken_least : (l : Limits) (r : Reading) (bytes : List ℕ) → taken_reading l r bytes ≤ length bytes
taken_least l r [] = omega arith
taken_least l r (b ∷ bytes) = least (is_done (reading_next l r b)) (taken_reading l (reading_next l r b) bytes) (length bytes)
    (taken_least l (reading_next l r b) bytes)

taken_most : (l : Limits) (r : Reading) (bytes : List ℕ) → taken l r bytes ≤ length bytes
taken_most l (stopped f k) bytes = omega arith
taken_most l (reads f b n k) bytes = taken_least l (reads f b n k) bytes

pub taken_fits : (s : State) (bytes all : List ℕ) {n : ℕ} → n ≡ taken_of s bytes → bytes ≡ all → n ≤ length all
taken_fits s bytes all is same = rw (is, ← same) (taken_most s.fed.limits s.fed.reading bytes)

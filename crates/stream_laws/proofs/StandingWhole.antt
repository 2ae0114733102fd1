-- A reading that is not stopped has no fault of the syntax, and tells the number of its bytes.
use Rattle.std.proofs.Common.{◌≡◌, ℕ, suc, ◌+◌, ◌-◌, ◌^◌, ◌≤◌, List, [], ◌∷◌, ◌++◌, length, refl, sym, ap, ◌∙◌, subst, Bool, true, false, cond, arith}
use Rattle.std.specs.Prelude.{Option, Some, None}
use Rattle.stream_grammar.specs.declared.FrameFault.{FrameFault}
use Rattle.stream_grammar.specs.declared.item.Limits.{Limits}
use Rattle.stream_grammar.specs.declared.rules.Rules.{Rules}
use Rattle.stream_grammar.specs.machine.Framing.{Frame, open_at, ended, broken, frame_next, frame_after, is_broken, fault_at}
use Rattle.stream_grammar.specs.machine.Ends.{told_at}
use Rattle.stream_grammar.specs.machine.Telling.{fault_told}
use Rattle.stream_grammar.specs.machine.Building.{build_all}
use Rattle.stream_grammar.specs.machine.Reading.{Reading, reads, stopped, first_reading, reading_next, concluded}
use Rattle.stream_grammar.specs.machine.Reading.{byte_judged, or_else, handed, went, extent_after}
use Rattle.stream_grammar.specs.grammar.Bounds.{rules_of, told_number}
use Rattle.stream_laws.proofs.Handing.{clear}

pub none-some : {X : Type 0} (x : X) → None ≡ Some x → ⊥
none-some x e = cc

-- What is read has no fault of the syntax so far, and its number is told.

abbrev pub IsWhole : Reading → ℕ → Type 0
IsWhole (stopped f k) n = k ≤ 2 ^ 64 - 1
IsWhole (reads f b m k) n = (is_broken f ≡ false) × (k ≡ told_number n)

pub or-none : {X : Type 0} (a b : Option X) → or_else a b ≡ None → (a ≡ None) × (b ≡ None)
or-none {X = X} None b e = (refl, e)
or-none {X = X} (Some y) b e = absurd (none-some y (sym e))

cond-none : {X : Type 0} (t : Bool) (x : X) → cond t (Some x) None ≡ None → t ≡ false
cond-none true x e = absurd (none-some x (sym e))
cond-none false x e = refl

pub told-fault : (r : Rules) (f : Frame) (byte : ℕ) → is_broken f ≡ false
    → fault_told r f byte ≡ cond (is_broken (frame_next r f byte)) (Some (fault_at r f byte)) None
told-fault r (open_at st n) byte h = refl
told-fault r ended byte h = refl
told-fault r broken byte h = absurd (let bad : true ≡ false = h in cc)

pub next-whole : (r : Rules) (f : Frame) (byte : ℕ) → is_broken f ≡ false → fault_told r f byte ≡ None → is_broken (frame_next r f byte) ≡ false
next-whole r f byte h e = cond-none (is_broken (frame_next r f byte)) (fault_at r f byte) (sym (told-fault r f byte h) ∙ e)

pub number-next : (n : ℕ) → told_number (told_number n + 1) ≡ told_number (n + 1)
number-next n = omega arith

one-step : (l : Limits) (s : Reading) (n byte : ℕ) → IsWhole s n → IsWhole (reading_next l (handed s) byte) (n + 1)
one-step l (stopped f k) n byte h = h
one-step l (reads f b m k) n byte (h, e) = by (byte_judged l f (clear b) m byte) refl
  where
    number : told_number (k + 1) ≡ told_number (n + 1)
    number = ap (λ (i : ℕ). told_number (i + 1)) e ∙ number-next n

    by : (o : Option FrameFault) → byte_judged l f (clear b) m byte ≡ o
        → IsWhole (concluded o (reads (frame_next (rules_of l) f byte) (build_all (clear b) (told_at f byte)) (extent_after (frame_next (rules_of l) f byte) m)
        (told_number (k + 1))) (told_number (k + 1))) (n + 1)
    by None j = let (past, later) = or-none _ _ j in let (told, more) = or-none _ _ later in (next-whole (rules_of l) f byte h told, number)
    by (Some g) j = (let e1 : told_number (k + 1) ≤ 2 ^ 64 - 1 = omega arith in e1)

all-steps : (bytes : List ℕ) (l : Limits) (s : Reading) (n : ℕ) → IsWhole s n → IsWhole (went l s bytes) (n + length bytes)
all-steps [] l s n h = subst (IsWhole s) (let e : n ≡ n + 0 = omega arith in e) h
all-steps (b ∷ bs) l s n h = subst (IsWhole (went l s (b ∷ bs))) (let e : (n + 1) + length bs ≡ n + suc (length bs) = omega arith in e)
    (all-steps bs l (reading_next l (handed s) b) (n + 1) (one-step l s n b h))

pub whole : (l : Limits) (bytes : List ℕ) → IsWhole (went l first_reading bytes) (length bytes)
whole l bytes = subst (IsWhole (went l first_reading bytes)) (let e : 0 + length bytes ≡ length bytes = omega arith in e)
    (all-steps bytes l first_reading 0 (refl, refl))

pub frames-more : (r : Rules) (x : Frame) (xs ys : List ℕ) → frame_after r x (xs ++ ys) ≡ frame_after r (frame_after r x xs) ys
frames-more r x [] ys = refl
frames-more r x (y ∷ xs) ys = frames-more r (frame_next r x y) xs ys

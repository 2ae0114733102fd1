-- A reading has stopped exactly where some byte had a fault.
use Rattle.std.proofs.Common.{◌≡◌, ℕ, ◌+◌, List, [], ◌∷◌, ◌++◌, length, refl, sym, ap, ◌∙◌, subst, append_assoc, append-nil, false}
use Rattle.stream_lex.proofs.Lists.{false-true}
use Rattle.stream_grammar.specs.declared.FrameFault.{FrameFault}
use Rattle.stream_grammar.specs.declared.item.Limits.{Limits}
use Rattle.stream_grammar.specs.machine.Reading.{Reading, reads, stopped, first_reading, is_stopped, went}
use Rattle.stream_grammar.specs.grammar.Bounds.{told_number}
use Rattle.stream_grammar.specs.grammar.Parts.{AreFaultless, IsFirstFault}
use Rattle.stream_laws.proofs.Handing.{stopped-went, went-more}
use Rattle.stream_laws.proofs.FirstFaults.{fault_waits, fault_stops, none_waits}

-- A reading that goes on went on before.

going-before : (l : Limits) (s : Reading) (ys : List ℕ) → is_stopped (went l s ys) ≡ false → is_stopped s ≡ false
going-before l (reads f b n k) ys h = refl
going-before l (stopped f k) ys h = false-true (sym h ∙ ap is_stopped (stopped-went l f k ys))

pub goes-before : (l : Limits) (xs ys : List ℕ) → is_stopped (went l first_reading (xs ++ ys)) ≡ false → is_stopped (went l first_reading xs) ≡ false
goes-before l xs ys h = going-before l (went l first_reading xs) ys (ap is_stopped (sym (went-more l first_reading xs ys)) ∙ h)

pub cons-after : (xs ys : List ℕ) (b : ℕ) → (xs ++ b ∷ []) ++ ys ≡ xs ++ (b ∷ ys)
cons-after xs ys b = append_assoc xs (b ∷ []) ys

pub goes_faultless : (l : Limits) (bytes : List ℕ) → is_stopped (went l first_reading bytes) ≡ false → AreFaultless l bytes
goes_faultless l bytes h = λ xs ys b g e is.
    let o : is_stopped (went l first_reading (xs ++ b ∷ [])) ≡ false =
    goes-before l (xs ++ b ∷ []) ys (ap (λ (x : List ℕ). is_stopped (went l first_reading x)) (cons-after xs ys b ∙ sym e) ∙ h) in
    none_waits l xs b g o (goes-before l xs (b ∷ []) o, is)

-- from the first byte on
faultless-on : (l : Limits) (xs ys : List ℕ) → is_stopped (went l first_reading xs) ≡ false → AreFaultless l (xs ++ ys)
    → is_stopped (went l first_reading (xs ++ ys)) ≡ false
faultless-on l xs [] o none = ap (λ (x : List ℕ). is_stopped (went l first_reading x)) (append-nil xs) ∙ o
faultless-on l xs (b ∷ ys) o none = by (λ p. faultless-on l (xs ++ b ∷ []) ys p (subst (AreFaultless l) (sym (cons-after xs ys b)) none))
    (went l first_reading (xs ++ b ∷ [])) refl
  where
    by : (is_stopped (went l first_reading (xs ++ b ∷ [])) ≡ false → is_stopped (went l first_reading ((xs ++ b ∷ []) ++ ys)) ≡ false)
        → (s : Reading) → went l first_reading (xs ++ b ∷ []) ≡ s → is_stopped (went l first_reading (xs ++ (b ∷ ys))) ≡ false
    by go (reads f c n k) e = ap (λ (x : List ℕ). is_stopped (went l first_reading x)) (sym (cons-after xs ys b)) ∙ go (ap is_stopped e)
    by go (stopped g k) e = absurd (none xs ys b g refl (fault_waits l xs b g k o e).0.1)

pub faultless_goes : (l : Limits) (bytes : List ℕ) → AreFaultless l bytes → is_stopped (went l first_reading bytes) ≡ false
faultless_goes l bytes none = faultless-on l [] bytes refl none

-- The first fault.

pub first_waits : (l : Limits) (bytes : List ℕ) (b : ℕ) (g : FrameFault) (k : ℕ) → AreFaultless l bytes → went l first_reading (bytes ++ b ∷ []) ≡ stopped g k
    → IsFirstFault l bytes b g × (k ≡ told_number (length bytes + 1))
first_waits l bytes b g k none e = let (is, number) = fault_waits l bytes b g k (faultless_goes l bytes none) e in ((none, is.1), number)

pub first_stops : (l : Limits) (bytes : List ℕ) (b : ℕ) (g : FrameFault) → IsFirstFault l bytes b g
    → went l first_reading (bytes ++ b ∷ []) ≡ stopped g (told_number (length bytes + 1))
first_stops l bytes b g (none, is) = fault_stops l bytes b g (faultless_goes l bytes none, is)

-- What is known of the house under the lock.
use Rattle.std.proofs.Common.{◌≡◌, ℕ, zero, suc, ◌+◌, ◌<◌, List, [], ◌∷◌, ◌++◌, map, get_or, length, refl, sym, ◌∙◌, ap, subst, arith}
use Rattle.std.proofs.Math.Logic.{∥∥₁_elim, ∥∥₁_map}
use Rattle.std.proofs.Props.{props}
use Rattle.turn_lock.specs.Histories.{counted}
use Rattle.turn_lock.specs.Passes.{number_of}
use Rattle.house_model.specs.declared.event.Event.{Event}
use Rattle.house_model.specs.States.{State, Kept}
use Rattle.house_model.specs.Histories.{Turn, Outcome, Made, Short, StandsFor, IsOpening, next_by, next, after}
use Rattle.house_model.proofs.Turns.{turns-counted}
use Rattle.hall.specs.Openings.{OpeningRecord, opening_of, opening_from}
use Rattle.hall.specs.Stories.{HallPass, IsLegal, Stands}

number-set : IsSet ℕ
number-set = Prim.hlevel props

opening-set : IsSet OpeningRecord
opening-set = Prim.hlevel props

-- no turn changes what a house was opened with
opening-next : (st : State) (e : Event) (out : Outcome) → opening_of (next_by st e out) ≡ opening_of st
opening-next st e (Made reply text) = refl
opening-next st e Short = refl

opening-after : (st : State) (h : List Turn) → opening_of (after st h) ≡ opening_of st
opening-after st [] = refl
opening-after st (x ∷ more) = opening-after (next st x) more ∙ opening-next st x.event x.outcome

opening-again : (o : State) → IsOpening o → opening_from (opening_of o) ≡ o
opening-again o starts = ap (λ (st : State). opening_from (opening_of st)) starts.4 ∙ sym starts.4

opening-kept : (o : State) (h : List Turn) (k : Kept) → StandsFor o h k → opening_of k ≡ opening_of o
opening-kept o h k stands = ap (λ (x : Kept). opening_of x) stands.kept ∙ opening-after o h

-- what a house that stands for a history was opened with is read off it
pub opening-read : (o : State) (h : List Turn) (k : Kept) → StandsFor o h k → opening_from (opening_of k) ≡ o
opening-read o h k stands = ap opening_from (opening-kept o h k stands) ∙ opening-again o stands.starts

-- two houses that stand for histories from one state were opened with the same
pub same-opening : (o : State) (h h' : List Turn) (k k' : Kept) → Stands o h k → Stands o h' k' → opening_of k ≡ opening_of k'
same-opening o h h' k k' one two =
    ∥∥₁_elim one (opening-set (opening_of k) (opening_of k')) (λ (s : StandsFor o h k).
    ∥∥₁_elim two (opening-set (opening_of k) (opening_of k')) (λ (s' : StandsFor o h' k').
    opening-kept o h k s ∙ sym (opening-kept o h' k' s')))

-- the house has counted the turns
pub turns-known : (o : State) (h : List Turn) (k : Kept) → Stands o h k → k.head.turns ≡ length h
turns-known o h k known = ∥∥₁_elim known (number-set k.head.turns (length h)) (turns-counted o h k)

pub legal-known : (o : State) (h : List Turn) (k : Kept) → Stands o h k → IsLegal o h
legal-known o h k known = ∥∥₁_map known (λ (s : StandsFor o h k). s.legal)

-- one turn more
pub stands-on : (o : State) (h : List Turn) (k k' : Kept) (x : Turn) → Stands o h k
    → ((o : State) (h : List Turn) → StandsFor o h k → StandsFor o (h ++ x ∷ []) k') → Stands o (h ++ x ∷ []) k'
stands-on o h k k' x known goes = ∥∥₁_map known (goes o h)

-- the same from the same state, for the same history and the same house
pub stands-at : (o o' : State) (h h' : List Turn) (k k' : Kept) → o ≡ o' → h ≡ h' → k ≡ k' → Stands o h k → Stands o' h' k'
stands-at o o' h h' k k' opened told same stands =
    subst (λ (st : State). Stands st h' k') opened (subst (λ (l : List Turn). Stands o l k') told (subst (λ (x : Kept). Stands o h x) same stands))

pub legal-at : (o o' : State) (h h' : List Turn) → o ≡ o' → h ≡ h' → IsLegal o h → IsLegal o' h'
legal-at o o' h h' opened told legal = subst (λ (st : State). IsLegal st h') opened (subst (λ (l : List Turn). IsLegal o l) told legal)

pub legal-empty : (o : State) (h : List Turn) → h ≡ [] → IsLegal o h
legal-empty o h none = subst (λ (l : List Turn). IsLegal o l) (sym none) ∣ tt ∣₁

-- the numbers of the passes are those of the lines
pub numbers-low : (i n : ℕ) (ps : List HallPass) → map number_of ps ≡ counted i n → (k : ℕ) (d : HallPass) → k < length ps → number_of (get_or ps k d) < i + n
numbers-low i n [] same k d low = absurd (omega arith)
numbers-low i zero (p ∷ ps) same k d low = absurd (cc)
numbers-low i (suc n) (p ∷ ps) same zero d low = let first : number_of p ≡ i = cc in omega (arith, first)
numbers-low i (suc n) (p ∷ ps) same (suc k) d low =
    let rest : map number_of ps ≡ counted (suc i) n = cc in
    omega (arith, numbers-low (suc i) n ps rest k d (omega arith))

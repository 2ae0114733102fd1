-- A history beside the states that it goes through: what it tells, turn by turn, is read off those states.
use Rattle.std.proofs.Common.{◌≡◌, List, [], ◌∷◌, ◌++◌, refl, sym, ap, ◌∙◌, subst, append_assoc, append-nil}
use Rattle.house_model.specs.declared.event.Event.{Event}
use Rattle.house_model.specs.States.{State}
use Rattle.house_model.specs.Histories.{Allowed, Legal, Outcome, Turn, after, next}
use Rattle.house_model.specs.Lines.{told}

-- a turn, and the state after it
pub record Stop : Type 0 where
  pub turn : Turn
  pub state : State

abbrev pub turns : List Stop → List Turn
turns [] = []
turns (x ∷ more) = x.turn ∷ turns more

abbrev pub Goes : State → List Stop → Type 0
Goes st [] = Unit {0}
Goes st (x ∷ more) = (next st x.turn ≡ x.state) × Goes x.state more

abbrev pub AreAllowed : State → List Stop → Type 0
AreAllowed st [] = Unit {0}
AreAllowed st (x ∷ more) = Allowed st x.turn × AreAllowed x.state more

abbrev pub end_of : State → List Stop → State
end_of st [] = st
end_of st (x ∷ more) = end_of x.state more

abbrev pub told_along : {A : Type 0} → (State → Event → Outcome → List A) → State → List Stop → List A
told_along tell st [] = []
told_along tell st (x ∷ more) = tell st x.turn.event x.turn.outcome ++ told_along tell x.state more

told-along : {A : Type 0} (tell : State → Event → Outcome → List A) (st : State) (xs : List Stop) → Goes st xs
    → told tell st (turns xs) ≡ told_along tell st xs
told-along tell st [] goes = refl
told-along tell st (x ∷ more) goes =
    ap (λ s. tell st x.turn.event x.turn.outcome ++ told tell s (turns more)) goes.0
    ∙ ap (λ l. tell st x.turn.event x.turn.outcome ++ l) (told-along tell x.state more goes.1)

after-along : (st : State) (xs : List Stop) → Goes st xs → after st (turns xs) ≡ end_of st xs
after-along st [] goes = refl
after-along st (x ∷ more) goes = ap (λ s. after s (turns more)) goes.0 ∙ after-along x.state more goes.1

legal-along : (st : State) (xs : List Stop) → Goes st xs → AreAllowed st xs → Legal st (turns xs)
legal-along st [] goes all = tt
legal-along st (x ∷ more) goes all = (all.0, subst (λ s. Legal s (turns more)) (sym goes.0) (legal-along x.state more goes.1 all.1))

-- a fact, and more of them
pub also : {A B : Type 0} → A → B → A × B
also one more = (one, more)

-- One run after another.

pub goes-both : (st : State) (xs ys : List Stop) → Goes st xs → Goes (end_of st xs) ys → Goes st (xs ++ ys)
goes-both st [] ys first second = second
goes-both st (x ∷ more) ys first second = (first.0, goes-both x.state more ys first.1 second)

pub allowed-both : (st : State) (xs ys : List Stop) → AreAllowed st xs → AreAllowed (end_of st xs) ys → AreAllowed st (xs ++ ys)
allowed-both st [] ys first second = second
allowed-both st (x ∷ more) ys first second = (first.0, allowed-both x.state more ys first.1 second)

-- A history that has the turns of a run.

pub told-of : {A : Type 0} (tell : State → Event → Outcome → List A) (st : State) (xs : List Stop) (h : List Turn) → turns xs ≡ h → Goes st xs
    → told tell st h ≡ told_along tell st xs
told-of tell st xs h same goes = subst (λ k. told tell st k ≡ told_along tell st xs) same (told-along tell st xs goes)

pub after-of : (st : State) (xs : List Stop) (h : List Turn) → turns xs ≡ h → Goes st xs → after st h ≡ end_of st xs
after-of st xs h same goes = subst (λ k. after st k ≡ end_of st xs) same (after-along st xs goes)

pub legal-of : (st : State) (xs : List Stop) (h : List Turn) → turns xs ≡ h → Goes st xs → AreAllowed st xs → Legal st h
legal-of st xs h same goes all = subst (Legal st) same (legal-along st xs goes all)

-- And one turn more.

pub after-one : (st : State) (h : List Turn) (x : Turn) → after st (h ++ x ∷ []) ≡ next (after st h) x
after-one st [] x = refl
after-one st (y ∷ h) x = after-one (next st y) h x

pub told-one : {A : Type 0} (tell : State → Event → Outcome → List A) (st : State) (h : List Turn) (x : Turn)
    → told tell st (h ++ x ∷ []) ≡ told tell st h ++ tell (after st h) x.event x.outcome
told-one tell st [] x = append-nil (tell st x.event x.outcome)
told-one tell st (y ∷ h) x =
    ap (λ l. tell st y.event y.outcome ++ l) (told-one tell (next st y) h x)
    ∙ sym (append_assoc (tell st y.event y.outcome) (told tell (next st y) h) (tell (after (next st y) h) x.event x.outcome))

-- From what a step tells to how a pass stands.
use Rattle.std.proofs.Common.{◌≡◌, ℕ, suc, ◌+◌, ◌-◌, ◌<◌, Bool, List, [], ◌∷◌, ◌++◌, length, sym, refl, ap, ◌∙◌, arith, None, Some, take, drop}
use Rattle.std.specs.Prelude.{Option}
use Rattle.atomic_table.specs.Table.{Me, rest}
use Rattle.turn_lock.specs.declared.rule.Claim.{Claim}
use Rattle.turn_lock.specs.declared.rule.Stage.{Stage}
use Rattle.turn_lock.specs.declared.rule.Stage.TheVariants.{Idle, Works}
use Rattle.turn_lock.specs.declared.rule.View.{View}
use Rattle.turn_lock.specs.Views.{claim, pass_view, fresh}
use Rattle.turn_lock.specs.Histories.{places, counted}

module _ (T : Type 0) {E R : Type 0} (line : E → ℕ) (q : R) (n : ℕ) where
  abbrev M : Type 0
  M = Me (Option T) (View E R)

  abbrev standing : Stage → List (ℕ × Option T) → Bool → ℕ → List ℕ → List E → M
  standing stage slots refused drawn ps seen = (pass_view q stage refused drawn n ps seen, slots)

  pub stands_from : (m : M) (stage : Stage) (slots : List (ℕ × Option T)) (refused : Bool) (drawn : ℕ) (ps : List ℕ) (seen : List E)
      → m ≡ standing stage slots refused drawn ps seen → places line n 0 seen ≡ ps
      → m ≡ standing stage slots m.0.refused m.0.drawn (places line n 0 m.0.seen) m.0.seen
  stands_from m stage slots refused drawn ps seen is right =
      let own : ps ≡ places line n 0 m.0.seen = sym right ∙ ap (λ (z : M). places line n 0 z.0.seen) (sym is) in
      is ∙ (λ i. standing stage slots (sym is i).0.refused (sym is i).0.drawn (own i) (sym is i).0.seen)

  -- a pass that put its value back and passed the turn on
  pub passed : (story : T → List E) (m m' m'' : M) (x : T) (t : ℕ)
      → m ≡ standing (Works t) ((0, None) ∷ []) m.0.refused m.0.drawn (places line n 0 m.0.seen) m.0.seen → m' ≡ (m.0, (0, Some x) ∷ rest m.1)
      → ((y : T) (c : Claim) → m'.1 ≡ (0, Some y) ∷ [] → m'.0.claims ≡ c ∷ []
      → (m'' ≡ (record m'.0 { stage = Idle; seen = story y; claims = claim c.number (c.places ++ length m'.0.seen ∷ []) ∷ [] }, []))
      × (places line c.number 0 (story y) ≡ c.places ++ length m'.0.seen ∷ []))
      → (m'' ≡ standing Idle [] m.0.refused m.0.drawn (places line n 0 m.0.seen ++ length m.0.seen ∷ []) (story x))
      × (places line n 0 (story x) ≡ places line n 0 m.0.seen ++ length m.0.seen ∷ [])
  passed story m m' m'' x t works put told =
      let before : List ℕ = places line n 0 m.0.seen in
      let carried : m'.1 ≡ (0, Some x) ∷ [] = ap (λ (z : M). z.1) put ∙ ap (λ (z : M). (0, Some x) ∷ rest z.1) works in
      let claims : m'.0.claims ≡ claim n before ∷ [] = ap (λ (z : M). z.0.claims) put ∙ ap (λ (z : M). z.0.claims) works in
      let after = told x (claim n before) carried claims in
      let entry : M → M = λ z. (record z.0 { stage = Idle; seen = story x; claims = claim n (before ++ length z.0.seen ∷ []) ∷ [] }, []) in
      (after.0 ∙ (ap entry put ∙ ap entry works), after.1 ∙ ap (λ (z : M). before ++ length z.0.seen ∷ []) put)

pub take_drop_one : {X : Type 0} (l : List X) → l ≡ take 1 l ++ drop 1 l
take_drop_one [] = refl
take_drop_one (x ∷ xs) = refl

one_less : (i k : ℕ) → i < k → k - i ≡ suc (k - (i + 1))
one_less i k less = omega arith

suc_is : (i : ℕ) → suc i ≡ i + 1
suc_is i = omega arith

pub drop-fresh : (i k : ℕ) → i < k → drop 1 (fresh i (k - i)) ≡ fresh (i + 1) (k - (i + 1))
drop-fresh i k less = ap (λ (z : ℕ). drop 1 (fresh i z)) (one_less i k less) ∙ ap (λ (z : ℕ). fresh z (k - (i + 1))) (suc_is i)

pub take-fresh : (i k : ℕ) → i < k → take 1 (fresh i (k - i)) ≡ claim i [] ∷ []
take-fresh i k less = ap (λ (z : ℕ). take 1 (fresh i z)) (one_less i k less)

pub counted-next : (i k : ℕ) → i < k → counted i (k - i) ≡ i ∷ counted (i + 1) (k - (i + 1))
counted-next i k less = ap (counted i) (one_less i k less) ∙ ap (λ (z : ℕ). i ∷ counted z (k - (i + 1))) (suc_is i)

-- What a pass knows, and how it is counted, cut and put together.
use Rattle.std.specs.Prelude.{ℕ, zero, suc, ◌+◌, ◌==◌, max, List, [], ◌∷◌, ◌++◌, Option, None, Some, Bool, true, false}
use Rattle.turn_lock.specs.declared.rule.Claim.{Claim}
use Rattle.turn_lock.specs.declared.rule.Stage.{Stage}
use Rattle.turn_lock.specs.declared.rule.Stage.TheVariants.{Idle, MayDraw, Waits, Works}
use Rattle.turn_lock.specs.declared.rule.View.{View}

-- the ticket of a pass that waits or works
abbrev pub ticket_of : Stage → Option ℕ
ticket_of Idle = None
ticket_of MayDraw = None
ticket_of (Waits t) = Some t
ticket_of (Works t) = Some t

-- whether the value is out with the pass
abbrev pub has_value : Stage → Bool
has_value Idle = false
has_value MayDraw = false
has_value (Waits t) = false
has_value (Works t) = true

-- how many tickets a pass has
abbrev pub tickets : Stage → ℕ
tickets Idle = 0
tickets MayDraw = 0
tickets (Waits t) = 1
tickets (Works t) = 1

-- how many tickets a pass may draw
abbrev pub leaves : Stage → ℕ
leaves Idle = 0
leaves MayDraw = 1
leaves (Waits t) = 0
leaves (Works t) = 0

abbrev pub bit : Bool → ℕ
bit true = 1
bit false = 0

abbrev pub either_of : Bool → Bool → Bool
either_of a true = true
either_of a false = a

-- the sum of f over a list
abbrev pub total : {V : Type 0} → (V → ℕ) → List V → ℕ
total f [] = 0
total f (v ∷ vs) = f v + total f vs

abbrev pub claim : ℕ → List ℕ → Claim
claim n ps = record { number = n; places = ps }

-- how many of the claims are of the number n
abbrev pub times : ℕ → List Claim → ℕ
times n cs = total (λ c. bit (c.number == n)) cs

-- claims of the k numbers from i on, none of which has an entry
abbrev pub fresh : ℕ → ℕ → List Claim
fresh i zero = []
fresh i (suc k) = claim i [] ∷ fresh (suc i) k

module _ {E R : Type 0} where
  -- a view that wants no turn and has met no other
  abbrev pub resting : Option R → Bool → ℕ → List Claim → List E → View E R
  resting root refused drawn claims seen =
      record { root = root; stage = Idle; refused = refused; drawn = drawn; claims = claims; seen = seen; met = [] }

  -- what is left of a view that another took in
  abbrev pub spent : View E R
  spent = resting None false 0 [] []

  -- v, which takes over the numbers, the marks and the sights of w
  abbrev pub taken_in : View E R → View E R → View E R
  taken_in v w = record v {
    refused = either_of v.refused w.refused;
    drawn = max v.drawn w.drawn;
    claims = v.claims ++ w.claims;
    met = v.met ++ w.seen ∷ [];
  }

  -- the view of a pass with its number: its claim is the places of its entries in what it has seen
  abbrev pub pass_view : R → Stage → Bool → ℕ → ℕ → List ℕ → List E → View E R
  pass_view q stage refused drawn n ps seen = record {
    root = Some q;
    stage = stage;
    refused = refused;
    drawn = drawn;
    claims = claim n ps ∷ [];
    seen = seen;
    met = [];
  }

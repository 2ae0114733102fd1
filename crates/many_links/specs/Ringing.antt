-- What comes of a poller's rings at its places: each Ready has one round, in which one reading is made.
use Rattle.std.specs.Prelude.{◌≡◌, ◌<◌, ◌+◌, ℕ, eqb, Bool, true, false, List, [], ◌∷◌, length, Option}
use Rattle.std.specs.List.{filter}
use Rattle.outside.specs.Tapes.{Tells}
use Rattle.outside.specs.declared.poller.Rung.{Rung}
use Rattle.outside.specs.declared.poller.Rung.TheVariants.{New, Ready, Shut, Failed}
use Rattle.conn_serve.specs.declared.turn.Round.{Round}
use Rattle.conn_serve.specs.declared.turn.Round.TheVariants.{Goes, Later, More, Ends, Exhausts}
use Rattle.conn_serve.specs.Rounds.{ReadOnce, Reads}
use Rattle.many_links.specs.Visits.{Spot, at, is_taken}

-- the rings of a place
abbrev pub is_at : ℕ → Rung → Bool
is_at k (New j) = eqb j k
is_at k (Ready j) = eqb j k
is_at k Shut = false
is_at k Failed = false

abbrev pub rings_at : ℕ → List Rung → List Rung
rings_at k rings = filter (is_at k) rings

-- whether a connection goes on after a round that answered so
abbrev pub goes_on : Round → Bool
goes_on Goes = true
goes_on Later = true
goes_on More = true
goes_on (Ends x t) = false
goes_on Exhausts = false

-- The rings of a place in turn, with the answers of its rounds, and how often its clock was asked. It is asked once where a link comes. From then on
-- each Ready has one round, with as many readings as its answer says, until a round after which the connection doesn't go on.
abbrev pub Rounds : (on : Bool) → List Rung → List Round → (asked : ℕ) → (still_on : Bool) → Type 0
Rounds on [] [] asked still_on = (asked ≡ 0) × (still_on ≡ on)
Rounds on (New k ∷ rings) rounds asked still_on = (rest : ℕ) × (asked ≡ 1 + rest) × Rounds true rings rounds rest still_on
Rounds true (Ready k ∷ rings) (round ∷ rounds) asked still_on =
    (here : ℕ) × (rest : ℕ) × (asked ≡ here + rest) × Reads round here × Rounds (goes_on round) rings rounds rest still_on
Rounds on rings rounds asked still_on = ⊥

-- So the rings came to place k, which was free before them, and its clock told as many moments. A link that is under way goes on.
pub record Rang (k : ℕ) (rings : List Rung) (a b : Spot) : Type 0 where
  pub rounds : List Round
  pub moments : List ℕ
  pub told : Tells ℕ a.moments b.moments moments
  pub on : Bool
  pub each : Rounds false (rings_at k rings) rounds (length moments) on
  pub busy : is_taken b.busy ≡ true → on ≡ true

-- the rings that the poller told came so to each place
abbrev pub AllRang : (olds : List Spot) → Option (List Rung) → (news : List Spot) → Option (List Rung) → Type 0
AllRang olds rung news rung' =
    (rings : List Rung) × Tells Rung rung rung' rings × ((k : ℕ) → k < length olds → Rang k rings (at olds k) (at news k))

-- one round was made, after which a connection goes on or not
pub record OneRound (before after : Option (List ℕ)) (on : Bool) : Type 0 where
  pub round : Round
  pub once : ReadOnce before after round
  pub goes : goes_on round ≡ on

-- the link that was under way at a place had one
abbrev pub HadRound : (a b : Spot) → Type 0
HadRound a b = is_taken a.busy ≡ true → OneRound a.moments b.moments (is_taken b.busy)

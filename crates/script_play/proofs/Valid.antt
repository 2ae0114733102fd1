-- Scripts that are played to their end are the valid ones.
use Rattle.std.proofs.Common.{◌≡◌, ℕ, ◌+◌, ◌<◌, List, [], ◌∷◌, ◌++◌, length, refl, sym, ap, subst, ◌∙◌, arith, inl, inr, append-nil}
use Rattle.std.specs.Prelude.{map, Option, Some, ◌⊎◌}
use Rattle.house_model.specs.States.{State, Kept, opening}
use Rattle.house_model.specs.Histories.{Outcome, Made, Short, Turn, next, next_by, after, Legal, StandsFor}
use Rattle.house_model.proofs.Turns.{workers-kept}
use Rattle.replay_script.specs.declared.step.Step.{Step}
use Rattle.replay_script.specs.declared.step.Step.TheVariants as step
use Rattle.replay_script.specs.Deeds.{Deed, Turned, Fed, Renewed, IsMade, AreDone, step_at, turns_of}
use Rattle.replay_script.specs.Scripts.{Makes, AreWithin, IsWithin, IsPlayed, MayCome, IsRefused, size_of, text_of, step_in}
use Rattle.replay_script.specs.Valid.{state_by, CanBePlayed, AreValid, IsValid}
use Rattle.house_model.specs.Histories as house
use Rattle.script_play.specs.declared.status.Status.{Status}
use Rattle.script_play.specs.declared.status.Status.TheVariants as status
use Rattle.script_play.specs.Runs.{Replayed}

pub there : (o : State) (h : List Turn) (house : Kept) (w : ℕ) → StandsFor o h house → w < house.head.workers → w < (after o h).head.workers
there o h house w stands lies = omega (arith, lies, workers-kept o h house stands)

-- What these lines lead to, where others follow them: what was played could be, and what can be played goes on from there.

heads : {X : Type 0} (x y : X) (xs ys : List X) → x ∷ xs ≡ y ∷ ys → x ≡ y
heads x y xs ys e = cc

tails : {X : Type 0} (x y : X) (xs ys : List X) → x ∷ xs ≡ y ∷ ys → xs ≡ ys
tails x y xs ys e = cc

empty-list : {X : Type 0} (x : X) (xs : List X) → [] ≡ x ∷ xs → ⊥
empty-list x xs e = cc

some-same : {X : Type 0} (x y : X) → Some x ≡ Some y → x ≡ y
some-same x y e = cc

made-next : (st : State) (x : Turn) (o : Outcome) (P : State → Type 0) → x.outcome ≡ o → IsMade o → P (house.step st x.event).state → P (next st x)
made-next st x (Made reply text) P is made can = subst (λ (y : Outcome). P (next_by st x.event y)) (sym is) can
made-next st x Short P is made can = absurd made

abbrev GoOn : List (List ℕ) → List (List ℕ) → List Deed → Type 0
GoOn lines rest ds = (st : State) (read : ℕ) → AreDone st ds → CanBePlayed st read (lines ++ rest)
    → CanBePlayed (after st (turns_of ds)) (read + size_of lines) rest

go-on-by : (line : List ℕ) (lines rest : List (List ℕ)) (d : Deed) (ds : List Deed) (st : State) (read : ℕ) (s : Step) → Some s ≡ step_at d
    → AreDone st (d ∷ ds) → CanBePlayed (state_by st s) (read + length line) (lines ++ rest)
    → GoOn lines rest ds → CanBePlayed (after st (turns_of (d ∷ ds))) (read + size_of (line ∷ lines)) rest
go-on-by line lines rest (Turned x) ds st read s is done can go =
    let now : CanBePlayed (house.step st x.event).state (read + length line) (lines ++ rest) =
    subst (λ (y : Step). CanBePlayed (state_by st y) (read + length line) (lines ++ rest)) (some-same s (step.Event x.event) is) can in
    let next-now = made-next st x x.outcome (λ (y : State). CanBePlayed y (read + length line) (lines ++ rest)) refl done.0 now in
    subst (λ (n : ℕ). CanBePlayed (after (next st x) (turns_of ds)) n rest) (omega arith) (go (next st x) (read + length line) done.1 next-now)
go-on-by line lines rest (Fed w bytes) ds st read s is done can go =
    let now : CanBePlayed st (read + length line) (lines ++ rest) =
    subst (λ (y : Step). CanBePlayed (state_by st y) (read + length line) (lines ++ rest)) (some-same s (step.Feed w bytes) is) can in
    subst (λ (n : ℕ). CanBePlayed (after st (turns_of ds)) n rest) (omega arith) (go st (read + length line) done.1 now)
go-on-by line lines rest (Renewed w) ds st read s is done can go =
    let now : CanBePlayed st (read + length line) (lines ++ rest) =
    subst (λ (y : Step). CanBePlayed (state_by st y) (read + length line) (lines ++ rest)) (some-same s (step.Fresh w) is) can in
    subst (λ (n : ℕ). CanBePlayed (after st (turns_of ds)) n rest) (omega arith) (go st (read + length line) done.1 now)

-- after lines that were played, the others can be played
go-on : (lines rest : List (List ℕ)) (ds : List Deed) → map step_in lines ≡ map step_at ds → GoOn lines rest ds
go-on [] rest [] same st read done can = subst (λ (n : ℕ). CanBePlayed st n rest) (omega arith) can
go-on [] rest (d ∷ ds) same st read done can = absurd (empty-list (step_at d) (map step_at ds) same)
go-on (line ∷ lines) rest [] same st read done can = absurd (empty-list (step_in line) (map step_in lines) (sym same))
go-on (line ∷ lines) rest (d ∷ ds) same st read done (within, (s, spelt, may, more)) =
    go-on-by line lines rest d ds st read s (sym spelt ∙ heads (step_in line) (step_at d) (map step_in lines) (map step_at ds) same) done more
    (go-on lines rest ds (tails (step_in line) (step_at d) (map step_in lines) (map step_at ds) same))

-- A script with a line that is refused is not valid.

refused-line : (st : State) (read : ℕ) (line : List ℕ) (more : List (List ℕ)) → CanBePlayed st read (line ∷ more)
    → ((IsWithin read line → ⊥) ⊎ ((s : Step) → step_in line ≡ Some s → MayCome st s → ⊥)) → ⊥
refused-line st read line more can (inl past) = past can.0
refused-line st read line more (within, (s, spelt, may, rest)) (inr outside) = outside s spelt may

refused-at : (lines : List (List ℕ)) (o : State) (ds : List Deed) (line : List ℕ) (rest : List (List ℕ)) → IsPlayed lines o ds → IsRefused lines o ds line
    → AreValid (lines ++ line ∷ rest) → ⊥
refused-at [] o ds line rest played (inl past) valid = past valid.0
refused-at [] o ds line rest played (inr outside) (within, (s, makes, more)) = outside s makes
refused-at (first ∷ lines) o ds line rest played refused (within, (s, makes, more)) =
    let same : s ≡ o = makes-one (text_of first) s o makes played.spelt.0 in
    refused-line (after o (turns_of ds)) (length first + size_of lines) line rest
    (go-on lines (line ∷ rest) ds played.spelt.1 o (length first) played.done
    (subst (λ (x : State). CanBePlayed x (length first) (lines ++ line ∷ rest)) same more)) refused
  where
    begin-of : Option Step → State → State
    begin-of (Some (step.Begin domain users workers)) st = opening domain users workers
    begin-of s st = st

    makes-one : (text : List ℕ) (s o : State) → Makes text s → Makes text o → s ≡ o
    makes-one text s o a b = a.made ∙ (ap (λ (x : Option Step). begin-of x s) (sym a.spelt ∙ b.spelt) ∙ sym b.made)

pub refused_is_invalid : (bytes : List ℕ) (left_now took took_now : Option (List ℕ)) (n : ℕ) → Replayed (Some bytes) left_now took took_now (status.Script n)
    → IsValid bytes → ⊥
refused_is_invalid bytes left_now took took_now n r valid =
    let (more, (split, (line, (rest, (is, refused))))) = r.read bytes refl in
    refused-at r.lines r.start r.deeds line rest r.played refused (subst AreValid (split ∙ ap (λ (x : List (List ℕ)). r.lines ++ x) is) valid)

-- A script that was played to its end is valid.

abbrev WasPlayed : List (List ℕ) → List Deed → Type 0
WasPlayed lines ds = (st : State) (read : ℕ) → AreDone st ds → Legal st (turns_of ds) → AreWithin read lines → CanBePlayed st read lines

was-by : (line : List ℕ) (lines : List (List ℕ)) (d : Deed) (ds : List Deed) (st : State) (read : ℕ) → step_in line ≡ step_at d → AreDone st (d ∷ ds)
    → Legal st (turns_of (d ∷ ds)) → AreWithin read (line ∷ lines)
    → WasPlayed lines ds → CanBePlayed st read (line ∷ lines)
was-by line lines (Turned x) ds st read is done legal within go =
    let rest : CanBePlayed (next st x) (read + length line) lines = go (next st x) (read + length line) done.1 legal.1 within.1 in
    (within.0, (step.Event x.event, is, legal.0.line, made-step st x x.outcome (λ (y : State). CanBePlayed y (read + length line) lines) refl done.0 rest))
  where
    made-step : (st : State) (x : Turn) (o : Outcome) (P : State → Type 0) → x.outcome ≡ o → IsMade o → P (next st x) → P (house.step st x.event).state
    made-step st x (Made reply text) P is made can = subst (λ (y : Outcome). P (next_by st x.event y)) is can
    made-step st x Short P is made can = absurd made
was-by line lines (Fed w bytes) ds st read is done legal within go =
    (within.0, (step.Feed w bytes, is, done.0, go st (read + length line) done.1 legal within.1))
was-by line lines (Renewed w) ds st read is done legal within go = (within.0, (step.Fresh w, is, done.0, go st (read + length line) done.1 legal within.1))

was-played : (lines : List (List ℕ)) (ds : List Deed) → map step_in lines ≡ map step_at ds → WasPlayed lines ds
was-played [] ds same st read done legal within = tt
was-played (line ∷ lines) [] same st read done legal within = absurd (empty-list (step_in line) (map step_in lines) (sym same))
was-played (line ∷ lines) (d ∷ ds) same st read done legal within =
    was-by line lines d ds st read (heads (step_in line) (step_at d) (map step_in lines) (map step_at ds) same) done legal within
    (was-played lines ds (tails (step_in line) (step_at d) (map step_in lines) (map step_at ds) same))

all-played : (lines : List (List ℕ)) (o : State) (ds : List Deed) → IsPlayed lines o ds → AreValid lines
all-played [] o ds played = tt
all-played (first ∷ lines) o ds played = (
  played.within.0,
  (
    o,
    played.spelt.0,
    was-played lines ds played.spelt.1 o (length first) played.done played.legal
        (subst (λ (n : ℕ). AreWithin n lines) (omega arith) played.within.1),
  ),
)

pub done_is_valid : (bytes : List ℕ) (left_now took took_now : Option (List ℕ)) → Replayed (Some bytes) left_now took took_now status.Done → IsValid bytes
done_is_valid bytes left_now took took_now r =
    let (more, (split, (none, end))) = r.read bytes refl in
    subst AreValid (sym (split ∙ (ap (λ (x : List (List ℕ)). r.lines ++ x) none ∙ append-nil r.lines))) (all-played r.lines r.start r.deeds r.played)

-- A valid script, where neither the source nor the sink fails.

pub ends_played : (bytes : List ℕ) (left_now took took_now : Option (List ℕ)) (s : Status) → IsValid bytes → Replayed (Some bytes) left_now took took_now s
    → (s ≡ status.ReadFault → ⊥) → (s ≡ status.WriteFault → ⊥)
    → (s ≡ status.Done) ⊎ (s ≡ status.NoMemory)
ends_played bytes left_now took took_now status.Done valid r read written = inl refl
ends_played bytes left_now took took_now status.NoMemory valid r read written = inr refl
ends_played bytes left_now took took_now (status.Script n) valid r read written = absurd (refused_is_invalid bytes left_now took took_now n r valid)
ends_played bytes left_now took took_now status.ReadFault valid r read written = absurd (read refl)
ends_played bytes left_now took took_now status.WriteFault valid r read written = absurd (written refl)
ends_played bytes left_now took took_now status.Usage valid r read written = absurd r.number
ends_played bytes left_now took took_now (status.Accounts n) valid r read written = absurd r.number
ends_played bytes left_now took took_now status.ListenFault valid r read written = absurd r.number

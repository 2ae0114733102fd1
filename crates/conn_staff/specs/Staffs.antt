-- What the workers of a server did, each at its post.
use Rattle.std.specs.Prelude.{◌≡◌, ◌≤◌, ◌-◌, ◌^◌, ◌+◌, ℕ, min, List, [], ◌∷◌, length, map, sum_by, Bool, true, false, Option, if◌then◌else◌}
use Rattle.std.specs.List.{list_any}
use Rattle.outside.specs.declared.poller.PollPost.{PollPost}
use Rattle.outside.specs.declared.poller.Sources.{Sources}
use Rattle.outside.specs.Devices.{Rose}
use Rattle.outside.specs.Doors.{reached}
use Rattle.outside.specs.Posts.{all_of}
use Rattle.outside.specs.Tapes.{Mark}
use Rattle.account_book.specs.Lists.{Book}
use Rattle.house_model.specs.Histories.{Turn}
use Rattle.house_model.specs.Promises.{Safe}
use Rattle.house_model.specs.States.{Kept, State}
use Rattle.hall.specs.Desks.{turns_of}
use Rattle.hall.specs.Stories.{Stands}
use Rattle.conn_serve.specs.Connections.{site_of}
use Rattle.conn_serve.specs.Shifts.{Attends, IsWithin, Shift, shift}
use Rattle.many_links.specs.Visits.{Links, Tapes}
use Rattle.conn_staff.specs.declared.roster.Worked.{Worked}
use Rattle.conn_staff.specs.declared.roster.Worked.TheVariants.{PollFault, Shut}

-- what a place tells: the tapes of the links that were given back there, the moments of its clock and the draws of its dice; how many links came
-- there, and how many faults its dice count
pub record Telling : Type 0 where
  pub tapes : Option (List (List Mark))
  pub moments : Option (List ℕ)
  pub drawn : Option (List (List ℕ))
  pub links : ℕ
  pub dice : ℕ

abbrev pub telling : Option (List (List Mark)) → Option (List ℕ) → Option (List (List ℕ)) → (links dice : ℕ) → Telling
telling tapes moments drawn links dice = record { tapes = tapes; moments = moments; drawn = drawn; links = links; dice = dice }

-- what a poller counts, its links and its faults, and its quota
pub record Counts : Type 0 where
  pub links : ℕ
  pub faults : ℕ
  pub quota : ℕ

abbrev pub counts : (links faults quota : ℕ) → Counts
counts links faults quota = record { links = links; faults = faults; quota = quota }

-- what a post tells: its poller, and place by place
pub record PostTelling : Type 0 where
  pub poller : Counts
  pub places : List Telling

-- all places of posts, one post after the other
abbrev pub places_of : List PostTelling → List Telling
places_of posts = all_of (map (λ (p : PostTelling). p.places) posts)

-- what is told of places from the one with the number k on, by their sources
abbrev pub told_from : (C I : Type 0) → (C → Option (List ℕ)) → (I → Option (List (List ℕ))) → (dice : I → ℕ) → Tapes → Links → (k : ℕ)
    → List (Sources C I) → List Telling
told_from C I moments drawn dice tapes came k [] = []
told_from C I moments drawn dice tapes came k (s ∷ more) =
    telling (tapes k) (moments s.clock) (drawn s.dice) (came k) (dice s.dice) ∷ told_from C I moments drawn dice tapes came (k + 1) more

-- what a poller and the sources of its places tell
abbrev pub told_by : (P C I : Type 0) → (P → Tapes) → (P → Links) → (links faults quota : P → ℕ) → (C → Option (List ℕ))
    → (I → Option (List (List ℕ))) → (dice : I → ℕ) → P → List (Sources C I) → PostTelling
told_by P C I tapes came links faults quota moments drawn dice poller sources = record {
  poller = counts (links poller) (faults poller) (quota poller);
  places = told_from C I moments drawn dice (tapes poller) (came poller) 0 sources;
}

-- what a post tells
abbrev pub post_told : (P C I : Type 0) → (P → Tapes) → (P → Links) → (links faults quota : P → ℕ) → (C → Option (List ℕ))
    → (I → Option (List (List ℕ))) → (dice : I → ℕ) → PollPost P C I → PostTelling
post_told P C I tapes came links faults quota moments drawn dice p =
    told_by P C I tapes came links faults quota moments drawn dice p.poller p.sources.items

-- with the turns of its line, and whether one was refused there
abbrev pub at_line : Telling → List Turn → Bool → Shift
at_line a turns marked = shift a.tapes turns a.moments a.drawn a.links a.dice marked

-- The places of the lines from n on, which told this before and that now: the links of each were attended, one after the other, and its turns are
-- those of its line in the history. A turn was refused there only where 2^63 were drawn.
abbrev pub Attended : State → Book → List Turn → ℕ → (before now : List Telling) → Type 0
Attended o accounts h n [] [] = Unit {0}
Attended o accounts h n (a ∷ before) (b ∷ now) =
    ((marked : Bool) × (marked ≡ true → 2 ^ 63 ≤ length h)
    × Attends (site_of n o.head.domain.domain accounts) (at_line a [] false) (at_line b (turns_of n h) marked))
    × Attended o accounts h (n + 1) before now
Attended o accounts h n before now = ⊥

-- a poller failed, which it counts, or shut where its quota was reached
abbrev pub EndedBy : Bool → Counts → Counts → Type 0
EndedBy true a b = Rose a.faults b.faults
EndedBy false a b = reached b.quota b.links ≡ true

-- a poller's count of links is that of all its places together, up to the greatest number
abbrev pub IsSum : PostTelling → Type 0
IsSum p = p.poller.links ≡ min (sum_by (λ (t : Telling). t.links) p.places) (2 ^ 64 - 1)

-- How a worker ended: the quota of its poller stays and no more links come than that, and its faults never fall. It has the places that it had, and
-- its poller still counts what came to them.
pub record Ended (failed : Bool) (a b : PostTelling) : Type 0 where
  pub by : EndedBy failed a.poller b.poller
  pub quota : b.poller.quota ≡ a.poller.quota
  pub within : IsWithin a.poller.quota a.poller.links → IsWithin b.poller.quota b.poller.links
  pub kept : a.poller.faults ≤ b.poller.faults
  pub places : length b.places ≡ length a.places
  pub sum : IsSum a → IsSum b

-- all of them, where it is said whether a poller failed
abbrev pub AllEnded : (before now : List PostTelling) → List Bool → Type 0
AllEnded [] [] [] = Unit {0}
AllEnded (a ∷ before) (b ∷ now) (failed ∷ more) = Ended failed a b × AllEnded before now more
AllEnded before now more = ⊥

-- a poller failed, or each shut
abbrev pub worked_by : Bool → Worked
worked_by failed = if failed then PollFault else Shut

-- A house that all workers left: it stands for a history, of which all holds that is promised of legal ones, and each worker did its part of it. The
-- lines are the places of all workers, one worker after the other.
pub record Staffed (o : State) (accounts : Book) (before now : List PostTelling) (worked : Worked) (k : Kept) : Type 0 where
  pub history : List Turn
  pub stands : Stands o history k
  pub safe : ∥ Safe o history ∥₁
  pub each : Attended o accounts history 0 (places_of before) (places_of now)
  pub failed : List Bool
  pub ended : AllEnded before now failed
  pub worked_is : worked ≡ worked_by (list_any (λ b. b) failed)

-- A worker, as far as it tells.
use Rattle.std.specs.Prelude.{Bool, ◌≡◌, ◌<◌, ◌≤◌, ◌+◌, ◌^◌, ℕ, List, [], ◌∷◌, All, length, map, vec_capacity, Option, None, false}
use Rattle.outside.specs.declared.poller.PollPost.{PollPost}
use Rattle.outside.specs.declared.poller.Sources.{Sources}
use Rattle.account_book.specs.Lists.{Book}
use Rattle.hall.specs.declared.hall.Hall.{Hall}
use Rattle.hall.specs.Desks.{turns_of}
use Rattle.hall.specs.Halls.{CameFrom, opening_state}
use Rattle.hall.specs.Stories.{HallPass}
use Rattle.turn_lock.specs.Passes.{number_of, refused, seen}
use Rattle.conn_serve.specs.Connections.{site_of}
use Rattle.conn_serve.specs.Shifts.{Attends}
use Rattle.many_links.specs.declared.place.Place.{Place}
use Rattle.many_links.specs.Visits.{Links, Tapes}
use Rattle.conn_staff.specs.declared.bench.Bench.{Bench}
use Rattle.conn_staff.specs.declared.worker.Worker.{Worker}
use Rattle.conn_staff.specs.Staffs.{Counts, Ended, PostTelling, Telling, at_line, counts, telling}

-- a place of a worker: its pass, and what it tells
pub record Seat : Type 0 where
  pub pass : HallPass
  pub told : Telling

abbrev pub seat : HallPass → Telling → Seat
seat pass told = record { pass = pass; told = told }

-- links were served there
pub record Tended (hall : Hall) (accounts : Book) (a b : Seat) : Type 0 where
  pub came : CameFrom hall b.pass
  pub number : number_of b.pass ≡ number_of a.pass
  pub attends : Attends (site_of (number_of a.pass) (opening_state hall).head.domain.domain accounts)
      (at_line a.told (turns_of (number_of a.pass) (seen a.pass)) (refused a.pass))
      (at_line b.told (turns_of (number_of a.pass) (seen b.pass)) (refused b.pass))

-- at each of them
abbrev pub AllTended : Hall → Book → List Seat → List Seat → Type 0
AllTended hall accounts [] [] = Unit {0}
AllTended hall accounts (a ∷ olds) (b ∷ news) = Tended hall accounts a b × AllTended hall accounts olds news
AllTended hall accounts olds news = ⊥

-- a worker: its places, what its poller counts, and whether it failed
pub record Crew : Type 0 where
  pub seats : List Seat
  pub poller : Counts
  pub failed : Bool

-- what it tells, as its post does
abbrev pub post_of : Crew → PostTelling
post_of c = record { poller = c.poller; places = map (λ (s : Seat). s.told) c.seats }

-- it served the links of its poller, each at its place
pub record HasWorked (hall : Hall) (accounts : Book) (a b : Crew) : Type 0 where
  pub tended : AllTended hall accounts a.seats b.seats
  pub ended : Ended b.failed (post_of a) (post_of b)

-- each of them did
abbrev pub AllWorked : Hall → Book → List Crew → List Crew → Type 0
AllWorked hall accounts [] [] = Unit {0}
AllWorked hall accounts (a ∷ olds) (b ∷ news) = HasWorked hall accounts a b × AllWorked hall accounts olds news
AllWorked hall accounts olds news = ⊥

-- The workers of the code.

-- the sources of a place
abbrev pub source_of : {A L C I : Type 0} → Place A L C I → Sources C I
source_of p = record { clock = p.clock; dice = p.dice }

-- a poller and the sources of its places: of a post, and of a worker
abbrev pub outfit_of : {P C I : Type 0} → PollPost P C I → P × List (Sources C I)
outfit_of p = (p.poller, p.sources.items)

abbrev pub outfit_at : {P L C I : Type 0} → Worker P L C I → P × List (Sources C I)
outfit_at w = (w.poller, map source_of w.places.items)

-- the passes of a worker
abbrev pub passes_at : {P L C I : Type 0} → Worker P L C I → List HallPass
passes_at w = map (λ p. p.pass) w.places.items

-- the places of a worker from the one with the number k on
abbrev pub seats_from : (L C I : Type 0) → (C → Option (List ℕ)) → (I → Option (List (List ℕ))) → (dice : I → ℕ) → Tapes → Links → (k : ℕ)
    → List (Place HallPass L C I) → List Seat
seats_from L C I moments drawn dice tapes came k [] = []
seats_from L C I moments drawn dice tapes came k (p ∷ more) =
    seat p.pass (telling (tapes k) (moments p.clock) (drawn p.dice) (came k) (dice p.dice))
    ∷ seats_from L C I moments drawn dice tapes came (k + 1) more

abbrev pub crew_of : (P L C I : Type 0) → (P → Tapes) → (P → Links) → (links faults quota : P → ℕ) → (C → Option (List ℕ))
    → (I → Option (List (List ℕ))) → (dice : I → ℕ) → Worker P L C I → Crew
crew_of P L C I tapes came links faults quota moments drawn dice w = record {
  seats = seats_from L C I moments drawn dice (tapes w.poller) (came w.poller) 0 w.places.items;
  poller = counts (links w.poller) (faults w.poller) (quota w.poller);
  failed = w.failed;
}

-- its poller has as many places as it has itself, and there is room for their sources, which will be taken out
pub record IsFit (P L C I : Type 0) (many : P → ℕ) (w : Worker P L C I) : Type 0 where
  pub places : many w.poller ≡ length w.places.items
  pub none : w.sources.items ≡ []
  pub room : length w.places.items ≤ vec_capacity w.sources

-- it may begin: its passes came from the hall, each place is free, and nothing is said yet
pub record IsReady (P L C I : Type 0) (many : P → ℕ) (taken : P → ℕ → Bool) (hall : Hall) (w : Worker P L C I) : Type 0 where
  pub fit : IsFit P L C I many w
  pub came : All (λ (p : Place HallPass L C I). CameFrom hall p.pass) w.places.items
  pub busy : All (λ (p : Place HallPass L C I). p.busy ≡ None) w.places.items
  pub few : length w.places.items < 2 ^ 32
  pub free : (k : ℕ) → taken w.poller k ≡ false
  pub said : w.said ≡ []

-- room for so many places and for what is said there
pub record HasRoom (L C I : Type 0) (count : ℕ) (b : Bench L C I) : Type 0 where
  pub places : b.places.items ≡ []
  pub places_room : count ≤ vec_capacity b.places
  pub sources : b.sources.items ≡ []
  pub sources_room : count ≤ vec_capacity b.sources
  pub said : b.said ≡ []

-- there is room for each post
abbrev pub AllHaveRoom : (P L C I : Type 0) → List (Bench L C I) → List (PollPost P C I) → Type 0
AllHaveRoom P L C I [] [] = Unit {0}
AllHaveRoom P L C I (b ∷ benches) (p ∷ posts) = HasRoom L C I (length p.sources.items) b × AllHaveRoom P L C I benches posts
AllHaveRoom P L C I benches posts = ⊥

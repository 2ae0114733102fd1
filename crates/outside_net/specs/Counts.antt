-- What the real forms count. They tell no bytes.
use Rattle.std.specs.Prelude.{◌≡◌, ◌≤◌, ℕ, Bool, false, All, List, [], ◌∷◌, length, map, slice_index_or, replicate, Option, Some, None}
use Rattle.outside.specs.declared.poller.PollPost.{PollPost}
use Rattle.outside.specs.declared.poller.Ring.{Ring}
use Rattle.outside.specs.declared.poller.Ring.TheVariants as ring
use Rattle.outside.specs.Devices.{Rose}
use Rattle.outside.specs.Polls.{IsOpened, Rings, Seats, seats}
use Rattle.outside.specs.Posts.{added, plus}
use Rattle.outside_net.specs.declared.places.Seat.{Seat}

pub record LinkCounts : Type 0 where
  pub faults : ℕ
  pub ends : ℕ
  pub laters : ℕ

-- the places of a worker, how many links came to all of them, and its quota
pub record PlacesCounts : Type 0 where
  pub seats : List Seat
  pub links : ℕ
  pub quota : ℕ

-- a place to which no link came
abbrev pub unused : Seat
unused = record { taken = false; came = 0 }

abbrev pub seat_at : List Seat → ℕ → Seat
seat_at places k = slice_index_or places k unused

abbrev pub is_taken : PlacesCounts → ℕ → Bool
is_taken v k = (seat_at v.seats k).taken

abbrev pub came_at : PlacesCounts → ℕ → ℕ
came_at v k = (seat_at v.seats k).came

abbrev pub seats_of : PlacesCounts → Seats
seats_of v = seats (is_taken v) (came_at v) v.links

-- so many places that are free, to which no link came
abbrev pub fresh : (places quota : ℕ) → PlacesCounts
fresh places quota = record { seats = replicate places unused; links = 0; quota = quota }

-- a poller's faults, and its places
pub record PollerCounts : Type 0 where
  pub faults : ℕ
  pub places : PlacesCounts

-- a wait came to this
pub record RingsTo (L : Type 0) (v w : PollerCounts) (result : Ring L) : Type 0 where
  pub rings : Rings L (length v.places.seats) v.places.quota (seats_of v.places) (seats_of w.places) result
  pub places : length w.places.seats ≡ length v.places.seats
  pub quota : w.places.quota ≡ v.places.quota
  pub kept : v.faults ≤ w.faults
  pub cause : result ≡ ring.Failed → Rose v.faults w.faults

-- or to nothing yet
abbrev pub RingsIf : (L : Type 0) → (v w : PollerCounts) → Option (Ring L) → Type 0
RingsIf L v w None = w ≡ v
RingsIf L v w (Some result) = RingsTo L v w result

-- a post: its poller, and for each place the last moment of its clock and the faults of its dice
abbrev pub NetPost : Type 0
NetPost = PollPost PollerCounts ℕ ℕ

-- a poller that has so many places and this quota, and counted nothing
abbrev pub fresh_poller : (places quota : ℕ) → PollerCounts
fresh_poller places quota = record { faults = 0; places = fresh places quota }

-- it is as ports hand it out
abbrev pub IsOpenedNet : (places quota : ℕ) → PollerCounts → Type 0
IsOpenedNet places quota p =
    IsOpened PollerCounts (λ q. length q.places.seats) (λ q. q.places.quota) (λ q. q.faults) (λ q. q.places.links) (λ q k. is_taken q.places k)
    (λ q k. came_at q.places k) (λ _ _. None) places quota p

-- and so is the poller of each of these posts
abbrev pub AreOpened : (places quota : ℕ) → List NetPost → Type 0
AreOpened places quota posts = All (λ p. IsOpenedNet places quota p.poller) posts

-- the ports' own faults with those of the pollers that came back, the links and the faults of dice that came back, and the address of the pollers that
-- were handed out last
pub record PortsCounts : Type 0 where
  pub faults : ℕ
  pub links : ℕ
  pub dice_faults : ℕ
  pub address : Option (List ℕ)

abbrev pub took_post : PortsCounts → NetPost → PortsCounts
took_post v p = record v {
  faults = plus v.faults p.poller.faults;
  links = plus v.links p.poller.places.links;
  dice_faults = added v.dice_faults (map (λ s. s.dice) p.sources.items);
}

abbrev pub took_posts : PortsCounts → List NetPost → PortsCounts
took_posts v [] = v
took_posts v (p ∷ ps) = took_posts (took_post v p) ps

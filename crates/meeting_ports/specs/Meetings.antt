-- What links, pollers and ports that meet count.
use Rattle.std.specs.Prelude.{ℕ, zero, suc, Bool, false, List, [], ◌∷◌, All, Option, None}
use Rattle.outside.specs.declared.poller.PollPost.{PollPost}
use Rattle.outside.specs.Polls.{IsOpened, Seats, seats}
use Rattle.outside.specs.Posts.{plus}
use Rattle.outside.specs.Times.{ClockState}

pub record LinkCounts : Type 0 where
  pub faults : ℕ
  pub ends : ℕ

-- a poller: its places, of which the first alone is ever taken, its faults, the links that it handed out, and its quota
pub record PollerCounts : Type 0 where
  pub places : ℕ
  pub taken : Bool
  pub faults : ℕ
  pub links : ℕ
  pub quota : ℕ

-- a poller that has counted nothing
abbrev pub fresh : (places quota : ℕ) → PollerCounts
fresh places quota = record { places = places; taken = false; faults = 0; links = 0; quota = quota }

abbrev pub takes : PollerCounts → ℕ → Bool
takes p zero = p.taken
takes p (suc k) = false

abbrev pub came_at : PollerCounts → ℕ → ℕ
came_at p zero = p.links
came_at p (suc k) = 0

abbrev pub seats_of : PollerCounts → Seats
seats_of p = seats (takes p) (came_at p) p.links

abbrev pub MeetPost : Type 0
MeetPost = PollPost PollerCounts ClockState (List ℕ)

abbrev pub AreOpened : (places quota : ℕ) → List MeetPost → Type 0
AreOpened places quota posts =
    All (λ p. IsOpened PollerCounts (λ q. q.places) (λ q. q.quota) (λ q. q.faults) (λ q. q.links) takes came_at (λ _ _. None) places quota p.poller) posts

pub record PortsCounts : Type 0 where
  pub faults : ℕ
  pub links : ℕ
  pub address : Option (List ℕ)

abbrev pub took_post : PortsCounts → MeetPost → PortsCounts
took_post v p = record v { faults = plus v.faults p.poller.faults; links = plus v.links p.poller.links }

abbrev pub took_posts : PortsCounts → List MeetPost → PortsCounts
took_posts v [] = v
took_posts v (p ∷ ps) = took_posts (took_post v p) ps

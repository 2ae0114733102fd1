-- What ports tell.
use Rattle.std.specs.Prelude.{◌≡◌, ℕ, zero, suc, ◌+◌, ◌-◌, ◌^◌, nat_eq, nat_lt, not, ◌&&◌, Bool, true, false, min}
use Rattle.std.specs.Prelude.{map, List, [], ◌∷◌, ◌++◌, All, length, take, drop, replicate, Option, Some, None}
use Rattle.outside.specs.declared.dice.Filled.{Filled}
use Rattle.outside.specs.declared.dice.Filled.TheVariants as filled
use Rattle.outside.specs.declared.poller.PollPost.{PollPost}
use Rattle.outside.specs.declared.poller.Sources.{Sources}
use Rattle.outside.specs.Draws.{DiceState, Fills}
use Rattle.outside.specs.Plans.{Plan, called, failed, fails_next}
use Rattle.outside.specs.Polls.{CleanPollerState, IsFresh, IsOpened, PollerState, SeatState, all_tell, seat_at, untold_seat}
use Rattle.outside.specs.Tapes.{Mark, shown, told_where}
use Rattle.outside.specs.Times.{ClockState}

-- it holds of each
abbrev pub Each : (A : Type 0) → (A → Type 0) → List A → Type 0
Each A P [] = Unit {0}
Each A P (x ∷ xs) = P x × Each A P xs

-- a count to which another was added
abbrev pub plus : ℕ → ℕ → ℕ
plus n more = min (n + more) (2 ^ 64 - 1)

-- a count to which these were added, one after the other
abbrev pub added : ℕ → List ℕ → ℕ
added n [] = n
added n (more ∷ counts) = added (plus n more) counts

-- of each, one after the other
abbrev pub all_of : {A : Type 0} → List (List A) → List A
all_of [] = []
all_of (xs ∷ more) = xs ++ all_of more

-- where they are told, all of these were told, and they come last, post by post and place by place
abbrev pub Gathers : Option (List (List (List (List Mark)))) → List (List (Option (List (List Mark)))) → Option (List (List (List (List Mark)))) → Type 0
Gathers old given None = Unit {0}
Gathers None given (Some now) = ⊥
Gathers (Some old) given (Some now) = (more : List (List (List (List Mark)))) × (given ≡ map (map Some) more) × (now ≡ old ++ more)

-- so many come first, and each of them passes
abbrev pub pass_first : {A : Type 0} → (A → Bool) → ℕ → List A → Bool
pass_first test zero xs = true
pass_first test (suc n) [] = false
pass_first test (suc n) (x ∷ xs) = test x && pass_first test n xs

-- the tapes that a poller tells, place by place
abbrev pub tapes_told : PollerState → List (List (List Mark))
tapes_told p = map (λ s. shown (List Mark) s.tapes) p.places

-- where each of its places tells them
abbrev pub told_of : PollerState → Option (List (List (List Mark)))
told_of p = told_where (List (List Mark)) (all_tell p.places) (tapes_told p)

-- a post in memory
abbrev pub MemPost : Type 0
MemPost = PollPost PollerState ClockState DiceState

-- the poller has counted nothing, and none of its places was used
abbrev pub IsUnused : MemPost → Type 0
IsUnused p = (p.poller.plan.faults ≡ 0) × (p.poller.links ≡ 0) × Each SeatState IsFresh p.poller.places

-- it has so many places, and sources for each
abbrev pub fits : (places : ℕ) → MemPost → Bool
fits places p = nat_eq (length p.poller.places) places && nat_eq (length p.sources.items) places

-- the post with this quota for its poller
abbrev pub opened : (quota : ℕ) → MemPost → MemPost
opened quota p = record p { poller = record p.poller { quota = quota } }

-- their pollers are as ports hand them out
abbrev pub AreOpened : (places quota : ℕ) → List MemPost → Type 0
AreOpened places quota posts =
    All (λ p. IsOpened PollerState (λ q. length q.places) (λ q. q.quota) (λ q. q.plan.faults) (λ q. q.links) (λ q k. (seat_at q.places k).taken)
    (λ q k. (seat_at q.places k).came) (λ q k. (seat_at q.places k).tapes) places quota p.poller) posts

-- ports in memory: their plan, the posts to come, their dice, their counts of links and of dice faults, the address of the pollers that were handed
-- out last, the tapes of the pollers that came back, where they tell them, and the room for more
pub record PortsState : Type 0 where
  pub plan : Plan
  pub left : List MemPost
  pub dice : DiceState
  pub links : ℕ
  pub dice_faults : ℕ
  pub address : Option (List ℕ)
  pub tapes : Option (List (List (List (List Mark))))
  pub room : ℕ

-- whether posts are handed out, where there is memory for them: there are enough, and each fits
abbrev pub can_hand : PortsState → (workers places : ℕ) → Bool
can_hand v workers places = not (fails_next v.plan) && pass_first (fits places) workers v.left

-- these posts were handed out: the first of the script
abbrev pub Hands : PortsState → PortsState → (address : List ℕ) → (workers places quota : ℕ) → List MemPost → Type 0
Hands v w address workers places quota posts =
    (can_hand v workers places ≡ true)
    × (posts ≡ map (opened quota) (take workers v.left))
    × (w ≡ record v { plan = called v.plan; left = drop workers v.left; address = Some address })

-- no posts were handed out: by the plan, or because the script has too few that fit
abbrev pub Refuses : PortsState → PortsState → (workers places : ℕ) → Type 0
Refuses v w workers places = (can_hand v workers places ≡ false) × (w ≡ record v { plan = failed v.plan })

-- one more poller's tapes at the end, where all are told
abbrev pub and_tapes : Option (List (List (List (List Mark)))) → Option (List (List (List Mark))) → Option (List (List (List (List Mark))))
and_tapes None tapes = None
and_tapes (Some old) None = None
and_tapes (Some old) (Some tapes) = Some (old ++ tapes ∷ [])

abbrev pub kept_by : Bool → PortsState → PollerState → PortsState
kept_by true v p = record v { tapes = and_tapes v.tapes (told_of p); room = v.room - 1 }
kept_by false v p = record v { tapes = None }

-- the faults of the dice of these places
abbrev pub dice_faults_of : List (Sources ClockState DiceState) → List ℕ
dice_faults_of sources = map (λ s. s.dice.plan.faults) sources

-- after a post was taken back: its counts are added, and its poller is kept where there is room
abbrev pub took_post : PortsState → MemPost → PortsState
took_post v p =
    kept_by (nat_lt 0 v.room)
    (record v {
      plan = record v.plan { faults = plus v.plan.faults p.poller.plan.faults };
      links = plus v.links p.poller.links;
      dice_faults = added v.dice_faults (dice_faults_of p.sources.items);
    })
    p.poller

abbrev pub took_posts : PortsState → List MemPost → PortsState
took_posts v [] = v
took_posts v (p ∷ ps) = took_posts (took_post v p) ps

abbrev pub after_fill : Plan → Filled → Plan
after_fill p filled.Full = called p
after_fill p filled.Failed = failed p

-- what a filling by ports in memory comes to
abbrev pub PortsFill : PortsState → PortsState → Filled → List ℕ → Type 0
PortsFill v w result bytes =
    (fails_next v.plan ≡ true → (result ≡ filled.Failed) × (w ≡ record v { plan = failed v.plan }))
    × (fails_next v.plan ≡ false → Fills v.dice w.dice result bytes × (w ≡ record v { plan = after_fill v.plan result; dice = w.dice }))

-- a post of ports that never fail
abbrev pub CleanPost : Type 0
CleanPost = PollPost CleanPollerState ClockState (List ℕ)

-- the poller handed nothing out, and none of its places was used
abbrev pub IsUnusedClean : CleanPost → Type 0
IsUnusedClean p = (p.poller.links ≡ 0) × Each SeatState IsFresh p.poller.places

abbrev pub fits_clean : (places : ℕ) → CleanPost → Bool
fits_clean places p = nat_eq (length p.poller.places) places && nat_eq (length p.sources.items) places

abbrev pub opened_clean : (quota : ℕ) → CleanPost → CleanPost
opened_clean quota p = record p { poller = record p.poller { quota = quota } }

abbrev pub AreOpenedClean : (places quota : ℕ) → List CleanPost → Type 0
AreOpenedClean places quota posts =
    All (λ p. IsOpened CleanPollerState (λ q. length q.places) (λ q. q.quota) (λ _. 0) (λ q. q.links) (λ q k. (seat_at q.places k).taken)
    (λ q k. (seat_at q.places k).came) (λ _ _. None) places quota p.poller) posts

-- a poller without a script: its links have ended
abbrev pub plain_poller : (places quota : ℕ) → CleanPollerState
plain_poller places quota = record { left = []; places = replicate places untold_seat; links = 0; quota = quota; turn = 0 }

-- a clock that says 0, and dice that give zeros
abbrev pub plain_sources : Sources ClockState (List ℕ)
plain_sources = record { clock = record { left = []; last = 0; told = Some []; room = 0 }; dice = [] }

-- a post without a script
pub record IsPlain (places quota : ℕ) (p : CleanPost) : Type 0 where
  pub poller : p.poller ≡ plain_poller places quota
  pub sources : p.sources.items ≡ replicate places plain_sources

-- ports that never fail: the posts to come, the bytes that their dice are to give, their count of links, and the address of the pollers that were
-- handed out last
pub record CleanPortsState : Type 0 where
  pub left : List CleanPost
  pub dice : List ℕ
  pub links : ℕ
  pub address : Option (List ℕ)

abbrev pub FindsBy : Bool → (left now : List CleanPost) → (workers places quota : ℕ) → List CleanPost → Type 0
FindsBy true left now workers places quota posts = (posts ≡ map (opened_clean quota) (take workers left)) × (now ≡ drop workers left)
FindsBy false left now workers places quota posts = (length posts ≡ workers) × All (IsPlain places quota) posts × (now ≡ left)

-- these posts are the first of those to come, where there are enough and each fits, or else plain ones
abbrev pub Finds : (left now : List CleanPost) → (workers places quota : ℕ) → List CleanPost → Type 0
Finds left now workers places quota posts = FindsBy (pass_first (fits_clean places) workers left) left now workers places quota posts

-- these posts were handed out
abbrev pub CleanHands : CleanPortsState → CleanPortsState → (address : List ℕ) → (workers places quota : ℕ) → List CleanPost → Type 0
CleanHands v w address workers places quota posts =
    Finds v.left w.left workers places quota posts × (w ≡ record v { left = w.left; address = Some address })

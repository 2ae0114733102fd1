-- What holds of all stays, and what happens to one session keeps it.
use Rattle.std.proofs.Common.{◌≡◌, ℕ, ◌≤◌, ◌<◌, ◌==◌, ◌&&◌, List, [], length, sym, refl, ap, ◌∙◌, subst, inl, inr, Bool, true, false, Option, Some, None}
use Rattle.std.proofs.lemmas.Bool.{eqb-true, eq-eqb, ne_eqb}
use Rattle.stanza_model.specs.declared.room.Seat.{Seat}
use Rattle.muc_service.specs.Rooms.{Hosted, Rooms}
use Rattle.house_model.specs.Numbered.{put}
use Rattle.house_model.specs.Sessions.{Session}
use Rattle.house_model.specs.Traffic.{Traffic}
use Rattle.house_model.specs.States.{World}
use Rattle.house_model.specs.Stays.{Item, Stay, Unmade, Open, Ended, Logs, closed, closes, takes_entries, stops, own}
use Rattle.house_model.proofs.StayLemmas.{choose, put_both, Fine, grow_same, stay_rests, is_open_in, own_closed}
use Rattle.house_model.proofs.SeatLemmas.{seat, AreDistinct, EachSeat, each_by, seats_of}
use Rattle.house_model.proofs.HallLemmas.{found}
use Rattle.house_model.proofs.QueueSteps.{stops_or_not}

-- The rooms, as stays see them: the seats in each, how many items it broadcast while it is there, and how many rooms and stays there were.
pub record Hall : Type 0 where
  pub seats : ℕ → List Seat
  pub items : ℕ → Option ℕ
  pub made : ℕ
  pub stays : ℕ

abbrev pub seats_in : Option Hosted → List Seat
seats_in None = []
seats_in (Some h) = seats_of h.room.occupants

abbrev pub items_in : Option Hosted → Option ℕ
items_in None = None
items_in (Some h) = Some h.items

abbrev pub hall_of : Rooms → Hall
hall_of rooms = record {
  seats = λ r. seats_in (found r rooms.hosted);
  items = λ r. items_in (found r rooms.hosted);
  made = rooms.made;
  stays = rooms.stays;
}

-- all stays, as one session has them
abbrev pub AllFine : (ℕ → List Item) → Hall → ℕ → Session Traffic → (ℕ → Stay) → Type 0
AllFine order hall s x stays = (i : ℕ) → Fine order (λ r. seat s (hall.seats r)) s x.rest.address (takes_entries x) x.traffic.queued i (own s (stays i))

-- its stay is open where it has a seat, just as long as it takes entries
abbrev pub AllPlaced : Hall → ℕ → Session Traffic → (ℕ → Stay) → Type 0
AllPlaced hall s x stays = (r i : ℕ) → seat s (hall.seats r) ≡ Some i → is_open_in r (own s (stays i)) ≡ takes_entries x

abbrev pub IsSeated : ℕ → (ℕ → Session Traffic) → ℕ → Seat → Type 0
IsSeated made sessions stays o = (o.session ≤ made) × (o.stay ≤ stays) × (o.address ≡ (sessions o.session).rest.address)

abbrev pub IsCounted : ℕ → Option ℕ → Type 0
IsCounted n None = Unit {0}
IsCounted n (Some items) = items ≡ n

abbrev pub IsUnmade : Session Traffic → Type 0
IsUnmade x = (takes_entries x ≡ false) × (x.traffic.queued ≡ [])

-- Each session is given items by an order of its own, so that a broadcast that has reached some of them can be spoken of.
pub record GoodBy (orders : ℕ → ℕ → List Item) (made : ℕ) (sessions : ℕ → Session Traffic) (hall : Hall) (logs : Logs) : Type 0 where
  pub fine : (s : ℕ) → AllFine (orders s) hall s (sessions s) logs.stays
  pub placed : (s : ℕ) → AllPlaced hall s (sessions s) logs.stays
  pub seated : (r : ℕ) → EachSeat (IsSeated made sessions hall.stays) (hall.seats r)
  pub distinct : (r : ℕ) → AreDistinct (hall.seats r)
  pub counted : (r : ℕ) → IsCounted (length (logs.order r)) (hall.items r)
  pub later : (i : ℕ) → hall.stays < i → logs.stays i ≡ Unmade
  pub fresh : (r : ℕ) → hall.made < r → (hall.items r ≡ None) × (logs.order r ≡ [])
  pub unmade : (s : ℕ) → made < s → IsUnmade (sessions s)

abbrev pub Good : World Traffic → Logs → Type 0
Good world logs = GoodBy (λ s. logs.order) world.made world.sessions (hall_of world.rooms) logs

-- stays of sessions that are not among those that close
pub own_spared : (s : ℕ) (among : ℕ → ℕ → Bool) (order : ℕ → List Item) (t : Stay) → ((r : ℕ) → among s r ≡ false) → own s (closed among order t) ≡ own s t
own_spared s among order t spared = own_closed s among order t ∙ same t where
  same : (t : Stay) → closed among order (own s t) ≡ own s t
  same Unmade = refl
  same (Ended p r a e) = choose (λ (t : Stay). closed among order t ≡ t) (p == s) (Ended p r a e) Unmade (λ (_ : _). refl) (λ (_ : _). refl)
  same (Open p r a) =
      choose (λ (t : Stay). closed among order t ≡ t) (p == s) (Open p r a) Unmade
      (λ (e : _). let f : among p r ≡ false = ap (λ (j : ℕ). among j r) (eqb-true p s e) ∙ spared r in rw f refl)
      (λ (_ : _). refl)

all_shut : (r : ℕ) (s : ℕ) (among : ℕ → ℕ → Bool) (order : ℕ → List Item) (t : Stay) → ((k : ℕ) → among s k ≡ true)
    → is_open_in r (own s (closed among order t)) ≡ false
all_shut r s among order Unmade all = refl
all_shut r s among order (Ended p k a e) all = choose (λ (t : Stay). is_open_in r t ≡ false) (p == s) (Ended p k a e) Unmade (λ (_ : _). refl) (λ (_ : _). refl)
all_shut r s among order (Open p k a) all =
    ap (is_open_in r) (own_closed s among order (Open p k a))
    ∙ choose (λ (t : Stay). is_open_in r (closed among order t) ≡ false) (p == s) (Open p k a) Unmade
    (λ (e : _). let f : among p k ≡ true = ap (λ (j : ℕ). among j k) (eqb-true p s e) ∙ all k in rw f refl)
    (λ (_ : _). refl)

-- a session none of whose stays is closed or takes an entry
pub fine_stays : (order order' : ℕ → List Item) (hall : Hall) (s : ℕ) (x : Session Traffic) (stays stays' : ℕ → Stay)
    → ((r : ℕ) → order' r ≡ order r) → ((i : ℕ) → own s (stays' i) ≡ own s (stays i))
    → AllFine order hall s x stays → AllFine order' hall s x stays'
fine_stays order order' hall s x stays stays' same spared fine i =
    subst (Fine order' (λ r. seat s (hall.seats r)) s x.rest.address (takes_entries x) x.traffic.queued i) (sym (spared i))
    (stay_rests order order' (λ r. seat s (hall.seats r)) (λ r. seat s (hall.seats r)) s x.rest.address (takes_entries x) (takes_entries x) x.traffic.queued
    x.traffic.queued i (own s (stays i))
    (grow_same order order' same) refl (λ r a is seated alive. (same r, seated, alive)) (fine i))

-- which stays close when session s is another
abbrev pub ending : ℕ → Session Traffic → Session Traffic → ℕ → ℕ → Bool
ending s x y q r = (q == s) && stops x y

pub ending_else : (s : ℕ) (x y : Session Traffic) (j r : ℕ) → (j ≡ s → ⊥) → ending s x y j r ≡ false
ending_else s x y j r ne = let t : (j == s) ≡ false = ne_eqb j s ne in rw t refl

pub ending_here : (s : ℕ) (x y : Session Traffic) (r : ℕ) → ending s x y s r ≡ stops x y
ending_here s x y r = let t : (s == s) ≡ true = eq-eqb s s refl in rw t refl

-- a session is another
module _ (orders orders' : ℕ → ℕ → List Item) (made : ℕ) (sessions : ℕ → Session Traffic) (hall : Hall) (logs : Logs) (s : ℕ) (y : Session Traffic)
    (address : y.rest.address ≡ (sessions s).rest.address)
    (rises : takes_entries y ≡ true → takes_entries (sessions s) ≡ true)
    (quiet : takes_entries (sessions s) ≡ false → y.traffic.queued ≡ (sessions s).traffic.queued) where
  stays' : ℕ → Stay
  stays' i = closed (ending s (sessions s) y) logs.order (logs.stays i)

  placed_here : AllPlaced hall s (sessions s) logs.stays → AllPlaced hall s y (λ i. closed (ending s (sessions s) y) logs.order (logs.stays i))
  placed_here placed r i at =
      elim (stops_or_not (takes_entries (sessions s)) (takes_entries y) rises) as
      (λ _. is_open_in r (own s (closed (ending s (sessions s) y) logs.order (logs.stays i))) ≡ takes_entries y) [
        | inl e ↦ all_shut r s (ending s (sessions s) y) logs.order (logs.stays i) (λ k. ending_here s (sessions s) y k ∙ e.0) ∙ sym e.1
        | inr e ↦ ap (is_open_in r) (own_spared s (ending s (sessions s) y) logs.order (logs.stays i) (λ k. ending_here s (sessions s) y k ∙ e.0))
            ∙ (placed r i at ∙ sym e.1)
      ]

  pub other_good : AllFine (orders' s) hall s y (λ i. closed (ending s (sessions s) y) logs.order (logs.stays i))
      → ((j : ℕ) → (j ≡ s → ⊥) → (r : ℕ) → orders' j r ≡ orders j r)
      → GoodBy orders made sessions hall logs
      → GoodBy orders' made (put s y sessions) hall (closes (ending s (sessions s) y) logs)
  other_good mine others good = record {
    fine = put_both (λ j (x : Session Traffic). AllFine (orders' j) hall j x (λ i. closed (ending s (sessions s) y) logs.order (logs.stays i))) s y sessions
        mine
        (λ j ne. fine_stays (orders j) (orders' j) hall j (sessions j) logs.stays (λ i. closed (ending s (sessions s) y) logs.order (logs.stays i))
        (others j ne)
        (λ i. own_spared j (ending s (sessions s) y) logs.order (logs.stays i) (λ r. ending_else s (sessions s) y j r ne)) (good.fine j));
    placed = put_both (λ j (x : Session Traffic). AllPlaced hall j x (λ i. closed (ending s (sessions s) y) logs.order (logs.stays i))) s y sessions
        (placed_here (good.placed s))
        (λ j ne r i at. ap (is_open_in r) (own_spared j (ending s (sessions s) y) logs.order (logs.stays i) (λ k. ending_else s (sessions s) y j k ne))
        ∙ good.placed j r i at);
    seated = λ r. each_by (IsSeated made sessions hall.stays) (IsSeated made (put s y sessions) hall.stays) (hall.seats r)
        (λ o h. (
          h.0,
          h.1,
          h.2 ∙ sym
              (put_both (λ j (x : Session Traffic). x.rest.address ≡ (sessions j).rest.address) s y sessions address (λ j _. refl) o.session),
        )) (good.seated r);
    distinct = good.distinct;
    counted = good.counted;
    later = λ i above. ap (closed (ending s (sessions s) y) logs.order) (good.later i above);
    fresh = good.fresh;
    unmade = put_both (λ j (x : Session Traffic). made < j → IsUnmade x) s y sessions
        (λ above. let u : IsUnmade (sessions s) = good.unmade s above in
        (unmade_stays (takes_entries y) (takes_entries (sessions s)) rises u.0, quiet u.0 ∙ u.1))
        (λ j _ above. good.unmade j above);
  } where
    unmade_stays : (b c : Bool) → (b ≡ true → c ≡ true) → c ≡ false → b ≡ false
    unmade_stays true c h e = absurd (let z : true ≡ false = sym (h refl) ∙ e in cc)
    unmade_stays false c h e = refl

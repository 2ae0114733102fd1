-- A room that was made and is there no more is never there again, and none is there whose number is still to come.
use Rattle.std.proofs.Common.{◌≡◌, ◌≤◌, ◌<◌, ℕ, ◌+◌, ◌==◌, List, [], ◌∷◌, arith, inl, inr, refl, sym, ap, ◌∙◌, Bool, true, false, Option, Some}
use Rattle.std.proofs.Common.{None, is_some, if◌then◌else◌}
use Rattle.std.proofs.lemmas.Bool.{cases_lt, eqb-true, eq-eqb, ne_eqb}
use Rattle.std.specs.Option.{option_map}
use Rattle.stanza_model.specs.declared.effect.Change.{Change}
use Rattle.stanza_model.specs.declared.effect.Change.TheVariants as change
use Rattle.stanza_model.specs.declared.effect.Effect as stanza
use Rattle.stanza_model.specs.declared.effect.Effect.TheVariants as effect
use Rattle.stanza_model.specs.declared.room.Room.{Room}
use Rattle.muc_room.specs.States.{set_affiliation, set_role}
use Rattle.muc_service.specs.Casting.{after}
use Rattle.muc_service.specs.Numbering.{Numbered}
use Rattle.muc_service.specs.Rooms as service
use Rattle.muc_service.specs.Rooms.{Hosted, Rooms, changed_in, configured, enters, has_subject, leaves, made_room, renames, shows, step, unlocked}
use Rattle.archive_table.specs.Archives.{Archives, Rows, Said, no_rows, with_row}
use Rattle.house_model.specs.Archiving.{rows_of_room}
use Rattle.house_model.specs.RoomFits.{AreOf, ChangeIsOf, IsOf, IsThere}
use Rattle.house_model.proofs.FiledRows.{all_in, grown, kept_in, set_in}
use Rattle.house_model.proofs.HallLemmas.{added_is, found, removed_is}
use Rattle.house_model.proofs.SeatLemmas.{two}
use Rattle.house_model.proofs.StayHosts.{changed_is, counted_is, one_more, with_change}
use Rattle.house_model.proofs.StayLemmas.{put_both}
use Rattle.house_model.proofs.StayNumbers.{none_above}

abbrev pub IsGone : Rooms → (n : ℕ) → Type 0
IsGone rooms n = (n ≤ rooms.made) × (found n rooms.hosted ≡ None)

abbrev pub NoneAbove : Rooms → Type 0
NoneAbove rooms = (n : ℕ) → rooms.made < n → found n rooms.hosted ≡ None

pub numbered_none : (rooms : Rooms) → Numbered rooms → NoneAbove rooms
numbered_none rooms numbered n above = none_above rooms.made n rooms.hosted numbered above

none_by : (o : Option Hosted) → is_some o ≡ false → o ≡ None
none_by None is = refl
none_by (Some h) is = absurd (let z : true ≡ false = is in cc)

pub there_not_gone : (rooms : Rooms) (n : ℕ) → IsThere rooms n → IsGone rooms n → ⊥
there_not_gone rooms n there gone = let z : false ≡ true = sym (ap is_some gone.1) ∙ there in cc

-- which room an effect makes

abbrev MakesBy : Change → ℕ → Type 0
MakesBy (change.RoomMade n address owner) m = n ≡ m
MakesBy c m = ⊥

abbrev Makes : stanza.Effect → ℕ → Type 0
Makes (effect.Set c) m = MakesBy c m
Makes e m = ⊥

changed_none : (n m : ℕ) (f : Room → Room) (hs : List Hosted) → ((x : Room) → (f x).number ≡ x.number) → found m hs ≡ None
    → found m (changed_in n f hs) ≡ None
changed_none n m f hs same out =
    changed_is n f hs same m
    ∙ put_both (λ k (o : Option Hosted). found k hs ≡ None → o ≡ None) n (option_map (with_change f) (found n hs)) (λ k. found k hs)
    (λ none. ap (option_map (with_change f)) none) (λ k _ none. none) m out

set_none : (rooms : Rooms) (c : Change) (m : ℕ) → ChangeIsOf rooms c → (MakesBy c m → ⊥) → found m rooms.hosted ≡ None
    → found m (service.set c rooms).hosted ≡ None
set_none rooms (change.RoomMade n address owner) m is other out =
    let new : Hosted = record { room = made_room n address owner; items = 0 } in
    added_is new rooms.hosted (none_by (found n rooms.hosted) is.1) m
    ∙ put_both (λ k (o : Option Hosted). found k rooms.hosted ≡ None → (n ≡ k → ⊥) → o ≡ None) n (Some new) (λ k. found k rooms.hosted)
    (λ none ne. absurd (ne refl)) (λ k _ none ne. none) m out other
set_none rooms (change.RoomGone n) m is other out =
    removed_is n rooms.hosted m
    ∙ put_both (λ k (o : Option Hosted). found k rooms.hosted ≡ None → o ≡ None) n None (λ k. found k rooms.hosted)
    (λ none. refl) (λ k _ none. none) m out
set_none rooms (change.Unlocked n) m is other out = changed_none n m unlocked rooms.hosted (λ x. refl) out
set_none rooms (change.Configured n config) m is other out = changed_none n m (configured config) rooms.hosted (λ x. refl) out
set_none rooms (change.Affiliated n address a) m is other out = changed_none n m (set_affiliation address a) rooms.hosted (λ x. refl) out
set_none rooms (change.RoleSet n s role) m is other out = changed_none n m (set_role s role) rooms.hosted (λ x. refl) out
set_none rooms (change.Renamed n s nick) m is other out = changed_none n m (renames s nick) rooms.hosted (λ x. refl) out
set_none rooms (change.OccupantShown n s presence) m is other out = changed_none n m (shows s presence) rooms.hosted (λ x. refl) out
set_none rooms (change.Subject n text stamp) m is other out = changed_none n m (has_subject text stamp) rooms.hosted (λ x. refl) out
set_none rooms c m is other out = out

step_none : (rooms : Rooms) (e : stanza.Effect) (m : ℕ) → IsOf rooms e → (Makes e m → ⊥) → found m rooms.hosted ≡ None
    → found m (step e rooms).hosted ≡ None
step_none rooms (effect.Queue s to rest origin) m is other out = out
step_none rooms (effect.Broadcast n item) m is other out =
    counted_is n rooms.hosted m
    ∙ put_both (λ k (o : Option Hosted). found k rooms.hosted ≡ None → o ≡ None) n
    (option_map one_more (found n rooms.hosted)) (λ k. found k rooms.hosted) (λ none. ap (option_map one_more) none) (λ k _ none. none) m out
step_none rooms (effect.Enter n s address nick role) m is other out =
    changed_none n m (enters (record { session = s; address = address; stay = rooms.stays + 1 }) nick role) rooms.hosted (λ x. refl) out
step_none rooms (effect.Leave n s) m is other out = changed_none n m (leaves s) rooms.hosted (λ x. refl) out
step_none rooms (effect.Keep user peer text moment) m is other out = out
step_none rooms (effect.Set c) m is other out = set_none rooms c m is other out

-- how many rooms were made

set_made : (rooms : Rooms) (c : Change) → rooms.made ≤ (service.set c rooms).made
set_made rooms (change.RoomMade n address owner) = omega arith
set_made rooms c = omega arith

step_made : (rooms : Rooms) (e : stanza.Effect) → rooms.made ≤ (step e rooms).made
step_made rooms (effect.Queue s to rest origin) = omega arith
step_made rooms (effect.Broadcast n item) = omega arith
step_made rooms (effect.Enter n s address nick role) = omega arith
step_made rooms (effect.Leave n s) = omega arith
step_made rooms (effect.Keep user peer text moment) = omega arith
step_made rooms (effect.Set c) = set_made rooms c

set_known : (rooms : Rooms) (c : Change) (m : ℕ) → ChangeIsOf rooms c → m ≤ rooms.made → MakesBy c m → ⊥
set_known rooms (change.RoomMade n address owner) m is low makes = (let next : n ≡ rooms.made + 1 = is.0 in omega (arith, low, makes, next))
set_known rooms c m is low makes = makes

known : (rooms : Rooms) (e : stanza.Effect) (m : ℕ) → IsOf rooms e → m ≤ rooms.made → Makes e m → ⊥
known rooms (effect.Set c) m is low makes = set_known rooms c m is low makes
known rooms e m is low makes = makes

set_unknown : (rooms : Rooms) (c : Change) (m : ℕ) → ChangeIsOf rooms c → (service.set c rooms).made < m → MakesBy c m → ⊥
set_unknown rooms (change.RoomMade n address owner) m is above makes =
    (let next : n ≡ rooms.made + 1 = is.0 in let high : rooms.made + 1 < m = above in omega (arith, high, makes, next))
set_unknown rooms c m is above makes = makes

unknown : (rooms : Rooms) (e : stanza.Effect) (m : ℕ) → IsOf rooms e → (step e rooms).made < m → Makes e m → ⊥
unknown rooms (effect.Set c) m is above makes = set_unknown rooms c m is above makes
unknown rooms e m is above makes = makes

lower : (a b c : ℕ) → a ≤ b → b < c → a < c
lower a b c one other = omega (arith, one, other)

pub step_above : (rooms : Rooms) (e : stanza.Effect) → IsOf rooms e → NoneAbove rooms → NoneAbove (step e rooms)
step_above rooms e is none m above =
    step_none rooms e m is (unknown rooms e m is above) (none m (lower rooms.made (step e rooms).made m (step_made rooms e) above))

upper : (a b c : ℕ) → a ≤ b → b ≤ c → a ≤ c
upper a b c one other = omega (arith, one, other)

step_gone : (rooms : Rooms) (e : stanza.Effect) (m : ℕ) → IsOf rooms e → IsGone rooms m → IsGone (step e rooms) m
step_gone rooms e m is gone =
    (upper m rooms.made (step e rooms).made gone.0 (step_made rooms e), step_none rooms e m is (known rooms e m is gone.0) gone.1)

pub after_gone : (es : List stanza.Effect) (rooms : Rooms) (m : ℕ) → AreOf rooms es → IsGone rooms m → IsGone (after rooms es) m
after_gone [] rooms m are gone = gone
after_gone (e ∷ es) rooms m are gone = after_gone es (step e rooms) m are.1 (step_gone rooms e m are.0 gone)

pub after_above : (es : List stanza.Effect) (rooms : Rooms) → AreOf rooms es → NoneAbove rooms → NoneAbove (after rooms es)
after_above [] rooms are none = none
after_above (e ∷ es) rooms are none = after_above es (step e rooms) are.1 (step_above rooms e are.0 none)

-- a room that goes was made
removed_gone : (rooms : Rooms) (m n : ℕ) → NoneAbove rooms → IsThere rooms m → n ≡ m → IsGone (step (effect.Set (change.RoomGone m)) rooms) n
removed_gone rooms m n none there same = (
  elim (cases_lt rooms.made m) [
    | inl above ↦ absurd (let z : false ≡ true = sym (ap is_some (none m above)) ∙ there in cc)
    | inr low ↦ (let below : m ≤ rooms.made = low in omega (arith, same, below))
  ],
  removed_is m rooms.hosted n ∙ (let t : (n == m) ≡ true = eq-eqb n m same in rw t refl),
)

-- The archive of a room that isn't gone afterwards has the rows that are kept of it.

pub number_turned : (n m : ℕ) → (n == m) ≡ (m == n)
number_turned n m =
    elim (two (n == m)) [
      | inl e ↦ e ∙ sym (eq-eqb m n (sym (eqb-true n m e)))
      | inr e ↦ e ∙ sym (ne_eqb m n (λ (q : m ≡ n). let z : true ≡ false = sym (eq-eqb n m (sym q)) ∙ e in cc))
    ]

kept_of : (m n : ℕ) (x : Said) (more : List Said) (of : ℕ → Rows) (b : Bool) → (m == n) ≡ b
    → grown more (if b then with_row x.peer x.text x.moment (of m) else of n) ≡ grown (if b then x ∷ more else more) (of n)
kept_of m n x more of true is = ap (λ (k : ℕ). grown more (with_row x.peer x.text x.moment (of k))) (eqb-true m n is)
kept_of m n x more of false is = refl

pub room_rows : (es : List stanza.Effect) (rooms : Rooms) (a : Archives) (n : ℕ) → AreOf rooms es → NoneAbove rooms
    → (IsGone (after rooms es) n → ⊥) → (all_in es a).rooms n ≡ grown (rows_of_room n es) (a.rooms n)
room_rows [] rooms a n are none stays = refl
room_rows (effect.Set (change.RoomRow m peer text moment) ∷ es) rooms a n are none stays =
    let x : Said = record { peer = peer; text = text; moment = moment } in
    room_rows es rooms (set_in (change.RoomRow m peer text moment) a) n are.1 none stays
    ∙ (ap (λ (b : Bool). grown (rows_of_room n es) (if b then with_row peer text moment (a.rooms m) else a.rooms n)) (number_turned n m)
    ∙ kept_of m n x (rows_of_room n es) a.rooms (m == n) refl)
room_rows (effect.Set (change.RoomGone m) ∷ es) rooms a n are none stays =
    let e : stanza.Effect = effect.Set (change.RoomGone m) in
    room_rows es (step e rooms) (set_in (change.RoomGone m) a) n are.1 (step_above rooms e are.0 none) stays
    ∙ ap (grown (rows_of_room n es)) (elim (two (n == m)) as (λ _. (if n == m then no_rows else a.rooms n) ≡ a.rooms n) [
      | inl same ↦ absurd (stays (after_gone es (step e rooms) n are.1 (removed_gone rooms m n none are.0 (eqb-true n m same))))
      | inr differs ↦ rw differs refl
    ])
room_rows (effect.Set c ∷ es) rooms a n are none stays =
    room_rows es (step (effect.Set c) rooms) a n are.1 (step_above rooms (effect.Set c) are.0 none) stays
room_rows (effect.Queue s to rest origin ∷ es) rooms a n are none stays = room_rows es rooms a n are.1 none stays
room_rows (effect.Broadcast m item ∷ es) rooms a n are none stays =
    room_rows es (step (effect.Broadcast m item) rooms) a n are.1 (step_above rooms (effect.Broadcast m item) are.0 none) stays
room_rows (effect.Enter m s address nick role ∷ es) rooms a n are none stays =
    room_rows es (step (effect.Enter m s address nick role) rooms) a n are.1 (step_above rooms (effect.Enter m s address nick role) are.0 none) stays
room_rows (effect.Leave m s ∷ es) rooms a n are none stays =
    room_rows es (step (effect.Leave m s) rooms) a n are.1 (step_above rooms (effect.Leave m s) are.0 none) stays
room_rows (effect.Keep user peer text moment ∷ es) rooms a n are none stays =
    room_rows es rooms (kept_in (effect.Keep user peer text moment) a) n are.1 none stays

-- No two rooms that are there have one number, and each was made; so a room that is found at its address is found by its number.
use Rattle.std.proofs.Common.{◌≡◌, ℕ, ◌+◌, ◌==◌, ◌<◌, ◌≤◌, List, [], ◌∷◌, ◌++◌, sym, refl, ap, ◌∙◌, subst, arith, inl, inr, not, Bool}
use Rattle.std.proofs.Common.{false, Option, Some, None}
use Rattle.std.specs.List.{filter, find}
use Rattle.std.specs.Option.{option_map}
use Rattle.std.proofs.lemmas.Bool.{eqb-true, eq-eqb, ne_eqb}
use Rattle.jid_core.specs.Addresses.{Address}
use Rattle.stanza_model.specs.declared.effect.Change.{Change}
use Rattle.stanza_model.specs.declared.effect.Change.TheVariants as change
use Rattle.stanza_model.specs.declared.effect.Effect as stanza
use Rattle.stanza_model.specs.declared.effect.Effect.TheVariants as effect
use Rattle.stanza_model.specs.declared.room.Room.{Room}
use Rattle.muc_room.specs.States.{set_affiliation, set_role}
use Rattle.muc_service.specs.Numbering.{AreNumbered, Numbered}
use Rattle.muc_service.specs.Rooms as service
use Rattle.muc_service.specs.Rooms.{Hosted, Rooms, changed, configured, enters, has_subject, leaves, made_room, renames, shows, step, unlocked}
use Rattle.house_model.specs.Casts.{Suits, ChangeSuits}
use Rattle.house_model.proofs.StayLemmas.{choose, put_both}
use Rattle.house_model.proofs.SeatLemmas.{two}
use Rattle.house_model.proofs.HallLemmas.{found, altered, altered_is, changed_altered, counted_altered, added_is, removed_is}

-- what they tell

pub found_itself : (made : ℕ) (q : Hosted → Bool) (hs : List Hosted) (h : Hosted) → AreNumbered made hs → find q hs ≡ Some h
    → found h.room.number hs ≡ Some h
found_itself made q [] h all is = absurd (let z : None ≡ Some h = is in cc)
found_itself made q (x ∷ xs) h all is =
    elim (two (q x)) as (λ _. found h.room.number (x ∷ xs) ≡ Some h) [
      | inl e ↦ (
          let z : Some x ≡ Some h = rw e at is in
          let same : x ≡ h = cc in
          subst (λ (y : Hosted). found y.room.number (x ∷ xs) ≡ Some y) same (rw (eq-eqb x.room.number x.room.number refl) refl))
      | inr e ↦ (
          let later : found h.room.number xs ≡ Some h = found_itself made q xs h all.2 (rw e at is) in
          choose (λ (o : Option Hosted). o ≡ Some h) (x.room.number == h.room.number) (Some x) (found h.room.number xs)
          (λ (t : _).
          let out : found h.room.number xs ≡ None = ap (λ (k : ℕ). found k xs) (sym (eqb-true x.room.number h.room.number t)) ∙ all.1 in
          absurd (let z : None ≡ Some h = sym out ∙ later in cc))
          (λ (_ : _). later))
    ]

pub none_above : (made n : ℕ) (hs : List Hosted) → AreNumbered made hs → made < n → found n hs ≡ None
none_above made n [] all above = refl
none_above made n (h ∷ more) all above =
    let t : (h.room.number == n) ≡ false = ne_eqb h.room.number n (λ (e : h.room.number ≡ n). let low : h.room.number ≤ made = all.0 in absurd (omega arith)) in
    rw t (none_above made n more all.2 above)

-- the effects keep it

altered_none : (n m : ℕ) (g : Hosted → Hosted) (hs : List Hosted) → ((h : Hosted) → (g h).room.number ≡ h.room.number) → found m hs ≡ None
    → found m (altered n g hs) ≡ None
altered_none n m g hs same out =
    altered_is n g hs same m
    ∙ put_both (λ k (o : Option Hosted). found k hs ≡ None → o ≡ None) n (option_map g (found n hs)) (λ k. found k hs)
    (λ none. ap (option_map g) none) (λ k _ none. none) m out

altered_numbered : (made n : ℕ) (g : Hosted → Hosted) (hs : List Hosted) → ((h : Hosted) → (g h).room.number ≡ h.room.number)
    → AreNumbered made hs → AreNumbered made (altered n g hs)
altered_numbered made n g [] same all = tt
altered_numbered made n g (h ∷ more) same all =
    choose (AreNumbered made) (h.room.number == n) (g h ∷ more) (h ∷ altered n g more)
    (λ (_ : _). (
      subst (λ (k : ℕ). k ≤ made) (sym (same h)) all.0,
      subst (λ (k : ℕ). found k more ≡ None) (sym (same h)) all.1,
      all.2,
    ))
    (λ (_ : _). (all.0, altered_none n h.room.number g more same all.1, altered_numbered made n g more same all.2))

changed_numbered : (n : ℕ) (f : Room → Room) (rooms : Rooms) → ((x : Room) → (f x).number ≡ x.number) → Numbered rooms
    → Numbered (changed n f rooms)
changed_numbered n f rooms same all =
    subst (AreNumbered rooms.made) (sym (changed_altered n f rooms.hosted))
    (altered_numbered rooms.made n (λ h. record h { room = f h.room }) rooms.hosted (λ h. same h.room) all)

filtered_none : (n m : ℕ) (hs : List Hosted) → found m hs ≡ None → found m (filter (λ h. not (h.room.number == n)) hs) ≡ None
filtered_none n m hs out =
    removed_is n hs m
    ∙ put_both (λ k (o : Option Hosted). found k hs ≡ None → o ≡ None) n None (λ k. found k hs) (λ none. refl) (λ k _ none. none) m out

filtered_numbered : (made n : ℕ) (hs : List Hosted) → AreNumbered made hs → AreNumbered made (filter (λ h. not (h.room.number == n)) hs)
filtered_numbered made n [] all = tt
filtered_numbered made n (h ∷ more) all =
    choose (AreNumbered made) (not (h.room.number == n)) (h ∷ filter (λ x. not (x.room.number == n)) more) (filter (λ x. not (x.room.number == n)) more)
    (λ (_ : _). (all.0, filtered_none n h.room.number more all.1, filtered_numbered made n more all.2))
    (λ (_ : _). filtered_numbered made n more all.2)

-- one that is made has the next number
pushed_numbered : (made : ℕ) (new : Hosted) (hs : List Hosted) → new.room.number ≡ made + 1 → AreNumbered made hs
    → AreNumbered (made + 1) (hs ++ new ∷ [])
pushed_numbered made new [] is all = (omega (arith, is), refl, tt)
pushed_numbered made new (h ∷ more) is all =
    let low : h.room.number ≤ made = all.0 in
    let out : found new.room.number more ≡ None = none_above made new.room.number more all.2 (omega (arith, is)) in (
      omega arith,
      added_is new more out h.room.number
          ∙ put_both (λ k (o : Option Hosted). k ≤ made → found k more ≡ None → o ≡ None) new.room.number (Some new) (λ k. found k more)
          (λ (few : new.room.number ≤ made) none. absurd (omega (arith, is))) (λ k _ few none. none) h.room.number low all.1,
      pushed_numbered made new more is all.2,
    )

set_numbered : (rooms : Rooms) (c : Change) → ChangeSuits rooms c → Numbered rooms → Numbered (service.set c rooms)
set_numbered rooms (change.RoomMade n address owner) suits all =
    pushed_numbered rooms.made (record { room = made_room n address owner; items = 0 }) rooms.hosted suits all
set_numbered rooms (change.RoomGone n) suits all = filtered_numbered rooms.made n rooms.hosted all
set_numbered rooms (change.Unlocked n) suits all = changed_numbered n unlocked rooms (λ x. refl) all
set_numbered rooms (change.Configured n config) suits all = changed_numbered n (configured config) rooms (λ x. refl) all
set_numbered rooms (change.Affiliated n address a) suits all = changed_numbered n (set_affiliation address a) rooms (λ x. refl) all
set_numbered rooms (change.RoleSet n s role) suits all = changed_numbered n (set_role s role) rooms (λ x. refl) all
set_numbered rooms (change.Renamed n s nick) suits all = changed_numbered n (renames s nick) rooms (λ x. refl) all
set_numbered rooms (change.OccupantShown n s presence) suits all = changed_numbered n (shows s presence) rooms (λ x. refl) all
set_numbered rooms (change.Subject n text stamp) suits all = changed_numbered n (has_subject text stamp) rooms (λ x. refl) all
set_numbered rooms c suits all = all

pub step_numbered : (rooms : Rooms) (made : ℕ) (addresses : ℕ → Address) (e : stanza.Effect) → Suits made addresses rooms e → Numbered rooms
    → Numbered (step e rooms)
step_numbered rooms made addresses (effect.Queue s to rest origin) suits all = all
step_numbered rooms made addresses (effect.Broadcast n item) suits all =
    subst (AreNumbered rooms.made) (sym (counted_altered n rooms.hosted))
    (altered_numbered rooms.made n (λ h. record h { items = h.items + 1 }) rooms.hosted (λ h. refl) all)
step_numbered rooms made addresses (effect.Enter n s address nick role) suits all =
    changed_numbered n (enters (record { session = s; address = address; stay = rooms.stays + 1 }) nick role) rooms (λ x. refl) all
step_numbered rooms made addresses (effect.Leave n s) suits all = changed_numbered n (leaves s) rooms (λ x. refl) all
step_numbered rooms made addresses (effect.Keep user peer text moment) suits all = all
step_numbered rooms made addresses (effect.Set c) suits all = set_numbered rooms c suits all

-- In each room that is there the occupants have different nicks, as long as what happens suits.
use Rattle.std.proofs.Common.{◌≡◌, ℕ, ◌+◌, ◌==◌, List, [], ◌∷◌, ◌++◌, sym, refl, ◌∙◌, subst, inl, inr, false, Option, Some, None}
use Rattle.std.specs.List.{list_any}
use Rattle.std.specs.Option.{option_map}
use Rattle.jid_core.specs.Addresses.{Address}
use Rattle.stanza_model.specs.declared.effect.Change.{Change}
use Rattle.stanza_model.specs.declared.effect.Change.TheVariants as change
use Rattle.stanza_model.specs.declared.effect.Effect as stanza
use Rattle.stanza_model.specs.declared.effect.Effect.TheVariants as effect
use Rattle.stanza_model.specs.declared.room.Occupant.{Occupant}
use Rattle.stanza_model.specs.declared.room.Role.{Role}
use Rattle.stanza_model.specs.declared.room.Affiliation.{Affiliation}
use Rattle.stanza_model.specs.declared.room.Room.{Room}
use Rattle.stanza_model.specs.declared.room.Seat.{Seat}
use Rattle.muc_room.specs.Seats.{has_nick, has_seat}
use Rattle.muc_room.specs.States.{is_of, affiliated_if, set_affiliation, role_if, set_role}
use Rattle.muc_service.specs.Rooms as service
use Rattle.muc_service.specs.Rooms.{Hosted, Rooms, changed, counted, enters, leaves, unlocked, configured}
use Rattle.muc_service.specs.Rooms.{renames, shown_if, shows, has_subject, made_room, step}
use Rattle.house_model.specs.Numbered.{put}
use Rattle.house_model.specs.Traffic.{Traffic, whole}
use Rattle.house_model.specs.States.{World}
use Rattle.house_model.specs.Effects.{Effect, apply_all}
use Rattle.house_model.specs.Stays.{Logs, logs_through}
use Rattle.house_model.specs.Casts.{IsFreeIn, ChangeSuits, Suits}
use Rattle.house_model.proofs.StayLemmas.{choose, put_both}
use Rattle.house_model.proofs.SeatLemmas.{AreDistinct, two}
use Rattle.house_model.proofs.HallLemmas.{found, removed_is}
use Rattle.house_model.proofs.StayGood.{Good, seats_in}
use Rattle.house_model.proofs.StayHosts.{with_change, one_more, changed_is, counted_is}
use Rattle.muc_service.specs.Numbering.{Numbered}
use Rattle.house_model.proofs.StayNicks.{AreApart, apart_map, apart_renamed, apart_occupied, apart_leaves, some_any}

abbrev pub occupants_in : Option Hosted → List Occupant
occupants_in None = []
occupants_in (Some h) = h.room.occupants

abbrev pub Apart : Rooms → Type 0
Apart rooms = (r : ℕ) → AreApart (occupants_in (found r rooms.hosted))

-- what holds of all stays, of nicks, and of the numbers of rooms
pub record Sure (world : World Traffic) (logs : Logs) : Type 0 where
  pub good : Good world logs
  pub apart : Apart world.rooms
  pub numbered : Numbered world.rooms

abbrev pub SureAfter : World Traffic → Logs → List Effect → Type 0
SureAfter world logs es = Sure (apply_all whole world es) (logs_through world es logs)

pub found_apart : (rooms : Rooms) (n : ℕ) (h : Hosted) → Apart rooms → found n rooms.hosted ≡ Some h → AreApart h.room.occupants
found_apart rooms n h apart is = subst (λ (o : Option Hosted). AreApart (occupants_in o)) is (apart n)

put_apart : (rooms rooms' : Rooms) (n : ℕ) (v : Option Hosted) → ((m : ℕ) → found m rooms'.hosted ≡ put n v (λ k. found k rooms.hosted) m)
    → AreApart (occupants_in v) → Apart rooms → Apart rooms'
put_apart rooms rooms' n v is here apart r =
    subst (λ (o : Option Hosted). AreApart (occupants_in o)) (sym (is r))
    (put_both (λ k (o : Option Hosted). AreApart (occupants_in o)) n v (λ k. found k rooms.hosted) here (λ k _. apart k) r)

mapped : (g : Hosted → Hosted) (o o' : Option Hosted) → o ≡ o' → ((h : Hosted) → o ≡ Some h → AreApart (g h).room.occupants)
    → AreApart (occupants_in (option_map g o'))
mapped g o None is each = tt
mapped g o (Some h) is each = each h is

-- a room that is another
change_apart : (rooms : Rooms) (n : ℕ) (f : Room → Room) → ((x : Room) → (f x).number ≡ x.number)
    → ((h : Hosted) → found n rooms.hosted ≡ Some h → AreApart h.room.occupants → AreApart (f h.room).occupants)
    → Apart rooms → Apart (changed n f rooms)
change_apart rooms n f number each apart =
    put_apart rooms (changed n f rooms) n (option_map (with_change f) (found n rooms.hosted)) (changed_is n f rooms.hosted number)
    (mapped (with_change f) (found n rooms.hosted) (found n rooms.hosted) refl (λ h is. each h is (found_apart rooms n h apart is))) apart

pushed_apart : (r : ℕ) (h : Hosted) (hs : List Hosted) → AreApart h.room.occupants → AreApart (occupants_in (found r hs))
    → AreApart (occupants_in (found r (hs ++ h ∷ [])))
pushed_apart r h [] new a = choose (λ (o : Option Hosted). AreApart (occupants_in o)) (h.room.number == r) (Some h) None (λ (_ : _). new) (λ (_ : _). tt)
pushed_apart r h (x ∷ xs) new a =
    elim (two (x.room.number == r)) as (λ _. AreApart (occupants_in (found r ((x ∷ xs) ++ h ∷ [])))) [
      | inl e ↦ (let b : AreApart x.room.occupants = rw e at a in rw e b)
      | inr e ↦ (let b : AreApart (occupants_in (found r xs)) = rw e at a in rw e (pushed_apart r h xs new b))
    ]

role_nick : (s : ℕ) (role : Role) (o : Occupant) → (role_if s role o).nick ≡ o.nick
role_nick s role o = choose (λ (p : Occupant). p.nick ≡ o.nick) (has_seat s o) (record o { role = role }) o (λ (_ : _). refl) (λ (_ : _). refl)

shown_nick : (s : ℕ) (presence : List ℕ) (o : Occupant) → (shown_if s presence o).nick ≡ o.nick
shown_nick s presence o = choose (λ (p : Occupant). p.nick ≡ o.nick) (has_seat s o) (record o { presence = presence; spoke = s }) o (λ (_ : _). refl)
    (λ (_ : _). refl)

affiliated_nick : (address : Address) (a : Affiliation) (o : Occupant) → (affiliated_if address a o).nick ≡ o.nick
affiliated_nick address a o = choose (λ (p : Occupant). p.nick ≡ o.nick) (is_of address o) (record o { affiliation = a }) o (λ (_ : _). refl) (λ (_ : _). refl)

free_in : (o : Option Hosted) (nick : List ℕ) (h : Hosted) → o ≡ Some h → IsFreeIn o nick → list_any (has_nick nick) h.room.occupants ≡ false
free_in o nick h is free = sym (some_any (has_nick nick) h.room.occupants) ∙ subst (λ (z : Option Hosted). IsFreeIn z nick) is free

module _ (rooms : Rooms) (distinct : (r : ℕ) → AreDistinct (seats_in (found r rooms.hosted))) (apart : Apart rooms) where
  set_apart : (c : Change) → ChangeSuits rooms c → Apart (service.set c rooms)
  set_apart (change.RoomMade n address owner) suits =
      λ r. pushed_apart r (record { room = made_room n address owner; items = 0 }) rooms.hosted tt (apart r)
  set_apart (change.RoomGone n) suits = put_apart rooms (service.set (change.RoomGone n) rooms) n None (removed_is n rooms.hosted) tt apart
  set_apart (change.Unlocked n) suits = change_apart rooms n unlocked (λ x. refl) (λ h is a. a) apart
  set_apart (change.Configured n config) suits = change_apart rooms n (configured config) (λ x. refl) (λ h is a. a) apart
  set_apart (change.Affiliated n address a) suits =
      change_apart rooms n (set_affiliation address a) (λ x. refl)
      (λ h is b. apart_map (affiliated_if address a) (affiliated_nick address a) h.room.occupants b) apart
  set_apart (change.RoleSet n s role) suits =
      change_apart rooms n (set_role s role) (λ x. refl) (λ h is b. apart_map (role_if s role) (role_nick s role) h.room.occupants b) apart
  set_apart (change.Renamed n s nick) suits =
      change_apart rooms n (renames s nick) (λ x. refl)
      (λ h is b. apart_renamed s nick h.room.occupants (subst (λ (o : Option Hosted). AreDistinct (seats_in o)) is (distinct n))
      (free_in (found n rooms.hosted) nick h is suits) b) apart
  set_apart (change.OccupantShown n s presence) suits =
      change_apart rooms n (shows s presence) (λ x. refl) (λ h is b. apart_map (shown_if s presence) (shown_nick s presence) h.room.occupants b) apart
  set_apart (change.Subject n text stamp) suits = change_apart rooms n (has_subject text stamp) (λ x. refl) (λ h is a. a) apart
  set_apart c suits = apart

  pub step_apart : (made : ℕ) (addresses : ℕ → Address) (e : stanza.Effect) → Suits made addresses rooms e → Apart (step e rooms)
  step_apart made addresses (effect.Queue s to rest origin) suits = apart
  step_apart made addresses (effect.Broadcast n item) suits =
      put_apart rooms (counted n rooms) n (option_map one_more (found n rooms.hosted)) (counted_is n rooms.hosted)
      (mapped one_more (found n rooms.hosted) (found n rooms.hosted) refl (λ h is. found_apart rooms n h apart is)) apart
  step_apart made addresses (effect.Enter n s address nick role) suits =
      let x : Seat = record { session = s; address = address; stay = rooms.stays + 1 } in
      change_apart rooms n (enters x nick role) (λ r. refl) (λ h is a. apart_occupied x nick role h.room a) apart
  step_apart made addresses (effect.Leave n s) suits = change_apart rooms n (leaves s) (λ x. refl) (λ h is a. apart_leaves s h.room a) apart
  step_apart made addresses (effect.Keep user peer text moment) suits = apart
  step_apart made addresses (effect.Set c) suits = set_apart c suits

-- What holds of each room that is there, and of what is cast, as long as each effect keeps it.
use Rattle.std.proofs.Common.{◌≡◌, ℕ, ◌+◌, ◌==◌, List, [], ◌∷◌, ◌++◌, sym, refl, subst, inl, inr, Option, Some, None, IfSome}
use Rattle.std.specs.Prelude.{⊤}
use Rattle.std.specs.List.{AllByRecursion}
use Rattle.std.specs.Option.{option_map}
use Rattle.stanza_model.specs.declared.effect.Change.{Change}
use Rattle.stanza_model.specs.declared.effect.Change.TheVariants as change
use Rattle.stanza_model.specs.declared.effect.Effect as stanza
use Rattle.stanza_model.specs.declared.effect.Effect.TheVariants as effect
use Rattle.stanza_model.specs.declared.room.Room.{Room}
use Rattle.muc_room.specs.States.{set_affiliation, set_role}
use Rattle.muc_service.specs.Casting.{after, cast, heard}
use Rattle.muc_service.specs.Rooms as service
use Rattle.muc_service.specs.Rooms.{Hosted, Rooms, changed, configured, counted, enters, has_subject, hosted_as, leaves, made_room, renames}
use Rattle.muc_service.specs.Rooms.{shows, step, unlocked}
use Rattle.house_model.specs.Numbered.{put}
use Rattle.house_model.proofs.Founds.{append_all}
use Rattle.house_model.proofs.HallLemmas.{found, removed_is}
use Rattle.house_model.proofs.SeatLemmas.{two}
use Rattle.house_model.proofs.StayHosts.{changed_is, counted_is, one_more, with_change}
use Rattle.house_model.proofs.StayLemmas.{choose, put_both}

abbrev pub EachRoom : (Room → Type 0) → Rooms → Type 0
EachRoom V rooms = (n : ℕ) → IfSome (hosted_as n rooms) (λ h. V h.room)

-- an effect by which each room is as it was, or is changed so that this holds of it still
abbrev pub ChangeKeeps : (Room → Type 0) → Change → Type 0
ChangeKeeps V (change.RoomMade n address owner) = V (made_room n address owner)
ChangeKeeps V (change.Unlocked n) = (r : Room) → V r → V (unlocked r)
ChangeKeeps V (change.Configured n config) = (r : Room) → V r → V (configured config r)
ChangeKeeps V (change.Affiliated n address a) = (r : Room) → V r → V (set_affiliation address a r)
ChangeKeeps V (change.RoleSet n s role) = (r : Room) → V r → V (set_role s role r)
ChangeKeeps V (change.Renamed n s nick) = (r : Room) → V r → V (renames s nick r)
ChangeKeeps V (change.OccupantShown n s presence) = (r : Room) → V r → V (shows s presence r)
ChangeKeeps V (change.Subject n text stamp) = (r : Room) → V r → V (has_subject text stamp r)
ChangeKeeps V c = ⊤

abbrev pub KeepsEach : (Room → Type 0) → stanza.Effect → Type 0
KeepsEach V (effect.Queue s to rest origin) = ⊤
KeepsEach V (effect.Broadcast n item) = ⊤
KeepsEach V (effect.Enter n s address nick role) = (stay : ℕ) (r : Room) → V r → V (enters (record { session = s; address = address; stay = stay }) nick role r)
KeepsEach V (effect.Leave n s) = (r : Room) → V r → V (leaves s r)
KeepsEach V (effect.Keep user peer text moment) = ⊤
KeepsEach V (effect.Set c) = ChangeKeeps V c

put_each : (V : Room → Type 0) (rooms rooms' : Rooms) (n : ℕ) (v : Option Hosted)
    → ((m : ℕ) → found m rooms'.hosted ≡ put n v (λ k. found k rooms.hosted) m) → IfSome v (λ h. V h.room) → EachRoom V rooms → EachRoom V rooms'
put_each V rooms rooms' n v is here each r =
    subst (λ (o : Option Hosted). IfSome o (λ h. V h.room)) (sym (is r))
    (put_both (λ k (o : Option Hosted). IfSome o (λ h. V h.room)) n v (λ k. found k rooms.hosted) here (λ k _. each k) r)

mapped_each : (V : Room → Type 0) (g : Hosted → Hosted) (o : Option Hosted) → ((h : Hosted) → V h.room → V (g h).room) → IfSome o (λ h. V h.room)
    → IfSome (option_map g o) (λ h. V h.room)
mapped_each V g None each is = tt
mapped_each V g (Some h) each is = each h is

change_each : (V : Room → Type 0) (rooms : Rooms) (n : ℕ) (f : Room → Room) → ((x : Room) → (f x).number ≡ x.number)
    → ((r : Room) → V r → V (f r)) → EachRoom V rooms → EachRoom V (changed n f rooms)
change_each V rooms n f number keeps each =
    put_each V rooms (changed n f rooms) n (option_map (with_change f) (found n rooms.hosted)) (changed_is n f rooms.hosted number)
    (mapped_each V (with_change f) (found n rooms.hosted) (λ h is. keeps h.room is) (each n)) each

pushed_each : (V : Room → Type 0) (r : ℕ) (h : Hosted) (hs : List Hosted) → V h.room → IfSome (found r hs) (λ h. V h.room)
    → IfSome (found r (hs ++ h ∷ [])) (λ h. V h.room)
pushed_each V r h [] new is = choose (λ (o : Option Hosted). IfSome o (λ h. V h.room)) (h.room.number == r) (Some h) None (λ (_ : _). new) (λ (_ : _). tt)
pushed_each V r h (x ∷ xs) new is =
    elim (two (x.room.number == r)) as (λ _. IfSome (found r ((x ∷ xs) ++ h ∷ [])) (λ h. V h.room)) [
      | inl e ↦ (let b : V x.room = rw e at is in rw e b)
      | inr e ↦ (let b : IfSome (found r xs) (λ h. V h.room) = rw e at is in rw e (pushed_each V r h xs new b))
    ]

set_each : (V : Room → Type 0) (rooms : Rooms) (c : Change) → ChangeKeeps V c → EachRoom V rooms → EachRoom V (service.set c rooms)
set_each V rooms (change.RoomMade n address owner) keeps each =
    λ r. pushed_each V r (record { room = made_room n address owner; items = 0 }) rooms.hosted keeps (each r)
set_each V rooms (change.RoomGone n) keeps each = put_each V rooms (service.set (change.RoomGone n) rooms) n None (removed_is n rooms.hosted) tt each
set_each V rooms (change.Unlocked n) keeps each = change_each V rooms n unlocked (λ x. refl) keeps each
set_each V rooms (change.Configured n config) keeps each = change_each V rooms n (configured config) (λ x. refl) keeps each
set_each V rooms (change.Affiliated n address a) keeps each = change_each V rooms n (set_affiliation address a) (λ x. refl) keeps each
set_each V rooms (change.RoleSet n s role) keeps each = change_each V rooms n (set_role s role) (λ x. refl) keeps each
set_each V rooms (change.Renamed n s nick) keeps each = change_each V rooms n (renames s nick) (λ x. refl) keeps each
set_each V rooms (change.OccupantShown n s presence) keeps each = change_each V rooms n (shows s presence) (λ x. refl) keeps each
set_each V rooms (change.Subject n text stamp) keeps each = change_each V rooms n (has_subject text stamp) (λ x. refl) keeps each
set_each V rooms c keeps each = each

pub step_each : (V : Room → Type 0) (rooms : Rooms) (e : stanza.Effect) → KeepsEach V e → EachRoom V rooms → EachRoom V (step e rooms)
step_each V rooms (effect.Queue s to rest origin) keeps each = each
step_each V rooms (effect.Broadcast n item) keeps each =
    put_each V rooms (counted n rooms) n (option_map one_more (found n rooms.hosted)) (counted_is n rooms.hosted)
    (mapped_each V one_more (found n rooms.hosted) (λ h is. is) (each n)) each
step_each V rooms (effect.Enter n s address nick role) keeps each =
    λ r. change_each V rooms n (enters (record { session = s; address = address; stay = rooms.stays + 1 }) nick role) (λ x. refl)
    (keeps (rooms.stays + 1)) each r
step_each V rooms (effect.Leave n s) keeps each = change_each V rooms n (leaves s) (λ x. refl) keeps each
step_each V rooms (effect.Keep user peer text moment) keeps each = each
step_each V rooms (effect.Set c) keeps each = set_each V rooms c keeps each

-- what holds of each effect of a list holds of all that is cast, and of the rooms afterwards
module _ (V : Room → Type 0) (P : stanza.Effect → Type 0) (keeps : (e : stanza.Effect) → P e → KeepsEach V e)
    (hears : (rooms : Rooms) (e : stanza.Effect) → P e → EachRoom V rooms → AllByRecursion P (heard rooms e)) where
  pub cast_each : (es : List stanza.Effect) (rooms : Rooms) → EachRoom V rooms → AllByRecursion P es → AllByRecursion P (cast rooms es)
  cast_each [] rooms each all = tt
  cast_each (e ∷ es) rooms each all =
      append_all P (heard rooms e) (e ∷ cast (step e rooms) es) (hears rooms e all.0 each)
      (all.0, cast_each es (step e rooms) (step_each V rooms e (keeps e all.0) each) all.1)

  pub after_each : (es : List stanza.Effect) (rooms : Rooms) → EachRoom V rooms → AllByRecursion P es → EachRoom V (after rooms es)
  after_each [] rooms each all = each
  after_each (e ∷ es) rooms each all = after_each es (step e rooms) (step_each V rooms e (keeps e all.0) each) all.1

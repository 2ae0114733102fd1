-- What the effects of a stanza make of the archives, and which rows they add to that of a user.
use Rattle.std.proofs.Common.{◌≡◌, ℕ, List, [], ◌∷◌, ◌++◌, map, flat_map, inl, inr, refl, sym, ap, ◌∙◌, bytes_eq, Bool, true, false, Option}
use Rattle.std.proofs.Common.{Some, None, if◌then◌else◌}
use Rattle.std.specs.Prelude.{⊤}
use Rattle.std.proofs.lemmas.Slice.Eq.{bytes_eq-Decides}
use Rattle.std.specs.List.{AllByRecursion}
use Rattle.stanza_tree.specs.declared.frame.Origin.{Origin}
use Rattle.stanza_model.specs.declared.effect.Change.{Change}
use Rattle.stanza_model.specs.declared.effect.Change.TheVariants as change
use Rattle.stanza_model.specs.declared.effect.Effect as stanza
use Rattle.stanza_model.specs.declared.effect.Effect.TheVariants as effect
use Rattle.stanza_model.specs.declared.room.Occupant.{Occupant}
use Rattle.stanza_model.specs.declared.room.RoomItem.{RoomItem}
use Rattle.stanza_model.specs.declared.room.Seat.{Seat}
use Rattle.muc_service.specs.Casting.{cast, copies_for, copies_in, copy_for, heard}
use Rattle.muc_service.specs.Rooms.{Hosted, Rooms, hosted_as, step}
use Rattle.archive_table.specs.Archives.{Archives, Rows, Said, filed, with_row}
use Rattle.archive_table.specs.declared.filing.Filing.TheVariants.{OfUser, OfRoom, NoRoom}
use Rattle.house_model.specs.Archiving.{rows_of_user}
use Rattle.house_model.specs.Effects.{apply, apply_all}
use Rattle.house_model.specs.States.{World}
use Rattle.house_model.specs.Steps.{effect_of, set}
use Rattle.house_model.specs.Traffic.{Traffic, whole}
use Rattle.house_model.proofs.SeatLemmas.{two}

-- An archive with the rows of messages.
abbrev pub grown : List Said → Rows → Rows
grown [] x = x
grown (m ∷ more) x = grown more (with_row m.peer m.text m.moment x)

-- the archives after an effect

abbrev pub set_in : Change → Archives → Archives
set_in (change.RoomRow n peer text moment) a = filed (OfRoom n peer text moment) a
set_in (change.RoomGone n) a = filed (NoRoom n) a
set_in c a = a

abbrev pub kept_in : stanza.Effect → Archives → Archives
kept_in (effect.Keep user peer text moment) a = filed (OfUser user peer text moment) a
kept_in (effect.Set c) a = set_in c a
kept_in e a = a

abbrev pub all_in : List stanza.Effect → Archives → Archives
all_in [] a = a
all_in (e ∷ es) a = all_in es (kept_in e a)

set_archives : (world : World Traffic) (c : Change) → (apply whole world (set c)).archives ≡ set_in c world.archives
set_archives world (change.RoomRow n peer text moment) = refl
set_archives world (change.RoomGone n) = refl
set_archives world c = refl

one_archives : (world : World Traffic) (e : stanza.Effect) → (apply whole world (effect_of e)).archives ≡ kept_in e world.archives
one_archives world (effect.Queue s to rest origin) = refl
one_archives world (effect.Broadcast n item) = refl
one_archives world (effect.Enter n s address nick role) = refl
one_archives world (effect.Leave n s) = refl
one_archives world (effect.Keep user peer text moment) = refl
one_archives world (effect.Set c) = set_archives world c

pub effects_archives : (es : List stanza.Effect) (world : World Traffic)
    → (apply_all whole world (map effect_of es)).archives ≡ all_in es world.archives
effects_archives [] world = refl
effects_archives (e ∷ es) world = effects_archives es (apply whole world (effect_of e)) ∙ ap (all_in es) (one_archives world e)

-- What is cast has copies beside the effects, which are queued.

abbrev pub IsQueued : stanza.Effect → Type 0
IsQueued (effect.Queue s to rest origin) = ⊤
IsQueued e = ⊥

copies_queued : (h : Hosted) (item : RoomItem) (os : List Occupant) → AllByRecursion IsQueued (flat_map (copies_for h item) os)
copies_queued h item [] = tt
copies_queued h item (o ∷ os) = both (copies_for h item o) (flat_map (copies_for h item) os) (seats o.seats) (copies_queued h item os) where
  both : (xs ys : List stanza.Effect) → AllByRecursion IsQueued xs → AllByRecursion IsQueued ys → AllByRecursion IsQueued (xs ++ ys)
  both [] ys a b = b
  both (x ∷ xs) ys a b = (a.0, both xs ys a.1 b)

  seats : (xs : List Seat) → AllByRecursion IsQueued (map (copy_for h item o) xs)
  seats [] = tt
  seats (x ∷ xs) = (tt, seats xs)

found_queued : (found : Option Hosted) (item : RoomItem) → AllByRecursion IsQueued (copies_in found item)
found_queued None item = tt
found_queued (Some h) item = copies_queued h item h.room.occupants

pub heard_queued : (rooms : Rooms) (e : stanza.Effect) → AllByRecursion IsQueued (heard rooms e)
heard_queued rooms (effect.Broadcast n item) = found_queued (hosted_as n rooms) item
heard_queued rooms (effect.Queue s to rest origin) = tt
heard_queued rooms (effect.Enter n s address nick role) = tt
heard_queued rooms (effect.Leave n s) = tt
heard_queued rooms (effect.Keep user peer text moment) = tt
heard_queued rooms (effect.Set c) = tt

-- A fold over effects that passes over what is queued is the same over what is cast.
module _ {A : Type 0} (f : List stanza.Effect → A)
    (pass : (s : ℕ) (to rest : List ℕ) (origin : Origin) (es : List stanza.Effect) → f (effect.Queue s to rest origin ∷ es) ≡ f es) where
  pub queued_pass : (qs es : List stanza.Effect) → AllByRecursion IsQueued qs → f (qs ++ es) ≡ f es
  queued_pass [] es all = refl
  queued_pass (effect.Queue s to rest origin ∷ qs) es all = pass s to rest origin (qs ++ es) ∙ queued_pass qs es all.1
  queued_pass (effect.Broadcast n item ∷ qs) es all = absurd all.0
  queued_pass (effect.Enter n s address nick role ∷ qs) es all = absurd all.0
  queued_pass (effect.Leave n s ∷ qs) es all = absurd all.0
  queued_pass (effect.Keep user peer text moment ∷ qs) es all = absurd all.0
  queued_pass (effect.Set c ∷ qs) es all = absurd all.0

cast_in : (es : List stanza.Effect) (rooms : Rooms) (a : Archives) → all_in (cast rooms es) a ≡ all_in es a
cast_in [] rooms a = refl
cast_in (e ∷ es) rooms a =
    queued_pass (λ xs. all_in xs a) (λ s to rest origin xs. refl) (heard rooms e) (e ∷ cast (step e rooms) es) (heard_queued rooms e)
    ∙ cast_in es (step e rooms) (kept_in e a)

pub cast_archives : (es : List stanza.Effect) (rooms : Rooms) (world : World Traffic)
    → (apply_all whole world (map effect_of (cast rooms es))).archives ≡ all_in es world.archives
cast_archives es rooms world = effects_archives (cast rooms es) world ∙ cast_in es rooms world.archives

-- Of a user.

bytes_turned : (a b : List ℕ) → bytes_eq a b ≡ bytes_eq b a
bytes_turned a b =
    elim (two (bytes_eq a b)) [
      | inl e ↦ e ∙ sym ((bytes_eq-Decides b a).1 (sym ((bytes_eq-Decides a b).0 e)))
      | inr e ↦ elim (two (bytes_eq b a)) [
        | inl f ↦ absurd (let z : true ≡ false = sym ((bytes_eq-Decides a b).1 (sym ((bytes_eq-Decides b a).0 f))) ∙ e in cc)
        | inr f ↦ e ∙ sym f
      ]
    ]

kept_rows : (other user : List ℕ) (m : Said) (more : List Said) (of : List ℕ → Rows) (b : Bool) → bytes_eq other user ≡ b
    → grown more (if b then with_row m.peer m.text m.moment (of other) else of user) ≡ grown (if b then m ∷ more else more) (of user)
kept_rows other user m more of true is =
    ap (λ (u : List ℕ). grown more (with_row m.peer m.text m.moment (of u))) ((bytes_eq-Decides other user).0 is)
kept_rows other user m more of false is = refl

pub user_rows : (es : List stanza.Effect) (a : Archives) (user : List ℕ) → (all_in es a).users user ≡ grown (rows_of_user user es) (a.users user)
user_rows [] a user = refl
user_rows (effect.Keep other peer text moment ∷ es) a user =
    let m : Said = record { peer = peer; text = text; moment = moment } in
    user_rows es (kept_in (effect.Keep other peer text moment) a) user
    ∙ (ap (λ (b : Bool). grown (rows_of_user user es) (if b then with_row peer text moment (a.users other) else a.users user))
    (bytes_turned user other)
    ∙ kept_rows other user m (rows_of_user user es) a.users (bytes_eq other user) refl)
user_rows (effect.Set c ∷ es) a user = user_rows es (set_in c a) user ∙ ap (grown (rows_of_user user es)) (by c) where
  by : (c : Change) → (set_in c a).users user ≡ a.users user
  by (change.RoomRow n peer text moment) = refl
  by (change.RoomGone n) = refl
  by c = refl
user_rows (effect.Queue s to rest origin ∷ es) a user = user_rows es a user
user_rows (effect.Broadcast n item ∷ es) a user = user_rows es a user
user_rows (effect.Enter n s address nick role ∷ es) a user = user_rows es a user
user_rows (effect.Leave n s ∷ es) a user = user_rows es a user

-- Effects of which nothing is kept: no rows, and no messages that a room broadcasts.
use Rattle.std.proofs.Common.{◌≡◌, ℕ, ◌==◌, List, [], ◌∷◌, ◌++◌, map, length, arith, refl, sym, ap, ◌∙◌, Bool, if◌then◌else◌}
use Rattle.std.specs.Prelude.{⊤}
use Rattle.std.specs.List.{AllByRecursion, filter}
use Rattle.stanza_model.specs.Replies.{error_of, may_be_answered, refused, said_to}
use Rattle.stanza_model.specs.declared.condition.Condition.{Condition}
use Rattle.stanza_model.specs.declared.effect.Change.{Change}
use Rattle.stanza_model.specs.declared.effect.Change.TheVariants.{RoomGone, RoomRow}
use Rattle.stanza_model.specs.declared.effect.Effect.{Effect}
use Rattle.stanza_model.specs.declared.effect.Effect.TheVariants.{Queue, Broadcast, Enter, Leave, Keep, Set}
use Rattle.stanza_model.specs.declared.here.Here.{Here}
use Rattle.stanza_model.specs.declared.room.RoomItem.{RoomItem}
use Rattle.stanza_model.specs.declared.room.RoomItem.TheVariants as item
use Rattle.stanza_model.specs.declared.stanza.Stanza.{Stanza}
use Rattle.archive_table.specs.Archives.{Said}
use Rattle.house_model.specs.Archiving.{AddsFew, KeepsMessages, NoRowAfter, is_keep, is_row, messages_in, rows_of_room, rows_of_user, said_by}
use Rattle.house_model.proofs.Founds.{either_all}
use Rattle.house_model.proofs.StayLemmas.{choose}

abbrev pub ItemUnkept : RoomItem → Type 0
ItemUnkept (item.Message text body from moment) = ⊥
ItemUnkept item = ⊤

abbrev pub ChangeUnkept : Change → Type 0
ChangeUnkept (RoomRow n peer text moment) = ⊥
ChangeUnkept change = ⊤

abbrev pub Unkept : Effect → Type 0
Unkept (Broadcast n item) = ItemUnkept item
Unkept (Keep user peer text moment) = ⊥
Unkept (Set change) = ChangeUnkept change
Unkept e = ⊤

-- What a list of effects keeps: the messages that rooms broadcast, of those between users these, and few of all.
pub record IsKept (es exchanged : List Effect) : Type 0 where
  pub messages : KeepsMessages es
  pub keeps : filter is_keep es ≡ exchanged
  pub few : AddsFew es

-- Where nothing is kept of each effect, nothing is kept of the list.

pub record NothingKept (es : List Effect) : Type 0 where
  pub rows : filter is_row es ≡ []
  pub keeps : filter is_keep es ≡ []
  pub rooms : (n : ℕ) → rows_of_room n es ≡ []
  pub messages : (n : ℕ) → messages_in n es ≡ []
  pub users : (user : List ℕ) → rows_of_user user es ≡ []
  pub ends : NoRowAfter es

set_unkept : (c : Change) (es : List Effect) → ChangeUnkept c → NothingKept es → NothingKept (Set c ∷ es)
set_unkept (RoomRow n peer text moment) es un is = absurd un
set_unkept (RoomGone n) es un is = record {
  rows = is.rows;
  keeps = is.keeps;
  rooms = is.rooms;
  messages = is.messages;
  users = is.users;
  ends = (is.rooms n, is.ends);
}
set_unkept c es un is = record {
  rows = is.rows;
  keeps = is.keeps;
  rooms = is.rooms;
  messages = is.messages;
  users = is.users;
  ends = is.ends;
}

either_none : (b : Bool) (xs : List Said) → xs ≡ [] → (if b then xs else xs) ≡ []
either_none b xs none = choose (λ (l : List Said). l ≡ []) b xs xs (λ (_ : _). none) (λ (_ : _). none)

said_none : (item : RoomItem) (b : Bool) (xs : List Said) → ItemUnkept item → xs ≡ [] → (if b then said_by item ++ xs else xs) ≡ []
said_none (item.Message text body from moment) b xs un none = absurd un
said_none item b xs un none = either_none b xs none

pub unkept_then : (e : Effect) (es : List Effect) → Unkept e → NothingKept es → NothingKept (e ∷ es)
unkept_then (Queue s to rest origin) es un is = record {
  rows = is.rows;
  keeps = is.keeps;
  rooms = is.rooms;
  messages = is.messages;
  users = is.users;
  ends = is.ends;
}
unkept_then (Broadcast n item) es un is = record {
  rows = is.rows;
  keeps = is.keeps;
  rooms = is.rooms;
  messages = λ m. said_none item (n == m) (messages_in m es) un (is.messages m);
  users = is.users;
  ends = is.ends;
}
unkept_then (Enter n s address nick role) es un is = record {
  rows = is.rows;
  keeps = is.keeps;
  rooms = is.rooms;
  messages = is.messages;
  users = is.users;
  ends = is.ends;
}
unkept_then (Leave n s) es un is = record {
  rows = is.rows;
  keeps = is.keeps;
  rooms = is.rooms;
  messages = is.messages;
  users = is.users;
  ends = is.ends;
}
unkept_then (Keep user peer text moment) es un is = absurd un
unkept_then (Set c) es un is = set_unkept c es un is

pub nothing_kept : (es : List Effect) → AllByRecursion Unkept es → NothingKept es
nothing_kept [] all = record { rows = refl; keeps = refl; rooms = λ n. refl; messages = λ n. refl; users = λ user. refl; ends = tt }
nothing_kept (e ∷ es) all = unkept_then e es all.0 (nothing_kept es all.1)

few_of : (es : List Effect) → NothingKept es → AddsFew es
few_of es is = record {
  all = (let none : length (filter is_row es) ≡ 0 = ap (λ (l : List Effect). length l) is.rows in omega (arith, none));
  users = λ user. (let none : length (rows_of_user user es) ≡ 0 = ap (λ (l : List Said). length l) (is.users user) in omega (arith, none));
  rooms = λ n. (let none : length (rows_of_room n es) ≡ 0 = ap (λ (l : List Said). length l) (is.rooms n) in omega (arith, none));
  ends = is.ends;
}

pub kept_none : (es : List Effect) → AllByRecursion Unkept es → IsKept es []
kept_none es all =
    let is : NothingKept es = nothing_kept es all in
    record { messages = λ n. is.rooms n ∙ sym (is.messages n); keeps = is.keeps; few = few_of es is }

-- the same, whatever is kept of others
pub kept_same : (es : List Effect) → AllByRecursion Unkept es → IsKept es (filter is_keep es)
kept_same es all =
    let is : NothingKept es = nothing_kept es all in
    record { messages = λ n. is.rooms n ∙ sym (is.messages n); keeps = refl; few = few_of es is }

-- Lists of which nothing is kept.

pub map_unkept : {X : Type 0} (f : X → Effect) → ((x : X) → Unkept (f x)) → (xs : List X) → AllByRecursion Unkept (map f xs)
map_unkept f each [] = tt
map_unkept f each (x ∷ xs) = (each x, map_unkept f each xs)

pub refused_unkept : (who : Here) (st : Stanza) (c : Condition) → AllByRecursion Unkept (refused who st c)
refused_unkept who st c = either_all Unkept (may_be_answered st) (said_to who (error_of st c) ∷ []) [] (tt, tt) tt

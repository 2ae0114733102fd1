-- A message between users is kept for both, where it is delivered and there is room; else nothing is kept.
use Rattle.std.proofs.Common.{◌≡◌, ◌≤◌, ℕ, List, [], ◌∷◌, ◌++◌, map, length, arith, refl, sym, ◌∙◌, bytes_eq, Bool, true, false, Option, Some, None}
use Rattle.std.proofs.Common.{if◌then◌else◌}
use Rattle.std.proofs.lemmas.Slice.Eq.{bytes_eq-Decides}
use Rattle.std.specs.List.{filter}
use Rattle.jid_core.specs.Addresses.{Address, same_part}
use Rattle.stanza_tree.specs.declared.node.Element.{Element}
use Rattle.stanza_model.specs.Replies.{refused}
use Rattle.stanza_model.specs.declared.condition.Condition.{Condition}
use Rattle.stanza_model.specs.declared.condition.Condition.TheVariants.{RemoteServerNotFound, ResourceConstraint, ServiceUnavailable}
use Rattle.stanza_model.specs.declared.effect.Effect.{Effect}
use Rattle.stanza_model.specs.declared.here.Here.{Here}
use Rattle.stanza_model.specs.declared.keeping.Keeping.{Keeping}
use Rattle.stanza_model.specs.declared.kinds.MessageForm.{MessageForm}
use Rattle.stanza_model.specs.declared.kinds.MessageForm.TheVariants as message
use Rattle.stanza_model.specs.declared.stanza.Stanza.{Stanza}
use Rattle.stanza_model.specs.declared.stanza.Stanza.TheVariants.{Message}
use Rattle.stanza_router.specs.Messages.{addressed, given, if_known, is_kept, is_to_oneself, is_too_much, plain_text, queued_as, route_of, routed}
use Rattle.stanza_router.specs.Messages.{row_of, row_text, rows_for, to_full, to_user, told, told_text}
use Rattle.stanza_router.specs.declared.places.Place.{Place}
use Rattle.stanza_router.specs.declared.places.Place.TheVariants.{Account, Server, User, UserAt, Service, Room, RoomAt, Foreign}
use Rattle.archive_table.specs.Archives.{Said}
use Rattle.house_model.specs.ArchiveLookups.{keeping_for}
use Rattle.house_model.specs.Archiving.{AddsFew, is_keep, kept_if}
use Rattle.house_model.specs.Routing.{Scene}
use Rattle.house_model.proofs.Unkept.{IsKept, kept_none, kept_same, map_unkept, refused_unkept}

few_if : (b : Bool) (x : Said) → length (if b then x ∷ [] else []) ≤ 1
few_if true x = omega arith
few_if false x = omega arith

-- the rows of two users, who differ
both_few : (mine theirs user : List ℕ) (x y : Said) → bytes_eq theirs mine ≡ false → (b c : Bool) → bytes_eq mine user ≡ b → bytes_eq theirs user ≡ c
    → length (if b then x ∷ (if c then y ∷ [] else []) else (if c then y ∷ [] else [])) ≤ 1
both_few mine theirs user x y differ true true one other =
    absurd (let same : theirs ≡ mine = (bytes_eq-Decides theirs user).0 other ∙ sym ((bytes_eq-Decides mine user).0 one) in
    let z : true ≡ false = sym ((bytes_eq-Decides theirs mine).1 same) ∙ differ in cc)
both_few mine theirs user x y differ true false one other = omega arith
both_few mine theirs user x y differ false c one other = few_if c y

-- one row, and the other, where it isn't the same user's
rows_kept : (mine theirs : Option (List ℕ)) (peer from : Address) (text : List ℕ) (moment : ℕ) (one : Bool) → same_part theirs mine ≡ one
    → IsKept (row_of mine peer text moment ++ (if one then [] else row_of theirs from text moment))
    (filter is_keep (row_of mine peer text moment ++ (if one then [] else row_of theirs from text moment)))
rows_kept None theirs peer from text moment true is = kept_same [] tt
rows_kept None None peer from text moment false is = kept_same [] tt
rows_kept None (Some v) peer from text moment false is = record {
  messages = λ n. refl;
  keeps = refl;
  few = record { all = omega arith; users = λ user. few_if (bytes_eq v user) _; rooms = λ n. omega arith; ends = tt };
}
rows_kept (Some u) theirs peer from text moment true is = record {
  messages = λ n. refl;
  keeps = refl;
  few = record { all = omega arith; users = λ user. few_if (bytes_eq u user) _; rooms = λ n. omega arith; ends = tt };
}
rows_kept (Some u) None peer from text moment false is = record {
  messages = λ n. refl;
  keeps = refl;
  few = record { all = omega arith; users = λ user. few_if (bytes_eq u user) _; rooms = λ n. omega arith; ends = tt };
}
rows_kept (Some u) (Some v) peer from text moment false is = record {
  messages = λ n. refl;
  keeps = refl;
  few = record {
    all = omega arith;
    users = λ user. both_few u v user _ _ is (bytes_eq u user) (bytes_eq v user) refl refl;
    rooms = λ n. omega arith;
    ends = tt;
  };
}

queued_kept : (who : Here) (to : Option Address) (rest : List ℕ) (sessions : List ℕ) (rows keeps : List Effect) → IsKept rows keeps
    → IsKept (map (queued_as who to rest) sessions ++ rows) keeps
queued_kept who to rest [] rows keeps is = is
queued_kept who to rest (s ∷ sessions) rows keeps is =
    let later : IsKept (map (queued_as who to rest) sessions ++ rows) keeps = queued_kept who to rest sessions rows keeps is in
    let few : AddsFew (map (queued_as who to rest) sessions ++ rows) = later.few in
    record {
      messages = later.messages;
      keeps = later.keeps;
      few = record { all = few.all; users = few.users; rooms = few.rooms; ends = few.ends };
    }

module _ (o : Scene) (who : Here) (to : Option Address) (form : MessageForm) (e : Element) (sessions : List ℕ) where
  abbrev st : Stanza
  st = Message to form e

  abbrev keeping : Keeping
  keeping = keeping_for o.world.archives who to o.moment

  abbrev rows : List Effect
  rows = rows_for who to (row_text who to e) o.moment

  told_kept : (much : Bool)
      → IsKept (if much then refused who st ResourceConstraint
      else map (queued_as who to (told_text who to e keeping.row)) sessions ++ rows) (filter is_keep (if much then [] else rows))
  told_kept true = kept_none (refused who st ResourceConstraint) (refused_unkept who st ResourceConstraint)
  told_kept false =
      queued_kept who to (told_text who to e keeping.row) sessions rows (filter is_keep rows)
      (rows_kept who.address.local (addressed who to).local (addressed who to) who.address (row_text who to e) o.moment (is_to_oneself who to) refl)

  given_by : (kept : Bool)
      → IsKept (if kept then told who st to e keeping sessions else map (queued_as who to (plain_text who to e)) sessions)
      (filter is_keep (kept_if kept o who st e))
  given_by true = told_kept (is_too_much who to e keeping)
  given_by false = kept_none _ (map_unkept (queued_as who to (plain_text who to e)) (λ s. tt) sessions)

  pub given_kept : IsKept (given who st to form e keeping sessions) (filter is_keep (kept_if (is_kept form e) o who st e))
  given_kept = given_by (is_kept form e)

-- What is delivered, refused or dropped: what holds of the copies with what is kept, and of what is refused.

module _ (Q : List Effect → List Effect → Type 0) (who : Here) (st : Stanza) (copies rows : List Effect) (is : Q copies (filter is_keep rows))
    (no : (c : Condition) → Q (refused who st c) (filter is_keep (refused who st c))) (none : Q [] []) where
  user_routed : (known : Bool) (form : MessageForm)
      → Q (routed who st copies (if_known known (to_user form))) (filter is_keep (routed who st rows (if_known known (to_user form))))
  user_routed false form = no ServiceUnavailable
  user_routed true message.Chat = is
  user_routed true message.Normal = is
  user_routed true message.Headline = is
  user_routed true message.Groupchat = no ServiceUnavailable
  user_routed true message.Error = none

  full_routed : (known : Bool) (form : MessageForm) (hs : List Here)
      → Q (routed who st copies (if_known known (to_full form hs))) (filter is_keep (routed who st rows (if_known known (to_full form hs))))
  full_routed false form hs = no ServiceUnavailable
  full_routed true form (h ∷ more) = is
  full_routed true message.Chat [] = is
  full_routed true message.Normal [] = no ServiceUnavailable
  full_routed true message.Headline [] = no ServiceUnavailable
  full_routed true message.Groupchat [] = no ServiceUnavailable
  full_routed true message.Error [] = none

  pub routed_all : (place : Place) (known : Bool) (form : MessageForm) (hs : List Here)
      → Q (routed who st copies (route_of place known form hs)) (filter is_keep (routed who st rows (route_of place known form hs)))
  routed_all Foreign known form hs = no RemoteServerNotFound
  routed_all Server known form hs = no ServiceUnavailable
  routed_all Service known form hs = no ServiceUnavailable
  routed_all Account known form hs = user_routed known form
  routed_all (User user) known form hs = user_routed known form
  routed_all (UserAt user resource) known form hs = full_routed known form hs
  routed_all (Room room) known form hs = none
  routed_all (RoomAt room nick) known form hs = none

pub refused_kept : (who : Here) (st : Stanza) (c : Condition) → IsKept (refused who st c) (filter is_keep (refused who st c))
refused_kept who st c = kept_same (refused who st c) (refused_unkept who st c)

-- What is set of a room is short when something is said in it and when a session enters it, whatever is kept of messages.
use Rattle.std.proofs.Common.{◌≡◌, ℕ, ◌≤◌, [], length, arith, Option, Some, None, IfSome}
use Rattle.std.specs.Prelude.{⊤}
use Rattle.std.specs.List.{AllByRecursion}
use Rattle.stanza_tree.specs.declared.node.Element.{Element}
use Rattle.stanza_model.specs.Replies.{refused}
use Rattle.stanza_model.specs.Stanzas.{element_in}
use Rattle.stanza_model.specs.declared.here.Here.{Here}
use Rattle.stanza_model.specs.declared.keeping.Keeping.{Keeping}
use Rattle.stanza_model.specs.declared.kinds.MessageForm.{MessageForm}
use Rattle.stanza_model.specs.declared.kinds.MessageForm.TheVariants as message
use Rattle.stanza_model.specs.declared.room.Room.{Room}
use Rattle.stanza_model.specs.declared.stanza.Stanza.{Stanza}
use Rattle.muc_room.specs.Renaming.{rename}
use Rattle.muc_room.specs.Views.{shown_children}
use Rattle.muc_service.specs.Rooms.{Hosted, is_in}
use Rattle.mam_wire.specs.Stamps.{stamp_text}
use Rattle.mam_wire.proofs.StampLemmas.{stamp_length}
use Rattle.house_model.specs.ArchiveLookups.{keeping_in, past_in}
use Rattle.house_model.specs.Fitting.{IsShortAddress, IsShortOccupant, IsShortRoom}
use Rattle.house_model.specs.RoomLookups.{called, numbers_for}
use Rattle.house_model.specs.Routing.{Scene, present_in, to_all_in, to_no_room}
use Rattle.house_model.specs.States.{World}
use Rattle.house_model.specs.Traffic.{KeptTraffic}
use Rattle.house_model.proofs.Founds.{either_all, every}
use Rattle.house_model.proofs.RoomCases.{Enters, Says, enter_rows, rename_rows, say_rows}
use Rattle.house_model.proofs.RoomSizes.{subject-message-le}
use Rattle.house_model.proofs.RoomSmall.{IsShortStanza, invited_small, new_short, nick-le, no, shows, to-short}
use Rattle.house_model.proofs.SmallEffects.{Slight, Small, slight_all}

abbrev Any : {X : Type 0} → X → Type 0
Any x = ⊤

module _ (who : Here) (st : Stanza) (fits : IsShortStanza who st) where
  says : (room : Room) (keeping : Keeping) (moment : ℕ) → IsShortRoom room → Says room who st keeping (stamp_text moment) Slight IsShortOccupant
  says room keeping moment short = record {
    refusal = λ c. tt;
    item = λ o e is at. tt;
    row = λ o e is at has. tt;
    subject = λ o e is at has.
        (subject-message-le room o keeping.row e (fits.element e at) short.address is.nick has, omega (arith, stamp_length moment));
  }

  invited : (o : Scene) (form : MessageForm) (e : Element) (h : Hosted) → IsShortRoom h.room
      → AllByRecursion (λ x. IsShortAddress x.address) (called o.domain o.world e) → AllByRecursion Slight (to_all_in o who st form e (Some h))
  invited o message.Groupchat e h short found =
      let keeping : Keeping = keeping_in o.world.archives h o.moment in
      say_rows h.room who st keeping (stamp_text o.moment) Slight IsShortOccupant (says h.room keeping o.moment short) short.occupants
  invited o message.Chat e h short found = slight_all (to_all_in o who st message.Chat e (Some h)) (invited_small who st fits o e h short found)
  invited o message.Normal e h short found = slight_all (to_all_in o who st message.Normal e (Some h)) (invited_small who st fits o e h short found)
  invited o message.Headline e h short found =
      slight_all (to_all_in o who st message.Headline e (Some h)) (invited_small who st fits o e h short found)
  invited o message.Error e h short found = slight_all (to_all_in o who st message.Error e (Some h)) (invited_small who st fits o e h short found)

  pub to_all_slight : (o : Scene) (form : MessageForm) (e : Element) (found : Option Hosted) → IfSome found (λ h. IsShortRoom h.room)
      → AllByRecursion (λ x. IsShortAddress x.address) (called o.domain o.world e) → AllByRecursion Slight (to_all_in o who st form e found)
  to_all_slight o form e None short found = slight_all (refused who st (to_no_room form e)) (no who st fits (to_no_room form e))
  to_all_slight o form e (Some h) short found = invited o form e h short found

  enters : (e : Element) → length (shown_children e.children) ≤ 16384
      → Enters who st e Slight Any (λ (r : Room). IsShortAddress r.address) Any
  enters e shown = record {
    refusal = λ c. tt;
    occupants = λ room short. every Any (λ o. tt) room.occupants;
    made = λ room short. short;
    opening = λ room stay role o short is. tt;
    enter = λ room to nick role at named. (fits.own, nick-le to nick named (to-short who st to e fits at));
    shown = λ room. shown;
    item = λ room made to nick holder short at named. tt;
    past = λ room stay d short is. tt;
    subject = λ room stay short. tt;
  }

  pub present_slight : (world : World KeptTraffic) (found : Option Hosted) → IfSome found (λ h. IsShortRoom h.room)
      → ((e : Element) → element_in st ≡ Some e → length (shown_children e.children) ≤ 16384) → AllByRecursion Slight (present_in world who st found)
  present_slight world None short few =
      enter_rows None (numbers_for world.rooms who.session) who st [] Slight Any (λ (r : Room). IsShortAddress r.address) Any
      (λ e at. enters e (few e at)) tt
      (λ to e at. new_short (numbers_for world.rooms who.session).next_room to who (to-short who st to e fits at)) tt
  present_slight world (Some h) short few =
      either_all Slight (is_in who.session h) _ _
      (slight_all (rename h.room who st)
      (rename_rows h.room who st Small IsShortOccupant (λ e at. shows who st fits e (few e at) h.room) short.occupants))
      (enter_rows (Some h.room) (numbers_for world.rooms who.session) who st (past_in world.archives h) Slight Any
      (λ (r : Room). IsShortAddress r.address) Any (λ e at. enters e (few e at)) short.address
      (λ to e at. new_short (numbers_for world.rooms who.session).next_room to who (to-short who st to e fits at))
      (every Any (λ d. tt) (past_in world.archives h)))

-- What comes of a stanza for a room names only sessions that are in the house: who sends it, those who are in the room, and those who are invited.
use Rattle.std.proofs.Common.{ℕ, List, [], ◌∷◌, flat_map, Option, Some, None, IfSome, if◌then◌else◌}
use Rattle.std.specs.Prelude.{⊤}
use Rattle.std.specs.List.{AllByRecursion}
use Rattle.std.specs.Option.{option_and_then}
use Rattle.stanza_tree.specs.declared.node.Element.{Element}
use Rattle.stanza_model.specs.Replies.{refused}
use Rattle.stanza_model.specs.declared.condition.Condition.TheVariants.{BadRequest, ItemNotFound, ServiceUnavailable}
use Rattle.stanza_model.specs.declared.effect.Effect.{Effect}
use Rattle.stanza_model.specs.declared.here.Here.{Here}
use Rattle.stanza_model.specs.declared.keeping.Keeping.{Keeping}
use Rattle.stanza_model.specs.declared.kinds.MessageForm.{MessageForm}
use Rattle.stanza_model.specs.declared.kinds.MessageForm.TheVariants as message
use Rattle.stanza_model.specs.declared.room.Room.{Room}
use Rattle.stanza_model.specs.declared.room.Seat.{Seat}
use Rattle.stanza_model.specs.declared.stanza.Stanza.{Stanza}
use Rattle.contact_table.specs.Books.{local_user}
use Rattle.muc_room.specs.Leaving.{leave}
use Rattle.muc_owner.specs.Invitations.{invitation_of}
use Rattle.muc_owner.specs.Inviting.{copies, invite, x_in}
use Rattle.muc_admin.specs.Items.{admin_space}
use Rattle.muc_owner.specs.Owning.{owner_space}
use Rattle.muc_service.specs.Rooms.{Hosted, is_in}
use Rattle.mam_wire.specs.Stamps.{stamp_text}
use Rattle.house_model.specs.ArchiveLookups.{keeping_in, past_in}
use Rattle.house_model.specs.Fitting.{EffectFits, IsInHouse}
use Rattle.house_model.specs.Lookups.{sessions_of}
use Rattle.house_model.specs.Requests.{queries}
use Rattle.house_model.specs.RoomLookups.{available_if, called, numbers_for}
use Rattle.house_model.specs.Routing.{Scene, absent_from, asked_of, is_invitation, present_in, to_all_in, to_no_room, to_one_in}
use Rattle.house_model.specs.States.{World}
use Rattle.house_model.specs.Traffic.{KeptTraffic, Traffic}
use Rattle.house_model.proofs.Founds.{AreFound, IsHere, append_all, either_all, every, filter_all, numbers_found}
use Rattle.house_model.proofs.Housed.{AllLive, Lives, spoke_in}
use Rattle.house_model.proofs.RequestCases.{Manages, Owns, Sets, admin_rows, invite_rows, owner_rows}
use Rattle.house_model.proofs.RoomCases.{Enters, Says, Shows, Whispers, direct_rows, enter_rows, leave_rows, refused_rows, rename_rows, say_rows}

abbrev Any : {X : Type 0} → X → Type 0
Any x = ⊤

called_found : (world : World KeptTraffic) (user : Option (List ℕ)) → AreFound world (available_if world user)
called_found world None = tt
called_found world (Some user) = filter_all (IsHere world) (λ h. h.available) (sessions_of world user) (numbers_found world user)

module _ (world : World Traffic) where
  abbrev H : ℕ → Type 0
  H s = IsInHouse s world

  abbrev P : Effect → Type 0
  P e = EffectFits world e

  abbrev R : Seat → Type 0
  R x = IsInHouse x.session world

  -- leaving
  leave_fits : (room : Room) (s : ℕ) (st : Option Stanza) → H s → AllLive H room → AllByRecursion P (leave room s st)
  leave_fits room s st is all = leave_rows room s st P (Lives H) (record { item = λ o lives. tt; told = λ o lives. is; left = is; gone = tt }) all

  pub all_left_fit : (s : ℕ) (st : Option Stanza) (hs : List Hosted) → H s → AllByRecursion (λ h. AllLive H h.room) hs
      → AllByRecursion P (flat_map (λ h. leave h.room s st) hs)
  all_left_fit s st [] is all = tt
  all_left_fit s st (h ∷ hs) is all = append_all P (leave h.room s st) _ (leave_fits h.room s st is all.0) (all_left_fit s st hs is all.1)

  module _ (who : Here) (st : Stanza) (is : H who.session) where
    says : (room : Room) (keeping : Keeping) (stamp : List ℕ) → Says room who st keeping stamp P (Lives H)
    says room keeping stamp = record {
      refusal = λ c. is;
      item = λ o e lives at. tt;
      row = λ o e lives at has. tt;
      subject = λ o e lives at has. tt;
    }

    whispers : (room : Room) → Whispers room who st P (Lives H) R
    whispers room = record { refusal = λ c. is; seats = λ o lives. lives.0; private = λ o e x lives here at. here }

    sets : (room : Room) → Sets room P (Lives H) R
    sets room = record {
      seats = λ o lives. lives.0;
      role = λ o role lives. lives;
      affiliation = λ o a lives. lives;
      removed = λ r o a code same lives few. tt;
      left = λ r x same here. here;
      changed = λ r o a role same lives. tt;
      given = λ r o role same lives. spoke_in H o lives;
      affiliated = λ r address a same. tt;
      gone = λ r same. tt;
    }

    manages : (room : Room) → Manages room who st P (Lives H) R
    manages room = record { refusal = λ c. is; result = is; sets = sets room; affiliations = λ a. is; roles = λ role. is }

    owns : (room : Room) → Owns room who st P
    owns room = record {
      refusal = λ c. is;
      result = is;
      form = is;
      configured = λ fields right. tt;
      unlocked = tt;
      destroyed = λ reason said. tt;
      gone = tt;
    }

    shows : (room : Room) (e : Element) → Shows room who st e P (Lives H)
    shows room e = record {
      refusal = λ c. is;
      shown = is;
      again = λ o lives. tt;
      item = λ o to nick lives at named. tt;
      old = λ o to nick lives at named. tt;
      renamed = λ to nick at named. is;
    }

    enters : (e : Element) → Enters who st e P (Lives H) (AllLive H) Any
    enters e = record {
      refusal = λ c. is;
      occupants = λ room all. all;
      made = λ room all. tt;
      opening = λ room stay role o all lives. is;
      enter = λ room to nick role at named. is;
      shown = λ room. is;
      item = λ room made to nick holder all at named. tt;
      past = λ room stay d all fits. is;
      subject = λ room stay all. is;
    }

    no : (c : _) → AllByRecursion P (refused who st c)
    no c = refused_rows P who st (λ d. is) c

    -- messages

    copies_fit : (rest : List ℕ) (hs : List Here) → AllByRecursion (λ h. H h.session) hs → AllByRecursion P (copies rest hs)
    copies_fit rest [] all = tt
    copies_fit rest (h ∷ hs) all = (all.0, copies_fit rest hs all.1)

    invited_fit : (o : Scene) (e : Element) (h : Hosted) → AllLive H h.room → AllByRecursion (λ x. H x.session) (called o.domain o.world e)
        → AllByRecursion P (if is_invitation e then invite h.room who st (called o.domain o.world e) else refused who st BadRequest)
    invited_fit o e h all found =
        either_all P (is_invitation e) _ _
        (invite_rows h.room who st (called o.domain o.world e) P (Lives H) R (record {
          refusal = λ c. is;
          sets = sets h.room;
          invited = λ i call. copies_fit _ (called o.domain o.world e) found;
          declined = λ i call. copies_fit _ (called o.domain o.world e) found;
        }) all) (no BadRequest)

    pub said_fits : (o : Scene) (form : MessageForm) (e : Element) (found : Option Hosted) → IfSome found (λ h. AllLive H h.room)
        → AllByRecursion (λ x. H x.session) (called o.domain o.world e) → AllByRecursion P (to_all_in o who st form e found)
    said_fits o form e None all found = no (to_no_room form e)
    said_fits o message.Groupchat e (Some h) all found =
        say_rows h.room who st (keeping_in o.world.archives h o.moment) (stamp_text o.moment) P (Lives H)
        (says h.room (keeping_in o.world.archives h o.moment) (stamp_text o.moment)) all
    said_fits o message.Chat e (Some h) all found = invited_fit o e h all found
    said_fits o message.Normal e (Some h) all found = invited_fit o e h all found
    said_fits o message.Headline e (Some h) all found = invited_fit o e h all found
    said_fits o message.Error e (Some h) all found = invited_fit o e h all found

    pub whispered_fits : (found : Option Hosted) → IfSome found (λ h. AllLive H h.room) → AllByRecursion P (to_one_in who st found)
    whispered_fits None all = no ItemNotFound
    whispered_fits (Some h) all = direct_rows h.room who st P (Lives H) R (whispers h.room) all

    -- requests

    pub asked_fits : (h : Hosted) → AllLive H h.room → AllByRecursion P (asked_of who st (Some h))
    asked_fits h all =
        either_all P (queries admin_space st) _ _ (admin_rows h.room who st P (Lives H) R (manages h.room) all)
        (either_all P (queries owner_space st) _ _ (owner_rows h.room who st P (owns h.room)) (no ServiceUnavailable))

    -- presence

    pub absent_fits : (found : Option Hosted) → IfSome found (λ h. AllLive H h.room) → AllByRecursion P (absent_from who st found)
    absent_fits None all = tt
    absent_fits (Some h) all = leave_fits h.room who.session (Some st) is all

    pub present_fits : (kept : World KeptTraffic) (found : Option Hosted) → IfSome found (λ h. AllLive H h.room)
        → AllByRecursion P (present_in kept who st found)
    present_fits kept None all =
        enter_rows None (numbers_for kept.rooms who.session) who st [] P (Lives H) (AllLive H) Any (λ e at. enters e) tt (λ to e at. tt) tt
    present_fits kept (Some h) all =
        either_all P (is_in who.session h) _ _ (rename_rows h.room who st P (Lives H) (λ e at. shows h.room e) all)
        (enter_rows (Some h.room) (numbers_for kept.rooms who.session) who st (past_in kept.archives h) P (Lives H) (AllLive H) Any
        (λ e at. enters e) all (λ to e at. tt) (every Any (λ d. tt) (past_in kept.archives h)))

-- those who are called are found
pub called_are_found : (domain : List ℕ) (world : World KeptTraffic) (e : Element) → AreFound world (called domain world e)
called_are_found domain world e = called_found world (option_and_then (λ i. local_user domain i.address) (option_and_then invitation_of (x_in e)))

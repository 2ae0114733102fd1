-- What comes of a stanza for a room is small.
use Rattle.std.proofs.Common.{◌≡◌, ℕ, ◌≤◌, List, [], ◌∷◌, ◌++◌, map, length, codes, refl, sym, ap, subst, arith}
use Rattle.std.proofs.Common.{length-append, Bool, true, false, Option, Some, None, IfSome, if◌then◌else◌}
use Rattle.std.specs.List.{AllByRecursion}
use Rattle.std.specs.Option.{option_map}
use Rattle.jid_core.specs.Addresses.{Address, address_text, bare, local_text, resource_text}
use Rattle.stanza_tree.specs.Children.{child_of}
use Rattle.stanza_tree.specs.Spelling.{client_space, text, text_under}
use Rattle.stanza_tree.specs.declared.frame.Origin.TheVariants.{Direct, Opening}
use Rattle.stanza_tree.specs.declared.node.Element.{Element}
use Rattle.stanza_model.specs.Replies.{error_of, refused, result_of, said_to}
use Rattle.stanza_model.specs.Stanzas.{element_in, id_in, to_in}
use Rattle.stanza_model.specs.declared.condition.Condition.{Condition}
use Rattle.stanza_model.specs.declared.condition.Condition.TheVariants.{BadRequest, ItemNotFound, ServiceUnavailable}
use Rattle.stanza_model.specs.declared.here.Here.{Here}
use Rattle.stanza_model.specs.declared.keeping.Keeping.{Keeping}
use Rattle.stanza_model.specs.declared.kinds.MessageForm.{MessageForm}
use Rattle.stanza_model.specs.declared.kinds.MessageForm.TheVariants as message
use Rattle.stanza_model.specs.declared.kinds.PresenceForm.TheVariants as presence
use Rattle.stanza_model.specs.declared.room.Nicked.{Nicked}
use Rattle.stanza_model.specs.declared.room.Occupant.{Occupant}
use Rattle.stanza_model.specs.declared.room.Room.{Room}
use Rattle.stanza_model.specs.declared.room.Seat.{Seat}
use Rattle.stanza_model.specs.declared.stanza.Stanza.{Stanza}
use Rattle.stanza_model.specs.declared.stanza.Stanza.TheVariants.{Presence}
use Rattle.muc_room.specs.Entering.{new_room}
use Rattle.muc_roles.specs.Roles.{sees_addresses}
use Rattle.muc_room.specs.Entries.{present, subject_text}
use Rattle.muc_room.specs.Histories.{delayed_text}
use Rattle.muc_room.specs.Leaving.{last_words}
use Rattle.muc_room.specs.Saying.{private_text}
use Rattle.muc_room.specs.Views.{seen, shown_children, user_space}
use Rattle.muc_owner.specs.Invitations.{declined_in, has_one_call, invitation_as, invitation_if, invitation_to, invited_in}
use Rattle.muc_owner.specs.Inviting.{copies, invite}
use Rattle.muc_admin.specs.Items.{address_at, admin_space}
use Rattle.muc_owner.specs.Owning.{nicks_of, owner_space, seat_nick, told_reason}
use Rattle.muc_owner.specs.declared.invitation.Invitation.{Invitation}
use Rattle.muc_service.specs.Rooms.{Hosted, is_in}
use Rattle.mam_wire.specs.Stamps.{stamp_text}
use Rattle.mam_wire.proofs.StampLemmas.{stamp_length}
use Rattle.house_model.specs.ArchiveLookups.{keeping_in, past_in, rows_in}
use Rattle.house_model.specs.Fitting.{IsShortAddress, IsShortOccupant, IsShortRoom}
use Rattle.house_model.specs.Requests.{queries}
use Rattle.house_model.specs.RoomLookups.{called, numbers_for}
use Rattle.house_model.specs.Routing.{Scene, absent_from, asked_of, is_invitation, present_in, to_all_in, to_no_room, to_one_in}
use Rattle.house_model.specs.States.{World}
use Rattle.house_model.specs.Traffic.{KeptTraffic}
use Rattle.house_model.proofs.ConfigSizes.{config_short}
use Rattle.house_model.proofs.Founds.{append_all, either_all}
use Rattle.house_model.proofs.PartSizes.{carried-le, child-inside, told-le}
use Rattle.house_model.proofs.ReplySizes.{spelt_length}
use Rattle.house_model.proofs.RequestCases.{IsCall, IsReason, Manages, Owns, Sets, admin_rows, invite_rows, owner_rows}
use Rattle.house_model.proofs.RoomCases.{Enters, Says, Shows, Whispers, direct_rows, enter_rows, refused_rows, rename_rows, say_rows}
use Rattle.house_model.proofs.RoomSizes.{affiliations-le, declined-le, form-le, invited-le, message-le, private-le, roles-le, subject-le}
use Rattle.house_model.proofs.ResultSizes.{IsShortDelayed, delayed-le}
use Rattle.house_model.proofs.RosterSizes.{number-le}
use Rattle.house_model.proofs.ViewSizes.{IsShortNick, seen-le}
use Rattle.house_model.proofs.SmallEffects.{Small, queued, R, spoken_short, code_short, own_code, entry_codes, entry_few, leave_small}

-- a room as it is entered

record IsShortHall (r : Room) : Type 0 where
  pub address : IsShortAddress r.address
  pub occupants : AllByRecursion IsShortOccupant r.occupants
  pub subject : IfSome r.subject IsShortDelayed

hall_of_room : (r : Room) → IsShortRoom r → IsShortHall r
hall_of_room r short = record { address = short.address; occupants = short.occupants; subject = short.subject }

pub new_short : (n : ℕ) (to : Address) (who : Here) → IsShortAddress to → IsShortAddress (new_room n to who).address
new_short n to who short =
    omega (
      arith,
      short,
      length-append (local_text to.local ++ to.domain) (resource_text to.resource),
      length-append (local_text to.local ++ to.domain) [],
    )

new_hall : (n : ℕ) (to : Address) (who : Here) → IsShortAddress to → IsShortHall (new_room n to who)
new_hall n to who short = record { address = new_short n to who short; occupants = tt; subject = tt }

-- what is said

-- what the rows read of a stanza and of its sender
pub record IsShortStanza (who : Here) (st : Stanza) : Type 0 where
  pub own : IsShortAddress who.address
  pub bare_own : length (address_text (bare who.address)) ≤ 3071
  pub refusal : (c : Condition) → Small (said_to who (error_of st c))
  pub element : (e : Element) → element_in st ≡ Some e → length (text e) ≤ 196608
  pub name : (e : Element) → element_in st ≡ Some e → length e.name.local ≤ 8
  pub to : IfSome (to_in st) IsShortAddress
  pub id : spelt_length (id_in st) ≤ 196608

pub nick-le : (a : Address) (nick : List ℕ) → a.resource ≡ Some nick → IsShortAddress a → IsShortNick nick
nick-le a nick is short =
    omega (
      arith,
      short,
      length-append (local_text a.local ++ a.domain) (resource_text a.resource),
      ap (λ (r : Option (List ℕ)). length (resource_text r)) is,
    )

pub to-short : (who : Here) (st : Stanza) (to : Address) (e : Element) → IsShortStanza who st → st ≡ Presence (Some to) presence.Available e
    → IsShortAddress to
to-short who st to e short is = subst (λ (x : Stanza). IfSome (to_in x) IsShortAddress) is short.to

module _ (who : Here) (st : Stanza) (fits : IsShortStanza who st) where
  says : (room : Room) (keeping : Keeping) (moment : ℕ) → IsShortRoom room → keeping.row ≤ 18446744073709551618
      → Says room who st keeping (stamp_text moment) Small IsShortOccupant
  says room keeping moment short low = record {
    refusal = fits.refusal;
    item = λ o e is at. message-le room o keeping.row e (fits.element e at) (fits.name e at) short.address is.nick low;
    row = λ o e is at has. message-le room o keeping.row e (fits.element e at) (fits.name e at) short.address is.nick low;
    subject = λ o e is at has. (
      message-le room o keeping.row e (fits.element e at) (fits.name e at) short.address is.nick low,
      omega (arith, stamp_length moment),
    );
  }

  whispers : (room : Room) → IsShortRoom room → Whispers room who st Small IsShortOccupant R
  whispers room short = record {
    refusal = fits.refusal;
    seats = λ o is. is.seats;
    private = λ o e x is here at.
        queued x.session x.address (private_text room o e) Direct here (private-le room o e (fits.element e at) short.address is.nick);
  }

  -- presence
  module _ (e : Element) (shown : length (shown_children e.children) ≤ 16384) where
    pub shows : (room : Room) → Shows room who st e Small IsShortOccupant
    shows room = record {
      refusal = fits.refusal;
      shown = shown;
      again = λ o is. (is.nick, fits.own, tt, shown, tt, own_code, omega arith, omega arith);
      item = λ o to nick is at named. (nick-le to nick named (to-short who st to e fits at), fits.own, tt, shown, tt, own_code, omega arith, omega arith);
      old = λ o to nick is at named. (
        is.nick,
        fits.own,
        nick-le to nick named (to-short who st to e fits at),
        shown,
        (code_short 303 (omega arith), tt),
        own_code,
        omega arith,
        omega arith,
      );
      renamed = λ to nick at named. nick-le to nick named (to-short who st to e fits at);
    }

    enters_small : Enters who st e Small IsShortOccupant IsShortHall IsShortDelayed
    enters_small = record {
      refusal = fits.refusal;
      occupants = λ room short. short.occupants;
      made = λ room short. short.address;
      opening = λ room stay role o short is.
          queued who.session who.address (seen (present room o) (sees_addresses role room.config.anyone) room.address who.session who.address)
          (Opening room.number stay) fits.own
          (omega (
            arith,
            seen-le (present room o) (sees_addresses role room.config.anyone) room.address who.session who.address
                (is.nick, spoken_short room.address o short.address is, tt, is.presence, tt, tt, omega arith, omega arith) short.address fits.own,
          ));
      enter = λ room to nick role at named. (fits.own, nick-le to nick named (to-short who st to e fits at));
      shown = λ room. shown;
      item = λ room made to nick holder short at named. (
        nick-le to nick named (to-short who st to e fits at),
        fits.own,
        tt,
        shown,
        tt,
        entry_codes room.config.anyone made,
        omega arith,
        entry_few room.config.anyone made,
      );
      past = λ room stay d short is. queued who.session who.address (delayed_text room.address d) (Opening room.number stay) fits.own
          (omega (arith, delayed-le room.address d short.address is));
      subject = λ room stay short. queued who.session who.address (subject_text room.address room.subject) (Opening room.number stay) fits.own
          (omega (arith, subject-le room.address room.subject short.address short.subject));
    }

  -- what is set
  as_short : (room r : Room) → IsShortAddress room.address → r.address ≡ room.address → IsShortAddress r.address
  as_short room r short same = subst IsShortAddress (sym same) short

  sets : (room : Room) → IsShortRoom room → Sets room Small IsShortOccupant R
  sets room short = record {
    seats = λ o is. is.seats;
    role = λ o role is. record { seats = is.seats; nick = is.nick; presence = is.presence };
    affiliation = λ o a is. record { seats = is.seats; nick = is.nick; presence = is.presence };
    removed = λ r o a code same is few.
        (is.nick, spoken_short r.address o (as_short room r short.address same.1) is, tt, is.presence, (few, tt), own_code, omega arith, omega arith);
    left = λ r x same is. tt;
    changed = λ r o a role same is.
        (is.nick, spoken_short r.address o (as_short room r short.address same.1) is, tt, is.presence, tt, own_code, omega arith, omega arith);
    given = λ r o role same is. tt;
    affiliated = λ r address a same. tt;
    gone = λ r same. tt;
  }

  said_small : (x : Element) → length (text x) ≤ 500000 → Small (said_to who x)
  said_small x few = queued who.session who.address (text x) Direct fits.own few

  nicked : (nick : List ℕ) (xs : List Seat) → IsShortNick nick → AllByRecursion (λ (n : Nicked). IsShortNick n.nick) (map (seat_nick nick) xs)
  nicked nick [] few = tt
  nicked nick (x ∷ xs) few = (few, nicked nick xs few)

  all_nicked : (os : List Occupant) → AllByRecursion IsShortOccupant os → AllByRecursion (λ (n : Nicked). IsShortNick n.nick) (nicks_of os)
  all_nicked [] all = tt
  all_nicked (o ∷ os) all =
      append_all (λ (n : Nicked). IsShortNick n.nick) (map (seat_nick o.nick) o.seats) (nicks_of os) (nicked o.nick o.seats all.0.nick) (all_nicked os all.1)

  reason-of : (reason : Option Element) → IfSome reason (IsReason st)
      → IfSome (option_map told_reason reason) (λ r. length (text_under user_space r) ≤ 400000)
  reason-of None is = tt
  reason-of (Some r) is =
      let top = fits.element is.top is.at in
      let query = child-inside client_space owner_space (codes "query") is.top is.query is.asked in
      let destroy = child-inside is.top.name.space owner_space (codes "destroy") is.query is.destroy is.wanted in
      let reason = child-inside is.query.name.space owner_space (codes "reason") is.destroy r is.said in
      let few : length (text_under is.destroy.name.space r) ≤ 196608 = omega (arith, top, query, destroy, reason) in
      omega (arith, told-le is.destroy.name.space r few)

  owns : (room : Room) → IsShortRoom room → Small (said_to who (result_of st [])) → Owns room who st Small
  owns room short result = record {
    refusal = fits.refusal;
    result = result;
    form = said_small _
        (form-le room.config short.title short.secret (number-le room.config.max (let few = short.most in omega (arith, few))) st fits.to fits.id);
    configured = λ fields right. config_short fields room.config right (record { title = short.title; secret = short.secret; most = short.most });
    unlocked = tt;
    destroyed = λ reason is. (reason-of reason is, all_nicked room.occupants short.occupants);
    gone = tt;
  }

  manages : (room : Room) → IsShortRoom room → Small (said_to who (result_of st [])) → Manages room who st Small IsShortOccupant R
  manages room short result = record {
    refusal = fits.refusal;
    result = result;
    sets = sets room short;
    affiliations = λ a. said_small _ (affiliations-le st a room.affiliations short.affiliations fits.to fits.id);
    roles = λ role. said_small _ (roles-le st room role fits.to fits.id);
  }

  -- invitations
  call-of : (i : Invitation) → IsCall st i → IfSome i.reason (λ r. length (text_under user_space r) ≤ 400000)
  call-of i call = as_one (has_one_call call.x) call.said where
    small : length (text_under call.top.name.space call.x) ≤ 196608
    small =
        let top = fits.element call.top call.at in
        let x = child-inside client_space user_space (codes "x") call.top call.x call.has in
        omega (arith, top, x)

    reason_by : (e : Element) (local : List ℕ) → child_of user_space local call.x.children ≡ Some e → (reason : Option Element)
        → child_of user_space (codes "reason") e.children ≡ reason → IfSome reason (λ r. length (text_under user_space r) ≤ 400000)
    reason_by e local at None is = tt
    reason_by e local at (Some r) is =
        let part = child-inside call.top.name.space user_space local call.x e at in
        carried-le call.x.name.space user_space user_space (codes "reason") e r is (omega arith) (omega (arith, small, part))

    by_address : (declined : Bool) (e : Element) (local : List ℕ) → child_of user_space local call.x.children ≡ Some e → (address : Option Address)
        → invitation_if declined e address ≡ Some i → IfSome i.reason (λ r. length (text_under user_space r) ≤ 400000)
    by_address declined e local at None is = absurd (let z : None ≡ Some i = is in cc)
    by_address declined e local at (Some address) is =
        let same : invitation_to declined e address ≡ i = cc in
        subst (λ (j : Invitation). IfSome j.reason (λ r. length (text_under user_space r) ≤ 400000)) same
        (reason_by e local at (child_of user_space (codes "reason") e.children) refl)

    by_call : (invited other : Option Element) → invited_in call.x ≡ invited → declined_in call.x ≡ other → invitation_as invited other ≡ Some i
        → IfSome i.reason (λ r. length (text_under user_space r) ≤ 400000)
    by_call (Some e) other at more is = by_address false e (codes "invite") at (address_at (codes "to") e) is
    by_call None (Some e) at more is = by_address true e (codes "decline") more (address_at (codes "to") e) is
    by_call None None at more is = absurd (let z : None ≡ Some i = is in cc)

    as_one : (b : Bool) → (if b then invitation_as (invited_in call.x) (declined_in call.x) else None) ≡ Some i
        → IfSome i.reason (λ r. length (text_under user_space r) ≤ 400000)
    as_one true is = by_call (invited_in call.x) (declined_in call.x) refl refl is
    as_one false is = absurd (let z : None ≡ Some i = is in cc)

  copies_small : (rest : List ℕ) (hs : List Here) → length rest ≤ 500000
      → AllByRecursion (λ h. IsShortAddress h.address) hs → AllByRecursion Small (copies rest hs)
  copies_small rest [] few all = tt
  copies_small rest (h ∷ hs) few all = (queued h.session h.address rest Direct all.0 few, copies_small rest hs few all.1)

  pub no : (c : Condition) → AllByRecursion Small (refused who st c)
  no c = refused_rows Small who st fits.refusal c

  pub invited_small : (o : Scene) (e : Element) (h : Hosted) → IsShortRoom h.room
      → AllByRecursion (λ x. IsShortAddress x.address) (called o.domain o.world e)
      → AllByRecursion Small (if is_invitation e then invite h.room who st (called o.domain o.world e) else refused who st BadRequest)
  invited_small o e h short found =
      either_all Small (is_invitation e) _ _
      (invite_rows h.room who st (called o.domain o.world e) Small IsShortOccupant R (record {
        refusal = fits.refusal;
        sets = sets h.room short;
        invited = λ i call.
            copies_small _ (called o.domain o.world e) (invited-le h.room who i.reason short.address short.secret fits.bare_own (call-of i call)) found;
        declined = λ i call.
            copies_small _ (called o.domain o.world e) (declined-le h.room who i.reason short.address fits.bare_own (call-of i call)) found;
      }) short.occupants) (no BadRequest)

  -- the rows
  pub to_all_small : (o : Scene) (form : MessageForm) (e : Element) (found : Option Hosted) → IfSome found (λ h. IsShortRoom h.room)
      → AllByRecursion (λ x. IsShortAddress x.address) (called o.domain o.world e)
      → ((h : Hosted) → (rows_in o.world.archives h).made ≤ 18446744073709551616) → AllByRecursion Small (to_all_in o who st form e found)
  to_all_small o form e None short found few = no (to_no_room form e)
  to_all_small o message.Groupchat e (Some h) short found few =
      let keeping : Keeping = keeping_in o.world.archives h o.moment in
      say_rows h.room who st keeping (stamp_text o.moment) Small IsShortOccupant
      (says h.room keeping o.moment short (let low = few h in omega (arith, low))) short.occupants
  to_all_small o message.Chat e (Some h) short found few = invited_small o e h short found
  to_all_small o message.Normal e (Some h) short found few = invited_small o e h short found
  to_all_small o message.Headline e (Some h) short found few = invited_small o e h short found
  to_all_small o message.Error e (Some h) short found few = invited_small o e h short found

  pub to_one_small : (found : Option Hosted) → IfSome found (λ h. IsShortRoom h.room) → AllByRecursion Small (to_one_in who st found)
  to_one_small None short = no ItemNotFound
  to_one_small (Some h) short = direct_rows h.room who st Small IsShortOccupant R (whispers h.room short) short.occupants

  pub asked_small : (h : Hosted) → IsShortRoom h.room → Small (said_to who (result_of st [])) → AllByRecursion Small (asked_of who st (Some h))
  asked_small h short result =
      either_all Small (queries admin_space st) _ _ (admin_rows h.room who st Small IsShortOccupant R (manages h.room short result) short.occupants)
      (either_all Small (queries owner_space st) _ _ (owner_rows h.room who st Small (owns h.room short result)) (no ServiceUnavailable))

  pub absent_small : (found : Option Hosted) → IfSome found (λ h. IsShortRoom h.room) → length (last_words (Some st)) ≤ 16384
      → AllByRecursion Small (absent_from who st found)
  absent_small None short few = tt
  absent_small (Some h) short few = leave_small h.room who.session (Some st) short few

  pub present_small : (world : World KeptTraffic) (found : Option Hosted) → IfSome found (λ h. IsShortRoom h.room)
      → ((h : Hosted) → AllByRecursion IsShortDelayed (past_in world.archives h))
      → ((e : Element) → element_in st ≡ Some e → length (shown_children e.children) ≤ 16384) → AllByRecursion Small (present_in world who st found)
  present_small world None short past few =
      enter_rows None (numbers_for world.rooms who.session) who st [] Small IsShortOccupant IsShortHall IsShortDelayed
      (λ e at. enters_small e (few e at)) tt
      (λ to e at. new_hall (numbers_for world.rooms who.session).next_room to who (to-short who st to e fits at)) tt
  present_small world (Some h) short past few =
      either_all Small (is_in who.session h) _ _
      (rename_rows h.room who st Small IsShortOccupant (λ e at. shows e (few e at) h.room) short.occupants)
      (enter_rows (Some h.room) (numbers_for world.rooms who.session) who st (past_in world.archives h) Small IsShortOccupant IsShortHall
      IsShortDelayed (λ e at. enters_small e (few e at)) (hall_of_room h.room short)
      (λ to e at. new_hall (numbers_for world.rooms who.session).next_room to who (to-short who st to e fits at)) (past h))

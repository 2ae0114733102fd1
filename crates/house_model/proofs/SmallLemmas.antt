-- What comes of a stanza that a stream can bring is small.
use Rattle.std.proofs.Common.{◌≡◌, ℕ, ◌+◌, ◌≤◌, inl, inr, List, [], ◌∷◌, ◌++◌, ◌∙◌, not, length, Option, Some, None, Bool, true, false}
use Rattle.std.proofs.Common.{codes, refl, sym, ap, subst, arith, length-append, if◌then◌else◌, cond}
use Rattle.std.specs.Prelude.{IfSome, unwrap_or}
use Rattle.std.specs.List.{AllByRecursion, filter}
use Rattle.std.specs.Option.{option_map}
use Rattle.std.proofs.lemmas.Grind.{common_steps}
use Rattle.stanza_tree.specs.Attributes.{attr_of, is_named}
use Rattle.stanza_tree.specs.Entries.{frame}
use Rattle.stanza_tree.specs.Spelling.{value_text, needs_prefix, prefixed, unprefixed, attributes, client_space, text}
use Rattle.stanza_tree.specs.declared.frame.Origin.TheVariants.{Direct}
use Rattle.stanza_tree.specs.declared.node.Attr.{Attr}
use Rattle.stanza_tree.specs.declared.node.Element.{Element}
use Rattle.stanza_tree.proofs.Bounds.{length-frame, length-value_text-le}
use Rattle.jid_core.specs.Addresses.{Address, address_text, same_bare}
use Rattle.stanza_model.specs.Errors.{plain_attr}
use Rattle.stanza_model.specs.Kinds.{message_form, presence_form, iq_form}
use Rattle.stanza_model.specs.Replies.{error_of, one_child, result_of, said_to}
use Rattle.stanza_model.specs.Stanzas.{kind_of, type_of, id_of, address_in, is_unreadable, has_wrong_content, faulty}
use Rattle.stanza_model.specs.Stanzas.{unless_unreadable, presence_by, iq_by, stanza_as, stanza_of, to_in, id_in, element_in}
use Rattle.stanza_model.specs.declared.condition.Condition.TheVariants.{BadRequest, JidMalformed}
use Rattle.stanza_model.specs.declared.effect.Effect.{Effect}
use Rattle.stanza_model.specs.declared.here.Here.{Here}
use Rattle.stanza_model.specs.declared.kinds.Kind.{Kind}
use Rattle.stanza_model.specs.declared.kinds.Kind.TheVariants as kind
use Rattle.stanza_model.specs.declared.kinds.IqForm.{IqForm}
use Rattle.stanza_model.specs.declared.kinds.PresenceForm.{PresenceForm}
use Rattle.stanza_model.specs.declared.kinds.PresenceForm.TheVariants as presence
use Rattle.stanza_model.specs.declared.stanza.Stanza.{Stanza}
use Rattle.stanza_model.specs.declared.stanza.Stanza.TheVariants.{Message, Presence, Iq, Faulty}
use Rattle.stanza_model.proofs.StanzaLemmas.{stanza_of-element}
use Rattle.stanza_router.specs.Messages.{addressed}
use Rattle.stanza_router.specs.declared.places.Place.{Place}
use Rattle.contact_table.specs.Books.{bare_of}
use Rattle.roster_book.specs.Requests.{listing}
use Rattle.presence_core.specs.Broadcasts as broadcasts
use Rattle.presence_core.specs.Broadcasts.{asked_by, presence_from, request_from}
use Rattle.presence_core.specs.Copies.{presence_text}
use Rattle.muc_room.specs.Leaving.{last_words}
use Rattle.muc_room.specs.Views.{shown_children}
use Rattle.muc_service.specs.Casting.{cast}
use Rattle.muc_service.specs.Rooms.{Hosted, Rooms}
use Rattle.house_model.specs.Fitting.{IsSmall, AreSmall, AreShortAddresses, AreShortRooms, IsShortAddress, IsShortRoom, IsShortScene}
use Rattle.house_model.specs.RoomLookups.{called, listed, listed_as, room_for, rooms_of}
use Rattle.house_model.specs.States.{World}
use Rattle.house_model.specs.Traffic.{KeptTraffic}
use Rattle.house_model.specs.Histories.{IsSent, IsShortId, IsShortFault, StanzaFits}
use Rattle.house_model.specs.Lookups.{here, sessions_of}
use Rattle.house_model.specs.Presences.{asking, party}
use Rattle.house_model.specs.Routing.{Scene, departure, effects_in, own_contacts, parted, user_in, user_removed}
use Rattle.house_model.proofs.ArchiveSmall.{few_in, page_le, past_short, row_few, shown_small}
use Rattle.house_model.proofs.CopySizes.{bare-le, copy-small, plain-small, row-short, told-small}
use Rattle.house_model.proofs.EffectCases.{effects_all}
use Rattle.house_model.proofs.IdSizes.{name-short}
use Rattle.house_model.proofs.Founds.{AreFound, IsHere, append_all, filter_all, numbers_found}
use Rattle.house_model.proofs.NameSizes.{local-le, user-short}
use Rattle.house_model.proofs.RosterCases.{all_told_at, found_at, parted_all, set_all, tells}
use Rattle.house_model.proofs.RosterSizes.{listing-le}
use Rattle.house_model.proofs.RosterSmall.{IsShortItem, IsShortName, IsShortText, small-reaches, small-seen}
use Rattle.house_model.proofs.WantedSizes.{changed-le, user-removed-short, wanted-short}
use Rattle.house_model.proofs.PresenceCases.{departure_all, keeping_of}
use Rattle.house_model.proofs.ReplySizes.{spelt_length, under-le, under-parts, plain-attributes, plain-declared, error-reply-le, empty-reply-le}
use Rattle.house_model.proofs.ArchiveSizes as archives
use Rattle.house_model.proofs.DiscoverySizes.{IsShortListed, discovery-le}
use Rattle.house_model.proofs.CastSmall.{cast_small}
use Rattle.house_model.proofs.FitRows.{called_are_found}
use Rattle.house_model.proofs.Outs.{rooms_all}
use Rattle.house_model.proofs.PartSizes.{shown-le}
use Rattle.house_model.proofs.RoomCases.{found_all, map_all}
use Rattle.house_model.proofs.RoomSmall.{IsShortStanza, absent_small, asked_small, present_small, to_all_small}
use Rattle.house_model.proofs.SmallEffects.{Small, left_small, small_is}
use Rattle.house_model.proofs.RoomSmall.{to_one_small}

-- The value of an attribute is a part of the text.
unprefixed-long : (a : Attr) → length (value_text a.value) ≤ length (unprefixed a)
unfolding unprefixed
unprefixed-long a = grind (arith, common_steps)

prefixed-long : (k : ℕ) (a : Attr) → length (value_text a.value) ≤ length (prefixed k a)
unfolding prefixed
prefixed-long k a = grind (arith, common_steps)

attribute-step : (n k : ℕ) (p : Bool) (a : Attr) (m : List Attr) → n ≤ length (value_text a.value)
    → n ≤ length (if p then prefixed k a ++ attributes (k + 1) m else unprefixed a ++ attributes k m)
attribute-step n k true a m low = omega (arith, low, prefixed-long k a, length-append (prefixed k a) (attributes (k + 1) m))
attribute-step n k false a m low = omega (arith, low, unprefixed-long a, length-append (unprefixed a) (attributes k m))

later-step : (n k : ℕ) (p : Bool) (a : Attr) (m : List Attr) → n ≤ length (attributes (k + 1) m) → n ≤ length (attributes k m)
    → n ≤ length (if p then prefixed k a ++ attributes (k + 1) m else unprefixed a ++ attributes k m)
later-step n k true a m one two = omega (arith, one, length-append (prefixed k a) (attributes (k + 1) m))
later-step n k false a m one two = omega (arith, two, length-append (unprefixed a) (attributes k m))

value-step : (k : ℕ) (t : Bool) (a : Attr) (o : Option (List ℕ)) (more : List Attr)
    → spelt_length o ≤ length (attributes (k + 1) more) → spelt_length o ≤ length (attributes k more)
    → spelt_length (if t then Some a.value else o)
    ≤ length (if needs_prefix a then prefixed k a ++ attributes (k + 1) more else unprefixed a ++ attributes k more)
value-step k true a o more one two = attribute-step (length (value_text a.value)) k (needs_prefix a) a more (omega arith)
value-step k false a o more one two = later-step (spelt_length o) k (needs_prefix a) a more one two

value-bound : (local : List ℕ) (k : ℕ) (attrs : List Attr) → spelt_length (attr_of local attrs) ≤ length (attributes k attrs)
value-bound local k [] = omega arith
value-bound local k (a ∷ more) =
    value-step k (is_named local a) a (attr_of local more) more (value-bound local (k + 1) more) (value-bound local k more)

-- What an element is, as a stanza, has its id.
abbrev HasIdOf : Element → Stanza → Type 0
HasIdOf e st = id_in st ≡ id_of e

either-id : (c : Bool) (e : Element) (a b : Stanza) → HasIdOf e a → HasIdOf e b → HasIdOf e (cond c a b)
either-id true e a b one other = one
either-id false e a b one other = other

unless-id : (k : Kind) (st : Stanza) (e : Element) → HasIdOf e st → HasIdOf e (unless_unreadable k st e)
unless-id k st e has = either-id (is_unreadable e) e (faulty k JidMalformed e) st refl has

presence-id : (form : Option PresenceForm) (e : Element) → HasIdOf e (presence_by form e)
presence-id None e = refl
presence-id (Some form) e = unless-id kind.Presence (Presence (address_in e) form e) e refl

iq-id : (id : Option (List ℕ)) (form : Option IqForm) (e : Element) → id ≡ id_of e → HasIdOf e (iq_by id form e)
iq-id None form e is = refl
iq-id (Some id) None e is = refl
iq-id (Some id) (Some form) e is =
    either-id (has_wrong_content form e) e (faulty kind.Iq BadRequest e) (unless_unreadable kind.Iq (Iq (address_in e) id form e) e) refl
    (unless-id kind.Iq (Iq (address_in e) id form e) e is)

as-id : (k : Kind) (e : Element) → HasIdOf e (stanza_as k e)
as-id kind.Message e = unless-id kind.Message (Message (address_in e) (message_form (type_of e)) e) e refl
as-id kind.Presence e = presence-id (presence_form (type_of e)) e
as-id kind.Iq e = iq-id (id_of e) (iq_form (type_of e)) e refl

by-kind-id : (k : Option Kind) (e : Element) (st : Stanza) → option_map (λ k. stanza_as k e) k ≡ Some st → HasIdOf e st
by-kind-id None e st is = absurd (cc)
by-kind-id (Some k) e st is = subst (λ (x : Stanza). HasIdOf e x) (let same : stanza_as k e ≡ st = cc in same) (as-id k e)

sent-id : (st : Stanza) → IsSent st → spelt_length (id_in st) ≤ 196608
sent-id st sent =
    subst (λ (id : Option (List ℕ)). spelt_length id ≤ 196608)
    (sym (by-kind-id (kind_of sent.element) sent.element st sent.read))
    (omega (arith, sent.small, under-parts client_space sent.element, value-bound (codes "id") 0 sent.element.attrs))

short-id : (id : Option (List ℕ)) → IsShortId id → spelt_length id ≤ 196608
short-id None short = omega arith
short-id (Some id) short = short

fault-id : (st : Stanza) → IsShortFault st → spelt_length (id_in st) ≤ 196608
fault-id (Faulty kind to id answered condition) short = short-id id short
fault-id (Message to form e) short = absurd short
fault-id (Presence to form e) short = absurd short
fault-id (Iq to id form e) short = absurd short

pub id-small : (st : Stanza) → StanzaFits st → spelt_length (id_in st) ≤ 196608
id-small st (inl sent) = sent-id st sent
id-small st (inr short) = fault-id st short

-- A stanza that fits has an element that fits.
no-fault : (st : Stanza) (e : Element) → element_in st ≡ Some e → IsShortFault st → ⊥
no-fault (Message to form x) e is short = short
no-fault (Presence to form x) e is short = short
no-fault (Iq to id form x) e is short = short
no-fault (Faulty kind to id answered condition) e is short = cc

pub element-small : (st : Stanza) (e : Element) → StanzaFits st → element_in st ≡ Some e → length (text e) ≤ 196608
element-small st e (inl sent) is =
    subst (λ (x : Element). length (text x) ≤ 196608) (stanza_of-element sent.element st e sent.read is) sent.small
element-small st e (inr short) is = absurd (no-fault st e is short)

-- Replies.
pub said-small : (who : Here) (e : Element) → length (text e) ≤ 500000 → length (address_text who.address) ≤ 3071
    → length (frame (record { to = address_text who.address; rest = text e; origin = Direct })) ≤ 524288
said-small who e small own =
    omega (
      arith,
      small,
      own,
      length-frame (record { to = address_text who.address; rest = text e; origin = Direct }),
      length-value_text-le (address_text who.address),
    )

-- Presence. A copy, and the presence of another session, has its address and a text that is short.
shown-small : (to rest : List ℕ) → length to ≤ 3071 → length rest ≤ 30000
    → length (frame (record { to = to; rest = rest; origin = Direct })) ≤ 524288
shown-small to rest own short =
    omega (arith, own, short, length-frame (record { to = to; rest = rest; origin = Direct }), length-value_text-le to)

kept-small : (p : Option (List ℕ)) → IfSome p (λ t. length t ≤ 16384) → length (unwrap_or p []) ≤ 30000
kept-small None short = omega arith
kept-small (Some p) short = omega (arith, short)

here-short : (world : World KeptTraffic) (h : Here) → AreShortAddresses world → IsHere world h → IsShortAddress h.address
here-short world h short is = subst (λ (x : Here). IsShortAddress x.address) (sym is.seen) (short h.session)

presence-le : (x : Address) (form : List ℕ) → length (address_text x) ≤ 4200 → length form ≤ 12 → length (text (presence_from x form)) ≤ 30000
presence-le x form short few =
    omega (
      arith,
      short,
      few,
      under-le client_space client_space (codes "presence")
          (plain_attr (codes "from") (address_text x) ∷ plain_attr (codes "type") form ∷ []) [],
      plain-attributes (codes "from") (address_text x) (plain_attr (codes "type") form ∷ []),
      plain-attributes (codes "type") form [],
      ap length (plain-declared (codes "from") (address_text x) (plain_attr (codes "type") form ∷ [])),
      ap length (plain-declared (codes "type") form []),
      length-value_text-le (address_text x),
      length-value_text-le form,
    )

request-le : (x : Address) → IsShortAddress x → length (text (request_from x)) ≤ 500000
request-le x short = (let few = presence-le x (codes "subscribe") (omega (arith, short)) (omega arith) in omega (arith, few))

asked-small : (who : Here) (xs : List Address) → IsShortAddress who.address → AllByRecursion IsShortAddress xs
    → AllByRecursion (λ x. IsSmall (asked_by who x)) xs
asked-small who [] own all = tt
asked-small who (x ∷ xs) own all = (said-small who (request_from x) (request-le x all.0) own, asked-small who xs own all.1)

own-le : (a : Address) (user : List ℕ) → IsShortAddress a → a.local ≡ Some user → length user ≤ 3071
own-le a user short is = omega (arith, short, local-le a user is)

-- The rooms.
listed-short : (rooms : Rooms) → AreShortRooms rooms → AllByRecursion IsShortListed (listed rooms)
listed-short rooms all =
    map_all IsShortListed (λ (h : Hosted). IsShortRoom h.room) listed_as (λ h is. (is.address, is.title)) (filter (λ h. not h.room.locked) rooms.hosted)
    (filter_all (λ (h : Hosted). IsShortRoom h.room) (λ h. not h.room.locked) rooms.hosted all)

pub room-short : (rooms : Rooms) (to : Option Address) → AreShortRooms rooms → IfSome (room_for rooms to) (λ h. IsShortRoom h.room)
room-short rooms None all = tt
room-short rooms (Some to) all = found_all (λ (h : Hosted). IsShortRoom h.room) (λ h. same_bare h.room.address to) rooms.hosted all

pub found-short : (world : World KeptTraffic) (hs : List Here) → AreShortAddresses world → AreFound world hs
    → AllByRecursion (λ (h : Here). IsShortAddress h.address) hs
found-short world [] short found = tt
found-short world (h ∷ hs) short found = (here-short world h short found.0, found-short world hs short found.1)

-- what a stanza that fits is read of
pub read-of : (st : Stanza) (e : Element) → StanzaFits st → element_in st ≡ Some e → stanza_of e ≡ Some st
read-of st e (inl sent) is = subst (λ (x : Element). stanza_of x ≡ Some st) (stanza_of-element sent.element st e sent.read is) sent.read
read-of st e (inr short) is = absurd (no-fault st e is short)

pub words-short : (st : Stanza) → ((e : Element) → element_in st ≡ Some e → length (shown_children e.children) ≤ 16384) → length (last_words (Some st)) ≤ 16384
words-short (Presence to presence.Unavailable e) short = short e refl
words-short (Presence to presence.Available e) short = omega arith
words-short (Presence to presence.Subscribe e) short = omega arith
words-short (Presence to presence.Subscribed e) short = omega arith
words-short (Presence to presence.Unsubscribe e) short = omega arith
words-short (Presence to presence.Unsubscribed e) short = omega arith
words-short (Presence to presence.Probe e) short = omega arith
words-short (Presence to presence.Error e) short = omega arith
words-short (Message to form e) short = omega arith
words-short (Iq to id form e) short = omega arith
words-short (Faulty kind to id answered condition) short = omega arith

cast-small : (es : List Effect) (rooms : Rooms) → AreShortRooms rooms → AllByRecursion Small es → AreSmall (cast rooms es)
cast-small es rooms short all = by (cast rooms es) (cast_small es rooms short all) where
  by : (xs : List Effect) → AllByRecursion Small xs → AreSmall xs
  by [] all = tt
  by (x ∷ xs) all = (small_is x all.0, by xs all.1)

stanza_all : (o : Scene) (s : ℕ) (st : Stanza) → StanzaFits st → IsShortScene o → IfSome (to_in st) IsShortAddress
    → AllByRecursion Small (effects_in o s st)
stanza_all o s st fits short to =
    let own : IsShortAddress (o.world.sessions s).rest.address = short.addresses s in
    let id : spelt_length (id_in st) ≤ 196608 = id-small st fits in
    let result : Small (said_to (here o.world s) (result_of st [])) = said-small (here o.world s) _ (empty-reply-le st to id) own in
    let whole : IsShortStanza (here o.world s) st = record {
      own = own;
      bare_own = omega (arith, own, bare-le (here o.world s).address);
      refusal = λ condition. said-small (here o.world s) (error_of st condition) (error-reply-le st condition to id) own;
      element = λ e is. element-small st e fits is;
      name = λ e is. name-short e st (read-of st e fits is);
      to = to;
      id = id;
    } in
    effects_all o s st Small (AllByRecursion Small) (record {
      all = λ es is. is;
      refusal = λ condition. said-small (here o.world s) _ (error-reply-le st condition to id) own;
      result = result;
      found = λ place. said-small (here o.world s) _ (discovery-le place st [] tt to id) own;
      told = λ place. said-small (here o.world s) _ (discovery-le place st (listed o.world.rooms) (listed-short o.world.rooms short.rooms) to id) own;
      form = said-small (here o.world s) _ (archives.form-le st to id) own;
      shown = λ from rows q asked fits. shown_small o short s st own from rows q asked fits;
      page = λ from rows q asked. said-small (here o.world s) _ (page_le o short st from rows q asked to id) own;
      said = λ form e is.
          to_all_small (here o.world s) st whole o form e (room_for o.world.rooms (to_in st)) (room-short o.world.rooms (to_in st) short.rooms)
          (found-short o.world (called o.domain o.world e) short.addresses (called_are_found o.domain o.world e)) (few_in o short);
      whispered = to_one_small (here o.world s) st whole (room_for o.world.rooms (to_in st)) (room-short o.world.rooms (to_in st) short.rooms);
      asks = λ h at.
          asked_small (here o.world s) st whole h
          (subst (λ (f : Option Hosted). IfSome f (λ y. IsShortRoom y.room)) at (room-short o.world.rooms (to_in st) short.rooms)) result;
      absent = λ e is few.
          absent_small (here o.world s) st whole (room_for o.world.rooms (to_in st)) (room-short o.world.rooms (to_in st) short.rooms)
          (words-short st (shown e is few));
      leaves = λ e is few es small.
          append_all Small es _ small
          (left_small s (Some st) (rooms_of s o.world.rooms) (words-short st (shown e is few))
          (rooms_all (λ (h : Hosted). IsShortRoom h.room) s o.world.rooms short.rooms));
      present = λ e is few.
          present_small (here o.world s) st whole o.world (room_for o.world.rooms (to_in st))
          (room-short o.world.rooms (to_in st) short.rooms) (past_short o short) (shown e is few);
      copy = λ e h is found. copy-small (here o.world s) h (to_in st) e (element-small st e fits is) own to;
      plain = λ e r is found. plain-small (here o.world s) (to_in st) e r (element-small st e fits is) own to;
      numbered = λ e r is found.
          told-small (here o.world s) (to_in st) e (keeping_of o s st).row r (element-small st e fits is)
          (name-short e st (read-of st e fits is)) own to (row_few o short (addressed (here o.world s) (to_in st)).local);
      sent = λ e user is named. row-short (here o.world s) (to_in st) e (element-small st e fits is) own to;
      received = λ e user is named. row-short (here o.world s) (to_in st) e (element-small st e fits is) own to;
      presence = λ e h small is.
          shown-small (address_text h.address) (presence_text (here o.world s) e) (here-short o.world h short.addresses is) (omega (arith, small));
      show = λ h is.
          shown-small (address_text (here o.world s).address) _ own
          (kept-small (o.world.sessions h.session).rest.manner.presence (short.presences h.session));
      asked = λ user. asked-small (here o.world s) (asking o.domain o.world user) own (short.asking user);
      shows = λ e priority small. small;
      hides = tt;
      directs = λ addresses. tt;
      pairs = λ named place user mine at is.
          tells o.world Small IsShortItem IsShortName IsShortText (small-reaches o short) (party o.domain o.world named) (party o.domain o.world user)
          (small-seen o short named (own-le (here o.world s).address named own mine))
          (small-seen o short user
          (user-short named o.domain (to_in st) user (own-le (here o.world s).address named own mine) to
          (subst (λ (x : Place). user_in named x ≡ Some user) at is)));
      lists = λ named. (
        tt,
        (
          said-small (here o.world s) (result_of st (one_child (listing (own_contacts o named))))
              (listing-le st (own_contacts o named) to id (short.rosters named)) own,
          tt,
        ),
      );
      changes = λ named mine.
          append_all Small (parted o named (user_removed o named st)) _
          (parts named (own-le (here o.world s).address named own mine) (user_removed o named st) refl)
          (set_all o.world Small IsShortItem IsShortName IsShortText (small-reaches o short) (bare_of o.domain named) (own_contacts o named)
          (here o.world s) (sessions_of o.world named) st (found_at o.world (sessions_of o.world named) (numbers_found o.world named))
          (λ c. said-small (here o.world s) _ (error-reply-le st c to id) own) (said-small (here o.world s) _ (empty-reply-le st to id) own)
          (λ w wants whole. changed-le (own_contacts o named) w whole (wanted-short (bare_of o.domain named) st w wants)));
    })
  where
    shown : (e : Element) → element_in st ≡ Some e → length (presence_text (here o.world s) e) ≤ 16384 → (x : Element) → element_in st ≡ Some x
        → length (shown_children x.children) ≤ 16384
    shown e is few x at =
        let same : e ≡ x = (let z : Some e ≡ Some x = sym is ∙ at in cc) in
        subst (λ (y : Element). length (shown_children y.children) ≤ 16384) same
        (shown-le (here o.world s) e st (read-of st e fits is) few)

    parts : (named : List ℕ) → length named ≤ 3071 → (user : Option (List ℕ)) → user_removed o named st ≡ user → AllByRecursion Small (parted o named user)
    parts named few None at = tt
    parts named few (Some user) at =
        parted_all o.world Small IsShortItem IsShortName IsShortText (small-reaches o short) (party o.domain o.world named) (party o.domain o.world user)
        (small-seen o short named few)
        (small-seen o short user (user-removed-short o.domain (bare_of o.domain named) (own_contacts o named) st user at))
        (all_told_at o.world (sessions_of o.world user) (numbers_found o.world user))

pub stanza_small : (o : Scene) (s : ℕ) (st : Stanza) → StanzaFits st → IsShortScene o → IfSome (to_in st) IsShortAddress
    → AreSmall (cast o.world.rooms (effects_in o s st))
stanza_small o s st fits short to = cast-small (effects_in o s st) o.world.rooms short.rooms (stanza_all o s st fits short to)

-- Departure.
departure_parts : (world : World KeptTraffic) (s : ℕ) → AreShortAddresses world → AreShortRooms world.rooms → AllByRecursion Small (departure world s)
departure_parts world s short rooms =
    departure_all world s Small
    (λ h is. shown-small (address_text h.address) (text (broadcasts.departure (here world s))) (here-short world h short is)
    (let own = short s in presence-le (here world s).address (codes "unavailable") (omega (arith, own)) (omega arith)))
    tt (λ addresses. tt)
    (left_small s None (rooms_of s world.rooms) (omega arith) (rooms_all (λ (h : Hosted). IsShortRoom h.room) s world.rooms rooms))

pub departure_small : (world : World KeptTraffic) (s : ℕ) → AreShortAddresses world → AreShortRooms world.rooms
    → AreSmall (cast world.rooms (departure world s))
departure_small world s short rooms = cast-small (departure world s) world.rooms rooms (departure_parts world s short rooms)

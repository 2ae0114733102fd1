-- Who gets which entry of a stanza that is acted on.
use Rattle.std.proofs.Common.{◌≡◌, ℕ, ◌<◌, ◌≤◌, List, [], ◌∷◌, ◌++◌, map, Option, Some, None, Bool, true, false, ◌==◌, ◌&&◌, bytes_eq}
use Rattle.std.proofs.Common.{inl, inr, refl, sym, ap, ◌∙◌, subst, true≢false, if◌then◌else◌, arith}
use Rattle.std.specs.List.{filter}
use Rattle.std.proofs.lemmas.Bool.{and_from, cases_lt, eq-eqb}
use Rattle.jid_core.specs.Addresses.{Address, address_text, bare, same_part}
use Rattle.stanza_tree.specs.Spelling.{text}
use Rattle.stanza_tree.specs.Stamps.{sent_by}
use Rattle.stanza_tree.specs.declared.frame.Entry.{Entry}
use Rattle.stanza_tree.specs.declared.frame.Origin.TheVariants.{Direct}
use Rattle.stanza_tree.specs.declared.node.Element.{Element}
use Rattle.stanza_model.specs.Ids.{told_with_id, without_ids}
use Rattle.stanza_model.specs.Replies.{error_of, may_be_answered, refused, said_to}
use Rattle.stanza_model.specs.declared.condition.Condition.{Condition}
use Rattle.stanza_model.specs.declared.condition.Condition.TheVariants.{RemoteServerNotFound, ResourceConstraint, ServiceUnavailable}
use Rattle.stanza_model.specs.declared.effect.Effect as stanza
use Rattle.stanza_model.specs.declared.here.Here.{Here}
use Rattle.stanza_model.specs.declared.keeping.Keeping.{Keeping}
use Rattle.stanza_model.specs.declared.kinds.MessageForm.{MessageForm}
use Rattle.stanza_model.specs.declared.kinds.MessageForm.TheVariants.{Chat, Normal, Headline, Groupchat, Error}
use Rattle.stanza_model.specs.declared.stanza.Stanza.{Stanza}
use Rattle.stanza_model.specs.declared.stanza.Stanza.TheVariants.{Message}
use Rattle.stanza_router.specs.Messages.{addressed, given, if_known, is_kept, is_reached, is_to_oneself, is_too_much, of_user, plain_text, queued_as}
use Rattle.stanza_router.specs.Messages.{route_of, routed, row_of, row_text, rows_for, to_user, told_text}
use Rattle.stanza_router.specs.Places.{at_server, at_service, place_of, service_domain}
use Rattle.stanza_router.specs.declared.places.Place.{Place}
use Rattle.stanza_router.specs.declared.places.Place.TheVariants.{Account, Server, User, UserAt, Service, Room, RoomAt, Foreign}
use Rattle.session_table.specs.declared.line.Line as stage
use Rattle.session_table.specs.declared.line.Line.TheVariants.{Bound}
use Rattle.contact_table.proofs.ByteLemmas.{bytes_equal, bytes_same}
use Rattle.muc_service.specs.Casting.{cast}
use Rattle.muc_service.specs.Rooms.{Rooms}
use Rattle.house_model.specs.declared.event.Event.TheVariants as event
use Rattle.house_model.specs.declared.reply.Reply.TheVariants as reply
use Rattle.house_model.specs.Sessions.{Hold, Gone, Session}
use Rattle.house_model.specs.Traffic.{whole}
use Rattle.house_model.specs.States.{State, keep, keep_session, keep_world}
use Rattle.house_model.specs.Effects.{Effect, apply_all}
use Rattle.house_model.specs.Gate.{Verdict, to_act, gate_at}
use Rattle.house_model.specs.Lookups.{is_of, is_there, sessions_of}
use Rattle.house_model.specs.ArchiveLookups.{keeping_for}
use Rattle.house_model.specs.Routing.{Scene, scene_of, live_for, user_in, receivers, has_account, message, effects_by}
use Rattle.house_model.specs.Histories as history
use Rattle.house_model.specs.Stays.{takes, takes_entries}
use Rattle.house_model.specs.Steps.{effect_of, acts, body, verdict, turn}
use Rattle.house_model.specs.Deliveries.{entries_for, Gets, Sends, GetsBy, effects_of_act, seen_as, place_for, found_for, IsRoutedAs, is_among}
use Rattle.house_model.specs.Deliveries.{IsForUser, destination, identified, message_from, message_of, passes, error_for, address_at}
use Rattle.house_model.proofs.AddressLaws.{kept_there, takes_there}
use Rattle.house_model.proofs.DeliverySteps.{stanza_mild, all_get}
use Rattle.house_model.proofs.FoundOnce.{copies_in, receivers_copied, passing_among}
use Rattle.house_model.proofs.HousedTurns.{Known}
use Rattle.house_model.proofs.StayLists.{kept_address}

-- what an Act on the line of a session does
act_is : (st : State) (w c s t : ℕ) (x : Stanza) → (st.world.lines w).stage ≡ Bound c s
    → verdict (keep (turn (event.Act w x t) st)) (event.Act w x t) ≡ acts (keep (turn (event.Act w x t) st)) s x
act_is st w c s t x is =
    ap (λ (g : stage.Line). body (keep (turn (event.Act w x t) st)) (event.Act w x t)
    (gate_at to_act (keep (turn (event.Act w x t) st)) w (st.world.lines w) g)) is

-- a place by a user's address
pub full_place : (own d user resource : List ℕ)
    → place_of own d (Some (record { local = Some user; domain = d; resource = Some resource })) ≡ UserAt user resource
full_place own d user resource =
    ap (λ (b : Bool). if b then at_server own (Some user) (Some resource)
    else if bytes_eq d (service_domain d) then at_service (Some user) (Some resource) else Foreign) (bytes_same d)

bare_place : (own d user : List ℕ)
    → place_of own d (Some (record { local = Some user; domain = d; resource = None })) ≡ (if bytes_eq user own then Account else User user)
bare_place own d user =
    ap (λ (b : Bool). if b then at_server own (Some user) None
    else if bytes_eq d (service_domain d) then at_service (Some user) None else Foreign) (bytes_same d)

-- the user whose bare address a place is
abbrev bare_user : (own : List ℕ) → Place → Option (List ℕ)
bare_user own Account = Some own
bare_user own (User user) = Some user
bare_user own place = None

own_or : (b : Bool) (own user : List ℕ) → bytes_eq user own ≡ b → bare_user own (if b then Account else User user) ≡ Some user
own_or true own user is = ap Some (sym (bytes_equal user own is))
own_or false own user is = refl

module _ (st : State) (known : Known st.world) where
  abbrev table : (w s : ℕ) → Stanza → (t : ℕ) → List Effect
  table w s x t = map effect_of (cast st.world.rooms (effects_of_act st w s x t))

  pub queues : (w s t r : ℕ) (own : List ℕ) (x : Stanza) → Sends st w s own → takes_entries (st.world.sessions r) ≡ true
      → GetsBy st w x t r (entries_for r (table w s x t))
  queues w s t r own x sent is =
      subst (λ (v : Verdict). Gets (st.world.sessions r) ((apply_all whole st.world v.effects).sessions r) (entries_for r (table w s x t)))
      (sym (act_is st w sent.conn s t x sent.held))
      (all_get (acts (keep (turn (event.Act w x t) st)) s x).effects st.world r
      (tt, stanza_mild (cast st.world.rooms (effects_of_act st w s x t))) is)

  -- the same, where what the tables have for the session is known
  gets : (w s t r : ℕ) (own : List ℕ) (x : Stanza) (entries : List Entry) → Sends st w s own → takes_entries (st.world.sessions r) ≡ true
      → entries_for r (table w s x t) ≡ entries → GetsBy st w x t r entries
  gets w s t r own x entries sent is same = subst (GetsBy st w x t r) same (queues w s t r own x sent is)

  -- the sender
  pub done : (w s t : ℕ) (own : List ℕ) (x : Stanza) → Sends st w s own → (history.step st (event.Act w x t)).reply ≡ reply.Done
  done w s t own x sent = ap (λ (v : Verdict). v.reply) (act_is st w sent.conn s t x sent.held)

  pub sender_takes : (w s : ℕ) (own : List ℕ) → Sends st w s own → takes_entries (st.world.sessions s) ≡ true
  sender_takes w s own sent = ap (λ (m : Hold). takes (st.world.sessions s).counts m) (known.sound.tied w sent.conn s sent.held)

  pub seen_is : (s : ℕ) → takes_entries (st.world.sessions s) ≡ true → (seen_as st s).address ≡ address_at st s
  seen_is s is =
      kept_address st.world s (λ (gone : (st.world.sessions s).hold ≡ Gone). true≢false (sym is ∙ ap (takes (st.world.sessions s).counts) gone))

  seen_user : (w s : ℕ) (own : List ℕ) → Sends st w s own → (seen_as st s).address.local ≡ Some own
  seen_user w s own sent = ap (λ (a : Address). a.local) (seen_is s (sender_takes w s own sent)) ∙ sent.user

  -- Messages.

  abbrev pub found_at : (own : List ℕ) → Option Address → MessageForm → Place → List Here
  found_at own to form p = receivers (keep_world st.world) form p (user_in own p) (live_for (keep_world st.world) p to)

  -- what comes of a message that is for no room is what comes of another with its copies
  abbrev pub IsRouted : (other : MessageForm) (own : List ℕ) → Option Address → MessageForm → Place → Type 0
  IsRouted other own to form p =
      route_of p (has_account st.head.users (user_in own p) (found_at own to form p)) form (found_at own to form p) ≡ to_user other

  abbrev scene : (w : ℕ) → Stanza → (t : ℕ) → Scene
  scene w x t = scene_of (keep (turn (event.Act w x t) st))

  abbrev keeping : (w s t : ℕ) → Option Address → MessageForm → Element → Keeping
  keeping w s t to form e = keeping_for st.world.archives (seen_as st s) to (scene w (Message to form e) t).moment

  abbrev all_given : (w s t : ℕ) (own : List ℕ) → Option Address → MessageForm → Element → Place → List stanza.Effect
  all_given w s t own to form e p =
      given (seen_as st s) (Message to form e) to form e (keeping w s t to form e) (map (λ (h : Here). h.session) (found_at own to form p))

  abbrev becomes : (other : MessageForm) (w s t : ℕ) (own : List ℕ) → Option Address → MessageForm → Element → Place → List stanza.Effect
  becomes other w s t own to form e p = routed (seen_as st s) (Message to form e) (all_given w s t own to form e p) (to_user other)

  at_place : (other : MessageForm) (w s t : ℕ) (own : List ℕ) (to : Option Address) (form : MessageForm) (e : Element) (p : Place)
      → (to_user other ≡ to_user Error → ⊥) → IsRouted other own to form p
      → message (scene w (Message to form e) t) own (seen_as st s) (Message to form e) form e p ≡ becomes other w s t own to form e p
  at_place other w s t own to form e (Room room) acted is = absurd (acted (sym is))
  at_place other w s t own to form e (RoomAt room nick) acted is = absurd (acted (sym is))
  at_place other w s t own to form e Account acted is = ap (routed (seen_as st s) (Message to form e) (all_given w s t own to form e Account)) is
  at_place other w s t own to form e Server acted is = ap (routed (seen_as st s) (Message to form e) (all_given w s t own to form e Server)) is
  at_place other w s t own to form e (User user) acted is =
      ap (routed (seen_as st s) (Message to form e) (all_given w s t own to form e (User user))) is
  at_place other w s t own to form e (UserAt user resource) acted is =
      ap (routed (seen_as st s) (Message to form e) (all_given w s t own to form e (UserAt user resource))) is
  at_place other w s t own to form e Service acted is = ap (routed (seen_as st s) (Message to form e) (all_given w s t own to form e Service)) is
  at_place other w s t own to form e Foreign acted is = ap (routed (seen_as st s) (Message to form e) (all_given w s t own to form e Foreign)) is

  -- a message of a user's session
  of_user_is : (w s t : ℕ) (own : List ℕ) (to : Option Address) (form : MessageForm) (e : Element) → (seen_as st s).address.local ≡ Some own
      → effects_of_act st w s (Message to form e) t
      ≡ message (scene w (Message to form e) t) own (seen_as st s) (Message to form e) form e (place_for st own to)
  of_user_is w s t own to form e mine =
      ap (λ (l : Option (List ℕ)). effects_by l (scene w (Message to form e) t) (seen_as st s) (Message to form e)) mine

  message_is : (other : MessageForm) (w s t : ℕ) (own : List ℕ) (to : Option Address) (form : MessageForm) (e : Element)
      → (to_user other ≡ to_user Error → ⊥) → (seen_as st s).address.local ≡ Some own → IsRoutedAs other st own to form
      → effects_of_act st w s (Message to form e) t ≡ becomes other w s t own to form e (place_for st own to)
  message_is other w s t own to form e acted mine is =
      of_user_is w s t own to form e mine ∙ at_place other w s t own to form e (place_for st own to) acted is

  -- the copies that a session gets
  destined : (who : Here) (to : Option Address) → addressed who to ≡ destination who.address to
  destined who None = refl
  destined who (Some to) = refl

  abbrev copy_for : (to : Address) (rest : List ℕ) → Entry
  copy_for to rest = record { to = address_text to; rest = rest; origin = Direct }

  -- of a message from this address to this one, or to its user
  abbrev copy_at : (from : Address) → MessageForm → Element → (to : Address) → Entry
  copy_at from form e to = copy_for to (text (sent_by (address_text from) (identified st.world.archives to form e)))

  copies_for : (rooms : Rooms) (r : ℕ) (who : Here) (to : Option Address) (rest : List ℕ) (hs : List Here)
      → entries_for r (map effect_of (cast rooms (map (queued_as who to rest) (map (λ (h : Here). h.session) hs))))
      ≡ copies_in r (copy_for (addressed who to) rest) hs
  copies_for rooms r who to rest [] = refl
  copies_for rooms r who to rest (h ∷ hs) =
      ap (λ (l : List Entry). (if r == h.session then copy_for (addressed who to) rest ∷ [] else []) ++ l) (copies_for rooms r who to rest hs)

  copies_then : (rooms : Rooms) (r : ℕ) (who : Here) (to : Option Address) (rest : List ℕ) (hs : List Here) (more : List stanza.Effect)
      → entries_for r (map effect_of (cast rooms more)) ≡ []
      → entries_for r (map effect_of (cast rooms (map (queued_as who to rest) (map (λ (h : Here). h.session) hs) ++ more)))
      ≡ copies_in r (copy_for (addressed who to) rest) hs
  copies_then rooms r who to rest [] more none = none
  copies_then rooms r who to rest (h ∷ hs) more none =
      ap (λ (l : List Entry). (if r == h.session then copy_for (addressed who to) rest ∷ [] else []) ++ l)
      (copies_then rooms r who to rest hs more none)

  -- what is kept is queued for nobody
  rows_none : (rooms : Rooms) (r : ℕ) (a b : Option (List ℕ)) (same : Bool) (to from : Address) (text : List ℕ) (moment : ℕ)
      → entries_for r (map effect_of (cast rooms (row_of a to text moment ++ (if same then [] else row_of b from text moment)))) ≡ []
  rows_none rooms r None b true to from text moment = refl
  rows_none rooms r None None false to from text moment = refl
  rows_none rooms r None (Some v) false to from text moment = refl
  rows_none rooms r (Some u) b true to from text moment = refl
  rows_none rooms r (Some u) None false to from text moment = refl
  rows_none rooms r (Some u) (Some v) false to from text moment = refl

  given_for : (rooms : Rooms) (r : ℕ) (who : Here) (x : Stanza) (to : Option Address) (e : Element) (row moment : ℕ) (hs : List Here)
      (kept much : Bool) → (kept && much) ≡ false
      → entries_for r (map effect_of (cast rooms (if kept then (if much then refused who x ResourceConstraint
      else map (queued_as who to (told_text who to e row)) (map (λ (h : Here). h.session) hs) ++ rows_for who to (row_text who to e) moment)
      else map (queued_as who to (plain_text who to e)) (map (λ (h : Here). h.session) hs))))
      ≡ copies_in r (copy_for (addressed who to) (text (sent_by (address_text who.address)
      (if kept then told_with_id (bare (addressed who to)) row e else without_ids (bare (addressed who to)) e)))) hs
  given_for rooms r who x to e row moment hs true true is = absurd (true≢false is)
  given_for rooms r who x to e row moment hs true false is =
      copies_then rooms r who to (told_text who to e row) hs (rows_for who to (row_text who to e) moment)
      (rows_none rooms r who.address.local (addressed who to).local (is_to_oneself who to) (addressed who to) who.address (row_text who to e) moment)
  given_for rooms r who x to e row moment hs false much is = copies_for rooms r who to (plain_text who to e) hs

  -- from the sender's address
  copy_is : (s : ℕ) (to : Option Address) (form : MessageForm) (e : Element) → takes_entries (st.world.sessions s) ≡ true
      → copy_at (seen_as st s).address form e (addressed (seen_as st s) to) ≡ message_of st s to form e
  copy_is s to form e is =
      ap (copy_at (seen_as st s).address form e) (destined (seen_as st s) to)
      ∙ ap (λ (a : Address). message_from st.world.archives a to form e) (seen_is s is)

  pub delivered : (w s t r : ℕ) (own : List ℕ) (to : Option Address) (form : MessageForm) (e : Element)
      → Sends st w s own → IsRoutedAs Chat st own to form → passes st s to form e ≡ false → takes_entries (st.world.sessions r) ≡ true
      → GetsBy st w (Message to form e) t r (if is_among r (found_for st own to form) then message_of st s to form e ∷ [] else [])
  delivered w s t r own to form e sent route fits is =
      let who : Here = seen_as st s in
      let hs : List Here = found_for st own to form in
      gets w s t r own (Message to form e) (if is_among r hs then message_of st s to form e ∷ [] else []) sent is
      (ap (λ (es : List stanza.Effect). entries_for r (map effect_of (cast st.world.rooms es)))
      (message_is Chat w s t own to form e (λ bad. cc) (seen_user w s own sent) route)
      ∙ (given_for st.world.rooms r who (Message to form e) to e (keeping w s t to form e).row (keeping w s t to form e).moment hs (is_kept form e)
      (is_too_much who to e (keeping w s t to form e)) fits
      ∙ (receivers_copied (keep_world st.world) r (copy_at who.address form e (addressed who to)) form (place_for st own to)
      (user_in own (place_for st own to)) (live_for (keep_world st.world) (place_for st own to) to)
      ∙ ap (λ (x : Entry). if is_among r hs then x ∷ [] else []) (copy_is s to form e (sender_takes w s own sent)))))

  -- one that it finds
  pub found : (w s t r : ℕ) (own : List ℕ) (to : Option Address) (form : MessageForm) (e : Element)
      → Sends st w s own → IsRoutedAs Chat st own to form → passes st s to form e ≡ false → takes_entries (st.world.sessions r) ≡ true
      → is_among r (found_for st own to form) ≡ true → GetsBy st w (Message to form e) t r (message_of st s to form e ∷ [])
  found w s t r own to form e sent route fits is among =
      subst (GetsBy st w (Message to form e) t r) (ap (λ (b : Bool). if b then message_of st s to form e ∷ [] else []) among)
      (delivered w s t r own to form e sent route fits is)

  -- to a bare address: those of the user that are reached

  form_finds : (form : MessageForm) (hs : List Here) → to_user form ≡ to_user Chat → of_user form hs ≡ filter is_reached hs
  form_finds Chat hs is = refl
  form_finds Normal hs is = refl
  form_finds Headline hs is = refl
  form_finds Groupchat hs is = absurd (cc)
  form_finds Error hs is = absurd (cc)

  has_one : (users : List (List ℕ)) (user : List ℕ) (r : ℕ) (hs : List Here) → is_among r hs ≡ true → has_account users (Some user) hs ≡ true
  has_one users user r [] is = absurd (true≢false (sym is))
  has_one users user r (h ∷ hs) is = refl

  bare_found : (own user : List ℕ) (to : Option Address) (form : MessageForm) (p : Place) → bare_user own p ≡ Some user
      → found_at own to form p ≡ of_user form (sessions_of (keep_world st.world) user)
  bare_found own user to form Account is = ap (λ (u : List ℕ). of_user form (sessions_of (keep_world st.world) u)) (let at : own ≡ user = cc in at)
  bare_found own user to form (User u) is = ap (λ (u : List ℕ). of_user form (sessions_of (keep_world st.world) u)) (let at : u ≡ user = cc in at)
  bare_found own user to form Server is = absurd (cc)
  bare_found own user to form (UserAt u resource) is = absurd (cc)
  bare_found own user to form Service is = absurd (cc)
  bare_found own user to form (Room room) is = absurd (cc)
  bare_found own user to form (RoomAt room nick) is = absurd (cc)
  bare_found own user to form Foreign is = absurd (cc)

  bare_route : (own user : List ℕ) (to : Option Address) (form : MessageForm) (p : Place) (r : ℕ) → bare_user own p ≡ Some user
      → to_user form ≡ to_user Chat → is_among r (found_at own to form p) ≡ true → IsRouted Chat own to form p
  bare_route own user to form Account r is goes among =
      ap (λ (b : Bool). if_known b (to_user form)) (has_one st.head.users own r (found_at own to form Account) among) ∙ goes
  bare_route own user to form (User u) r is goes among =
      ap (λ (b : Bool). if_known b (to_user form)) (has_one st.head.users u r (found_at own to form (User u)) among) ∙ goes
  bare_route own user to form Server r is goes among = absurd (cc)
  bare_route own user to form (UserAt u resource) r is goes among = absurd (cc)
  bare_route own user to form Service r is goes among = absurd (cc)
  bare_route own user to form (Room room) r is goes among = absurd (cc)
  bare_route own user to form (RoomAt room nick) r is goes among = absurd (cc)
  bare_route own user to form Foreign r is goes among = absurd (cc)

  for_user : (own user : List ℕ) (to : Option Address) → IsForUser st own user to → bare_user own (place_for st own to) ≡ Some user
  for_user own user None is = ap Some is
  for_user own user (Some to) is =
      ap (λ (a : Address). bare_user own (place_for st own (Some a))) is
      ∙ (ap (bare_user own) (bare_place own st.head.domain.domain user) ∙ own_or (bytes_eq user own) own user refl)

  -- a session that takes entries was made, and is its user's
  pub taking_made : (r : ℕ) → takes_entries (st.world.sessions r) ≡ true → (0 < r) × (r ≤ st.world.made)
  taking_made r is = (above, made) where
    above : 0 < r
    above = elim (cases_lt 0 r) [
      | inl low ↦ low
      | inr zero ↦ absurd (
          let at : r ≡ 0 = omega (arith, zero) in
          true≢false (sym is ∙ (ap (λ (i : ℕ). takes_entries (st.world.sessions i)) at ∙ ap takes_entries known.zero)))
    ]

    made : r ≤ st.world.made
    made = elim (cases_lt st.world.made r) [
      | inl later ↦ absurd (true≢false (sym is ∙ ap takes_entries (known.sound.later r later)))
      | inr low ↦ low
    ]

  pub taking_of : (r : ℕ) (user : List ℕ) → takes_entries (st.world.sessions r) ≡ true → (address_at st r).local ≡ Some user
      → is_of user ((keep_world st.world).sessions r) ≡ true
  taking_of r user is his =
      let x : Session _ = st.world.sessions r in
      and_from (is_there (keep_session x)) (same_part (keep_session x).rest.address.local (Some user))
      (kept_there x.counts x.hold x.traffic x.rest ∙ takes_there x.counts x.hold is)
      (ap (λ (l : Option (List ℕ)). same_part l (Some user)) (ap (λ (a : Address). a.local) (seen_is r is) ∙ his) ∙ bytes_same user)

  pub to_bare : (w s t r : ℕ) (own user : List ℕ) (to : Option Address) (form : MessageForm) (e : Element)
      → Sends st w s own → IsForUser st own user to → to_user form ≡ to_user Chat → passes st s to form e ≡ false
      → takes_entries (st.world.sessions r) ≡ true → (address_at st r).local ≡ Some user → is_reached (seen_as st r) ≡ true
      → GetsBy st w (Message to form e) t r (message_of st s to form e ∷ [])
  to_bare w s t r own user to form e sent for goes fits is his reached =
      found w s t r own to form e sent (bare_route own user to form (place_for st own to) r bare goes among) fits is among
    where
      bare : bare_user own (place_for st own to) ≡ Some user
      bare = for_user own user to for

      made : (0 < r) × (r ≤ st.world.made)
      made = taking_made r is

      among : is_among r (found_at own to form (place_for st own to)) ≡ true
      among =
          ap (is_among r) (bare_found own user to form (place_for st own to) bare ∙ form_finds form (sessions_of (keep_world st.world) user) goes)
          ∙ passing_among (keep_world st.world) r user is_reached (taking_of r user is his) reached made.0 made.1

  -- Errors.

  error_is : (s : ℕ) (x : Stanza) (condition : Condition) → may_be_answered x ≡ true
      → entries_for s (map effect_of (cast st.world.rooms (refused (seen_as st s) x condition))) ≡ error_for (seen_as st s).address x condition ∷ []
  error_is s x condition may =
      ap (λ (b : Bool). entries_for s (map effect_of
      (cast st.world.rooms (if b then said_to (seen_as st s) (error_of x condition) ∷ [] else [])))) may
      ∙ ap (λ (b : Bool). (if b then error_for (seen_as st s).address x condition ∷ [] else []) ++ []) (eq-eqb s s refl)

  pub answered : (w s t : ℕ) (own : List ℕ) (x : Stanza) (condition : Condition)
      → Sends st w s own → effects_of_act st w s x t ≡ refused (seen_as st s) x condition → may_be_answered x ≡ true
      → GetsBy st w x t s (error_for (address_at st s) x condition ∷ [])
  answered w s t own x condition sent is may =
      let takes' : takes_entries (st.world.sessions s) ≡ true = sender_takes w s own sent in
      gets w s t s own x (error_for (address_at st s) x condition ∷ []) sent takes'
      (ap (λ (es : List stanza.Effect). entries_for s (map effect_of (cast st.world.rooms es))) is
      ∙ (error_is s x condition may ∙ ap (λ (a : Address). error_for a x condition ∷ []) (seen_is s takes')))

  -- a message for whose rows there is no room
  refused_by : (r s : ℕ) (x : Stanza) (condition : Condition) (may is : Bool) → (r == s) ≡ is
      → entries_for r (map effect_of (cast st.world.rooms (if may then said_to (seen_as st s) (error_of x condition) ∷ [] else [])))
      ≡ (if is && may then error_for (seen_as st s).address x condition ∷ [] else [])
  refused_by r s x condition false true at = refl
  refused_by r s x condition false false at = refl
  refused_by r s x condition true true at =
      ap (λ (b : Bool). (if b then error_for (seen_as st s).address x condition ∷ [] else []) ++ []) at
  refused_by r s x condition true false at =
      ap (λ (b : Bool). (if b then error_for (seen_as st s).address x condition ∷ [] else []) ++ []) at

  full_by : (kept much : Bool) (a b c : List stanza.Effect) → (kept && much) ≡ true → (if kept then (if much then a else b) else c) ≡ a
  full_by true true a b c is = refl
  full_by true false a b c is = absurd (true≢false (sym is))
  full_by false much a b c is = absurd (true≢false (sym is))

  pub undelivered : (w s t r : ℕ) (own : List ℕ) (to : Option Address) (form : MessageForm) (e : Element)
      → Sends st w s own → IsRoutedAs Chat st own to form → passes st s to form e ≡ true → takes_entries (st.world.sessions r) ≡ true
      → GetsBy st w (Message to form e) t r
      (if (r == s) && may_be_answered (Message to form e) then error_for (address_at st s) (Message to form e) ResourceConstraint ∷ [] else [])
  undelivered w s t r own to form e sent route full is =
      let who : Here = seen_as st s in
      let x : Stanza = Message to form e in
      let sessions : List ℕ = map (λ (h : Here). h.session) (found_for st own to form) in
      gets w s t r own x _ sent is
      (ap (λ (es : List stanza.Effect). entries_for r (map effect_of (cast st.world.rooms es)))
      (message_is Chat w s t own to form e (λ bad. cc) (seen_user w s own sent) route
      ∙ full_by (is_kept form e) (is_too_much who to e (keeping w s t to form e)) (refused who x ResourceConstraint)
      (map (queued_as who to (told_text who to e (keeping w s t to form e).row)) sessions
      ++ rows_for who to (row_text who to e) (keeping w s t to form e).moment)
      (map (queued_as who to (plain_text who to e)) sessions) full)
      ∙ (refused_by r s x ResourceConstraint (may_be_answered x) (r == s) refl
      ∙ ap (λ (a : Address). if (r == s) && may_be_answered x then error_for a x ResourceConstraint ∷ [] else [])
      (seen_is s (sender_takes w s own sent))))

  pub unserved : (w s t : ℕ) (own : List ℕ) (to : Option Address) (form : MessageForm) (e : Element)
      → Sends st w s own → IsRoutedAs Groupchat st own to form → may_be_answered (Message to form e) ≡ true
      → GetsBy st w (Message to form e) t s (error_for (address_at st s) (Message to form e) ServiceUnavailable ∷ [])
  unserved w s t own to form e sent route may =
      answered w s t own (Message to form e) ServiceUnavailable sent
      (message_is Groupchat w s t own to form e (λ bad. cc) (seen_user w s own sent) route) may

  pub foreign : (w s t : ℕ) (own : List ℕ) (to : Option Address) (form : MessageForm) (e : Element)
      → Sends st w s own → place_for st own to ≡ Foreign → may_be_answered (Message to form e) ≡ true
      → GetsBy st w (Message to form e) t s (error_for (address_at st s) (Message to form e) RemoteServerNotFound ∷ [])
  foreign w s t own to form e sent place may =
      answered w s t own (Message to form e) RemoteServerNotFound sent
      (of_user_is w s t own to form e (seen_user w s own sent)
      ∙ ap (λ (p : Place). message (scene w (Message to form e) t) own (seen_as st s) (Message to form e) form e p) place) may

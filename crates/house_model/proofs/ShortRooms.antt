-- After every history what is kept of the rooms is short.
use Rattle.std.proofs.Common.{◌≡◌, ℕ, ◌+◌, inl, inr, List, [], ◌∷◌, ◌++◌, map, Option, Some, None, IfSome}
use Rattle.std.proofs.Common.{Bool, true, false, refl, sym, ap, ◌∙◌, subst, cond, codes}
use Rattle.std.specs.List.{AllByRecursion}
use Rattle.std.specs.Option.{option_map}
use Rattle.jid_core.specs.Addresses.{Address}
use Rattle.stanza_tree.specs.Attributes.{attr_of}
use Rattle.stanza_tree.specs.declared.node.Element.{Element}
use Rattle.stanza_model.specs.Kinds.{iq_form, message_form, presence_form}
use Rattle.stanza_model.specs.Replies.{error_of, may_be_answered, said_to}
use Rattle.stanza_model.specs.Stanzas.{address_in, faulty, has_wrong_content, id_of, iq_by, is_unreadable, kind_of, presence_by, stanza_as}
use Rattle.stanza_model.specs.Stanzas.{to_in, type_of, unless_unreadable}
use Rattle.stanza_model.specs.declared.condition.Condition.TheVariants.{BadRequest, JidMalformed}
use Rattle.stanza_model.specs.declared.effect.Effect as stanza
use Rattle.stanza_model.specs.declared.kinds.Kind.{Kind}
use Rattle.stanza_model.specs.declared.kinds.Kind.TheVariants as kind
use Rattle.stanza_model.specs.declared.kinds.IqForm.{IqForm}
use Rattle.stanza_model.specs.declared.kinds.PresenceForm.{PresenceForm}
use Rattle.stanza_model.specs.declared.stanza.Stanza.{Stanza}
use Rattle.stanza_model.specs.declared.stanza.Stanza.TheVariants.{Message, Presence, Iq, Faulty}
use Rattle.sm_resume.specs.declared.decision.Cause.{Cause}
use Rattle.sm_resume.specs.declared.decision.Cause.TheVariants.{Flood, Lost, Replaced}
use Rattle.session_table.specs.declared.line.Line as stage
use Rattle.muc_service.specs.Casting.{after, cast}
use Rattle.house_model.specs.declared.event.Event.{Event}
use Rattle.house_model.specs.declared.event.Event.TheVariants as event
use Rattle.house_model.specs.Sessions.{Act, End}
use Rattle.house_model.specs.Sessions as sessions
use Rattle.house_model.specs.Traffic.{KeptTraffic, Traffic, whole}
use Rattle.house_model.specs.States.{Kept, World, State, keep, keep_world}
use Rattle.house_model.specs.Effects.{Effect, Open, At, Begin, Note, Hosts, Files, Leave, Close, On, apply, apply_all}
use Rattle.house_model.specs.Fitting.{AreShortAddresses, AreShortRooms, IsShortAddress}
use Rattle.house_model.specs.Gate.{Waits, Knows, Holds, Needs, to_login, to_bind, to_manage, to_act, to_ask, to_pull, most_answers, left, closed, gate_at}
use Rattle.house_model.specs.Histories as histories
use Rattle.house_model.specs.Histories.{Allowed, IsOpening, IsSent, IsShortFault, Legal, Made, Meets, Outcome, Short, StanzaFits, Turn, next, next_by}
use Rattle.house_model.specs.Lookups.{here, session_at}
use Rattle.house_model.specs.Names.{AreShortThroughout, HasShortNames, NamesFit}
use Rattle.house_model.specs.Routing.{Scene, departure, effects, effects_by, effects_in, scene_of}
use Rattle.house_model.specs.Stays.{Logs, no_logs, turn_logs}
use Rattle.house_model.specs.Steps.{acts, binds, body, departs, due, effect_of, replaces, sweeps, turn, verdict}
use Rattle.house_model.proofs.AffiliationSums.{after_modest, modest_of, wholly_short}
use Rattle.house_model.proofs.BodiesKept.{departure_bodies, stanza_bodies}
use Rattle.house_model.proofs.Founds.{either_all}
use Rattle.house_model.proofs.GateLemmas.{gate_leads}
use Rattle.house_model.proofs.HousedTurns.{cast_after, then_applied}
use Rattle.house_model.proofs.NamesKept.{short_throughout}
use Rattle.house_model.proofs.RoomsShort.{AreShortBodies, after_short, bodies_of}
use Rattle.house_model.proofs.SimpleVerdicts.{ArePlain, IsSimple, Plain, acks_plain, asks_plain, closed_plain, enables_plain, holds_plain, knows_plain}
use Rattle.house_model.proofs.SimpleVerdicts.{leaves_plain, left_plain, logs_in_plain, resumes_plain, waits_plain}
use Rattle.house_model.proofs.SmallEffects.{Slight}
use Rattle.muc_service.specs.Numbering.{Numbered}
use Rattle.house_model.proofs.StayVerdicts.{All, known_after, next_all, opening_all}
use Rattle.house_model.proofs.SumTables.{departure_sums, stanza_sums}
use Rattle.house_model.proofs.TurnLaws.{after_push}
use Rattle.house_model.proofs.WantedSizes.{in-short}

-- What an element is, as a stanza, is for the address that was read of it.

abbrev HasToOf : Element → Stanza → Type 0
HasToOf e st = to_in st ≡ address_in e

either_to : (c : Bool) (e : Element) (a b : Stanza) → HasToOf e a → HasToOf e b → HasToOf e (cond c a b)
either_to true e a b one other = one
either_to false e a b one other = other

unless_to : (k : Kind) (st : Stanza) (e : Element) → HasToOf e st → HasToOf e (unless_unreadable k st e)
unless_to k st e has = either_to (is_unreadable e) e (faulty k JidMalformed e) st refl has

presence_to : (form : Option PresenceForm) (e : Element) → HasToOf e (presence_by form e)
presence_to None e = refl
presence_to (Some form) e = unless_to kind.Presence (Presence (address_in e) form e) e refl

iq_to : (id : Option (List ℕ)) (form : Option IqForm) (e : Element) → HasToOf e (iq_by id form e)
iq_to None form e = refl
iq_to (Some id) None e = refl
iq_to (Some id) (Some form) e =
    either_to (has_wrong_content form e) e (faulty kind.Iq BadRequest e) (unless_unreadable kind.Iq (Iq (address_in e) id form e) e) refl
    (unless_to kind.Iq (Iq (address_in e) id form e) e refl)

as_to : (k : Kind) (e : Element) → HasToOf e (stanza_as k e)
as_to kind.Message e = unless_to kind.Message (Message (address_in e) (message_form (type_of e)) e) e refl
as_to kind.Presence e = presence_to (presence_form (type_of e)) e
as_to kind.Iq e = iq_to (id_of e) (iq_form (type_of e)) e

by_kind_to : (k : Option Kind) (e : Element) (st : Stanza) → option_map (λ k. stanza_as k e) k ≡ Some st → HasToOf e st
by_kind_to None e st is = absurd (cc)
by_kind_to (Some k) e st is = subst (λ (x : Stanza). HasToOf e x) (let same : stanza_as k e ≡ st = cc in same) (as_to k e)

pub sent_to : (st : Stanza) → IsSent st → IfSome (to_in st) IsShortAddress
sent_to st sent =
    subst (λ (to : Option Address). IfSome to IsShortAddress) (sym (by_kind_to (kind_of sent.element) sent.element st sent.read))
    (read (address_in sent.element) refl)
  where
    read : (o : Option Address) → address_in sent.element ≡ o → IfSome o IsShortAddress
    read None at = tt
    read (Some a) at = in-short (attr_of (codes "to") sent.element.attrs) a at

-- What comes of a stanza, and of a departure.

module _ (o : Scene) (s : ℕ) (addresses : AreShortAddresses o.world) (rooms : AreShortRooms o.world.rooms) where
  -- a faulty one is refused, wherever it goes
  fault_bodies : (st : Stanza) → IsShortFault st → AreShortBodies (after o.world.rooms (effects_in o s st))
  fault_bodies (Faulty k to id answered condition) short =
      after_short (effects_in o s (Faulty k to id answered condition)) o.world.rooms (by (here o.world s).address.local) (bodies_of o.world.rooms.hosted rooms)
    where
      by : (user : Option (List ℕ)) → AllByRecursion Slight (effects_by user o (here o.world s) (Faulty k to id answered condition))
      by None = tt
      by (Some own) =
          either_all Slight (may_be_answered (Faulty k to id answered condition))
          (said_to (here o.world s) (error_of (Faulty k to id answered condition) condition) ∷ []) [] (tt, tt) tt
  fault_bodies (Message to form e) short = absurd short
  fault_bodies (Presence to form e) short = absurd short
  fault_bodies (Iq to id form e) short = absurd short

  fit_bodies : (st : Stanza) → StanzaFits st → AreShortBodies (after o.world.rooms (effects_in o s st))
  fit_bodies st (inl sent) = stanza_bodies o s st (inl sent) addresses rooms (sent_to st sent)
  fit_bodies st (inr fault) = fault_bodies st fault

  stanza_rooms : (st : Stanza) → StanzaFits st → Numbered o.world.rooms → AreShortRooms (after o.world.rooms (effects_in o s st))
  stanza_rooms st fits numbered =
      wholly_short (after o.world.rooms (effects_in o s st)) (fit_bodies st fits)
      (after_modest (effects_in o s st) o.world.rooms (stanza_sums o s st numbered (addresses s)) (modest_of o.world.rooms.hosted rooms))

pub departed_rooms : (world : World KeptTraffic) (s : ℕ) → AreShortRooms world.rooms → AreShortRooms (after world.rooms (departure world s))
departed_rooms world s rooms =
    wholly_short (after world.rooms (departure world s)) (departure_bodies world s rooms)
    (after_modest (departure world s) world.rooms (departure_sums world s) (modest_of world.rooms.hosted rooms))

-- What effects make of the rooms.

abbrev Ends : World Traffic → List Effect → Type 0
Ends world es = AreShortRooms (apply_all whole world es).rooms

one_rooms : (e : Effect) (world : World Traffic) → IsSimple e → (apply whole world e).rooms ≡ world.rooms
one_rooms (Open w) world plain = refl
one_rooms (At w op) world plain = refl
one_rooms (Begin w c a) world plain = absurd plain
one_rooms (Note c) world plain = refl
one_rooms (Hosts e) world plain = absurd plain
one_rooms (Files filing) world plain = absurd plain
one_rooms (On s op) world plain = refl

plain_rooms : (es : List Effect) (world : World Traffic) → ArePlain es → (apply_all whole world es).rooms ≡ world.rooms
plain_rooms [] world plain = refl
plain_rooms (e ∷ es) world plain = plain_rooms es (apply whole world e) plain.1 ∙ one_rooms e world plain.0

plain_ends : (es : List Effect) (world : World Traffic) → AreShortRooms world.rooms → ArePlain es → Ends world es
plain_ends es world rooms plain = subst AreShortRooms (sym (plain_rooms es world plain)) rooms

ends_then : (world : World Traffic) (es fs : List Effect) → Ends world es → ((w : World Traffic) → AreShortRooms w.rooms → Ends w fs)
    → Ends world (es ++ fs)
ends_then world es fs ends later =
    subst (λ (w : World Traffic). AreShortRooms w.rooms) (sym (then_applied world es fs)) (later (apply_all whole world es) ends)

departs_ends : (world : World Traffic) (s : ℕ) (cause : Cause) → AreShortRooms world.rooms → Ends world (departs (keep_world world) s cause)
departs_ends world s cause rooms =
    let ended : World Traffic = apply whole world (On s (End cause)) in
    let es : List stanza.Effect = departure (keep_world world) s in
    let told : List Effect = map effect_of (cast ended.rooms es) in
    let parted : (apply_all whole ended (told ++ On s sessions.Part ∷ [])).rooms ≡ (apply_all whole ended told).rooms =
    ap (λ (w : World Traffic). w.rooms) (then_applied ended told (On s sessions.Part ∷ [])) in
    subst AreShortRooms (sym (parted ∙ cast_after es ended)) (departed_rooms (keep_world world) s rooms)

-- Each event.

module _ (st : State) (e : Event) (rooms : AreShortRooms st.world.rooms) where
  abbrev kept : Kept
  kept = keep (turn e st)

  replaces_ends : (s : Option ℕ) (es : List Effect) → ((w : World Traffic) → AreShortRooms w.rooms → Ends w es) → Ends st.world (replaces kept s ++ es)
  replaces_ends None es later = later st.world rooms
  replaces_ends (Some s) es later =
      ends_then st.world (departs (keep_world st.world) s (Replaced (st.world.made + 1))) es
      (departs_ends st.world s (Replaced (st.world.made + 1)) rooms) later

  binds_ends : (has : Bool) (w c : ℕ) (a : Address) (id : List ℕ) → Ends st.world (binds has kept w c a id).effects
  binds_ends false w c a id = rooms
  binds_ends true w c a id = replaces_ends (session_at kept a) _ (λ world short. short)

  acts_ends : (s : ℕ) (x : Stanza) → StanzaFits x → Numbered st.world.rooms → AreShortAddresses (keep_world st.world)
      → Ends st.world (acts kept s x).effects
  acts_ends s x fits numbered addresses =
      subst AreShortRooms (sym (cast_after (effects kept s x) (apply whole st.world (On s (Act x)))))
      (stanza_rooms (scene_of kept) s addresses rooms x fits numbered)

  sweeps_ends : (s : Option ℕ) → Ends st.world (sweeps (keep_world st.world) s).effects
  sweeps_ends None = rooms
  sweeps_ends (Some s) = departs_ends st.world s Lost rooms

  gate_ends : (n : Needs) (w : ℕ) → Plain (body kept e Waits) → ((c u : ℕ) → Ends st.world (body kept e (Knows c u)).effects)
      → ((c s : ℕ) → Ends st.world (body kept e (Holds c s)).effects)
      → Ends st.world (body kept e (gate_at n kept w (st.world.lines w) (st.world.lines w).stage)).effects
  gate_ends n w waits knows holds =
      gate_leads (λ v. Ends st.world v.effects) kept e n w (st.world.lines w) (st.world.lines w).stage
      (λ r. rooms) (λ c. plain_ends _ st.world rooms (left_plain kept (st.world.lines w).stage (At w (Close c (Flood most_answers))) tt))
      (λ c is. plain_ends _ st.world rooms waits) (λ c u is. knows c u) (λ c s is. holds c s)

  -- neither on a connection that is logged in nor on one that holds a session
  plain_gate : (n : Needs) (w : ℕ) → Plain (body kept e Waits) → ((c u : ℕ) → Plain (body kept e (Knows c u)))
      → ((c s : ℕ) → Plain (body kept e (Holds c s)))
      → Ends st.world (body kept e (gate_at n kept w (st.world.lines w) (st.world.lines w).stage)).effects
  plain_gate n w waits knows holds =
      gate_ends n w waits (λ c u. plain_ends _ st.world rooms (knows c u)) (λ c s. plain_ends _ st.world rooms (holds c s))

verdict_ends : (st : State) (e : Event) → Meets e → Numbered st.world.rooms → AreShortAddresses (keep_world st.world) → AreShortRooms st.world.rooms
    → Ends st.world (verdict (keep (turn e st)) e).effects
verdict_ends st (event.OpenLine w) meets numbered addresses rooms =
    plain_ends _ st.world rooms (left_plain (keep (turn (event.OpenLine w) st)) (st.world.lines w).stage (Open w) tt)
verdict_ends st (event.Pull w t) meets numbered addresses rooms =
    let k : Kept = keep (turn (event.Pull w t) st) in
    plain_gate st (event.Pull w t) rooms to_pull w (waits_plain (st.world.lines w).answers k w)
    (λ c u. knows_plain (st.world.lines w).answers k w c u) (λ c s. holds_plain (st.world.lines w).answers k w c s)
verdict_ends st (event.Login w user) meets numbered addresses rooms =
    plain_gate st (event.Login w user) rooms to_login w (logs_in_plain _ w) (λ c u. tt) (λ c s. tt)
verdict_ends st (event.Bind w id resource t dice) meets numbered addresses rooms =
    gate_ends st (event.Bind w id resource t dice) rooms to_bind w tt (λ c u. binds_ends st (event.Bind w id resource t dice) rooms _ w c _ id) (λ c s. rooms)
verdict_ends st (event.Enable w wants dice) meets numbered addresses rooms =
    plain_gate st (event.Enable w wants dice) rooms to_manage w tt (λ c u. (tt, tt)) (λ c s. enables_plain _ w s _)
verdict_ends st (event.Resume w id h t) meets numbered addresses rooms =
    plain_gate st (event.Resume w id h t) rooms to_manage w tt (λ c u. resumes_plain id (keep (turn (event.Resume w id h t) st)) w c u h) (λ c s. (tt, tt))
verdict_ends st (event.Act w x t) meets numbered addresses rooms =
    gate_ends st (event.Act w x t) rooms to_act w tt (λ c u. rooms) (λ c s. acts_ends st (event.Act w x t) rooms s x meets numbered addresses)
verdict_ends st (event.Ack w h) meets numbered addresses rooms =
    plain_gate st (event.Ack w h) rooms to_act w tt (λ c u. tt) (λ c s. acks_plain _ s h _)
verdict_ends st (event.Ask w) meets numbered addresses rooms =
    plain_gate st (event.Ask w) rooms to_ask w tt (λ c u. tt) (λ c s. asks_plain _ w s _)
verdict_ends st (event.DropLine w t) meets numbered addresses rooms =
    let k : Kept = keep (turn (event.DropLine w t) st) in
    let g : stage.Line = (st.world.lines w).stage in
    plain_ends _ st.world rooms (leaves_plain g w (left k g) (left_plain k g (At w Leave) tt))
verdict_ends st (event.CloseLine w t) meets numbered addresses rooms =
    let g : stage.Line = (st.world.lines w).stage in
    plain_ends _ st.world rooms (leaves_plain g w (closed g) (closed_plain g (At w Leave) tt))
verdict_ends st (event.Sweep w t) meets numbered addresses rooms =
    sweeps_ends st (event.Sweep w t) rooms (due (keep (turn (event.Sweep w t) st)))

-- Each history.

turn_rooms : (st : State) (e : Event) (o : Outcome) → Meets e → Numbered st.world.rooms → AreShortAddresses (keep_world st.world)
    → AreShortRooms st.world.rooms → AreShortRooms (next_by st e o).world.rooms
turn_rooms st e (Made reply text) meets numbered addresses rooms = verdict_ends st e meets numbered addresses rooms
turn_rooms st e Short meets numbered addresses rooms = rooms

after_rooms : (st : State) (h : List Turn) (logs : Logs) → All st logs → Legal st h → AreShortThroughout st h → AreShortRooms st.world.rooms
    → AreShortRooms (histories.after st h).world.rooms
after_rooms st [] logs all legal short rooms = rooms
after_rooms st (x ∷ more) logs all legal short rooms =
    after_rooms (next st x) more (turn_logs st x.event x.outcome logs) (next_all st x logs all) legal.1 short.1
    (turn_rooms st x.event x.outcome legal.0.meets all.sure.numbered short.0 rooms)

pub always_short : (o : State) (h : List Turn) → IsOpening o → Legal o h → HasShortNames o.head → NamesFit h
    → AreShortRooms (histories.after o h).world.rooms
always_short o h starts legal names fit =
    after_rooms o h no_logs (opening_all o starts) legal (short_throughout o h starts names fit)
    (subst (λ (st : State). AreShortRooms st.world.rooms) (sym starts.4) tt)

-- and one turn keeps it

pub turn_short : (o : State) (h : List Turn) (x : Turn) → IsOpening o → Allowed (histories.after o h) x
    → AreShortAddresses (keep_world (histories.after o h).world) → AreShortRooms (histories.after o h).world.rooms
    → AreShortRooms (histories.after o (h ++ x ∷ [])).world.rooms
turn_short o h x starts allowed addresses rooms =
    subst (λ (st : State). AreShortRooms st.world.rooms) (sym (after_push o h x))
    (turn_rooms (histories.after o h) x.event x.outcome allowed.meets (known_after o h starts).numbered addresses rooms)

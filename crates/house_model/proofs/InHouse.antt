-- What the effects of a stanza name is in the house, each in the state in which its turn comes.
use Rattle.std.proofs.Common.{◌≡◌, ℕ, ◌+◌, inl, inr, List, [], ◌∷◌, Bool, true, Option, Some, None, sym, ap, ◌∙◌, subst, arith}
use Rattle.std.specs.Prelude.{⊤, IfSome}
use Rattle.std.proofs.lemmas.Bool.{cases_lt}
use Rattle.std.specs.List.{AllByRecursion}
use Rattle.stanza_model.specs.declared.effect.Effect as stanza
use Rattle.stanza_model.specs.declared.effect.Effect.TheVariants.{Queue, Set}
use Rattle.stanza_model.specs.declared.effect.Effect.TheVariants as effect
use Rattle.stanza_model.specs.declared.effect.Change.TheVariants as change
use Rattle.stanza_model.specs.declared.here.Here.{Here}
use Rattle.stanza_model.specs.declared.stanza.Stanza.{Stanza}
use Rattle.stanza_model.specs.Stanzas.{to_in}
use Rattle.jid_core.specs.Addresses.{Address, same_bare}
use Rattle.contact_table.specs.Books.{bare_of}
use Rattle.presence_core.specs.Broadcasts.{asked_by}
use Rattle.muc_service.specs.Rooms.{Hosted}
use Rattle.sm_resume.specs.declared.decision.Cause.{Cause}
use Rattle.house_model.specs.declared.event.Event.{Event}
use Rattle.house_model.specs.Sessions.{Hold, Held, Away, Ended, Gone, Rest, Session, Op, Push, Act, End, begun, unmade}
use Rattle.house_model.specs.Sessions.{session_step, Marks, Shown, Hidden, Directs, WantsRoster, Pushed}
use Rattle.house_model.specs.Traffic.{KeptTraffic, Traffic, whole}
use Rattle.house_model.specs.States.{World, State, keep, keep_by, keep_world}
use Rattle.house_model.specs.Effects.{Effect, Open, At, Begin, On, Note, Hosts, Files, apply, apply_all}
use Rattle.house_model.specs.Fitting.{IsInHouse, EffectFits, AllFit}
use Rattle.house_model.specs.Histories.{Outcome, Made, Short, next_by}
use Rattle.house_model.specs.Lookups.{here, is_there, sessions_of}
use Rattle.house_model.specs.Presences.{asking, party}
use Rattle.archive_table.specs.Pages as pages
use Rattle.house_model.specs.Archives as archives
use Rattle.house_model.specs.RoomLookups.{called, room_for, rooms_of}
use Rattle.house_model.specs.Routing.{Scene, departure, effects_in, own_contacts, parted, user_removed}
use Rattle.house_model.specs.Sound.{Sound}
use Rattle.house_model.specs.Steps.{effect_of, verdict, turn}
use Rattle.house_model.proofs.EffectCases.{effects_all}
use Rattle.house_model.proofs.FitRows.{absent_fits, all_left_fit, asked_fits, called_are_found, present_fits, said_fits, whispered_fits}
use Rattle.house_model.proofs.Founds.{AreFound, IsFound, append_all, every, numbers_found}
use Rattle.house_model.proofs.Housed.{AllLive, Housed, housed_by}
use Rattle.house_model.proofs.Outs.{each_listed, rooms_all}
use Rattle.house_model.proofs.RoomCases.{found_all}
use Rattle.house_model.proofs.RoomsKept.{EachRoom}
use Rattle.muc_service.specs.Numbering.{Numbered}
use Rattle.house_model.proofs.RosterCases.{IsSeen, Reaches, all_told_at, found_at, parted_all, party_seen, set_all, tells}
use Rattle.house_model.proofs.PresenceCases.{Covers, departure_all}
use Rattle.house_model.proofs.Partings.{IsNoPart, step_gone}
use Rattle.house_model.proofs.PutLemmas.{put_is, put_else}
use Rattle.house_model.proofs.SoundLemmas.{unmade_stays}

-- No session is made with the number 0.
abbrev pub HasNoZero : World Traffic → Type 0
HasNoZero world = world.sessions 0 ≡ unmade whole

apply_no_zero : (world : World Traffic) (e : Effect) → HasNoZero world → HasNoZero (apply whole world e)
apply_no_zero world (Open w) none = none
apply_no_zero world (At w op) none = none
apply_no_zero world (Note change) none = none
apply_no_zero world (Hosts x) none = none
apply_no_zero world (Files filing) none = none
apply_no_zero world (Begin w c a) none =
    put_else (world.made + 1) (begun whole w c a) world.sessions 0 (λ e. omega (arith, e)) ∙ none
apply_no_zero world (On k op) none = elim (put_is k (session_step whole (world.sessions k) op) world.sessions 0) [
  | inl p ↦ p.1
      ∙ (ap (λ (i : ℕ). session_step whole (world.sessions i) op) (sym p.0)
      ∙ (ap (λ (y : Session Traffic). session_step whole y op) none ∙ unmade_stays op))
  | inr p ↦ p.1 ∙ none
]

all_no_zero : (world : World Traffic) (es : List Effect) → HasNoZero world → HasNoZero (apply_all whole world es)
all_no_zero world [] none = none
all_no_zero world (e ∷ es) none = all_no_zero (apply whole world e) es (apply_no_zero world e none)

pub next_no_zero : (st : State) (e : Event) (o : Outcome) → HasNoZero st.world → HasNoZero (next_by st e o).world
next_no_zero st e (Made reply text) none = all_no_zero st.world (verdict (keep (turn e st)) e).effects none
next_no_zero st e Short none = none

-- Who is in the house.
pub held_in_house : (world : World Traffic) (s w c : ℕ) → Sound world → HasNoZero world → (world.sessions s).hold ≡ Held w c
    → IsInHouse s world
held_in_house world s w c sound none held = record {
  above = elim (cases_lt 0 s) [
    | inl low ↦ low
    | inr zero ↦ absurd (
        let at : s ≡ 0 = omega (arith, zero) in
        let away : (world.sessions s).hold ≡ Away = ap (λ (i : ℕ). (world.sessions i).hold) at ∙ ap (λ (y : Session Traffic). y.hold) none in
        cc)
  ];
  made = elim (cases_lt world.made s) [
    | inl later ↦ absurd (
        let away : (world.sessions s).hold ≡ Away = ap (λ (y : Session Traffic). y.hold) (sound.later s later) in
        cc)
    | inr low ↦ low
  ];
  stays = λ gone. cc;
}

there_stays : (b : Bool) (m : Hold) (t : Traffic) (r : Rest) → is_there (keep_by b m t r) ≡ true → m ≡ Gone → ⊥
there_stays b (Held w c) t r there gone = cc
there_stays b Away t r there gone = cc
there_stays b (Ended cause) t r there gone = cc
there_stays b Gone t r there gone = cc

pub found_in_house : (world : World Traffic) (s : ℕ) → IsFound (keep_world world) s → IsInHouse s world
found_in_house world s found = record {
  above = found.above;
  made = found.made;
  stays = there_stays (world.sessions s).counts (world.sessions s).hold (world.sessions s).traffic (world.sessions s).rest found.there;
}

-- it stays there, as long as it does not depart
pub stays_in_house : (world : World Traffic) (s k : ℕ) (op : Op) → IsNoPart op → IsInHouse s world
    → IsInHouse s (apply whole world (On k op))
stays_in_house world s k op stays is = record {
  above = is.above;
  made = is.made;
  stays = λ gone. elim (put_is k (session_step whole (world.sessions k) op) world.sessions s) [
    | inl p ↦ is.stays
        (ap (λ (i : ℕ). (world.sessions i).hold) p.0
        ∙ step_gone (world.sessions k).counts (world.sessions k).hold (world.sessions k).traffic (world.sessions k).rest op stays
        (ap (λ (y : Session Traffic). y.hold) (sym p.1) ∙ gone))
    | inr p ↦ is.stays (ap (λ (y : Session Traffic). y.hold) (sym p.1) ∙ gone)
  ];
}

-- no effect of a stanza takes a session away
pub effect_keeps : (world : World Traffic) (s : ℕ) (x : stanza.Effect) → IsInHouse s world → IsInHouse s (apply whole world (effect_of x))
effect_keeps world s (Queue k to rest origin) is = stays_in_house world s k (Push (record { to = to; rest = rest; origin = origin })) tt is
effect_keeps world s (Set (change.WantsRoster k)) is = stays_in_house world s k (Marks WantsRoster) tt is
effect_keeps world s (Set (change.Pushed k pushes)) is = stays_in_house world s k (Marks (Pushed pushes)) tt is
effect_keeps world s (Set (change.Available k stanza priority)) is = stays_in_house world s k (Marks (Shown stanza priority)) tt is
effect_keeps world s (Set (change.Unavailable k)) is = stays_in_house world s k (Marks Hidden) tt is
effect_keeps world s (Set (change.Directed k addresses)) is = stays_in_house world s k (Marks (Directs addresses)) tt is
effect_keeps world s (Set (change.Contact user address name groups)) is = record { above = is.above; made = is.made; stays = is.stays }
effect_keeps world s (Set (change.NoContact user address)) is = record { above = is.above; made = is.made; stays = is.stays }
effect_keeps world s (Set (change.Sees a b now)) is = record { above = is.above; made = is.made; stays = is.stays }
effect_keeps world s (Set (change.Asked a b now)) is = record { above = is.above; made = is.made; stays = is.stays }
effect_keeps world s (effect.Broadcast n item) is = record { above = is.above; made = is.made; stays = is.stays }
effect_keeps world s (effect.Enter n k address nick role) is = record { above = is.above; made = is.made; stays = is.stays }
effect_keeps world s (effect.Leave n k) is = record { above = is.above; made = is.made; stays = is.stays }
effect_keeps world s (effect.Keep user peer text moment) is = record { above = is.above; made = is.made; stays = is.stays }
effect_keeps world s (Set (change.RoomMade n address owner)) is = record { above = is.above; made = is.made; stays = is.stays }
effect_keeps world s (Set (change.RoomGone n)) is = record { above = is.above; made = is.made; stays = is.stays }
effect_keeps world s (Set (change.Unlocked n)) is = record { above = is.above; made = is.made; stays = is.stays }
effect_keeps world s (Set (change.Configured n config)) is = record { above = is.above; made = is.made; stays = is.stays }
effect_keeps world s (Set (change.Affiliated n address a)) is = record { above = is.above; made = is.made; stays = is.stays }
effect_keeps world s (Set (change.RoleSet n k role)) is = record { above = is.above; made = is.made; stays = is.stays }
effect_keeps world s (Set (change.Renamed n k nick)) is = record { above = is.above; made = is.made; stays = is.stays }
effect_keeps world s (Set (change.OccupantShown n k presence)) is = record { above = is.above; made = is.made; stays = is.stays }
effect_keeps world s (Set (change.Subject n text stamp)) is = record { above = is.above; made = is.made; stays = is.stays }
effect_keeps world s (Set (change.RoomRow n peer text moment)) is = record { above = is.above; made = is.made; stays = is.stays }

queued_fits : (world : World Traffic) (e x : stanza.Effect) → EffectFits world e → EffectFits (apply whole world (effect_of x)) e
queued_fits world (Queue s to rest origin) x fits = effect_keeps world s x fits
queued_fits world (Set (change.WantsRoster k)) x fits = effect_keeps world k x fits
queued_fits world (Set (change.Pushed k pushes)) x fits = effect_keeps world k x fits
queued_fits world (Set (change.Available k stanza priority)) x fits = effect_keeps world k x fits
queued_fits world (Set (change.Unavailable k)) x fits = effect_keeps world k x fits
queued_fits world (Set (change.Directed k addresses)) x fits = effect_keeps world k x fits
queued_fits world (Set (change.Contact user address name groups)) x fits = tt
queued_fits world (Set (change.NoContact user address)) x fits = tt
queued_fits world (Set (change.Sees a b now)) x fits = tt
queued_fits world (Set (change.Asked a b now)) x fits = tt
queued_fits world (effect.Broadcast n item) x fits = tt
queued_fits world (effect.Enter n k address nick role) x fits = effect_keeps world k x fits
queued_fits world (effect.Leave n k) x fits = effect_keeps world k x fits
queued_fits world (effect.Keep user peer text moment) x fits = tt
queued_fits world (Set (change.RoomMade n address owner)) x fits = tt
queued_fits world (Set (change.RoomGone n)) x fits = tt
queued_fits world (Set (change.Unlocked n)) x fits = tt
queued_fits world (Set (change.Configured n config)) x fits = tt
queued_fits world (Set (change.Affiliated n address a)) x fits = tt
queued_fits world (Set (change.RoleSet n k role)) x fits = effect_keeps world k x fits
queued_fits world (Set (change.Renamed n k nick)) x fits = effect_keeps world k x fits
queued_fits world (Set (change.OccupantShown n k presence)) x fits = effect_keeps world k x fits
queued_fits world (Set (change.Subject n text stamp)) x fits = tt
queued_fits world (Set (change.RoomRow n peer text moment)) x fits = tt

later_fit : (world : World Traffic) (x : stanza.Effect) (es : List stanza.Effect) → AllByRecursion (EffectFits world) es
    → AllByRecursion (EffectFits (apply whole world (effect_of x))) es
later_fit world x [] all = tt
later_fit world x (e ∷ es) all = (queued_fits world e x all.0, later_fit world x es all.1)

-- what fits at first fits when its turn comes
pub all_fit : (world : World Traffic) (es : List stanza.Effect) → AllByRecursion (EffectFits world) es → AllFit world es
all_fit world [] all = tt
all_fit world (e ∷ es) all = (all.0, all_fit (apply whole world (effect_of e)) es (later_fit world e es all.1))

abbrev Any : {X : Type 0} → X → Type 0
Any x = ⊤

abbrev FitsAfter : World Traffic → ℕ → Stanza → stanza.Effect → Type 0
FitsAfter world s x e = EffectFits (apply whole world (On s (Act x))) e

acted_in_house : (world : World Traffic) (s : ℕ) (x : Stanza) (q : ℕ) → IsInHouse q world → IsInHouse q (apply whole world (On s (Act x)))
acted_in_house world s x q is = stays_in_house world q s (Act x) tt is

-- who is in the house once a stanza was acted on, and once a session ended

abbrev IsInActed : World Traffic → ℕ → Stanza → ℕ → Type 0
IsInActed world s x q = IsInHouse q (apply whole world (On s (Act x)))

abbrev IsInEnded : World Traffic → ℕ → Cause → ℕ → Type 0
IsInEnded world s cause q = IsInHouse q (apply whole world (On s (End cause)))

covered : (world : World Traffic) (o : Scene) (s : ℕ) (x : Stanza) → o.world ≡ keep_world world → Numbered o.world.rooms
    → EachRoom (AllLive (IsInActed world s x)) o.world.rooms → IsInHouse s world
    → Covers o s x (FitsAfter world s x) (AllByRecursion (FitsAfter world s x))
covered world o s x same numbered housed is = record {
  all = λ es fits. fits;
  refusal = λ condition. mine;
  result = mine;
  found = λ place. mine;
  told = λ place. mine;
  form = mine;
  shown = λ from rows q asked short.
      every (λ row. FitsAfter world s x (archives.shown_to (here o.world s) from q.queryid row)) (λ row. mine) (pages.shown rows q.filter q.ask);
  page = λ from rows q asked. mine;
  copy = λ e h at found. others h found;
  plain = λ e r at found. reached r found;
  numbered = λ e r at found. reached r found;
  sent = λ e user at named. tt;
  received = λ e user at named. tt;
  presence = λ e h small found. others h found.found;
  show = λ h found. mine;
  asked = λ own. asks (asking o.domain o.world own);
  shows = λ e priority small. mine;
  hides = mine;
  directs = λ addresses. mine;
  pairs = λ own place user named at told.
      tells o.world (FitsAfter world s x) Any Any Any each (party o.domain o.world own) (party o.domain o.world user) (seen own) (seen user);
  lists = λ own. (mine, (mine, tt));
  changes = λ own named.
      append_all (FitsAfter world s x) (parted o own (user_removed o own x)) _ (parts own (user_removed o own x))
      (set_all o.world (FitsAfter world s x) Any Any Any each (bare_of o.domain own) (own_contacts o own) (here o.world s) (sessions_of o.world own) x
      (found_at o.world (sessions_of o.world own) (numbers_found o.world own)) (λ c. mine) mine (λ w wants whole. tt));
  said = λ form e at.
      said_fits (apply whole world (On s (Act x))) (here o.world s) x mine o form e (room_for o.world.rooms (to_in x)) (room (to_in x))
      (all_others (called o.domain o.world e) (called_are_found o.domain o.world e));
  whispered = whispered_fits (apply whole world (On s (Act x))) (here o.world s) x mine (room_for o.world.rooms (to_in x)) (room (to_in x));
  asks = λ h at. asked_fits (apply whole world (On s (Act x))) (here o.world s) x mine h
      (subst (λ (f : Option Hosted). IfSome f (λ y. AllLive (IsInActed world s x) y.room)) at (room (to_in x)));
  absent = λ e at short. absent_fits (apply whole world (On s (Act x))) (here o.world s) x mine (room_for o.world.rooms (to_in x)) (room (to_in x));
  leaves = λ e at short es fit.
      append_all (FitsAfter world s x) es _ fit
      (all_left_fit (apply whole world (On s (Act x))) s (Some x) (rooms_of s o.world.rooms) mine
      (rooms_all (λ h. AllLive (IsInActed world s x) h.room) s o.world.rooms hosts));
  present = λ e at short.
      present_fits (apply whole world (On s (Act x))) (here o.world s) x mine o.world (room_for o.world.rooms (to_in x)) (room (to_in x));
}
  where
    mine : IsInActed world s x s
    mine = acted_in_house world s x s is

    reached : (r : ℕ) → IsFound o.world r → IsInActed world s x r
    reached r found = acted_in_house world s x r (found_in_house world r (subst (λ k. IsFound k r) same found))

    others : (h : Here) → IsFound o.world h.session → IsInActed world s x h.session
    others h found = reached h.session found

    all_others : (hs : List Here) → AreFound o.world hs → AllByRecursion (λ h. IsInActed world s x h.session) hs
    all_others [] found = tt
    all_others (h ∷ hs) found = (others h found.0.found, all_others hs found.1)

    hosts : AllByRecursion (λ h. AllLive (IsInActed world s x) h.room) o.world.rooms.hosted
    hosts = each_listed (AllLive (IsInActed world s x)) o.world.rooms numbered housed

    room : (to : Option Address) → IfSome (room_for o.world.rooms to) (λ h. AllLive (IsInActed world s x) h.room)
    room None = tt
    room (Some to) = found_all (λ h. AllLive (IsInActed world s x) h.room) (λ h. same_bare h.room.address to) o.world.rooms.hosted hosts

    each : Reaches o.world (FitsAfter world s x) Any Any Any
    each = record {
      sees = λ a b on. tt;
      asked = λ a b on. tt;
      contact = λ user address name groups. tt;
      no_contact = λ user address. tt;
      count = λ h at n. others h at.found;
      item = λ h at e short. others h at.found;
      presence = λ h at a form short. others h at.found;
      sent = λ h at t short. others h at.found;
      gone = λ h at. tt;
    }

    seen : (user : List ℕ) → IsSeen o.world Any Any Any (party o.domain o.world user)
    seen user = party_seen o.domain o.world user Any Any Any tt (λ a side short. tt) (λ h. tt)

    parts : (own : List ℕ) (user : Option (List ℕ)) → AllByRecursion (FitsAfter world s x) (parted o own user)
    parts own None = tt
    parts own (Some user) =
        parted_all o.world (FitsAfter world s x) Any Any Any each (party o.domain o.world own) (party o.domain o.world user) (seen own) (seen user)
        (all_told_at o.world (sessions_of o.world user) (numbers_found o.world user))

    asks : (xs : List Address) → AllByRecursion (λ a. FitsAfter world s x (asked_by (here o.world s) a)) xs
    asks [] = tt
    asks (a ∷ more) = (mine, asks more)

pub stanza_fit : (world : World Traffic) (o : Scene) (s : ℕ) (x : Stanza) → o.world ≡ keep_world world → Numbered world.rooms → Housed world
    → IsInHouse s world → AllByRecursion (EffectFits (apply whole world (On s (Act x)))) (effects_in o s x)
stanza_fit world o s x same numbered housed is =
    effects_all o s x (FitsAfter world s x) (AllByRecursion (FitsAfter world s x))
    (covered world o s x same (subst (λ (k : World KeptTraffic). Numbered k.rooms) (sym same) numbered)
    (subst (λ (k : World KeptTraffic). EachRoom (AllLive (IsInActed world s x)) k.rooms) (sym same)
    (housed_by (λ q. IsInHouse q world) (IsInActed world s x) (acted_in_house world s x) world.rooms housed)) is)

pub departure_fit : (world : World Traffic) (s : ℕ) (cause : Cause) → Numbered world.rooms → Housed world → IsInHouse s world
    → AllByRecursion (EffectFits (apply whole world (On s (End cause)))) (departure (keep_world world) s)
departure_fit world s cause numbered housed is =
    departure_all (keep_world world) s (EffectFits (apply whole world (On s (End cause))))
    (λ r found. over r.session (found_in_house world r.session found.found)) (over s is)
    (λ addresses. over s is)
    (all_left_fit (apply whole world (On s (End cause))) s None (rooms_of s world.rooms) (over s is)
    (rooms_all (λ h. AllLive (IsInEnded world s cause) h.room) s world.rooms
    (each_listed (AllLive (IsInEnded world s cause)) world.rooms numbered
    (housed_by (λ q. IsInHouse q world) (IsInEnded world s cause) over world.rooms housed))))
  where
    over : (q : ℕ) → IsInHouse q world → IsInEnded world s cause q
    over q here = stays_in_house world q s (End cause) tt here

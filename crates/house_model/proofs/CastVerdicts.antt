-- What an event does is one list of a stanza's effects, as it is cast, and beside it what touches neither rooms nor archives.
use Rattle.std.proofs.Common.{◌≡◌, ℕ, ◌+◌, List, [], ◌∷◌, ◌++◌, map, append_assoc, refl, sym, ap, ◌∙◌, subst, Bool, true, false, Option, Some, None}
use Rattle.std.proofs.Common.{bytes_eq, if◌then◌else◌}
use Rattle.std.specs.Prelude.{⊤}
use Rattle.std.proofs.lemmas.List.{append-nil}
use Rattle.std.specs.List.{AllByRecursion}
use Rattle.jid_core.specs.Addresses.{Address, address_text}
use Rattle.stanza_model.specs.declared.effect.Effect as stanza
use Rattle.stanza_model.specs.declared.stanza.Stanza.{Stanza}
use Rattle.sm_resume.specs.declared.decision.Cause.{Cause}
use Rattle.sm_resume.specs.declared.decision.Cause.TheVariants.{Flood, Lost, Replaced}
use Rattle.session_table.specs.declared.line.Line as stage
use Rattle.session_table.specs.declared.line.Line.TheVariants.{Bound}
use Rattle.muc_service.specs.Casting.{after, cast}
use Rattle.muc_service.specs.Rooms.{Rooms}
use Rattle.archive_table.specs.Archives.{Said}
use Rattle.archive_table.specs.declared.filing.Filing.TheVariants.{OfUser, OfRoom, NoRoom}
use Rattle.house_model.specs.declared.answer.Answer.TheVariants as answer
use Rattle.house_model.specs.declared.event.Event.{Event}
use Rattle.house_model.specs.declared.event.Event.TheVariants as event
use Rattle.house_model.specs.Archiving.{kept_by, messages_in, rows_of_user, spoken_in}
use Rattle.house_model.specs.Effects.{Effect, Open, At, Begin, Note, Hosts, Files, On, Say, Leave, Close, apply, apply_all}
use Rattle.house_model.specs.Gate.{Waits, Knows, Holds, Needs, to_login, to_bind, to_manage, to_act, to_ask, to_pull, most_answers, left, closed}
use Rattle.house_model.specs.Gate.{gate_at}
use Rattle.house_model.specs.Lookups.{session_at}
use Rattle.house_model.specs.RoomFits.{AreOf}
use Rattle.house_model.specs.Routing.{departure, effects}
use Rattle.house_model.specs.Sessions.{Act, End}
use Rattle.house_model.specs.Sessions as sessions
use Rattle.house_model.specs.States.{Kept, State, World, keep, keep_world}
use Rattle.house_model.specs.Stays.{Item, Logs, log_step, logs_through}
use Rattle.house_model.specs.Steps.{acts, binds, body, departs, due, effect_of, replaces, sweeps, turn, verdict}
use Rattle.house_model.specs.Traffic.{Traffic, whole}
use Rattle.house_model.proofs.FiledRows.{all_in, cast_archives}
use Rattle.house_model.proofs.GateLemmas.{gate_leads}
use Rattle.house_model.proofs.SimpleVerdicts.{ArePlain, IsSimple, Plain, acks_plain, asks_plain, closed_plain, enables_plain, holds_plain}
use Rattle.house_model.proofs.SimpleVerdicts.{knows_plain, leaves_plain, left_plain, logs_in_plain, resumes_plain, waits_plain}
use Rattle.house_model.proofs.SpokenItems.{cast_after, cast_keeps, cast_spoken}

-- neither rooms nor archives

abbrev pub IsSilent : Effect → Type 0
IsSilent (Hosts e) = ⊥
IsSilent (Files filing) = ⊥
IsSilent e = ⊤

abbrev pub AreSilent : List Effect → Type 0
AreSilent es = AllByRecursion IsSilent es

pub record SameHall (world new : World Traffic) : Type 0 where
  pub rooms : new.rooms ≡ world.rooms
  pub archives : new.archives ≡ world.archives

one_silent : (e : Effect) (world : World Traffic) → IsSilent e → SameHall world (apply whole world e)
one_silent (Open w) world silent = record { rooms = refl; archives = refl }
one_silent (At w op) world silent = record { rooms = refl; archives = refl }
one_silent (Begin w c address) world silent = record { rooms = refl; archives = refl }
one_silent (On s op) world silent = record { rooms = refl; archives = refl }
one_silent (Note change) world silent = record { rooms = refl; archives = refl }
one_silent (Hosts x) world silent = absurd silent
one_silent (Files filing) world silent = absurd silent

all_silent : (es : List Effect) (world : World Traffic) → AreSilent es → SameHall world (apply_all whole world es)
all_silent [] world silent = record { rooms = refl; archives = refl }
all_silent (e ∷ es) world silent =
    let first : SameHall world (apply whole world e) = one_silent e world silent.0 in
    let later : SameHall (apply whole world e) (apply_all whole (apply whole world e) es) = all_silent es (apply whole world e) silent.1 in
    record { rooms = later.rooms ∙ first.rooms; archives = later.archives ∙ first.archives }

one_order : (e : Effect) (world : World Traffic) (logs : Logs) → IsSilent e → (log_step world e logs).order ≡ logs.order
one_order (Open w) world logs silent = refl
one_order (At w op) world logs silent = refl
one_order (Begin w c address) world logs silent = refl
one_order (On s op) world logs silent = refl
one_order (Note change) world logs silent = refl
one_order (Hosts x) world logs silent = absurd silent
one_order (Files filing) world logs silent = absurd silent

silent_order : (es : List Effect) (world : World Traffic) (logs : Logs) → AreSilent es → (logs_through world es logs).order ≡ logs.order
silent_order [] world logs silent = refl
silent_order (e ∷ es) world logs silent =
    silent_order es (apply whole world e) (log_step world e logs) silent.1 ∙ one_order e world logs silent.0

silent_keeps : (es fs : List Effect) (user : List ℕ) → AreSilent es → kept_by user (es ++ fs) ≡ kept_by user fs
silent_keeps [] fs user silent = refl
silent_keeps (Open w ∷ es) fs user silent = silent_keeps es fs user silent.1
silent_keeps (At w op ∷ es) fs user silent = silent_keeps es fs user silent.1
silent_keeps (Begin w c address ∷ es) fs user silent = silent_keeps es fs user silent.1
silent_keeps (On s op ∷ es) fs user silent = silent_keeps es fs user silent.1
silent_keeps (Note change ∷ es) fs user silent = silent_keeps es fs user silent.1
silent_keeps (Hosts x ∷ es) fs user silent = absurd silent.0
silent_keeps (Files filing ∷ es) fs user silent = absurd silent.0

keeps_then : (user : List ℕ) (e : Effect) (es fs : List Effect) → kept_by user es ≡ kept_by user fs → kept_by user (e ∷ es) ≡ kept_by user (e ∷ fs)
keeps_then user (Files (OfUser other peer text moment)) es fs same =
    ap (λ (l : List Said). if bytes_eq other user then record { peer = peer; text = text; moment = moment } ∷ l else l) same
keeps_then user (Files (OfRoom n peer text moment)) es fs same = same
keeps_then user (Files (NoRoom n)) es fs same = same
keeps_then user (Open w) es fs same = same
keeps_then user (At w op) es fs same = same
keeps_then user (Begin w c address) es fs same = same
keeps_then user (On s op) es fs same = same
keeps_then user (Note change) es fs same = same
keeps_then user (Hosts x) es fs same = same

keeps_append : (es fs : List Effect) (user : List ℕ) → AreSilent fs → kept_by user (es ++ fs) ≡ kept_by user es
keeps_append [] fs user silent = ap (kept_by user) (sym (append-nil fs)) ∙ silent_keeps fs [] user silent
keeps_append (e ∷ es) fs user silent = keeps_then user e (es ++ fs) es (keeps_append es fs user silent)

-- lists, one after another

then_applied : (world : World Traffic) (es fs : List Effect) → apply_all whole world (es ++ fs) ≡ apply_all whole (apply_all whole world es) fs
then_applied world [] fs = refl
then_applied world (e ∷ more) fs = then_applied (apply whole world e) more fs

then_logs : (world : World Traffic) (es fs : List Effect) (logs : Logs)
    → logs_through world (es ++ fs) logs ≡ logs_through (apply_all whole world es) fs (logs_through world es logs)
then_logs world [] fs logs = refl
then_logs world (e ∷ more) fs logs = then_logs (apply whole world e) more fs (log_step world e logs)

-- One list that is cast, of which this holds.
pub record IsCast (C : List stanza.Effect → Type 0) (world : World Traffic) (es : List Effect) : Type 0 where
  pub before : List Effect
  pub told : List stanza.Effect
  pub later : List Effect
  pub is : es ≡ before ++ (map effect_of (cast world.rooms told) ++ later)
  pub silent_before : AreSilent before
  pub silent_later : AreSilent later
  pub holds : C told

-- what it makes of the rooms, the archives and the orders, and which rows it keeps for users

module _ (C : List stanza.Effect → Type 0) (world : World Traffic) (es : List Effect) (is : IsCast C world es) where
  abbrev start : World Traffic
  start = apply_all whole world is.before

  abbrev parts : List Effect
  parts = map effect_of (cast world.rooms is.told)

  abbrev end : World Traffic
  end = apply_all whole start parts

  same_start : SameHall world start
  same_start = all_silent is.before world is.silent_before

  ended : apply_all whole world es ≡ apply_all whole end is.later
  ended =
      ap (apply_all whole world) is.is ∙ (then_applied world is.before (parts ++ is.later) ∙ then_applied start parts is.later)

  pub rooms_are : (apply_all whole world es).rooms ≡ after world.rooms is.told
  rooms_are =
      ap (λ (w : World Traffic). w.rooms) ended
      ∙ ((all_silent is.later end is.silent_later).rooms
      ∙ (cast_after is.told world.rooms start ∙ ap (λ (r : Rooms). after r is.told) same_start.rooms))

  pub archives_are : (apply_all whole world es).archives ≡ all_in is.told world.archives
  archives_are =
      ap (λ (w : World Traffic). w.archives) ended
      ∙ ((all_silent is.later end is.silent_later).archives
      ∙ (cast_archives is.told world.rooms start ∙ ap (all_in is.told) same_start.archives))

  pub keeps_are : (user : List ℕ) → kept_by user es ≡ rows_of_user user is.told
  keeps_are user =
      ap (kept_by user) is.is
      ∙ (silent_keeps is.before (parts ++ is.later) user is.silent_before
      ∙ (keeps_append parts is.later user is.silent_later ∙ cast_keeps is.told world.rooms user))

  pub order_is : (logs : Logs) (n : ℕ) → AreOf world.rooms is.told
      → spoken_in ((logs_through world es logs).order n) ≡ spoken_in (logs.order n) ++ messages_in n is.told
  order_is logs n are =
      let first : Logs = logs_through world is.before logs in
      let second : Logs = logs_through start parts first in
      ap (λ (l : List Effect). spoken_in ((logs_through world l logs).order n)) is.is
      ∙ (ap (λ (l : Logs). spoken_in (l.order n)) (then_logs world is.before (parts ++ is.later) logs ∙ then_logs start parts is.later first)
      ∙ (ap (λ (o : ℕ → List Item). spoken_in (o n)) (silent_order is.later end second is.silent_later)
      ∙ (cast_spoken is.told world.rooms start first n same_start.rooms are
      ∙ ap (λ (o : ℕ → List Item). spoken_in (o n) ++ messages_in n is.told) (silent_order is.before world logs is.silent_before))))

-- Each event.

simple_silent : (e : Effect) → IsSimple e → IsSilent e
simple_silent (Open w) is = tt
simple_silent (At w op) is = tt
simple_silent (Begin w c a) is = absurd is
simple_silent (On s op) is = tt
simple_silent (Note c) is = tt
simple_silent (Hosts e) is = absurd is
simple_silent (Files filing) is = absurd is

plain_silent : (es : List Effect) → ArePlain es → AreSilent es
plain_silent [] plain = tt
plain_silent (e ∷ es) plain = (simple_silent e plain.0, plain_silent es plain.1)

module _ (st : State) (e : Event) (C : List stanza.Effect → Type 0) (none : C []) (left_holds : (s : ℕ) → C (departure (keep_world st.world) s)) where
  abbrev kept : Kept
  kept = keep (turn e st)

  silent_cast : (es : List Effect) → AreSilent es → IsCast C st.world es
  silent_cast es silent = record {
    before = es;
    told = [];
    later = [];
    is = sym (append-nil es);
    silent_before = silent;
    silent_later = tt;
    holds = none;
  }

  plain_cast : (es : List Effect) → ArePlain es → IsCast C st.world es
  plain_cast es plain = silent_cast es (plain_silent es plain)

  departs_cast : (s : ℕ) (cause : Cause) (es : List Effect) → AreSilent es → IsCast C st.world (departs (keep_world st.world) s cause ++ es)
  departs_cast s cause es silent =
      let told : List Effect = map effect_of (cast st.world.rooms (departure (keep_world st.world) s)) in
      record {
        before = On s (End cause) ∷ [];
        told = departure (keep_world st.world) s;
        later = On s sessions.Part ∷ es;
        is = ap (λ (l : List Effect). On s (End cause) ∷ l) (append_assoc told (On s sessions.Part ∷ []) es);
        silent_before = (tt, tt);
        silent_later = (tt, silent);
        holds = left_holds s;
      }

  replaces_cast : (s : Option ℕ) (es : List Effect) → AreSilent es → IsCast C st.world (replaces kept s ++ es)
  replaces_cast None es silent = silent_cast es silent
  replaces_cast (Some s) es silent = departs_cast s (Replaced (st.world.made + 1)) es silent

  binds_cast : (has : Bool) (w c : ℕ) (a : Address) (id : List ℕ) → IsCast C st.world (binds has kept w c a id).effects
  binds_cast false w c a id = plain_cast _ (tt, tt)
  binds_cast true w c a id =
      replaces_cast (session_at kept a) (Begin w c a ∷ At w (Say (answer.Bound id (address_text a))) ∷ []) (tt, (tt, tt))

  acts_cast : (s : ℕ) (x : Stanza) → C (effects kept s x) → IsCast C st.world (acts kept s x).effects
  acts_cast s x holds =
      let told : List Effect = map effect_of (cast st.world.rooms (effects kept s x)) in
      record {
        before = On s (Act x) ∷ [];
        told = effects kept s x;
        later = [];
        is = ap (λ (l : List Effect). On s (Act x) ∷ l) (sym (append-nil told));
        silent_before = (tt, tt);
        silent_later = tt;
        holds = holds;
      }

  sweeps_cast : (s : Option ℕ) → IsCast C st.world (sweeps (keep_world st.world) s).effects
  sweeps_cast None = plain_cast [] tt
  sweeps_cast (Some s) =
      subst (IsCast C st.world) (append-nil (departs (keep_world st.world) s Lost)) (departs_cast s Lost [] tt)

  gate_cast : (n : Needs) (w : ℕ) → Plain (body kept e Waits) → ((c u : ℕ) → IsCast C st.world (body kept e (Knows c u)).effects)
      → ((c s : ℕ) → (st.world.lines w).stage ≡ Bound c s → IsCast C st.world (body kept e (Holds c s)).effects)
      → IsCast C st.world (body kept e (gate_at n kept w (st.world.lines w) (st.world.lines w).stage)).effects
  gate_cast n w waits knows holds =
      gate_leads (λ v. IsCast C st.world v.effects) kept e n w (st.world.lines w) (st.world.lines w).stage
      (λ r. plain_cast [] tt)
      (λ c. plain_cast _ (left_plain kept (st.world.lines w).stage (At w (Close c (Flood most_answers))) tt))
      (λ c is. plain_cast _ waits) (λ c u is. knows c u) (λ c s is. holds c s is)

  -- neither on a connection that is logged in nor on one that holds a session
  plain_gate : (n : Needs) (w : ℕ) → Plain (body kept e Waits) → ((c u : ℕ) → Plain (body kept e (Knows c u)))
      → ((c s : ℕ) → Plain (body kept e (Holds c s)))
      → IsCast C st.world (body kept e (gate_at n kept w (st.world.lines w) (st.world.lines w).stage)).effects
  plain_gate n w waits knows holds = gate_cast n w waits (λ c u. plain_cast _ (knows c u)) (λ c s is. plain_cast _ (holds c s))

-- what comes of a stanza, where it is acted on
abbrev pub Acts : State → Event → (List stanza.Effect → Type 0) → Type 0
Acts st e C =
    (w c s t : ℕ) (x : Stanza) → e ≡ event.Act w x t → (st.world.lines w).stage ≡ Bound c s → C (effects (keep (turn (event.Act w x t) st)) s x)

pub verdict_cast : (st : State) (e : Event) (C : List stanza.Effect → Type 0) → C [] → ((s : ℕ) → C (departure (keep_world st.world) s))
    → Acts st e C → IsCast C st.world (verdict (keep (turn e st)) e).effects
verdict_cast st (event.OpenLine w) C none left_holds acts_hold =
    plain_cast st (event.OpenLine w) C none left_holds _ (left_plain (keep (turn (event.OpenLine w) st)) (st.world.lines w).stage (Open w) tt)
verdict_cast st (event.Pull w t) C none left_holds acts_hold =
    let k : Kept = keep (turn (event.Pull w t) st) in
    plain_gate st (event.Pull w t) C none left_holds to_pull w (waits_plain (st.world.lines w).answers k w)
    (λ c u. knows_plain (st.world.lines w).answers k w c u) (λ c s. holds_plain (st.world.lines w).answers k w c s)
verdict_cast st (event.Login w user) C none left_holds acts_hold =
    plain_gate st (event.Login w user) C none left_holds to_login w (logs_in_plain _ w) (λ c u. tt) (λ c s. tt)
verdict_cast st (event.Bind w id resource t dice) C none left_holds acts_hold =
    gate_cast st (event.Bind w id resource t dice) C none left_holds to_bind w tt
    (λ c u. binds_cast st (event.Bind w id resource t dice) C none left_holds _ w c _ id)
    (λ c s is. plain_cast st (event.Bind w id resource t dice) C none left_holds [] tt)
verdict_cast st (event.Enable w wants dice) C none left_holds acts_hold =
    plain_gate st (event.Enable w wants dice) C none left_holds to_manage w tt (λ c u. (tt, tt)) (λ c s. enables_plain _ w s _)
verdict_cast st (event.Resume w id h t) C none left_holds acts_hold =
    plain_gate st (event.Resume w id h t) C none left_holds to_manage w tt
    (λ c u. resumes_plain id (keep (turn (event.Resume w id h t) st)) w c u h) (λ c s. (tt, tt))
verdict_cast st (event.Act w x t) C none left_holds acts_hold =
    gate_cast st (event.Act w x t) C none left_holds to_act w tt (λ c u. plain_cast st (event.Act w x t) C none left_holds [] tt)
    (λ c s is. acts_cast st (event.Act w x t) C none left_holds s x (acts_hold w c s t x refl is))
verdict_cast st (event.Ack w h) C none left_holds acts_hold =
    plain_gate st (event.Ack w h) C none left_holds to_act w tt (λ c u. tt) (λ c s. acks_plain _ s h _)
verdict_cast st (event.Ask w) C none left_holds acts_hold =
    plain_gate st (event.Ask w) C none left_holds to_ask w tt (λ c u. tt) (λ c s. asks_plain _ w s _)
verdict_cast st (event.DropLine w t) C none left_holds acts_hold =
    let k : Kept = keep (turn (event.DropLine w t) st) in
    let g : stage.Line = (st.world.lines w).stage in
    plain_cast st (event.DropLine w t) C none left_holds _ (leaves_plain g w (left k g) (left_plain k g (At w Leave) tt))
verdict_cast st (event.CloseLine w t) C none left_holds acts_hold =
    let g : stage.Line = (st.world.lines w).stage in
    plain_cast st (event.CloseLine w t) C none left_holds _ (leaves_plain g w (closed g) (closed_plain g (At w Leave) tt))
verdict_cast st (event.Sweep w t) C none left_holds acts_hold =
    let k : Kept = keep (turn (event.Sweep w t) st) in
    sweeps_cast st (event.Sweep w t) C none left_holds (due k)

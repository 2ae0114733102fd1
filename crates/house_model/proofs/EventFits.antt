-- The effects of every event fit, so that lines and sessions match after every history.
use Rattle.std.proofs.Common.{◌≡◌, ℕ, List, [], ◌∷◌, Option, Some, None, Bool, true, false, refl, sym, subst}
use Rattle.std.specs.Prelude.{map, nat_lt, slice_get, ◌&&◌}
use Rattle.jid_core.specs.Addresses.{Address}
use Rattle.stanza_tree.specs.declared.frame.Entry.{Entry}
use Rattle.stanza_model.specs.declared.stanza.Stanza.{Stanza}
use Rattle.sm_resume.specs.declared.decision.Cause.TheVariants.{Flood, Lost}
use Rattle.sm_resume.specs.declared.id.ResumeId.{ResumeId}
use Rattle.session_table.specs.declared.line.Line.TheVariants.{Logged}
use Rattle.muc_service.specs.Casting.{cast}
use Rattle.house_model.specs.declared.answer.Answer.{Answer}
use Rattle.house_model.specs.declared.event.Event.{Event}
use Rattle.house_model.specs.declared.event.Event.TheVariants as event
use Rattle.house_model.specs.Sessions.{Hold, Held, Away, Ended, Gone, Session, Act}
use Rattle.house_model.specs.Traffic.{Traffic, KeptTraffic, whole, brief, kept_sent}
use Rattle.house_model.specs.declared.limits.Limits.{Limits}
use Rattle.house_model.specs.States.{World, State, Kept, keep, opening_with, keep_world}
use Rattle.house_model.specs.Effects.{Open, At, Begin, On, Say, Leave, Close, apply}
use Rattle.house_model.specs.Gate.{Waits, Knows, Holds, Needs, to_login, to_bind, to_manage, to_act, to_ask, to_pull, most_answers, left, closed, gate_at}
use Rattle.house_model.specs.Lookups.{session_at}
use Rattle.house_model.specs.Routing.{effects}
use Rattle.house_model.specs.Steps.{logs_in, replaces, binds, enables, takes, resumes_by, is_known, resumes, effect_of, acts, acks}
use Rattle.house_model.specs.Steps.{asks, requests, gives_entry, pulls, sweeps, departs, due, body, verdict, turn}
use Rattle.house_model.specs.Histories.{Outcome, Made, Short, Turn, next_by, next, after, IsOpening}
use Rattle.house_model.specs.Sound.{Fits, Back}
use Rattle.house_model.proofs.GateLemmas.{gate_leads}
use Rattle.house_model.proofs.FitLemmas.{IsMatched, all_on_fit, free_all, fits_append, queued_on, departs_on}
use Rattle.house_model.proofs.FitLemmas.{replaces_on, left_fits, closed_fits, leaves_fits, logged_free}
use Rattle.house_model.proofs.BackLemmas.{all_back}
use Rattle.house_model.proofs.TurnLaws.{next_sound, starts_sound}

binds_fits : (has : Bool) (world : World Traffic) (k : Kept) (w c u : ℕ) (a : Address) (id : List ℕ) → IsMatched world
    → (world.lines w).stage ≡ Logged c u
    → Fits world (binds has k w c a id).effects
binds_fits false world k w c u a id m is = (tt, tt)
binds_fits true world k w c u a id m is =
    fits_append world (replaces k (session_at k a)) (Begin w c a ∷ At w (Say _) ∷ [])
    (all_on_fit world (replaces k (session_at k a)) (replaces_on k (session_at k a))) (
      free_all world (replaces k (session_at k a)) w (replaces_on k (session_at k a)) m
          (logged_free (world.lines w).stage c u is),
      (tt, tt),
    )

takes_fits : (new : Option KeptTraffic) (world : World Traffic) (w c u s h : ℕ) (id : ResumeId) (t : KeptTraffic)
    → (world.lines w).stage ≡ Logged c u
    → Fits world (takes new w c s h id t).effects
takes_fits None world w c u s h id t is = (logged_free (world.lines w).stage c u is, tt)
takes_fits (Some x) world w c u s h id t is = (logged_free (world.lines w).stage c u is, (tt, tt))

resumes_by_fits : (known : Bool) (m : Hold) (world : World Traffic) (w c u s h : ℕ) (id : ResumeId) (t : KeptTraffic)
    → (world.lines w).stage ≡ Logged c u
    → Fits world (resumes_by known m w c s h id t).effects
resumes_by_fits true (Held v d) world w c u s h id t is = takes_fits (brief.resume t h) world w c u s h id t is
resumes_by_fits true Away world w c u s h id t is = takes_fits (brief.resume t h) world w c u s h id t is
resumes_by_fits true (Ended cause) world w c u s h id t is = (tt, tt)
resumes_by_fits true Gone world w c u s h id t is = (tt, tt)
resumes_by_fits false m world w c u s h id t is = (tt, tt)

resumes_fits : (id : Option ResumeId) (k : Kept) (world : World Traffic) (w c u h : ℕ)
    → (world.lines w).stage ≡ Logged c u → Fits world (resumes k w c u id h).effects
resumes_fits None k world w c u h is = (tt, tt)
resumes_fits (Some id) k world w c u h is =
    resumes_by_fits (is_known k id u (k.world.sessions id.session)) (k.world.sessions id.session).hold world w c u
    id.session h id (k.world.sessions id.session).traffic is

enables_fits : (counts : Bool) (world : World Traffic) (w s : ℕ) (id : Option ResumeId)
    → Fits world (enables counts w s id).effects
enables_fits true world w s id = (tt, tt)
enables_fits false world w s id = (tt, (tt, tt))

acts_fits : (world : World Traffic) (k : Kept) (s : ℕ) (x : Stanza) → Fits world (acts k s x).effects
acts_fits world k s x = (
  tt,
  all_on_fit (apply whole world (On s (Act x)))
      (map effect_of (cast k.world.rooms (effects k s x)))
      (queued_on (cast k.world.rooms (effects k s x))),
)

acks_fits : (counts : Bool) (world : World Traffic) (s h : ℕ) (t : KeptTraffic) → Fits world (acks counts s h t).effects
acks_fits true world s h t = (tt, tt)
acks_fits false world s h t = tt

asks_fits : (counts : Bool) (world : World Traffic) (w s : ℕ) (t : KeptTraffic) → Fits world (asks counts w s t).effects
asks_fits true world w s t = (tt, (tt, tt))
asks_fits false world w s t = tt

requests_fits : (owed : Bool) (world : World Traffic) (k : Kept) (s : ℕ) → Fits world (requests owed k s).effects
requests_fits true world k s = (tt, tt)
requests_fits false world k s = tt

entry_fits : (e : Option Entry) (world : World Traffic) (k : Kept) (s : ℕ) (x : Session KeptTraffic)
    → Fits world (gives_entry e k s x).effects
entry_fits (Some e) world k s x = (tt, tt)
entry_fits None world k s x = requests_fits (x.counts && nat_lt x.traffic.asked_at (kept_sent x.traffic)) world k s

pulls_fits : (answers : List Answer) (world : World Traffic) (k : Kept) (w c s : ℕ)
    → Fits world (pulls k w answers (Holds c s)).effects
pulls_fits [] world k w c s =
    entry_fits (slice_get (k.world.sessions s).traffic.waiting (k.world.sessions s).traffic.given) world k s
    (k.world.sessions s)
pulls_fits (a ∷ more) world k w c s = (tt, tt)

waits_fits : (answers : List Answer) (world : World Traffic) (k : Kept) (w : ℕ)
    → Fits world (pulls k w answers Waits).effects
waits_fits [] world k w = tt
waits_fits (a ∷ more) world k w = (tt, tt)

knows_fits : (answers : List Answer) (world : World Traffic) (k : Kept) (w c u : ℕ)
    → Fits world (pulls k w answers (Knows c u)).effects
knows_fits [] world k w c u = tt
knows_fits (a ∷ more) world k w c u = (tt, tt)

logs_in_fits : (place : Option ℕ) (world : World Traffic) (w : ℕ) → Fits world (logs_in w place).effects
logs_in_fits (Some place) world w = (tt, tt)
logs_in_fits None world w = tt

sweeps_fits : (k : World KeptTraffic) (s : Option ℕ) (world : World Traffic) → Fits world (sweeps k s).effects
sweeps_fits k None world = tt
sweeps_fits k (Some s) world = all_on_fit world (departs k s Lost) (departs_on k s Lost)

-- the events that the gate checks
gate_fits : (k : Kept) (world : World Traffic) (e : Event) (n : Needs) (w : ℕ) → IsMatched world
    → Fits world (body k e Waits).effects
    → ((c u : ℕ) → (world.lines w).stage ≡ Logged c u → Fits world (body k e (Knows c u)).effects)
    → ((c s : ℕ) → Fits world (body k e (Holds c s)).effects)
    → Fits world (body k e (gate_at n k w (world.lines w) (world.lines w).stage)).effects
gate_fits k world e n w m waits knows holds =
    gate_leads (λ v. Fits world v.effects) k e n w (world.lines w) (world.lines w).stage
    (λ r. tt)
    (λ c. left_fits world k w (world.lines w).stage (At w (Close c (Flood most_answers))) m refl (λ to free. free))
    (λ c is. waits)
    knows
    (λ c s is. holds c s)

pub event_fits : (st : State) (e : Event) → IsMatched st.world → Fits st.world (verdict (keep (turn e st)) e).effects
event_fits st (event.OpenLine w) m =
    left_fits st.world (keep (turn (event.OpenLine w) st)) w (st.world.lines w).stage (Open w) m refl (λ to free. free)
event_fits st (event.DropLine w t) m =
    leaves_fits st.world w (st.world.lines w).stage (left (keep (turn (event.DropLine w t) st)) (st.world.lines w).stage)
    (left_fits st.world (keep (turn (event.DropLine w t) st)) w (st.world.lines w).stage (At w Leave) m refl
    (λ to free. free))
event_fits st (event.CloseLine w t) m =
    leaves_fits st.world w (st.world.lines w).stage (closed (st.world.lines w).stage)
    (closed_fits st.world w (st.world.lines w).stage (At w Leave) m refl (λ to free. free))
event_fits st (event.Sweep w t) m = sweeps_fits (keep_world st.world) (due (keep (turn (event.Sweep w t) st))) st.world
event_fits st (event.Login w user) m =
    gate_fits (keep (turn (event.Login w user) st)) st.world (event.Login w user) to_login w m
    (logs_in_fits _ st.world w) (λ c u is. tt) (λ c s. tt)
event_fits st (event.Bind w id resource t dice) m =
    gate_fits (keep (turn (event.Bind w id resource t dice) st)) st.world (event.Bind w id resource t dice) to_bind w m
    tt (λ c u is. binds_fits _ st.world (keep (turn (event.Bind w id resource t dice) st)) w c u _ id m is) (λ c s. tt)
event_fits st (event.Enable w wants dice) m =
    gate_fits (keep (turn (event.Enable w wants dice) st)) st.world (event.Enable w wants dice) to_manage w m
    tt (λ c u is. (tt, tt)) (λ c s. enables_fits _ st.world w s _)
event_fits st (event.Resume w id h t) m =
    gate_fits (keep (turn (event.Resume w id h t) st)) st.world (event.Resume w id h t) to_manage w m
    tt (λ c u is. resumes_fits id (keep (turn (event.Resume w id h t) st)) st.world w c u h is) (λ c s. (tt, tt))
event_fits st (event.Act w stanza t) m =
    gate_fits (keep (turn (event.Act w stanza t) st)) st.world (event.Act w stanza t) to_act w m
    tt (λ c u is. tt) (λ c s. acts_fits st.world (keep (turn (event.Act w stanza t) st)) s stanza)
event_fits st (event.Ack w h) m =
    gate_fits (keep (turn (event.Ack w h) st)) st.world (event.Ack w h) to_act w m
    tt (λ c u is. tt) (λ c s. acks_fits _ st.world s h _)
event_fits st (event.Ask w) m =
    gate_fits (keep (turn (event.Ask w) st)) st.world (event.Ask w) to_ask w m
    tt (λ c u is. tt) (λ c s. asks_fits _ st.world w s _)
event_fits st (event.Pull w t) m =
    gate_fits (keep (turn (event.Pull w t) st)) st.world (event.Pull w t) to_pull w m
    (waits_fits (st.world.lines w).answers st.world (keep (turn (event.Pull w t) st)) w)
    (λ c u is. knows_fits (st.world.lines w).answers st.world (keep (turn (event.Pull w t) st)) w c u)
    (λ c s. pulls_fits (st.world.lines w).answers st.world (keep (turn (event.Pull w t) st)) w c s)

pub next_back : (st : State) (e : Event) (o : Outcome) → IsMatched st.world → Back (next_by st e o).world
next_back st e (Made reply text) m = all_back st.world (verdict (keep (turn e st)) e).effects (event_fits st e m) m.back
next_back st e Short m = m.back

after_matched : (st : State) (h : List Turn) → IsMatched st.world → IsMatched (after st h).world
after_matched st [] m = m
after_matched st (x ∷ more) m =
    after_matched (next st x) more (record { sound = next_sound st x m.sound; back = next_back st x.event x.outcome m })

pub opening_back : (limits : Limits) (domain : Address) (users : List (List ℕ)) (workers : ℕ) → Back (opening_with limits domain users workers).world
opening_back limits domain users workers s w c bad = cc

pub starts_back : (o : State) → IsOpening o → Back o.world
starts_back o starts = subst (λ (st : State). Back st.world) (sym starts.4) (opening_back starts.0 starts.1 starts.2 starts.3)

pub always_matched : (o : State) (h : List Turn) → IsOpening o → IsMatched (after o h).world
always_matched o h starts = after_matched o h (record { sound = starts_sound o starts; back = starts_back o starts })

pub always_back : (o : State) (h : List Turn) → IsOpening o → Back (after o h).world
always_back o h starts = (always_matched o h starts).back

pub always_fits : (o : State) (h : List Turn) (e : Event) → IsOpening o
    → Fits (after o h).world (verdict (keep (turn e (after o h))) e).effects
always_fits o h e starts = event_fits (after o h) e (always_matched o h starts)

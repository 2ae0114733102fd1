-- A session that takes entries is a user's: its address has the user's name.
use Rattle.std.proofs.Common.{◌≡◌, ℕ, ◌+◌, List, [], ◌∷◌, ◌++◌, Some, Bool, true, false, refl, sym, subst, true≢false}
use Rattle.std.specs.Prelude.{⊤}
use Rattle.std.specs.List.{AllByRecursion}
use Rattle.jid_core.specs.Addresses.{Address, address_text}
use Rattle.sm_resume.specs.declared.decision.Cause.TheVariants.{Flood}
use Rattle.house_model.specs.declared.answer.Answer.TheVariants as answer
use Rattle.house_model.specs.declared.event.Event.{Event}
use Rattle.house_model.specs.declared.event.Event.TheVariants as event
use Rattle.house_model.specs.Sessions.{Session, begun, session_step}
use Rattle.house_model.specs.Traffic.{Traffic, whole}
use Rattle.house_model.specs.States.{World, State, Kept, keep}
use Rattle.house_model.specs.Effects.{Effect, Open, At, Begin, On, Note, Hosts, Files, Say, Close, apply, apply_all}
use Rattle.house_model.specs.Gate.{most_answers, to_bind, left}
use Rattle.house_model.specs.Lookups.{session_at}
use Rattle.house_model.specs.Steps.{replaces, binds, has_place, bound_address, resource_or, verdict, turn}
use Rattle.house_model.specs.Histories.{Outcome, Made, Short, Turn, next, next_by, after, IsOpening}
use Rattle.house_model.specs.Stays.{takes_entries}
use Rattle.house_model.proofs.Ears.{Ear, AllPlain, plain_append}
use Rattle.house_model.proofs.Founds.{append_all}
use Rattle.house_model.proofs.GateLemmas.{gate_leads}
use Rattle.house_model.proofs.QueueSteps.{session_tells}
use Rattle.house_model.proofs.Quiet.{is_deaf, left_plain, replaces_plain, verdict_plain}
use Rattle.house_model.proofs.StayLemmas.{put_both}

abbrev pub IsUsers : (domain : List ℕ) → Address → Type 0
IsUsers d a = (user : List ℕ) × (resource : List ℕ) × (a ≡ record { local = Some user; domain = d; resource = Some resource })

abbrev pub TakesAsUser : (domain : List ℕ) → Session Traffic → Type 0
TakesAsUser d x = takes_entries x ≡ true → IsUsers d x.rest.address

abbrev pub AreUsers : (domain : List ℕ) → World Traffic → Type 0
AreUsers d world = (s : ℕ) → TakesAsUser d (world.sessions s)

-- effects: a session that is made has a user's address

abbrev BeginsUsers : (domain : List ℕ) → Effect → Type 0
BeginsUsers d (Begin w c a) = IsUsers d a
BeginsUsers d e = ⊤

one_users : (d : List ℕ) (world : World Traffic) (e : Effect) → BeginsUsers d e → AreUsers d world → AreUsers d (apply whole world e)
one_users d world (Open w) begins all = all
one_users d world (At w op) begins all = all
one_users d world (Note change) begins all = all
one_users d world (Hosts x) begins all = all
one_users d world (Files filing) begins all = all
one_users d world (Begin w c a) begins all =
    put_both (λ j (y : Session Traffic). TakesAsUser d y) (world.made + 1) (begun whole w c a) world.sessions (λ is. begins) (λ j other. all j)
one_users d world (On s op) begins all =
    put_both (λ j (y : Session Traffic). TakesAsUser d y) s (session_step whole (world.sessions s) op) world.sessions
    (λ is. subst (IsUsers d) (sym (session_tells (world.sessions s) op).address) (all s ((session_tells (world.sessions s) op).stops is)))
    (λ j other. all j)

all_users : (d : List ℕ) (es : List Effect) (world : World Traffic) → AllByRecursion (BeginsUsers d) es → AreUsers d world
    → AreUsers d (apply_all whole world es)
all_users d [] world begins all = all
all_users d (e ∷ es) world begins all = all_users d es (apply whole world e) begins.1 (one_users d world e begins.0 all)

-- turns

abbrev begin_ear : Ear
begin_ear = record { pull = false; act = false; ask = false; ack = false; enable = false; begin = true; resume = false; part = false }

plain_begins : (d : List ℕ) (es : List Effect) → AllPlain begin_ear es → AllByRecursion (BeginsUsers d) es
plain_begins d [] plain = tt
plain_begins d (Begin w c a ∷ es) plain = absurd (true≢false (sym plain.0))
plain_begins d (Open w ∷ es) plain = (tt, plain_begins d es plain.1)
plain_begins d (At w op ∷ es) plain = (tt, plain_begins d es plain.1)
plain_begins d (Note change ∷ es) plain = (tt, plain_begins d es plain.1)
plain_begins d (Hosts x ∷ es) plain = (tt, plain_begins d es plain.1)
plain_begins d (Files filing ∷ es) plain = (tt, plain_begins d es plain.1)
plain_begins d (On s op ∷ es) plain = (tt, plain_begins d es plain.1)

binds_begins : (d : List ℕ) (has : Bool) (k : Kept) (w c : ℕ) (a : Address) (id : List ℕ) → IsUsers d a
    → AllByRecursion (BeginsUsers d) (binds has k w c a id).effects
binds_begins d false k w c a id users = (tt, tt)
binds_begins d true k w c a id users =
    append_all (BeginsUsers d) (replaces k (session_at k a)) (Begin w c a ∷ At w (Say (answer.Bound id (address_text a))) ∷ [])
    (plain_begins d (replaces k (session_at k a)) (replaces_plain begin_ear k (session_at k a) refl)) (users, (tt, tt))

deaf_begins : (st : State) (e : Event) → is_deaf begin_ear e ≡ true → AllByRecursion (BeginsUsers st.head.domain.domain) (verdict (keep (turn e st)) e).effects
deaf_begins st e deaf = plain_begins st.head.domain.domain (verdict (keep (turn e st)) e).effects (verdict_plain begin_ear (keep (turn e st)) e deaf)

verdict_begins : (st : State) (e : Event) → AllByRecursion (BeginsUsers st.head.domain.domain) (verdict (keep (turn e st)) e).effects
verdict_begins st (event.Bind w id resource t dice) =
    let e : Event = event.Bind w id resource t dice in
    let k : Kept = keep (turn e st) in
    gate_leads (λ v. AllByRecursion (BeginsUsers st.head.domain.domain) v.effects) k e to_bind w (k.world.lines w) (k.world.lines w).stage
    (λ r. tt)
    (λ c. plain_begins st.head.domain.domain (left k (k.world.lines w).stage ++ At w (Close c (Flood most_answers)) ∷ [])
    (plain_append begin_ear (left k (k.world.lines w).stage) (At w (Close c (Flood most_answers)) ∷ [])
    (left_plain begin_ear k (k.world.lines w).stage) (tt, tt)))
    (λ c is. tt)
    (λ c u is. binds_begins st.head.domain.domain (has_place k (bound_address k u (resource_or dice resource))) k w c
    (bound_address k u (resource_or dice resource)) id (_, _, refl))
    (λ c s is. tt)
verdict_begins st e = deaf_begins st e refl

next_users : (st : State) (e : Event) (o : Outcome) → AreUsers st.head.domain.domain st.world
    → AreUsers (next_by st e o).head.domain.domain (next_by st e o).world
next_users st e (Made reply text) all = all_users st.head.domain.domain (verdict (keep (turn e st)) e).effects st.world (verdict_begins st e) all
next_users st e Short all = all

then_users : (st : State) (h : List Turn) → AreUsers st.head.domain.domain st.world → AreUsers (after st h).head.domain.domain (after st h).world
then_users st [] all = all
then_users st (x ∷ more) all = then_users (next st x) more (next_users st x.event x.outcome all)

pub users_after : (o : State) (h : List Turn) → IsOpening o → AreUsers (after o h).head.domain.domain (after o h).world
users_after o h starts =
    then_users o h (subst (λ (st : State). AreUsers st.head.domain.domain st.world) (sym starts.4) (λ s (is : false ≡ true). absurd (true≢false (sym is))))

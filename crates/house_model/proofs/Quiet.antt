-- Which events are heard of a session: the effects of all others tell nothing.
use Rattle.std.proofs.Common.{◌≡◌, ℕ, ◌+◌, List, [], ◌∷◌, Option, Some, None, Bool, true, false, refl, not}
use Rattle.std.specs.Prelude.{map, nat_lt, slice_get, ◌&&◌}
use Rattle.jid_core.specs.Addresses.{Address}
use Rattle.stanza_tree.specs.declared.frame.Entry.{Entry}
use Rattle.stanza_model.specs.declared.effect.Effect as stanza
use Rattle.stanza_model.specs.declared.effect.Effect.TheVariants.{Queue, Set}
use Rattle.stanza_model.specs.declared.effect.Effect.TheVariants as effect
use Rattle.stanza_model.specs.declared.effect.Change.TheVariants as change
use Rattle.stanza_model.specs.declared.stanza.Stanza.{Stanza}
use Rattle.sm_resume.specs.declared.decision.Cause.{Cause}
use Rattle.sm_resume.specs.declared.decision.Cause.TheVariants.{Flood, Lost, Replaced}
use Rattle.sm_resume.specs.declared.id.ResumeId.{ResumeId}
use Rattle.session_table.specs.declared.line.Line as stage
use Rattle.session_table.specs.declared.line.Line.TheVariants.{Empty, Fresh, Logged, Bound, Over}
use Rattle.muc_service.specs.Casting.{cast}
use Rattle.house_model.specs.declared.answer.Answer.{Answer}
use Rattle.house_model.specs.declared.event.Event.{Event}
use Rattle.house_model.specs.declared.event.Event.TheVariants as event
use Rattle.house_model.specs.Sessions.{Hold, Held, Away, Ended, Gone, Session, Part}
use Rattle.house_model.specs.Traffic.{KeptTraffic, brief, kept_sent}
use Rattle.house_model.specs.States.{Kept, World}
use Rattle.house_model.specs.Effects.{Effect, Open, At, Begin, Say, Close, On}
use Rattle.house_model.specs.Gate.{Waits, Knows, Holds, Needs, to_login, to_bind, to_manage, to_act, to_ask}
use Rattle.house_model.specs.Gate.{to_pull, most_answers, left_by, left, closed, gate_at}
use Rattle.house_model.specs.Lookups.{session_at}
use Rattle.house_model.specs.Routing.{departure, effects}
use Rattle.house_model.specs.Steps.{logs_in, replaces, binds, enables, takes, resumes_by, is_known, resumes, effect_of, acts, acks}
use Rattle.house_model.specs.Steps.{asks, requests, gives_entry, pulls, leaves, sweeps, departs, due, body, verdict}
use Rattle.house_model.proofs.Resumes.{and_left, and_right}
use Rattle.house_model.proofs.Ears.{Ear, AllPlain, plain, plain_append}
use Rattle.house_model.proofs.GateLemmas.{gate_leads}

-- the effects of each event
left_by_plain : (r : Ear) (id : Option ResumeId) (t : ℕ) → plain r (left_by id t) ≡ true
left_by_plain r None t = refl
left_by_plain r (Some id) t = refl

pub left_plain : (r : Ear) (k : Kept) (g : stage.Line) → AllPlain r (left k g)
left_plain r k Empty = tt
left_plain r k (Fresh c) = tt
left_plain r k (Logged c u) = tt
left_plain r k (Bound c s) = (left_by_plain r (k.world.sessions s).rest.resume_id k.head.moment, tt)
left_plain r k (Over c cause) = tt

closed_plain : (r : Ear) (g : stage.Line) → AllPlain r (closed g)
closed_plain r Empty = tt
closed_plain r (Fresh c) = tt
closed_plain r (Logged c u) = tt
closed_plain r (Bound c s) = (refl, tt)
closed_plain r (Over c cause) = tt

leaves_plain : (r : Ear) (g : stage.Line) (w : ℕ) (es : List Effect) → AllPlain r es
    → AllPlain r (leaves g w es).effects
leaves_plain r Empty w es p = tt
leaves_plain r (Fresh c) w es p = plain_append r es _ p (tt, tt)
leaves_plain r (Logged c u) w es p = plain_append r es _ p (tt, tt)
leaves_plain r (Bound c s) w es p = plain_append r es _ p (tt, tt)
leaves_plain r (Over c cause) w es p = plain_append r es _ p (tt, tt)

pub queued_plain : (r : Ear) (es : List stanza.Effect) → AllPlain r (map effect_of es)
queued_plain r [] = tt
queued_plain r (Queue s to rest origin ∷ more) = (refl, queued_plain r more)
queued_plain r (Set (change.WantsRoster s) ∷ more) = (refl, queued_plain r more)
queued_plain r (Set (change.Pushed s pushes) ∷ more) = (refl, queued_plain r more)
queued_plain r (Set (change.Contact user address name groups) ∷ more) = (tt, queued_plain r more)
queued_plain r (Set (change.NoContact user address) ∷ more) = (tt, queued_plain r more)
queued_plain r (Set (change.Sees a b now) ∷ more) = (tt, queued_plain r more)
queued_plain r (Set (change.Asked a b now) ∷ more) = (tt, queued_plain r more)
queued_plain r (Set (change.Available s stanza priority) ∷ more) = (refl, queued_plain r more)
queued_plain r (Set (change.Unavailable s) ∷ more) = (refl, queued_plain r more)
queued_plain r (Set (change.Directed s addresses) ∷ more) = (refl, queued_plain r more)
queued_plain r (effect.Broadcast n item ∷ more) = (tt, queued_plain r more)
queued_plain r (effect.Enter n s address nick role ∷ more) = (tt, queued_plain r more)
queued_plain r (effect.Leave n s ∷ more) = (tt, queued_plain r more)
queued_plain r (effect.Keep user peer text moment ∷ more) = (tt, queued_plain r more)
queued_plain r (Set (change.RoomMade n address owner) ∷ more) = (tt, queued_plain r more)
queued_plain r (Set (change.RoomGone n) ∷ more) = (tt, queued_plain r more)
queued_plain r (Set (change.Unlocked n) ∷ more) = (tt, queued_plain r more)
queued_plain r (Set (change.Configured n config) ∷ more) = (tt, queued_plain r more)
queued_plain r (Set (change.Affiliated n address a) ∷ more) = (tt, queued_plain r more)
queued_plain r (Set (change.RoleSet n s role) ∷ more) = (tt, queued_plain r more)
queued_plain r (Set (change.Renamed n s nick) ∷ more) = (tt, queued_plain r more)
queued_plain r (Set (change.OccupantShown n s presence) ∷ more) = (tt, queued_plain r more)
queued_plain r (Set (change.Subject n text stamp) ∷ more) = (tt, queued_plain r more)
queued_plain r (Set (change.RoomRow n peer text moment) ∷ more) = (tt, queued_plain r more)

departs_plain : (r : Ear) (k : World KeptTraffic) (s : ℕ) (cause : Cause) → not r.part ≡ true → AllPlain r (departs k s cause)
departs_plain r k s cause is =
    (refl, plain_append r (map effect_of (cast k.rooms (departure k s))) (On s Part ∷ []) (queued_plain r (cast k.rooms (departure k s))) (is, tt))

pub replaces_plain : (r : Ear) (k : Kept) (o : Option ℕ) → not r.part ≡ true → AllPlain r (replaces k o)
replaces_plain r k None is = tt
replaces_plain r k (Some s) is = departs_plain r k.world s (Replaced (k.world.made + 1)) is

binds_plain : (r : Ear) (has : Bool) (k : Kept) (w c : ℕ) (a : Address) (id : List ℕ) → not r.begin ≡ true → not r.part ≡ true
    → AllPlain r (binds has k w c a id).effects
binds_plain r false k w c a id join part = (tt, tt)
binds_plain r true k w c a id join part =
    plain_append r (replaces k (session_at k a)) (Begin w c a ∷ At w (Say _) ∷ [])
    (replaces_plain r k (session_at k a) part) (join, (tt, tt))

enables_plain : (r : Ear) (counts : Bool) (w s : ℕ) (id : Option ResumeId) → not r.enable ≡ true
    → AllPlain r (enables counts w s id).effects
enables_plain r true w s id is = (tt, tt)
enables_plain r false w s id is = (is, (tt, tt))

takes_plain : (r : Ear) (o : Option KeptTraffic) (w c s h : ℕ) (id : ResumeId) (t : KeptTraffic) → not r.resume ≡ true
    → AllPlain r (takes o w c s h id t).effects
takes_plain r None w c s h id t is = (tt, tt)
takes_plain r (Some u) w c s h id t is = (is, (tt, tt))

resumes_by_plain : (r : Ear) (known : Bool) (m : Hold) (w c s h : ℕ) (id : ResumeId) (t : KeptTraffic)
    → not r.resume ≡ true → AllPlain r (resumes_by known m w c s h id t).effects
resumes_by_plain r true (Held v d) w c s h id t is = takes_plain r (brief.resume t h) w c s h id t is
resumes_by_plain r true Away w c s h id t is = takes_plain r (brief.resume t h) w c s h id t is
resumes_by_plain r true (Ended cause) w c s h id t is = (tt, tt)
resumes_by_plain r true Gone w c s h id t is = (tt, tt)
resumes_by_plain r false m w c s h id t is = (tt, tt)

resumes_plain : (r : Ear) (id : Option ResumeId) (k : Kept) (w c u h : ℕ) → not r.resume ≡ true
    → AllPlain r (resumes k w c u id h).effects
resumes_plain r None k w c u h is = (tt, tt)
resumes_plain r (Some id) k w c u h is =
    resumes_by_plain r (is_known k id u (k.world.sessions id.session)) (k.world.sessions id.session).hold w c id.session
    h id (k.world.sessions id.session).traffic is

acts_plain : (r : Ear) (k : Kept) (s : ℕ) (x : Stanza) → not r.act ≡ true → AllPlain r (acts k s x).effects
acts_plain r k s x is =
    (is, queued_plain r (cast k.world.rooms (effects k s x)))

acks_plain : (r : Ear) (counts : Bool) (s h : ℕ) (t : KeptTraffic) → not r.ack ≡ true
    → AllPlain r (acks counts s h t).effects
acks_plain r true s h t is = (is, tt)
acks_plain r false s h t is = tt

asks_plain : (r : Ear) (counts : Bool) (w s : ℕ) (t : KeptTraffic) → not r.ask ≡ true
    → AllPlain r (asks counts w s t).effects
asks_plain r true w s t is = (is, (tt, tt))
asks_plain r false w s t is = tt

requests_plain : (r : Ear) (owed : Bool) (k : Kept) (s : ℕ) → AllPlain r (requests owed k s).effects
requests_plain r true k s = (refl, tt)
requests_plain r false k s = tt

entry_plain : (r : Ear) (e : Option Entry) (k : Kept) (s : ℕ) (x : Session KeptTraffic) → not r.pull ≡ true
    → AllPlain r (gives_entry e k s x).effects
entry_plain r (Some e) k s x is = (is, tt)
entry_plain r None k s x is = requests_plain r (x.counts && nat_lt x.traffic.asked_at (kept_sent x.traffic)) k s

pulls_plain : (r : Ear) (answers : List Answer) (k : Kept) (w c s : ℕ) → not r.pull ≡ true
    → AllPlain r (pulls k w answers (Holds c s)).effects
pulls_plain r [] k w c s is =
    entry_plain r (slice_get (k.world.sessions s).traffic.waiting (k.world.sessions s).traffic.given) k s
    (k.world.sessions s) is
pulls_plain r (a ∷ more) k w c s is = (tt, tt)

waits_plain : (r : Ear) (answers : List Answer) (k : Kept) (w : ℕ) → AllPlain r (pulls k w answers Waits).effects
waits_plain r [] k w = tt
waits_plain r (a ∷ more) k w = (tt, tt)

knows_plain : (r : Ear) (answers : List Answer) (k : Kept) (w c u : ℕ)
    → AllPlain r (pulls k w answers (Knows c u)).effects
knows_plain r [] k w c u = tt
knows_plain r (a ∷ more) k w c u = (tt, tt)

logs_in_plain : (r : Ear) (place : Option ℕ) (w : ℕ) → AllPlain r (logs_in w place).effects
logs_in_plain r None w = tt
logs_in_plain r (Some place) w = (tt, tt)

sweeps_plain : (r : Ear) (k : World KeptTraffic) (s : Option ℕ) → not r.part ≡ true → AllPlain r (sweeps k s).effects
sweeps_plain r k None is = tt
sweeps_plain r k (Some s) is = departs_plain r k s Lost is

pub gate_plain : (r : Ear) (k : Kept) (e : Event) (n : Needs) (w : ℕ) → AllPlain r (body k e Waits).effects
    → ((c u : ℕ) → AllPlain r (body k e (Knows c u)).effects)
    → ((c s : ℕ) → AllPlain r (body k e (Holds c s)).effects)
    → AllPlain r (body k e (gate_at n k w (k.world.lines w) (k.world.lines w).stage)).effects
gate_plain r k e n w waits knows holds =
    gate_leads (λ v. AllPlain r v.effects) k e n w (k.world.lines w) (k.world.lines w).stage
    (λ x. tt)
    (λ c. plain_append r (left k (k.world.lines w).stage) (At w (Close c (Flood most_answers)) ∷ [])
    (left_plain r k (k.world.lines w).stage) (tt, tt))
    (λ c is. waits) (λ c u is. knows c u) (λ c s is. holds c s)

-- whether nothing of an event is heard
abbrev pub is_deaf : Ear → Event → Bool
is_deaf r (event.Bind w id resource t dice) = not r.begin && not r.part
is_deaf r (event.Enable w wants dice) = not r.enable
is_deaf r (event.Resume w id h t) = not r.resume
is_deaf r (event.Act w x t) = not r.act
is_deaf r (event.Ack w h) = not r.ack
is_deaf r (event.Ask w) = not r.ask
is_deaf r (event.Pull w t) = not r.pull
is_deaf r (event.Sweep w t) = not r.part
is_deaf r e = true

pub verdict_plain : (r : Ear) (k : Kept) (e : Event) → is_deaf r e ≡ true → AllPlain r (verdict k e).effects
verdict_plain r k (event.OpenLine w) is =
    plain_append r (left k (k.world.lines w).stage) (Open w ∷ []) (left_plain r k (k.world.lines w).stage) (tt, tt)
verdict_plain r k (event.DropLine w t) is =
    leaves_plain r (k.world.lines w).stage w (left k (k.world.lines w).stage) (left_plain r k (k.world.lines w).stage)
verdict_plain r k (event.CloseLine w t) is =
    leaves_plain r (k.world.lines w).stage w (closed (k.world.lines w).stage) (closed_plain r (k.world.lines w).stage)
verdict_plain r k (event.Sweep w t) is = sweeps_plain r k.world (due k) is
verdict_plain r k (event.Login w user) is =
    gate_plain r k (event.Login w user) to_login w (logs_in_plain r _ w) (λ c u. tt) (λ c s. tt)
verdict_plain r k (event.Bind w id resource t dice) is =
    gate_plain r k (event.Bind w id resource t dice) to_bind w tt
    (λ c u. binds_plain r _ k w c _ id (and_left (not r.begin) (not r.part) is) (and_right (not r.begin) (not r.part) is)) (λ c s. tt)
verdict_plain r k (event.Enable w wants dice) is =
    gate_plain r k (event.Enable w wants dice) to_manage w tt
    (λ c u. (tt, tt)) (λ c s. enables_plain r (k.world.sessions s).counts w s _ is)
verdict_plain r k (event.Resume w id h t) is =
    gate_plain r k (event.Resume w id h t) to_manage w tt
    (λ c u. resumes_plain r id k w c u h is) (λ c s. (tt, tt))
verdict_plain r k (event.Act w x t) is =
    gate_plain r k (event.Act w x t) to_act w tt (λ c u. tt) (λ c s. acts_plain r k s x is)
verdict_plain r k (event.Ack w h) is =
    gate_plain r k (event.Ack w h) to_act w tt (λ c u. tt)
    (λ c s. acks_plain r (k.world.sessions s).counts s h (k.world.sessions s).traffic is)
verdict_plain r k (event.Ask w) is =
    gate_plain r k (event.Ask w) to_ask w tt (λ c u. tt)
    (λ c s. asks_plain r (k.world.sessions s).counts w s (k.world.sessions s).traffic is)
verdict_plain r k (event.Pull w t) is =
    gate_plain r k (event.Pull w t) to_pull w (waits_plain r (k.world.lines w).answers k w)
    (λ c u. knows_plain r (k.world.lines w).answers k w c u)
    (λ c s. pulls_plain r (k.world.lines w).answers k w c s is)

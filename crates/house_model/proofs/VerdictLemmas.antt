-- Which verdicts open a connection, and which give a text.
use Rattle.std.proofs.Common.{◌≡◌, ℕ, ◌+◌, List, [], ◌∷◌, ◌++◌, Option, Some, None, Bool, true, false, refl, arith}
use Rattle.std.specs.Prelude.{map, nat_lt, slice_get, ◌&&◌, ⊤}
use Rattle.jid_core.specs.Addresses.{Address}
use Rattle.stanza_tree.specs.declared.frame.Entry.{Entry}
use Rattle.stanza_model.specs.declared.effect.Effect as stanza
use Rattle.stanza_model.specs.declared.effect.Effect.TheVariants.{Queue, Set}
use Rattle.stanza_model.specs.declared.effect.Effect.TheVariants as effect
use Rattle.stanza_model.specs.declared.effect.Change.TheVariants as change
use Rattle.stanza_model.specs.declared.stanza.Stanza.{Stanza}
use Rattle.sm_resume.specs.declared.decision.Cause.TheVariants.{Flood, Replaced}
use Rattle.sm_resume.specs.declared.id.ResumeId.{ResumeId}
use Rattle.session_table.specs.declared.line.Line as stage
use Rattle.session_table.specs.declared.line.Line.TheVariants.{Empty, Fresh, Logged, Bound, Over}
use Rattle.muc_service.specs.Casting.{cast}
use Rattle.house_model.specs.declared.answer.Answer.{Answer}
use Rattle.house_model.specs.declared.event.Event.{Event}
use Rattle.house_model.specs.declared.event.Event.TheVariants as event
use Rattle.house_model.specs.Sessions.{Hold, Held, Away, Ended, Gone, Session, End, Part}
use Rattle.house_model.specs.Traffic.{KeptTraffic, brief, kept_sent}
use Rattle.house_model.specs.States.{Kept, World}
use Rattle.house_model.specs.Effects.{Effect, Open, At, Begin, Say, Leave, Close, On}
use Rattle.house_model.specs.Gate.{Verdict, Waits, Knows, Holds, Needs, to_login, to_bind, to_manage, to_act}
use Rattle.house_model.specs.Gate.{to_ask, to_pull, most_answers, left, closed, gate_at}
use Rattle.house_model.specs.Lookups.{session_at}
use Rattle.house_model.specs.Routing.{departure, effects}
use Rattle.house_model.specs.Steps.{logs_in, replaces, binds, enables, takes, resumes_by, is_known, resumes, effect_of, acts, acks}
use Rattle.house_model.specs.Steps.{asks, requests, gives_entry, pulls, leaves, sweeps, due, body, verdict}
use Rattle.house_model.specs.Histories.{opened_by}
use Rattle.house_model.proofs.GateLemmas.{gate_leads}

abbrev pub opens_one : Effect → ℕ
opens_one (Open w) = 1
opens_one e = 0

abbrev pub opens_in : List Effect → ℕ
opens_in [] = 0
opens_in (e ∷ more) = opens_one e + opens_in more

left_opens : (k : Kept) (g : stage.Line) (e : Effect) → opens_in (left k g ++ e ∷ []) ≡ opens_one e
left_opens k Empty e = omega arith
left_opens k (Fresh c) e = omega arith
left_opens k (Logged c u) e = omega arith
left_opens k (Bound c s) e = omega arith
left_opens k (Over c cause) e = omega arith

closed_opens : (g : stage.Line) (e : Effect) → opens_in (closed g ++ e ∷ []) ≡ opens_one e
closed_opens Empty e = omega arith
closed_opens (Fresh c) e = omega arith
closed_opens (Logged c u) e = omega arith
closed_opens (Bound c s) e = omega arith
closed_opens (Over c cause) e = omega arith

-- a verdict that opens no connection and gives no text
pub record IsSilent (v : Verdict) : Type 0 where
  pub opened : opens_in v.effects ≡ 0
  pub text : v.text ≡ []

leaves_silent : (g : stage.Line) (w : ℕ) (es : List Effect) → opens_in (es ++ At w Leave ∷ []) ≡ 0
    → IsSilent (leaves g w es)
leaves_silent Empty w es none = record { opened = refl; text = refl }
leaves_silent (Fresh c) w es none = record { opened = none; text = refl }
leaves_silent (Logged c u) w es none = record { opened = none; text = refl }
leaves_silent (Bound c s) w es none = record { opened = none; text = refl }
leaves_silent (Over c cause) w es none = record { opened = none; text = refl }

logs_in_silent : (place : Option ℕ) (w : ℕ) → IsSilent (logs_in w place)
logs_in_silent (Some place) w = record { opened = refl; text = refl }
logs_in_silent None w = record { opened = refl; text = refl }

queued_opens : (es : List stanza.Effect) → opens_in (map effect_of es) ≡ 0
queued_opens [] = refl
queued_opens (Queue s to rest origin ∷ more) = omega (arith, queued_opens more)
queued_opens (Set (change.WantsRoster s) ∷ more) = omega (arith, queued_opens more)
queued_opens (Set (change.Pushed s pushes) ∷ more) = omega (arith, queued_opens more)
queued_opens (Set (change.Contact user address name groups) ∷ more) = omega (arith, queued_opens more)
queued_opens (Set (change.NoContact user address) ∷ more) = omega (arith, queued_opens more)
queued_opens (Set (change.Sees a b now) ∷ more) = omega (arith, queued_opens more)
queued_opens (Set (change.Asked a b now) ∷ more) = omega (arith, queued_opens more)
queued_opens (Set (change.Available s stanza priority) ∷ more) = omega (arith, queued_opens more)
queued_opens (Set (change.Unavailable s) ∷ more) = omega (arith, queued_opens more)
queued_opens (Set (change.Directed s addresses) ∷ more) = omega (arith, queued_opens more)
queued_opens (effect.Broadcast n item ∷ more) = omega (arith, queued_opens more)
queued_opens (effect.Enter n s address nick role ∷ more) = omega (arith, queued_opens more)
queued_opens (effect.Leave n s ∷ more) = omega (arith, queued_opens more)
queued_opens (effect.Keep user peer text moment ∷ more) = omega (arith, queued_opens more)
queued_opens (Set (change.RoomMade n address owner) ∷ more) = omega (arith, queued_opens more)
queued_opens (Set (change.RoomGone n) ∷ more) = omega (arith, queued_opens more)
queued_opens (Set (change.Unlocked n) ∷ more) = omega (arith, queued_opens more)
queued_opens (Set (change.Configured n config) ∷ more) = omega (arith, queued_opens more)
queued_opens (Set (change.Affiliated n address a) ∷ more) = omega (arith, queued_opens more)
queued_opens (Set (change.RoleSet n s role) ∷ more) = omega (arith, queued_opens more)
queued_opens (Set (change.Renamed n s nick) ∷ more) = omega (arith, queued_opens more)
queued_opens (Set (change.OccupantShown n s presence) ∷ more) = omega (arith, queued_opens more)
queued_opens (Set (change.Subject n text stamp) ∷ more) = omega (arith, queued_opens more)
queued_opens (Set (change.RoomRow n peer text moment) ∷ more) = omega (arith, queued_opens more)

opens_append : (xs ys : List Effect) → opens_in (xs ++ ys) ≡ opens_in xs + opens_in ys
opens_append [] ys = omega arith
opens_append (x ∷ xs) ys = omega (arith, opens_append xs ys)

replaces_opens : (s : Option ℕ) (k : Kept) (w c : ℕ) (a : Address) (answer : Answer)
    → opens_in (replaces k s ++ (Begin w c a ∷ At w (Say answer) ∷ [])) ≡ 0
replaces_opens None k w c a answer = refl
replaces_opens (Some s) k w c a answer =
    let more : List Effect = Begin w c a ∷ At w (Say answer) ∷ [] in
    let told : List Effect = map effect_of (cast k.world.rooms (departure k.world s)) in
    omega (
      arith,
      opens_append (On s (End (Replaced (k.world.made + 1))) ∷ told ++ On s Part ∷ []) more,
      opens_append told (On s Part ∷ []),
      queued_opens (cast k.world.rooms (departure k.world s)),
    )

binds_silent : (has : Bool) (k : Kept) (w c : ℕ) (a : Address) (id : List ℕ) → IsSilent (binds has k w c a id)
binds_silent false k w c a id = record { opened = refl; text = refl }
binds_silent true k w c a id = record { opened = replaces_opens (session_at k a) k w c a _; text = refl }

enables_silent : (counts : Bool) (w s : ℕ) (id : Option ResumeId) → IsSilent (enables counts w s id)
enables_silent true w s id = record { opened = refl; text = refl }
enables_silent false w s id = record { opened = refl; text = refl }

takes_silent : (new : Option KeptTraffic) (w c s h : ℕ) (id : ResumeId) (t : KeptTraffic)
    → IsSilent (takes new w c s h id t)
takes_silent None w c s h id t = record { opened = refl; text = refl }
takes_silent (Some x) w c s h id t = record { opened = refl; text = refl }

resumes_by_silent : (known : Bool) (m : Hold) (w c s h : ℕ) (id : ResumeId) (t : KeptTraffic)
    → IsSilent (resumes_by known m w c s h id t)
resumes_by_silent true (Held v d) w c s h id t = takes_silent (brief.resume t h) w c s h id t
resumes_by_silent true Away w c s h id t = takes_silent (brief.resume t h) w c s h id t
resumes_by_silent true (Ended cause) w c s h id t = record { opened = refl; text = refl }
resumes_by_silent true Gone w c s h id t = record { opened = refl; text = refl }
resumes_by_silent false m w c s h id t = record { opened = refl; text = refl }

resumes_silent : (id : Option ResumeId) (k : Kept) (w c u h : ℕ) → IsSilent (resumes k w c u id h)
resumes_silent None k w c u h = record { opened = refl; text = refl }
resumes_silent (Some id) k w c u h =
    resumes_by_silent (is_known k id u (k.world.sessions id.session)) (k.world.sessions id.session).hold w c
    id.session h id (k.world.sessions id.session).traffic

acts_silent : (k : Kept) (s : ℕ) (x : Stanza) → IsSilent (acts k s x)
acts_silent k s x = record {
  opened = omega (arith, queued_opens (cast k.world.rooms (effects k s x)));
  text = refl;
}

acks_silent : (counts : Bool) (s h : ℕ) (t : KeptTraffic) → IsSilent (acks counts s h t)
acks_silent true s h t = record { opened = refl; text = refl }
acks_silent false s h t = record { opened = refl; text = refl }

asks_silent : (counts : Bool) (w s : ℕ) (t : KeptTraffic) → IsSilent (asks counts w s t)
asks_silent true w s t = record { opened = refl; text = refl }
asks_silent false w s t = record { opened = refl; text = refl }

sweeps_silent : (k : World KeptTraffic) (s : Option ℕ) → IsSilent (sweeps k s)
sweeps_silent k None = record { opened = refl; text = refl }
sweeps_silent k (Some s) = record {
  opened = omega (arith, opens_append (map effect_of (cast k.rooms (departure k s))) (On s Part ∷ []), queued_opens (cast k.rooms (departure k s)));
  text = refl;
}

-- a Pull gives a text, and opens no connection
requests_opens : (owed : Bool) (k : Kept) (s : ℕ) → opens_in (requests owed k s).effects ≡ 0
requests_opens true k s = refl
requests_opens false k s = refl

entry_opens : (e : Option Entry) (k : Kept) (s : ℕ) (x : Session KeptTraffic)
    → opens_in (gives_entry e k s x).effects ≡ 0
entry_opens (Some e) k s x = refl
entry_opens None k s x = requests_opens (x.counts && nat_lt x.traffic.asked_at (kept_sent x.traffic)) k s

waits_opens : (answers : List Answer) (k : Kept) (w : ℕ) → opens_in (pulls k w answers Waits).effects ≡ 0
waits_opens [] k w = refl
waits_opens (a ∷ more) k w = refl

knows_opens : (answers : List Answer) (k : Kept) (w c u : ℕ) → opens_in (pulls k w answers (Knows c u)).effects ≡ 0
knows_opens [] k w c u = refl
knows_opens (a ∷ more) k w c u = refl

holds_opens : (answers : List Answer) (k : Kept) (w c s : ℕ) → opens_in (pulls k w answers (Holds c s)).effects ≡ 0
holds_opens [] k w c s =
    entry_opens (slice_get (k.world.sessions s).traffic.waiting (k.world.sessions s).traffic.given) k s (k.world.sessions s)
holds_opens (a ∷ more) k w c s = refl

pull_opens : (k : Kept) (w t : ℕ) → opens_in (verdict k (event.Pull w t)).effects ≡ 0
pull_opens k w t =
    gate_leads (λ v. opens_in v.effects ≡ 0) k (event.Pull w t) to_pull w (k.world.lines w) (k.world.lines w).stage
    (λ r. refl)
    (λ c. left_opens k (k.world.lines w).stage (At w (Close c (Flood most_answers))))
    (λ c is. waits_opens (k.world.lines w).answers k w)
    (λ c u is. knows_opens (k.world.lines w).answers k w c u)
    (λ c s is. holds_opens (k.world.lines w).answers k w c s)

-- the other events that the gate checks
gate_silent : (k : Kept) (e : Event) (n : Needs) (w : ℕ) → IsSilent (body k e Waits)
    → ((c u : ℕ) → IsSilent (body k e (Knows c u)))
    → ((c s : ℕ) → IsSilent (body k e (Holds c s)))
    → IsSilent (body k e (gate_at n k w (k.world.lines w) (k.world.lines w).stage))
gate_silent k e n w waits knows holds =
    gate_leads IsSilent k e n w (k.world.lines w) (k.world.lines w).stage
    (λ r. record { opened = refl; text = refl })
    (λ c. record { opened = left_opens k (k.world.lines w).stage (At w (Close c (Flood most_answers))); text = refl })
    (λ c is. waits)
    (λ c u is. knows c u)
    (λ c s is. holds c s)

-- every event but an OpenLine and a Pull
abbrev pub IsSilentEvent : Event → Type 0
IsSilentEvent (event.OpenLine w) = ⊥
IsSilentEvent (event.Pull w t) = ⊥
IsSilentEvent e = ⊤

pub verdict_silent : (k : Kept) (e : Event) → IsSilentEvent e → IsSilent (verdict k e)
verdict_silent k (event.OpenLine w) is = absurd is
verdict_silent k (event.Pull w t) is = absurd is
verdict_silent k (event.Login w user) is =
    gate_silent k (event.Login w user) to_login w (logs_in_silent _ w)
    (λ c u. record { opened = refl; text = refl }) (λ c s. record { opened = refl; text = refl })
verdict_silent k (event.Bind w id resource t dice) is =
    gate_silent k (event.Bind w id resource t dice) to_bind w (record { opened = refl; text = refl })
    (λ c u. binds_silent _ k w c _ id) (λ c s. record { opened = refl; text = refl })
verdict_silent k (event.Enable w wants dice) is =
    gate_silent k (event.Enable w wants dice) to_manage w (record { opened = refl; text = refl })
    (λ c u. record { opened = refl; text = refl }) (λ c s. enables_silent _ w s _)
verdict_silent k (event.Resume w id h t) is =
    gate_silent k (event.Resume w id h t) to_manage w (record { opened = refl; text = refl })
    (λ c u. resumes_silent id k w c u h) (λ c s. record { opened = refl; text = refl })
verdict_silent k (event.Act w stanza t) is =
    gate_silent k (event.Act w stanza t) to_act w (record { opened = refl; text = refl })
    (λ c u. record { opened = refl; text = refl }) (λ c s. acts_silent k s stanza)
verdict_silent k (event.Ack w h) is =
    gate_silent k (event.Ack w h) to_act w (record { opened = refl; text = refl })
    (λ c u. record { opened = refl; text = refl }) (λ c s. acks_silent _ s h _)
verdict_silent k (event.Ask w) is =
    gate_silent k (event.Ask w) to_ask w (record { opened = refl; text = refl })
    (λ c u. record { opened = refl; text = refl }) (λ c s. asks_silent _ w s _)
verdict_silent k (event.DropLine w t) is =
    leaves_silent (k.world.lines w).stage w (left k (k.world.lines w).stage)
    (left_opens k (k.world.lines w).stage (At w Leave))
verdict_silent k (event.CloseLine w t) is =
    leaves_silent (k.world.lines w).stage w (closed (k.world.lines w).stage)
    (closed_opens (k.world.lines w).stage (At w Leave))
verdict_silent k (event.Sweep w t) is = sweeps_silent k.world (due k)

pub verdict_opens : (k : Kept) (e : Event) → opens_in (verdict k e).effects ≡ opened_by e
verdict_opens k (event.OpenLine w) = left_opens k (k.world.lines w).stage (Open w)
verdict_opens k (event.Pull w t) = pull_opens k w t
verdict_opens k (event.Login w user) = (verdict_silent k (event.Login w user) tt).opened
verdict_opens k (event.Bind w id resource t dice) = (verdict_silent k (event.Bind w id resource t dice) tt).opened
verdict_opens k (event.Enable w wants dice) = (verdict_silent k (event.Enable w wants dice) tt).opened
verdict_opens k (event.Resume w id h t) = (verdict_silent k (event.Resume w id h t) tt).opened
verdict_opens k (event.Act w stanza t) = (verdict_silent k (event.Act w stanza t) tt).opened
verdict_opens k (event.Ack w h) = (verdict_silent k (event.Ack w h) tt).opened
verdict_opens k (event.Ask w) = (verdict_silent k (event.Ask w) tt).opened
verdict_opens k (event.DropLine w t) = (verdict_silent k (event.DropLine w t) tt).opened
verdict_opens k (event.CloseLine w t) = (verdict_silent k (event.CloseLine w t) tt).opened
verdict_opens k (event.Sweep w t) = (verdict_silent k (event.Sweep w t) tt).opened

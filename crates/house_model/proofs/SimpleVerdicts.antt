-- Verdicts that come of no stanza: they queue nothing, and neither make a session nor take one away.
use Rattle.std.proofs.Common.{ℕ, List, [], ◌∷◌, ◌++◌, Option, Some, None, Bool, true, false}
use Rattle.std.specs.Prelude.{nat_lt, slice_get, ◌&&◌, ⊤}
use Rattle.std.specs.List.{AllByRecursion}
use Rattle.stanza_tree.specs.declared.frame.Entry.{Entry}
use Rattle.sm_resume.specs.declared.id.ResumeId.{ResumeId}
use Rattle.session_table.specs.declared.line.Line as stage
use Rattle.session_table.specs.declared.line.Line.TheVariants.{Empty, Fresh, Logged, Bound, Over}
use Rattle.house_model.specs.declared.answer.Answer.{Answer}
use Rattle.house_model.specs.Sessions.{Hold, Held, Away, Ended, Gone, Op, Session, Push}
use Rattle.house_model.specs.Sessions as sessions
use Rattle.house_model.specs.Traffic.{KeptTraffic, brief, kept_sent}
use Rattle.house_model.specs.States.{Kept}
use Rattle.house_model.specs.Effects.{Effect, At, Begin, Hosts, Files, Leave, On}
use Rattle.house_model.specs.Gate.{Verdict, Waits, Knows, Holds}
use Rattle.house_model.specs.Gate.{left, left_by, closed}
use Rattle.house_model.specs.Steps.{logs_in, enables, takes, resumes_by, is_known, resumes, acks}
use Rattle.house_model.specs.Steps.{asks, requests, gives_entry, pulls, leaves}

-- verdicts that come of no stanza

abbrev pub IsSimpleOp : Op → Type 0
IsSimpleOp (Push entry) = ⊥
IsSimpleOp sessions.Part = ⊥
IsSimpleOp op = ⊤

-- neither queues a thing nor makes a session or takes one away
abbrev pub IsSimple : Effect → Type 0
IsSimple (On s op) = IsSimpleOp op
IsSimple (Begin w c a) = ⊥
IsSimple (Hosts e) = ⊥
IsSimple (Files filing) = ⊥
IsSimple e = ⊤

abbrev pub ArePlain : List Effect → Type 0
ArePlain es = AllByRecursion IsSimple es

pub left_by_plain : (id : Option ResumeId) (moment : ℕ) → IsSimpleOp (left_by id moment)
left_by_plain None moment = tt
left_by_plain (Some id) moment = tt

pub left_plain : (k : Kept) (g : stage.Line) (e : Effect) → IsSimple e → ArePlain (left k g ++ e ∷ [])
left_plain k Empty e plain = (plain, tt)
left_plain k (Fresh c) e plain = (plain, tt)
left_plain k (Logged c u) e plain = (plain, tt)
left_plain k (Bound c s) e plain = (left_by_plain (k.world.sessions s).rest.resume_id k.head.moment, (plain, tt))
left_plain k (Over c cause) e plain = (plain, tt)

pub closed_plain : (g : stage.Line) (e : Effect) → IsSimple e → ArePlain (closed g ++ e ∷ [])
closed_plain Empty e plain = (plain, tt)
closed_plain (Fresh c) e plain = (plain, tt)
closed_plain (Logged c u) e plain = (plain, tt)
closed_plain (Bound c s) e plain = (tt, (plain, tt))
closed_plain (Over c cause) e plain = (plain, tt)

abbrev pub Plain : Verdict → Type 0
Plain v = ArePlain v.effects

pub leaves_plain : (g : stage.Line) (w : ℕ) (es : List Effect) → ArePlain (es ++ At w Leave ∷ []) → Plain (leaves g w es)
leaves_plain Empty w es plain = tt
leaves_plain (Fresh c) w es plain = plain
leaves_plain (Logged c u) w es plain = plain
leaves_plain (Bound c s) w es plain = plain
leaves_plain (Over c cause) w es plain = plain

pub logs_in_plain : (place : Option ℕ) (w : ℕ) → Plain (logs_in w place)
logs_in_plain (Some place) w = (tt, tt)
logs_in_plain None w = tt

pub enables_plain : (counts : Bool) (w s : ℕ) (id : Option ResumeId) → Plain (enables counts w s id)
enables_plain true w s id = (tt, tt)
enables_plain false w s id = (tt, (tt, tt))

pub takes_plain : (new : Option KeptTraffic) (w c s h : ℕ) (id : ResumeId) (t : KeptTraffic) → Plain (takes new w c s h id t)
takes_plain None w c s h id t = (tt, tt)
takes_plain (Some x) w c s h id t = (tt, (tt, tt))

pub resumes_by_plain : (known : Bool) (m : Hold) (w c s h : ℕ) (id : ResumeId) (t : KeptTraffic) → Plain (resumes_by known m w c s h id t)
resumes_by_plain true (Held v d) w c s h id t = takes_plain (brief.resume t h) w c s h id t
resumes_by_plain true Away w c s h id t = takes_plain (brief.resume t h) w c s h id t
resumes_by_plain true (Ended cause) w c s h id t = (tt, tt)
resumes_by_plain true Gone w c s h id t = (tt, tt)
resumes_by_plain false m w c s h id t = (tt, tt)

pub resumes_plain : (id : Option ResumeId) (k : Kept) (w c u h : ℕ) → Plain (resumes k w c u id h)
resumes_plain None k w c u h = (tt, tt)
resumes_plain (Some id) k w c u h =
    resumes_by_plain (is_known k id u (k.world.sessions id.session)) (k.world.sessions id.session).hold w c
    id.session h id (k.world.sessions id.session).traffic

pub acks_plain : (counts : Bool) (s h : ℕ) (t : KeptTraffic) → Plain (acks counts s h t)
acks_plain true s h t = (tt, tt)
acks_plain false s h t = tt

pub asks_plain : (counts : Bool) (w s : ℕ) (t : KeptTraffic) → Plain (asks counts w s t)
asks_plain true w s t = (tt, (tt, tt))
asks_plain false w s t = tt

pub requests_plain : (owed : Bool) (k : Kept) (s : ℕ) → Plain (requests owed k s)
requests_plain true k s = (tt, tt)
requests_plain false k s = tt

pub entry_plain : (e : Option Entry) (k : Kept) (s : ℕ) (x : Session KeptTraffic) → Plain (gives_entry e k s x)
entry_plain (Some e) k s x = (tt, tt)
entry_plain None k s x = requests_plain (x.counts && nat_lt x.traffic.asked_at (kept_sent x.traffic)) k s

pub waits_plain : (answers : List Answer) (k : Kept) (w : ℕ) → Plain (pulls k w answers Waits)
waits_plain [] k w = tt
waits_plain (a ∷ more) k w = (tt, tt)

pub knows_plain : (answers : List Answer) (k : Kept) (w c u : ℕ) → Plain (pulls k w answers (Knows c u))
knows_plain [] k w c u = tt
knows_plain (a ∷ more) k w c u = (tt, tt)

pub holds_plain : (answers : List Answer) (k : Kept) (w c s : ℕ) → Plain (pulls k w answers (Holds c s))
holds_plain [] k w c s =
    entry_plain (slice_get (k.world.sessions s).traffic.waiting (k.world.sessions s).traffic.given) k s (k.world.sessions s)
holds_plain (a ∷ more) k w c s = (tt, tt)

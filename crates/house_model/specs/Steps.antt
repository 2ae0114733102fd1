-- The events, each with its answer and what it does, once the gate has let it through. All is read off what the code keeps.
use Rattle.std.specs.Prelude.{ℕ, ◌+◌, max, min, nat_lt, List, [], ◌∷◌, ◌++◌, map, slice_get, slice_index_or}
use Rattle.std.specs.Prelude.{bytes_eq, Option, Some, None, is_some, Bool, true, false, not, ◌&&◌}
use Rattle.stanza_tree.specs.declared.frame.Entry.{Entry}
use Rattle.stanza_tree.specs.Entries.{frame}
use Rattle.jid_core.specs.Addresses.{Address, same_bare, address_text}
use Rattle.stanza_model.specs.declared.effect.Effect as stanza
use Rattle.stanza_model.specs.declared.effect.Effect.TheVariants as effect
use Rattle.stanza_model.specs.declared.effect.Change.{Change}
use Rattle.stanza_model.specs.declared.effect.Change.TheVariants as change
use Rattle.stanza_model.specs.declared.stanza.Stanza.{Stanza}
use Rattle.sm_resume.specs.Spelling.{hexadecimal}
use Rattle.sm_resume.specs.declared.decision.Cause.{Cause}
use Rattle.sm_resume.specs.declared.decision.Cause.TheVariants.{Replaced, Lost}
use Rattle.sm_resume.specs.declared.id.ResumeId.{ResumeId}
use Rattle.session_table.specs.declared.line.Line as stage
use Rattle.session_table.specs.declared.line.Line.TheVariants.{Empty}
use Rattle.archive_table.specs.declared.filing.Filing.TheVariants.{OfUser, OfRoom}
use Rattle.muc_service.specs.Casting.{cast}
use Rattle.house_model.specs.declared.answer.Answer.{Answer}
use Rattle.house_model.specs.declared.answer.Answer.TheVariants as answer
use Rattle.house_model.specs.declared.event.Event.{Event}
use Rattle.house_model.specs.declared.event.Event.TheVariants as event
use Rattle.house_model.specs.declared.reply.Reply.{Reply}
use Rattle.house_model.specs.declared.reply.Reply.TheVariants as reply
use Rattle.house_model.specs.Answers.{answer_text, request_text}
use Rattle.house_model.specs.Numbered.{least, passing}
use Rattle.house_model.specs.Lookups.{is_there, is_at, session_at, user_place}
use Rattle.house_model.specs.Routing.{departure, effects}
use Rattle.house_model.specs.Sessions.{Hold, Held, Away, Ended, Session, Push, Pull, Request, Enable, Ack, Tell, Act, Resume}
use Rattle.house_model.specs.Sessions.{End, Part, Marks, WantsRoster, Pushed, Shown, Hidden, Directs, Ways}
use Rattle.house_model.specs.Traffic.{KeptTraffic, kept_sent, kept_inward, brief}
use Rattle.house_model.specs.States.{Head, House, Kept, World}
use Rattle.house_model.specs.Effects.{Effect, Open, At, Begin, On, Note, Hosts, Files, Log, Say, Said, Leave, Close, apply_all}
use Rattle.house_model.specs.Gate.{Verdict, does, only, gives, Pass, Stop, Free, Waits, Knows, Holds, left, closed, gate}

-- OpenLine: what is at the line is left, and the next connection is there
abbrev pub opens : Kept → ℕ → Verdict
opens k w = does (reply.Opened (k.world.opened + 1)) (left k (k.world.lines w).stage ++ Open w ∷ [])

-- Login: exactly where the house has the user
abbrev pub logs_in : ℕ → Option ℕ → Verdict
logs_in w None = only reply.NoUser
logs_in w (Some place) = does reply.Done (At w (Log place) ∷ [])

-- what is set, and what is queued
abbrev pub set : Change → Effect
set (change.WantsRoster s) = On s (Marks WantsRoster)
set (change.Pushed s pushes) = On s (Marks (Pushed pushes))
set (change.Available s stanza priority) = On s (Marks (Shown stanza priority))
set (change.Unavailable s) = On s (Marks Hidden)
set (change.Directed s addresses) = On s (Marks (Directs addresses))
set (change.RoomMade n address owner) = Hosts (effect.Set (change.RoomMade n address owner))
set (change.RoomGone n) = Hosts (effect.Set (change.RoomGone n))
set (change.Unlocked n) = Hosts (effect.Set (change.Unlocked n))
set (change.Configured n config) = Hosts (effect.Set (change.Configured n config))
set (change.Affiliated n address a) = Hosts (effect.Set (change.Affiliated n address a))
set (change.RoleSet n s role) = Hosts (effect.Set (change.RoleSet n s role))
set (change.Renamed n s nick) = Hosts (effect.Set (change.Renamed n s nick))
set (change.OccupantShown n s presence) = Hosts (effect.Set (change.OccupantShown n s presence))
set (change.Subject n text stamp) = Hosts (effect.Set (change.Subject n text stamp))
set (change.RoomRow n peer text moment) = Files (OfRoom n peer text moment)
set change = Note change

abbrev pub effect_of : stanza.Effect → Effect
effect_of (effect.Queue s to rest origin) = On s (Push (record { to = to; rest = rest; origin = origin }))
effect_of (effect.Broadcast n item) = Hosts (effect.Broadcast n item)
effect_of (effect.Enter n s address nick role) = Hosts (effect.Enter n s address nick role)
effect_of (effect.Leave n s) = Hosts (effect.Leave n s)
effect_of (effect.Keep user peer text moment) = Files (OfUser user peer text moment)
effect_of (effect.Set c) = set c

-- Bind: RFC 6120, 7.6 and 7.7. The address is the user's, with the resource asked for or with the dice as 32 hexadecimal digits.
abbrev pub resource_or : List ℕ → Option (List ℕ) → List ℕ
resource_or dice None = hexadecimal dice
resource_or dice (Some resource) = resource

abbrev pub bound_address : Kept → (user : ℕ) → List ℕ → Address
bound_address k user resource = record { local = Some (slice_index_or k.head.users user []); domain = k.head.domain.domain; resource = Some resource }

-- neither limit of the house is passed by one session more; the one of the same address is not counted, since it departs
abbrev pub has_place : Kept → Address → Bool
has_place k a =
    nat_lt (passing k.world.made (λ s. is_there (k.world.sessions s) && not (is_at a (k.world.sessions s)))) k.head.limits.sessions
    && nat_lt (passing k.world.made (λ s. is_there (k.world.sessions s) &&
    (same_bare (k.world.sessions s).rest.address a && not (is_at a (k.world.sessions s))))) k.head.limits.of_user

-- Departure: the session ends, others are told, it leaves its rooms, and it is there no more. It is over with this cause, unless it was over
-- already.
abbrev pub departs : World KeptTraffic → (s : ℕ) → Cause → List Effect
departs world s cause = (On s (End cause) ∷ map effect_of (cast world.rooms (departure world s))) ++ On s Part ∷ []

abbrev pub replaces : Kept → Option ℕ → List Effect
replaces k None = []
replaces k (Some s) = departs k.world s (Replaced (k.world.made + 1))

abbrev pub binds : Bool → Kept → (w conn : ℕ) → Address → List ℕ → Verdict
binds false k w c a id = does reply.Done (At w (Say (answer.Refused id)) ∷ [])
binds true k w c a id = does reply.Bound (replaces k (session_at k a) ++ (Begin w c a ∷ At w (Say (answer.Bound id (address_text a))) ∷ []))

-- Enable: XEP-0198, 3. The id is the session's number and the dice.
abbrev pub id_if : Bool → ℕ → List ℕ → Option ResumeId
id_if false s dice = None
id_if true s dice = Some (record { session = s; digits = dice })

abbrev pub enables : Bool → (w s : ℕ) → Option ResumeId → Verdict
enables true w s id = does reply.Done (At w (Say answer.Unexpected) ∷ [])
enables false w s id = does reply.Done (On s (Enable id) ∷ At w (Say (answer.Enabled id)) ∷ [])

-- Resume: XEP-0198, 5. An id that no session has, another user's, or one of a session that is over is not found.
abbrev pub has_id : Option ResumeId → ResumeId → Bool
has_id None id = false
has_id (Some other) id = bytes_eq other.digits id.digits

abbrev pub is_users : Kept → ℕ → Session KeptTraffic → Bool
is_users k user s = same_bare s.rest.address (bound_address k user [])

abbrev pub takes : Option KeptTraffic → (w conn s h : ℕ) → ResumeId → KeptTraffic → Verdict
takes None w c s h id t = does (reply.Over (brief.too_high t h)) (At w (Close c (brief.too_high t h)) ∷ [])
takes (Some u) w c s h id t = does reply.Resumed (On s (Resume w c h) ∷ At w (Say (answer.Resumed (kept_inward t) id)) ∷ [])

abbrev pub resumes_by : Bool → Hold → (w conn s h : ℕ) → ResumeId → KeptTraffic → Verdict
resumes_by true (Held v d) w c s h id t = takes (brief.resume t h) w c s h id t
resumes_by true Away w c s h id t = takes (brief.resume t h) w c s h id t
resumes_by known m w c s h id t = does reply.Done (At w (Say answer.NotFound) ∷ [])

abbrev pub is_known : Kept → ResumeId → (user : ℕ) → Session KeptTraffic → Bool
is_known k id user s = s.counts && (has_id s.rest.resume_id id && is_users k user s)

abbrev pub resumes : Kept → (w conn user : ℕ) → Option ResumeId → ℕ → Verdict
resumes k w c user None h = does reply.Done (At w (Say answer.NotFound) ∷ [])
resumes k w c user (Some id) h =
    resumes_by (is_known k id user (k.world.sessions id.session)) (k.world.sessions id.session).hold w c id.session h id (k.world.sessions id.session).traffic

-- Act: the stanza counts as acted on, whatever comes of it. Before what a room broadcasts, its views are queued.
abbrev pub acts : Kept → ℕ → Stanza → Verdict
acts k s x = does reply.Done (On s (Act x) ∷ map effect_of (cast k.world.rooms (effects k s x)))

-- Ack: XEP-0198, 4
abbrev pub ack_reply : Option KeptTraffic → Cause → Reply
ack_reply None cause = reply.Over cause
ack_reply (Some u) cause = reply.Done

abbrev pub acks : Bool → (s h : ℕ) → KeptTraffic → Verdict
acks false s h t = only reply.Done
acks true s h t = does (ack_reply (brief.ack t h) (brief.too_high t h)) (On s (Ack h) ∷ [])

-- Ask: XEP-0198, 4. The client asks for the inward count.
abbrev pub asks : Bool → (w s : ℕ) → KeptTraffic → Verdict
asks false w s t = only reply.Done
asks true w s t = does reply.Done (On s Tell ∷ At w (Say (answer.Counted (kept_inward t))) ∷ [])

-- Pull: the oldest answer, else the next entry, else a request for the client's count
abbrev pub has_come : Option ℕ → ℕ → Bool
has_come None now = false
has_come (Some deadline) now = not (nat_lt now deadline)

abbrev pub is_due_by : Hold → Option ℕ → ℕ → Bool
is_due_by (Ended cause) deadline now = true
is_due_by hold deadline now = has_come deadline now

abbrev pub is_due : ℕ → Session KeptTraffic → Bool
is_due now s = is_due_by s.hold s.rest.deadline now

-- the session that a sweep takes away
abbrev pub due : Kept → Option ℕ
due k = least k.world.made (λ s. is_due k.head.moment (k.world.sessions s))

abbrev pub nothing : Kept → Verdict
nothing k = only (reply.Nothing (is_some (due k)))

abbrev pub requests : Bool → Kept → ℕ → Verdict
requests true k s = gives request_text (On s Request ∷ [])
requests false k s = nothing k

abbrev pub gives_entry : Option Entry → Kept → ℕ → Session KeptTraffic → Verdict
gives_entry (Some e) k s x = gives (frame e) (On s Pull ∷ [])
gives_entry None k s x = requests (x.counts && nat_lt x.traffic.asked_at (kept_sent x.traffic)) k s

abbrev pub pulls_from : Kept → Pass → Verdict
pulls_from k (Stop v) = v
pulls_from k (Holds c s) = gives_entry (slice_get (k.world.sessions s).traffic.waiting (k.world.sessions s).traffic.given) k s (k.world.sessions s)
pulls_from k pass = nothing k

abbrev pub pulls : Kept → ℕ → List Answer → Pass → Verdict
pulls k w answers (Stop v) = v
pulls k w [] pass = pulls_from k pass
pulls k w (a ∷ more) pass = gives (answer_text a) (At w Said ∷ [])

-- DropLine and CloseLine: the connection is gone
abbrev pub leaves : stage.Line → ℕ → List Effect → Verdict
leaves Empty w effects = only reply.Absent
leaves g w effects = does reply.Done (effects ++ At w Leave ∷ [])

-- Sweep: the session of least number that is over or past its deadline departs
abbrev pub sweeps : World KeptTraffic → Option ℕ → Verdict
sweeps world None = only (reply.Nothing false)
sweeps world (Some s) = does (reply.Swept s) (departs world s Lost)

abbrev pub body : Kept → Event → Pass → Verdict
body k e (Stop v) = v
body k (event.OpenLine w) Free = opens k w
body k (event.Login w user) Waits = logs_in w (user_place user k.head.users)
body k (event.Bind w id resource t dice) (Knows c u) = binds (has_place k (bound_address k u (resource_or dice resource))) k w c
    (bound_address k u (resource_or dice resource)) id
body k (event.Enable w wants dice) (Knows c u) = does reply.Done (At w (Say answer.Unexpected) ∷ [])
body k (event.Enable w wants dice) (Holds c s) = enables (k.world.sessions s).counts w s (id_if wants s dice)
body k (event.Resume w id h t) (Knows c u) = resumes k w c u id h
body k (event.Resume w id h t) (Holds c s) = does reply.Done (At w (Say answer.Unexpected) ∷ [])
body k (event.Act w stanza t) (Holds c s) = acts k s stanza
body k (event.Ack w h) (Holds c s) = acks (k.world.sessions s).counts s h (k.world.sessions s).traffic
body k (event.Ask w) (Holds c s) = asks (k.world.sessions s).counts w s (k.world.sessions s).traffic
body k (event.Pull w t) pass = pulls k w (k.world.lines w).answers pass
body k (event.DropLine w t) Free = leaves (k.world.lines w).stage w (left k (k.world.lines w).stage)
body k (event.CloseLine w t) Free = leaves (k.world.lines w).stage w (closed (k.world.lines w).stage)
body k (event.Sweep w t) Free = sweeps k.world (due k)
body k e pass = only reply.Unready

abbrev pub verdict : Kept → Event → Verdict
verdict k e = body k e (gate k e)

-- the last moment of the year 9999, in milliseconds since 1970; a later one counts as this
abbrev pub last_moment : ℕ
last_moment = 253402300799999

-- an event with a moment sets `now` to the greater of both, whatever is answered
abbrev pub later : ℕ → ℕ → ℕ
later now t = max now (min t last_moment)

abbrev pub moment_of : Event → ℕ → ℕ
moment_of (event.Bind w id resource t dice) now = later now t
moment_of (event.Resume w id h t) now = later now t
moment_of (event.Act w stanza t) now = later now t
moment_of (event.Pull w t) now = later now t
moment_of (event.DropLine w t) now = later now t
moment_of (event.CloseLine w t) now = later now t
moment_of (event.Sweep w t) now = later now t
moment_of e now = now

abbrev pub turned : Event → Head → Head
turned e h = record h { turns = h.turns + 1; moment = moment_of e h.moment }

abbrev pub turn : {T : Type 0} → Event → House T → House T
turn e st = record st { head = turned e st.head }

-- the house after an event, the reply and the text
pub record Step (T : Type 0) : Type 0 where
  pub state : House T
  pub reply : Reply
  pub text : List ℕ

abbrev pub concluded : {T : Type 0} → Ways T → House T → Verdict → Step T
concluded z st v = record { state = record st { world = apply_all z st.world v.effects }; reply = v.reply; text = v.text }

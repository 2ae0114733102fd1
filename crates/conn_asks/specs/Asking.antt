-- What an item of a client's stream asks for, by how far the client came. `w` is the line, `n` the number of the item, `t` the moment.
use Rattle.std.specs.Prelude.{◌≡◌, ℕ, List, codes, bytes_eq, Bool, Option, Some, None, Result, Ok, Err, if◌then◌else◌}
use Rattle.stanza_tree.specs.Attributes.{attr_of}
use Rattle.stanza_tree.specs.declared.node.Element.{Element}
use Rattle.jid_core.specs.Addresses.{Address, part_of}
use Rattle.jid_core.specs.Preparation.{resource_of}
use Rattle.jid_core.specs.declared.fault.JidFault.{JidFault}
use Rattle.stanza_model.specs.Nonzas.{nonza_of}
use Rattle.stanza_model.specs.Stanzas.{stanza_of}
use Rattle.stanza_model.specs.declared.nonza.Nonza.{Nonza}
use Rattle.stanza_model.specs.declared.nonza.Nonza.TheVariants as nonza
use Rattle.stanza_model.specs.declared.stanza.Stanza.{Stanza}
use Rattle.sm_resume.specs.Spelling.{IsResumeId, spelling}
use Rattle.sm_resume.specs.declared.id.ResumeId.{ResumeId}
use Rattle.stream_grammar.specs.declared.item.Item.{Item}
use Rattle.stream_grammar.specs.declared.item.Item.TheVariants as item
use Rattle.house_model.specs.declared.event.Event.TheVariants as event
use Rattle.conn_asks.specs.declared.asked.Asked.{Asked}
use Rattle.conn_asks.specs.declared.asked.Asked.TheVariants.{Header, Invite, Fail, LogIn, Draw, RefuseResource, Submit, End}
use Rattle.conn_asks.specs.declared.binding.Binding.{Binding}
use Rattle.conn_asks.specs.declared.ended.Ended.TheVariants as ended
use Rattle.conn_asks.specs.declared.ended.HeaderFault.{HeaderFault}
use Rattle.conn_asks.specs.declared.ended.ItemFault.{ItemFault}
use Rattle.conn_asks.specs.declared.ended.ItemFault.TheVariants as fault
use Rattle.conn_asks.specs.declared.login.Exchanging.{Exchanging}
use Rattle.conn_asks.specs.declared.login.Sasl.{Sasl}
use Rattle.conn_asks.specs.declared.login.Verdict.{Verdict}
use Rattle.conn_asks.specs.declared.login.Verdict.TheVariants.{Invites, Greets, Succeeds, Fails}
use Rattle.conn_asks.specs.declared.stage.Stage.{Stage}
use Rattle.conn_asks.specs.declared.stage.Stage.TheVariants.{Login, Logged, Bound}
use Rattle.conn_asks.specs.declared.stage.Purpose.TheVariants.{Challenge, Bind, Enable}
use Rattle.conn_asks.specs.Requests.{binding_of, header_fault, host_at, is_from, user_at}
use Rattle.conn_asks.specs.Logins.{sasl_of, Judged}

abbrev pub refusal : ItemFault → ℕ → Asked
refusal fault n = End (ended.BadItem fault n)

-- RFC 6120, 4.3: a header is answered by one, if it has no fault
abbrev pub asked_header : Option HeaderFault → Asked
asked_header None = Header
asked_header (Some fault) = End (ended.BadHeader fault)

-- Before login: an element of SASL, and nothing else.

abbrev pub asked_verdict : Verdict → Asked
asked_verdict (Invites m) = Invite m
asked_verdict (Greets m first) = Draw (Challenge m first)
asked_verdict (Succeeds user success) = LogIn user success
asked_verdict (Fails f) = Fail f

abbrev pub AsksSasl : List ℕ → ℕ → Exchanging → Option Sasl → Asked → Type 0
AsksSasl domain n x (Some s) asked = (verdict : Verdict) × Judged domain x s verdict × (asked ≡ asked_verdict verdict)
AsksSasl domain n x None asked = asked ≡ refusal fault.NotAuthorized n

-- the exchange of a login is used up by its next text; what else comes leaves all as it was
abbrev pub LeavesExchange : Asked → Exchanging → Exchanging → Type 0
LeavesExchange (Invite m) x x' = Unit {0}
LeavesExchange (Fail f) x x' = Unit {0}
LeavesExchange (LogIn user success) x x' = Unit {0}
LeavesExchange (Draw (Challenge m first)) x x' = Unit {0}
LeavesExchange asked x x' = x' ≡ x

abbrev pub KeepsStage : Asked → Stage → Stage → Type 0
KeepsStage (Invite m) stage stage' = Unit {0}
KeepsStage (Fail f) stage stage' = Unit {0}
KeepsStage (LogIn user success) stage stage' = Unit {0}
KeepsStage (Draw (Challenge m first)) stage stage' = Unit {0}
KeepsStage asked stage stage' = stage' ≡ stage

-- After login: a binding, a resumption or the enabling of stream management, and nothing else.

-- RFC 6120, 7.7.2.1: a resource that can't be read is refused
abbrev pub asked_binding : List ℕ → Result (Option (List ℕ)) JidFault → Asked
asked_binding id (Ok resource) = Draw (Bind id resource)
asked_binding id (Err fault) = RefuseResource id

-- XEP-0198, 5: the id of a session, or none where the text spells none
abbrev pub IsIdIn : List ℕ → Option ResumeId → Type 0
IsIdIn previd (Some id) = IsResumeId id × (spelling id ≡ previd)
IsIdIn previd None = (id : ResumeId) → IsResumeId id → spelling id ≡ previd → ⊥

abbrev pub AsksResume : ℕ → ℕ → List ℕ → ℕ → Asked → Type 0
AsksResume w t previd h asked = (id : Option ResumeId) × IsIdIn previd id × (asked ≡ Submit (event.Resume w id h t))

-- an element of stream management that lacks what it needs: before binding it is a `resume`, or no matter
abbrev pub is_resume : Element → Bool
is_resume e = bytes_eq e.name.local (codes "resume")

abbrev pub garbled : Element → ItemFault
garbled e = if is_resume e then fault.BadFormat else fault.NotAuthorized

abbrev pub AsksManagement : ℕ → ℕ → ℕ → Element → Option Nonza → Asked → Type 0
AsksManagement w n t e (Some (nonza.Enable resume)) asked = asked ≡ Draw (Enable resume)
AsksManagement w n t e (Some (nonza.Resume previd h)) asked = AsksResume w t previd h asked
AsksManagement w n t e (Some nonza.Garbled) asked = asked ≡ refusal (garbled e) n
AsksManagement w n t e (Some nonza.Ask) asked = asked ≡ refusal fault.NotAuthorized n
AsksManagement w n t e (Some (nonza.Counted h)) asked = asked ≡ refusal fault.NotAuthorized n
AsksManagement w n t e None asked = asked ≡ refusal fault.NotAuthorized n

abbrev pub AsksBinding : ℕ → ℕ → ℕ → Element → Option Binding → Asked → Type 0
AsksBinding w n t e (Some b) asked = asked ≡ asked_binding b.id (part_of resource_of b.resource)
AsksBinding w n t e None asked = AsksManagement w n t e (nonza_of e) asked

-- After binding: stanzas and stream management, and nothing else.

abbrev pub AsksCounting : ℕ → ℕ → ℕ → Option Nonza → Asked → Type 0
AsksCounting w n t (Some (nonza.Enable resume)) asked = asked ≡ Draw (Enable resume)
AsksCounting w n t (Some (nonza.Resume previd h)) asked = AsksResume w t previd h asked
AsksCounting w n t (Some nonza.Ask) asked = asked ≡ Submit (event.Ask w)
AsksCounting w n t (Some (nonza.Counted h)) asked = asked ≡ Submit (event.Ack w h)
AsksCounting w n t (Some nonza.Garbled) asked = asked ≡ refusal fault.BadFormat n
AsksCounting w n t None asked = asked ≡ refusal fault.UnsupportedStanzaType n

-- RFC 6120, 8.1.2.1: a stanza comes from its user
abbrev pub asked_stanza : ℕ → ℕ → ℕ → Bool → Stanza → Asked
asked_stanza w n t own stanza = if own then Submit (event.Act w stanza t) else refusal fault.InvalidFrom n

abbrev pub is_own : Address → Element → Bool
is_own user e = is_from user (attr_of (codes "from") e.attrs)

abbrev pub AsksStanza : ℕ → Address → ℕ → ℕ → Element → Option Stanza → Asked → Type 0
AsksStanza w user n t e (Some stanza) asked = asked ≡ asked_stanza w n t (is_own user e) stanza
AsksStanza w user n t e None asked = AsksCounting w n t (nonza_of e) asked

-- The items of each stage.

abbrev pub AsksTop : ℕ → List ℕ → ℕ → ℕ → Stage → Element → Asked → Type 0
AsksTop w domain n t (Login x) e asked = AsksSasl domain n x (sasl_of e) asked
AsksTop w domain n t (Logged user) e asked = AsksBinding w n t e (binding_of e) asked
AsksTop w domain n t (Bound user) e asked = AsksStanza w (user_at domain user) n t e (stanza_of e) asked

abbrev pub Asks : ℕ → List ℕ → ℕ → ℕ → Stage → Item → Asked → Type 0
Asks w domain n t stage (item.Header root default_space) asked = asked ≡ asked_header (header_fault (host_at domain) root default_space)
Asks w domain n t stage (item.Top e) asked = AsksTop w domain n t stage e asked
Asks w domain n t stage item.CloseTag asked = asked ≡ End ended.Closed
Asks w domain n t stage (item.Broken fault offset) asked = asked ≡ End (ended.Broken fault offset)

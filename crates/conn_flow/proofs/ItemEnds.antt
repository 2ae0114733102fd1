-- What an item ends a connection with.
use Rattle.std.proofs.Common.{◌≡◌, ℕ, List, sym, subst, Bool, true, false, Option, Some, None, Result, Ok, Err}
use Rattle.stanza_tree.specs.declared.node.Element.{Element}
use Rattle.jid_core.specs.Addresses.{Address, part_of}
use Rattle.jid_core.specs.Preparation.{resource_of}
use Rattle.jid_core.specs.declared.fault.JidFault.{JidFault}
use Rattle.stanza_model.specs.Nonzas.{nonza_of}
use Rattle.stanza_model.specs.Stanzas.{stanza_of}
use Rattle.stanza_model.specs.declared.nonza.Nonza.{Nonza}
use Rattle.stanza_model.specs.declared.nonza.Nonza.TheVariants as nonza
use Rattle.stanza_model.specs.declared.stanza.Stanza.{Stanza}
use Rattle.stream_grammar.specs.declared.item.Item.{Item}
use Rattle.stream_grammar.specs.declared.item.Item.TheVariants as item
use Rattle.conn_asks.specs.declared.asked.Asked.{Asked}
use Rattle.conn_asks.specs.declared.asked.Asked.TheVariants as asked
use Rattle.conn_asks.specs.declared.binding.Binding.{Binding}
use Rattle.conn_asks.specs.declared.ended.Ended.{Ended}
use Rattle.conn_asks.specs.declared.ended.Ended.TheVariants as ended
use Rattle.conn_asks.specs.declared.ended.HeaderFault.{HeaderFault}
use Rattle.conn_asks.specs.declared.login.Exchanging.{Exchanging}
use Rattle.conn_asks.specs.declared.login.Sasl.{Sasl}
use Rattle.conn_asks.specs.declared.login.Verdict.{Verdict}
use Rattle.conn_asks.specs.declared.login.Verdict.TheVariants.{Invites, Greets, Succeeds, Fails}
use Rattle.conn_asks.specs.declared.stage.Stage.{Stage}
use Rattle.conn_asks.specs.declared.stage.Stage.TheVariants.{Login, Logged, Bound}
use Rattle.conn_asks.specs.Requests.{binding_of, header_fault, host_at, user_at}
use Rattle.conn_asks.specs.Logins.{sasl_of}
use Rattle.conn_asks.specs.Asking.{Asks, AsksBinding, AsksCounting, AsksManagement, AsksResume, AsksSasl, AsksStanza}
use Rattle.conn_asks.specs.Asking.{asked_binding, asked_header, asked_stanza, asked_verdict, is_own}

-- the close tag, a fault of the stream, of the header or of an item
abbrev pub IsItemEnd : Ended → Type 0
IsItemEnd ended.Closed = Unit {0}
IsItemEnd (ended.Broken f k) = Unit {0}
IsItemEnd (ended.BadHeader f) = Unit {0}
IsItemEnd (ended.BadItem f n) = Unit {0}
IsItemEnd x = ⊥

abbrev pub IsAskedEnd : Asked → Type 0
IsAskedEnd (asked.End x) = IsItemEnd x
IsAskedEnd a = Unit {0}

ends_as : (a b : Asked) → a ≡ b → IsAskedEnd b → IsAskedEnd a
ends_as a b e h = subst IsAskedEnd (sym e) h

header_ends : (f : Option HeaderFault) → IsAskedEnd (asked_header f)
header_ends None = tt
header_ends (Some f) = tt

verdict_ends : (v : Verdict) → IsAskedEnd (asked_verdict v)
verdict_ends (Invites m) = tt
verdict_ends (Greets m first) = tt
verdict_ends (Succeeds user success) = tt
verdict_ends (Fails f) = tt

sasl_ends : (domain : List ℕ) (n : ℕ) (x : Exchanging) (s : Option Sasl) (a : Asked) → AsksSasl domain n x s a → IsAskedEnd a
sasl_ends domain n x (Some s) a (verdict, judged, is) = ends_as a (asked_verdict verdict) is (verdict_ends verdict)
sasl_ends domain n x None a is = ends_as a _ is tt

resume_ends : (w t : ℕ) (previd : List ℕ) (h : ℕ) (a : Asked) → AsksResume w t previd h a → IsAskedEnd a
resume_ends w t previd h a (id, spelt, is) = ends_as a _ is tt

management_ends : (w n t : ℕ) (e : Element) (z : Option Nonza) (a : Asked) → AsksManagement w n t e z a → IsAskedEnd a
management_ends w n t e (Some (nonza.Enable resume)) a is = ends_as a _ is tt
management_ends w n t e (Some (nonza.Resume previd h)) a is = resume_ends w t previd h a is
management_ends w n t e (Some nonza.Garbled) a is = ends_as a _ is tt
management_ends w n t e (Some nonza.Ask) a is = ends_as a _ is tt
management_ends w n t e (Some (nonza.Counted h)) a is = ends_as a _ is tt
management_ends w n t e None a is = ends_as a _ is tt

counting_ends : (w n t : ℕ) (z : Option Nonza) (a : Asked) → AsksCounting w n t z a → IsAskedEnd a
counting_ends w n t (Some (nonza.Enable resume)) a is = ends_as a _ is tt
counting_ends w n t (Some (nonza.Resume previd h)) a is = resume_ends w t previd h a is
counting_ends w n t (Some nonza.Garbled) a is = ends_as a _ is tt
counting_ends w n t (Some nonza.Ask) a is = ends_as a _ is tt
counting_ends w n t (Some (nonza.Counted h)) a is = ends_as a _ is tt
counting_ends w n t None a is = ends_as a _ is tt

asked_binding_ends : (id : List ℕ) (resource : Result (Option (List ℕ)) JidFault) → IsAskedEnd (asked_binding id resource)
asked_binding_ends id (Ok resource) = tt
asked_binding_ends id (Err f) = tt

binding_ends : (w n t : ℕ) (e : Element) (b : Option Binding) (a : Asked) → AsksBinding w n t e b a → IsAskedEnd a
binding_ends w n t e (Some b) a is =
    ends_as a (asked_binding b.id (part_of resource_of b.resource)) is (asked_binding_ends b.id (part_of resource_of b.resource))
binding_ends w n t e None a is = management_ends w n t e (nonza_of e) a is

asked_stanza_ends : (w n t : ℕ) (own : Bool) (stanza : Stanza) → IsAskedEnd (asked_stanza w n t own stanza)
asked_stanza_ends w n t true stanza = tt
asked_stanza_ends w n t false stanza = tt

stanza_ends : (w : ℕ) (user : Address) (n t : ℕ) (e : Element) (s : Option Stanza) (a : Asked) → AsksStanza w user n t e s a → IsAskedEnd a
stanza_ends w user n t e (Some s) a is = ends_as a (asked_stanza w n t (is_own user e) s) is (asked_stanza_ends w n t (is_own user e) s)
stanza_ends w user n t e None a is = counting_ends w n t (nonza_of e) a is

pub asks_ends : (w : ℕ) (domain : List ℕ) (n t : ℕ) (stage : Stage) (i : Item) (a : Asked) → Asks w domain n t stage i a → IsAskedEnd a
asks_ends w domain n t stage (item.Header root space) a is = ends_as a _ is (header_ends (header_fault (host_at domain) root space))
asks_ends w domain n t (Login x) (item.Top e) a is = sasl_ends domain n x (sasl_of e) a is
asks_ends w domain n t (Logged user) (item.Top e) a is = binding_ends w n t e (binding_of e) a is
asks_ends w domain n t (Bound user) (item.Top e) a is = stanza_ends w (user_at domain user) n t e (stanza_of e) a is
asks_ends w domain n t stage item.CloseTag a is = ends_as a _ is tt
asks_ends w domain n t stage (item.Broken f k) a is = ends_as a _ is tt

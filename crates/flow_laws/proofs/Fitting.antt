-- What an item asks for meets the conditions of the house.
use Rattle.std.proofs.Common.{◌≡◌, ℕ, ◌+◌, ◌≤◌, ◌∙◌, List, [], ◌∷◌, length, refl, sym, ap, subst, inl, Bool}
use Rattle.std.proofs.Common.{true, false, Option, Some, None, arith, Result, Ok, Err}
use Rattle.std.proofs.lemmas.Bool.{ltb-false, leb-true}
use Rattle.std.specs.Prelude.{if◌then◌else◌, nat_le, codes}
use Rattle.stanza_tree.specs.Attributes.{attr_of}
use Rattle.stanza_tree.specs.Children.{child_of}
use Rattle.stanza_tree.specs.Spelling.{text}
use Rattle.stanza_tree.specs.declared.node.Element.{Element}
use Rattle.jid_core.specs.Addresses.{Address, part_of}
use Rattle.jid_core.specs.Preparation.{resource_of}
use Rattle.jid_core.specs.declared.fault.JidFault.{JidFault}
use Rattle.stanza_model.specs.Nonzas.{nonza_of}
use Rattle.stanza_model.specs.Stanzas.{stanza_of}
use Rattle.stanza_model.specs.declared.nonza.Nonza.{Nonza}
use Rattle.stanza_model.specs.declared.nonza.Nonza.TheVariants as nonza
use Rattle.stanza_model.specs.declared.stanza.Stanza.{Stanza}
use Rattle.stream_grammar.specs.machine.Building.{Building, build_all, told_judged}
use Rattle.stream_grammar.specs.machine.Framing.{Frame, frame_next}
use Rattle.stream_grammar.specs.machine.Ends.{told_at}
use Rattle.stream_grammar.specs.machine.Telling.{fault_told}
use Rattle.stream_grammar.specs.grammar.Proper.{IsProper}
use Rattle.stream_grammar.specs.declared.FrameFault.{FrameFault}
use Rattle.stream_grammar.specs.declared.FrameFault.TheVariants as fault
use Rattle.stream_grammar.specs.declared.item.Item.{Item}
use Rattle.stream_grammar.specs.declared.item.Item.TheVariants as item
use Rattle.stream_grammar.specs.declared.item.Limits.{Limits}
use Rattle.stream_grammar.specs.machine.Reading.{Reading, first_reading, went, reads, stopped, handed, reading_next, waiting}
use Rattle.stream_grammar.specs.machine.Reading.{concluded, or_else, fault_if, is_past, extent_after, byte_judged}
use Rattle.stream_grammar.specs.grammar.Bounds.{rules_of, is_large, is_large_item, told_number}
use Rattle.stream_laws.proofs.ProperItems.{top_proper}
use Rattle.house_model.specs.Histories.{StanzaFits}
use Rattle.conn_asks.specs.declared.asked.Asked.{Asked}
use Rattle.conn_asks.specs.declared.asked.Asked.TheVariants as asked
use Rattle.conn_asks.specs.declared.binding.Binding.{Binding}
use Rattle.conn_asks.specs.declared.ended.HeaderFault.{HeaderFault}
use Rattle.conn_asks.specs.declared.login.Exchanging.{Exchanging}
use Rattle.conn_asks.specs.declared.login.Sasl.{Sasl}
use Rattle.conn_asks.specs.declared.login.Verdict.{Verdict}
use Rattle.conn_asks.specs.declared.login.Verdict.TheVariants.{Invites, Greets, Succeeds, Fails}
use Rattle.conn_asks.specs.declared.stage.Stage.{Stage}
use Rattle.conn_asks.specs.declared.stage.Stage.TheVariants.{Login, Logged, Bound}
use Rattle.conn_asks.specs.Requests.{binding_of, binding_with, bind_space, header_fault, host_at, is_binding_iq, resource_in, user_at}
use Rattle.conn_asks.specs.Logins.{sasl_of}
use Rattle.conn_asks.specs.Asking.{Asks, AsksBinding, AsksCounting, AsksManagement, AsksResume, AsksSasl, AsksStanza}
use Rattle.conn_asks.specs.Asking.{asked_binding, asked_header, asked_stanza, asked_verdict, is_own}
use Rattle.stream_frames.specs.Limits.{limits}
use Rattle.conn_flow.specs.Streams.{item_at}
use Rattle.flow_laws.specs.Standing.{IsFitAt, IsFitFor}

-- A top element is proper, and within the limit on its canonical spelling.

last-none : (a b c : Option FrameFault) (large : Bool) → or_else a (or_else b (or_else c (fault_if large fault.TooLong))) ≡ None → large ≡ false
last-none (Some f) b c large h = absurd (cc)
last-none None (Some f) c large h = absurd (cc)
last-none None None (Some f) large h = absurd (cc)
last-none None None None true h = absurd (cc)
last-none None None None false h = refl

top-of : (l : Limits) (judged : Option FrameFault) (f : Frame) (b : Building) (n k m : ℕ) (e : Element)
    → (judged ≡ None → is_large_item l b.item ≡ false) → waiting (concluded judged (reads f b n k) m) ≡ Some (item.Top e) → is_large l e ≡ false
top-of l (Some g) f b n k m e small h = absurd (cc)
top-of l None f b n k m e small h = ap (is_large_item l) (sym h) ∙ small refl

top-next : (l : Limits) (s : Reading) (byte : ℕ) (e : Element) → waiting (reading_next l s byte) ≡ Some (item.Top e) → is_large l e ≡ false
top-next l (stopped f k) byte e h = absurd (cc)
top-next l (reads f b n k) byte e h =
    top-of l (byte_judged l f b n byte) (frame_next (rules_of l) f byte) (build_all b (told_at f byte))
    (extent_after (frame_next (rules_of l) f byte) n) (told_number (k + 1)) (told_number (k + 1)) e
    (last-none (fault_if (is_past l f (frame_next (rules_of l) f byte) n) fault.TooLong) (fault_told (rules_of l) f byte) (told_judged b (told_at f byte))
    (is_large_item l (build_all b (told_at f byte)).item)) h

went-top : (l : Limits) (s : Reading) (b : ℕ) (bs : List ℕ) (e : Element) → waiting (went l s (b ∷ bs)) ≡ Some (item.Top e) → is_large l e ≡ false
went-top l s b [] e h = top-next l (handed s) b e h
went-top l s b (c ∷ bs) e h = went-top l (reading_next l (handed s) b) c bs e h

top_small : (stream : List ℕ) (e : Element) → item_at stream ≡ Some (item.Top e) → length (text e) ≤ 196608
top_small [] e h = absurd (cc)
top_small (b ∷ bs) e h =
    let within : told_number (length (text e)) ≤ 196608 = ltb-false 196608 (told_number (length (text e))) (went-top limits first_reading b bs e h) in
    omega arith

abbrev pub IsItemFit : Item → Type 0
IsItemFit (item.Top e) = IsProper e × (length (text e) ≤ 196608)
IsItemFit i = Unit {0}

pub item_fits : (stream : List ℕ) (i : Item) → item_at stream ≡ Some i → IsItemFit i
item_fits stream (item.Top e) h = (top_proper limits stream e h, top_small stream e h)
item_fits stream (item.Header e space) h = tt
item_fits stream item.CloseTag h = tt
item_fits stream (item.Broken f k) h = tt

-- What is asked for.

abbrev pub IsAskedFit : ℕ → Asked → Type 0
IsAskedFit w (asked.Submit event) = IsFitAt w event
IsAskedFit w (asked.Draw purpose) = IsFitFor (Some purpose)
IsAskedFit w a = Unit {0}

fits_as : (w : ℕ) (a b : Asked) → a ≡ b → IsAskedFit w b → IsAskedFit w a
fits_as w a b e h = subst (IsAskedFit w) (sym e) h

header_fits : (w : ℕ) (f : Option HeaderFault) → IsAskedFit w (asked_header f)
header_fits w None = tt
header_fits w (Some f) = tt

verdict_fits : (w : ℕ) (v : Verdict) → IsAskedFit w (asked_verdict v)
verdict_fits w (Invites m) = tt
verdict_fits w (Greets m first) = tt
verdict_fits w (Succeeds user success) = tt
verdict_fits w (Fails f) = tt

sasl_fits : (w : ℕ) (domain : List ℕ) (n : ℕ) (x : Exchanging) (s : Option Sasl) (a : Asked) → AsksSasl domain n x s a → IsAskedFit w a
sasl_fits w domain n x (Some s) a (verdict, judged, is) = fits_as w a (asked_verdict verdict) is (verdict_fits w verdict)
sasl_fits w domain n x None a is = fits_as w a _ is tt

resume_fits : (w t : ℕ) (previd : List ℕ) (h : ℕ) (a : Asked) → AsksResume w t previd h a → IsAskedFit w a
resume_fits w t previd h a (id, spelt, is) = fits_as w a _ is (tt, refl)

management_fits : (w n t : ℕ) (e : Element) (z : Option Nonza) (a : Asked) → AsksManagement w n t e z a → IsAskedFit w a
management_fits w n t e (Some (nonza.Enable resume)) a is = fits_as w a _ is tt
management_fits w n t e (Some (nonza.Resume previd h)) a is = resume_fits w t previd h a is
management_fits w n t e (Some nonza.Garbled) a is = fits_as w a _ is tt
management_fits w n t e (Some nonza.Ask) a is = fits_as w a _ is tt
management_fits w n t e (Some (nonza.Counted h)) a is = fits_as w a _ is tt
management_fits w n t e None a is = fits_as w a _ is tt

counting_fits : (w n t : ℕ) (z : Option Nonza) (a : Asked) → AsksCounting w n t z a → IsAskedFit w a
counting_fits w n t (Some (nonza.Enable resume)) a is = fits_as w a _ is tt
counting_fits w n t (Some (nonza.Resume previd h)) a is = resume_fits w t previd h a is
counting_fits w n t (Some nonza.Garbled) a is = fits_as w a _ is tt
counting_fits w n t (Some nonza.Ask) a is = fits_as w a _ is (tt, refl)
counting_fits w n t (Some (nonza.Counted h)) a is = fits_as w a _ is (tt, refl)
counting_fits w n t None a is = fits_as w a _ is tt

-- the id of a binding is short

abbrev id_in : Option Binding → List ℕ
id_in None = []
id_in (Some b) = b.id

id_short : (t : Bool) (id : List ℕ) (resource : Option (List ℕ)) (b : Binding) → nat_le (length id) 65536 ≡ t
    → (if t then Some (let b : Binding = record { id = id; resource = resource } in b) else None) ≡ Some b → length b.id ≤ 65536
id_short true id resource b short h = subst (λ (x : List ℕ). length x ≤ 65536) (ap id_in h) (leb-true (length id) 65536 short)
id_short false id resource b short h = absurd (cc)

binding_short : (t : Bool) (id : Option (List ℕ)) (bind : Option Element) (b : Binding) → (if t then binding_with id bind else None) ≡ Some b
    → length b.id ≤ 65536
binding_short true (Some id) (Some bind) b h = id_short (nat_le (length id) 65536) id (resource_in bind) b refl h
binding_short true (Some id) None b h = absurd (cc)
binding_short true None bind b h = absurd (cc)
binding_short false id bind b h = absurd (cc)

asked_binding_fits : (w : ℕ) (id : List ℕ) (resource : Result (Option (List ℕ)) JidFault) → length id ≤ 65536 → IsAskedFit w (asked_binding id resource)
asked_binding_fits w id (Ok resource) h = h
asked_binding_fits w id (Err f) h = tt

binding_fits : (w n t : ℕ) (e : Element) (b : Option Binding) (a : Asked) → binding_of e ≡ b → AsksBinding w n t e b a → IsAskedFit w a
binding_fits w n t e (Some b) a h is =
    fits_as w a (asked_binding b.id (part_of resource_of b.resource)) is
    (asked_binding_fits w b.id (part_of resource_of b.resource)
    (binding_short (is_binding_iq e) (attr_of (codes "id") e.attrs) (child_of bind_space (codes "bind") e.children) b h))
binding_fits w n t e None a h is = management_fits w n t e (nonza_of e) a is

-- a stanza is what a proper element is that is not too large

asked_stanza_fits : (w n t : ℕ) (own : Bool) (stanza : Stanza) → StanzaFits stanza → IsAskedFit w (asked_stanza w n t own stanza)
asked_stanza_fits w n t true stanza h = (h, refl)
asked_stanza_fits w n t false stanza h = tt

stanza_fits : (w : ℕ) (user : Address) (n t : ℕ) (e : Element) (s : Option Stanza) (a : Asked) → IsItemFit (item.Top e) → stanza_of e ≡ s
    → AsksStanza w user n t e s a → IsAskedFit w a
stanza_fits w user n t e (Some s) a fits h is =
    fits_as w a (asked_stanza w n t (is_own user e) s) is
    (asked_stanza_fits w n t (is_own user e) s (inl (record { element = e; proper = fits.0; small = fits.1; read = h })))
stanza_fits w user n t e None a fits h is = counting_fits w n t (nonza_of e) a is

pub asks_fits : (w : ℕ) (domain : List ℕ) (n t : ℕ) (stage : Stage) (i : Item) (a : Asked) → IsItemFit i → Asks w domain n t stage i a → IsAskedFit w a
asks_fits w domain n t stage (item.Header root space) a fits is = fits_as w a _ is (header_fits w (header_fault (host_at domain) root space))
asks_fits w domain n t (Login x) (item.Top e) a fits is = sasl_fits w domain n x (sasl_of e) a is
asks_fits w domain n t (Logged user) (item.Top e) a fits is = binding_fits w n t e (binding_of e) a refl is
asks_fits w domain n t (Bound user) (item.Top e) a fits is = stanza_fits w (user_at domain user) n t e (stanza_of e) a fits refl is
asks_fits w domain n t stage item.CloseTag a fits is = fits_as w a _ is tt
asks_fits w domain n t stage (item.Broken f k) a fits is = fits_as w a _ is tt

-- A connection tells the house once that it came, and that first.
use Rattle.std.proofs.Common.{◌≡◌, ℕ, ◌+◌, min, List, [], ◌∷◌, Bool, true, false, refl, sym, ap, subst, inl, inr, ◌∙◌, Option, Some, None, Result, Ok, Err}
use Rattle.std.specs.Prelude.{if◌then◌else◌, nat_lt}
use Rattle.stanza_tree.specs.declared.node.Element.{Element}
use Rattle.jid_core.specs.Addresses.{Address, part_of}
use Rattle.jid_core.specs.Preparation.{resource_of}
use Rattle.jid_core.specs.declared.fault.JidFault.{JidFault}
use Rattle.stanza_model.specs.Nonzas.{nonza_of}
use Rattle.stanza_model.specs.Stanzas.{stanza_of}
use Rattle.stanza_model.specs.declared.nonza.Nonza.{Nonza}
use Rattle.stanza_model.specs.declared.nonza.Nonza.TheVariants as nonza
use Rattle.stanza_model.specs.declared.stanza.Stanza.{Stanza}
use Rattle.stream_grammar.specs.declared.item.Item.{Item}
use Rattle.stream_grammar.specs.declared.item.Item.TheVariants as item
use Rattle.house_model.specs.Histories.{Turn}
use Rattle.house_model.specs.declared.event.Event.{Event}
use Rattle.house_model.specs.declared.reply.Reply.{Reply}
use Rattle.house_model.specs.declared.reply.Reply.TheVariants as reply
use Rattle.conn_asks.specs.declared.asked.Asked.{Asked}
use Rattle.conn_asks.specs.declared.asked.Asked.TheVariants as asked
use Rattle.conn_asks.specs.declared.binding.Binding.{Binding}
use Rattle.conn_asks.specs.declared.ended.Ended.{Ended}
use Rattle.conn_asks.specs.declared.ended.Ended.TheVariants as ended
use Rattle.conn_asks.specs.declared.ended.HeaderFault.{HeaderFault}
use Rattle.conn_asks.specs.declared.login.Exchanging.{Exchanging}
use Rattle.conn_asks.specs.declared.login.Sasl.{Sasl}
use Rattle.conn_asks.specs.declared.login.Verdict.{Verdict}
use Rattle.conn_asks.specs.declared.login.Verdict.TheVariants.{Invites, Greets, Succeeds, Fails as FailsLogin}
use Rattle.conn_asks.specs.declared.stage.Purpose.{Purpose}
use Rattle.conn_asks.specs.declared.stage.Purpose.TheVariants.{Challenge, Bind, Enable}
use Rattle.conn_asks.specs.declared.stage.Stage.{Stage}
use Rattle.conn_asks.specs.declared.stage.Stage.TheVariants.{Login, Logged, Bound}
use Rattle.conn_asks.specs.declared.stream_error.StreamError.{StreamError}
use Rattle.conn_asks.specs.StreamErrors.{error_of}
use Rattle.conn_asks.specs.Requests.{binding_of, header_fault, host_at, user_at}
use Rattle.conn_asks.specs.Logins.{sasl_of}
use Rattle.conn_asks.specs.Asking.{Asks, AsksBinding, AsksCounting, AsksManagement, AsksResume, AsksSasl, AsksStanza}
use Rattle.conn_asks.specs.Asking.{asked_binding, asked_header, asked_stanza, asked_verdict, is_own}
use Rattle.conn_flow.specs.Streams.{cut}
use Rattle.conn_flow.specs.Moves.{Move, Hears, Waits, Hangs, Fails, Takes, Says, Sends, Enters, Draws, Stops, turns}
use Rattle.conn_flow.specs.Duties.{AsksIf, Site, Due, Opens, Rest, Text, Id, Dice, Submits, LogsIn, PullsOnce, Pulls, Sweeps, Leaves}
use Rattle.conn_flow.specs.Duties.{Left, Duty, after_failure, answered, answered_login, asked_due, counts_failure, drew, end_due, ends}
use Rattle.conn_flow.specs.Duties.{error_due, follows, is_idle, is_overdue, numbered, pulled, pulled_once, swept, last_event}
use Rattle.conn_flow.specs.Following.{DrawsDue, EntersDue, GoesOn, GoesThrough, SaysDue, Stopped, TakesDue, opening, reply_of, rest_due}
use Rattle.conn_serve.specs.Shifts.{is_opening}
use Rattle.conn_serve.proofs.Marking.{stays_left, unsaid}

-- nothing that is due tells the house of a connection
abbrev pub IsQuiet : List Due → Type 0
IsQuiet [] = Unit {0}
IsQuiet (Opens ∷ rest) = ⊥
IsQuiet (Submits e ∷ rest) = (is_opening e ≡ false) × IsQuiet rest
IsQuiet (Rest bytes ∷ rest) = IsQuiet rest
IsQuiet (Text text ∷ rest) = IsQuiet rest
IsQuiet (Id ∷ rest) = IsQuiet rest
IsQuiet (Dice purpose ∷ rest) = IsQuiet rest
IsQuiet (LogsIn user text ∷ rest) = IsQuiet rest
IsQuiet (PullsOnce ∷ rest) = IsQuiet rest
IsQuiet (Pulls ∷ rest) = IsQuiet rest
IsQuiet (Sweeps ∷ rest) = IsQuiet rest
IsQuiet (Leaves x ∷ rest) = IsQuiet rest
IsQuiet (Left x ∷ rest) = IsQuiet rest

-- Ends.

error_quiet : (o : Site) (v : Duty) (e : Option StreamError) (x : Ended) → IsQuiet (error_due o v e x)
error_quiet o v (Some e) x = tt
error_quiet o v None x = tt

end_quiet : (o : Site) (v : Duty) (x : Ended) → IsQuiet (end_due o v x)
end_quiet o v ended.Closed = tt
end_quiet o v ended.Hung = error_quiet o v (error_of ended.Hung) ended.Hung
end_quiet o v ended.LinkFault = error_quiet o v (error_of ended.LinkFault) ended.LinkFault
end_quiet o v ended.DiceFault = error_quiet o v (error_of ended.DiceFault) ended.DiceFault
end_quiet o v (ended.Broken f k) = error_quiet o v (error_of (ended.Broken f k)) (ended.Broken f k)
end_quiet o v (ended.BadHeader f) = error_quiet o v (error_of (ended.BadHeader f)) (ended.BadHeader f)
end_quiet o v (ended.BadItem f n) = error_quiet o v (error_of (ended.BadItem f n)) (ended.BadItem f n)
end_quiet o v ended.ThirdFailure = error_quiet o v (error_of ended.ThirdFailure) ended.ThirdFailure
end_quiet o v (ended.Idle t) = error_quiet o v (error_of (ended.Idle t)) (ended.Idle t)
end_quiet o v (ended.Over cause) = error_quiet o v (error_of (ended.Over cause)) (ended.Over cause)
end_quiet o v ended.Spent = error_quiet o v (error_of ended.Spent) ended.Spent
end_quiet o v ended.NoMemory = error_quiet o v (error_of ended.NoMemory) ended.NoMemory

rest_quiet : (bytes : List ℕ) → IsQuiet (rest_due bytes)
rest_quiet [] = tt
rest_quiet (b ∷ bytes) = tt

failure_quiet : (o : Site) (c : Duty) (rest : List Due) (few : Bool) → IsQuiet rest → IsQuiet (if few then rest else end_due o c ended.ThirdFailure)
failure_quiet o c rest true h = h
failure_quiet o c rest false h = end_quiet o c ended.ThirdFailure

-- Items.

abbrev pub IsQuietAsked : Asked → Type 0
IsQuietAsked (asked.Submit e) = is_opening e ≡ false
IsQuietAsked a = Unit {0}

asks_as : (a b : Asked) → a ≡ b → IsQuietAsked b → IsQuietAsked a
asks_as a b e h = subst IsQuietAsked (sym e) h

header_quiet : (f : Option HeaderFault) → IsQuietAsked (asked_header f)
header_quiet None = tt
header_quiet (Some f) = tt

verdict_quiet : (v : Verdict) → IsQuietAsked (asked_verdict v)
verdict_quiet (Invites m) = tt
verdict_quiet (Greets m first) = tt
verdict_quiet (Succeeds user success) = tt
verdict_quiet (FailsLogin f) = tt

sasl_quiet : (domain : List ℕ) (n : ℕ) (x : Exchanging) (s : Option Sasl) (a : Asked) → AsksSasl domain n x s a → IsQuietAsked a
sasl_quiet domain n x (Some s) a (verdict, judged, is) = asks_as a (asked_verdict verdict) is (verdict_quiet verdict)
sasl_quiet domain n x None a is = asks_as a _ is tt

resume_quiet : (w t : ℕ) (previd : List ℕ) (h : ℕ) (a : Asked) → AsksResume w t previd h a → IsQuietAsked a
resume_quiet w t previd h a (id, spelt, is) = asks_as a _ is refl

management_quiet : (w n t : ℕ) (e : Element) (z : Option Nonza) (a : Asked) → AsksManagement w n t e z a → IsQuietAsked a
management_quiet w n t e (Some (nonza.Enable resume)) a is = asks_as a _ is tt
management_quiet w n t e (Some (nonza.Resume previd h)) a is = resume_quiet w t previd h a is
management_quiet w n t e (Some nonza.Garbled) a is = asks_as a _ is tt
management_quiet w n t e (Some nonza.Ask) a is = asks_as a _ is tt
management_quiet w n t e (Some (nonza.Counted h)) a is = asks_as a _ is tt
management_quiet w n t e None a is = asks_as a _ is tt

counting_quiet : (w n t : ℕ) (z : Option Nonza) (a : Asked) → AsksCounting w n t z a → IsQuietAsked a
counting_quiet w n t (Some (nonza.Enable resume)) a is = asks_as a _ is tt
counting_quiet w n t (Some (nonza.Resume previd h)) a is = resume_quiet w t previd h a is
counting_quiet w n t (Some nonza.Garbled) a is = asks_as a _ is tt
counting_quiet w n t (Some nonza.Ask) a is = asks_as a _ is refl
counting_quiet w n t (Some (nonza.Counted h)) a is = asks_as a _ is refl
counting_quiet w n t None a is = asks_as a _ is tt

asked_binding_quiet : (id : List ℕ) (resource : Result (Option (List ℕ)) JidFault) → IsQuietAsked (asked_binding id resource)
asked_binding_quiet id (Ok resource) = tt
asked_binding_quiet id (Err f) = tt

binding_quiet : (w n t : ℕ) (e : Element) (b : Option Binding) (a : Asked) → AsksBinding w n t e b a → IsQuietAsked a
binding_quiet w n t e (Some b) a is =
    asks_as a (asked_binding b.id (part_of resource_of b.resource)) is (asked_binding_quiet b.id (part_of resource_of b.resource))
binding_quiet w n t e None a is = management_quiet w n t e (nonza_of e) a is

asked_stanza_quiet : (w n t : ℕ) (own : Bool) (stanza : Stanza) → IsQuietAsked (asked_stanza w n t own stanza)
asked_stanza_quiet w n t true stanza = refl
asked_stanza_quiet w n t false stanza = tt

stanza_quiet : (w : ℕ) (user : Address) (n t : ℕ) (e : Element) (s : Option Stanza) (a : Asked) → AsksStanza w user n t e s a → IsQuietAsked a
stanza_quiet w user n t e (Some s) a is = asks_as a (asked_stanza w n t (is_own user e) s) is (asked_stanza_quiet w n t (is_own user e) s)
stanza_quiet w user n t e None a is = counting_quiet w n t (nonza_of e) a is

asks_quiet : (w : ℕ) (domain : List ℕ) (n t : ℕ) (stage : Stage) (i : Item) (a : Asked) → Asks w domain n t stage i a → IsQuietAsked a
asks_quiet w domain n t stage (item.Header root space) a is = asks_as a _ is (header_quiet (header_fault (host_at domain) root space))
asks_quiet w domain n t (Login x) (item.Top e) a is = sasl_quiet domain n x (sasl_of e) a is
asks_quiet w domain n t (Logged user) (item.Top e) a is = binding_quiet w n t e (binding_of e) a is
asks_quiet w domain n t (Bound user) (item.Top e) a is = stanza_quiet w (user_at domain user) n t e (stanza_of e) a is
asks_quiet w domain n t stage item.CloseTag a is = asks_as a _ is tt
asks_quiet w domain n t stage (item.Broken f k) a is = asks_as a _ is tt

followed_quiet : (pulls : Bool) (rest : List Due) → IsQuiet rest → IsQuiet (if pulls then PullsOnce ∷ rest else rest)
followed_quiet true rest h = h
followed_quiet false rest h = h

asked_quiet : (o : Site) (v : Duty) (a : Asked) (rest : List Due) → IsQuietAsked a → IsQuiet rest → IsQuiet (asked_due o v a rest).due
asked_quiet o v asked.Header rest a h = h
asked_quiet o v (asked.Invite m) rest a h = h
asked_quiet o v (asked.Fail f) rest a h = failure_quiet o (counts_failure v) rest (nat_lt (min (v.failures + 1) 3) 3) h
asked_quiet o v (asked.LogIn user success) rest a h = h
asked_quiet o v (asked.Draw purpose) rest a h = h
asked_quiet o v (asked.RefuseResource id) rest a h = h
asked_quiet o v (asked.Submit event) rest a h = (a, followed_quiet (follows event) rest h)
asked_quiet o v (asked.End x) rest a h = end_quiet o v x

takes_quiet : (o : Site) (v : Duty) (bytes : List ℕ) (i : Option Item) (w : Duty)
    → AsksIf o (record v { stream = (cut v.stream bytes).stream }) i (rest_due (cut v.stream bytes).rest) w → IsQuiet w.due
takes_quiet o v bytes None w is =
    let same : w ≡ record v { stream = (cut v.stream bytes).stream; due = rest_due (cut v.stream bytes).rest } = is in
    subst (λ (u : Duty). IsQuiet u.due) (sym same) (rest_quiet (cut v.stream bytes).rest)
takes_quiet o v bytes (Some i) w (a, asks, is) =
    let u : Duty = numbered (record v { stream = (cut v.stream bytes).stream }) in
    let same : w ≡ asked_due o u a (rest_due (cut v.stream bytes).rest) = is in
    subst (λ (z : Duty). IsQuiet z.due) (sym same)
    (asked_quiet o u a (rest_due (cut v.stream bytes).rest) (asks_quiet o.line o.domain (numbered v).number v.moment v.stage i a asks)
    (rest_quiet (cut v.stream bytes).rest))

takes_now : (o : Site) (v : Duty) (due : List Due) (w : Duty) → TakesDue o v due w → IsQuiet w.due
takes_now o v (Rest bytes ∷ rest) w h = takes_quiet o v bytes (cut v.stream bytes).item w h
takes_now o v [] w h = absurd h
takes_now o v (Opens ∷ rest) w h = absurd h
takes_now o v (Text said ∷ rest) w h = absurd h
takes_now o v (Id ∷ rest) w h = absurd h
takes_now o v (Dice purpose ∷ rest) w h = absurd h
takes_now o v (Submits event ∷ rest) w h = absurd h
takes_now o v (LogsIn user said ∷ rest) w h = absurd h
takes_now o v (PullsOnce ∷ rest) w h = absurd h
takes_now o v (Pulls ∷ rest) w h = absurd h
takes_now o v (Sweeps ∷ rest) w h = absurd h
takes_now o v (Leaves y ∷ rest) w h = absurd h
takes_now o v (Left y ∷ rest) w h = absurd h

-- Replies.

answered_quiet : (o : Site) (v : Duty) (r : Option Reply) (rest : List Due) → IsQuiet rest → IsQuiet (answered o v r rest).due
answered_quiet o v (Some (reply.Over cause)) rest h = end_quiet o v (ended.Over cause)
answered_quiet o v (Some (reply.Opened n)) rest h = h
answered_quiet o v (Some reply.Done) rest h = h
answered_quiet o v (Some reply.Bound) rest h = h
answered_quiet o v (Some reply.Resumed) rest h = h
answered_quiet o v (Some reply.Frame) rest h = h
answered_quiet o v (Some (reply.Nothing due)) rest h = h
answered_quiet o v (Some (reply.Swept n)) rest h = h
answered_quiet o v (Some reply.Absent) rest h = h
answered_quiet o v (Some reply.Unready) rest h = h
answered_quiet o v (Some reply.NoUser) rest h = h
answered_quiet o v None rest h = tt

refused_quiet : (o : Site) (v : Duty) (rest : List Due) → IsQuiet rest → IsQuiet (after_failure o (counts_failure v) rest)
refused_quiet o v rest h = failure_quiet o (counts_failure v) rest (nat_lt (min (v.failures + 1) 3) 3) h

login_quiet : (o : Site) (v : Duty) (user text : List ℕ) (r : Option Reply) (rest : List Due) → IsQuiet rest → IsQuiet (answered_login o v user text r rest).due
login_quiet o v user text (Some (reply.Over cause)) rest h = end_quiet o v (ended.Over cause)
login_quiet o v user text (Some reply.Done) rest h = h
login_quiet o v user text (Some (reply.Opened n)) rest h = refused_quiet o v rest h
login_quiet o v user text (Some reply.Bound) rest h = refused_quiet o v rest h
login_quiet o v user text (Some reply.Resumed) rest h = refused_quiet o v rest h
login_quiet o v user text (Some reply.Frame) rest h = refused_quiet o v rest h
login_quiet o v user text (Some (reply.Nothing due)) rest h = refused_quiet o v rest h
login_quiet o v user text (Some (reply.Swept n)) rest h = refused_quiet o v rest h
login_quiet o v user text (Some reply.Absent) rest h = refused_quiet o v rest h
login_quiet o v user text (Some reply.Unready) rest h = refused_quiet o v rest h
login_quiet o v user text (Some reply.NoUser) rest h = refused_quiet o v rest h
login_quiet o v user text None rest h = tt

once_quiet : (o : Site) (v : Duty) (r : Option Reply) (rest : List Due) → IsQuiet rest → IsQuiet (pulled_once o v r rest).due
once_quiet o v (Some (reply.Over cause)) rest h = end_quiet o v (ended.Over cause)
once_quiet o v (Some (reply.Opened n)) rest h = h
once_quiet o v (Some reply.Done) rest h = h
once_quiet o v (Some reply.Bound) rest h = h
once_quiet o v (Some reply.Resumed) rest h = h
once_quiet o v (Some reply.Frame) rest h = h
once_quiet o v (Some (reply.Nothing due)) rest h = h
once_quiet o v (Some (reply.Swept n)) rest h = h
once_quiet o v (Some reply.Absent) rest h = h
once_quiet o v (Some reply.Unready) rest h = h
once_quiet o v (Some reply.NoUser) rest h = h
once_quiet o v None rest h = h

pulls_quiet : (o : Site) (v : Duty) (r : Option Reply) → IsQuiet (pulled o v r).due
pulls_quiet o v (Some (reply.Over cause)) = end_quiet o v (ended.Over cause)
pulls_quiet o v (Some reply.Frame) = tt
pulls_quiet o v (Some (reply.Nothing true)) = tt
pulls_quiet o v (Some (reply.Nothing false)) = tt
pulls_quiet o v (Some (reply.Opened n)) = tt
pulls_quiet o v (Some reply.Done) = tt
pulls_quiet o v (Some reply.Bound) = tt
pulls_quiet o v (Some reply.Resumed) = tt
pulls_quiet o v (Some (reply.Swept n)) = tt
pulls_quiet o v (Some reply.Absent) = tt
pulls_quiet o v (Some reply.Unready) = tt
pulls_quiet o v (Some reply.NoUser) = tt
pulls_quiet o v None = tt

sweeps_quiet : (v : Duty) (r : Option Reply) → IsQuiet (swept v r).due
sweeps_quiet v (Some r) = tt
sweeps_quiet v None = tt

last_quiet : (o : Site) (v : Duty) (x : Ended) → is_opening (last_event o v x) ≡ false
last_quiet o v ended.Closed = refl
last_quiet o v ended.Hung = refl
last_quiet o v ended.LinkFault = refl
last_quiet o v ended.DiceFault = refl
last_quiet o v (ended.Broken f k) = refl
last_quiet o v (ended.BadHeader f) = refl
last_quiet o v (ended.BadItem f n) = refl
last_quiet o v ended.ThirdFailure = refl
last_quiet o v (ended.Idle t) = refl
last_quiet o v (ended.Over cause) = refl
last_quiet o v ended.Spent = refl
last_quiet o v ended.NoMemory = refl

-- what an entry leaves due, and that it tells of no connection
enters_quiet : (o : Site) (v : Duty) (due : List Due) (e : Event) (r : Option Reply) (next : Duty) → EntersDue o v due e r next → IsQuiet due
    → (is_opening e ≡ false) × IsQuiet next.due
enters_quiet o v (Submits y ∷ rest) e r next (event, is) (none, h) =
    (ap is_opening event ∙ none, subst (λ (u : Duty). IsQuiet u.due) (sym is) (answered_quiet o v r rest h))
enters_quiet o v (LogsIn user text ∷ rest) e r next (event, is) h =
    (ap is_opening event, subst (λ (u : Duty). IsQuiet u.due) (sym is) (login_quiet o v user text r rest h))
enters_quiet o v (PullsOnce ∷ rest) e r next (event, is) h =
    (ap is_opening event, subst (λ (u : Duty). IsQuiet u.due) (sym is) (once_quiet o v r rest h))
enters_quiet o v (Pulls ∷ rest) e r next (event, is) h = (ap is_opening event, subst (λ (u : Duty). IsQuiet u.due) (sym is) (pulls_quiet o v r))
enters_quiet o v (Sweeps ∷ rest) e r next (event, is) h = (ap is_opening event, subst (λ (u : Duty). IsQuiet u.due) (sym is) (sweeps_quiet v r))
enters_quiet o v (Leaves y ∷ rest) e r next (owes, event, is) h =
    (ap is_opening event ∙ last_quiet o v y, subst (λ (u : Duty). IsQuiet u.due) (sym is) tt)
enters_quiet o v (Opens ∷ rest) e r next entered h = absurd h
enters_quiet o v [] e r next entered h = absurd entered
enters_quiet o v (Rest bytes ∷ rest) e r next entered h = absurd entered
enters_quiet o v (Text text ∷ rest) e r next entered h = absurd entered
enters_quiet o v (Id ∷ rest) e r next entered h = absurd entered
enters_quiet o v (Dice purpose ∷ rest) e r next entered h = absurd entered
enters_quiet o v (Left y ∷ rest) e r next entered h = absurd entered

-- Texts, random bytes, and ends that come from no reading, item or reply.

says_quiet : (v : Duty) (due : List Due) (text : List ℕ) (w : Duty) → SaysDue v due text w → IsQuiet due → IsQuiet w.due
says_quiet v (Text said ∷ rest) text w (same, is) h = subst (λ (u : Duty). IsQuiet u.due) (sym is) h
says_quiet v [] text w said h = absurd said
says_quiet v (Opens ∷ rest) text w said h = absurd said
says_quiet v (Rest bytes ∷ rest) text w said h = absurd said
says_quiet v (Id ∷ rest) text w said h = absurd said
says_quiet v (Dice purpose ∷ rest) text w said h = absurd said
says_quiet v (Submits event ∷ rest) text w said h = absurd said
says_quiet v (LogsIn user t ∷ rest) text w said h = absurd said
says_quiet v (PullsOnce ∷ rest) text w said h = absurd said
says_quiet v (Pulls ∷ rest) text w said h = absurd said
says_quiet v (Sweeps ∷ rest) text w said h = absurd said
says_quiet v (Leaves y ∷ rest) text w said h = absurd said
says_quiet v (Left y ∷ rest) text w said h = absurd said

drew_quiet : (o : Site) (v : Duty) (purpose : Purpose) (dice : List ℕ) (rest : List Due) → IsQuiet rest → IsQuiet (drew o v purpose dice rest).due
drew_quiet o v (Challenge m first) dice rest h = h
drew_quiet o v (Bind id resource) dice rest h = (refl, h)
drew_quiet o v (Enable resume) dice rest h = (refl, h)

draws_quiet : (o : Site) (v : Duty) (due : List Due) (dice : List ℕ) (w : Duty) → DrawsDue o v due dice w → IsQuiet due → IsQuiet w.due
draws_quiet o v (Id ∷ rest) dice w (long, is) h = subst (λ (u : Duty). IsQuiet u.due) (sym is) h
draws_quiet o v (Dice purpose ∷ rest) dice w (long, is) h = subst (λ (u : Duty). IsQuiet u.due) (sym is) (drew_quiet o v purpose dice rest h)
draws_quiet o v [] dice w drawn h = absurd drawn
draws_quiet o v (Opens ∷ rest) dice w drawn h = absurd drawn
draws_quiet o v (Rest bytes ∷ rest) dice w drawn h = absurd drawn
draws_quiet o v (Text said ∷ rest) dice w drawn h = absurd drawn
draws_quiet o v (Submits event ∷ rest) dice w drawn h = absurd drawn
draws_quiet o v (LogsIn user said ∷ rest) dice w drawn h = absurd drawn
draws_quiet o v (PullsOnce ∷ rest) dice w drawn h = absurd drawn
draws_quiet o v (Pulls ∷ rest) dice w drawn h = absurd drawn
draws_quiet o v (Sweeps ∷ rest) dice w drawn h = absurd drawn
draws_quiet o v (Leaves y ∷ rest) dice w drawn h = absurd drawn
draws_quiet o v (Left y ∷ rest) dice w drawn h = absurd drawn

late_quiet : (o : Site) (v w : Duty) (t : ℕ) (late : Bool) → IsQuiet w.due → IsQuiet (if late then ends o v (ended.Idle t) else w).due
late_quiet o v w t true h = end_quiet o v (ended.Idle t)
late_quiet o v w t false h = h

stops_quiet : (v : Duty) (y : Ended) (w : Duty) → Stopped v y w → IsQuiet w.due
stops_quiet v ended.DiceFault w (may, is) = subst (λ (u : Duty). IsQuiet u.due) (sym is) tt
stops_quiet v ended.Spent w (may, is) = subst (λ (u : Duty). IsQuiet u.due) (sym is) tt
stops_quiet v ended.NoMemory w (may, is) = subst (λ (u : Duty). IsQuiet u.due) (sym is) tt
stops_quiet v ended.Closed w h = absurd h
stops_quiet v ended.Hung w h = absurd h
stops_quiet v ended.LinkFault w h = absurd h
stops_quiet v (ended.Broken g k) w h = absurd h
stops_quiet v (ended.BadHeader g) w h = absurd h
stops_quiet v (ended.BadItem g k) w h = absurd h
stops_quiet v ended.ThirdFailure w h = absurd h
stops_quiet v (ended.Idle t) w h = absurd h
stops_quiet v (ended.Over cause) w h = absurd h

-- Once it was told, it isn't told again.

abbrev pub NoneOpens : List Turn → Type 0
NoneOpens [] = Unit {0}
NoneOpens (x ∷ more) = (is_opening x.event ≡ false) × NoneOpens more

quiet_next : (o : Site) (v : Duty) (m : Move) (w : Duty) → GoesOn o v m w → IsQuiet v.due → IsQuiet w.due
quiet_next o v (Hears bytes t) w (owes, none, some, is) h =
    subst (λ (u : Duty). IsQuiet u.due) (sym is)
    (late_quiet o (record v { moment = t }) (record v { heard = t; moment = t; due = Rest bytes ∷ [] }) t (is_overdue v.stage v.opened t) tt)
quiet_next o v (Waits t) w (owes, none, is) h =
    subst (λ (u : Duty). IsQuiet u.due) (sym is)
    (late_quiet o (record v { moment = t }) (record v { moment = t; due = Pulls ∷ [] }) t (is_idle v.stage v.opened v.heard t) tt)
quiet_next o v (Hangs t) w (owes, none, is) h = subst (λ (u : Duty). IsQuiet u.due) (sym is) (end_quiet o (record v { moment = t }) ended.Hung)
quiet_next o v (Fails t) w (may, is) h = subst (λ (u : Duty). IsQuiet u.due) (sym is) tt
quiet_next o v Takes w taken h = takes_now o v v.due w taken
quiet_next o v (Says text) w said h = says_quiet v v.due text w said h
quiet_next o v (Sends bytes) w (some, sent, is) h = subst (λ (u : Duty). IsQuiet u.due) (sym is) h
quiet_next o v (Enters turn) w (next, entered, is) h =
    subst (λ (u : Duty). IsQuiet u.due) (sym is) (enters_quiet o v v.due turn.event (reply_of turn.outcome) next entered h).1
quiet_next o v (Draws dice) w drawn h = draws_quiet o v v.due dice w drawn h
quiet_next o v (Stops y) w stopped h = stops_quiet v y w stopped

quiet_through : (o : Site) (v : Duty) (ms : List Move) (w : Duty) → GoesThrough o v ms w → IsQuiet v.due → NoneOpens (turns ms)
quiet_through o v [] w h q = tt
quiet_through o v (Hears bytes t ∷ ms) w (mid, goes, more) q = quiet_through o mid ms w more (quiet_next o v (Hears bytes t) mid goes q)
quiet_through o v (Waits t ∷ ms) w (mid, goes, more) q = quiet_through o mid ms w more (quiet_next o v (Waits t) mid goes q)
quiet_through o v (Hangs t ∷ ms) w (mid, goes, more) q = quiet_through o mid ms w more (quiet_next o v (Hangs t) mid goes q)
quiet_through o v (Fails t ∷ ms) w (mid, goes, more) q = quiet_through o mid ms w more (quiet_next o v (Fails t) mid goes q)
quiet_through o v (Takes ∷ ms) w (mid, goes, more) q = quiet_through o mid ms w more (quiet_next o v Takes mid goes q)
quiet_through o v (Says text ∷ ms) w (mid, goes, more) q = quiet_through o mid ms w more (quiet_next o v (Says text) mid goes q)
quiet_through o v (Sends bytes ∷ ms) w (mid, goes, more) q = quiet_through o mid ms w more (quiet_next o v (Sends bytes) mid goes q)
quiet_through o v (Draws dice ∷ ms) w (mid, goes, more) q = quiet_through o mid ms w more (quiet_next o v (Draws dice) mid goes q)
quiet_through o v (Stops y ∷ ms) w (mid, goes, more) q = quiet_through o mid ms w more (quiet_next o v (Stops y) mid goes q)
quiet_through o v (Enters turn ∷ ms) w (mid, goes, more) q = (
  (enters_quiet o v v.due turn.event (reply_of turn.outcome) goes.0 goes.1 q).0,
  quiet_through o mid ms w more (quiet_next o v (Enters turn) mid goes q),
)

-- the turns of a connection: the first tells of it
pub record IsPiece (piece : List Turn) : Type 0 where
  pub first : Turn
  pub rest : List Turn
  pub split : piece ≡ first ∷ rest
  pub opens : is_opening first.event ≡ true
  pub none : NoneOpens rest

some_opens : (rest : List Due) → Opens ∷ rest ≡ [] → ⊥
some_opens rest h = cc

same_left : (x y : Ended) → Left x ∷ [] ≡ Left y ∷ [] → x ≡ y
same_left x y h = cc

stopped_first : (o : Site) (t : ℕ) (y : Ended) (mid w : Duty) (x : Ended) (ms : List Move) → (x ≡ ended.Spent → ⊥) → w.due ≡ Left x ∷ []
    → Stopped (opening o t) y mid → GoesThrough o mid ms w → ⊥
stopped_first o t ended.Spent mid w x ms not left (may, is) more =
    let due : mid.due ≡ Left ended.Spent ∷ [] = ap (λ (u : Duty). u.due) is in
    let owed : mid.owed ≡ [] = ap (λ (u : Duty). u.owed) is in
    not (same_left x ended.Spent (sym left ∙ ap (λ (u : Duty). u.due) (stays_left o mid w ended.Spent ms due owed more) ∙ due))
stopped_first o t ended.NoMemory mid w x ms not left (inl may, is) more = absurd (let e : false ≡ true = may in cc)
stopped_first o t ended.NoMemory mid w x ms not left (inr some, is) more = absurd (some refl)
stopped_first o t ended.DiceFault mid w x ms not left (may, is) more = absurd (let e : false ≡ true = may in cc)
stopped_first o t ended.Closed mid w x ms not left h more = h
stopped_first o t ended.Hung mid w x ms not left h more = h
stopped_first o t ended.LinkFault mid w x ms not left h more = h
stopped_first o t (ended.Broken g k) mid w x ms not left h more = h
stopped_first o t (ended.BadHeader g) mid w x ms not left h more = h
stopped_first o t (ended.BadItem g k) mid w x ms not left h more = h
stopped_first o t ended.ThirdFailure mid w x ms not left h more = h
stopped_first o t (ended.Idle u) mid w x ms not left h more = h
stopped_first o t (ended.Over cause) mid w x ms not left h more = h

pub is_piece : (o : Site) (t : ℕ) (ms : List Move) (w : Duty) (x : Ended) → (x ≡ ended.Spent → ⊥) → GoesThrough o (opening o t) ms w → w.due ≡ Left x ∷ []
    → IsPiece (turns ms)
is_piece o t [] w x not h left = absurd (let e : Opens ∷ Id ∷ [] ≡ Left x ∷ [] = sym (ap (λ (u : Duty). u.due) h) ∙ left in cc)
is_piece o t (Hears bytes u ∷ ms) w x not (mid, goes, more) left = absurd (some_opens (Id ∷ []) goes.1)
is_piece o t (Waits u ∷ ms) w x not (mid, goes, more) left = absurd (some_opens (Id ∷ []) goes.1)
is_piece o t (Hangs u ∷ ms) w x not (mid, goes, more) left = absurd (some_opens (Id ∷ []) goes.1)
is_piece o t (Fails u ∷ ms) w x not (mid, (inl none, is), more) left = absurd (some_opens (Id ∷ []) none)
is_piece o t (Fails u ∷ ms) w x not (mid, (inr some, is), more) left = absurd (some refl)
is_piece o t (Takes ∷ ms) w x not (mid, goes, more) left = absurd goes
is_piece o t (Says text ∷ ms) w x not (mid, goes, more) left = absurd goes
is_piece o t (Sends bytes ∷ ms) w x not (mid, (some, sent, is), more) left = absurd (unsaid [] bytes mid.owed refl some sent)
is_piece o t (Draws dice ∷ ms) w x not (mid, goes, more) left = absurd goes
is_piece o t (Stops y ∷ ms) w x not (mid, goes, more) left = absurd (stopped_first o t y mid w x ms not left goes more)
is_piece o t (Enters turn ∷ ms) w x not (mid, (next, (event, entered), is), more) left =
    let due : mid.due ≡ Id ∷ [] = ap (λ (u : Duty). u.due) is ∙ ap (λ (u : Duty). u.due) entered in
    record {
      first = turn;
      rest = turns ms;
      split = refl;
      opens = ap is_opening event;
      none = quiet_through o mid ms w more (subst IsQuiet (sym due) tt);
    }

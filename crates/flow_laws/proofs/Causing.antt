-- Each end has a move that made it.
use Rattle.std.proofs.Common.{◌≡◌, ◌⊎◌, ℕ, ◌+◌, ◌≤◌, ◌&&◌, ◌||◌, min, List, [], ◌∷◌, ◌++◌}
use Rattle.std.proofs.Common.{refl, sym, ap, ◌∙◌, subst, inl, inr, Bool, true, false, Option, Some, None}
use Rattle.std.proofs.lemmas.Bool.{leb-true}
use Rattle.std.specs.Prelude.{if◌then◌else◌, nat_le, nat_lt}
use Rattle.sm_resume.specs.declared.decision.Cause.{Cause}
use Rattle.house_model.specs.Histories.{Turn, Outcome, Made, Short}
use Rattle.house_model.specs.declared.event.Event.{Event}
use Rattle.house_model.specs.declared.reply.Reply.{Reply}
use Rattle.house_model.specs.declared.reply.Reply.TheVariants as reply
use Rattle.conn_asks.specs.declared.ended.Ended.{Ended}
use Rattle.conn_asks.specs.declared.ended.Ended.TheVariants as ended
use Rattle.conn_asks.specs.declared.stage.Purpose.{Purpose}
use Rattle.conn_asks.specs.declared.stage.Purpose.TheVariants.{Challenge, Bind, Enable}
use Rattle.conn_flow.specs.Moves.{Move, Hears, Waits, Hangs, Fails, Takes, Says, Sends, Enters, Draws, Stops}
use Rattle.conn_flow.specs.Duties.{Site, Due, Opens, Rest, Text, Id, Dice, Submits, LogsIn, PullsOnce, Pulls, Sweeps, Leaves, Left, Duty}
use Rattle.conn_flow.specs.Duties.{answered, answered_login, counts_failure, drew, ends, is_idle, is_overdue, is_unknown, pulled, pulled_once, swept}
use Rattle.conn_flow.specs.Following.{DrawsDue, EntersDue, GoesOn, GoesThrough, SaysDue, Stopped, opening, reply_of}
use Rattle.flow_laws.specs.Causes.{IsCaused, IsForced, IsOverdue, Makes, MakesNone}
use Rattle.flow_laws.proofs.DueEnds.{IsDue, IsThirdTo, end_only, failed_due, only, only_left, takes_now}

-- A reply.

abbrev ByReply : Duty → Option Reply → Duty → Ended → Type 0
ByReply v r next x =
    ((cause : Cause) × (r ≡ Some (reply.Over cause)) × (x ≡ ended.Over cause)) ⊎ (((r ≡ None) × (x ≡ ended.NoMemory)) ⊎ IsThirdTo v next x)

answered_ends : (o : Site) (v : Duty) (r : Option Reply) (rest : List Due) (x : Ended) → IsDue x (answered o v r rest).due
    → IsDue x rest ⊎ ByReply v r (answered o v r rest) x
answered_ends o v (Some (reply.Opened n)) rest x d = inl d
answered_ends o v (Some reply.Done) rest x d = inl d
answered_ends o v (Some reply.Bound) rest x d = inl d
answered_ends o v (Some reply.Resumed) rest x d = inl d
answered_ends o v (Some reply.Frame) rest x d = inl d
answered_ends o v (Some (reply.Nothing due)) rest x d = inl d
answered_ends o v (Some (reply.Swept n)) rest x d = inl d
answered_ends o v (Some (reply.Over cause)) rest x d = inr (inl (cause, refl, end_only o v x (ended.Over cause) d))
answered_ends o v (Some reply.Absent) rest x d = inl d
answered_ends o v (Some reply.Unready) rest x d = inl d
answered_ends o v (Some reply.NoUser) rest x d = inl d
answered_ends o v None rest x d = inr (inr (inl (refl, only x ended.NoMemory d)))

login_ends : (o : Site) (v : Duty) (user text : List ℕ) (r : Option Reply) (rest : List Due) (x : Ended) → IsDue x (answered_login o v user text r rest).due
    → IsDue x rest ⊎ ByReply v r (answered_login o v user text r rest) x
login_ends o v user text (Some (reply.Opened n)) rest x d =
    elim (failed_due o v (counts_failure v) rest x (nat_lt (min (v.failures + 1) 3) 3) refl d) [ inl k ↦ inl k | inr third ↦ inr (inr (inr third)) ]
login_ends o v user text (Some reply.Done) rest x d = inl d
login_ends o v user text (Some reply.Bound) rest x d =
    elim (failed_due o v (counts_failure v) rest x (nat_lt (min (v.failures + 1) 3) 3) refl d) [ inl k ↦ inl k | inr third ↦ inr (inr (inr third)) ]
login_ends o v user text (Some reply.Resumed) rest x d =
    elim (failed_due o v (counts_failure v) rest x (nat_lt (min (v.failures + 1) 3) 3) refl d) [ inl k ↦ inl k | inr third ↦ inr (inr (inr third)) ]
login_ends o v user text (Some reply.Frame) rest x d =
    elim (failed_due o v (counts_failure v) rest x (nat_lt (min (v.failures + 1) 3) 3) refl d) [ inl k ↦ inl k | inr third ↦ inr (inr (inr third)) ]
login_ends o v user text (Some (reply.Nothing due)) rest x d =
    elim (failed_due o v (counts_failure v) rest x (nat_lt (min (v.failures + 1) 3) 3) refl d) [ inl k ↦ inl k | inr third ↦ inr (inr (inr third)) ]
login_ends o v user text (Some (reply.Swept n)) rest x d =
    elim (failed_due o v (counts_failure v) rest x (nat_lt (min (v.failures + 1) 3) 3) refl d) [ inl k ↦ inl k | inr third ↦ inr (inr (inr third)) ]
login_ends o v user text (Some (reply.Over cause)) rest x d = inr (inl (cause, refl, end_only o v x (ended.Over cause) d))
login_ends o v user text (Some reply.Absent) rest x d =
    elim (failed_due o v (counts_failure v) rest x (nat_lt (min (v.failures + 1) 3) 3) refl d) [ inl k ↦ inl k | inr third ↦ inr (inr (inr third)) ]
login_ends o v user text (Some reply.Unready) rest x d =
    elim (failed_due o v (counts_failure v) rest x (nat_lt (min (v.failures + 1) 3) 3) refl d) [ inl k ↦ inl k | inr third ↦ inr (inr (inr third)) ]
login_ends o v user text (Some reply.NoUser) rest x d =
    elim (failed_due o v (counts_failure v) rest x (nat_lt (min (v.failures + 1) 3) 3) refl d) [ inl k ↦ inl k | inr third ↦ inr (inr (inr third)) ]
login_ends o v user text None rest x d = inr (inr (inl (refl, only x ended.NoMemory d)))

once_ends : (o : Site) (v : Duty) (r : Option Reply) (rest : List Due) (x : Ended) → IsDue x (pulled_once o v r rest).due
    → IsDue x rest ⊎ ByReply v r (pulled_once o v r rest) x
once_ends o v (Some (reply.Opened n)) rest x d = inl d
once_ends o v (Some reply.Done) rest x d = inl d
once_ends o v (Some reply.Bound) rest x d = inl d
once_ends o v (Some reply.Resumed) rest x d = inl d
once_ends o v (Some reply.Frame) rest x d = inl d
once_ends o v (Some (reply.Nothing due)) rest x d = inl d
once_ends o v (Some (reply.Swept n)) rest x d = inl d
once_ends o v (Some (reply.Over cause)) rest x d = inr (inl (cause, refl, end_only o v x (ended.Over cause) d))
once_ends o v (Some reply.Absent) rest x d = inl d
once_ends o v (Some reply.Unready) rest x d = inl d
once_ends o v (Some reply.NoUser) rest x d = inl d
once_ends o v None rest x d = inl d

pulls_ends : (o : Site) (v : Duty) (r : Option Reply) (rest : List Due) (x : Ended) → IsDue x (pulled o v r).due → IsDue x rest ⊎ ByReply v r (pulled o v r) x
pulls_ends o v (Some (reply.Opened n)) rest x d = absurd d
pulls_ends o v (Some reply.Done) rest x d = absurd d
pulls_ends o v (Some reply.Bound) rest x d = absurd d
pulls_ends o v (Some reply.Resumed) rest x d = absurd d
pulls_ends o v (Some reply.Frame) rest x d = absurd d
pulls_ends o v (Some (reply.Nothing true)) rest x d = absurd d
pulls_ends o v (Some (reply.Nothing false)) rest x d = absurd d
pulls_ends o v (Some (reply.Swept n)) rest x d = absurd d
pulls_ends o v (Some (reply.Over cause)) rest x d = inr (inl (cause, refl, end_only o v x (ended.Over cause) d))
pulls_ends o v (Some reply.Absent) rest x d = absurd d
pulls_ends o v (Some reply.Unready) rest x d = absurd d
pulls_ends o v (Some reply.NoUser) rest x d = absurd d
pulls_ends o v None rest x d = absurd d

sweeps_ends_none : (v : Duty) (r : Option Reply) (x : Ended) → IsDue x (swept v r).due → ⊥
sweeps_ends_none v (Some r) x d = d
sweeps_ends_none v None x d = d

enters_ends : (o : Site) (v : Duty) (due : List Due) (e : Event) (r : Option Reply) (next : Duty) (x : Ended) → EntersDue o v due e r next
    → IsDue x next.due → IsDue x due ⊎ ByReply v r next x
enters_ends o v (Opens ∷ rest) e r next x (event, is) d = inl (subst (λ (u : Duty). IsDue x u.due) is d)
enters_ends o v (Submits y ∷ rest) e r next x (event, is) d =
    subst (λ (u : Duty). IsDue x u.due → IsDue x rest ⊎ ByReply v r u x) (sym is) (answered_ends o v r rest x) d
enters_ends o v (LogsIn user text ∷ rest) e r next x (event, is) d =
    subst (λ (u : Duty). IsDue x u.due → IsDue x rest ⊎ ByReply v r u x) (sym is) (login_ends o v user text r rest x) d
enters_ends o v (PullsOnce ∷ rest) e r next x (event, is) d =
    subst (λ (u : Duty). IsDue x u.due → IsDue x rest ⊎ ByReply v r u x) (sym is) (once_ends o v r rest x) d
enters_ends o v (Pulls ∷ rest) e r next x (event, is) d =
    subst (λ (u : Duty). IsDue x u.due → IsDue x rest ⊎ ByReply v r u x) (sym is) (pulls_ends o v r rest x) d
enters_ends o v (Sweeps ∷ rest) e r next x (event, is) d = absurd (sweeps_ends_none v r x (subst (λ (u : Duty). IsDue x u.due) is d))
enters_ends o v (Leaves y ∷ rest) e r next x (owes, event, is) d = inl (inl (only_left x y (subst (λ (u : Duty). IsDue x u.due) is d)))
enters_ends o v [] e r next x h d = absurd h
enters_ends o v (Rest bytes ∷ rest) e r next x h d = absurd h
enters_ends o v (Text text ∷ rest) e r next x h d = absurd h
enters_ends o v (Id ∷ rest) e r next x h d = absurd h
enters_ends o v (Dice purpose ∷ rest) e r next x h d = absurd h
enters_ends o v (Left y ∷ rest) e r next x h d = absurd h

made_of : (out : Outcome) (r : Reply) → reply_of out ≡ Some r → (text : List ℕ) × (out ≡ Made r text)
made_of (Made y text) r h = (text, ap (λ (z : Reply). Made z text) (let k : Some y ≡ Some r = h in cc))
made_of Short r h = absurd (let k : None ≡ Some r = h in cc)

short_of : (out : Outcome) → reply_of out ≡ None → out ≡ Short
short_of (Made y text) h = absurd (let k : Some y ≡ None = h in cc)
short_of Short h = refl

reply_makes : (o : Site) (v : Duty) (turn : Turn) (next w : Duty) (x : Ended) → w.failures ≡ next.failures → ByReply v (reply_of turn.outcome) next x
    → Makes o v (Enters turn) w x
reply_makes o v turn next w x same (inl (cause, is, e)) =
    subst (λ (y : Ended). Makes o v (Enters turn) w y) (sym e) (made_of turn.outcome (reply.Over cause) is)
reply_makes o v turn next w x same (inr (inl (is, e))) = subst (λ (y : Ended). Makes o v (Enters turn) w y) (sym e) (short_of turn.outcome is)
reply_makes o v turn next w x same (inr (inr (e, two, three))) = subst (λ (y : Ended). Makes o v (Enters turn) w y) (sym e) (two, same ∙ three)

-- A text and random bytes.

says_ends : (v : Duty) (due : List Due) (text : List ℕ) (w : Duty) (x : Ended) → SaysDue v due text w → IsDue x w.due → IsDue x due
says_ends v (Text said ∷ rest) text w x (same, is) d = subst (λ (u : Duty). IsDue x u.due) is d
says_ends v [] text w x h d = absurd h
says_ends v (Opens ∷ rest) text w x h d = absurd h
says_ends v (Rest bytes ∷ rest) text w x h d = absurd h
says_ends v (Id ∷ rest) text w x h d = absurd h
says_ends v (Dice purpose ∷ rest) text w x h d = absurd h
says_ends v (Submits event ∷ rest) text w x h d = absurd h
says_ends v (LogsIn user said ∷ rest) text w x h d = absurd h
says_ends v (PullsOnce ∷ rest) text w x h d = absurd h
says_ends v (Pulls ∷ rest) text w x h d = absurd h
says_ends v (Sweeps ∷ rest) text w x h d = absurd h
says_ends v (Leaves y ∷ rest) text w x h d = absurd h
says_ends v (Left y ∷ rest) text w x h d = absurd h

drew_ends : (o : Site) (v : Duty) (purpose : Purpose) (dice : List ℕ) (rest : List Due) (x : Ended) → IsDue x (drew o v purpose dice rest).due → IsDue x rest
drew_ends o v (Challenge m first) dice rest x d = d
drew_ends o v (Bind id resource) dice rest x d = d
drew_ends o v (Enable resume) dice rest x d = d

draws_ends : (o : Site) (v : Duty) (due : List Due) (dice : List ℕ) (w : Duty) (x : Ended) → DrawsDue o v due dice w → IsDue x w.due → IsDue x due
draws_ends o v (Id ∷ rest) dice w x (long, is) d = subst (λ (u : Duty). IsDue x u.due) is d
draws_ends o v (Dice purpose ∷ rest) dice w x (long, is) d = drew_ends o v purpose dice rest x (subst (λ (u : Duty). IsDue x u.due) is d)
draws_ends o v [] dice w x h d = absurd h
draws_ends o v (Opens ∷ rest) dice w x h d = absurd h
draws_ends o v (Rest bytes ∷ rest) dice w x h d = absurd h
draws_ends o v (Text said ∷ rest) dice w x h d = absurd h
draws_ends o v (Submits event ∷ rest) dice w x h d = absurd h
draws_ends o v (LogsIn user said ∷ rest) dice w x h d = absurd h
draws_ends o v (PullsOnce ∷ rest) dice w x h d = absurd h
draws_ends o v (Pulls ∷ rest) dice w x h d = absurd h
draws_ends o v (Sweeps ∷ rest) dice w x h d = absurd h
draws_ends o v (Leaves y ∷ rest) dice w x h d = absurd h
draws_ends o v (Left y ∷ rest) dice w x h d = absurd h

-- Ends that come from no reading, item or reply.

both : (a b : Bool) → (a && b) ≡ true → (a ≡ true) × (b ≡ true)
both true b e = (refl, e)
both false b e = absurd (let k : false ≡ true = e in cc)

either : (a b : Bool) → (a || b) ≡ true → (a ≡ true) ⊎ (b ≡ true)
either true b e = inl refl
either false b e = inr e

overdue : (v : Duty) (t : ℕ) → is_overdue v.stage v.opened t ≡ true → IsOverdue v t
overdue v t e =
    let all : (is_unknown v.stage ≡ true) × (nat_le (v.opened + 60000) t ≡ true) = both (is_unknown v.stage) (nat_le (v.opened + 60000) t) e in
    (all.0, leb-true (v.opened + 60000) t all.1)

late_makes : (o : Site) (v w : Duty) (bytes : List ℕ) (t : ℕ) (x : Ended) (late : Bool) → is_overdue v.stage v.opened t ≡ late
    → IsDue x (if late then ends o (record v { moment = t }) (ended.Idle t) else record v { heard = t; moment = t; due = Rest bytes ∷ [] }).due
    → Makes o v (Hears bytes t) w x
late_makes o v w bytes t x true e d =
    subst (λ (y : Ended). Makes o v (Hears bytes t) w y) (sym (end_only o (record v { moment = t }) x (ended.Idle t) d)) (refl, overdue v t e)
late_makes o v w bytes t x false e d = absurd d

idle_so : (v : Duty) (t : ℕ) → is_idle v.stage v.opened v.heard t ≡ true → IsOverdue v t ⊎ (v.heard + 3600000 ≤ t)
idle_so v t e =
    elim (either (is_overdue v.stage v.opened t) (nat_le (v.heard + 3600000) t) e) [
      | inl over ↦ inl (overdue v t over)
      | inr hour ↦ inr (leb-true (v.heard + 3600000) t hour)
    ]

idle_makes : (o : Site) (v w : Duty) (t : ℕ) (x : Ended) (late : Bool) → is_idle v.stage v.opened v.heard t ≡ late
    → IsDue x (if late then ends o (record v { moment = t }) (ended.Idle t) else record v { moment = t; due = Pulls ∷ [] }).due → Makes o v (Waits t) w x
idle_makes o v w t x true e d =
    subst (λ (y : Ended). Makes o v (Waits t) w y) (sym (end_only o (record v { moment = t }) x (ended.Idle t) d)) (refl, idle_so v t e)
idle_makes o v w t x false e d = absurd d

stops_makes : (o : Site) (v : Duty) (y : Ended) (w : Duty) (x : Ended) → Stopped v y w → IsDue x w.due → Makes o v (Stops y) w x
stops_makes o v ended.Closed w x h d = absurd h
stops_makes o v ended.Hung w x h d = absurd h
stops_makes o v ended.LinkFault w x h d = absurd h
stops_makes o v ended.DiceFault w x (may, is) d =
    subst (λ (z : Ended). Makes o v (Stops ended.DiceFault) w z) (sym (only x ended.DiceFault (subst (λ (u : Duty). IsDue x u.due) is d))) refl
stops_makes o v (ended.Broken g k) w x h d = absurd h
stops_makes o v (ended.BadHeader g) w x h d = absurd h
stops_makes o v (ended.BadItem g k) w x h d = absurd h
stops_makes o v ended.ThirdFailure w x h d = absurd h
stops_makes o v (ended.Idle t) w x h d = absurd h
stops_makes o v (ended.Over cause) w x h d = absurd h
stops_makes o v ended.Spent w x (may, is) d =
    subst (λ (z : Ended). Makes o v (Stops ended.Spent) w z) (sym (only_left x ended.Spent (subst (λ (u : Duty). IsDue x u.due) is d))) refl
stops_makes o v ended.NoMemory w x (may, is) d =
    subst (λ (z : Ended). Makes o v (Stops ended.NoMemory) w z) (sym (only x ended.NoMemory (subst (λ (u : Duty). IsDue x u.due) is d))) refl

-- What is due after a move was due before it, or the move makes it.

makes_now : (o : Site) (v : Duty) (m : Move) (w : Duty) (x : Ended) → GoesOn o v m w → IsDue x w.due → IsDue x v.due ⊎ Makes o v m w x
makes_now o v (Hears bytes t) w x (owes, none, some, is) d =
    inr (late_makes o v w bytes t x (is_overdue v.stage v.opened t) refl (subst (λ (u : Duty). IsDue x u.due) is d))
makes_now o v (Waits t) w x (owes, none, is) d =
    inr (idle_makes o v w t x (is_idle v.stage v.opened v.heard t) refl (subst (λ (u : Duty). IsDue x u.due) is d))
makes_now o v (Hangs t) w x (owes, none, is) d =
    inr
    (subst (λ (y : Ended). Makes o v (Hangs t) w y) (sym (end_only o (record v { moment = t }) x ended.Hung (subst (λ (u : Duty). IsDue x u.due) is d))) tt)
makes_now o v (Fails t) w x (may, is) d =
    inr (subst (λ (y : Ended). Makes o v (Fails t) w y) (sym (only x ended.LinkFault (subst (λ (u : Duty). IsDue x u.due) is d))) tt)
makes_now o v Takes w x h d = inr (takes_now o v v.due w x refl h d)
makes_now o v (Says text) w x h d = inl (says_ends v v.due text w x h d)
makes_now o v (Sends bytes) w x (some, sent, is) d = inl (subst (λ (u : Duty). IsDue x u.due) is d)
makes_now o v (Enters turn) w x (next, entered, is) d =
    elim (enters_ends o v v.due turn.event (reply_of turn.outcome) next x entered (subst (λ (u : Duty). IsDue x u.due) is d)) [
      | inl k ↦ inl k
      | inr by ↦ inr (reply_makes o v turn next w x (ap (λ (u : Duty). u.failures) is) by)
    ]
makes_now o v (Draws dice) w x h d = inl (draws_ends o v v.due dice w x h d)
makes_now o v (Stops y) w x h d = inr (stops_makes o v y w x h d)

pub record CausedFrom (o : Site) (start : Duty) (moves : List Move) (x : Ended) : Type 0 where
  pub before : List Move
  pub move : Move
  pub after : List Move
  pub split : moves ≡ before ++ move ∷ after
  pub from : Duty
  pub to : Duty
  pub came : GoesThrough o start before from
  pub goes : GoesOn o from move to
  pub makes : Makes o from move to x

pub caused : (o : Site) (v : Duty) (ms : List Move) (w : Duty) (x : Ended) → GoesThrough o v ms w → IsDue x w.due → IsDue x v.due ⊎ CausedFrom o v ms x
caused o v [] w x h d = inl (subst (λ (u : Duty). IsDue x u.due) h d)
caused o v (m ∷ ms) w x (mid, goes, more) d =
    elim (caused o mid ms w x more d) [
      | inl k ↦ elim (makes_now o v m mid x goes k) [
        | inl a ↦ inl a
        | inr b ↦ inr (record { before = []; move = m; after = ms; split = refl; from = v; to = mid; came = refl; goes = goes; makes = b })
      ]
      | inr c ↦ inr (record {
        before = m ∷ c.before;
        move = c.move;
        after = c.after;
        split = ap (λ (l : List Move). m ∷ l) c.split;
        from = c.from;
        to = c.to;
        came = (mid, goes, c.came);
        goes = c.goes;
        makes = c.makes;
      })
    ]

-- the move of a whole connection
pub has_cause : (o : Site) (opened : ℕ) (moves : List Move) (last : Duty) (x : Ended) → GoesThrough o (opening o opened) moves last → last.due ≡ Left x ∷ []
    → IsCaused o opened moves x
has_cause o opened moves last x through left =
    elim (caused o (opening o opened) moves last x through (subst (λ (due : List Due). IsDue x due) (sym left) (inl refl))) [
      | inl none ↦ absurd none
      | inr c ↦ record {
        before = c.before;
        move = c.move;
        after = c.after;
        split = c.split;
        from = c.from;
        to = c.to;
        came = c.came;
        goes = c.goes;
        makes = c.makes;
      }
    ]

-- where nothing else makes it
pub closes : (o : Site) (opened : ℕ) (moves : List Move) (x : Ended) → IsCaused o opened moves x → ((y : Ended) → IsForced y → MakesNone o opened moves y)
    → (x ≡ ended.Closed) ⊎ (x ≡ ended.NoMemory)
closes o opened moves ended.Closed c none = inl refl
closes o opened moves ended.NoMemory c none = inr refl
closes o opened moves ended.Hung c none = absurd (none ended.Hung tt c.before c.move c.after c.from c.to c.split c.came c.goes c.makes)
closes o opened moves ended.LinkFault c none = absurd (none ended.LinkFault tt c.before c.move c.after c.from c.to c.split c.came c.goes c.makes)
closes o opened moves ended.DiceFault c none = absurd (none ended.DiceFault tt c.before c.move c.after c.from c.to c.split c.came c.goes c.makes)
closes o opened moves (ended.Broken f k) c none = absurd (none (ended.Broken f k) tt c.before c.move c.after c.from c.to c.split c.came c.goes c.makes)
closes o opened moves (ended.BadHeader f) c none = absurd (none (ended.BadHeader f) tt c.before c.move c.after c.from c.to c.split c.came c.goes c.makes)
closes o opened moves (ended.BadItem f n) c none = absurd (none (ended.BadItem f n) tt c.before c.move c.after c.from c.to c.split c.came c.goes c.makes)
closes o opened moves ended.ThirdFailure c none = absurd (none ended.ThirdFailure tt c.before c.move c.after c.from c.to c.split c.came c.goes c.makes)
closes o opened moves (ended.Idle t) c none = absurd (none (ended.Idle t) tt c.before c.move c.after c.from c.to c.split c.came c.goes c.makes)
closes o opened moves (ended.Over cause) c none = absurd (none (ended.Over cause) tt c.before c.move c.after c.from c.to c.split c.came c.goes c.makes)
closes o opened moves ended.Spent c none = absurd (none ended.Spent tt c.before c.move c.after c.from c.to c.split c.came c.goes c.makes)

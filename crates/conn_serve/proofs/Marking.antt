-- A turn that is refused marks the pass, and ends the connection.
use Rattle.std.proofs.Common.{◌≡◌, ◌≢◌, ℕ, List, [], ◌∷◌, ◌++◌, Bool, true, false, refl, sym, ap, subst, inl, inr, ◌∙◌, Err}
use Rattle.house_model.specs.Histories.{Turn}
use Rattle.hall.specs.Desks.{Served, marked_by}
use Rattle.hall.specs.declared.desk.DeskFault.{DeskFault}
use Rattle.hall.specs.declared.desk.DeskFault.TheVariants as desk
use Rattle.house_model.specs.declared.event.Event.TheVariants as event
use Rattle.conn_asks.specs.declared.ended.Ended.{Ended}
use Rattle.conn_asks.specs.declared.ended.Ended.TheVariants as ended
use Rattle.conn_flow.specs.Moves.{Move, Hears, Waits, Hangs, Fails, Takes, Says, Sends, Enters, Draws, Stops}
use Rattle.conn_flow.specs.Duties.{Due, Duty, Id, Leaves, Left, Site}
use Rattle.conn_flow.specs.Following.{DrawsDue, EntersDue, Follows, GoesOn, GoesThrough, SaysDue, Stopped, TakesDue}
use Rattle.conn_flow.specs.Following.{draws_next, enters_next, goes_on, opening, reply_of}
use Rattle.flow_laws.specs.Causes.{IsCaused, Makes}
use Rattle.flow_laws.proofs.Causing.{CausedFrom, caused, closes, has_cause}
use Rattle.flow_laws.proofs.DueEnds.{IsDue}
use Rattle.conn_flow.specs.Following.{Told}
use Rattle.conn_serve.specs.Connections.{Went, marked_at}
use Rattle.conn_serve.specs.Serving.{Concluded, Finished, MarkedLeaving, Tale, last_of, marked_end}
use Rattle.conn_serve.specs.declared.turn.End.{End}
use Rattle.conn_serve.specs.declared.turn.End.TheVariants.{Over, NoTurn}
use Rattle.conn_serve.proofs.Leaving.{no_short}

-- Where a connection has left, nothing follows.

some_due : (due : List Due) (x : Ended) → due ≡ Left x ∷ [] → due ≡ [] → ⊥
some_due due x left none = absurd (let e : Left x ∷ [] ≡ [] = sym left ∙ none in cc)

pub unsaid : (owed bytes rest : List ℕ) → owed ≡ [] → bytes ≢ [] → owed ≡ bytes ++ rest → ⊥
unsaid owed [] rest none some sent = some refl
unsaid owed (b ∷ bytes) rest none some sent = absurd (let e : [] ≡ b ∷ (bytes ++ rest) = sym none ∙ sent in cc)

stops_none : (v w : Duty) (x y : Ended) → v.due ≡ Left x ∷ [] → v.owed ≡ [] → Stopped v y w → ⊥
stops_none v w x ended.NoMemory left none (inl goes, is) = absurd (let e : false ≡ true = ap goes_on (sym left) ∙ goes in cc)
stops_none v w x ended.NoMemory left none (inr some, is) = some none
stops_none v w x ended.DiceFault left none h = absurd (let e : false ≡ true = ap draws_next (sym left) ∙ h.0 in cc)
stops_none v w x ended.Spent left none h = absurd (let e : false ≡ true = ap enters_next (sym left) ∙ h.0 in cc)
stops_none v w x ended.Closed left none h = h
stops_none v w x ended.Hung left none h = h
stops_none v w x ended.LinkFault left none h = h
stops_none v w x (ended.Broken f k) left none h = h
stops_none v w x (ended.BadHeader f) left none h = h
stops_none v w x (ended.BadItem f n) left none h = h
stops_none v w x ended.ThirdFailure left none h = h
stops_none v w x (ended.Idle t) left none h = h
stops_none v w x (ended.Over cause) left none h = h

nothing_next : (o : Site) (v w : Duty) (x : Ended) (m : Move) → v.due ≡ Left x ∷ [] → v.owed ≡ [] → GoesOn o v m w → ⊥
nothing_next o v w x (Hears bytes t) left none h = some_due v.due x left h.1
nothing_next o v w x (Waits t) left none h = some_due v.due x left h.1
nothing_next o v w x (Hangs t) left none h = some_due v.due x left h.1
nothing_next o v w x (Fails t) left none (inl due, is) = some_due v.due x left due
nothing_next o v w x (Fails t) left none (inr some, is) = some none
nothing_next o v w x Takes left none h = let no : TakesDue o v (Left x ∷ []) w = subst (λ (d : List Due). TakesDue o v d w) left h in no
nothing_next o v w x (Says text) left none h = let no : SaysDue v (Left x ∷ []) text w = subst (λ (d : List Due). SaysDue v d text w) left h in no
nothing_next o v w x (Sends bytes) left none (some, sent, is) = unsaid v.owed bytes w.owed none some sent
nothing_next o v w x (Enters turn) left none (next, entered, is) =
    let no : EntersDue o v (Left x ∷ []) turn.event (reply_of turn.outcome) next =
    subst (λ (d : List Due). EntersDue o v d turn.event (reply_of turn.outcome) next) left entered
    in no
nothing_next o v w x (Draws dice) left none h = let no : DrawsDue o v (Left x ∷ []) dice w = subst (λ (d : List Due). DrawsDue o v d dice w) left h in no
nothing_next o v w x (Stops y) left none h = stops_none v w x y left none h

pub stays_left : (o : Site) (v w : Duty) (x : Ended) (ms : List Move) → v.due ≡ Left x ∷ [] → v.owed ≡ [] → GoesThrough o v ms w → w ≡ v
stays_left o v w x [] left none h = h
stays_left o v w x (m ∷ ms) left none (mid, goes, more) = absurd (nothing_next o v mid x m left none goes)

-- A connection is split at a move.

pub record Split (o : Site) (v : Duty) (before : List Move) (m : Move) (after : List Move) (w : Duty) : Type 0 where
  pub from : Duty
  pub to : Duty
  pub came : GoesThrough o v before from
  pub goes : GoesOn o from m to
  pub more : GoesThrough o to after w

pub split : (o : Site) (v : Duty) (before : List Move) (m : Move) (after : List Move) (w : Duty) → GoesThrough o v (before ++ m ∷ after) w
    → Split o v before m after w
split o v [] m after w (mid, goes, more) = record { from = v; to = mid; came = refl; goes = goes; more = more }
split o v (n ∷ before) m after w (mid, goes, more) =
    let s : Split o mid before m after w = split o mid before m after w more in
    record { from = s.from; to = s.to; came = (mid, goes, s.came); goes = s.goes; more = s.more }

spent_makes : (o : Site) (v w : Duty) (m : Move) → Makes o v m w ended.Spent → m ≡ Stops ended.Spent
spent_makes o v w (Stops x) h = ap Stops h
spent_makes o v w (Hears bytes t) h = absurd h
spent_makes o v w (Waits t) h = absurd h
spent_makes o v w (Hangs t) h = absurd h
spent_makes o v w (Fails t) h = absurd h
spent_makes o v w Takes h = absurd h
spent_makes o v w (Says text) h = absurd h
spent_makes o v w (Sends bytes) h = absurd h
spent_makes o v w (Enters turn) h = absurd h
spent_makes o v w (Draws dice) h = absurd h

-- no connection is to leave its line for want of a turn
pub spent_left : (o : Site) (v : Duty) (moves : List Move) (w : Duty) (c : CausedFrom o v moves ended.Spent) → GoesThrough o v moves w
    → w.due ≡ Left ended.Spent ∷ []
spent_left o v moves w c through =
    let s : Split o v c.before (Stops ended.Spent) c.after w =
    split o v c.before (Stops ended.Spent) c.after w
    (subst (λ (m : Move). GoesThrough o v (c.before ++ m ∷ c.after) w) (spent_makes o c.from c.to c.move c.makes)
    (subst (λ (ms : List Move). GoesThrough o v ms w) c.split through))
    in
    let left : s.to.due ≡ Left ended.Spent ∷ [] = ap (λ (u : Duty). u.due) {y = record s.from { due = Left ended.Spent ∷ []; owed = [] }} s.goes.1 in
    let none : s.to.owed ≡ [] = ap (λ (u : Duty). u.owed) {y = record s.from { due = Left ended.Spent ∷ []; owed = [] }} s.goes.1 in
    let same : w ≡ s.to = stays_left o s.to w ended.Spent c.after left none s.more in
    ap (λ (u : Duty). u.due) {y = s.to} same ∙ left

pub never_spent : (o : Site) (t u : ℕ) (a b : Tale) → Finished o a (record (opening o t) { due = Id ∷ [] }) b ended.Spent u → ⊥
never_spent o t u a b h =
    elim (caused o (record (opening o t) { due = Id ∷ [] }) h.grew.moves h.last ended.Spent h.grew.through
    (subst (λ (due : List Due). IsDue ended.Spent due) (sym h.leaves) (inl refl))) [
      | inl none ↦ absurd none
      | inr c ↦ absurd
          (let e : Leaves ended.Spent ∷ [] ≡ Left ended.Spent ∷ [] =
          sym h.leaves ∙ spent_left o (record (opening o t) { due = Id ∷ [] }) h.grew.moves h.last c h.grew.through
          in cc)
    ]

-- The mark.

pub refused_marks : (fault : DeskFault) (line : ℕ) (x : Ended) (t : ℕ) (old new : List Turn) (marked : Bool)
    → Served line (last_of line x t) [] (Err fault) old new
    → marked_by (Err fault) marked ≡ true
refused_marks desk.NoMemory line x t old new marked h = absurd (no_short line x t h.1)
refused_marks desk.Spent line x t old new marked h = refl

pub unopened_marks : (fault : DeskFault) (line : ℕ) (old new : List Turn) (marked : Bool) → Served line (event.OpenLine line) [] (Err fault) old new
    → marked_by (Err fault) marked ≡ true
unopened_marks desk.NoMemory line old new marked h = absurd h.1
unopened_marks desk.Spent line old new marked h = refl

pub unturned : (end : End) (old new : Bool) → end ≡ NoTurn → new ≡ old → MarkedLeaving end ended.Spent old new
unturned end old new is same = subst (λ (e : End). MarkedLeaving e ended.Spent old new) (sym is) (refl, same)

pub left_marked : (end : End) (x : Ended) (t : ℕ) (old new : Bool) → end ≡ Over x t → new ≡ old → MarkedLeaving end x old new
left_marked end x t old new is same = subst (λ (e : End). MarkedLeaving e x old new) (sym is) (inl (refl, same))

pub unleft : (end : End) (x : Ended) (t : ℕ) (old new : Bool) → end ≡ Over x t → new ≡ true → MarkedLeaving end ended.Spent old new
unleft end x t old new is set = subst (λ (e : End). MarkedLeaving e ended.Spent old new) (sym is) (inr (refl, set))

pub keeps : (x : Ended) (marked : Bool) → (x ≡ ended.Spent → ⊥) → marked_at x marked ≡ marked
keeps ended.Spent marked not = absurd (not refl)
keeps ended.Closed marked not = refl
keeps ended.Hung marked not = refl
keeps ended.LinkFault marked not = refl
keeps ended.DiceFault marked not = refl
keeps (ended.Broken f k) marked not = refl
keeps (ended.BadHeader f) marked not = refl
keeps (ended.BadItem f n) marked not = refl
keeps ended.ThirdFailure marked not = refl
keeps (ended.Idle t) marked not = refl
keeps (ended.Over cause) marked not = refl
keeps ended.NoMemory marked not = refl

pub marks : (o : Site) (t : ℕ) (a b : Tale) (end : End) (x : Ended) (old mid new : Bool) → Concluded o a (record (opening o t) { due = Id ∷ [] }) b end
    → mid ≡ marked_end end old → MarkedLeaving end x mid new → new ≡ marked_at x old
marks o t a b NoTurn x old mid new h is (spent, same) = subst (λ (y : Ended). new ≡ marked_at y old) (sym spent) (same ∙ is)
marks o t a b (Over y u) x old mid new h is (inl (xy, same)) =
    subst (λ (z : Ended). new ≡ marked_at z old) (sym xy)
    (same ∙ is
    ∙ sym (keeps y old (λ (e : y ≡ ended.Spent). never_spent o t u a b
    (subst (λ (z : Ended). Finished o a (record (opening o t) { due = Id ∷ [] }) b z u) e h))))
marks o t a b (Over y u) x old mid new h is (inr (spent, set)) = subst (λ (z : Ended). new ≡ marked_at z old) (sym spent) set

-- A whole connection, with what made its end.

pub went : (o : Site) (a b : Told) (x : Ended) → Follows o a b x → Went o a b x
went o a b x f =
    let c : IsCaused o f.opened f.moves x = has_cause o f.opened f.moves f.last x f.through f.left in
    record { follows = f; caused = c; completes = closes o f.opened f.moves x c }

-- How a connection begins, and how it leaves its line.
use Rattle.std.proofs.Common.{◌≡◌, ℕ, ◌≤◌, List, [], ◌∷◌, ◌++◌, Bool, true, false, length, refl, sym, ap, subst, inl, inr, ◌∙◌, Err}
use Rattle.std.specs.Prelude.{Option, ◌||◌}
use Rattle.std.proofs.lemmas.List.{append-nil}
use Rattle.outside.specs.Devices.{Rose}
use Rattle.outside.specs.Tapes.{Mark, Tells}
use Rattle.account_book.specs.Lists.{Book}
use Rattle.house_model.specs.Histories.{IsOpening, Legal, MayBeShort, Turn, made}
use Rattle.house_model.specs.Promises.{Safe}
use Rattle.house_model.specs.States as house
use Rattle.house_model.proofs.SafeLaws.{safe}
use Rattle.hall.specs.Desks.{Served, turns_of}
use Rattle.hall.specs.declared.desk.DeskFault.{DeskFault}
use Rattle.hall.specs.declared.desk.DeskFault.TheVariants as desk
use Rattle.std.proofs.Math.Logic.{∥∥₁_map}
use Rattle.house_model.specs.declared.event.Event.TheVariants as event
use Rattle.house_model.specs.declared.reply.Reply.{Reply}
use Rattle.conn_asks.specs.declared.ended.Ended.{Ended}
use Rattle.conn_asks.specs.declared.ended.Ended.TheVariants as ended
use Rattle.conn_flow.specs.Moves.{Move, Hears, Waits, Hangs, Fails, Takes, Says, Sends, Enters, Draws, Stops, moments}
use Rattle.conn_flow.specs.Duties.{Due, Duty, Id, Leaves, Left, Site, last_event}
use Rattle.conn_flow.specs.Following.{EntersDue, Follows, GoesOn, GoesThrough, enters_next, opening, reply_of}
use Rattle.conn_flow.specs.Flows.{State, fresh}
use Rattle.flow_laws.specs.Standing.{IsServed, duty}
use Rattle.flow_laws.specs.Steps.{start}
use Rattle.flow_laws.specs.Causes.{Makes}
use Rattle.flow_laws.proofs.Causing.{CausedFrom, caused}
use Rattle.flow_laws.proofs.DueEnds.{IsDue}
use Rattle.conn_serve.specs.Connections.{Caused, Counts, Rises, site_of}
use Rattle.conn_serve.specs.Serving.{Concluded, Exhausted, Finished, Gone, Grew, IsAt, IsOpened, Tale, has, is_fail, is_hang, is_no_dice, last_of, tale}
use Rattle.conn_serve.specs.declared.turn.End.{End}
use Rattle.conn_serve.specs.declared.turn.End.TheVariants.{Over, NoTurn}
use Rattle.conn_serve.proofs.Growing.{grew_both, exhausted_after, finished_after, tells_both, tells_nothing}
use Rattle.conn_serve.proofs.Entering.{no_dice, spent}
use Rattle.conn_serve.proofs.Listening.{one, stops}
use Rattle.conn_serve.proofs.Sending.{calm, same}

-- The house was told of the connection.

pub opened : (line : ℕ) (domain : List ℕ) (accounts : Book) (t : ℕ) (r : Reply) (turns turns' : List Turn)
    (tape : Option (List Mark)) (moments : Option (List ℕ)) (drawn : Option (List (List ℕ))) (f e d : ℕ)
    → turns' ≡ turns ++ made (event.OpenLine line) r [] ∷ []
    → Grew (site_of line domain accounts) (tale tape turns moments drawn f e d) (opening (site_of line domain accounts) t)
    (tale tape turns' moments drawn f e d) (record (opening (site_of line domain accounts) t) { due = Id ∷ [] })
opened line domain accounts t r turns turns' tape moments drawn f e d gained =
    let o : Site = site_of line domain accounts in
    let after : Duty = record (opening o t) { due = Id ∷ [] } in
    one o (tale tape turns moments drawn f e d) (tale tape turns' moments drawn f e d) (opening o t) after (Enters (made (event.OpenLine line) r []))
    (after, (refl, refl), refl) (tells_nothing Mark tape) gained (tells_nothing ℕ moments) (tells_nothing (List ℕ) drawn)
    (calm (Enters (made (event.OpenLine line) r []) ∷ []) _ _ refl refl refl (same f) (same e) (same d))

-- The first stream has its id.

pub named_by : (o : Site) (t : ℕ) (v : Duty) (dice : List ℕ) (tape : Option (List Mark)) (turns : List Turn) (moments : Option (List ℕ))
    (drawn drawn' : Option (List (List ℕ))) (f e d d' : ℕ) → IsOpened o t v → length dice ≡ 16 → Tells (List ℕ) drawn drawn' (dice ∷ []) → d ≤ d'
    → Grew o (tale tape turns moments drawn f e d) v (tale tape turns moments drawn' f e d') (duty o (start o dice t))
named_by o t v dice tape turns moments drawn drawn' f e d d' is long tells kept =
    subst (λ (x : Duty). Grew o (tale tape turns moments drawn f e d) x (tale tape turns moments drawn' f e d') (duty o (start o dice t))) (sym is)
    (one o (tale tape turns moments drawn f e d) (tale tape turns moments drawn' f e d') (record (opening o t) { due = Id ∷ [] }) (duty o (start o dice t))
    (Draws dice)
    (long, refl) (tells_nothing Mark tape) (sym (append-nil _)) (tells_nothing ℕ moments) tells
    (calm (Draws dice ∷ []) _ _ refl refl refl (same f) (same e) kept))

pub starts_served : (o : Site) (dice : List ℕ) (t : ℕ) → IsServed o (start o dice t)
starts_served o dice t = record {
  told = tt;
  loaded = tt;
  event_fits = tt;
  purpose_fits = tt;
  line = refl;
  domain = refl;
  limits_are = refl;
  more = refl;
  read = record { none = refl; read = record { at = refl; ready = refl; goes = refl } };
  all = tt;
  timed = tt;
}

pub no_room : (o : Site) (a : Tale) (dice : List ℕ) (t : ℕ) → Finished o a (duty o (start o dice t)) a ended.NoMemory t
no_room o a dice t = stops o a (duty o (start o dice t)) t refl refl

-- random bytes were not to be had
pub unnamed : (o : Site) (t : ℕ) (v : Duty) (tape : Option (List Mark)) (turns : List Turn) (moments : Option (List ℕ))
    (drawn drawn' : Option (List (List ℕ))) (f e d d' : ℕ) → IsOpened o t v → Tells (List ℕ) drawn drawn' [] → d ≤ d' → Rose d d'
    → Finished o (tale tape turns moments drawn f e d) v (tale tape turns moments drawn' f e d') ended.DiceFault t
unnamed o t v tape turns moments drawn drawn' f e d d' is tells kept rose =
    subst (λ (x : Duty). Finished o (tale tape turns moments drawn f e d) x (tale tape turns moments drawn' f e d') ended.DiceFault t) (sym is)
    (no_dice o (record (opening o t) { due = Id ∷ [] }) t tape turns moments drawn drawn' f e d d' refl refl tells kept rose)

pub concluded_after : (o : Site) (a b c : Tale) (u v : Duty) (end : End) → Grew o a u b v → Concluded o b v c end → Concluded o a u c end
concluded_after o a b c u v (Over x t) grew h = finished_after grew h
concluded_after o a b c u v NoTurn grew h = exhausted_after grew h

-- what serves a connection is at its start
pub at_start : (line : ℕ) (domain : List ℕ) (accounts : Book) (dice : List ℕ) (t : ℕ) (flow : State) (ahead owed : List ℕ) (number : ℕ) (given : List ℕ)
    → flow ≡ fresh number given dice t → number ≡ line → given ≡ domain → ahead ≡ [] → owed ≡ []
    → IsAt (site_of line domain accounts) (start (site_of line domain accounts) dice t) flow ahead owed
at_start line domain accounts dice t flow ahead owed number given is same host none clear = record {
  flow_is = sym (is ∙ ap (λ (n : ℕ). fresh n given dice t) same ∙ ap (λ (d : List ℕ). fresh line d dice t) host);
  ahead_is = sym none;
  owed_is = sym clear;
  served = starts_served (site_of line domain accounts) dice t;
}

-- The line is left.

last_same : (line : ℕ) (domain : List ℕ) (accounts : Book) (v : Duty) (x : Ended) (t : ℕ) → v.moment ≡ t
    → last_of line x t ≡ last_event (site_of line domain accounts) v x
last_same line domain accounts v ended.Closed t at = ap (event.CloseLine line) (sym at)
last_same line domain accounts v ended.Hung t at = ap (event.DropLine line) (sym at)
last_same line domain accounts v ended.LinkFault t at = ap (event.DropLine line) (sym at)
last_same line domain accounts v ended.DiceFault t at = ap (event.DropLine line) (sym at)
last_same line domain accounts v (ended.Broken f k) t at = ap (event.DropLine line) (sym at)
last_same line domain accounts v (ended.BadHeader f) t at = ap (event.DropLine line) (sym at)
last_same line domain accounts v (ended.BadItem f n) t at = ap (event.DropLine line) (sym at)
last_same line domain accounts v ended.ThirdFailure t at = ap (event.DropLine line) (sym at)
last_same line domain accounts v (ended.Idle u) t at = ap (event.DropLine line) (sym at)
last_same line domain accounts v (ended.Over c) t at = ap (event.DropLine line) (sym at)
last_same line domain accounts v ended.Spent t at = ap (event.DropLine line) (sym at)
last_same line domain accounts v ended.NoMemory t at = ap (event.DropLine line) (sym at)

pub gone_spent : (o : Site) (a : Tale) (v : Duty) (b : Tale) → Exhausted o a v b → Gone o a v b ended.Spent
gone_spent o a v b h = record { last = h.last; grew = h.grew; left = h.left; sent = h.sent }

pub gone : (line : ℕ) (domain : List ℕ) (accounts : Book) (a : Tale) (v : Duty) (x : Ended) (t : ℕ) (r : Reply) (turns turns' : List Turn)
    (tape tape' : Option (List Mark)) (moments : Option (List ℕ)) (drawn : Option (List (List ℕ))) (f f' e e' d : ℕ)
    → Finished (site_of line domain accounts) a v (tale tape turns moments drawn f e d) x t → turns' ≡ turns ++ made (last_of line x t) r [] ∷ []
    → tape' ≡ tape → f' ≡ f → e' ≡ e → Gone (site_of line domain accounts) a v (tale tape' turns' moments drawn f' e' d) x
gone line domain accounts a v x t r turns turns' tape tape' moments drawn f f' e e' d h gained t1 f1 e1 =
    let o : Site = site_of line domain accounts in
    let turn : Turn = made (last_of line x t) r [] in
    let next : Duty = record h.last { due = Left x ∷ [] } in
    let last : Duty = record next { owed = [] } in
    let goes : GoesOn o h.last (Enters turn) last = (
      next,
      subst (λ (due : List Due). EntersDue o h.last due turn.event (reply_of turn.outcome) next) (sym h.leaves)
          (h.sent, last_same line domain accounts h.last x t h.at, refl),
      ap (λ (owed : List ℕ). record next { owed = owed }) (sym (append-nil _ ∙ h.sent)),
    ) in
    let left : Gone o a v (tale tape turns' moments drawn f e d) x = record {
      last = last;
      grew = grew_both h.grew
          (one o (tale tape turns moments drawn f e d) (tale tape turns' moments drawn f e d) h.last last (Enters turn) goes
          (tells_nothing Mark tape) gained (tells_nothing ℕ moments) (tells_nothing (List ℕ) drawn)
          (calm (Enters turn ∷ []) _ _ refl refl refl (same f) (same e) (same d)));
      left = refl;
      sent = refl;
    } in
    subst (λ (y : Option (List Mark)). Gone o a v (tale y turns' moments drawn f' e' d) x) (sym t1)
    (subst (λ (y : ℕ). Gone o a v (tale tape turns' moments drawn y e' d) x) (sym f1)
    (subst (λ (y : ℕ). Gone o a v (tale tape turns' moments drawn f y d) x) (sym e1) left))

leaving_spends : (due : List Due) (x : Ended) → due ≡ Leaves x ∷ [] → enters_next due ≡ true
leaving_spends due x is = ap enters_next is

-- no turn was left for the last event
pub gone_without : (o : Site) (a b : Tale) (v : Duty) (x : Ended) (t : ℕ) → Finished o a v b x t → Gone o a v b ended.Spent
gone_without o a b v x t h = gone_spent o a v b (exhausted_after h.grew (spent o b h.last (leaving_spends h.last.due x h.leaves)))

-- A whole connection.

pub gone_after : (o : Site) (a b c : Tale) (u v : Duty) (x : Ended) → Grew o a u b v → Gone o b v c x → Gone o a u c x
gone_after o a b c u v x grew h = record { last = h.last; grew = grew_both grew h.grew; left = h.left; sent = h.sent }

pub follows : (o : Site) (t : ℕ) (before : Option (List ℕ)) (a b : Tale) (x : Ended) → Tells ℕ before a.told.moments (t ∷ []) → Gone o a (opening o t) b x
    → Follows o (record a.told { moments = before }) b.told x
follows o t before a b x first h = record {
  opened = t;
  moves = h.grew.moves;
  last = h.last;
  through = h.grew.through;
  left = h.left;
  sent = h.sent;
  tape = h.grew.tape;
  turns_are = h.grew.turns_are;
  moments_are = tells_both ℕ before a.told.moments b.told.moments (t ∷ []) (moments h.grew.moves) first h.grew.moments_are;
  drawn = h.grew.drawn;
}

-- Where the counts rose.

or_true : (a : Bool) → (a || true) ≡ true
or_true true = refl
or_true false = refl

among : (is : Move → Bool) (before : List Move) (m : Move) (after : List Move) → is m ≡ true → has is (before ++ m ∷ after) ≡ true
among is [] m after h = ap (λ (x : Bool). x || has is after) h
among is (n ∷ before) m after h = ap (λ (x : Bool). is n || x) (among is before m after h) ∙ or_true (is n)

fails_makes : (o : Site) (v w : Duty) (m : Move) → Makes o v m w ended.LinkFault → is_fail m ≡ true
fails_makes o v w (Fails t) h = refl
fails_makes o v w (Hears bytes t) h = absurd h
fails_makes o v w (Waits t) h = absurd h
fails_makes o v w (Hangs t) h = absurd h
fails_makes o v w Takes h = absurd h
fails_makes o v w (Says text) h = absurd h
fails_makes o v w (Sends bytes) h = absurd h
fails_makes o v w (Enters turn) h = absurd h
fails_makes o v w (Draws dice) h = absurd h
fails_makes o v w (Stops x) h = absurd h

hangs_makes : (o : Site) (v w : Duty) (m : Move) → Makes o v m w ended.Hung → is_hang m ≡ true
hangs_makes o v w (Hangs t) h = refl
hangs_makes o v w (Hears bytes t) h = absurd h
hangs_makes o v w (Waits t) h = absurd h
hangs_makes o v w (Fails t) h = absurd h
hangs_makes o v w Takes h = absurd h
hangs_makes o v w (Says text) h = absurd h
hangs_makes o v w (Sends bytes) h = absurd h
hangs_makes o v w (Enters turn) h = absurd h
hangs_makes o v w (Draws dice) h = absurd h
hangs_makes o v w (Stops x) h = absurd h

dice_makes : (o : Site) (v w : Duty) (m : Move) → Makes o v m w ended.DiceFault → is_no_dice m ≡ true
dice_makes o v w (Stops x) h = ap (λ (y : Ended). is_no_dice (Stops y)) h
dice_makes o v w (Hears bytes t) h = absurd h
dice_makes o v w (Waits t) h = absurd h
dice_makes o v w (Hangs t) h = absurd h
dice_makes o v w (Fails t) h = absurd h
dice_makes o v w Takes h = absurd h
dice_makes o v w (Says text) h = absurd h
dice_makes o v w (Sends bytes) h = absurd h
dice_makes o v w (Enters turn) h = absurd h
dice_makes o v w (Draws dice) h = absurd h

made_by : (o : Site) (t : ℕ) (moves : List Move) (last : Duty) (x : Ended) → GoesThrough o (opening o t) moves last → last.due ≡ Left x ∷ []
    → CausedFrom o (opening o t) moves x
made_by o t moves last x through left =
    elim (caused o (opening o t) moves last x through (subst (λ (due : List Due). IsDue x due) (sym left) (inl refl))) [ inl none ↦ absurd none | inr c ↦ c ]

has_made : (is : Move → Bool) (o : Site) (t : ℕ) (moves : List Move) (x : Ended) (c : CausedFrom o (opening o t) moves x) → is c.move ≡ true
    → has is moves ≡ true
has_made is o t moves x c h = ap (has is) c.split ∙ among is c.before c.move c.after h

rises : (o : Site) (t : ℕ) (a b : Tale) (x : Ended) → Gone o a (opening o t) b x → Rises x a.counts b.counts
rises o t a b ended.LinkFault h =
    let c : CausedFrom o (opening o t) h.grew.moves ended.LinkFault = made_by o t h.grew.moves h.last ended.LinkFault h.grew.through h.left in
    h.grew.counted.failed (has_made is_fail o t h.grew.moves ended.LinkFault c (fails_makes o c.from c.to c.move c.makes))
rises o t a b ended.Hung h =
    let c : CausedFrom o (opening o t) h.grew.moves ended.Hung = made_by o t h.grew.moves h.last ended.Hung h.grew.through h.left in
    h.grew.counted.hung (has_made is_hang o t h.grew.moves ended.Hung c (hangs_makes o c.from c.to c.move c.makes))
rises o t a b ended.DiceFault h =
    let c : CausedFrom o (opening o t) h.grew.moves ended.DiceFault = made_by o t h.grew.moves h.last ended.DiceFault h.grew.through h.left in
    h.grew.counted.dice_failed (has_made is_no_dice o t h.grew.moves ended.DiceFault c (dice_makes o c.from c.to c.move c.makes))
rises o t a b ended.Closed h = tt
rises o t a b (ended.Broken f k) h = tt
rises o t a b (ended.BadHeader f) h = tt
rises o t a b (ended.BadItem f n) h = tt
rises o t a b ended.ThirdFailure h = tt
rises o t a b (ended.Idle u) h = tt
rises o t a b (ended.Over c) h = tt
rises o t a b ended.Spent h = tt
rises o t a b ended.NoMemory h = tt

pub is_caused : (o : Site) (t : ℕ) (a b : Tale) (x : Ended) → Gone o a (opening o t) b x → Caused x a.counts b.counts
is_caused o t a b x h = record {
  faults = h.grew.counted.faults_kept;
  ends = h.grew.counted.ends_kept;
  dice = h.grew.counted.dice_kept;
  rose = rises o t a b x h;
}

pub never_caused : (a : Counts) → Caused ended.Spent a a
never_caused a = record { faults = same a.faults; ends = same a.ends; dice = same a.dice; rose = tt }

-- no turn was left for the last event

pub no_short : (line : ℕ) (x : Ended) (t : ℕ) → MayBeShort (last_of line x t) → ⊥
no_short line ended.Closed t h = h
no_short line ended.Hung t h = h
no_short line ended.LinkFault t h = h
no_short line ended.DiceFault t h = h
no_short line (ended.Broken f k) t h = h
no_short line (ended.BadHeader f) t h = h
no_short line (ended.BadItem f n) t h = h
no_short line ended.ThirdFailure t h = h
no_short line (ended.Idle u) t h = h
no_short line (ended.Over cause) t h = h
no_short line ended.Spent t h = h
no_short line ended.NoMemory t h = h

no_turn : (line : ℕ) (x : Ended) (t : ℕ) (fault : DeskFault) (old new : List Turn) → Served line (last_of line x t) [] (Err fault) old new
    → turns_of line new ≡ turns_of line old
no_turn line x t desk.NoMemory old new h = absurd (no_short line x t h.1)
no_turn line x t desk.Spent old new h = ap (turns_of line) h.1

pub gone_unturned : (o : Site) (a : Tale) (v : Duty) (x : Ended) (t : ℕ) (fault : DeskFault) (line : ℕ) (old new : List Turn)
    (tape : Option (List Mark)) (moments : Option (List ℕ)) (drawn : Option (List (List ℕ))) (f e d : ℕ)
    → Finished o a v (tale tape (turns_of line old) moments drawn f e d) x t → Served line (last_of line x t) [] (Err fault) old new
    → Gone o a v (tale tape (turns_of line new) moments drawn f e d) ended.Spent
gone_unturned o a v x t fault line old new tape moments drawn f e d h served =
    subst (λ (y : List Turn). Gone o a v (tale tape y moments drawn f e d) ended.Spent) (sym (no_turn line x t fault old new served))
    (gone_without o a (tale tape (turns_of line old) moments drawn f e d) v x t h)

pub open_turn : (line : ℕ) (fault : DeskFault) (old new : List Turn) → Served line (event.OpenLine line) [] (Err fault) old new
    → turns_of line new ≡ turns_of line old
open_turn line desk.NoMemory old new h = absurd h.1
open_turn line desk.Spent old new h = ap (turns_of line) h.1

pub never_opened : (o : Site) (t : ℕ) (fault : DeskFault) (line : ℕ) (old new : List Turn)
    (tape : Option (List Mark)) (moments : Option (List ℕ)) (drawn : Option (List (List ℕ))) (f e d : ℕ)
    → Served line (event.OpenLine line) [] (Err fault) old new
    → Gone o (tale tape (turns_of line old) moments drawn f e d) (opening o t) (tale tape (turns_of line new) moments drawn f e d) ended.Spent
never_opened o t fault line old new tape moments drawn f e d served =
    subst (λ (y : List Turn). Gone o (tale tape (turns_of line old) moments drawn f e d) (opening o t) (tale tape y moments drawn f e d) ended.Spent)
    (sym (open_turn line fault old new served))
    (gone_spent o (tale tape (turns_of line old) moments drawn f e d) (opening o t) (tale tape (turns_of line old) moments drawn f e d)
    (spent o (tale tape (turns_of line old) moments drawn f e d) (opening o t) refl))

-- what is legal is safe
pub is_safe : (o : house.State) (h : List Turn) → IsOpening o → ∥ Legal o h ∥₁ → ∥ Safe o h ∥₁
is_safe o h opens legal = ∥∥₁_map legal (λ (l : Legal o h). safe o h opens l)

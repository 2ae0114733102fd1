-- A link from its coming to its end.
use Rattle.std.proofs.Common.{◌≡◌, ℕ, List, [], ◌∷◌, ◌++◌, Bool, refl, sym, subst, ap, inl, inr, ◌∙◌}
use Rattle.std.specs.Prelude.{Option, Some, None}
use Rattle.outside.specs.Doors.{TakesBack, Untold}
use Rattle.outside.specs.Plans.{raised}
use Rattle.outside.specs.Tapes.{Mark, Tells}
use Rattle.account_book.specs.Lists.{Book}
use Rattle.turn_lock.specs.Histories.{StartsWith}
use Rattle.house_model.specs.Histories.{Turn}
use Rattle.hall.specs.Desks.{turns_of}
use Rattle.conn_asks.specs.declared.ended.Ended.{Ended}
use Rattle.conn_asks.specs.declared.ended.Ended.TheVariants as ended
use Rattle.conn_flow.specs.Duties.{Due, Duty, Leaves, Left, Site}
use Rattle.conn_flow.specs.Flows.{State}
use Rattle.conn_flow.specs.Following.{opening}
use Rattle.flow_laws.specs.Standing.{Place, duty}
use Rattle.flow_laws.proofs.Causing.{caused}
use Rattle.flow_laws.proofs.DueEnds.{IsDue}
use Rattle.conn_serve.specs.Connections.{Caused, Rises, marked_at, site_of}
use Rattle.conn_serve.specs.Serving.{Came, Concluded, Finished, Gone, IsAt, IsStanding, MarkedLeaving, Tale, marked_end, tale}
use Rattle.conn_serve.specs.Shifts.{Shift, Visited}
use Rattle.conn_serve.specs.declared.turn.End.{End}
use Rattle.conn_serve.specs.declared.turn.End.TheVariants.{Over, NoTurn}
use Rattle.conn_serve.proofs.Cutting.{serves_more}
use Rattle.conn_serve.proofs.Leaving.{concluded_after, follows, is_caused}
use Rattle.conn_serve.proofs.Marking.{keeps, spent_left, went}
use Rattle.conn_serve.proofs.Passing.{came_after}
use Rattle.conn_serve.proofs.Turning.{starts_both}
use Rattle.many_links.specs.Visits.{Open, Spot, Stands, Stood, UnderWay, shift_at}

-- The mark of a pass after a whole connection.

never_spent : (o : Site) (t u : ℕ) (a b : Tale) → Finished o a (opening o t) b ended.Spent u → ⊥
never_spent o t u a b h =
    elim (caused o (opening o t) h.grew.moves h.last ended.Spent h.grew.through
    (subst (λ (due : List Due). IsDue ended.Spent due) (sym h.leaves) (inl refl))) [
      | inl none ↦ absurd none
      | inr c ↦ absurd
          (let e : Leaves ended.Spent ∷ [] ≡ Left ended.Spent ∷ [] = sym h.leaves ∙ spent_left o (opening o t) h.grew.moves h.last c h.grew.through in cc)
    ]

marks : (o : Site) (t : ℕ) (a b : Tale) (end : End) (x : Ended) (old mid new : Bool) → Concluded o a (opening o t) b end
    → mid ≡ marked_end end old → MarkedLeaving end x mid new → new ≡ marked_at x old
marks o t a b NoTurn x old mid new h is (spent, same) = subst (λ (y : Ended). new ≡ marked_at y old) (sym spent) (same ∙ is)
marks o t a b (Over y u) x old mid new h is (inl (xy, same)) =
    subst (λ (z : Ended). new ≡ marked_at z old) (sym xy)
    (same ∙ is
    ∙ sym (keeps y old (λ (e : y ≡ ended.Spent). never_spent o t u a b (subst (λ (z : Ended). Finished o a (opening o t) b z u) e h))))
marks o t a b (Over y u) x old mid new h is (inr (spent, set)) = subst (λ (z : Ended). new ≡ marked_at z old) (sym spent) set

-- A whole visit.

visited : (o : Site) (a b : Shift) (end : End) (x : Ended) (blank tape : Option (List Mark)) (opened : ℕ) (asked : Option (List ℕ)) (f e f' e' : ℕ)
    (last : Tale) (marked : Bool)
    → Untold Mark blank → Tells ℕ a.moments asked (opened ∷ [])
    → Concluded o (tale blank a.turns asked a.drawn f e a.dice) (opening o opened) last end
    → Gone o (tale blank a.turns asked a.drawn f e a.dice) (opening o opened) (tale tape b.turns b.moments b.drawn f' e' b.dice) x
    → marked ≡ marked_end end a.marked → MarkedLeaving end x marked b.marked
    → TakesBack a.tapes tape b.tapes → b.links ≡ raised a.links → Visited o a x b
visited o a b end x blank tape opened asked f e f' e' last marked unmarked first concluded gone mark leaving back counted =
    let from : Tale = tale blank a.turns asked a.drawn f e a.dice in
    let to : Tale = tale tape b.turns b.moments b.drawn f' e' b.dice in
    let cause : Caused x from.counts to.counts = is_caused o opened from to x gone in
    record {
      blank = blank;
      tape = tape;
      unmarked = unmarked;
      went = went o _ _ x (follows o opened a.moments from to x first gone);
      back = back;
      counted = counted;
      dice_kept = cause.dice;
      dice_failed = λ (is : x ≡ ended.DiceFault). subst (λ (y : Ended). Rises y from.counts to.counts) is cause.rose;
      mark = marks o opened from last end x a.marked marked b.marked concluded mark leaving;
    }

-- A link came.

pub begins : (domain : List ℕ) (accounts : Book) (before now : Spot) (u : Open) → now.line ≡ before.line → StartsWith now.seen before.seen
    → now.marked ≡ before.marked → before.busy ≡ None → now.busy ≡ Some u → Untold Mark u.tape
    → (opened : ℕ) × Tells ℕ before.moments now.moments (opened ∷ [])
    × Came (site_of before.line domain accounts)
    (tale u.tape (turns_of before.line before.seen) now.moments before.drawn u.faults u.ends before.dice) (opening (site_of before.line domain accounts) opened)
    (tale u.tape (turns_of before.line now.seen) now.moments now.drawn u.faults u.ends now.dice) u.flow u.ahead u.owed
    → (s : Spot) (t t' : Option (List (List Mark))) (m n : ℕ) → Stood domain accounts s t m before t' n → Stood domain accounts s t m now t' (raised n)
begins domain accounts before now u line history mark free busy unmarked (opened, first, came) s t t' m n stood =
    let o : Site = site_of s.line domain accounts in
    let a : Shift = shift_at t m s in
    let mid : Shift = shift_at t' n before in
    let old : Stands o a mid None = subst (λ (b : Option Open). Stands o a mid b) free stood.stands in
    let here : Came o (tale u.tape mid.turns now.moments before.drawn u.faults u.ends before.dice) (opening o opened)
    (tale u.tape (turns_of now.line now.seen) now.moments now.drawn u.faults u.ends now.dice) u.flow u.ahead u.owed
    = subst (λ (w : ℕ). Came o (tale u.tape mid.turns now.moments before.drawn u.faults u.ends before.dice) (opening o opened)
    (tale u.tape (turns_of w now.seen) now.moments now.drawn u.faults u.ends now.dice) u.flow u.ahead u.owed) (sym line)
    (subst (λ (w : ℕ). Came (site_of w domain accounts) (tale u.tape mid.turns now.moments before.drawn u.faults u.ends before.dice)
    (opening (site_of w domain accounts) opened)
    (tale u.tape (turns_of before.line now.seen) now.moments now.drawn u.faults u.ends now.dice) u.flow u.ahead u.owed) stood.line came) in
    let way : UnderWay o mid (shift_at t' (raised n) now) u = record {
      blank = u.tape;
      unmarked = unmarked;
      opened = opened;
      asked = now.moments;
      first = first;
      faults = u.faults;
      ends = u.ends;
      came = here;
      tapes = refl;
      counted = refl;
      mark = mark;
    } in
    record {
      line = line ∙ stood.line;
      history = starts_both s.seen before.seen now.seen stood.history history;
      stands = subst (λ (b : Option Open). Stands o a (shift_at t' (raised n) now) b) (sym busy) (old.0, mid, old.1, way);
    }

-- It goes on.

pub goes_on : (domain : List ℕ) (accounts : Book) (before now : Spot) (u u' : Open) → now.line ≡ before.line → StartsWith now.seen before.seen
    → now.marked ≡ before.marked → before.busy ≡ Some u → now.busy ≡ Some u'
    → ((o : Site) (p : Place) → o.line ≡ before.line → o.accounts ≡ accounts → IsAt o p u.flow u.ahead u.owed
    → Came o (tale u.tape (turns_of before.line before.seen) before.moments before.drawn u.faults u.ends before.dice) (duty o p)
    (tale u'.tape (turns_of before.line now.seen) now.moments now.drawn u'.faults u'.ends now.dice) u'.flow u'.ahead u'.owed)
    → (s : Spot) (t t' : Option (List (List Mark))) (m n : ℕ) → Stood domain accounts s t m before t' n → Stood domain accounts s t m now t' n
goes_on domain accounts before now u u' line history mark was busy next s t t' m n stood =
    let o : Site = site_of s.line domain accounts in
    let a : Shift = shift_at t m s in
    let b : Shift = shift_at t' n before in
    let old : Stands o a b (Some u) = subst (λ (x : Option Open). Stands o a b x) was stood.stands in
    let way : UnderWay o old.1 b u = old.3 in
    let from : Tale = tale way.blank old.1.turns way.asked old.1.drawn way.faults way.ends old.1.dice in
    let came : Came o from (opening o way.opened)
    (tale u'.tape (turns_of before.line now.seen) now.moments now.drawn u'.faults u'.ends now.dice) u'.flow u'.ahead u'.owed
    = came_after way.came.grew (next o way.came.to (sym stood.line) refl way.came.at) in
    let here : Came o from (opening o way.opened)
    (tale u'.tape (turns_of now.line now.seen) now.moments now.drawn u'.faults u'.ends now.dice) u'.flow u'.ahead u'.owed
    = subst (λ (w : ℕ). Came o from (opening o way.opened)
    (tale u'.tape (turns_of w now.seen) now.moments now.drawn u'.faults u'.ends now.dice) u'.flow u'.ahead u'.owed) (sym line) came in
    let on : UnderWay o old.1 (shift_at t' n now) u' = record {
      blank = way.blank;
      unmarked = way.unmarked;
      opened = way.opened;
      asked = way.asked;
      first = way.first;
      faults = way.faults;
      ends = way.ends;
      came = here;
      tapes = way.tapes;
      counted = way.counted;
      mark = mark ∙ way.mark;
    } in
    record {
      line = line ∙ stood.line;
      history = starts_both s.seen before.seen now.seen stood.history history;
      stands = subst (λ (x : Option Open). Stands o a (shift_at t' n now) x) (sym busy) (old.0, old.1, old.2, on);
    }

-- It is over.

pub is_over : (domain : List ℕ) (accounts : Book) (before now : Spot) (u : Open) (end : End) (x : Ended) (tape1 tape2 : Option (List Mark))
    (seen1 : List Turn) (marked : Bool) (f1 e1 f2 e2 : ℕ)
    → now.line ≡ before.line → StartsWith now.seen before.seen → before.busy ≡ Some u → now.busy ≡ None
    → ((o : Site) (p : Place) → o.line ≡ before.line → o.accounts ≡ accounts → IsAt o p u.flow u.ahead u.owed
    → Concluded o (tale u.tape (turns_of before.line before.seen) before.moments before.drawn u.faults u.ends before.dice) (duty o p)
    (tale tape1 (turns_of before.line seen1) now.moments now.drawn f1 e1 now.dice) end)
    → ((a : Tale) (v : Duty)
    → Concluded (site_of before.line domain accounts) a v (tale tape1 (turns_of before.line seen1) now.moments now.drawn f1 e1 now.dice) end
    → Gone (site_of before.line domain accounts) a v (tale tape2 (turns_of before.line now.seen) now.moments now.drawn f2 e2 now.dice) x)
    → marked ≡ marked_end end before.marked → MarkedLeaving end x marked now.marked
    → (s : Spot) (t t' t'' : Option (List (List Mark))) (m n : ℕ) → TakesBack t' tape2 t'' → Stood domain accounts s t m before t' n
    → Stood domain accounts s t m now t'' n
is_over domain accounts before now u end x tape1 tape2 seen1 marked f1 e1 f2 e2 line history was free concluded gone mark leaving s t t' t'' m n back stood =
    let o : Site = site_of s.line domain accounts in
    let a : Shift = shift_at t m s in
    let b : Shift = shift_at t' n before in
    let c : Shift = shift_at t'' n now in
    let old : Stands o a b (Some u) = subst (λ (y : Option Open). Stands o a b y) was stood.stands in
    let way : UnderWay o old.1 b u = old.3 in
    let from : Tale = tale way.blank old.1.turns way.asked old.1.drawn way.faults way.ends old.1.dice in
    let last : Tale = tale tape1 (turns_of before.line seen1) now.moments now.drawn f1 e1 now.dice in
    let over : Concluded o from (opening o way.opened) last end
    = concluded_after o from (tale u.tape b.turns b.moments b.drawn u.faults u.ends b.dice) last (opening o way.opened) (duty o way.came.to) end
    way.came.grew (concluded o way.came.to (sym stood.line) refl way.came.at) in
    let leaves : Concluded o from (opening o way.opened) last end
    → Gone o from (opening o way.opened) (tale tape2 (turns_of before.line now.seen) now.moments now.drawn f2 e2 now.dice) x
    = subst (λ (w : ℕ). Concluded (site_of w domain accounts) from (opening o way.opened) last end
    → Gone (site_of w domain accounts) from (opening o way.opened) (tale tape2 (turns_of before.line now.seen) now.moments now.drawn f2 e2 now.dice) x)
    stood.line (gone from (opening o way.opened)) in
    let left : Gone o from (opening o way.opened) (tale tape2 c.turns now.moments now.drawn f2 e2 now.dice) x
    = subst (λ (w : ℕ). Gone o from (opening o way.opened) (tale tape2 (turns_of w now.seen) now.moments now.drawn f2 e2 now.dice) x) (sym line)
    (leaves over) in
    let visit : Visited o old.1 x c
    = visited o old.1 c end x way.blank tape2 way.opened way.asked way.faults way.ends f2 e2 last marked way.unmarked way.first over left
    (mark ∙ ap (λ (y : Bool). marked_end end y) way.mark) leaving
    (subst (λ (y : Option (List (List Mark))). TakesBack y tape2 t'') way.tapes back) way.counted in
    record {
      line = line ∙ stood.line;
      history = starts_both s.seen before.seen now.seen stood.history history;
      stands = subst (λ (y : Option Open). Stands o a c y) (sym free) (old.0 ++ x ∷ [], serves_more o a old.0 old.1 x c old.2 visit);
    }

-- It was over at once.

pub ends_at_once : (domain : List ℕ) (accounts : Book) (before now : Spot) (end : End) (x : Ended) (blank tape2 : Option (List Mark))
    (seen1 : List Turn) (marked : Bool) (f e f2 e2 : ℕ)
    → now.line ≡ before.line → StartsWith now.seen before.seen → before.busy ≡ None → now.busy ≡ None → Untold Mark blank
    → (opened : ℕ) × Tells ℕ before.moments now.moments (opened ∷ [])
    × Concluded (site_of before.line domain accounts)
    (tale blank (turns_of before.line before.seen) now.moments before.drawn f e before.dice) (opening (site_of before.line domain accounts) opened)
    (tale blank (turns_of before.line seen1) now.moments now.drawn f e now.dice) end
    → ((a : Tale) (v : Duty)
    → Concluded (site_of before.line domain accounts) a v (tale blank (turns_of before.line seen1) now.moments now.drawn f e now.dice) end
    → Gone (site_of before.line domain accounts) a v (tale tape2 (turns_of before.line now.seen) now.moments now.drawn f2 e2 now.dice) x)
    → marked ≡ marked_end end before.marked → MarkedLeaving end x marked now.marked
    → (s : Spot) (t t' t'' : Option (List (List Mark))) (m n : ℕ) → TakesBack t' tape2 t'' → Stood domain accounts s t m before t' n
    → Stood domain accounts s t m now t'' (raised n)
ends_at_once domain accounts before now end x blank tape2 seen1 marked f e f2 e2 line history was free unmarked (opened, first, concluded) gone mark leaving
    s t t' t'' m n back stood =
    let o : Site = site_of s.line domain accounts in
    let here : Site = site_of before.line domain accounts in
    let a : Shift = shift_at t m s in
    let b : Shift = shift_at t' n before in
    let c : Shift = shift_at t'' (raised n) now in
    let old : Stands o a b None = subst (λ (y : Option Open). Stands o a b y) was stood.stands in
    let last : Tale = tale blank (turns_of before.line seen1) now.moments now.drawn f e now.dice in
    let from : Tale = tale blank b.turns now.moments b.drawn f e b.dice in
    let left : Gone here from (opening here opened) (tale tape2 c.turns now.moments now.drawn f2 e2 now.dice) x
    = subst (λ (w : ℕ). Gone here from (opening here opened) (tale tape2 (turns_of w now.seen) now.moments now.drawn f2 e2 now.dice) x) (sym line)
    (gone from (opening here opened) concluded) in
    let visit : Visited o b x c
    = subst (λ (w : ℕ). Visited (site_of w domain accounts) b x c) stood.line
    (visited here b c end x blank tape2 opened now.moments f e f2 e2 last marked unmarked first concluded left mark leaving back refl) in
    record {
      line = line ∙ stood.line;
      history = starts_both s.seen before.seen now.seen stood.history history;
      stands = subst (λ (y : Option Open). Stands o a c y) (sym free) (old.0 ++ x ∷ [], serves_more o a old.0 b x c old.1 visit);
    }

-- What stands is known to the code.

pub stands_begun : (line line' : ℕ) (domain : List ℕ) (accounts : Book) (a b : Tale) (v : Duty) (flow : State) (ahead owed : List ℕ) → line' ≡ line
    → Came (site_of line domain accounts) a v b flow ahead owed → IsStanding line' accounts flow ahead owed
stands_begun line line' domain accounts a b v flow ahead owed same came =
    record { site = site_of line domain accounts; place = came.to; line_is = sym same; accounts_are = refl; at = came.at }

pub stands_after : (line line' : ℕ) (accounts : Book) (flow flow' : State) (ahead ahead' owed owed' : List ℕ) (a b : Tale)
    → (s : IsStanding line accounts flow ahead owed) → line' ≡ line → Came s.site a (duty s.site s.place) b flow' ahead' owed'
    → IsStanding line' accounts flow' ahead' owed'
stands_after line line' accounts flow flow' ahead ahead' owed owed' a b s same came =
    record { site = s.site; place = came.to; line_is = s.line_is ∙ sym same; accounts_are = s.accounts_are; at = came.at }

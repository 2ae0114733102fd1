-- The turns of a worker, cut before each connection.
use Rattle.std.proofs.Common.{◌≡◌, ℕ, ◌+◌, List, [], ◌∷◌, ◌++◌, length, Bool, true, false, refl, sym, ap, subst, ◌∙◌, append_assoc, arith}
use Rattle.std.specs.Prelude.{Option, Some, None, if◌then◌else◌}
use Rattle.std.proofs.lemmas.List.{append-nil}
use Rattle.outside.specs.Doors.{TakesBack, Untold}
use Rattle.outside.specs.Tapes.{Mark, Tells}
use Rattle.house_model.specs.Histories.{Turn, opened_by, openings}
use Rattle.house_model.specs.declared.event.Event.{Event}
use Rattle.house_model.specs.declared.event.Event.TheVariants as event
use Rattle.conn_asks.specs.declared.ended.Ended.{Ended}
use Rattle.conn_asks.specs.declared.ended.Ended.TheVariants as ended
use Rattle.conn_flow.specs.Moves.{marks, turns}
use Rattle.conn_flow.specs.Duties.{Site}
use Rattle.conn_serve.specs.Connections.{Went, marked_at, told}
use Rattle.conn_serve.specs.Shifts.{Attends, Cut, Paired, Serves, Shift, Visited, is_opening, joined, pieces, raised_by, until_next}
use Rattle.conn_serve.proofs.Openings.{IsPiece, NoneOpens, is_piece}

-- Cutting.

abbrev pub StartsOpen : List Turn → Type 0
StartsOpen [] = Unit {0}
StartsOpen (x ∷ more) = is_opening x.event ≡ true

until_none : (ts more : List Turn) → NoneOpens ts → StartsOpen more → until_next (ts ++ more) ≡ ts
until_none [] [] none starts = refl
until_none [] (x ∷ more) none starts = ap (λ (b : Bool). if b then [] else x ∷ until_next more) starts
until_none (t ∷ ts) more (not_this, none) starts =
    ap (λ (b : Bool). if b then [] else t ∷ until_next (ts ++ more)) not_this ∙ ap (λ (l : List Turn). t ∷ l) (until_none ts more none starts)

pieces_none : (ts more : List Turn) → NoneOpens ts → pieces (ts ++ more) ≡ pieces more
pieces_none [] more none = refl
pieces_none (t ∷ ts) more (not_this, none) =
    ap (λ (b : Bool). if b then (t ∷ until_next (ts ++ more)) ∷ pieces (ts ++ more) else pieces (ts ++ more)) not_this ∙ pieces_none ts more none

pieces_first : (first : Turn) (rest more : List Turn) → is_opening first.event ≡ true → NoneOpens rest → StartsOpen more
    → pieces (first ∷ (rest ++ more)) ≡ (first ∷ rest) ∷ pieces more
pieces_first first rest more opens none starts =
    ap (λ (b : Bool). if b then (first ∷ until_next (rest ++ more)) ∷ pieces (rest ++ more) else pieces (rest ++ more)) opens
    ∙ ap (λ (l : List Turn). (first ∷ l) ∷ pieces (rest ++ more)) (until_none rest more none starts)
    ∙ ap (λ (l : List (List Turn)). (first ∷ rest) ∷ l) (pieces_none rest more none)

pieces_are : (piece more : List Turn) → IsPiece piece → StartsOpen more → pieces (piece ++ more) ≡ piece ∷ pieces more
pieces_are piece more h starts =
    subst (λ (p : List Turn). pieces (p ++ more) ≡ p ∷ pieces more) (sym h.split) (pieces_first h.first h.rest more h.opens h.none starts)

starts_here : (piece more : List Turn) → IsPiece piece → StartsOpen (piece ++ more)
starts_here piece more h = subst (λ (p : List Turn). StartsOpen (p ++ more)) (sym h.split) h.opens

-- Counting.

adds_none : (n : ℕ) → 0 + n ≡ n
adds_none n = omega arith

opens_none : (e : Event) → is_opening e ≡ false → opened_by e ≡ 0
opens_none (event.OpenLine w) h = absurd (let e : true ≡ false = h in cc)
opens_none (event.Login w user) h = refl
opens_none (event.Bind w id resource t dice) h = refl
opens_none (event.Enable w resume dice) h = refl
opens_none (event.Resume w id n t) h = refl
opens_none (event.Act w stanza t) h = refl
opens_none (event.Ack w n) h = refl
opens_none (event.Ask w) h = refl
opens_none (event.Pull w t) h = refl
opens_none (event.DropLine w t) h = refl
opens_none (event.CloseLine w t) h = refl
opens_none (event.Sweep w t) h = refl

opens_one : (e : Event) → is_opening e ≡ true → opened_by e ≡ 1
opens_one (event.OpenLine w) h = refl
opens_one (event.Login w user) h = absurd (let e : false ≡ true = h in cc)
opens_one (event.Bind w id resource t dice) h = absurd (let e : false ≡ true = h in cc)
opens_one (event.Enable w resume dice) h = absurd (let e : false ≡ true = h in cc)
opens_one (event.Resume w id n t) h = absurd (let e : false ≡ true = h in cc)
opens_one (event.Act w stanza t) h = absurd (let e : false ≡ true = h in cc)
opens_one (event.Ack w n) h = absurd (let e : false ≡ true = h in cc)
opens_one (event.Ask w) h = absurd (let e : false ≡ true = h in cc)
opens_one (event.Pull w t) h = absurd (let e : false ≡ true = h in cc)
opens_one (event.DropLine w t) h = absurd (let e : false ≡ true = h in cc)
opens_one (event.CloseLine w t) h = absurd (let e : false ≡ true = h in cc)
opens_one (event.Sweep w t) h = absurd (let e : false ≡ true = h in cc)

openings_none : (ts more : List Turn) → NoneOpens ts → openings (ts ++ more) ≡ openings more
openings_none [] more none = refl
openings_none (t ∷ ts) more (not_this, none) = ap (λ (n : ℕ). n + openings (ts ++ more)) (opens_none t.event not_this) ∙ adds_none (openings (ts ++ more))
    ∙ openings_none ts more none

openings_first : (first : Turn) (rest more : List Turn) → is_opening first.event ≡ true → NoneOpens rest → openings (first ∷ (rest ++ more)) ≡ 1 + openings more
openings_first first rest more opens none =
    ap (λ (n : ℕ). n + openings (rest ++ more)) (opens_one first.event opens) ∙ ap (λ (n : ℕ). 1 + n) (openings_none rest more none)

openings_are : (piece more : List Turn) → IsPiece piece → openings (piece ++ more) ≡ 1 + openings more
openings_are piece more h =
    subst (λ (p : List Turn). openings (p ++ more) ≡ 1 + openings more) (sym h.split) (openings_first h.first h.rest more h.opens h.none)

-- Marks.

still_true : (x : Ended) → marked_at x true ≡ true
still_true ended.Spent = refl
still_true ended.Closed = refl
still_true ended.Hung = refl
still_true ended.LinkFault = refl
still_true ended.DiceFault = refl
still_true (ended.Broken f k) = refl
still_true (ended.BadHeader f) = refl
still_true (ended.BadItem f n) = refl
still_true ended.ThirdFailure = refl
still_true (ended.Idle t) = refl
still_true (ended.Over cause) = refl
still_true ended.NoMemory = refl

stays_marked : (o : Site) (a : Shift) (ends : List Ended) (b : Shift) → Serves o a ends b → a.marked ≡ true → b.marked ≡ true
stays_marked o a [] b s h = ap (λ (v : Shift). v.marked) s ∙ h
stays_marked o a (x ∷ more) b (mid, visit, rest) h = stays_marked o mid more b rest (visit.mark ∙ ap (marked_at x) h ∙ still_true x)

unmarked_by : (o : Site) (mid : Shift) (more : List Ended) (b : Shift) (m : Bool) → Serves o mid more b → b.marked ≡ false → mid.marked ≡ m → m ≡ false
unmarked_by o mid more b true s h is = absurd (let e : true ≡ false = sym (stays_marked o mid more b s is) ∙ h in cc)
unmarked_by o mid more b false s h is = refl

not_spent : (o : Site) (a : Shift) (x : Ended) (mid : Shift) → Visited o a x mid → mid.marked ≡ false → x ≡ ended.Spent → ⊥
not_spent o a x mid visit h is = let e : true ≡ false = sym (visit.mark ∙ ap (λ (y : Ended). marked_at y a.marked) is) ∙ h in cc

-- Tapes.

back_some : (before middle : List (List Mark)) (tape : Option (List Mark)) → TakesBack (Some before) tape (Some middle)
    → (t : List Mark) × (tape ≡ Some t) × (middle ≡ before ++ t ∷ [])
back_some before middle None h = absurd h
back_some before middle (Some t) h = (t, refl, h)

tape_is : (blank : Option (List Mark)) (t ms : List Mark) → Untold Mark blank → Tells Mark blank (Some t) ms → t ≡ ms
tape_is None t ms none tells = absurd tells
tape_is (Some bs) t ms none tells = tells ∙ ap (λ (l : List Mark). l ++ ms) none

-- the same connection, told alone
alone : (o : Site) (a : Shift) (x : Ended) (b : Shift) (visit : Visited o a x b) (t : List Mark) → visit.tape ≡ Some t
    → Went o (told (Some []) [] None None) (told (Some t) (turns visit.went.follows.moves) None None) x
alone o a x b visit t is = record {
  follows = record {
    opened = visit.went.follows.opened;
    moves = visit.went.follows.moves;
    last = visit.went.follows.last;
    through = visit.went.follows.through;
    left = visit.went.follows.left;
    sent = visit.went.follows.sent;
    tape = tape_is visit.blank t (marks visit.went.follows.moves) visit.unmarked
        (subst (λ (tape : Option (List Mark)). Tells Mark visit.blank tape (marks visit.went.follows.moves)) is visit.went.follows.tape);
    turns_are = refl;
    moments_are = tt;
    drawn = tt;
  };
  caused = visit.went.caused;
  completes = visit.went.completes;
}

back_told : (old : Option (List (List Mark))) (tape : Option (List Mark)) (now : List (List Mark)) → TakesBack old tape (Some now)
    → (before : List (List Mark)) × (old ≡ Some before)
back_told None tape now h = absurd h
back_told (Some before) tape now h = (before, refl)

told_before : (o : Site) (a : Shift) (ends : List Ended) (b : Shift) (now : List (List Mark)) → Serves o a ends b → b.tapes ≡ Some now
    → (before : List (List Mark)) × (a.tapes ≡ Some before)
told_before o a [] b now s is = (now, sym (ap (λ (v : Shift). v.tapes) s) ∙ is)
told_before o a (x ∷ more) b now (mid, visit, rest) is =
    let middle : (m : List (List Mark)) × (mid.tapes ≡ Some m) = told_before o mid more b now rest is in
    back_told a.tapes visit.tape middle.0 (subst (λ (t : Option (List (List Mark))). TakesBack a.tapes visit.tape t) middle.1 visit.back)

-- All of it.

longer : (A : Type 0) (x : A) (xs : List A) → 1 + length xs ≡ length (x ∷ xs)
longer A x xs = omega arith

record Pieced (o : Site) (a : Shift) (ends : List Ended) (b : Shift) : Type 0 where
  pub cut : Cut o a ends b
  pub starts : StartsOpen cut.gained

same_tapes : (before now : List (List Mark)) → Some now ≡ Some before → now ≡ before
same_tapes before now h = cc

pieced_none : (o : Site) (a b : Shift) → b ≡ a → Pieced o a [] b
pieced_none o a b same = record {
  cut = record {
    gained = [];
    turns_are = ap (λ (v : Shift). v.turns) same ∙ sym (append-nil a.turns);
    whole = refl;
    opened = refl;
    links = ap (λ (v : Shift). v.links) same;
    each = refl;
    paired = λ before now is is'. ([], same_tapes before now (sym is' ∙ ap (λ (v : Shift). v.tapes) same ∙ is) ∙ sym (append-nil before), tt);
  };
  starts = tt;
}

paired_first : (o : Site) (a : Shift) (x : Ended) (mid : Shift) (more : List Ended) (visit : Visited o a x mid) (rest : List (List Turn))
    (before middle now tapes : List (List Mark)) → a.tapes ≡ Some before → mid.tapes ≡ Some middle → now ≡ middle ++ tapes → Paired o tapes rest more
    → (all : List (List Mark)) × (now ≡ before ++ all) × Paired o all (turns visit.went.follows.moves ∷ rest) (x ∷ more)
paired_first o a x mid more visit rest before middle now tapes is is_mid split paired =
    let back : TakesBack (Some before) visit.tape (Some middle) =
    subst (λ (t : Option (List (List Mark))). TakesBack t visit.tape (Some middle)) is
    (subst (λ (t : Option (List (List Mark))). TakesBack a.tapes visit.tape t) is_mid visit.back)
    in
    let some : (t : List Mark) × (visit.tape ≡ Some t) × (middle ≡ before ++ t ∷ []) = back_some before middle visit.tape back in (
      some.0 ∷ tapes,
      split ∙ ap (λ (l : List (List Mark)). l ++ tapes) some.2 ∙ append_assoc before (some.0 ∷ []) tapes,
      (alone o a x mid visit some.0 some.1, paired),
    )

paired_all : (o : Site) (a : Shift) (x : Ended) (mid : Shift) (more : List Ended) (b : Shift) (visit : Visited o a x mid) (gained : List Turn)
    → pieces (turns visit.went.follows.moves ++ gained) ≡ turns visit.went.follows.moves ∷ pieces gained → Serves o mid more b
    → ((before now : List (List Mark)) → mid.tapes ≡ Some before → b.tapes ≡ Some now
    → (tapes : List (List Mark)) × (now ≡ before ++ tapes) × Paired o tapes (pieces gained) more)
    → (before now : List (List Mark)) → a.tapes ≡ Some before → b.tapes ≡ Some now
    → (tapes : List (List Mark)) × (now ≡ before ++ tapes) × Paired o tapes (pieces (turns visit.went.follows.moves ++ gained)) (x ∷ more)
paired_all o a x mid more b visit gained cuts s next before now is_before is_now =
    let piece : List Turn = turns visit.went.follows.moves in
    let middle : (m : List (List Mark)) × (mid.tapes ≡ Some m) = told_before o mid more b now s is_now in
    let rest : (tapes : List (List Mark)) × (now ≡ middle.0 ++ tapes) × Paired o tapes (pieces gained) more = next middle.0 now middle.1 is_now in
    let first : (all : List (List Mark)) × (now ≡ before ++ all) × Paired o all (piece ∷ pieces gained) (x ∷ more) =
    paired_first o a x mid more visit (pieces gained) before middle.0 now rest.0 is_before middle.1 rest.1 rest.2
    in
    (first.0, first.1, subst (λ (l : List (List Turn)). Paired o first.0 l (x ∷ more)) (sym cuts) first.2)

pieced_more : (o : Site) (a : Shift) (x : Ended) (mid : Shift) (more : List Ended) (b : Shift) (visit : Visited o a x mid)
    → IsPiece (turns visit.went.follows.moves)
    → Serves o mid more b → Pieced o mid more b → Pieced o a (x ∷ more) b
pieced_more o a x mid more b visit is s p =
    let piece : List Turn = turns visit.went.follows.moves in
    let gained : List Turn = p.cut.gained in
    let cuts : pieces (piece ++ gained) ≡ piece ∷ pieces gained = pieces_are piece gained is p.starts in
    record {
      cut = record {
        gained = piece ++ gained;
        turns_are = p.cut.turns_are ∙ ap (λ (l : List Turn). l ++ gained) visit.went.follows.turns_are ∙ append_assoc a.turns piece gained;
        whole = ap joined cuts ∙ ap (λ (l : List Turn). piece ++ l) p.cut.whole;
        opened = openings_are piece gained is ∙ ap (λ (n : ℕ). 1 + n) p.cut.opened ∙ longer Ended x more;
        links = p.cut.links ∙ ap (raised_by more) visit.counted;
        each = ap length cuts ∙ sym (longer (List Turn) piece (pieces gained)) ∙ ap (λ (n : ℕ). 1 + n) p.cut.each ∙ longer Ended x more;
        paired = λ before now is_before is_now. paired_all o a x mid more b visit gained cuts s p.cut.paired before now is_before is_now;
      };
      starts = starts_here piece gained is;
    }

pieced : (o : Site) (a : Shift) (ends : List Ended) (b : Shift) → Serves o a ends b → b.marked ≡ false → Pieced o a ends b
pieced o a [] b s h = pieced_none o a b s
pieced o a (x ∷ more) b (mid, visit, rest) h =
    let unmarked : mid.marked ≡ false = unmarked_by o mid more b mid.marked rest h refl in
    pieced_more o a x mid more b visit
    (is_piece o visit.went.follows.opened visit.went.follows.moves visit.went.follows.last x (not_spent o a x mid visit unmarked) visit.went.follows.through
    visit.went.follows.left)
    rest (pieced o mid more b rest h)

attends : (o : Site) (a : Shift) (ends : List Ended) (b : Shift) → Serves o a ends b → Attends o a b
attends o a ends b s = record { ends = ends; serves = s; cut = λ h. (pieced o a ends b s h).cut }

pub serves_more : (o : Site) (a : Shift) (xs : List Ended) (b : Shift) (x : Ended) (c : Shift) → Serves o a xs b → Visited o b x c → Serves o a (xs ++ x ∷ []) c
serves_more o a [] b x c s visit = (c, subst (λ (v : Shift). Visited o v x c) s visit, refl)
serves_more o a (y ∷ ys) b x c (mid, first, rest) visit = (mid, first, serves_more o mid ys b x c rest visit)

pub attends_same : (o : Site) (a : Shift) (ends : List Ended) (b c : Shift) → Serves o a ends b → c ≡ b → Attends o a c
attends_same o a ends b c s same = subst (λ (v : Shift). Attends o a v) (sym same) (attends o a ends b s)

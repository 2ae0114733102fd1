-- Moves join.
use Rattle.std.proofs.Common.{◌≡◌, ℕ, ◌+◌, ◌≤◌, List, [], ◌∷◌, ◌++◌, length, ◌⊎◌, inl, inr, Bool, true, false, refl, sym, ap, subst, arith, append_assoc}
use Rattle.std.specs.Prelude.{Option, Some, None, ◌||◌}
use Rattle.std.proofs.lemmas.List.{append-nil, length-append}
use Rattle.outside.specs.Devices.{Rose}
use Rattle.outside.specs.Tapes.{Mark, Tells}
use Rattle.outside.specs.Tapes as tape
use Rattle.house_model.specs.Histories.{Turn}
use Rattle.conn_asks.specs.declared.ended.Ended.{Ended}
use Rattle.conn_flow.specs.Moves.{Move, Hears, Waits, Hangs, Fails, Takes, Says, Sends, Enters, Draws, Stops, marks, turns, moments, draws}
use Rattle.conn_flow.specs.Duties.{Site, Duty}
use Rattle.conn_flow.specs.Following.{GoesThrough}
use Rattle.conn_serve.specs.Connections.{Counts}
use Rattle.conn_serve.specs.Serving.{Counted, Exhausted, Finished, Grew, Tale, has, is_fail, is_hang, is_no_dice}

pub tells_nothing : (A : Type 0) (a : Option (List A)) → Tells A a a []
tells_nothing A None = tt
tells_nothing A (Some xs) = sym (append-nil _)

pub tells_both : (A : Type 0) (a b c : Option (List A)) (x y : List A) → Tells A a b x → Tells A b c y → Tells A a c (x ++ y)
tells_both A a b None x y p q = tt
tells_both A a None (Some zs) x y p q = absurd q
tells_both A None (Some ys) (Some zs) x y p q = absurd p
tells_both A (Some xs) (Some ys) (Some zs) x y p q = let e = append_assoc xs x y in cc

pub through_both : (o : Site) (u v w : Duty) (ms ns : List Move) → GoesThrough o u ms v → GoesThrough o v ns w → GoesThrough o u (ms ++ ns) w
through_both o u v w [] ns p q = subst (λ (x : Duty). GoesThrough o x ns w) p q
through_both o u v w (m ∷ ms) ns p q = (p.0, p.1, through_both o p.0 v w ms ns p.2 q)

pub marks_both : (ms ns : List Move) → marks (ms ++ ns) ≡ marks ms ++ marks ns
marks_both [] ns = refl
marks_both (Hears bytes t ∷ ms) ns = ap (λ (r : List Mark). tape.Heard bytes ∷ r) (marks_both ms ns)
marks_both (Waits t ∷ ms) ns = ap (λ (r : List Mark). tape.Quiet ∷ r) (marks_both ms ns)
marks_both (Hangs t ∷ ms) ns = ap (λ (r : List Mark). tape.End ∷ r) (marks_both ms ns)
marks_both (Fails t ∷ ms) ns = ap (λ (r : List Mark). tape.Failed ∷ r) (marks_both ms ns)
marks_both (Takes ∷ ms) ns = marks_both ms ns
marks_both (Says text ∷ ms) ns = marks_both ms ns
marks_both (Sends bytes ∷ ms) ns = ap (λ (r : List Mark). tape.Said bytes ∷ r) (marks_both ms ns)
marks_both (Enters turn ∷ ms) ns = marks_both ms ns
marks_both (Draws dice ∷ ms) ns = marks_both ms ns
marks_both (Stops x ∷ ms) ns = marks_both ms ns

pub moments_both : (ms ns : List Move) → moments (ms ++ ns) ≡ moments ms ++ moments ns
moments_both [] ns = refl
moments_both (Hears bytes t ∷ ms) ns = ap (λ (r : List ℕ). t ∷ r) (moments_both ms ns)
moments_both (Waits t ∷ ms) ns = ap (λ (r : List ℕ). t ∷ r) (moments_both ms ns)
moments_both (Hangs t ∷ ms) ns = ap (λ (r : List ℕ). t ∷ r) (moments_both ms ns)
moments_both (Fails t ∷ ms) ns = ap (λ (r : List ℕ). t ∷ r) (moments_both ms ns)
moments_both (Takes ∷ ms) ns = moments_both ms ns
moments_both (Says text ∷ ms) ns = moments_both ms ns
moments_both (Sends bytes ∷ ms) ns = moments_both ms ns
moments_both (Enters turn ∷ ms) ns = moments_both ms ns
moments_both (Draws dice ∷ ms) ns = moments_both ms ns
moments_both (Stops x ∷ ms) ns = moments_both ms ns

pub turns_both : (ms ns : List Move) → turns (ms ++ ns) ≡ turns ms ++ turns ns
turns_both [] ns = refl
turns_both (Hears bytes t ∷ ms) ns = turns_both ms ns
turns_both (Waits t ∷ ms) ns = turns_both ms ns
turns_both (Hangs t ∷ ms) ns = turns_both ms ns
turns_both (Fails t ∷ ms) ns = turns_both ms ns
turns_both (Takes ∷ ms) ns = turns_both ms ns
turns_both (Says text ∷ ms) ns = turns_both ms ns
turns_both (Sends bytes ∷ ms) ns = turns_both ms ns
turns_both (Enters turn ∷ ms) ns = ap (λ (r : List Turn). turn ∷ r) (turns_both ms ns)
turns_both (Draws dice ∷ ms) ns = turns_both ms ns
turns_both (Stops x ∷ ms) ns = turns_both ms ns

pub draws_both : (ms ns : List Move) → draws (ms ++ ns) ≡ draws ms ++ draws ns
draws_both [] ns = refl
draws_both (Hears bytes t ∷ ms) ns = draws_both ms ns
draws_both (Waits t ∷ ms) ns = draws_both ms ns
draws_both (Hangs t ∷ ms) ns = draws_both ms ns
draws_both (Fails t ∷ ms) ns = draws_both ms ns
draws_both (Takes ∷ ms) ns = draws_both ms ns
draws_both (Says text ∷ ms) ns = draws_both ms ns
draws_both (Sends bytes ∷ ms) ns = draws_both ms ns
draws_both (Enters turn ∷ ms) ns = draws_both ms ns
draws_both (Draws dice ∷ ms) ns = ap (λ (r : List (List ℕ)). dice ∷ r) (draws_both ms ns)
draws_both (Stops x ∷ ms) ns = draws_both ms ns

in_first : (is : Move → Bool) (ms ns : List Move) (a : Bool) → ((has is (ms ++ ns) ≡ true) → (has is ms ≡ true) ⊎ (has is ns ≡ true))
    → (a || has is (ms ++ ns)) ≡ true → ((a || has is ms) ≡ true) ⊎ (has is ns ≡ true)
in_first is ms ns true rest h = inl refl
in_first is ms ns false rest h = rest h

pub has_either : (is : Move → Bool) (ms ns : List Move) → has is (ms ++ ns) ≡ true → (has is ms ≡ true) ⊎ (has is ns ≡ true)
has_either is [] ns h = inr h
has_either is (m ∷ ms) ns h = in_first is ms ns (is m) (has_either is ms ns) h

-- a count that rose in a part rose in all
rose_later : (a b c : ℕ) → Rose a b → b ≤ c → Rose a c
rose_later a b c rose less = omega (arith, rose, less)

rose_earlier : (a b c : ℕ) → a ≤ b → Rose b c → Rose a c
rose_earlier a b c less rose = omega (arith, less, rose)

rose_both : (a b c : ℕ) (is : Move → Bool) (ms ns : List Move) → a ≤ b → b ≤ c → (has is ms ≡ true → Rose a b) → (has is ns ≡ true → Rose b c)
    → has is (ms ++ ns) ≡ true → Rose a c
rose_both a b c is ms ns less more first second h =
    elim (has_either is ms ns h) [ inl one ↦ rose_later a b c (first one) more | inr other ↦ rose_earlier a b c less (second other) ]

least : (a : ℕ) → a ≤ a
least a = omega arith

most : (a b c : ℕ) → a ≤ b → b ≤ c → a ≤ c
most a b c p q = omega (arith, p, q)

pub counted_nothing : (a : Counts) → Counted [] a a
counted_nothing a = record {
  faults_kept = least a.faults;
  ends_kept = least a.ends;
  dice_kept = least a.dice;
  failed = λ h. absurd (let d : false ≡ true = h in cc);
  hung = λ h. absurd (let d : false ≡ true = h in cc);
  dice_failed = λ h. absurd (let d : false ≡ true = h in cc);
}

pub counted_both : (ms ns : List Move) (a b c : Counts) → Counted ms a b → Counted ns b c → Counted (ms ++ ns) a c
counted_both ms ns a b c p q = record {
  faults_kept = most a.faults b.faults c.faults p.faults_kept q.faults_kept;
  ends_kept = most a.ends b.ends c.ends p.ends_kept q.ends_kept;
  dice_kept = most a.dice b.dice c.dice p.dice_kept q.dice_kept;
  failed = rose_both a.faults b.faults c.faults is_fail ms ns p.faults_kept q.faults_kept p.failed q.failed;
  hung = rose_both a.ends b.ends c.ends is_hang ms ns p.ends_kept q.ends_kept p.hung q.hung;
  dice_failed = rose_both a.dice b.dice c.dice is_no_dice ms ns p.dice_kept q.dice_kept p.dice_failed q.dice_failed;
}

pub grew_nothing : (o : Site) (a : Tale) (v : Duty) → Grew o a v a v
grew_nothing o a v = record {
  moves = [];
  through = refl;
  tape = tells_nothing Mark a.told.tape;
  turns_are = sym (append-nil _);
  moments_are = tells_nothing ℕ a.told.moments;
  drawn = tells_nothing (List ℕ) a.told.drawn;
  counted = counted_nothing a.counts;
}

pub grew_both : {o : Site} {a b c : Tale} {u v w : Duty} → Grew o a u b v → Grew o b v c w → Grew o a u c w
grew_both {o = o} {a = a} {b = b} {c = c} {u = u} {v = v} {w = w} p q = record {
  moves = p.moves ++ q.moves;
  through = through_both o u v w p.moves q.moves p.through q.through;
  tape = rw marks_both (tells_both Mark a.told.tape b.told.tape c.told.tape (marks p.moves) (marks q.moves) p.tape q.tape);
  turns_are = rw turns_both (let e = append_assoc a.told.turns (turns p.moves) (turns q.moves) in let f = p.turns_are in let g = q.turns_are in cc);
  moments_are = rw moments_both (tells_both ℕ a.told.moments b.told.moments c.told.moments (moments p.moves) (moments q.moves) p.moments_are q.moments_are);
  drawn = rw draws_both (tells_both (List ℕ) a.told.drawn b.told.drawn c.told.drawn (draws p.moves) (draws q.moves) p.drawn q.drawn);
  counted = counted_both p.moves q.moves a.counts b.counts c.counts p.counted q.counted;
}

-- what comes after goes with what came before

pub finished_after : {o : Site} {a b c : Tale} {u v : Duty} {x : Ended} {t : ℕ} → Grew o a u b v → Finished o b v c x t → Finished o a u c x t
finished_after p q = record { last = q.last; grew = grew_both p q.grew; leaves = q.leaves; sent = q.sent; at = q.at }

pub exhausted_after : {o : Site} {a b c : Tale} {u v : Duty} → Grew o a u b v → Exhausted o b v c → Exhausted o a u c
exhausted_after p q = record { last = q.last; grew = grew_both p q.grew; left = q.left; sent = q.sent }

-- moves are counted

pub lengths : {o : Site} {a b c : Tale} {u v w : Duty} (p : Grew o a u b v) (q : Grew o b v c w)
    → length (grew_both p q).moves ≡ length p.moves + length q.moves
unfolding grew_both
lengths p q = length-append p.moves q.moves

pub longer : {o : Site} {a b c : Tale} {u v w : Duty} (k n more : ℕ) (p : Grew o a u b v) (q : Grew o b v c w) → k ≤ length p.moves
    → n ≤ length q.moves + more → k + n ≤ length (grew_both p q).moves + more
longer k n more p q first second = omega (arith, first, second, lengths p q)

-- One more ring.
use Rattle.std.proofs.Common.{◌≡◌, ◌≢◌, ◌<◌, ◌+◌, ℕ, eqb, cond, List, [], ◌∷◌, ◌++◌, arith, get_or, length, map, set, refl, subst, sym, ap, inl, inr, ◌∙◌}
use Rattle.std.specs.Prelude.{Bool, true, false, Option, None}
use Rattle.std.proofs.lemmas.List.{length-append, length-map, map-set}
use Rattle.std.proofs.lemmas.List.Elements.{filter-append}
use Rattle.std.proofs.lemmas.Bool.Decides.{eqb_tells}
use Rattle.outside.specs.Tapes.{Tells}
use Rattle.outside.specs.declared.poller.Rung.{Rung}
use Rattle.outside.specs.declared.poller.Rung.TheVariants.{New, Ready, Shut, Failed}
use Rattle.conn_serve.specs.declared.turn.Round.{Round}
use Rattle.conn_serve.specs.Rounds.{Asked}
use Rattle.conn_serve.proofs.Growing.{tells_both, tells_nothing}
use Rattle.many_links.specs.Ringing.{AllRang, HadRound, OneRound, Rang, Rounds, goes_on, is_at, rings_at}
use Rattle.many_links.specs.Visits.{AllFree, Spot, at, is_taken}
use Rattle.many_links.proofs.Placing.{at_place, by_place}

-- some rings, and then more
rounds_then : (on mid still : Bool) (xs ys : List Rung) (rs ss : List Round) (n m : ℕ) → Rounds on xs rs n mid → Rounds mid ys ss m still
    → Rounds on (xs ++ ys) (rs ++ ss) (n + m) still
rounds_then on mid still [] ys [] ss n m p q =
    subst (λ (b : Bool). Rounds b ys ss (n + m) still) p.1
    (subst (λ (k : ℕ). Rounds mid ys ss k still) (let none : n ≡ 0 = p.0 in let e : m ≡ n + m = omega (arith, none) in e) q)
rounds_then on mid still [] ys (r ∷ rs) ss n m p q = absurd p
rounds_then on mid still (New k ∷ xs) ys rs ss n m p q =
    let all : n ≡ 1 + p.0 = p.1 in
    (p.0 + m, omega (arith, all), rounds_then true mid still xs ys rs ss p.0 m p.2 q)
rounds_then true mid still (Ready k ∷ xs) ys (r ∷ rs) ss n m p q =
    let all : n ≡ p.0 + p.1 = p.2 in
    (p.0, p.1 + m, omega (arith, all), p.3, rounds_then (goes_on r) mid still xs ys rs ss p.1 m p.4 q)
rounds_then true mid still (Ready k ∷ xs) ys [] ss n m p q = absurd p
rounds_then false mid still (Ready k ∷ xs) ys (r ∷ rs) ss n m p q = absurd p
rounds_then false mid still (Ready k ∷ xs) ys [] ss n m p q = absurd p
rounds_then on mid still (Shut ∷ xs) ys rs ss n m p q = absurd p
rounds_then on mid still (Failed ∷ xs) ys rs ss n m p q = absurd p

-- what one ring comes to at a place, whatever came before it
pub record Next (k : ℕ) (x : Rung) (a b : Spot) (on : Bool) : Type 0 where
  pub rounds : List Round
  pub moments : List ℕ
  pub told : Tells ℕ a.moments b.moments moments
  pub still : Bool
  pub each : Rounds on (rings_at k (x ∷ [])) rounds (length moments) still
  pub busy : is_taken b.busy ≡ true → still ≡ true

abbrev pub Comes : (k : ℕ) → Rung → (a b : Spot) → Type 0
Comes k x a b = (on : Bool) → (is_taken a.busy ≡ true → on ≡ true) → Next k x a b on

one_more : (k : ℕ) (rings : List Rung) (x : Rung) (a b c : Spot) → Rang k rings a b → Comes k x b c → Rang k (rings ++ x ∷ []) a c
one_more k rings x a b c rang comes =
    let next : Next k x b c rang.on = comes rang.on rang.busy in
    record {
      rounds = rang.rounds ++ next.rounds;
      moments = rang.moments ++ next.moments;
      told = tells_both ℕ a.moments b.moments c.moments rang.moments next.moments rang.told next.told;
      on = next.still;
      each = subst (λ (ys : List Rung). Rounds false ys (rang.rounds ++ next.rounds) (length (rang.moments ++ next.moments)) next.still)
          (sym (filter-append (is_at k) rings (x ∷ [])))
          (subst (λ (n : ℕ). Rounds false (rings_at k rings ++ rings_at k (x ∷ [])) (rang.rounds ++ next.rounds) n next.still)
          (sym (length-append rang.moments next.moments))
          (rounds_then false rang.on next.still (rings_at k rings) (rings_at k (x ∷ [])) rang.rounds next.rounds (length rang.moments) (length next.moments)
          rang.each next.each));
      busy = next.busy;
    }

-- a ring is one of its own place, and of no other
same_place : (k : ℕ) → eqb k k ≡ true
same_place k = elim (eqb_tells k k) [ inl e ↦ e.0 | inr e ↦ absurd (e.1 refl) ]

apart : (n k : ℕ) → k ≢ n → eqb n k ≡ false
apart n k other = elim (eqb_tells n k) [ inl e ↦ absurd (other (sym e.1)) | inr e ↦ e.0 ]

pub ready_apart : (n k : ℕ) → k ≢ n → is_at k (Ready n) ≡ false
ready_apart n k other = apart n k other

pub new_apart : (n k : ℕ) → k ≢ n → is_at k (New n) ≡ false
new_apart n k other = apart n k other

rings_one : (k : ℕ) (x : Rung) (b : Bool) → is_at k x ≡ b → rings_at k (x ∷ []) ≡ cond b (x ∷ []) []
rings_one k x b is = ap (λ (c : Bool). cond c (x ∷ []) []) is

-- a ring of another place
passes_by : (k : ℕ) (x : Rung) (s : Spot) → is_at k x ≡ false → Comes k x s s
passes_by k x s is = λ on busy. record {
  rounds = [];
  moments = [];
  told = tells_nothing ℕ s.moments;
  still = on;
  each = subst (λ (ys : List Rung). Rounds on ys [] 0 on) (sym (rings_one k x false is)) (refl, refl);
  busy = busy;
}

-- a link came
pub comes_new : (k : ℕ) (a b : Spot) → Asked a.moments b.moments → Comes k (New k) a b
comes_new k a b asked = λ on busy. record {
  rounds = [];
  moments = asked.0 ∷ [];
  told = asked.1;
  still = true;
  each = subst (λ (ys : List Rung). Rounds on ys [] 1 true) (sym (rings_one k (New k) true (same_place k))) (0, refl, (refl, refl));
  busy = λ e. refl;
}

-- a link that was under way had its round
pub comes_ready : (k : ℕ) (a b : Spot) → is_taken a.busy ≡ true → HadRound a b → Comes k (Ready k) a b
comes_ready k a b taken had = λ on busy.
    let one : OneRound a.moments b.moments (is_taken b.busy) = had taken in
    record {
      rounds = one.round ∷ [];
      moments = one.once.0;
      told = one.once.1;
      still = goes_on one.round;
      each = subst (λ (ys : List Rung). Rounds on ys (one.round ∷ []) (length one.once.0) (goes_on one.round))
          (sym (rings_one k (Ready k) true (same_place k)))
          (subst (λ (c : Bool). Rounds c (Ready k ∷ []) (one.round ∷ []) (length one.once.0) (goes_on one.round)) (sym (busy taken))
          (length one.once.0, 0, omega arith, one.once.2, (refl, refl)));
      busy = λ e. one.goes ∙ e;
    }

-- one more ring, where one of the places was changed
pub rang_at : {X : Type 0} (f : X → Spot) (olds : List Spot) (items : List X) (n : ℕ) (p p' : X) (x : Rung) (rung mid waited rung' : Option (List Rung))
    → n < length items → p ≡ get_or items n p → length olds ≡ length items → Tells Rung mid waited (x ∷ []) → rung' ≡ waited
    → ((k : ℕ) → k ≢ n → is_at k x ≡ false) → Comes n x (f p) (f p')
    → AllRang olds rung (map f items) mid → AllRang olds rung (map f (set items n p')) rung'
rang_at f olds items n p p' x rung mid waited rung' less value same told kept others here all =
    let spots : List Spot = map f items in
    let comes : Comes n x (at spots n) (f p') = subst (λ (s : Spot). Comes n x s (f p')) (sym (at_place f items n p less value)) here in (
      all.0 ++ x ∷ [],
      subst (λ (t : Option (List Rung)). Tells Rung rung t (all.0 ++ x ∷ [])) (sym kept) (tells_both Rung rung mid waited all.0 (x ∷ []) all.1 told),
      λ k low.
          subst (λ (news : List Spot). Rang k (all.0 ++ x ∷ []) (at olds k) (at news k)) (sym (map-set f items n p'))
          (one_more k all.0 x (at olds k) (at spots k) (at (set spots n (f p')) k) (all.2 k low)
          (by_place (λ j s. Comes j x (at spots j) s) spots n (f p') k
          (subst (λ (m : ℕ). k < m) (same ∙ sym (length-map items f)) low) comes (λ other. passes_by k x (at spots k) (others k other)))),
    )

-- where it is a ring of no place
pub rang_nowhere : (olds spots : List Spot) (x : Rung) (rung mid rung' : Option (List Rung)) → Tells Rung mid rung' (x ∷ [])
    → ((k : ℕ) → is_at k x ≡ false) → AllRang olds rung spots mid → AllRang olds rung spots rung'
rang_nowhere olds spots x rung mid rung' told none all = (
  all.0 ++ x ∷ [],
  tells_both Rung rung mid rung' all.0 (x ∷ []) all.1 told,
  λ k low. one_more k all.0 x (at olds k) (at spots k) (at spots k) (all.2 k low) (passes_by k x (at spots k) (none k)),
)

-- a link was let go
gone : (k : ℕ) (rings : List Rung) (a b c : Spot) → c.moments ≡ b.moments → c.busy ≡ None → Rang k rings a b → Rang k rings a c
gone k rings a b c moments free rang = record {
  rounds = rang.rounds;
  moments = rang.moments;
  told = subst (λ (t : Option (List ℕ)). Tells ℕ a.moments t rang.moments) (sym moments) rang.told;
  on = rang.on;
  each = rang.each;
  busy = λ e. absurd (let f : true ≡ false = sym e ∙ ap is_taken free in cc);
}

pub rang_on : {X : Type 0} (f : X → Spot) (olds : List Spot) (items : List X) (n : ℕ) (p p' : X) (rung mid rung' : Option (List Rung))
    → n < length items → p ≡ get_or items n p → length olds ≡ length items → rung' ≡ mid → (f p').moments ≡ (f p).moments → (f p').busy ≡ None
    → AllRang olds rung (map f items) mid → AllRang olds rung (map f (set items n p')) rung'
rang_on f olds items n p p' rung mid rung' less value same told moments free all =
    let spots : List Spot = map f items in
    let low_at : n < length olds = subst (λ (m : ℕ). n < m) (sym same) less in
    let before : Rang n all.0 (at olds n) (f p) = subst (λ (s : Spot). Rang n all.0 (at olds n) s) (at_place f items n p less value) (all.2 n low_at) in (
      all.0,
      subst (λ (t : Option (List Rung)). Tells Rung rung t all.0) (sym told) all.1,
      λ k low.
          subst (λ (news : List Spot). Rang k all.0 (at olds k) (at news k)) (sym (map-set f items n p'))
          (by_place (λ j s. Rang j all.0 (at olds j) s) spots n (f p') k (subst (λ (m : ℕ). k < m) (same ∙ sym (length-map items f)) low)
          (gone n all.0 (at olds n) (f p) (f p') moments free before) (λ other. all.2 k low)),
    )

-- at the start none rang
pub none_rang : (spots : List Spot) (rung : Option (List Rung)) → AllFree spots → AllRang spots rung spots rung
none_rang spots rung free = (
  [],
  tells_nothing Rung rung,
  λ k less. record {
    rounds = [];
    moments = [];
    told = tells_nothing ℕ (at spots k).moments;
    on = false;
    each = (refl, refl);
    busy = λ e. absurd (let f : true ≡ false = sym e ∙ ap is_taken (free k less) in cc);
  },
)

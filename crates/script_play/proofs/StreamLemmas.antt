-- The framers of places.
use Rattle.std.proofs.Common.{◌≡◌, ℕ, zero, suc, ◌<◌, ◌≤◌, List, [], ◌∷◌, ◌++◌, length, get_or, set, refl, sym}
use Rattle.std.proofs.Common.{ap, ◌∙◌, subst, append-nil, Bool, true, false, ◌==◌, eq-eqb, arith}
use Rattle.std.proofs.lemmas.Bool.{eqb-true}
use Rattle.std.proofs.lemmas.List.{get_or-set_same, get_or-set_other}
use Rattle.std.specs.Prelude.{Option, Some, None, if◌then◌else◌}
use Rattle.house_model.specs.Histories.{Turn, StandsFor}
use Rattle.house_model.specs.States.{State, Kept}
use Rattle.stream_grammar.specs.declared.item.Item.{Item}
use Rattle.stream_grammar.specs.machine.Reading.{Reading, reads, stopped, first_reading, reading_next, handed, is_ready, is_none, went}
use Rattle.replay_script.specs.Deeds.{with_framer}
use Rattle.stream_frames.specs.Limits.{limits}
use Rattle.script_play.specs.declared.place.Place.{Place}
use Rattle.script_play.specs.Streams.{reading_at, framers_of}

-- A reading whose item was handed out.

pub handed_ready : (s : Reading) → is_ready (handed s) ≡ true
handed_ready (stopped f k) = refl
handed_ready (reads f b n k) = refl

pub handed_twice : (s : Reading) → handed (handed s) ≡ handed s
handed_twice (stopped f k) = refl
handed_twice (reads f b n k) = refl

pub ready_handed : (s : Reading) → is_ready s ≡ true → handed s ≡ s
ready_handed (stopped f k) h = refl
ready_handed (reads f b n k) h = none b.item h refl
  where
    none : (i : Option Item) → is_none i ≡ true → b.item ≡ i → reads f (record b { item = None }) n k ≡ reads f b n k
    none None h e = ap (λ (i : Option Item). reads f (record b { item = i }) n k) (sym e)
    none (Some i) h e = absurd (let bad : false ≡ true = h in cc)

-- a byte more
pub went_on : (s : Reading) (b : ℕ) (bs : List ℕ) → is_ready s ≡ true
    → handed (went limits (handed (reading_next limits s b)) bs) ≡ handed (went limits s (b ∷ bs))
went_on s b bs h = again (reading_next limits s b) bs ∙ ap (λ (x : Reading). handed (went limits (reading_next limits x b) bs)) (sym (ready_handed s h))
  where
    again : (s : Reading) (bs : List ℕ) → handed (went limits (handed s) bs) ≡ handed (went limits s bs)
    again s [] = handed_twice s
    again s (c ∷ cs) = ap (λ (x : Reading). handed (went limits (reading_next limits x c) cs)) (handed_twice s)

-- Places.

pub place_set : (places : List (Option Place)) (w : ℕ) (x : Option Place) (s : Reading) → w < length places → reading_at x ≡ s
    → framers_of (set places w x) ≡ with_framer w s (framers_of places)
place_set places w x s h e = λ i v. same v i
  where
    same : (v : ℕ) → reading_at (get_or (set places w x) v None) ≡ (if v == w then s else reading_at (get_or places v None))
    same v = by (v == w) refl
      where
        by : (t : Bool) → (v == w) ≡ t → reading_at (get_or (set places w x) v None) ≡ (if t then s else reading_at (get_or places v None))
        by true k = ap reading_at (ap (λ (n : ℕ). get_or (set places w x) n None) (eqb-true v w k) ∙ get_or-set_same places w x None h) ∙ e
        by false k = ap reading_at (get_or-set_other places w v x None (λ same. let bad : false ≡ true = sym k ∙ eq-eqb v w same in cc))

-- a place more, of which nothing was fed
pub place_more : (places : List (Option Place)) → framers_of (places ++ None ∷ []) ≡ framers_of places
place_more places = λ i v. ap reading_at (same places v) i
  where
    past : (xs : List (Option Place)) (v : ℕ) → length xs ≤ v → get_or xs v None ≡ None
    past [] v h = refl
    past (x ∷ xs) zero h = absurd (omega (arith, h))
    past (x ∷ xs) (suc v) h = past xs v (let e : suc (length xs) ≤ suc v = h in let f : length xs ≤ v = omega (arith, e) in f)

    same : (xs : List (Option Place)) (v : ℕ) → get_or (xs ++ None ∷ []) v None ≡ get_or xs v None
    same [] zero = refl
    same [] (suc v) = refl
    same (x ∷ xs) zero = refl
    same (x ∷ xs) (suc v) = same xs v

-- a place that is not there was not fed
pub place_none : (places : List (Option Place)) (w : ℕ) → length places ≤ w → framers_of places ≡ with_framer w first_reading (framers_of places)
place_none places w h = λ i v. same v i
  where
    past : (xs : List (Option Place)) (v : ℕ) → length xs ≤ v → get_or xs v None ≡ None
    past [] v h = refl
    past (x ∷ xs) zero h = absurd (omega (arith, h))
    past (x ∷ xs) (suc v) h = past xs v (let e : suc (length xs) ≤ suc v = h in let f : length xs ≤ v = omega (arith, e) in f)

    same : (v : ℕ) → reading_at (get_or places v None) ≡ (if v == w then first_reading else reading_at (get_or places v None))
    same v = by (v == w) refl
      where
        by : (t : Bool) → (v == w) ≡ t → reading_at (get_or places v None) ≡ (if t then first_reading else reading_at (get_or places v None))
        by true k = ap reading_at (past places v (let e : v ≡ w = eqb-true v w k in omega (arith, e, h)))
        by false k = refl

-- a place that is set again
pub with_set : (places : List (Option Place)) (w : ℕ) (x : Option Place) (s : Reading)
    → with_framer w s (framers_of (set places w x)) ≡ with_framer w s (framers_of places)
with_set places w x s = λ i v. same v i
  where
    same : (v : ℕ) → (if v == w then s else reading_at (get_or (set places w x) v None)) ≡ (if v == w then s else reading_at (get_or places v None))
    same v = by (v == w) refl
      where
        by : (t : Bool) → (v == w) ≡ t → (if t then s else reading_at (get_or (set places w x) v None)) ≡ (if t then s else reading_at (get_or places v None))
        by true k = refl
        by false k = ap reading_at (get_or-set_other places w v x None (λ same. let bad : false ≡ true = sym k ∙ eq-eqb v w same in cc))

-- nothing was played
pub no_more : (o : State) (h : List Turn) (house : Kept) → StandsFor o h house → StandsFor o (h ++ []) house
no_more o h house s = subst (λ (l : List Turn). StandsFor o l house) (sym (append-nil h)) s

pub nothing_printed : (out : List ℕ) → out ≡ out ++ []
nothing_printed out = sym (append-nil out)

-- what stands for a place that is not there doesn't matter
pub any_default : {X : Type 0} (xs : List X) (w : ℕ) (d e : X) → w < length xs → get_or xs w d ≡ get_or xs w e
any_default [] w d e h = absurd (omega (arith, h))
any_default (x ∷ xs) zero d e h = refl
any_default (x ∷ xs) (suc w) d e h = any_default xs w d e (let f : suc w < suc (length xs) = h in let g : w < length xs = omega (arith, f) in g)

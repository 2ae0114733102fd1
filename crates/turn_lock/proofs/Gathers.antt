-- The view that has taken in all passes, as `close` does.
use Rattle.std.proofs.Common.{◌≡◌, ℕ, ◌≤◌, ◌^◌, Bool, true, false, List, [], ◌∷◌, ◌++◌, map, length, sym, refl, ap, ◌∙◌, subst, arith, append_assoc, All}
use Rattle.std.proofs.lemmas.List.{append-nil, map-append, length-map}
use Rattle.std.proofs.lemmas.List.Elements.{All-nil, All-cons, All-head, All-tail, Contains-append_right}
use Rattle.std.specs.List.{Contains}
use Rattle.std.specs.Prelude.{Option}
use mathlib.Core.Logic.{dite}
use native.Mathlib.Decide.{ℕ_discrete}
use Rattle.atomic_table.specs.Table.{Me}
use Rattle.turn_lock.specs.declared.rule.Claim.{Claim}
use Rattle.turn_lock.specs.declared.rule.Stage.TheVariants.{Idle}
use Rattle.turn_lock.specs.declared.rule.View.{View}
use Rattle.turn_lock.specs.declared.tokens.Pass.{Pass}
use Rattle.turn_lock.specs.declared.lock.Turnstile.{Turnstile}
use Rattle.turn_lock.specs.Views.{either_of, times, taken_in}
use Rattle.turn_lock.specs.Histories.{Each, StartsWith, Sound, places}
use Rattle.turn_lock.specs.Passes.{number_of, seen, refused, drawn, mine, root_of, Stands, IsIdle}
use Rattle.turn_lock.proofs.Sums.{bit_apart}
use Rattle.turn_lock.proofs.Stories.{each_map, each_left, each_right}

module _ {X : Type 0} (P : X → Type 0) where
  pub each_of : (l : List X) → All P l → Each P l
  each_of [] all = tt
  each_of (x ∷ xs) all = (All-head P x xs all, each_of xs (All-tail P x xs all))

  pub all_of : (l : List X) → Each P l → All P l
  all_of [] each = All-nil P
  all_of (x ∷ xs) each = All-cons P x xs each.0 (all_of xs each.1)

  pub each_middle : (l : List X) (x : X) (m : List X) → Each P (l ++ x ∷ m) → P x
  each_middle [] x m each = each.0
  each_middle (y ∷ ys) x m each = each_middle ys x m each.1

nothing_left : {X : Type 0} (l : List X) (n : ℕ) → length l ≡ n → n ≡ 0 → l ≡ []
nothing_left [] n size zero = refl
nothing_left (x ∷ xs) n size zero = absurd (omega arith)

contains_first : (n : ℕ) (l : List ℕ) → Contains (n ∷ l) n
contains_first n l = (0, omega arith, refl)

-- a number of one of the claims is among their numbers
contains_number : (n : ℕ) (cs : List Claim) → times n cs ≡ 1 → Contains (map (λ c. c.number) cs) n
contains_number n [] once = absurd (omega arith)
contains_number n (c ∷ cs) once = dite (ℕ_discrete c.number n)
    (λ same. subst (λ (z : ℕ). Contains (map (λ c. c.number) (c ∷ cs)) z) same (contains_first c.number (map (λ c. c.number) cs)))
    (λ apart. let here = bit_apart c.number n apart in Contains-append_right (c.number ∷ []) (map (λ c. c.number) cs) n (contains_number n cs (omega arith)))

either-true : (a : Bool) → a ≡ true → (b : Bool) → either_of a b ≡ true
either-true a marked true = refl
either-true a marked false = marked

-- what a view tells that took in another, it told before
sound_left : {E R : Type 0} (line : E → ℕ) (log : List E) (v w : View E R) → Sound line log (taken_in v w) → Sound line log v
sound_left line log v w s = record {
  seen = s.seen;
  met = each_left (StartsWith log) v.met (w.seen ∷ []) s.met;
  claims = each_left (λ c. places line c.number 0 log ≡ c.places) v.claims w.claims s.claims;
  refused = λ marked. s.refused (either-true v.refused marked w.refused);
  drawn = let a = s.drawn in omega arith;
}

module _ {T E R : Type 0} where
  abbrev pub view_of : Pass T E R → View E R
  view_of p = p.seat.me.0

  -- the view v, once it has taken in those of the passes, one after the other
  abbrev pub gathered : View E R → List (Pass T E R) → View E R
  gathered v [] = v
  gathered v (p ∷ ps) = gathered (taken_in v (view_of p)) ps

  pub gathered-push : (v : View E R) (ps : List (Pass T E R)) (p : Pass T E R) → gathered v (ps ++ p ∷ []) ≡ taken_in (gathered v ps) (view_of p)
  gathered-push v [] p = refl
  gathered-push v (x ∷ xs) p = gathered-push (taken_in v (view_of x)) xs p

  pub stage-gathered : (v : View E R) (ps : List (Pass T E R)) → (gathered v ps).stage ≡ v.stage
  stage-gathered v [] = refl
  stage-gathered v (p ∷ ps) = stage-gathered (taken_in v (view_of p)) ps

  pub root-gathered : (v : View E R) (ps : List (Pass T E R)) → (gathered v ps).root ≡ v.root
  root-gathered v [] = refl
  root-gathered v (p ∷ ps) = root-gathered (taken_in v (view_of p)) ps

module _ {T E R : Type 0} (line : E → ℕ) where
  -- what close says of a pass, by the whole history
  pub record Told (log : List E) (p : Pass T E R) : Type 0 where
    pub seen : StartsWith log (seen p)
    pub mine : places line (number_of p) 0 log ≡ mine line p
    pub refused : refused p ≡ true → 2 ^ 63 ≤ length log
    pub drawn : drawn p ≤ length log

  -- a pass tells what its view does
  told_of : (q : R) (log : List E) (p : Pass T E R) → Stands line q Idle [] p → StartsWith log (seen p)
      → Each (λ c. places line c.number 0 log ≡ c.places) (view_of p).claims → (refused p ≡ true → 2 ^ 63 ≤ length log) → drawn p ≤ length log → Told log p
  told_of q log p idle sight claims marks known = record {
    seen = sight;
    mine = (subst (Each (λ c. places line c.number 0 log ≡ c.places)) (ap (λ m. m.0.claims) idle) claims).0;
    refused = marks;
    drawn = known;
  }

  told_right : (q : R) (log : List E) (v : View E R) (p : Pass T E R) → Stands line q Idle [] p → Sound line log (taken_in v (view_of p)) → Told log p
  told_right q log v p idle s = told_of q log p idle
      (each_right (StartsWith log) v.met ((view_of p).seen ∷ []) s.met).0
      (each_right (λ c. places line c.number 0 log ≡ c.places) v.claims (view_of p).claims s.claims)
      (λ marked. s.refused (ap (either_of v.refused) marked))
      (let a = s.drawn in omega arith)

  all_told : (q : R) (log : List E) (v : View E R) (ps : List (Pass T E R)) → Each (Stands line q Idle []) ps → Sound line log (gathered v ps)
      → Sound line log v × Each (Told log) ps
  all_told q log v [] idle s = (s, tt)
  all_told q log v (p ∷ ps) idle s =
      let later = all_told q log (taken_in v (view_of p)) ps idle.1 s in
      (sound_left line log v (view_of p) later.0, (told_right q log v p idle.0 later.0, later.1))

  -- the claims of all are their numbers
  numbers-gathered : (q : R) (v : View E R) (ps : List (Pass T E R)) → Each (Stands line q Idle []) ps
      → map (λ c. c.number) (gathered v ps).claims ≡ map (λ c. c.number) v.claims ++ map number_of ps
  numbers-gathered q v [] idle = sym (append-nil (map (λ c. c.number) v.claims))
  numbers-gathered q v (p ∷ ps) idle =
      let own : map (λ c. c.number) (view_of p).claims ≡ number_of p ∷ [] = ap (λ m. map (λ c. c.number) m.0.claims) idle.0 in
      let before : List ℕ = map (λ c. c.number) v.claims in
      numbers-gathered q (taken_in v (view_of p)) ps idle.1
      ∙ (ap (λ (l : List ℕ). l ++ map number_of ps) (map-append (λ c. c.number) v.claims (view_of p).claims)
      ∙ (ap (λ (l : List ℕ). (before ++ l) ++ map number_of ps) own ∙ append_assoc before (number_of p ∷ []) (map number_of ps)))

  -- the view of the first, with those of the others, has a claim for each of all passes
  numbers_of_all : (q : R) (p : Pass T E R) (ps items : List (Pass T E R)) → items ≡ p ∷ ps → All (Stands line q Idle []) items
      → map (λ c. c.number) (gathered (view_of p) ps).claims ≡ map number_of items
  numbers_of_all q p ps items all idle =
      let idle' = subst (Each (Stands line q Idle [])) all (each_of (Stands line q Idle []) items idle) in
      numbers-gathered q (view_of p) ps idle'.1
      ∙ (ap (λ m. map (λ c. c.number) m.0.claims ++ map number_of ps) idle'.0 ∙ ap (map number_of) (sym all))

  length-claims : (q : R) (p : Pass T E R) (ps items : List (Pass T E R)) → items ≡ p ∷ ps → All (Stands line q Idle []) items
      → length (gathered (view_of p) ps).claims ≡ length items
  length-claims q p ps items all idle =
      let claims = (gathered (view_of p) ps).claims in
      sym (length-map claims (λ c. c.number)) ∙ (ap length (numbers_of_all q p ps items all idle) ∙ length-map items number_of)

  -- what that view tells, each pass tells
  told_of_all : (q : R) (log : List E) (p : Pass T E R) (ps items : List (Pass T E R)) → items ≡ p ∷ ps → All (Stands line q Idle []) items
      → Sound line log (gathered (view_of p) ps) → All (Told log) items
  told_of_all q log p ps items all idle sound =
      let idle' = subst (Each (Stands line q Idle [])) all (each_of (Stands line q Idle []) items idle) in
      let told = all_told q log (view_of p) ps idle'.1 sound in
      let first : Told log p = told_of q log p idle'.0 told.0.seen told.0.claims told.0.refused told.0.drawn in
      subst (All (Told log)) (sym all) (all_of (Told log) (p ∷ ps) (first, told.1))

  lines_of_all : (q : R) (log : List E) (p : Pass T E R) (ps items : List (Pass T E R)) → items ≡ p ∷ ps → All (Stands line q Idle []) items
      → Each (λ e. times (line e) (gathered (view_of p) ps).claims ≡ 1) log → All (λ e. Contains (map number_of items) (line e)) log
  lines_of_all q log p ps items all idle once =
      let claims = (gathered (view_of p) ps).claims in
      let number : (e : E) → times (line e) claims ≡ 1
      → Contains (map number_of items) (line e) =
      λ e one. subst (λ (l : List ℕ). Contains l (line e)) (numbers_of_all q p ps items all idle) (contains_number (line e) claims one) in
      all_of (λ e. Contains (map number_of items) (line e)) log
      (each_map (λ e. times (line e) claims ≡ 1) (λ e. Contains (map number_of items) (line e)) number log once)

  -- the same after the loop of close: the seat m took in all of `items`, of which `rest` is what was left
  module _ (root : T → R) (lock : Turnstile T E R) (p : Pass T E R) (ps rest items : List (Pass T E R)) (n : ℕ) (m : Me (Option T) (View E R)) where
    abbrev Over : Type 0
    Over = (items ≡ p ∷ (ps ++ rest)) × (length rest ≡ n) × (n ≡ 0) × All (IsIdle line root lock) items × (m ≡ (gathered (view_of p) ps, []))

    all_items : Over → items ≡ p ∷ ps
    all_items over = over.0 ∙ (ap (λ (l : List (Pass T E R)). p ∷ (ps ++ l)) (nothing_left rest n over.1 over.2)
        ∙ ap (λ (l : List (Pass T E R)). p ∷ l) (append-nil ps))

    pub claims_at_end : Over → length m.0.claims ≡ length items
    claims_at_end over = ap (λ (z : Me (Option T) (View E R)). length z.0.claims) over.4
        ∙ length-claims (root_of root lock) p ps items (all_items over) (λ k d h. (over.3 k d h).1)

    pub told_at_end : Over → (log : List E) → Sound line log m.0 → All (Told log) items
    told_at_end over log sound =
        told_of_all (root_of root lock) log p ps items (all_items over) (λ k d h. (over.3 k d h).1)
        (subst (λ (z : Me (Option T) (View E R)). Sound line log z.0) over.4 sound)

    pub lines_at_end : Over → (log : List E) → Each (λ e. times (line e) m.0.claims ≡ 1) log → All (λ e. Contains (map number_of items) (line e)) log
    lines_at_end over log once =
        lines_of_all (root_of root lock) log p ps items (all_items over) (λ k d h. (over.3 k d h).1)
        (subst (λ (z : Me (Option T) (View E R)). Each (λ e. times (line e) z.0.claims ≡ 1) log) over.4 once)

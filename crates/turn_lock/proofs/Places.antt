-- What stands at the places of a line, and what the calls say together.
use Rattle.std.proofs.Common.{◌≡◌, ◌⊎◌, ℕ, zero, suc, ◌<◌, Bool, true, false, cond, eqb, All, None, Some}
use Rattle.std.proofs.Common.{List, [], ◌∷◌, ◌++◌, map, drop, length, get_or}
use Rattle.std.proofs.Common.{sym, refl, ap, ◌∙◌, subst, inl, inr, ⊎_elim, arith, eq-eqb, ne_eqb}
use Rattle.std.proofs.lemmas.List.Elements.{All-contains, All-weaker, Contains-append_right}
use Rattle.std.proofs.lemmas.Option.{slice_get_within, slice_get-get_or}
use Rattle.std.specs.List.{Contains}
use Rattle.std.specs.Prelude.{Option, slice_get, ◌↔◌}
use mathlib.Core.Logic.{dite}
use native.Mathlib.Decide.{ℕ_discrete}
use Rattle.turn_lock.specs.declared.tokens.Pass.{Pass}
use Rattle.turn_lock.specs.Histories.{Each, StartsWith, places, if_so}
use Rattle.turn_lock.specs.Passes.{number_of, seen, mine}
use Rattle.turn_lock.specs.Calls.{entries_of, entries_at, StandsAt, HasPlacesIn, HasEntriesIn, SeeOneHistory}
use Rattle.turn_lock.specs.Calls.{Enters, Leaves, OneTurn, Closes}
use Rattle.turn_lock.proofs.Stories.{each_map, starts_through, length-starts}
use Rattle.turn_lock.proofs.Gathers.{all_of}

here : {X : Type 0} (x : X) (xs : List X) → Contains (x ∷ xs) x
here x xs = (0, omega arith, refl)

module _ {E : Type 0} (line : E → ℕ) (n : ℕ) where
  if_so-suc : (b : Bool) (k : ℕ) (ks : List ℕ) → if_so b (suc k) (map suc ks) ≡ map suc (if_so b k ks)
  if_so-suc true k ks = refl
  if_so-suc false k ks = refl

  places-suc : (k : ℕ) (log : List E) → places line n (suc k) log ≡ map suc (places line n k log)
  places-suc k [] = refl
  places-suc k (e ∷ es) =
      ap (if_so (eqb (line e) n) (suc k)) (places-suc (suc k) es)
      ∙ if_so-suc (eqb (line e) n) k (places line n (suc k) es)

  entries_at-suc : (e : E) (es : List E) (ks : List ℕ) → entries_at (e ∷ es) (map suc ks) ≡ entries_at es ks
  entries_at-suc e es [] = refl
  entries_at-suc e es (k ∷ ks) = ap (λ (l : List (Option E)). slice_get es k ∷ l) (entries_at-suc e es ks)

  -- one entry more in front
  entries-cons : (b : Bool) (e : E) (es own : List E) (ks : List ℕ) → entries_at (e ∷ es) ks ≡ map Some own
      → entries_at (e ∷ es) (if_so b 0 ks) ≡ map Some (cond b (e ∷ own) own)
  entries-cons true e es own ks same = ap (λ (l : List (Option E)). Some e ∷ l) same
  entries-cons false e es own ks same = same

  pub entries_at_places : (log : List E) → entries_at log (places line n 0 log) ≡ map Some (entries_of line n log)
  entries_at_places [] = refl
  entries_at_places (e ∷ es) = entries-cons (eqb (line e) n) e es (entries_of line n es) (places line n 1 es)
      (ap (entries_at (e ∷ es)) (places-suc 0 es)
      ∙ (entries_at-suc e es (places line n 0 es) ∙ entries_at_places es))

  each_suc : (P : ℕ → Type 0) (ks : List ℕ) → Each (λ k. P (suc k)) ks → Each P (map suc ks)
  each_suc P [] all = tt
  each_suc P (k ∷ ks) all = (all.0, each_suc P ks all.1)

  pub stands_at_each : (log : List E) → Each (StandsAt line n log) (places line n 0 log)
  stands_at_each [] = tt
  stands_at_each (e ∷ es) =
      let P : ℕ → Type 0 = StandsAt line n (e ∷ es) in
      let later : Each P (places line n 1 es) = subst (Each P) (sym (places-suc 0 es))
      (each_suc P (places line n 0 es) (stands_at_each es)) in
      let first : Bool → List ℕ = λ b. if_so b 0 (places line n 1 es) in
      dite (ℕ_discrete (line e) n)
      (λ same. subst (Each P) (sym (ap first (eq-eqb (line e) n same))) ((e, refl, same), later))
      (λ apart. subst (Each P) (sym (ap first (ne_eqb (line e) n apart))) later)

  contains-suc : (ks : List ℕ) (i : ℕ) → Contains ks i → Contains (map suc ks) (suc i)
  contains-suc [] i has = let none = has.1 in absurd (omega arith)
  contains-suc (k ∷ ks) i (zero, less, same) = (0, omega arith, ap suc same)
  contains-suc (k ∷ ks) i (suc j, less, same) =
      Contains-append_right (suc k ∷ []) (map suc ks) (suc i) (contains-suc ks i (j, omega arith, same))

  contains_later : (b : Bool) (ks : List ℕ) (i : ℕ) → Contains ks i → Contains (if_so b 0 ks) i
  contains_later true ks i has = Contains-append_right (0 ∷ []) ks i has
  contains_later false ks i has = has

  contains_place : (log : List E) (i : ℕ) → StandsAt line n log i → Contains (places line n 0 log) i
  contains_place [] i at = let none : None ≡ Some at.0 = at.1 in cc
  contains_place (x ∷ xs) zero at =
      let is : Some x ≡ Some at.0 = at.1 in
      let same : x ≡ at.0 = cc in
      let first : Bool → List ℕ = λ b. if_so b 0 (places line n 1 xs) in
      let own : eqb (line x) n ≡ true = eq-eqb (line x) n (ap line same ∙ at.2) in
      subst (λ (l : List ℕ). Contains l 0) (sym (ap first own)) (here 0 (places line n 1 xs))
  contains_place (x ∷ xs) (suc i) at = contains_later (eqb (line x) n) (places line n 1 xs) (suc i)
      (subst (λ (l : List ℕ). Contains l (suc i)) (sym (places-suc 0 xs))
      (contains-suc (places line n 0 xs) i (contains_place xs i at)))

  pub places_are_where : (log : List E) (i : ℕ) → Contains (places line n 0 log) i ↔ StandsAt line n log i
  places_are_where log i = (
    (λ has. All-contains (StandsAt line n log) (places line n 0 log) i
        (all_of (StandsAt line n log) (places line n 0 log) (stands_at_each log)) has),
    contains_place log i,
  )

module _ {E : Type 0} where
  -- of two beginnings of a list, one begins with the other
  pub starts_or_starts : (log a b : List E) → StartsWith log a → StartsWith log b → StartsWith a b ⊎ StartsWith b a
  starts_or_starts log [] b left right = inr (b, refl)
  starts_or_starts log (x ∷ xs) [] left right = inl (x ∷ xs, refl)
  starts_or_starts [] (x ∷ xs) (y ∷ ys) left right =
      let short = length-starts [] (x ∷ xs) left in absurd (omega arith)
  starts_or_starts (z ∷ zs) (x ∷ xs) (y ∷ ys) left right =
      let first : z ≡ x = ap (λ (l : List E). get_or l 0 z) left.1 in
      let first' : z ≡ y = ap (λ (l : List E). get_or l 0 z) right.1 in
      let same : x ≡ y = sym first ∙ first' in
      ⊎_elim
      (λ yes. inl (yes.0, λ i. same i ∷ yes.1 i))
      (λ no. inr (no.0, λ i. sym same i ∷ no.1 i))
      (starts_or_starts zs xs ys (left.0, ap (drop 1) left.1) (right.0, ap (drop 1) right.1))

module _ {T E R : Type 0} where
  pass_of : (passes : List (Pass T E R)) (n : ℕ) → Contains (map number_of passes) n
      → (p : Pass T E R) × Contains passes p × (number_of p ≡ n)
  pass_of [] n has = let none = has.1 in absurd (omega arith)
  pass_of (p ∷ ps) n (zero, less, same) = (p, here p ps, same)
  pass_of (p ∷ ps) n (suc j, less, same) =
      let found = pass_of ps n (j, omega arith, same) in
      (found.0, Contains-append_right (p ∷ []) ps found.0 found.1, found.2)

  module _ (line : E → ℕ) where
    pub closed_places : (passes : List (Pass T E R)) (log : List E) → Closes line passes log
        → All (HasPlacesIn line log) passes
    closed_places passes log c = All-weaker
        (λ p. mine line p ≡ places line (number_of p) 0 log)
        (HasPlacesIn line log)
        (λ p same i. subst (λ (l : List ℕ). Contains l i ↔ StandsAt line (number_of p) log i) (sym same)
        (places_are_where line (number_of p) log i))
        passes c.mine

    pub closed_entries : (passes : List (Pass T E R)) (log : List E) → Closes line passes log
        → All (HasEntriesIn line log) passes
    closed_entries passes log c = All-weaker
        (λ p. mine line p ≡ places line (number_of p) 0 log)
        (HasEntriesIn line log)
        (λ p same. ap (entries_at log) same ∙ entries_at_places line (number_of p) log)
        passes c.mine

    pub closed_by_someone : (passes : List (Pass T E R)) (log : List E) → Closes line passes log
        → (i : ℕ) → i < length log → (p : Pass T E R) × Contains passes p × Contains (mine line p) i
    closed_by_someone passes log c i less =
        let e : E = get_or log i (first_of log less) in
        let its = pass_of passes (line e) (c.lines i (first_of log less) less) in
        let own = All-contains (HasPlacesIn line log) passes its.0 (closed_places passes log c) its.1 in
        (its.0, its.1, (own i).1 (e, slice_get-get_or log i (first_of log less) less, sym its.2)) where
          first_of : (l : List E) → i < length l → E
          first_of [] none = absurd (omega arith)
          first_of (x ∷ xs) some = x

    pub closed_by_one : (passes : List (Pass T E R)) (log : List E) → Closes line passes log
        → (p q : Pass T E R) (i : ℕ) → Contains passes p → Contains passes q
        → Contains (mine line p) i → Contains (mine line q) i → number_of p ≡ number_of q
    closed_by_one passes log c p q i has has' left right =
        let own = closed_places passes log c in
        let first = (All-contains (HasPlacesIn line log) passes p own has i).0 left in
        let second = (All-contains (HasPlacesIn line log) passes q own has' i).0 right in
        let both : Some first.0 ≡ Some second.0 = sym first.1 ∙ second.1 in
        let same : first.0 ≡ second.0 = cc in
        sym first.2 ∙ (ap line same ∙ second.2)

    pub one_history : (passes : List (Pass T E R)) (log : List E) → Closes line passes log
        → All (λ p. All (SeeOneHistory p) passes) passes
    one_history passes log c = All-weaker
        (λ p. StartsWith log (seen p))
        (λ p. All (SeeOneHistory p) passes)
        (λ p left. All-weaker
        (λ q. StartsWith log (seen q))
        (SeeOneHistory p)
        (λ q right. starts_or_starts log (seen p) (seen q) left right)
        passes c.history)
        passes c.history

    pub one_turn : (old held new : Pass T E R) (before after : List E) → Enters line old held before
        → Leaves line held new after → OneTurn line old new before after
    one_turn old held new before after enters leaves =
        let same : before ≡ seen held = enters.story in record {
          sight = subst (λ (l : List E). StartsWith l (seen old)) (sym same) enters.history;
          one = (
            leaves.one.0,
            leaves.one.1 ∙ ap (λ (l : List E). l ++ leaves.one.0 ∷ []) (sym same),
            leaves.one.2 ∙ enters.number,
          );
          number = leaves.number ∙ enters.number;
          history = leaves.history;
          mine = leaves.mine ∙ (ap (λ (l : List ℕ). l ++ length (seen held) ∷ []) enters.mine
              ∙ ap (λ (l : List E). mine line old ++ length l ∷ []) (sym same));
          unmarked = (enters.unmarked.0, leaves.refused ∙ enters.unmarked.1);
        }

    pub later_turn : (from into new : Pass T E R) (before after : List E) → StartsWith (seen into) (seen from)
        → OneTurn line into new before after
        → StartsWith before (seen from) × All (λ i. i < length before) (mine line from)
    later_turn from into new before after met turn =
        let n = number_of from in
        let sight = starts_through before (seen into) (seen from) turn.sight met in
        let long = length-starts before (seen from) sight in
        let below : (i : ℕ) → StandsAt line n (seen from) i → i < length before =
        λ i at. let within = slice_get_within (seen from) i at.0 at.1 in omega arith in (
          sight,
          all_of (λ i. i < length before) (mine line from)
              (each_map (StandsAt line n (seen from)) (λ i. i < length before) below (mine line from)
              (stands_at_each line n (seen from))),
        )

-- One archive is changed, and the others stay.
use Rattle.std.proofs.Common.{◌≡◌, ℕ, zero, suc, ◌+◌, ◌<◌, ◌≤◌, List, [], ◌∷◌, ◌++◌, length, get_or, position, sum_by, Bool, true, false, cond}
use Rattle.std.proofs.Common.{Option, Some, None, is_some, slice_get, refl, sym, ap, subst, ◌∙◌, arith, if◌then◌else◌}
use Rattle.std.specs.Map.{keys_of, lookup, set_value, values_of}
use Rattle.std.specs.Option.{option_map_or}
use Rattle.std.specs.List.{swap_remove}
use Rattle.std.proofs.lemmas.List.Sums.{sum_by-cons, sum_by-swap_remove}
use Rattle.indexmap.specs.IndexMap.{swap_remove_entry}
use Rattle.indexmap.proofs.MapLemmas.{Found-position, some_index}
use Rattle.jid_core.specs.Addresses.{Address}
use Rattle.mam_archive.specs.Archives.{Archive, texts_length}
use Rattle.archive_table.specs.Archives.{no_rows, with_row}
use Rattle.archive_table.specs.Tables.{rows_of, spare_in}

-- Of all entries.

abbrev pub texts_in : Option Archive → ℕ
texts_in o = texts_length (rows_of o).kept

abbrev pub total : {K : Type 0} → List (K × Archive) → ℕ
total [] = 0
total (e ∷ es) = texts_length e.1.kept + total es

module _ {K : Type 0} (test : K → Bool) where
  pub total-set : (es : List (K × Archive)) (f g : Archive) → lookup test es ≡ Some f
      → total (set_value test es g) + texts_length f.kept ≡ total es + texts_length g.kept
  total-set [] f g found = cc
  total-set (e ∷ es) f g found = by (test e.0) found (total-set es f g)
    where
      by : (b : Bool) → cond b (Some e.1) (lookup test es) ≡ Some f
          → (lookup test es ≡ Some f → total (set_value test es g) + texts_length f.kept ≡ total es + texts_length g.kept)
          → total (cond b ((e.0, g) ∷ es) (e ∷ set_value test es g)) + texts_length f.kept ≡ texts_length e.1.kept + total es + texts_length g.kept
      by true found after = let here : texts_length e.1.kept ≡ texts_length f.kept = ap texts_in found in omega (arith, here)
      by false found after = omega (arith, after found)

  pub total-le : (es : List (K × Archive)) (f : Archive) → lookup test es ≡ Some f → texts_length f.kept ≤ total es
  total-le [] f found = cc
  total-le (e ∷ es) f found = by (test e.0) found (total-le es f)
    where
      by : (b : Bool) → cond b (Some e.1) (lookup test es) ≡ Some f → (lookup test es ≡ Some f → texts_length f.kept ≤ total es)
          → texts_length f.kept ≤ texts_length e.1.kept + total es
      by true found after = let here : texts_length e.1.kept ≡ texts_length f.kept = ap texts_in found in omega (arith, here)
      by false found after = omega (arith, after found)

  values-at : (es : List (K × Archive)) (i : ℕ) (d : K × Archive) → i < length es
      → texts_in (slice_get (values_of es) i) ≡ texts_length (get_or es i d).1.kept
  values-at [] i d less = absurd (omega (arith, less))
  values-at (e ∷ es) zero d less = refl
  values-at (e ∷ es) (suc i) d less = values-at es i d (omega (arith, less))

  total-sum : (es : List (K × Archive)) → total es ≡ sum_by (λ e. texts_length e.1.kept) es
  total-sum [] = refl
  total-sum (e ∷ es) = ap (λ (n : ℕ). texts_length e.1.kept + n) (total-sum es) ∙ sym (sum_by-cons (λ e. texts_length e.1.kept) e es)

  -- without the entry that is found
  pub total-out : (es : List (K × Archive)) → total (swap_remove_entry test es) + texts_in (lookup test es) ≡ total es
  total-out [] = refl
  total-out (e ∷ es) = by (position test (keys_of (e ∷ es))) refl
    where
      by : (r : Option ℕ) → position test (keys_of (e ∷ es)) ≡ r
          → total (option_map_or (λ i. swap_remove (e ∷ es) i e) r (e ∷ es)) + texts_in (lookup test (e ∷ es)) ≡ total (e ∷ es)
      by None is =
          let none : is_some (lookup test (e ∷ es)) ≡ false = sym (some_index test (e ∷ es)) ∙ ap is_some is in
          let zero : texts_in (lookup test (e ∷ es)) ≡ 0 = blank (lookup test (e ∷ es)) none in
          omega (arith, zero)
        where
          blank : (o : Option Archive) → is_some o ≡ false → texts_in o ≡ 0
          blank None is = refl
          blank (Some a) is = cc
      by (Some i) is =
          let found = Found-position test (e ∷ es) i is in
          let own : texts_in (lookup test (e ∷ es)) ≡ texts_length (get_or (e ∷ es) i e).1.kept
          = ap texts_in found.value ∙ values-at (e ∷ es) i e found.within in
          let left : sum_by (λ e. texts_length e.1.kept) (swap_remove (e ∷ es) i e) + texts_length (get_or (e ∷ es) i e).1.kept
          ≡ sum_by (λ e. texts_length e.1.kept) (e ∷ es) = sum_by-swap_remove (λ e. texts_length e.1.kept) (e ∷ es) i e found.within in
          let after = total-sum (swap_remove (e ∷ es) i e) in
          let before = total-sum (e ∷ es) in
          omega (arith, own, left, after, before)

pub total-end : {K : Type 0} (es : List (K × Archive)) (k : K) (g : Archive) → total (es ++ (k, g) ∷ []) ≡ total es + texts_length g.kept
total-end [] k g = omega arith
total-end (e ∷ es) k g = let rest = total-end es k g in omega (arith, rest)

-- What is found, by keys of any kind.

abbrev pub or_else : Option Archive → Option Archive → Option Archive
or_else None other = other
or_else (Some f) other = Some f

module _ {Q K : Type 0} (test : Q → K → Bool) (same : Q → Q → Bool) (own : (q u : Q) (k : K) → test q k ≡ true → test u k ≡ same u q)
    (equal : (u q : Q) → same u q ≡ true → u ≡ q) where
  pub at-set : (q u : Q) (es : List (K × Archive)) (f g : Archive) → lookup (test q) es ≡ Some f
      → lookup (test u) (set_value (test q) es g) ≡ cond (same u q) (Some g) (lookup (test u) es)
  at-set q u [] f g found = cc
  at-set q u (e ∷ es) f g found = by (test q e.0) refl found (at-set q u es f g)
    where
      twice : (d : Bool) → cond d (Some g) (lookup (test u) es) ≡ cond d (Some g) (cond d (Some e.1) (lookup (test u) es))
      twice true = refl
      twice false = refl

      other : (c d : Bool) → (d ≡ true → c ≡ false)
          → cond c (Some e.1) (cond d (Some g) (lookup (test u) es)) ≡ cond d (Some g) (cond c (Some e.1) (lookup (test u) es))
      other true true apart = let wrong : true ≡ false = apart refl in absurd (cc)
      other true false apart = refl
      other false d apart = refl

      by : (b : Bool) → test q e.0 ≡ b → cond b (Some e.1) (lookup (test q) es) ≡ Some f
          → (lookup (test q) es ≡ Some f → lookup (test u) (set_value (test q) es g) ≡ cond (same u q) (Some g) (lookup (test u) es))
          → lookup (test u) (cond b ((e.0, g) ∷ es) (e ∷ set_value (test q) es g))
          ≡ cond (same u q) (Some g) (cond (test u e.0) (Some e.1) (lookup (test u) es))
      by true mine found after =
          let key : test u e.0 ≡ same u q = own q u e.0 mine in
          ap (λ b. cond b (Some g) (lookup (test u) es)) key ∙ twice (same u q)
          ∙ sym (ap (λ b. cond (same u q) (Some g) (cond b (Some e.1) (lookup (test u) es))) key)
      by false apart found after =
          ap (λ o. cond (test u e.0) (Some e.1) o) (after found)
          ∙ other (test u e.0) (same u q) (λ is. ap (λ x. test x e.0) (equal u q is) ∙ apart)

pub at-end : {K : Type 0} (test : K → Bool) (es : List (K × Archive)) (key : K) (g : Archive)
    → lookup test (es ++ (key, g) ∷ []) ≡ or_else (lookup test es) (cond (test key) (Some g) None)
at-end test [] key g = refl
at-end test (e ∷ es) key g = by (test e.0) (at-end test es key g)
  where
    by : (b : Bool) → lookup test (es ++ (key, g) ∷ []) ≡ or_else (lookup test es) (cond (test key) (Some g) None)
        → cond b (Some e.1) (lookup test (es ++ (key, g) ∷ [])) ≡ or_else (cond b (Some e.1) (lookup test es)) (cond (test key) (Some g) None)
    by true rest = refl
    by false rest = rest

-- What is told of one.

-- it was changed, or it is another
pub rows-with : (b : Bool) (f g : Archive) (mine old new : Option Archive) (peer : Address) (text : List ℕ) (moment : ℕ) → mine ≡ Some f
    → new ≡ cond b (Some g) old → rows_of (Some g) ≡ with_row peer text moment (rows_of (Some f))
    → rows_of new ≡ (if b then with_row peer text moment (rows_of mine) else rows_of old)
rows-with true f g mine old new peer text moment found is rows =
    ap rows_of is ∙ rows ∙ ap (λ o. with_row peer text moment (rows_of o)) (sym found)
rows-with false f g mine old new peer text moment found is rows = ap rows_of is

pub spare-with : (b : Bool) (f g : Archive) (old new : Option Archive) (p : Address) → (b ≡ true → old ≡ Some f) → new ≡ cond b (Some g) old
    → spare_in (Some f) p ≤ spare_in (Some g) p + 1 → spare_in old p ≤ spare_in new p + (if b then 1 else 0)
spare-with true f g old new p found is room =
    let before : spare_in old p ≡ spare_in (Some f) p = ap (λ o. spare_in o p) (found refl) in
    let after : spare_in new p ≡ spare_in (Some g) p = ap (λ o. spare_in o p) is in
    subst (λ (n : ℕ). n ≤ spare_in new p + 1) (sym before) (subst (λ (n : ℕ). spare_in (Some f) p ≤ n + 1) (sym after) room)
spare-with false f g old new p found is room =
    let after : spare_in new p ≡ spare_in old p = ap (λ o. spare_in o p) is in omega (arith, after)

pub rows-same : (b : Bool) (f g : Archive) (old new : Option Archive) → (b ≡ true → old ≡ Some f) → new ≡ cond b (Some g) old
    → rows_of (Some g) ≡ rows_of (Some f) → rows_of new ≡ rows_of old
rows-same true f g old new found is rows = ap rows_of is ∙ rows ∙ sym (ap rows_of (found refl))
rows-same false f g old new found is rows = ap rows_of is

pub spare-same : (b : Bool) (f g : Archive) (old new : Option Archive) (p : Address) → (b ≡ true → old ≡ Some f) → new ≡ cond b (Some g) old
    → spare_in (Some f) p ≤ spare_in (Some g) p → spare_in old p ≤ spare_in new p
spare-same true f g old new p found is room =
    subst (λ o. spare_in o p ≤ spare_in new p) (sym (found refl)) (subst (λ o. spare_in (Some f) p ≤ spare_in o p) (sym is) room)
spare-same false f g old new p found is room =
    let after : spare_in new p ≡ spare_in old p = ap (λ o. spare_in o p) is in omega (arith, after)

-- one that is new has no rows
pub rows-opened : (b : Bool) (g : Archive) (old new : Option Archive) → new ≡ or_else old (cond b (Some g) None) → rows_of (Some g) ≡ no_rows
    → rows_of new ≡ rows_of old
rows-opened b g (Some f) new is blank = ap rows_of is
rows-opened true g None new is blank = ap rows_of is ∙ blank
rows-opened false g None new is blank = ap rows_of is

pub spare-opened : (b : Bool) (g : Archive) (old new : Option Archive) (p : Address) → new ≡ or_else old (cond b (Some g) None)
    → spare_in old p ≤ spare_in new p
spare-opened b g (Some f) new p is = let after : spare_in new p ≡ spare_in (Some f) p = ap (λ o. spare_in o p) is in omega (arith, after)
spare-opened b g None new p is = omega arith

pub none-there : (o : Option Archive) → is_some o ≡ false → o ≡ None
none-there None is = refl
none-there (Some f) is = cc

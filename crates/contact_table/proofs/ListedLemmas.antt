-- What is listed under a key: the values of the entries that have it, as an entry comes and others go.
use Rattle.std.proofs.Common.{◌≡◌, ℕ, List, [], ◌∷◌, ◌++◌, map, Bool, true, false, not, ◌&&◌, ◌||◌, cond, bytes_eq, filter, refl, sym, ap, ◌∙◌}
use Rattle.std.proofs.lemmas.List.Elements.{filter-append}
use Rattle.std.proofs.lemmas.List.{map-append}
use Rattle.std.specs.List.{list_any}
use Rattle.jid_core.proofs.NameLemmas.{bytes_flip}
use Rattle.contact_table.proofs.ByteLemmas.{bytes_equal}

pub and_flip : (a b : Bool) → (a && b) ≡ (b && a)
and_flip true true = refl
and_flip true false = refl
and_flip false true = refl
and_flip false false = refl

pub filter_cond : {Q : Type 0} (p : Q → Bool) (b : Bool) (xs ys : List Q) → filter p (cond b xs ys) ≡ cond b (filter p xs) (filter p ys)
filter_cond p true xs ys = refl
filter_cond p false xs ys = refl

pub map_cond : {Q V : Type 0} (f : Q → V) (b : Bool) (xs ys : List Q) → map f (cond b xs ys) ≡ cond b (map f xs) (map f ys)
map_cond f true xs ys = refl
map_cond f false xs ys = refl

-- two keys that are the same are alike to a third
pub alike : (k l u : List ℕ) → bytes_eq k l ≡ true → bytes_eq l u ≡ bytes_eq k u
alike k l u same = ap (λ (m : List ℕ). bytes_eq m u) (sym (bytes_equal k l same))

module _ {Q V : Type 0} (key : Q → List ℕ) (value : Q → V) where
  abbrev pub listed : List ℕ → List Q → List V
  listed u qs = map value (filter (λ q. bytes_eq (key q) u) qs)

  pub listed_snoc : (u : List ℕ) (qs : List Q) (q : Q) → listed u (qs ++ q ∷ []) ≡ cond (bytes_eq (key q) u) (listed u qs ++ value q ∷ []) (listed u qs)
  listed_snoc u qs q =
      ap (map value) (filter-append (λ q. bytes_eq (key q) u) qs (q ∷ [])) ∙ by (bytes_eq (key q) u) (filter (λ q. bytes_eq (key q) u) qs)
    where
      nothing : (xs : List Q) → map value (xs ++ []) ≡ map value xs
      nothing [] = refl
      nothing (x ∷ xs) = ap (λ vs. value x ∷ vs) (nothing xs)

      by : (b : Bool) (xs : List Q) → map value (xs ++ cond b (q ∷ []) []) ≡ cond b (map value xs ++ value q ∷ []) (map value xs)
      by true xs = map-append value xs (q ∷ [])
      by false xs = nothing xs

  module _ (k : List ℕ) (test : V → Bool) (t : Q → Bool) (is : (q : Q) → t q ≡ (test (value q) && bytes_eq k (key q))) (u : List ℕ) where
    -- under its own key
    pub any_listed : bytes_eq k u ≡ true → (qs : List Q) → list_any t qs ≡ list_any test (listed u qs)
    any_listed own [] = refl
    any_listed own (q ∷ qs) =
        let key_is : bytes_eq k (key q) ≡ bytes_eq (key q) u =
        bytes_flip k (key q) ∙ ap (λ (m : List ℕ). bytes_eq (key q) m) (bytes_equal k u own) in
        ap (λ b. b || list_any t qs) (is q ∙ ap (λ b. test (value q) && b) key_is)
        ∙ ap (λ b. (test (value q) && bytes_eq (key q) u) || b) (any_listed own qs)
        ∙ by (test (value q)) (bytes_eq (key q) u) refl
      where
        by : (x z : Bool) → test (value q) ≡ x
            → ((x && z) || list_any test (listed u qs))
            ≡ list_any test (map value (cond z (q ∷ filter (λ q. bytes_eq (key q) u) qs) (filter (λ q. bytes_eq (key q) u) qs)))
        by true true tests = sym (ap (λ b. b || list_any test (listed u qs)) tests)
        by false true tests = sym (ap (λ b. b || list_any test (listed u qs)) tests)
        by true false tests = refl
        by false false tests = refl

    pub removed_own : bytes_eq k u ≡ true → (qs : List Q)
        → listed u (filter (λ q. not (t q)) qs) ≡ filter (λ v. not (test v)) (listed u qs)
    removed_own own [] = refl
    removed_own own (q ∷ qs) =
        let key_is : bytes_eq k (key q) ≡ bytes_eq (key q) u =
        bytes_flip k (key q) ∙ ap (λ (m : List ℕ). bytes_eq (key q) m) (bytes_equal k u own) in
        ap (map value) (filter_cond (λ q. bytes_eq (key q) u) (not (t q)) (q ∷ filter (λ q. not (t q)) qs) (filter (λ q. not (t q)) qs))
        ∙ by (t q) (test (value q)) (bytes_eq (key q) u) (is q ∙ ap (λ b. test (value q) && b) key_is) refl (removed_own own qs)
      where
        by : (s x z : Bool) → s ≡ (x && z) → test (value q) ≡ x → listed u (filter (λ q. not (t q)) qs) ≡ filter (λ v. not (test v)) (listed u qs)
            → map value (cond (not s)
            (cond z (q ∷ filter (λ q. bytes_eq (key q) u) (filter (λ q. not (t q)) qs)) (filter (λ q. bytes_eq (key q) u) (filter (λ q. not (t q)) qs)))
            (filter (λ q. bytes_eq (key q) u) (filter (λ q. not (t q)) qs)))
            ≡ filter (λ v. not (test v)) (map value (cond z (q ∷ filter (λ q. bytes_eq (key q) u) qs) (filter (λ q. bytes_eq (key q) u) qs)))
        by true x false made tests rest = rest
        by false x false made tests rest = rest
        by true true true made tests rest =
            rest ∙ sym (ap (λ b. cond (not b) (value q ∷ filter (λ v. not (test v)) (listed u qs)) (filter (λ v. not (test v)) (listed u qs))) tests)
        by false false true made tests rest =
            ap (λ vs. value q ∷ vs) rest
            ∙ sym (ap (λ b. cond (not b) (value q ∷ filter (λ v. not (test v)) (listed u qs)) (filter (λ v. not (test v)) (listed u qs))) tests)
        by true false true made tests rest = absurd (cc)
        by false true true made tests rest = absurd (cc)

    -- under another
    pub removed_else : bytes_eq k u ≡ false → (qs : List Q) → listed u (filter (λ q. not (t q)) qs) ≡ listed u qs
    removed_else other [] = refl
    removed_else other (q ∷ qs) =
        ap (map value) (filter_cond (λ q. bytes_eq (key q) u) (not (t q)) (q ∷ filter (λ q. not (t q)) qs) (filter (λ q. not (t q)) qs))
        ∙ by (t q) (bytes_eq (key q) u) (test (value q)) (bytes_eq k (key q)) (is q) (λ same. alike k (key q) u same ∙ other) (removed_else other qs)
      where
        by : (s z x y : Bool) → s ≡ (x && y) → (y ≡ true → z ≡ false) → listed u (filter (λ q. not (t q)) qs) ≡ listed u qs
            → map value (cond (not s)
            (cond z (q ∷ filter (λ q. bytes_eq (key q) u) (filter (λ q. not (t q)) qs)) (filter (λ q. bytes_eq (key q) u) (filter (λ q. not (t q)) qs)))
            (filter (λ q. bytes_eq (key q) u) (filter (λ q. not (t q)) qs)))
            ≡ map value (cond z (q ∷ filter (λ q. bytes_eq (key q) u) qs) (filter (λ q. bytes_eq (key q) u) qs))
        by false true x y made apart rest = ap (λ vs. value q ∷ vs) rest
        by false false x y made apart rest = rest
        by true false x y made apart rest = rest
        by true true true true made apart rest = let wrong : true ≡ false = apart refl in absurd (cc)
        by true true true false made apart rest = absurd (cc)
        by true true false y made apart rest = absurd (cc)

  pub removed : (k : List ℕ) (test : V → Bool) (t : Q → Bool) → ((q : Q) → t q ≡ (test (value q) && bytes_eq k (key q))) → (u : List ℕ) (qs : List Q)
      → listed u (filter (λ q. not (t q)) qs) ≡ cond (bytes_eq k u) (filter (λ v. not (test v)) (listed u qs)) (listed u qs)
  removed k test t is u qs = by (bytes_eq k u) refl
    where
      by : (b : Bool) → bytes_eq k u ≡ b
          → listed u (filter (λ q. not (t q)) qs) ≡ cond b (filter (λ v. not (test v)) (listed u qs)) (listed u qs)
      by true own = removed_own k test t is u own qs
      by false other = removed_else k test t is u other qs

-- Pairs that are set and taken back.
use Rattle.std.proofs.Common.{◌≡◌, ℕ, List, [], ◌∷◌, ◌++◌, Bool, true, false, not, ◌&&◌, ◌||◌, cond, bytes_eq, filter, refl, sym, ap, ◌∙◌}
use Rattle.std.proofs.lemmas.Bool.{and_parts}
use Rattle.std.proofs.lemmas.List.Folds.{list_any-append}
use Rattle.std.specs.List.{list_any}
use Rattle.contact_table.specs.Books.{Pair, firsts_of, has_pair, is_pair, seconds_of, with_pair}
use Rattle.contact_table.specs.Folders.{has_user}
use Rattle.contact_table.specs.Orders.{with_user}
use Rattle.jid_core.proofs.NameLemmas.{bytes_flip}
use Rattle.contact_table.proofs.ByteLemmas.{bytes_equal, bytes_same}
use Rattle.contact_table.proofs.ListedLemmas.{and_flip, any_listed, listed, listed_snoc, removed}
use Rattle.contact_table.proofs.OrderLemmas.{any_flip}

abbrev pub pair : List ℕ → List ℕ → Pair
pair a b = record { a = a; b = b }

-- whether a pair is there

abbrev pub same_pair : (a b c d : List ℕ) → Bool
same_pair a b c d = bytes_eq a c && bytes_eq b d

turned : (a b c d : List ℕ) → same_pair c d a b ≡ same_pair a b c d
turned a b c d = ap (λ x. x && bytes_eq d b) (bytes_flip c a) ∙ ap (λ x. bytes_eq a c && x) (bytes_flip d b)

none_left : (p : Pair) (ps : List Pair) → list_any (is_pair p) (filter (λ q. not (is_pair p q)) ps) ≡ false
none_left p [] = refl
none_left p (q ∷ ps) = by (is_pair p q) refl (none_left p ps)
  where
    by : (x : Bool) → is_pair p q ≡ x → list_any (is_pair p) (filter (λ q. not (is_pair p q)) ps) ≡ false
        → list_any (is_pair p) (cond (not x) (q ∷ filter (λ q. not (is_pair p q)) ps) (filter (λ q. not (is_pair p q)) ps)) ≡ false
    by true is rest = rest
    by false is rest = ap (λ x. x || list_any (is_pair p) (filter (λ q. not (is_pair p q)) ps)) is ∙ rest

others_left : (a b c d : List ℕ) → same_pair a b c d ≡ false → (ps : List Pair)
    → has_pair c d (filter (λ q. not (is_pair (pair a b) q)) ps) ≡ has_pair c d ps
others_left a b c d other [] = refl
others_left a b c d other (q ∷ ps) = by (is_pair (pair a b) q) refl (others_left a b c d other ps)
  where
    by : (x : Bool) → is_pair (pair a b) q ≡ x → has_pair c d (filter (λ q. not (is_pair (pair a b) q)) ps) ≡ has_pair c d ps
        → has_pair c d (cond (not x) (q ∷ filter (λ q. not (is_pair (pair a b) q)) ps) (filter (λ q. not (is_pair (pair a b) q)) ps))
        ≡ (is_pair (pair c d) q || has_pair c d ps)
    by true is rest =
        let parts = and_parts (bytes_eq a q.a) (bytes_eq b q.b) is in
        let not_it : is_pair (pair c d) q ≡ false =
        ap (λ (x : List ℕ). bytes_eq c x && bytes_eq d q.b) (sym (bytes_equal a q.a parts.0))
        ∙ ap (λ (x : List ℕ). bytes_eq c a && bytes_eq d x) (sym (bytes_equal b q.b parts.1))
        ∙ turned a b c d ∙ other in
        rest ∙ sym (ap (λ x. x || has_pair c d ps) not_it)
    by false is rest = ap (λ x. is_pair (pair c d) q || x) rest

or_true : (a : Bool) → (a || (true || false)) ≡ true
or_true true = refl
or_true false = refl

or_false : (a : Bool) → (a || (false || false)) ≡ a
or_false true = refl
or_false false = refl

pub has_with : (a b c d : List ℕ) (on : Bool) (ps : List Pair)
    → has_pair c d (with_pair (pair a b) on ps) ≡ cond (same_pair a b c d) on (has_pair c d ps)
has_with a b c d false ps = by (same_pair a b c d) refl
  where
    by : (s : Bool) → same_pair a b c d ≡ s → has_pair c d (filter (λ q. not (is_pair (pair a b) q)) ps) ≡ cond s false (has_pair c d ps)
    by true same =
        let parts = and_parts (bytes_eq a c) (bytes_eq b d) same in
        ap (λ (x : List ℕ). has_pair x d (filter (λ q. not (is_pair (pair a b) q)) ps)) (sym (bytes_equal a c parts.0))
        ∙ ap (λ (x : List ℕ). has_pair a x (filter (λ q. not (is_pair (pair a b) q)) ps)) (sym (bytes_equal b d parts.1))
        ∙ none_left (pair a b) ps
    by false other = others_left a b c d other ps
has_with a b c d true ps = by (list_any (is_pair (pair a b)) ps) (same_pair a b c d) refl refl
  where
    last : has_pair c d (ps ++ pair a b ∷ []) ≡ (has_pair c d ps || (same_pair a b c d || false))
    last = list_any-append (is_pair (pair c d)) ps (pair a b ∷ []) ∙ ap (λ x. has_pair c d ps || (x || false)) (turned a b c d)

    by : (t s : Bool) → list_any (is_pair (pair a b)) ps ≡ t → same_pair a b c d ≡ s
        → has_pair c d (cond t ps (ps ++ pair a b ∷ [])) ≡ cond s true (has_pair c d ps)
    by true true there same =
        let parts = and_parts (bytes_eq a c) (bytes_eq b d) same in
        ap (λ (x : List ℕ). has_pair x d ps) (sym (bytes_equal a c parts.0))
        ∙ ap (λ (x : List ℕ). has_pair a x ps) (sym (bytes_equal b d parts.1)) ∙ there
    by true false there other = refl
    by false true absent same = last ∙ ap (λ x. has_pair c d ps || (x || false)) same ∙ or_true (has_pair c d ps)
    by false false absent other = last ∙ ap (λ x. has_pair c d ps || (x || false)) other ∙ or_false (has_pair c d ps)

-- who is listed

module _ (key value : Pair → List ℕ) (p : Pair) (is : (q : Pair) → is_pair p q ≡ (bytes_eq (value p) (value q) && bytes_eq (key p) (key q))) (u : List ℕ) where
  set_listed : (on : Bool) (ps : List Pair)
      → listed key value u (with_pair p on ps) ≡ cond (bytes_eq (key p) u) (with_user (value p) on (listed key value u ps)) (listed key value u ps)
  set_listed false ps = removed key value (key p) (bytes_eq (value p)) (is_pair p) is u ps
  set_listed true ps = by (list_any (is_pair p) ps) (bytes_eq (key p) u) refl refl
    where
      by : (t s : Bool) → list_any (is_pair p) ps ≡ t → bytes_eq (key p) u ≡ s
          → listed key value u (cond t ps (ps ++ p ∷ []))
          ≡ cond s (cond (list_any (bytes_eq (value p)) (listed key value u ps)) (listed key value u ps) (listed key value u ps ++ value p ∷ []))
          (listed key value u ps)
      by true true there own =
          let us = listed key value u ps in
          sym (ap (λ x. cond x us (us ++ value p ∷ [])) (sym (any_listed key value (key p) (bytes_eq (value p)) (is_pair p) is u own ps) ∙ there))
      by true false there other = refl
      by false true absent own =
          let us = listed key value u ps in
          listed_snoc key value u ps p ∙ ap (λ x. cond x (us ++ value p ∷ []) us) own
          ∙ sym (ap (λ x. cond x us (us ++ value p ∷ [])) (sym (any_listed key value (key p) (bytes_eq (value p)) (is_pair p) is u own ps) ∙ absent))
      by false false absent other =
          let us = listed key value u ps in
          listed_snoc key value u ps p ∙ ap (λ x. cond x (us ++ value p ∷ []) us) other

pub firsts_with : (a b u : List ℕ) (on : Bool) (ps : List Pair)
    → firsts_of u (with_pair (pair a b) on ps) ≡ cond (bytes_eq b u) (with_user a on (firsts_of u ps)) (firsts_of u ps)
firsts_with a b u on ps = set_listed (λ q. q.b) (λ q. q.a) (pair a b) (λ q. refl) u on ps

pub seconds_with : (a b u : List ℕ) (on : Bool) (ps : List Pair)
    → seconds_of u (with_pair (pair a b) on ps) ≡ cond (bytes_eq a u) (with_user b on (seconds_of u ps)) (seconds_of u ps)
seconds_with a b u on ps = set_listed (λ q. q.a) (λ q. q.b) (pair a b) (λ q. and_flip (bytes_eq a q.a) (bytes_eq b q.b)) u on ps

-- whether one is listed

pub first_is_pair : (a b : List ℕ) (ps : List Pair) → has_user (firsts_of b ps) a ≡ has_pair a b ps
first_is_pair a b ps =
    sym (any_flip a (firsts_of b ps))
    ∙ sym (any_listed (λ q. q.b) (λ q. q.a) b (bytes_eq a) (is_pair (pair a b)) (λ q. refl) b (bytes_same b) ps)

pub second_is_pair : (a b : List ℕ) (ps : List Pair) → has_user (seconds_of a ps) b ≡ has_pair a b ps
second_is_pair a b ps =
    sym (any_flip b (seconds_of a ps))
    ∙ sym (any_listed (λ q. q.a) (λ q. q.b) a (bytes_eq b) (is_pair (pair a b)) (λ q. and_flip (bytes_eq a q.a) (bytes_eq b q.b)) a (bytes_same a) ps)

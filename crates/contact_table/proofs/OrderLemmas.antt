-- Users in the order in which they came, among keys that have their names.
use Rattle.std.proofs.Common.{◌≡◌, ℕ, ◌+◌, List, [], ◌∷◌, ◌++◌, length, map, Bool, true, false, not, ◌&&◌, ◌||◌}
use Rattle.std.proofs.Common.{cond, bytes_eq, Some, None, nat_lt, filter, refl, sym, ap, ◌∙◌}
use Rattle.std.proofs.lemmas.Bool.{and_parts}
use Rattle.std.proofs.lemmas.List.{map-append, length-map}
use Rattle.std.proofs.lemmas.List.Folds.{list_any-append}
use Rattle.std.specs.List.{list_any, position, position_or_len}
use Rattle.std.specs.Set.{remove_key}
use Rattle.jid_core.specs.Names.{are_distinct}
use Rattle.jid_core.proofs.NameLemmas.{bytes_flip, distinct-more}
use Rattle.contact_table.specs.Orders.{with_user}
use Rattle.contact_table.proofs.ByteLemmas.{bytes_equal}

pub not_true : (b : Bool) → not b ≡ true → b ≡ false
not_true true is = cc
not_true false is = refl

pub both_true : (a b : Bool) → a ≡ true → b ≡ true → (a && b) ≡ true
both_true true b one other = other
both_true false b one other = cc

pub neither : (a b : Bool) → (a || b) ≡ false → (a ≡ false) × (b ≡ false)
neither true b is = cc
neither false b is = (refl, is)

pub nor : (a b : Bool) → a ≡ false → b ≡ false → (a || b) ≡ false
nor true b one other = cc
nor false b one other = other

-- whether a name is there, and where

pub any_of_keys : {K : Type 0} (f : K → List ℕ) (t : List ℕ → Bool) (ks : List K) → list_any (λ k. t (f k)) ks ≡ list_any t (map f ks)
any_of_keys f t [] = refl
any_of_keys f t (k ∷ ks) = ap (λ b. t (f k) || b) (any_of_keys f t ks)

pub any_flip : (user : List ℕ) (us : List (List ℕ)) → list_any (bytes_eq user) us ≡ list_any (λ x. bytes_eq x user) us
any_flip user [] = refl
any_flip user (u ∷ us) =
    ap (λ b. b || list_any (bytes_eq user) us) (bytes_flip user u) ∙ ap (λ b. bytes_eq u user || b) (any_flip user us)

pub has_among : {K : Type 0} (f : K → List ℕ) (user : List ℕ) (ks : List K)
    → list_any (λ k. bytes_eq user (f k)) ks ≡ list_any (λ x. bytes_eq x user) (map f ks)
has_among f user ks = any_of_keys f (bytes_eq user) ks ∙ any_flip user (map f ks)

len_among : {K : Type 0} (f : K → List ℕ) (t : List ℕ → Bool) (ks : List K) → position_or_len (λ k. t (f k)) ks ≡ position_or_len t (map f ks)
len_among f t [] = refl
len_among f t (k ∷ ks) = ap (λ n. cond (not (t (f k))) (1 + n) 0) (len_among f t ks)

pub place_among : {K : Type 0} (f : K → List ℕ) (t : List ℕ → Bool) (ks : List K) → position (λ k. t (f k)) ks ≡ position t (map f ks)
place_among f t ks =
    ap (λ n. cond (nat_lt n (length ks)) (Some n) None) (len_among f t ks)
    ∙ ap (λ m. cond (nat_lt (position_or_len t (map f ks)) m) (Some (position_or_len t (map f ks))) None) (sym (length-map ks f))

-- one more

added : {K : Type 0} (f : K → List ℕ) (k : K) (ks : List K) (b : Bool)
    → map f (cond b ks (ks ++ k ∷ [])) ≡ cond b (map f ks) (map f ks ++ f k ∷ [])
added f k ks true = refl
added f k ks false = map-append f ks (k ∷ [])

pub user_added : {K : Type 0} (f : K → List ℕ) (k : K) (ks new : List K)
    → new ≡ cond (list_any (λ x. bytes_eq (f k) (f x)) ks) ks (ks ++ k ∷ []) → map f new ≡ with_user (f k) true (map f ks)
user_added f k ks new made =
    ap (map f) made ∙ added f k ks (list_any (λ x. bytes_eq (f k) (f x)) ks)
    ∙ ap (λ b. cond b (map f ks) (map f ks ++ f k ∷ [])) (any_of_keys f (bytes_eq (f k)) ks)

-- one less

pub keeps_all : (u : List ℕ) (us : List (List ℕ)) → list_any (bytes_eq u) us ≡ false → filter (λ v. not (bytes_eq u v)) us ≡ us
keeps_all u [] none = refl
keeps_all u (v ∷ us) none =
    let parts = neither (bytes_eq u v) (list_any (bytes_eq u) us) none in
    ap (λ b. cond (not b) (v ∷ filter (λ v. not (bytes_eq u v)) us) (filter (λ v. not (bytes_eq u v)) us)) parts.0
    ∙ ap (λ vs. v ∷ vs) (keeps_all u us parts.1)

removed_is : (u : List ℕ) (us : List (List ℕ)) → are_distinct us ≡ true → remove_key (bytes_eq u) us ≡ filter (λ v. not (bytes_eq u v)) us
removed_is u [] distinct = refl
removed_is u (v ∷ us) distinct =
    let parts = and_parts (not (list_any (bytes_eq v) us)) (are_distinct us) distinct in
    by (bytes_eq u v) refl (not_true (list_any (bytes_eq v) us) parts.0) (removed_is u us parts.1)
  where
    by : (b : Bool) → bytes_eq u v ≡ b → list_any (bytes_eq v) us ≡ false
        → remove_key (bytes_eq u) us ≡ filter (λ v. not (bytes_eq u v)) us
        → cond b us (v ∷ remove_key (bytes_eq u) us)
        ≡ cond (not b) (v ∷ filter (λ v. not (bytes_eq u v)) us) (filter (λ v. not (bytes_eq u v)) us)
    by true same fresh rest =
        sym (keeps_all u us (ap (λ (w : List ℕ). list_any (bytes_eq w) us) (bytes_equal u v same) ∙ fresh))
    by false same fresh rest = ap (λ vs. v ∷ vs) rest

map_removed : {K : Type 0} (f : K → List ℕ) (t : List ℕ → Bool) (ks : List K)
    → map f (remove_key (λ k. t (f k)) ks) ≡ remove_key t (map f ks)
map_removed f t [] = refl
map_removed f t (k ∷ ks) = by (t (f k)) (map_removed f t ks)
  where
    by : (b : Bool) → map f (remove_key (λ k. t (f k)) ks) ≡ remove_key t (map f ks)
        → map f (cond b ks (k ∷ remove_key (λ k. t (f k)) ks)) ≡ cond b (map f ks) (f k ∷ remove_key t (map f ks))
    by true rest = refl
    by false rest = ap (λ vs. f k ∷ vs) rest

pub user_removed : {K : Type 0} (f : K → List ℕ) (u : List ℕ) (ks new : List K) → are_distinct (map f ks) ≡ true
    → new ≡ remove_key (λ k. bytes_eq u (f k)) ks → map f new ≡ with_user u false (map f ks)
user_removed f u ks new distinct made =
    ap (map f) made ∙ map_removed f (bytes_eq u) ks ∙ removed_is u (map f ks) distinct

any_kept : (t p : List ℕ → Bool) (us : List (List ℕ)) → list_any t us ≡ false → list_any t (filter p us) ≡ false
any_kept t p [] none = refl
any_kept t p (u ∷ us) none =
    let parts = neither (t u) (list_any t us) none in by (p u) parts.0 (any_kept t p us parts.1)
  where
    by : (b : Bool) → t u ≡ false → list_any t (filter p us) ≡ false → list_any t (cond b (u ∷ filter p us) (filter p us)) ≡ false
    by true here rest = nor (t u) (list_any t (filter p us)) here rest
    by false here rest = rest

distinct_kept : (p : List ℕ → Bool) (us : List (List ℕ)) → are_distinct us ≡ true → are_distinct (filter p us) ≡ true
distinct_kept p [] distinct = refl
distinct_kept p (u ∷ us) distinct =
    let parts = and_parts (not (list_any (bytes_eq u) us)) (are_distinct us) distinct in
    by (p u) (any_kept (bytes_eq u) p us (not_true (list_any (bytes_eq u) us) parts.0)) (distinct_kept p us parts.1)
  where
    by : (b : Bool) → list_any (bytes_eq u) (filter p us) ≡ false → are_distinct (filter p us) ≡ true
        → are_distinct (cond b (u ∷ filter p us) (filter p us)) ≡ true
    by true fresh rest = both_true (not (list_any (bytes_eq u) (filter p us))) (are_distinct (filter p us)) (ap not fresh) rest
    by false fresh rest = rest

pub distinct_with : (u : List ℕ) (on : Bool) (us : List (List ℕ)) → are_distinct us ≡ true → are_distinct (with_user u on us) ≡ true
distinct_with u false us distinct = distinct_kept (λ v. not (bytes_eq u v)) us distinct
distinct_with u true us distinct = by (list_any (bytes_eq u) us) refl
  where
    by : (b : Bool) → list_any (bytes_eq u) us ≡ b → are_distinct (cond b us (us ++ u ∷ [])) ≡ true
    by true there = distinct
    by false there = distinct-more u us distinct there

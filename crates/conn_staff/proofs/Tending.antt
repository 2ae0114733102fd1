-- What each worker did, and what all did.
use Rattle.std.proofs.Common.{◌≡◌, ℕ, suc, ◌<◌, List, [], ◌∷◌, map, length, slice_index_or, sym, subst, arith}
use Rattle.account_book.specs.Lists.{Book}
use Rattle.hall.specs.declared.hall.Hall.{Hall}
use Rattle.conn_staff.specs.Workers.{AllWorked, Crew, HasWorked}

within_more : (A : Type 0) (i : ℕ) (x : A) (xs : List A) → i < length xs → suc i < length (x ∷ xs)
within_more A i x xs h = omega arith

within_first : (A : Type 0) (x : A) (xs : List A) → 0 < length (x ∷ xs)
within_first A x xs = omega arith

shorter : (A : Type 0) (x y : A) (xs ys : List A) → length (x ∷ xs) ≡ length (y ∷ ys) → length xs ≡ length ys
shorter A x y xs ys h = omega arith

unequal : (A : Type 0) (x : A) (xs : List A) → length {A = A} [] ≡ length (x ∷ xs) → ⊥
unequal A x xs h = omega arith

pub all_worked : (hall : Hall) (accounts : Book) (T : Type 0) (tell : T → Crew) (xs ys : List T) → length xs ≡ length ys
    → ((i : ℕ) (d : T) → i < length xs → HasWorked hall accounts (tell (slice_index_or xs i d)) (tell (slice_index_or ys i d)))
    → AllWorked hall accounts (map tell xs) (map tell ys)
all_worked hall accounts T tell [] [] same each = tt
all_worked hall accounts T tell [] (y ∷ ys) same each = absurd (unequal T y ys same)
all_worked hall accounts T tell (x ∷ xs) [] same each = absurd (unequal T x xs (sym same))
all_worked hall accounts T tell (x ∷ xs) (y ∷ ys) same each =
    (each 0 x (within_first T x xs), all_worked hall accounts T tell xs ys (shorter T x y xs ys same) (λ i d h. each (suc i) d (within_more T i x xs h)))

-- what a call left, of what it was given
pub by_call : (hall : Hall) (accounts : Book) (T : Type 0) (tell : T → Crew) (x y a b : T) → a ≡ x → b ≡ y → HasWorked hall accounts (tell a) (tell b)
    → HasWorked hall accounts (tell x) (tell y)
by_call hall accounts T tell x y a b ax by t =
    subst (λ (w : T). HasWorked hall accounts (tell w) (tell y)) ax (subst (λ (w : T). HasWorked hall accounts (tell a) (tell w)) by t)

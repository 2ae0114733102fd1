-- Regular expressions over bytes, as which the grammar is written (RFC 5234).
use Rattle.std.specs.Prelude.{◌≡◌, ℕ, zero, suc, ◌≤◌, ◌⊎◌, List, [], ◌∷◌, ◌++◌, length, Bool, true, false, ◌&&◌, ◌||◌, nat_le}

-- RFC 5234, 3.4: a class of bytes, as runs of values, each by its first and its last: %x41-5A is (0x41, 0x5A).
abbrev pub Class : Type 0
Class = List (ℕ × ℕ)

-- Whether a byte is of a class.
abbrev pub has : Class → ℕ → Bool
has [] b = false
has (run ∷ runs) b = (nat_le run.0 b && nat_le b run.1) || has runs b

pub data Expression : Type 0 where
  void : Expression  -- no text
  empty : Expression  -- the text without bytes
  byte : Class → Expression  -- one byte of the class
  up_to : ℕ → Class → Expression  -- so many bytes of the class, or fewer
  concat : Expression → Expression → Expression
  union : Expression → Expression → Expression
  star : Expression → Expression

-- Each byte is of the class.
abbrev pub AreOf : Class → List ℕ → Type 0
AreOf C [] = Unit {0}
AreOf C (b ∷ bs) = (has C b ≡ true) × AreOf C bs

-- n texts in a row, each of at least one byte
abbrev pub Times : (List ℕ → Type 0) → ℕ → List ℕ → Type 0
Times P zero bs = bs ≡ []
Times P (suc n) bs = (c : ℕ) × (xs : List ℕ) × (ys : List ℕ) × P (c ∷ xs) × Times P n ys × (bs ≡ c ∷ (xs ++ ys))

-- The bytes are a text of the expression.
unfoldable pub IsText : Expression → List ℕ → Type 0
IsText void bs = ⊥
IsText empty bs = bs ≡ []
IsText (byte C) bs = (c : ℕ) × (has C c ≡ true) × (bs ≡ c ∷ [])
IsText (up_to n C) bs = (length bs ≤ n) × AreOf C bs
IsText (concat p q) bs = (xs : List ℕ) × (ys : List ℕ) × IsText p xs × IsText q ys × (bs ≡ xs ++ ys)
IsText (union p q) bs = IsText p bs ⊎ IsText q bs
IsText (star p) bs = (n : ℕ) × Times (IsText p) n bs

-- The first line of a list.
use Rattle.std.proofs.Common.{◌≡◌, ℕ, suc, ◌+◌, ◌<◌, List, [], ◌∷◌, length, take, drop, Bool, true, false}
use Rattle.std.proofs.Common.{cond, ◌==◌, Some, None, is_some, refl, sym, ap, ◌∙◌, arith}
use Rattle.jid_core.specs.Cuts.{before, after}
use Rattle.account_book.specs.Lists.{lines_of, begun}

-- what stands after the first LF begins one byte past what stands before it
pub ends-within : (bytes : List ℕ) → is_some (after 10 bytes) ≡ true → length (before 10 bytes) < length bytes
ends-within [] h = absurd (cc)
ends-within (b ∷ more) h = byte (b == 10) h (ends-within more)
  where
    byte : (c : Bool) → is_some (cond c (Some more) (after 10 more)) ≡ true → (is_some (after 10 more) ≡ true → length (before 10 more) < length more)
        → length (cond c [] (b ∷ before 10 more)) < length (b ∷ more)
    byte true h is = omega arith
    byte false h is = let l = is h in omega (arith, l)

-- the first line, where it has an LF
first-ended : (bytes : List ℕ) → is_some (after 10 bytes) ≡ true
    → lines_of bytes ≡ take (length (before 10 bytes) + 1) bytes ∷ lines_of (drop (length (before 10 bytes) + 1) bytes)
first-ended [] h = absurd (cc)
first-ended (b ∷ more) h = byte (b == 10) h (first-ended more)
  where
    byte : (c : Bool) → is_some (cond c (Some more) (after 10 more)) ≡ true
        → (is_some (after 10 more) ≡ true → lines_of more ≡ take (length (before 10 more) + 1) more ∷ lines_of (drop (length (before 10 more) + 1) more))
        → cond c ((b ∷ []) ∷ lines_of more) (begun b (lines_of more))
        ≡ take (length (cond c [] (b ∷ before 10 more)) + 1) (b ∷ more) ∷ lines_of (drop (length (cond c [] (b ∷ before 10 more)) + 1) (b ∷ more))
    byte true h is = refl
    byte false h is =
        let next : suc (length (before 10 more) + 1) ≡ length (b ∷ before 10 more) + 1 = omega arith in
        ap (begun b) (is h) ∙ ap (λ (n : ℕ). take n (b ∷ more) ∷ lines_of (drop n (b ∷ more))) next

pub first-split : (bytes text front back : List ℕ) → is_some (after 10 bytes) ≡ true → text ≡ before 10 bytes → front ≡ take (length text + 1) bytes
    → back ≡ drop (length text + 1) bytes → lines_of bytes ≡ front ∷ lines_of back
first-split bytes text front back some is one two =
    first-ended bytes some ∙ ap (λ t. take (length t + 1) bytes ∷ lines_of (drop (length t + 1) bytes)) (sym is)
    ∙ ap (λ f. f ∷ lines_of (drop (length text + 1) bytes)) (sym one) ∙ ap (λ b. front ∷ lines_of b) (sym two)

-- a line without LF is all
pub first-open : (bytes : List ℕ) → 0 < length bytes → is_some (after 10 bytes) ≡ false → lines_of bytes ≡ bytes ∷ []
first-open [] l h = absurd (omega (arith, l))
first-open (b ∷ []) l h = byte (b == 10) h
  where
    byte : (c : Bool) → is_some {T = List ℕ} (cond c (Some []) None) ≡ false → cond c ((b ∷ []) ∷ []) ((b ∷ []) ∷ []) ≡ (b ∷ []) ∷ []
    byte true h = refl
    byte false h = refl
first-open (b ∷ d ∷ more) l h = byte (b == 10) h (first-open (d ∷ more) (omega arith))
  where
    byte : (c : Bool) → is_some (cond c (Some (d ∷ more)) (after 10 (d ∷ more))) ≡ false
        → (is_some (after 10 (d ∷ more)) ≡ false → lines_of (d ∷ more) ≡ (d ∷ more) ∷ [])
        → cond c ((b ∷ []) ∷ lines_of (d ∷ more)) (begun b (lines_of (d ∷ more))) ≡ (b ∷ d ∷ more) ∷ []
    byte true h is = absurd (cc)
    byte false h is = ap (begun b) (is h)

-- Pieces that are appended one after the other.
use Rattle.std.proofs.Common.{◌≡◌, ℕ, List, ◌++◌, ◌∙◌, ap}
use Rattle.std.proofs.lemmas.List.{append_assoc}

pub two : (o a b p q : List ℕ) → p ≡ o ++ a → q ≡ p ++ b → q ≡ o ++ (a ++ b)
two o a b p q one next = next ∙ ap (λ (x : List ℕ). x ++ b) one ∙ append_assoc o a b

pub three : (o a b c p q r : List ℕ) → p ≡ o ++ a → q ≡ p ++ b → r ≡ q ++ c → r ≡ o ++ (a ++ b ++ c)
three o a b c p q r one next third = two o (a ++ b) c q r (two o a b p q one next) third

pub five : (o a b c d e p q r s t : List ℕ) → p ≡ o ++ a → q ≡ p ++ b → r ≡ q ++ c → s ≡ r ++ d → t ≡ s ++ e
    → t ≡ o ++ (a ++ b ++ c ++ d ++ e)
five o a b c d e p q r s t one next third fourth fifth =
    two o (a ++ b ++ c ++ d) e s t (two o (a ++ b ++ c) d r s (three o a b c p q r one next third) fourth) fifth

-- the piece by another name
pub put : (p q a b : List ℕ) → q ≡ p ++ a → a ≡ b → q ≡ p ++ b
put p q a b is same = is ∙ ap (λ (x : List ℕ). p ++ x) same

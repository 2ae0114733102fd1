-- The text of an account line.
use Rattle.std.proofs.Common.{◌≡◌, ℕ, List, ◌++◌, codes, ap, arith, ◌∙◌}
use Rattle.std.proofs.lemmas.Grind.{common_steps}

joined : (n r s a b c d : List ℕ)
    → (((((n ++ codes " " ++ r) ++ codes " " ++ s) ++ codes " " ++ a ++ codes " " ++ b) ++ codes " " ++ c ++ codes " " ++ d) ++ codes "\n")
    ≡ n ++ codes " " ++ r ++ codes " " ++ s ++ codes " " ++ a ++ codes " " ++ b ++ codes " " ++ c ++ codes " " ++ d ++ codes "\n"
joined n r s a b c d = grind (arith, common_steps)

-- the fields of an account, one after the other, are its line
pub line-made : (n r s a b c d l1 l2 l3 l4 l5 l6 : List ℕ) → l1 ≡ n → l2 ≡ l1 ++ codes " " ++ r → l3 ≡ l2 ++ codes " " ++ s
    → l4 ≡ l3 ++ codes " " ++ a ++ codes " " ++ b → l5 ≡ l4 ++ codes " " ++ c ++ codes " " ++ d → l6 ≡ l5 ++ codes "\n"
    → l6 ≡ n ++ codes " " ++ r ++ codes " " ++ s ++ codes " " ++ a ++ codes " " ++ b ++ codes " " ++ c ++ codes " " ++ d ++ codes "\n"
line-made n r s a b c d l1 l2 l3 l4 l5 l6 e1 e2 e3 e4 e5 e6 =
    e6 ∙ ap (λ x. x ++ codes "\n") (e5 ∙ ap (λ x. x ++ codes " " ++ c ++ codes " " ++ d) (e4 ∙ ap (λ x. x ++ codes " " ++ a ++ codes " " ++ b)
    (e3 ∙ ap (λ x. x ++ codes " " ++ s) (e2 ∙ ap (λ x. x ++ codes " " ++ r) e1))))
    ∙ joined n r s a b c d

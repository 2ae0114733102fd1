-- Bytes that are appended one after another.
use Rattle.std.proofs.Common.{◌≡◌, ℕ, List, ◌++◌, ap, ◌∙◌, append_assoc}

pub then_more : (out one two done more : List ℕ) → one ≡ out ++ done → two ≡ one ++ more → two ≡ out ++ (done ++ more)
then_more out one two done more first second =
    second ∙ (ap (λ (xs : List ℕ). xs ++ more) first ∙ append_assoc out done more)

-- What is left of bytes once more of them were taken.
use Rattle.std.proofs.Common.{◌≡◌, ℕ, ◌+◌, List, ◌++◌, drop, ap, sym, ◌∙◌}
use Rattle.std.proofs.lemmas.List.{drop-drop}

pub front_taken : (bytes front rest : List ℕ) (at n : ℕ) → rest ≡ drop at bytes → rest ≡ front ++ drop n rest → drop at bytes ≡ front ++ drop (at + n) bytes
front_taken bytes front rest at n is cut = sym is ∙ cut ∙ ap (λ xs. front ++ xs) (ap (drop n) is ∙ drop-drop n at bytes)

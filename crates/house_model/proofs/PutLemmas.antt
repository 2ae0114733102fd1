-- A function with another value at one number.
use Rattle.std.proofs.Common.{◌≡◌, ◌⊎◌, inl, inr, ℕ, Bool, refl, ap, if◌then◌else◌}
use Rattle.std.proofs.lemmas.Bool.Decides.{eqb_tells}
use Rattle.house_model.specs.Numbered.{put}

pub put_is : {A : Type 0} (k : ℕ) (v : A) (f : ℕ → A) (x : ℕ)
    → ((x ≡ k) × (put k v f x ≡ v)) ⊎ ((x ≡ k → ⊥) × (put k v f x ≡ f x))
put_is k v f x = elim (eqb_tells x k) [
  | inl p ↦ inl (p.1, ap (λ (b : Bool). if b then v else f x) p.0)
  | inr p ↦ inr (p.1, ap (λ (b : Bool). if b then v else f x) p.0)
]

pub put_here : {A : Type 0} (k : ℕ) (v : A) (f : ℕ → A) → put k v f k ≡ v
put_here k v f = elim (put_is k v f k) [ inl p ↦ p.1 | inr p ↦ absurd (p.0 refl) ]

pub put_else : {A : Type 0} (k : ℕ) (v : A) (f : ℕ → A) (x : ℕ) → (x ≡ k → ⊥) → put k v f x ≡ f x
put_else k v f x ne = elim (put_is k v f x) [ inl p ↦ absurd (ne p.0) | inr p ↦ p.1 ]

-- A poller's count of links is the sum of its places' counts.
use Rattle.std.proofs.Common.{◌≡◌, ◌≢◌, ◌<◌, ◌+◌, ◌-◌, ◌^◌, min, ℕ, zero, suc, arith, refl, sym, subst, ap, inl, inr, ◌∙◌}
use Rattle.std.proofs.lemmas.Bool.Decides.{eqb_tells}
use Rattle.outside.specs.Plans.{raised}
use Rattle.many_links.specs.Visits.{AddsUp, Links, sum_of}

-- where the counts of the first places are the same
sum_same : (n : ℕ) (a b : Links) → ((j : ℕ) → j < n → b j ≡ a j) → sum_of n b ≡ sum_of n a
sum_same zero a b same = refl
sum_same (suc n) a b same =
    ap (λ (m : ℕ). m + b n) (sum_same n a b (λ j less. same j (omega (arith, less)))) ∙ ap (λ (m : ℕ). sum_of n a + m) (same n (omega arith))

-- where one count alone changes, the others together are the same
sum_but_one : (n k : ℕ) (a b : Links) → k < n → ((j : ℕ) → j ≢ k → b j ≡ a j)
    → (others : ℕ) × (sum_of n a ≡ others + a k) × (sum_of n b ≡ others + b k)
sum_but_one zero k a b less same = absurd (omega (arith, less))
sum_but_one (suc n) k a b less same =
    elim (eqb_tells k n) [
      | inl e ↦ (
        sum_of n a,
        ap (λ (j : ℕ). sum_of n a + a j) (sym e.1),
        ap (λ (m : ℕ). m + b n) (sum_same n a b (λ j low. same j (omega (arith, low, e.1)))) ∙ ap (λ (j : ℕ). sum_of n a + b j) (sym e.1),
      )
      | inr e ↦
          let rest = sum_but_one n k a b (omega (arith, less, e.1)) same in
          let last : b n ≡ a n = same n (λ is. e.1 (sym is)) in (
            rest.0 + a n,
            omega (arith, rest.1),
            omega (arith, rest.2, last),
          )
    ]

raised_sum : (others one sum sum' one' : ℕ) → sum ≡ others + one → sum' ≡ others + one' → one' ≡ raised one
    → min sum' (2 ^ 64 - 1) ≡ raised (min sum (2 ^ 64 - 1))
raised_sum others one sum sum' one' is now more = omega (arith, is, now, more)

-- a link came to a place, and was counted there and in all
pub adds_one : (places places' k : ℕ) (came came' : Links) (links links' : ℕ) → places' ≡ places → k < places → came' k ≡ raised (came k)
    → ((j : ℕ) → j ≢ k → came' j ≡ came j) → links' ≡ raised links → AddsUp places came links → AddsUp places' came' links'
adds_one places places' k came came' links links' wide less more same counted sum =
    let parts = sum_but_one places k came came' less same in
    counted ∙ ap raised sum ∙ sym (ap (λ (n : ℕ). min (sum_of n came') (2 ^ 64 - 1)) wide
    ∙ raised_sum parts.0 (came k) (sum_of places came) (sum_of places came') (came' k) parts.1 parts.2 more)

-- none came
pub adds_none : (places places' : ℕ) (came came' : Links) (links links' : ℕ) → places' ≡ places → ((j : ℕ) → came' j ≡ came j) → links' ≡ links
    → AddsUp places came links → AddsUp places' came' links'
adds_none places places' came came' links links' wide same counted sum =
    counted ∙ sum ∙ sym (ap (λ (n : ℕ). min (sum_of n came') (2 ^ 64 - 1)) wide
    ∙ ap (λ (n : ℕ). min n (2 ^ 64 - 1)) (sum_same places came came' (λ j low. same j)))

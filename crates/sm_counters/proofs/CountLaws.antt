-- The laws of `number`, which later proofs cite: what it finds, when it finds nothing, and how it moves.
use Rattle.std.proofs.Common.{◌≡◌, ℕ, zero, suc, ◌+◌, ◌-◌, ◌*◌, ◌^◌, ◌<◌, ◌≤◌, ◌==◌, Bool, true, false, cond, ◌⊎◌}
use Rattle.std.proofs.Common.{inl, inr, Option, Some, None, arith, ◌≢◌, refl, sym, ap, ◌∙◌}
use Rattle.std.specs.Option.{option_map}
use Rattle.std.proofs.lemmas.Bool.{eqb-true, eqb-false}
use Rattle.sm_counters.specs.Numbers.{IsNumber, count_of, distance, number, number_among}

-- Two numbers less than 2^32 apart with one count are one number.
pub same_count : (m n : ℕ) → m ≤ n → n < m + 2 ^ 32 → count_of m ≡ count_of n → m ≡ n
same_count m n low near same = omega arith

-- The first of the numbers looked at, and the others.
among_cases : (a h many : ℕ)
    → ((count_of a ≡ h) × (number_among a h (suc many) ≡ Some a))
    ⊎ ((count_of a ≢ h) × (number_among a h (suc many) ≡ number_among (suc a) h many))
unfolding number_among
among_cases a h many = cases (count_of a == h) refl
  where
    cases : (same : Bool) → (count_of a == h) ≡ same
        → ((count_of a ≡ h) × (cond (count_of a == h) (Some a) (number_among (suc a) h many) ≡ Some a))
        ⊎ ((count_of a ≢ h)
        × (cond (count_of a == h) (Some a) (number_among (suc a) h many) ≡ number_among (suc a) h many))
    cases true test = inl (eqb-true (count_of a) h test, rw test)
    cases false test = inr (eqb-false (count_of a) h test, rw test)

-- A number that is found is among those looked at, and has the count.
pub number_among_some : (a h many n : ℕ) → number_among a h many ≡ Some n
    → (a ≤ n) × (n < a + many) × (count_of n ≡ h)
unfolding number_among
number_among_some a h zero n found = cc
number_among_some a h (suc many) n found =
    let rest : number_among (suc a) h many ≡ Some n
    → (suc a ≤ n) × (n < suc a + many) × (count_of n ≡ h) =
    number_among_some (suc a) h many n in
    elim (among_cases a h many) [
      | inl here ↦
          let at : a ≡ n = cc in
          (omega arith, omega arith, ap count_of (sym at) ∙ here.0)
      | inr later ↦
          let after = rest (sym later.1 ∙ found) in
          (omega (arith, after.0), omega (arith, after.1), after.2)
    ]

-- Where none is found, none of those looked at has the count.
pub number_among_none : (a h many n : ℕ) → number_among a h many ≡ None
    → a ≤ n → n < a + many → count_of n ≡ h → ⊥
number_among_none a h zero n absent low high count = omega arith
number_among_none a h (suc many) n absent low high count =
    elim (among_cases a h many) [
      | inl here ↦ cc
      | inr later ↦
          let other : a ≢ n = λ at. later.0 (ap count_of at ∙ count) in
          number_among_none (suc a) h many n (sym later.1 ∙ absent) (omega arith) (omega arith) count
    ]

-- What `number` finds is from a to q and has the count.
pub number-some : (a q h n : ℕ) → number a q h ≡ Some n → IsNumber a q h n
unfolding number
number-some a q h n found =
    let among = number_among_some a h (suc q - a) n found in
    record { low = among.0; high = omega (arith, among.0, among.1); count = among.2 }

-- Where it finds none there is none.
pub number-none : (a q h n : ℕ) → number a q h ≡ None → IsNumber a q h n → ⊥
unfolding number
number-none a q h n absent is =
    number_among_none a h (suc q - a) n absent is.low (omega (arith, is.low, is.high)) is.count

-- A window of at most 2^32 numbers has no two with one count.
pub one_number : (a q h m n : ℕ) → q < a + 2 ^ 32 → IsNumber a q h m → IsNumber a q h n → m ≡ n
one_number a q h m n narrow is other = omega (arith, is.low, is.high, is.count, other.low, other.high, other.count)

-- A number of such a window is the one that is found.
pub number-is : (a q h n : ℕ) → q < a + 2 ^ 32 → IsNumber a q h n → number a q h ≡ Some n
number-is a q h n narrow is = found (number a q h) refl
  where
    found : (o : Option ℕ) → number a q h ≡ o → number a q h ≡ Some n
    found None absent = absurd (number-none a q h n absent is)
    found (Some m) at = at ∙ ap Some (one_number a q h m n narrow (number-some a q h m at) is)

-- None is found where there is none.
pub number-is_none : (a q h : ℕ) → ((n : ℕ) → IsNumber a q h n → ⊥) → number a q h ≡ None
number-is_none a q h absent = found (number a q h) refl
  where
    found : (o : Option ℕ) → number a q h ≡ o → number a q h ≡ None
    found None at = at
    found (Some n) at = absurd (absent n (number-some a q h n at))

-- Each number of a narrow window is found by its own count.
pub number-count_of : (a n q : ℕ) → a ≤ n → n ≤ q → q < a + 2 ^ 32
    → number a q (count_of n) ≡ Some n
number-count_of a n q low high narrow =
    number-is a q (count_of n) n narrow (record { low = low; high = high; count = refl })

-- A window and a count that move together find the number that moved with them.
pub number-moved : (a q h k : ℕ) → q < a + 2 ^ 32 → h < 2 ^ 32
    → number (a + k) (q + k) (count_of (h + k)) ≡ option_map (λ n. n + k) (number a q h)
number-moved a q h k narrow fits = found (number a q h) refl
  where
    back : (m : ℕ) → IsNumber (a + k) (q + k) (count_of (h + k)) m → IsNumber a q h (m - k)
    back m is = record {
      low = omega (arith, is.low);
      high = omega (arith, is.high);
      count = omega (arith, is.low, is.count);
    }

    found : (o : Option ℕ) → number a q h ≡ o
        → number (a + k) (q + k) (count_of (h + k)) ≡ option_map (λ n. n + k) o
    found None absent =
        number-is_none (a + k) (q + k) (count_of (h + k))
        (λ m is. number-none a q h (m - k) absent (back m is))
    found (Some n) at =
        let is = number-some a q h n at in
        number-is (a + k) (q + k) (count_of (h + k)) (n + k) (omega arith) (record {
          low = omega (arith, is.low);
          high = omega (arith, is.high);
          count = omega (arith, is.count);
        })

-- Moved by whole wraps, a window has the same count at the same place.
pub number-wrapped : (a q h wraps : ℕ) → q < a + 2 ^ 32 → h < 2 ^ 32
    → number (a + wraps * 2 ^ 32) (q + wraps * 2 ^ 32) h
    ≡ option_map (λ n. n + wraps * 2 ^ 32) (number a q h)
number-wrapped a q h wraps narrow fits =
    let same : count_of (h + wraps * 2 ^ 32) ≡ h = omega arith in
    ap (number (a + wraps * 2 ^ 32) (q + wraps * 2 ^ 32)) (sym same)
    ∙ number-moved a q h (wraps * 2 ^ 32) narrow fits

-- The distance to a count that the window has is the place of its number.
pub number-near : (a width h : ℕ) → width < 2 ^ 32 → h < 2 ^ 32 → distance (count_of a) h ≤ width
    → number a (a + width) h ≡ Some (a + distance (count_of a) h)
number-near a width h narrow fits near =
    number-is a (a + width) h (a + distance (count_of a) h) (omega arith) (record {
      low = omega arith;
      high = omega arith;
      count = omega arith;
    })

-- A count beyond the window has no number there.
pub number-far : (a width h : ℕ) → width < 2 ^ 32 → h < 2 ^ 32 → width < distance (count_of a) h
    → number a (a + width) h ≡ None
number-far a width h narrow fits far =
    number-is_none a (a + width) h (λ n is. omega (arith, is.low, is.high, is.count))

-- How many connections came, line by line.
use Rattle.std.proofs.Common.{◌≡◌, ℕ, zero, suc, ◌+◌, ◌-◌, ◌^◌, ◌<◌, ◌≤◌, min, List, [], ◌∷◌, ◌++◌, map, length, Bool, true, false}
use Rattle.std.proofs.Common.{refl, sym, ap, subst, ◌∙◌, inl, inr, arith, cond, ne_eqb, eq-eqb}
use Rattle.std.specs.Prelude.{◌==◌, sum_by}
use Rattle.std.proofs.lemmas.List.Sums.{sum_by-cons}
use Rattle.std.proofs.lemmas.Bool.{cases_lt, cond-false, cond-true}
use Rattle.hall.specs.Desks.{turns_of}
use Rattle.hall.specs.Stories.{line}
use Rattle.outside.specs.Posts.{added, plus}
use Rattle.house_model.specs.Histories.{Legal, Turn, next, opened_by, openings}
use Rattle.house_model.specs.declared.event.Event.{Event}
use Rattle.house_model.specs.declared.event.Event.TheVariants as event
use Rattle.house_model.specs.States.{State}
use Rattle.house_model.proofs.Turns.{workers_after}

-- the connections of a line, and of so many lines from one on
abbrev pub opened_at : ℕ → List Turn → ℕ
opened_at n h = openings (turns_of n h)

abbrev pub opened_in : (n many : ℕ) → List Turn → ℕ
opened_in n zero h = 0
opened_in n (suc many) h = opened_at n h + opened_in (n + 1) many h

none-opened : (n many : ℕ) → opened_in n many [] ≡ 0
none-opened n zero = refl
none-opened n (suc many) = let rest = none-opened (n + 1) many in omega (arith, rest)

-- a turn counts at its own line alone
pushed : (b : Bool) (x : Turn) (l : List Turn) → openings (cond b (x ∷ l) l) ≡ cond b (opened_by x.event + openings l) (openings l)
pushed true x l = refl
pushed false x l = refl

elsewhere : (n : ℕ) (x : Turn) (h : List Turn) → (line x ≡ n → ⊥) → opened_at n (x ∷ h) ≡ opened_at n h
elsewhere n x h other =
    pushed (line x == n) x (turns_of n h)
    ∙ cond-false (line x == n) (opened_by x.event + opened_at n h) (opened_at n h) (ne_eqb (line x) n other)

there : (n : ℕ) (x : Turn) (h : List Turn) → line x ≡ n → opened_at n (x ∷ h) ≡ opened_by x.event + opened_at n h
there n x h same =
    pushed (line x == n) x (turns_of n h)
    ∙ cond-true (line x == n) (opened_by x.event + opened_at n h) (opened_at n h) (eq-eqb (line x) n same)

before-all : (n many : ℕ) (x : Turn) (h : List Turn) → line x < n → opened_in n many (x ∷ h) ≡ opened_in n many h
before-all n zero x h below = refl
before-all n (suc many) x h below =
    let first = elsewhere n x h (λ same. omega (arith, same, below)) in
    let rest = before-all (n + 1) many x h (omega (arith, below)) in
    omega (arith, first, rest)

among : (n many : ℕ) (x : Turn) (h : List Turn) → n ≤ line x → line x < n + many → opened_in n many (x ∷ h) ≡ opened_by x.event + opened_in n many h
among n zero x h least most = absurd (omega (arith, least, most))
among n (suc many) x h least most = elim (cases_lt (line x) (n + 1)) [
  | inl below ↦
      let first = there n x h (omega (arith, least, below)) in
      let rest = before-all (n + 1) many x h below in
      omega (arith, first, rest)
  | inr above ↦
      let first = elsewhere n x h (λ same. omega (arith, same, above)) in
      let rest = among (n + 1) many x h above (omega (arith, most)) in
      omega (arith, first, rest)
]

-- each turn has its line among those that there are
pub by-lines : (workers : ℕ) (st : State) (h : List Turn) → st.head.workers ≡ workers → Legal st h → opened_in 0 workers h ≡ openings h
by-lines workers st [] same legal = none-opened 0 workers
by-lines workers st (x ∷ more) same (allowed, legal) =
    let stays : (next st x).head.workers ≡ st.head.workers = workers_after st (x ∷ []) in
    let here = among 0 workers x more (omega arith) (omega (arith, same, allowed.line)) in
    let rest = by-lines workers (next st x) more (stays ∙ same) legal in
    omega (arith, here, rest)

-- there are no more of them than turns
one-most : (e : Event) → opened_by e ≤ 1
one-most (event.OpenLine w) = omega arith
one-most (event.Login w user) = omega arith
one-most (event.Bind w id resource t dice) = omega arith
one-most (event.Enable w resume dice) = omega arith
one-most (event.Resume w id n t) = omega arith
one-most (event.Act w stanza t) = omega arith
one-most (event.Ack w n) = omega arith
one-most (event.Ask w) = omega arith
one-most (event.Pull w t) = omega arith
one-most (event.DropLine w t) = omega arith
one-most (event.CloseLine w t) = omega arith
one-most (event.Sweep w t) = omega arith

capped : (b : Bool) (one n most : ℕ) → one ≤ 1 → n ≤ most → cond b (one + n) n ≤ suc most
capped true one n most few least = omega (arith, few, least)
capped false one n most few least = omega (arith, least)

pub at-most : (n : ℕ) (h : List Turn) → opened_at n h ≤ length h
at-most n [] = omega arith
at-most n (x ∷ h) =
    subst (λ k. k ≤ suc (length h)) (sym (pushed (line x == n) x (turns_of n h)))
    (capped (line x == n) (opened_by x.event) (opened_at n h) (length h) (one-most x.event) (at-most n h))

pub openings-most : (h : List Turn) → openings h ≤ length h
openings-most [] = omega arith
openings-most (x ∷ h) = let here = one-most x.event in let rest = openings-most h in omega (arith, here, rest)

-- counts that are added one after the other
abbrev pub total : List ℕ → ℕ
total [] = 0
total (n ∷ more) = n + total more

pub added-total : (n first : ℕ) (more : List ℕ) → added n (first ∷ more) ≡ min (n + total (first ∷ more)) (2 ^ 64 - 1)
added-total n first [] = ap (λ m. min m (2 ^ 64 - 1)) (let e : n + first ≡ n + (first + 0) = omega arith in e)
added-total n first (next ∷ more) =
    let rest = added-total (plus n first) next more in
    omega (arith, rest)

pub total-append : (xs ys : List ℕ) → total (xs ++ ys) ≡ total xs + total ys
total-append [] ys = omega arith
total-append (x ∷ xs) ys = let rest = total-append xs ys in omega (arith, rest)

pub total-sum : (A : Type 0) (f : A → ℕ) (xs : List A) → total (map f xs) ≡ sum_by f xs
total-sum A f [] = refl
total-sum A f (x ∷ xs) =
    let rest = total-sum A f xs in
    let one = sum_by-cons f x xs in
    omega (arith, rest, one)

pub some-added : (ports : ℕ) (counts : List ℕ) → 0 < length counts → added ports counts ≡ plus ports (total counts)
some-added ports [] some = absurd (omega (arith, some))
some-added ports (n ∷ more) some = added-total ports n more

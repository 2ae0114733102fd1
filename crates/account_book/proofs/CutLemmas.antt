-- Cutting a text at a byte that it hasn't, or has.
use Rattle.std.proofs.Common.{◌≡◌, ℕ, List, [], ◌∷◌, ◌++◌, Bool, true, false, cond, not, ◌&&◌, ◌==◌, Some, None, refl, ap, ◌∙◌}
use Rattle.std.proofs.lemmas.Bool.{cond-true, cond-false, eq-eqb, eqb-true}
use Rattle.std.specs.List.{list_all}
use Rattle.jid_core.specs.Cuts.{before, after}

-- none of these bytes is c
abbrev pub lacks : ℕ → List ℕ → Bool
lacks c bs = list_all (λ b. not (b == c)) bs

pub two-true : (a b : Bool) → (a && b) ≡ true → (a ≡ true) × (b ≡ true)
two-true true b h = (refl, h)
two-true false b h = absurd (cc)

pub true-two : (a b : Bool) → a ≡ true → b ≡ true → (a && b) ≡ true
true-two true b g h = h
true-two false b g h = absurd (cc)

pub not-true : (b : Bool) → not b ≡ true → b ≡ false
not-true true h = absurd (cc)
not-true false h = refl

self : (c : ℕ) → (c == c) ≡ true
self c = eq-eqb c c refl

pub before-at : (c : ℕ) (xs rest : List ℕ) → lacks c xs ≡ true → before c (xs ++ c ∷ rest) ≡ xs
before-at c [] rest h = cond-true (c == c) [] (c ∷ before c rest) (self c)
before-at c (b ∷ bs) rest h =
    let two = two-true (not (b == c)) (lacks c bs) h in
    cond-false (b == c) [] (b ∷ before c (bs ++ c ∷ rest)) (not-true (b == c) two.0) ∙ ap (λ xs. b ∷ xs) (before-at c bs rest two.1)

pub after-at : (c : ℕ) (xs rest : List ℕ) → lacks c xs ≡ true → after c (xs ++ c ∷ rest) ≡ Some rest
after-at c [] rest h = cond-true (c == c) (Some rest) (after c rest) (self c)
after-at c (b ∷ bs) rest h =
    let two = two-true (not (b == c)) (lacks c bs) h in
    cond-false (b == c) (Some (bs ++ c ∷ rest)) (after c (bs ++ c ∷ rest)) (not-true (b == c) two.0) ∙ after-at c bs rest two.1

pub after-none : (c : ℕ) (xs : List ℕ) → lacks c xs ≡ true → after c xs ≡ None
after-none c [] h = refl
after-none c (b ∷ bs) h =
    let two = two-true (not (b == c)) (lacks c bs) h in
    cond-false (b == c) (Some bs) (after c bs) (not-true (b == c) two.0) ∙ after-none c bs two.1

pub none-lacks : (c : ℕ) (xs : List ℕ) → after c xs ≡ None → lacks c xs ≡ true
none-lacks c [] h = refl
none-lacks c (b ∷ bs) h = byte (b == c) h (none-lacks c bs)
  where
    byte : (d : Bool) → cond d (Some bs) (after c bs) ≡ None → (after c bs ≡ None → lacks c bs ≡ true) → (not d && lacks c bs) ≡ true
    byte true h is = absurd (cc)
    byte false h is = is h

-- what is cut at a byte is joined by it
pub cut-joined : (c : ℕ) (bs rest : List ℕ) → after c bs ≡ Some rest → bs ≡ before c bs ++ c ∷ rest
cut-joined c [] rest h = absurd (cc)
cut-joined c (b ∷ bs) rest h = byte (b == c) refl h (cut-joined c bs rest)
  where
    byte : (d : Bool) → (b == c) ≡ d → cond d (Some bs) (after c bs) ≡ Some rest → (after c bs ≡ Some rest → bs ≡ before c bs ++ c ∷ rest)
        → b ∷ bs ≡ cond d [] (b ∷ before c bs) ++ c ∷ rest
    byte true e h is = let head : b ≡ c = eqb-true b c e in let tail : bs ≡ rest = cc in ap (λ x. x ∷ bs) head ∙ ap (λ xs. c ∷ xs) tail
    byte false e h is = ap (λ xs. b ∷ xs) (is h)

pub lacks-append : (c : ℕ) (xs ys : List ℕ) → lacks c xs ≡ true → lacks c ys ≡ true → lacks c (xs ++ ys) ≡ true
lacks-append c [] ys g h = h
lacks-append c (b ∷ bs) ys g h =
    let two = two-true (not (b == c)) (lacks c bs) g in
    true-two (not (b == c)) (lacks c (bs ++ ys)) two.0 (lacks-append c bs ys two.1 h)

pub all-weaker : (f g : ℕ → Bool) → ((b : ℕ) → f b ≡ true → g b ≡ true) → (bs : List ℕ) → list_all f bs ≡ true → list_all g bs ≡ true
all-weaker f g w [] h = refl
all-weaker f g w (b ∷ bs) h = let two = two-true (f b) (list_all f bs) h in true-two (g b) (list_all g bs) (w b two.0) (all-weaker f g w bs two.1)

-- Lists over variables, so that no literal is taken apart.
use Rattle.std.proofs.Common.{◌≡◌, ℕ, List, [], ◌∷◌, ◌++◌, refl, sym, ap, subst, ◌∙◌, Bool, true, false}
use Rattle.stream_lex.specs.declared.Token.{Token}
use Rattle.stream_lex.specs.declared.LexFault.{LexFault}
use Rattle.stream_lex.specs.grammar.Expressions.{Sign, says, refuses, all_said}

pub same_head : (x y : ℕ) (xs ys : List ℕ) → x ∷ xs ≡ y ∷ ys → x ≡ y
same_head x y xs ys e = cc

pub same_tail : (x y : ℕ) (xs ys : List ℕ) → x ∷ xs ≡ y ∷ ys → xs ≡ ys
same_tail x y xs ys e = cc

pub cons_not_nil : (x : ℕ) (xs : List ℕ) → x ∷ xs ≡ [] → ⊥
cons_not_nil x xs e = cc

pub false-true : {A : Type 0} → false ≡ true → A
false-true e = absurd (cc)

pub nil_parts : (xs ys : List ℕ) → xs ++ ys ≡ [] → (xs ≡ []) × (ys ≡ [])
nil_parts [] ys e = (refl, e)
nil_parts (x ∷ xs) ys e = absurd (cons_not_nil x (xs ++ ys) e)

-- a fact about two lists, at equal ones
pub moved : (P : List ℕ → List Sign → Type 0) (xs ys : List ℕ) (us vs : List Sign) → xs ≡ ys → us ≡ vs → P xs us → P ys vs
moved P xs ys us vs e f m = subst (λ (l : List ℕ). P l vs) e (subst (λ (l : List Sign). P xs l) f m)

-- where a list is cut: within the first part, or before the second
pub data Cut (c : ℕ) (cs xs ys : List ℕ) : Type 0 where
  within : (zs : List ℕ) → xs ≡ c ∷ zs → cs ≡ zs ++ ys → Cut c cs xs ys
  before : xs ≡ [] → ys ≡ c ∷ cs → Cut c cs xs ys

pub cut : (c : ℕ) (cs xs ys : List ℕ) → c ∷ cs ≡ xs ++ ys → Cut c cs xs ys
cut c cs [] ys e = before refl (sym e)
cut c cs (x ∷ xs) ys e = within xs (ap (λ (n : ℕ). n ∷ xs) (sym (same_head c x cs (xs ++ ys) e))) (same_tail c x cs (xs ++ ys) e)

pub said-append : (ts us : List Token) → all_said (ts ++ us) ≡ all_said ts ++ all_said us
said-append [] us = refl
said-append (t ∷ ts) us = ap (λ (l : List Sign). says t ∷ l) (said-append ts us)

pub true-false : {t : Bool} → t ≡ true → t ≡ false → ⊥
true-false e f = cc

pub says-refuses : (t : Token) (f : LexFault) (xs ys : List Sign) → says t ∷ xs ≡ refuses f ∷ ys → ⊥
says-refuses t f xs ys e = cc

pub says-head : (t u : Token) (xs ys : List Sign) → says t ∷ xs ≡ says u ∷ ys → t ≡ u
says-head t u xs ys e = cc

pub says-tail : (t u : Token) (xs ys : List Sign) → says t ∷ xs ≡ says u ∷ ys → xs ≡ ys
says-tail t u xs ys e = cc

pub said-same : (ts us : List Token) → all_said ts ≡ all_said us → ts ≡ us
said-same [] [] e = refl
said-same [] (u ∷ us) e = absurd (cc)
said-same (t ∷ ts) [] e = absurd (cc)
said-same (t ∷ ts) (u ∷ us) e =
    ap (λ (x : Token). x ∷ ts) (says-head t u (all_said ts) (all_said us) e)
    ∙ ap (λ (l : List Token). u ∷ l) (said-same ts us (says-tail t u (all_said ts) (all_said us) e))

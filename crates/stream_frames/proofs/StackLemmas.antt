-- Names as they are kept.
use Rattle.std.proofs.Common.{◌≡◌, ℕ, ◌+◌, ◌<◌, ◌≤◌, List, [], ◌∷◌, ◌++◌, length, drop, refl, sym, ap, ◌∙◌, true, false, nat_le, arith, inl, inr, ◌==◌}
use Rattle.std.proofs.lemmas.Bool.{cases_lt, eqb-true, false_from_ne_true}
use Rattle.std.proofs.lemmas.Bool.Decides.{nat_tests}
use Rattle.std.proofs.lemmas.List.{drop_all, drop_more}
use Rattle.std.specs.Option.{option_to_list, MatchOption}
use Rattle.std.specs.declared.option.Option.{Option}
use Rattle.std.specs.declared.option.Option.TheVariants.{None, Some}
use Rattle.stream_frames.specs.declared.names.OpenName.{OpenName}
use Rattle.stream_grammar.specs.grammar.Trees.{RawName}
use Rattle.stream_frames.specs.Stacks.{raw, stacked_on, stacked, AreStacked, outer, is_all}
use Rattle.stream_frames.specs.Moves.{is_one}

pub stacked-snoc : (st : List RawName) (ns : List OpenName) (n : OpenName) → stacked_on st (ns ++ n ∷ []) ≡ raw n ∷ stacked_on st ns
stacked-snoc st [] n = refl
stacked-snoc st (m ∷ ns) n = stacked-snoc (raw m ∷ st) ns n

pub stacked-length : (st : List RawName) (ns : List OpenName) → length (stacked_on st ns) ≡ length st + length ns
stacked-length st [] = omega arith
stacked-length st (n ∷ ns) = let e : length (stacked_on (raw n ∷ st) ns) ≡ length (raw n ∷ st) + length ns = stacked-length (raw n ∷ st) ns in omega arith

no-snoc : (ns : List OpenName) (n : OpenName) → ns ++ n ∷ [] ≡ [] → ⊥
no-snoc [] n e = cc
no-snoc (m ∷ ns) n e = cc

pub popped-one : (o : Option OpenName) (before after : List OpenName) (n : OpenName) → AreStacked o before → before ≡ after ++ n ∷ []
    → raw n ∷ stacked_on [] after ≡ outer (stacked o before)
popped-one None before after n k e = absurd (no-snoc after n (sym e ∙ k))
popped-one (Some m) before after n k e = sym (ap (stacked_on []) e ∙ stacked-snoc [] after n)

pub popped-none : (o : Option OpenName) (before : List OpenName) → before ≡ [] → [] ≡ outer (stacked o before)
popped-none None before e = refl
popped-none (Some m) before e = sym (ap (stacked_on []) e)

pub counted : (n : OpenName) (ns : List OpenName) → length ns + 1 ≡ length (raw n ∷ stacked_on [] ns)
counted n ns = let e : length (stacked_on [] ns) ≡ length {A = RawName} [] + length ns = stacked-length [] ns in omega arith

is-le : (m n : ℕ) → m ≤ n → nat_le m n ≡ true
is-le m n h = grind (arith, nat_tests)

is-more : (m n : ℕ) → n < m → nat_le m n ≡ false
is-more m n h = grind (arith, nat_tests)

pub whole_at : (m : List ℕ) (i : ℕ) → nat_le (length m) i ≡ is_all (drop i m)
whole_at m i = elim (cases_lt i (length m)) [
  | inl h ↦ is-more (length m) i h ∙ sym (ap is_all (drop_more m i 0 h))
  | inr h ↦ is-le (length m) i h ∙ sym (ap is_all (drop_all i m h))
]

pub pushed-some : (m n : OpenName) (before after : List OpenName) → after ≡ before ++ m ∷ []
    → raw n ∷ stacked_on [] after ≡ raw n ∷ (raw m ∷ stacked_on [] before)
pushed-some m n before after e = ap (λ (l : List RawName). raw n ∷ l) (ap (stacked_on []) e ∙ stacked-snoc [] before m)

nothing-long : (ns : List OpenName) → 0 ≡ length ns → ns ≡ []
nothing-long [] e = refl
nothing-long (n ∷ ns) e = absurd (let f : 0 ≡ length (n ∷ ns) = e in omega arith)

pub popped : (p o : Option OpenName) (before after : List OpenName) (n : ℕ) (A : Type 0) (B : OpenName → Type 0) → AreStacked o before → n ≡ length before
    → before ≡ after ++ option_to_list p → MatchOption p ((n ≡ 0) × A) B
    → stacked p after ≡ outer (stacked o before)
popped None o before after n A B k e f m = popped-none o before (nothing-long before (sym m.0 ∙ e))
popped (Some x) o before after n A B k e f m = popped-one o before after x k f

not-eq : (m n : ℕ) → (m ≡ n → ⊥) → (m == n) ≡ false
not-eq m n h = false_from_ne_true (m == n) (λ e. h (eqb-true m n e))

pub one-long : (st : List RawName) → (length st == 1) ≡ is_one st
one-long [] = refl
one-long (m ∷ []) = refl
one-long (m ∷ x ∷ st) = not-eq (length (m ∷ x ∷ st)) 1 (λ e. omega arith)

pub two-long : (st : List RawName) → (length st == 2) ≡ is_one (outer st)
two-long [] = refl
two-long (m ∷ []) = refl
two-long (m ∷ x ∷ []) = refl
two-long (m ∷ x ∷ y ∷ st) = not-eq (length (m ∷ x ∷ y ∷ st)) 2 (λ e. omega arith)

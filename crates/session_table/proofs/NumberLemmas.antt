-- What the session of a number is, after the list has changed.
use Rattle.std.proofs.Common.{◌≡◌, ℕ, ◌+◌, ◌≤◌, nat_eq, Bool, true, false, cond, List, [], ◌∷◌, ◌++◌, Option, Some, None, arith, refl, sym, ap, ◌∙◌}
use Rattle.std.proofs.lemmas.Bool.{eq-eqb, eqb-false, eqb-true, ne_eqb}
use Rattle.std.specs.Map.{lookup, remove_entry}
use Rattle.std.specs.Option.{option_map}
use Rattle.session_table.specs.Sessions.{SessionRecord}
use Rattle.session_table.specs.Tables.{Rises, changed_in}
use Rattle.session_table.proofs.ListLemmas.{number_is_new}

pub lookup_changed : (s n : ℕ) (f : SessionRecord → SessionRecord) (es : List (ℕ × SessionRecord))
    → lookup (nat_eq n) (changed_in s f es) ≡ cond (nat_eq s n) (option_map f (lookup (nat_eq n) es)) (lookup (nat_eq n) es)
lookup_changed s n f [] = by (nat_eq s n)
  where
    by : (b : Bool) → ◌≡◌ {A = Option SessionRecord} None (cond b None None)
    by true = refl
    by false = refl
lookup_changed s n f (e ∷ more) = by (nat_eq n e.0) refl (lookup_changed s n f more)
  where
    here : n ≡ e.0 → (b : Bool) → nat_eq s n ≡ b
        → Some (cond (nat_eq s e.0) (f e.1) e.1) ≡ cond b (Some (f e.1)) (Some e.1)
    here at true same = ap (λ m. Some (cond (nat_eq s m) (f e.1) e.1)) (sym at) ∙ ap (λ b. Some (cond b (f e.1) e.1)) same
    here at false same = ap (λ m. Some (cond (nat_eq s m) (f e.1) e.1)) (sym at) ∙ ap (λ b. Some (cond b (f e.1) e.1)) same

    by : (b : Bool) → nat_eq n e.0 ≡ b
        → lookup (nat_eq n) (changed_in s f more)
        ≡ cond (nat_eq s n) (option_map f (lookup (nat_eq n) more)) (lookup (nat_eq n) more)
        → cond b (Some (cond (nat_eq s e.0) (f e.1) e.1)) (lookup (nat_eq n) (changed_in s f more))
        ≡ cond (nat_eq s n) (option_map f (cond b (Some e.1) (lookup (nat_eq n) more))) (cond b (Some e.1) (lookup (nat_eq n) more))
    by true own after = here (eqb-true n e.0 own) (nat_eq s n) refl
    by false other after = after

-- no session of a lower number is there
pub lookup_below : (n last made : ℕ) (es : List (ℕ × SessionRecord)) → Rises last es made → n ≤ last
    → lookup (nat_eq n) es ≡ None
lookup_below n last made [] rises low = refl
lookup_below n last made (e ∷ more) rises low =
    let other : nat_eq n e.0 ≡ false = ne_eqb n e.0 (λ at. omega (arith, rises.0, low, at)) in
    rw other (lookup_below n e.0 made more rises.1 (omega (arith, rises.0, low)))

at_end : (n k : ℕ) (s : SessionRecord) (es : List (ℕ × SessionRecord)) → nat_eq n k ≡ true → lookup (nat_eq n) es ≡ None
    → lookup (nat_eq n) (es ++ (k, s) ∷ []) ≡ Some s
at_end n k s [] own none = ap (λ b. cond b (Some s) None) own
at_end n k s (e ∷ more) own none = by (nat_eq n e.0) none (at_end n k s more own)
  where
    by : (b : Bool) → cond b (Some e.1) (lookup (nat_eq n) more) ≡ None
        → (lookup (nat_eq n) more ≡ None → lookup (nat_eq n) (more ++ (k, s) ∷ []) ≡ Some s)
        → cond b (Some e.1) (lookup (nat_eq n) (more ++ (k, s) ∷ [])) ≡ Some s
    by true none after = cc
    by false none after = after none

before_end : (n k : ℕ) (s : SessionRecord) (es : List (ℕ × SessionRecord)) → nat_eq n k ≡ false
    → lookup (nat_eq n) (es ++ (k, s) ∷ []) ≡ lookup (nat_eq n) es
before_end n k s [] other = ap (λ b. cond b (Some s) None) other
before_end n k s (e ∷ more) other = ap (cond (nat_eq n e.0) (Some e.1)) (before_end n k s more other)

pub lookup_added : (n last made : ℕ) (s : SessionRecord) (es : List (ℕ × SessionRecord)) → Rises last es made
    → lookup (nat_eq n) (es ++ (made + 1, s) ∷ []) ≡ cond (nat_eq (made + 1) n) (Some s) (lookup (nat_eq n) es)
lookup_added n last made s es rises = by (nat_eq (made + 1) n) refl
  where
    by : (b : Bool) → nat_eq (made + 1) n ≡ b
        → lookup (nat_eq n) (es ++ (made + 1, s) ∷ []) ≡ cond b (Some s) (lookup (nat_eq n) es)
    by true same =
        let at : made + 1 ≡ n = eqb-true (made + 1) n same in
        at_end n (made + 1) s es (eq-eqb n (made + 1) (sym at)) (number_is_new last made n es rises (omega (arith, at)))
    by false apart = before_end n (made + 1) s es (ne_eqb n (made + 1) (λ at. eqb-false (made + 1) n apart (sym at)))

pub lookup_removed : (s n last made : ℕ) (es : List (ℕ × SessionRecord)) → Rises last es made
    → lookup (nat_eq n) (remove_entry (nat_eq s) es) ≡ cond (nat_eq s n) None (lookup (nat_eq n) es)
lookup_removed s n last made [] rises = by (nat_eq s n)
  where
    by : (b : Bool) → ◌≡◌ {A = Option SessionRecord} None (cond b None None)
    by true = refl
    by false = refl
lookup_removed s n last made (e ∷ more) rises = by (nat_eq s e.0) refl (lookup_removed s n e.0 made more rises.1)
  where
    -- the first is the one that goes
    gone : s ≡ e.0 → (b : Bool) → nat_eq s n ≡ b
        → lookup (nat_eq n) more ≡ cond b None (cond (nat_eq n e.0) (Some e.1) (lookup (nat_eq n) more))
    gone own true same =
        let at : s ≡ n = eqb-true s n same in
        lookup_below n e.0 made more rises.1 (omega (arith, own, at))
    gone own false apart =
        let other : nat_eq n e.0 ≡ false =
        ne_eqb n e.0 (λ at. eqb-false s n apart (own ∙ sym at)) in
        sym (ap (λ b. cond b (Some e.1) (lookup (nat_eq n) more)) other)

    stays : nat_eq s e.0 ≡ false → lookup (nat_eq n) (remove_entry (nat_eq s) more) ≡ cond (nat_eq s n) None (lookup (nat_eq n) more)
        → (b : Bool) → nat_eq n e.0 ≡ b
        → cond b (Some e.1) (lookup (nat_eq n) (remove_entry (nat_eq s) more))
        ≡ cond (nat_eq s n) None (cond b (Some e.1) (lookup (nat_eq n) more))
    stays other after true own =
        let apart : nat_eq s n ≡ false = ne_eqb s n (λ at. eqb-false s e.0 other (at ∙ eqb-true n e.0 own)) in
        sym (ap (λ b. cond b None (Some e.1)) apart)
    stays other after false away = after

    by : (b : Bool) → nat_eq s e.0 ≡ b
        → lookup (nat_eq n) (remove_entry (nat_eq s) more) ≡ cond (nat_eq s n) None (lookup (nat_eq n) more)
        → lookup (nat_eq n) (cond b more (e ∷ remove_entry (nat_eq s) more))
        ≡ cond (nat_eq s n) None (lookup (nat_eq n) (e ∷ more))
    by true own after = gone (eqb-true s e.0 own) (nat_eq s n) refl
    by false other after = stays other after (nat_eq n e.0) refl

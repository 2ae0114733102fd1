-- A contact in the place of the one of its address, or last.
use Rattle.std.proofs.Common.{◌≡◌, ℕ, suc, ◌+◌, ◌-◌, ◌≤◌, List, [], ◌∷◌, ◌++◌, set, Bool, true, false, ◌||◌, cond, Some, None, refl, sym, ap, ◌∙◌, arith}
use Rattle.std.proofs.lemmas.Iterator.Adapters.{position_from-zero}
use Rattle.std.specs.List.{list_any, position, position_from}
use Rattle.jid_core.specs.Addresses.{Address, same_address}
use Rattle.stanza_model.specs.declared.shared.Contact.{Contact}
use Rattle.contact_table.specs.Marks.{set_listed, with_listed}

abbrev pub is_at : Address → Contact → Bool
is_at address d = same_address d.address address

first_set : (c : Contact) (n i : ℕ) (cs : List Contact) → position_from (is_at c.address) n cs ≡ Some i
    → (n ≤ i) × (list_any (is_at c.address) cs ≡ true) × (set cs (i - n) c ≡ set_listed c cs)
first_set c n i [] found = cc
first_set c n i (d ∷ cs) found = by (is_at c.address d) found (first_set c (n + 1) i cs)
  where
    by : (b : Bool) → cond b (Some n) (position_from (is_at c.address) (n + 1) cs) ≡ Some i
        → (position_from (is_at c.address) (n + 1) cs ≡ Some i
        → (n + 1 ≤ i) × (list_any (is_at c.address) cs ≡ true) × (set cs (i - (n + 1)) c ≡ set_listed c cs))
        → (n ≤ i) × ((b || list_any (is_at c.address) cs) ≡ true) × (set (d ∷ cs) (i - n) c ≡ cond b (c ∷ cs) (d ∷ set_listed c cs))
    by true found after =
        let same : n ≡ i = cc in
        let none : i - n ≡ 0 = omega (arith, same) in
        (omega (arith, same), refl, ap (λ (k : ℕ). set (d ∷ cs) k c) none)
    by false found after =
        let rest = after found in
        let one : i - n ≡ suc (i - (n + 1)) = omega (arith, rest.0) in
        (omega (arith, rest.0), rest.1, ap (λ (k : ℕ). set (d ∷ cs) k c) one ∙ ap (λ ds. d ∷ ds) rest.2)

pub listed_set : (c : Contact) (i : ℕ) (cs : List Contact) → position (is_at c.address) cs ≡ Some i → set cs i c ≡ with_listed c cs
listed_set c i cs found =
    let is = first_set c 0 i cs (sym (position_from-zero (is_at c.address) cs) ∙ found) in
    let whole : i ≡ i - 0 = omega arith in
    ap (λ (k : ℕ). set cs k c) whole ∙ is.2 ∙ sym (ap (λ b. cond b (set_listed c cs) (cs ++ c ∷ [])) is.1)

missing : (address : Address) (n : ℕ) (cs : List Contact) → position_from (is_at address) n cs ≡ None → list_any (is_at address) cs ≡ false
missing address n [] none = refl
missing address n (d ∷ cs) none = by (is_at address d) none (missing address (n + 1) cs)
  where
    by : (b : Bool) → cond b (Some n) (position_from (is_at address) (n + 1) cs) ≡ None
        → (position_from (is_at address) (n + 1) cs ≡ None → list_any (is_at address) cs ≡ false)
        → (b || list_any (is_at address) cs) ≡ false
    by true none after = cc
    by false none after = after none

pub listed_last : (c : Contact) (cs : List Contact) → position (is_at c.address) cs ≡ None → cs ++ c ∷ [] ≡ with_listed c cs
listed_last c cs none =
    sym (ap (λ b. cond b (set_listed c cs) (cs ++ c ∷ []))
    (missing c.address 0 cs (sym (position_from-zero (is_at c.address) cs) ∙ none)))

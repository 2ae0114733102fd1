-- The first session that passes a test has the least number of those that do.
use Rattle.std.proofs.Common.{◌≡◌, ℕ, ◌<◌, ◌≤◌, nat_eq, Bool, true, false, cond, List, [], ◌∷◌, Option}
use Rattle.std.proofs.Common.{Some, None, IfSome, IsSomeAnd, arith, refl, sym, ap, ◌∙◌}
use Rattle.std.proofs.lemmas.Bool.{and_from, eq-eqb, eqb-true, ne_eqb}
use Rattle.std.proofs.lemmas.Option.{same_Some}
use Rattle.std.specs.Map.{lookup}
use Rattle.std.specs.Cmp.Lexicographic.{bytes_decides}
use Rattle.std.specs.Str.{bytes_eq}
use Rattle.jid_core.specs.Addresses.{Address, same_address, same_bare, same_part}
use Rattle.jid_core.proofs.AddressLemmas.{same_address-equal}
use Rattle.session_table.specs.Sessions.{SessionRecord, is_due}
use Rattle.session_table.specs.Tables.{IsFirst, IsThereWith, Rises, TableRecord, first_due, first_that, number_at}

-- it is there, and passes; its number is above those before
first_passes : (test : SessionRecord → Bool) (n last made : ℕ) (es : List (ℕ × SessionRecord)) → Rises last es made
    → first_that test es ≡ Some n → (last < n) × IsSomeAnd (lookup (nat_eq n) es) (λ x. test x ≡ true)
first_passes test n last made [] rises first = cc
first_passes test n last made (e ∷ more) rises first = by (test e.1) refl first (first_passes test n e.0 made more rises.1)
  where
    by : (b : Bool) → test e.1 ≡ b → cond b (Some e.0) (first_that test more) ≡ Some n
        → (first_that test more ≡ Some n → (e.0 < n) × IsSomeAnd (lookup (nat_eq n) more) (λ x. test x ≡ true))
        → (last < n) × IsSomeAnd (lookup (nat_eq n) (e ∷ more)) (λ x. test x ≡ true)
    by true passes first after =
        let number : e.0 ≡ n = same_Some e.0 n first in
        let own : nat_eq n e.0 ≡ true = eq-eqb n e.0 (sym number) in
        (omega (arith, rises.0, number), rw own passes)
    by false fails first after =
        let rest = after first in
        let other : nat_eq n e.0 ≡ false = ne_eqb n e.0 (λ same. omega (arith, rest.0, same)) in
        (omega (arith, rises.0, rest.0), rw other rest.1)

-- none that passes has a lower number
first_least : (test : SessionRecord → Bool) (s last made : ℕ) (es : List (ℕ × SessionRecord)) → Rises last es made
    → IsSomeAnd (lookup (nat_eq s) es) (λ x. test x ≡ true) → (last < s) × IsSomeAnd (first_that test es) (λ n. n ≤ s)
first_least test s last made [] rises there = absurd there
first_least test s last made (e ∷ more) rises there =
    by (nat_eq s e.0) refl there (first_least test s e.0 made more rises.1)
  where
    later : (b : Bool) → (e.0 < s) × IsSomeAnd (first_that test more) (λ n. n ≤ s)
        → IsSomeAnd (cond b (Some e.0) (first_that test more)) (λ n. n ≤ s)
    later true rest = omega (arith, rest.0)
    later false rest = rest.1

    by : (b : Bool) → nat_eq s e.0 ≡ b → IsSomeAnd (cond b (Some e.1) (lookup (nat_eq s) more)) (λ x. test x ≡ true)
        → (IsSomeAnd (lookup (nat_eq s) more) (λ x. test x ≡ true)
        → (e.0 < s) × IsSomeAnd (first_that test more) (λ n. n ≤ s))
        → (last < s) × IsSomeAnd (first_that test (e ∷ more)) (λ n. n ≤ s)
    by true own passes after =
        let number : s ≡ e.0 = eqb-true s e.0 own in
        let low : e.0 ≤ s = omega (arith, number) in
        (omega (arith, rises.0, number), rw passes low)
    by false other there after =
        let rest = after there in
        (omega (arith, rises.0, rest.0), later (test e.1) rest)

and_carry : {X : Type 0} {P Q : X → Type 0} (o : Option X) → ((x : X) → P x → Q x) → IsSomeAnd o P → IsSomeAnd o Q
and_carry None carry holds = holds
and_carry (Some x) carry holds = carry x holds

pub first_is : (P : SessionRecord → Type 0) (test : SessionRecord → Bool) → ((x : SessionRecord) → P x → test x ≡ true)
    → ((x : SessionRecord) → test x ≡ true → P x) → (t : TableRecord) → Rises 0 t.sessions t.made
    → IsFirst P t (first_that test t.sessions)
first_is P test to from t rises = record {
  found = by (first_that test t.sessions) refl;
  least = λ s there. (first_least test s 0 t.made t.sessions rises (and_carry (lookup (nat_eq s) t.sessions) to there)).1;
}
  where
    by : (o : Option ℕ) → first_that test t.sessions ≡ o → IfSome o (λ s. IsThereWith s P t)
    by None none = tt
    by (Some n) first =
        and_carry (lookup (nat_eq n) t.sessions) from (first_passes test n 0 t.made t.sessions rises first).1

same_bytes : (xs : List ℕ) → bytes_eq xs xs ≡ true
same_bytes xs = (bytes_decides xs xs).1 refl

pub same_part_itself : (p : Option (List ℕ)) → same_part p p ≡ true
same_part_itself None = refl
same_part_itself (Some bytes) = same_bytes bytes

pub same_address_itself : (a : Address) → same_address a a ≡ true
same_address_itself a =
    and_from (same_bare a a) (same_part a.resource a.resource)
    (and_from (same_part a.local a.local) (bytes_eq a.domain a.domain) (same_part_itself a.local) (same_bytes a.domain))
    (same_part_itself a.resource)

pub first_at_address : (a : Address) (t : TableRecord) → Rises 0 t.sessions t.made
    → IsFirst (λ x. x.address ≡ a) t (number_at a t.sessions)
first_at_address a t rises =
    first_is (λ x. x.address ≡ a) (λ x. same_address x.address a)
    (λ x at. ap (λ (b : Address). same_address b a) at ∙ same_address_itself a)
    (λ x same. same_address-equal x.address a same) t rises

pub first_that_is_due : (now : ℕ) (t : TableRecord) → Rises 0 t.sessions t.made
    → IsFirst (λ x. is_due now x ≡ true) t (first_due now t.sessions)
first_that_is_due now t rises =
    first_is (λ x. is_due now x ≡ true) (is_due now) (λ x due. due) (λ x due. due) t rises

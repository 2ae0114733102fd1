-- What stands at a place, and what the list is after the slot there has changed.
use Rattle.std.proofs.Common.{◌≡◌, ℕ, zero, suc, ◌+◌, ◌<◌, ◌≤◌, nat_eq, nat_le, is_some, Bool, true, false, cond}
use Rattle.std.proofs.Common.{[], ◌∷◌, ◌++◌, filter, length, get_or, position, slice_get, Option, Some, None, arith, refl, sym, ap, subst, ◌∙◌}
use Rattle.std.proofs.lemmas.Bool.{eq-eqb, eqb-false, eqb-true, le-leb, lt-leb, ne_eqb, true≢false}
use Rattle.std.proofs.lemmas.Option.{none-some as none_some, same_Some}
use Rattle.std.proofs.lemmas.List.Quantifiers.{position-Some}
use Rattle.std.specs.Map.{keys_of, lookup, values_of}
use Rattle.std.specs.Option.{option_eq, option_map}
use Rattle.indexmap.specs.IndexMap.{set_value_at}
use Rattle.hash_keys.specs.declared.key.HashKey.{HashKey}
use Rattle.jid_core.specs.Addresses.{Address}
use Rattle.session_table.specs.declared.session.Change.{Change}
use Rattle.session_table.specs.declared.session.Change.TheVariants.{Held, Left, Ended}
use Rattle.session_table.specs.Changes.{change_of}
use Rattle.session_table.specs.Hashes.{user_hash}
use Rattle.session_table.specs.declared.slots.Slot.{Slot}
use Rattle.session_table.specs.Indexes.{AreRelinked, Climbs, IsAt, IsPlaceOf, Slots, from, from_number, has_hash, is_filled}
use Rattle.session_table.specs.Sessions.{SessionRecord}

-- the slot is the value there
pub value_at : (p n : ℕ) (o : Slot) (es : Slots) → IsAt p n o es → slice_get (values_of es) p ≡ Some o
value_at p n o [] at = absurd at
value_at zero n o (e ∷ more) at = ap Some at.1
value_at (suc p) n o (e ∷ more) at = value_at p n o more at

stands : (n p : ℕ) (es : Slots) → p < length (keys_of es) → nat_eq n (get_or (keys_of es) p 0) ≡ true → (o : Slot) × IsAt p n o es
stands n p [] low same = absurd (omega (arith, low))
stands n zero (e ∷ more) low same = (e.1, (sym (eqb-true n e.0 same), refl))
stands n (suc p) (e ∷ more) low same = stands n p more (omega (arith, low)) same

-- where a number is found
pub place_of : (n : ℕ) (es : Slots) (r : Option ℕ) → r ≡ position (nat_eq n) (keys_of es) → is_some r ≡ is_some (lookup (nat_eq n) es)
    → IsPlaceOf n es r
place_of n es None is found = by (lookup (nat_eq n) es) found
  where
    by : (o : Option Slot) → false ≡ is_some o → o ≡ None
    by None none = refl
    by (Some o) none = cc
place_of n es (Some p) is found =
    let at = position-Some (nat_eq n) (keys_of es) p 0 (sym is) in
    stands n p es at.0 at.1

pub below_made : (last made : ℕ) (es : Slots) → Climbs last es made → last ≤ made
below_made last made [] climbs = climbs
below_made last made (e ∷ more) climbs = omega (arith, climbs.0, below_made e.0 made more climbs.1)

-- a number that stands somewhere is above those before, and not above the last
pub number_at_place : (p n : ℕ) (o : Slot) (last made : ℕ) (es : Slots) → Climbs last es made → IsAt p n o es → (last < n) × (n ≤ made)
number_at_place p n o last made [] climbs at = absurd at
number_at_place zero n o last made (e ∷ more) climbs at =
    (omega (arith, climbs.0, at.0), omega (arith, at.0, below_made e.0 made more climbs.1))
number_at_place (suc p) n o last made (e ∷ more) climbs at =
    let after = number_at_place p n o e.0 made more climbs.1 at in
    (omega (arith, climbs.0, after.0), after.1)

-- it stands there alone
pub lookup_at : (p n : ℕ) (o : Slot) (last made : ℕ) (es : Slots) → Climbs last es made → IsAt p n o es → lookup (nat_eq n) es ≡ Some o
lookup_at p n o last made [] climbs at = absurd at
lookup_at zero n o last made (e ∷ more) climbs at =
    let own : nat_eq n e.0 ≡ true = eq-eqb n e.0 (sym at.0) in
    ap (λ b. cond b (Some e.1) (lookup (nat_eq n) more)) own ∙ ap Some at.1
lookup_at (suc p) n o last made (e ∷ more) climbs at =
    let high : e.0 < n = (number_at_place p n o e.0 made more climbs.1 at).0 in
    let other : nat_eq n e.0 ≡ false = ne_eqb n e.0 (λ same. omega (arith, high, same)) in
    ap (λ b. cond b (Some e.1) (lookup (nat_eq n) more)) other ∙ lookup_at p n o e.0 made more climbs.1 at

-- another slot there
pub climbs_set : (p : ℕ) (w : Slot) (last made : ℕ) (es : Slots) → Climbs last es made → Climbs last (set_value_at es p w) made
climbs_set p w last made [] climbs = climbs
climbs_set zero w last made (e ∷ more) climbs = climbs
climbs_set (suc p) w last made (e ∷ more) climbs = (climbs.0, climbs_set p w e.0 made more climbs.1)

pub lookup_new : (n last made : ℕ) (es : Slots) → Climbs last es made → made < n → lookup (nat_eq n) es ≡ None
lookup_new n last made [] climbs new = refl
lookup_new n last made (e ∷ more) climbs new =
    let below = below_made e.0 made more climbs.1 in
    let other : nat_eq n e.0 ≡ false = ne_eqb n e.0 (λ same. omega (arith, below, new, same)) in
    ap (λ b. cond b (Some e.1) (lookup (nat_eq n) more)) other ∙ lookup_new n e.0 made more climbs.1 new

-- what the owner changes, and what the table does, leaves the hash
pub hash_changed : (key : HashKey) (f : SessionRecord → SessionRecord) → ((x : SessionRecord) → (f x).address ≡ x.address) → (h : ℕ)
    → (s : Option SessionRecord) → has_hash key h (option_map f s) ≡ has_hash key h s
hash_changed key f stays h None = refl
hash_changed key f stays h (Some s) = ap (λ (a : Address). nat_eq h (user_hash key a.local)) (stays s)

pub address_stays : (change : Change) (x : SessionRecord) → (change_of change x).address ≡ x.address
address_stays (Held w) x = refl
address_stays (Left deadline) x = refl
address_stays (Ended cause) x = refl

pub climbs_added : (n : ℕ) (o : Slot) (last made : ℕ) (es : Slots) → Climbs last es made → made < n → Climbs last (es ++ (n, o) ∷ []) n
climbs_added n o last made [] climbs new = (omega (arith, climbs, new), omega arith)
climbs_added n o last made (e ∷ more) climbs new = (climbs.0, climbs_added n o e.0 made more climbs.1 new)

-- an entry that a number was found at
pub entry_at : (p n : ℕ) (o : Slot) (es : Slots) → IsAt p n o es → slice_get es p ≡ Some (n, o)
entry_at p n o [] at = absurd at
entry_at zero n o (e ∷ more) at = λ i. Some (at.0 i, at.1 i)
entry_at (suc p) n o (e ∷ more) at = entry_at p n o more at

pub visited : (n p k : ℕ) (o : Slot) (es : Slots) → slice_get es p ≡ Some (k, o) → Some p ≡ position (nat_eq n) (keys_of es) → IsAt p n o es
visited n p k o es there is =
    let at = position-Some (nat_eq n) (keys_of es) p 0 (sym is) in
    let stood = stands n p es at.0 at.1 in
    subst (λ (x : Slot). IsAt p n x es)
    (ap (λ (x : ℕ × Slot). x.1) (same_Some (n, stood.0) (k, o) (sym (entry_at p n stood.0 es stood.1) ∙ there))) stood.1

-- fewer places are left from a later number on
from_short : (k : ℕ) (es : Slots) → length (from_number k es) ≤ length es
from_short k [] = omega arith
from_short k (e ∷ more) = by (nat_le k e.0) (from_short k more)
  where
    by : (b : Bool) → length (from_number k more) ≤ length more → length (cond b (e ∷ more) (from_number k more)) ≤ suc (length more)
    by true less = omega arith
    by false less = omega (arith, less)

from_less : (p n k : ℕ) (o : Slot) (last made : ℕ) (es : Slots) → Climbs last es made → IsAt p n o es → n < k
    → length (from_number k es) < length (from_number n es)
from_less p n k o last made [] climbs at low = absurd at
from_less zero n k o last made (e ∷ more) climbs at low =
    let here : nat_le n e.0 ≡ true = le-leb n e.0 (omega (arith, at.0)) in
    let past : nat_le k e.0 ≡ false = lt-leb k e.0 (omega (arith, at.0, low)) in
    let all = ap (λ b. length (cond b (e ∷ more) (from_number n more))) here in
    let rest = ap (λ b. length (cond b (e ∷ more) (from_number k more))) past in
    omega (arith, all, rest, from_short k more)
from_less (suc p) n k o last made (e ∷ more) climbs at low =
    let high : e.0 < n = (number_at_place p n o e.0 made more climbs.1 at).0 in
    let here : nat_le n e.0 ≡ false = lt-leb n e.0 high in
    let past : nat_le k e.0 ≡ false = lt-leb k e.0 (omega (arith, high, low)) in
    let all = ap (λ b. length (cond b (e ∷ more) (from_number n more))) here in
    let rest = ap (λ b. length (cond b (e ∷ more) (from_number k more))) past in
    omega (arith, all, rest, from_less p n k o e.0 made more climbs.1 at low)

from_some : (p n : ℕ) (o : Slot) (last made : ℕ) (es : Slots) → Climbs last es made → IsAt p n o es → 0 < length (from_number n es)
from_some p n o last made [] climbs at = absurd at
from_some zero n o last made (e ∷ more) climbs at =
    let here : nat_le n e.0 ≡ true = le-leb n e.0 (omega (arith, at.0)) in
    let all = ap (λ b. length (cond b (e ∷ more) (from_number n more))) here in
    omega (arith, all)
from_some (suc p) n o last made (e ∷ more) climbs at =
    let high : e.0 < n = (number_at_place p n o e.0 made more climbs.1 at).0 in
    let here : nat_le n e.0 ≡ false = lt-leb n e.0 high in
    let all = ap (λ b. length (cond b (e ∷ more) (from_number n more))) here in
    omega (arith, all, from_some p n o e.0 made more climbs.1 at)

pub left_less : (p n : ℕ) (o : Slot) (last made : ℕ) (es : Slots) → Climbs last es made → IsAt p n o es → (next : Option ℕ)
    → ((k : ℕ) → next ≡ Some k → n < k) → length (from next es) < length (from_number n es)
left_less p n o last made es climbs at None high = from_some p n o last made es climbs at
left_less p n o last made es climbs at (Some k) high = from_less p n k o last made es climbs at (high k refl)

pub same_next : (a b : Option ℕ) → option_eq nat_eq a b ≡ true → a ≡ b
same_next None None same = refl
same_next None (Some y) same = absurd (true≢false (sym same))
same_next (Some x) None same = absurd (true≢false (sym same))
same_next (Some x) (Some y) same = ap Some (eqb-true x y same)

pub other_next : (a b : Option ℕ) → option_eq nat_eq a b ≡ false → a ≡ b → ⊥
other_next None b other same = by b (sym same) other
  where
    by : (b : Option ℕ) → b ≡ None → option_eq nat_eq None b ≡ false → ⊥
    by None is other = true≢false other
    by (Some y) is other = none_some y (sym is)
other_next (Some x) b other same = by b (sym same) other
  where
    by : (b : Option ℕ) → b ≡ Some x → option_eq nat_eq (Some x) b ≡ false → ⊥
    by None is other = none_some x is
    by (Some y) is other = eqb-false x y other (sym (same_Some y x is))

-- slots that lead elsewhere
pub relinked_none : (es : Slots) → AreRelinked es es
relinked_none [] = tt
relinked_none (e ∷ more) = (refl, refl, relinked_none more)

pub relinked_set : (p n : ℕ) (o w : Slot) (es : Slots) → w.session ≡ o.session → IsAt p n o es → AreRelinked es (set_value_at es p w)
relinked_set p n o w [] same at = absurd at
relinked_set zero n o w (e ∷ more) same at = (refl, same ∙ ap (λ (x : Slot). x.session) (sym at.1), relinked_none more)
relinked_set (suc p) n o w (e ∷ more) same at = (refl, refl, relinked_set p n o w more same at)

pub climbs_relinked : (last made : ℕ) (es fs : Slots) → AreRelinked es fs → Climbs last es made → Climbs last fs made
climbs_relinked last made [] [] re climbs = climbs
climbs_relinked last made [] (f ∷ rest) re climbs = absurd re
climbs_relinked last made (e ∷ more) [] re climbs = absurd re
climbs_relinked last made (e ∷ more) (f ∷ rest) re climbs =
    (omega (arith, climbs.0, re.0), climbs_relinked f.0 made more rest re.2 (subst (λ n. Climbs n more made) (sym re.0) climbs.1))

pub length_relinked : (es fs : Slots) → AreRelinked es fs → length fs ≡ length es
length_relinked [] [] re = refl
length_relinked [] (f ∷ rest) re = absurd re
length_relinked (e ∷ more) [] re = absurd re
length_relinked (e ∷ more) (f ∷ rest) re = ap suc (length_relinked more rest re.2)

-- a number has one slot
pub one_slot : (p q n : ℕ) (o z : Slot) (made : ℕ) (es : Slots) → Climbs 0 es made → IsAt p n o es → IsAt q n z es → o ≡ z
one_slot p q n o z made es climbs at there =
    same_Some o z (sym (lookup_at p n o 0 made es climbs at) ∙ lookup_at q n z 0 made es climbs there)

pub visited_number : (n p k : ℕ) (o : Slot) (es : Slots) → slice_get es p ≡ Some (k, o) → Some p ≡ position (nat_eq n) (keys_of es) → k ≡ n
visited_number n p k o es there is =
    let at = position-Some (nat_eq n) (keys_of es) p 0 (sym is) in
    let stood = stands n p es at.0 at.1 in
    ap (λ (x : ℕ × Slot). x.0) (same_Some (k, o) (n, stood.0) (sym there ∙ entry_at p n stood.0 es stood.1))

climbs_after : (last lower made : ℕ) (es : Slots) → Climbs last es made → lower ≤ last → Climbs lower es made
climbs_after last lower made [] climbs low = omega (arith, climbs, low)
climbs_after last lower made (e ∷ more) climbs low = (omega (arith, climbs.0, low), climbs.1)

pub climbs_filled : (last made : ℕ) (es : Slots) → Climbs last es made → Climbs last (filter is_filled es) made
climbs_filled last made [] climbs = climbs
climbs_filled last made (e ∷ more) climbs = by (is_some e.1.session) (climbs_filled e.0 made more climbs.1)
  where
    by : (b : Bool) → Climbs e.0 (filter is_filled more) made → Climbs last (cond b (e ∷ filter is_filled more) (filter is_filled more)) made
    by true after = (climbs.0, after)
    by false after = climbs_after e.0 last made (filter is_filled more) after (omega (arith, climbs.0))

-- the same slot once more
pub set_again : (p n : ℕ) (o : Slot) (es : Slots) → IsAt p n o es → set_value_at es p o ≡ es
set_again p n o [] at = absurd at
set_again zero n o (e ∷ more) at = λ i. (e.0, sym at.1 i) ∷ more
set_again (suc p) n o (e ∷ more) at = ap (λ l. e ∷ l) (set_again p n o more at)

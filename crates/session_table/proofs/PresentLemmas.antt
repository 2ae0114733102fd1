-- The sessions that are there, as slots change, come and go.
use Rattle.std.proofs.Common.{length, ◌+◌, ◌≤◌, ◌≡◌, ℕ, zero, suc, ◌<◌, nat_eq, is_some, Bool, true, false, cond, List, [], ◌∷◌, ◌++◌, filter, Option, Some, None, arith, refl}
use Rattle.std.proofs.Common.{sym, ap, ◌∙◌}
use Rattle.std.proofs.lemmas.Bool.{eq-eqb, eqb-true, ne_eqb}
use Rattle.std.specs.Map.{lookup, remove_entry}
use Rattle.std.specs.Option.{option_map}
use Rattle.indexmap.specs.IndexMap.{set_value_at}
use Rattle.session_table.specs.declared.slots.Slot.{Slot}
use Rattle.session_table.specs.Indexes.{AreRelinked, Climbs, IsAt, Slots, before, emptied, is_filled, present, session_in, with_change}
use Rattle.session_table.specs.Sessions.{SessionRecord}
use Rattle.session_table.specs.Tables.{Rises, changed_in}
use Rattle.session_table.proofs.ListLemmas.{changed_absent, changed_past, rises_after}
use Rattle.session_table.proofs.NumberLemmas.{lookup_below}
use Rattle.session_table.proofs.PlaceLemmas.{number_at_place}

pub present_linked : (p n : ℕ) (o w : Slot) (es : Slots) → w.session ≡ o.session → IsAt p n o es
    → present (set_value_at es p w) ≡ present es
present_linked p n o w [] same at = absurd at
present_linked zero n o w (e ∷ more) same at =
    ap (λ s. before e.0 s (present more)) (same ∙ ap (λ (x : Slot). x.session) (sym at.1))
present_linked (suc p) n o w (e ∷ more) same at = ap (before e.0 e.1.session) (present_linked p n o w more same at)

-- the numbers of the sessions rise
pub rises_present : (last made : ℕ) (es : Slots) → Climbs last es made → Rises last (present es) made
rises_present last made [] climbs = climbs
rises_present last made (e ∷ more) climbs = by e.1.session (rises_present e.0 made more climbs.1)
  where
    by : (s : Option SessionRecord) → Rises e.0 (present more) made → Rises last (before e.0 s (present more)) made
    by None rises = rises_after e.0 last made (present more) rises (omega (arith, climbs.0))
    by (Some s) rises = (climbs.0, rises)

pub lookup_present : (n last made : ℕ) (es : Slots) → Climbs last es made
    → lookup (nat_eq n) (present es) ≡ session_in (lookup (nat_eq n) es)
lookup_present n last made [] climbs = refl
lookup_present n last made (e ∷ more) climbs = by (nat_eq n e.0) refl e.1.session refl (lookup_present n e.0 made more climbs.1)
  where
    by : (b : Bool) → nat_eq n e.0 ≡ b → (s : Option SessionRecord) → e.1.session ≡ s
        → lookup (nat_eq n) (present more) ≡ session_in (lookup (nat_eq n) more)
        → lookup (nat_eq n) (before e.0 s (present more)) ≡ session_in (cond b (Some e.1) (lookup (nat_eq n) more))
    by true own None none after =
        lookup_below n e.0 made (present more) (rises_present e.0 made more climbs.1) (omega (arith, eqb-true n e.0 own)) ∙ sym none
    by true own (Some s) there after = ap (λ b. cond b (Some s) (lookup (nat_eq n) (present more))) own ∙ sym there
    by false other None none after = after
    by false other (Some s) there after = ap (λ b. cond b (Some s) (lookup (nat_eq n) (present more))) other ∙ after

-- the session there has changed
pub present_changed : (p n : ℕ) (o : Slot) (f : SessionRecord → SessionRecord) (last made : ℕ) (es : Slots) → Climbs last es made
    → IsAt p n o es → present (set_value_at es p (with_change f o)) ≡ changed_in n f (present es)
present_changed p n o f last made [] climbs at = absurd at
present_changed zero n o f last made (e ∷ more) climbs at =
    ap (λ (x : Slot). before e.0 (option_map f x.session) (present more)) (sym at.1) ∙ by e.1.session
  where
    past : present more ≡ changed_in n f (present more)
    past = sym (changed_past n e.0 made f (present more) (rises_present e.0 made more climbs.1) (omega (arith, at.0)))

    own : nat_eq n e.0 ≡ true
    own = eq-eqb n e.0 (sym at.0)

    by : (s : Option SessionRecord) → before e.0 (option_map f s) (present more) ≡ changed_in n f (before e.0 s (present more))
    by None = past
    by (Some s) = (λ i. (e.0, cond (sym own i) (f s) s) ∷ past i)
present_changed (suc p) n o f last made (e ∷ more) climbs at =
    by e.1.session (present_changed p n o f e.0 made more climbs.1 at)
  where
    other : nat_eq n e.0 ≡ false
    other =
        let high : e.0 < n = (number_at_place p n o e.0 made more climbs.1 at).0 in
        ne_eqb n e.0 (λ same. omega (arith, high, same))

    by : (s : Option SessionRecord) → present (set_value_at more p (with_change f o)) ≡ changed_in n f (present more)
        → before e.0 s (present (set_value_at more p (with_change f o))) ≡ changed_in n f (before e.0 s (present more))
    by None after = after
    by (Some s) after = (λ i. (e.0, cond (sym other i) (f s) s) ∷ after i)

pub removed_absent : (s : ℕ) (es : List (ℕ × SessionRecord)) → lookup (nat_eq s) es ≡ None → remove_entry (nat_eq s) es ≡ es
removed_absent s [] none = refl
removed_absent s (e ∷ more) none = by (nat_eq s e.0) none (removed_absent s more)
  where
    by : (b : Bool) → cond b (Some e.1) (lookup (nat_eq s) more) ≡ None
        → (lookup (nat_eq s) more ≡ None → remove_entry (nat_eq s) more ≡ more)
        → cond b more (e ∷ remove_entry (nat_eq s) more) ≡ e ∷ more
    by true none after = cc
    by false none after = ap (λ r. e ∷ r) (after none)

-- the session there was taken away
pub present_without : (p n : ℕ) (o : Slot) (last made : ℕ) (es : Slots) → Climbs last es made
    → IsAt p n o es → present (set_value_at es p (emptied o)) ≡ remove_entry (nat_eq n) (present es)
present_without p n o last made [] climbs at = absurd at
present_without zero n o last made (e ∷ more) climbs at = by e.1.session
  where
    own : nat_eq n e.0 ≡ true
    own = eq-eqb n e.0 (sym at.0)

    none : lookup (nat_eq n) (present more) ≡ None
    none = lookup_below n e.0 made (present more) (rises_present e.0 made more climbs.1) (omega (arith, at.0))

    by : (s : Option SessionRecord) → present more ≡ remove_entry (nat_eq n) (before e.0 s (present more))
    by None = sym (removed_absent n (present more) none)
    by (Some s) = ap (λ b. cond b (present more) ((e.0, s) ∷ remove_entry (nat_eq n) (present more))) (sym own)
present_without (suc p) n o last made (e ∷ more) climbs at =
    by e.1.session (present_without p n o e.0 made more climbs.1 at)
  where
    other : nat_eq n e.0 ≡ false
    other =
        let high : e.0 < n = (number_at_place p n o e.0 made more climbs.1 at).0 in
        ne_eqb n e.0 (λ same. omega (arith, high, same))

    by : (s : Option SessionRecord) → present (set_value_at more p (emptied o)) ≡ remove_entry (nat_eq n) (present more)
        → before e.0 s (present (set_value_at more p (emptied o))) ≡ remove_entry (nat_eq n) (before e.0 s (present more))
    by None after = after
    by (Some s) after =
        ap (λ l. (e.0, s) ∷ l) after
        ∙ ap (λ b. cond b (present more) ((e.0, s) ∷ remove_entry (nat_eq n) (present more))) (sym other)

-- one more at the end
pub present_added : (n : ℕ) (o : Slot) (es : Slots) → present (es ++ (n, o) ∷ []) ≡ present es ++ before n o.session []
present_added n o [] = refl
present_added n o (e ∷ more) = by e.1.session (present_added n o more)
  where
    by : (s : Option SessionRecord) → present (more ++ (n, o) ∷ []) ≡ present more ++ before n o.session []
        → before e.0 s (present (more ++ (n, o) ∷ [])) ≡ before e.0 s (present more) ++ before n o.session []
    by None after = after
    by (Some s) after = ap (λ l. (e.0, s) ∷ l) after

pub present_relinked : (es fs : Slots) → AreRelinked es fs → present fs ≡ present es
present_relinked [] [] re = refl
present_relinked [] (f ∷ rest) re = absurd re
present_relinked (e ∷ more) [] re = absurd re
present_relinked (e ∷ more) (f ∷ rest) re =
    let after = present_relinked more rest re.2 in
    λ i. before (re.0 i) (re.1 i) (after i)

-- the empty places are taken away
pub present_filled : (es : Slots) → present (filter is_filled es) ≡ present es
present_filled [] = refl
present_filled (e ∷ more) = by e.1.session refl (present_filled more)
  where
    by : (s : Option SessionRecord) → e.1.session ≡ s → present (filter is_filled more) ≡ present more
        → present (cond (is_some s) (e ∷ filter is_filled more) (filter is_filled more)) ≡ before e.0 s (present more)
    by None none after = after
    by (Some s) there after = λ i. before e.0 (there i) (after i)

pub changed_nowhere : (n last made : ℕ) (f : SessionRecord → SessionRecord) (es : Slots) → Climbs last es made
    → lookup (nat_eq n) es ≡ None → changed_in n f (present es) ≡ present es
changed_nowhere n last made f es climbs none =
    changed_absent n f (present es) (lookup_present n last made es climbs ∙ ap session_in none)

pub removed_nowhere : (n last made : ℕ) (es : Slots) → Climbs last es made → session_in (lookup (nat_eq n) es) ≡ None
    → remove_entry (nat_eq n) (present es) ≡ present es
removed_nowhere n last made es climbs none =
    removed_absent n (present es) (lookup_present n last made es climbs ∙ none)

pub length_filled : (es : Slots) → length (filter is_filled es) ≡ length (present es)
length_filled [] = refl
length_filled (e ∷ more) = by e.1.session (length_filled more)
  where
    by : (s : Option SessionRecord) → length (filter is_filled more) ≡ length (present more)
        → length (cond (is_some s) (e ∷ filter is_filled more) (filter is_filled more)) ≡ length (before e.0 s (present more))
    by None after = after
    by (Some s) after = ap suc after

-- how many there are
pub few_present : (last made : ℕ) (es : Slots) → Climbs last es made → last + length (present es) ≤ made
few_present last made [] climbs = omega (arith, climbs)
few_present last made (e ∷ more) climbs = by e.1.session (few_present e.0 made more climbs.1)
  where
    by : (s : Option SessionRecord) → e.0 + length (present more) ≤ made → last + length (before e.0 s (present more)) ≤ made
    by None after = omega (arith, after, climbs.0)
    by (Some s) after = omega (arith, after, climbs.0)

pub length_changed : (n : ℕ) (f : SessionRecord → SessionRecord) (es : List (ℕ × SessionRecord)) → length (changed_in n f es) ≡ length es
length_changed n f [] = refl
length_changed n f (e ∷ more) = ap suc (length_changed n f more)

pub length_removed : (n : ℕ) (x : SessionRecord) (es : List (ℕ × SessionRecord)) → lookup (nat_eq n) es ≡ Some x
    → length (remove_entry (nat_eq n) es) + 1 ≡ length es
length_removed n x [] at = cc
length_removed n x (e ∷ more) at = by (nat_eq n e.0) at (length_removed n x more)
  where
    by : (b : Bool) → cond b (Some e.1) (lookup (nat_eq n) more) ≡ Some x
        → (lookup (nat_eq n) more ≡ Some x → length (remove_entry (nat_eq n) more) + 1 ≡ length more)
        → length (cond b more (e ∷ remove_entry (nat_eq n) more)) + 1 ≡ suc (length more)
    by true at after = omega arith
    by false at after = omega (arith, after at)

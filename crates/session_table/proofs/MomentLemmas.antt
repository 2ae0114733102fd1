-- The moments of the places, as slots change and come, and the first session that is due.
use Rattle.std.proofs.Common.{◌≡◌, ℕ, zero, suc, ◌<◌, ◌≤◌, nat_lt, Bool, true, false, cond, ◌⊎◌, inl, inr, List, [], ◌∷◌, ◌++◌, replicate, length, get_or}
use Rattle.std.proofs.Common.{set, position, Option, Some, None, arith, refl, sym, ap, ◌∙◌}
use Rattle.std.proofs.lemmas.Bool.{cases_lt, le-leb, ltb-false, true≢false}
use Rattle.std.proofs.lemmas.Option.{none-some as none_some}
use Rattle.std.proofs.lemmas.List.Quantifiers.{position-Some}
use Rattle.std.proofs.lemmas.List.Sums.{fails_before_first}
use Rattle.std.proofs.Math.ListN.{get_or-eq_default}
use Rattle.std.specs.List.{position_or_len}
use Rattle.std.specs.Option.{option_map}
use Rattle.indexmap.specs.IndexMap.{set_value_at}
use Rattle.session_table.specs.declared.life.Life.{Life}
use Rattle.session_table.specs.declared.life.Life.TheVariants.{Live, Over}
use Rattle.session_table.specs.declared.slots.Slot.{Slot}
use Rattle.session_table.specs.Indexes.{AreNone, AreRelinked, AreWakes, IsAt, Slots, before, present, wake_in}
use Rattle.session_table.specs.Sessions.{OwnRecord, SessionRecord, has_come, is_due, with_own}
use Rattle.session_table.specs.Tables.{first_due}
use Rattle.session_table.specs.Waking.{wake_of}

pub wakes_set : (p n : ℕ) (o w : Slot) (es : Slots) (ms : List (Option ℕ)) → AreWakes es ms → IsAt p n o es
    → AreWakes (set_value_at es p w) (set ms p (wake_in w.session))
wakes_set p n o w [] ms wakes at = absurd at
wakes_set p n o w (e ∷ more) [] wakes at = absurd wakes
wakes_set zero n o w (e ∷ more) (m ∷ ms) wakes at = (refl, wakes.1)
wakes_set (suc p) n o w (e ∷ more) (m ∷ ms) wakes at = (wakes.0, wakes_set p n o w more ms wakes.1 at)

-- a slot of the same moment
pub wakes_alike : (p n : ℕ) (o w : Slot) (es : Slots) (ms : List (Option ℕ)) → wake_in w.session ≡ wake_in o.session → AreWakes es ms
    → IsAt p n o es → AreWakes (set_value_at es p w) ms
wakes_alike p n o w [] ms same wakes at = absurd at
wakes_alike p n o w (e ∷ more) [] same wakes at = absurd wakes
wakes_alike zero n o w (e ∷ more) (m ∷ ms) same wakes at =
    (wakes.0 ∙ (ap (λ (x : Slot). wake_in x.session) at.1 ∙ sym same), wakes.1)
wakes_alike (suc p) n o w (e ∷ more) (m ∷ ms) same wakes at = (wakes.0, wakes_alike p n o w more ms same wakes.1 at)

-- a place that has a slot has a moment
pub place_within : (p n : ℕ) (o : Slot) (es : Slots) (ms : List (Option ℕ)) → AreWakes es ms → IsAt p n o es → p < length ms
place_within p n o [] ms wakes at = absurd at
place_within p n o (e ∷ more) [] wakes at = absurd wakes
place_within zero n o (e ∷ more) (m ∷ ms) wakes at = omega arith
place_within (suc p) n o (e ∷ more) (m ∷ ms) wakes at = omega (arith, place_within p n o more ms wakes.1 at)

pub wake_owned : (own : OwnRecord) (s : Option SessionRecord) → wake_in (option_map (with_own own) s) ≡ wake_in s
wake_owned own None = refl
wake_owned own (Some s) = refl

pub wakes_added : (n : ℕ) (o : Slot) (es : Slots) (ms : List (Option ℕ)) → AreWakes es ms → length es < length ms
    → wake_in o.session ≡ None → AreWakes (es ++ (n, o) ∷ []) ms
wakes_added n o [] [] wakes room never = absurd (omega (arith, room))
wakes_added n o [] (m ∷ ms) wakes room never = (wakes.0 ∙ sym never, wakes.1)
wakes_added n o (e ∷ more) [] wakes room never = absurd wakes
wakes_added n o (e ∷ more) (m ∷ ms) wakes room never = (wakes.0, wakes_added n o more ms wakes.1 (omega (arith, room)) never)

-- the first moment that has come is that of the first session that is due
due_from : (now : ℕ) (state : Life) (s : SessionRecord) → s.state ≡ state
    → is_due now s ≡ has_come now (wake_of s.state s.deadline)
due_from now Live s is = rw is refl
due_from now (Over cause) s is = rw is (sym (le-leb 0 now (omega arith)))

none_there : (p : ℕ) (ms : List (Option ℕ)) → AreNone ms → get_or ms p None ≡ None
none_there p [] none = refl
none_there zero (m ∷ ms) none = none.0
none_there (suc p) (m ∷ ms) none = none_there p ms none.1

none_waits : (now : ℕ) (es : List (ℕ × SessionRecord)) (n : ℕ) (s : Option SessionRecord) → has_come now (wake_in s) ≡ false
    → first_due now (before n s es) ≡ first_due now es
none_waits now es n None ahead = refl
none_waits now es n (Some s) ahead = ap (λ b. cond b (Some n) (first_due now es)) (due_from now s.state s refl ∙ ahead)

pub due_at : (now p : ℕ) (es : Slots) (ms : List (Option ℕ)) → AreWakes es ms → has_come now (get_or ms p None) ≡ true
    → ((k : ℕ) → k < p → has_come now (get_or ms k None) ≡ false)
    → (n : ℕ) × (o : Slot) × IsAt p n o es × (first_due now (present es) ≡ Some n)
due_at now p [] ms wakes come ahead = absurd (true≢false (sym come ∙ ap (has_come now) (none_there p ms wakes)))
due_at now p (e ∷ more) [] wakes come ahead = absurd wakes
due_at now zero (e ∷ more) (m ∷ ms) wakes come ahead =
    (e.0, e.1, (refl, refl), by e.1.session (sym (ap (has_come now) wakes.0) ∙ come))
  where
    by : (s : Option SessionRecord) → has_come now (wake_in s) ≡ true → first_due now (before e.0 s (present more)) ≡ Some e.0
    by None come = absurd (true≢false (sym come))
    by (Some s) come = ap (λ b. cond b (Some e.0) (first_due now (present more))) (due_from now s.state s refl ∙ come)
due_at now (suc p) (e ∷ more) (m ∷ ms) wakes come ahead =
    let after = due_at now p more ms wakes.1 come (λ k low. ahead (suc k) (omega (arith, low))) in
    let here : has_come now (wake_in e.1.session) ≡ false = sym (ap (has_come now) wakes.0) ∙ ahead 0 (omega arith) in
    (after.0, after.1, after.2, none_waits now (present more) e.0 e.1.session here ∙ after.3)

pub none_due : (now : ℕ) (es : Slots) (ms : List (Option ℕ)) → AreWakes es ms
    → ((k : ℕ) → has_come now (get_or ms k None) ≡ false) → first_due now (present es) ≡ None
none_due now [] ms wakes ahead = refl
none_due now (e ∷ more) [] wakes ahead = absurd wakes
none_due now (e ∷ more) (m ∷ ms) wakes ahead =
    none_waits now (present more) e.0 e.1.session (sym (ap (has_come now) wakes.0) ∙ ahead 0)
    ∙ none_due now more ms wakes.1 (λ k. ahead (suc k))

pub wakes_relinked : (es fs : Slots) (ms : List (Option ℕ)) → AreRelinked es fs → AreWakes es ms → AreWakes fs ms
wakes_relinked [] [] ms re wakes = wakes
wakes_relinked [] (f ∷ rest) ms re wakes = absurd re
wakes_relinked (e ∷ more) [] ms re wakes = absurd re
wakes_relinked (e ∷ more) (f ∷ rest) [] re wakes = absurd wakes
wakes_relinked (e ∷ more) (f ∷ rest) (m ∷ ms) re wakes =
    (wakes.0 ∙ ap wake_in (sym re.1), wakes_relinked more rest ms re.2 wakes.1)

-- the places before this one have their moments
pub wakes_more : (done : Slots) (n : ℕ) (o : Slot) (ms : List (Option ℕ)) → AreWakes done ms → length done < length ms
    → AreWakes (done ++ (n, o) ∷ []) (set ms (length done) (wake_in o.session))
wakes_more [] n o [] wakes room = absurd (omega (arith, room))
wakes_more [] n o (m ∷ ms) wakes room = (refl, wakes.1)
wakes_more (e ∷ more) n o [] wakes room = absurd wakes
wakes_more (e ∷ more) n o (m ∷ ms) wakes room = (wakes.0, wakes_more more n o ms wakes.1 (omega (arith, room)))

pub none_yet : (n : ℕ) → AreNone (replicate n None)
none_yet zero = tt
none_yet (suc n) = (refl, none_yet n)

-- the first place whose moment has come has the first session that is due
pub due_found : (now p : ℕ) (es : Slots) (ms : List (Option ℕ)) → AreWakes es ms → Some p ≡ position (has_come now) ms
    → (n : ℕ) × (o : Slot) × IsAt p n o es × (first_due now (present es) ≡ Some n)
due_found now p es ms wakes is =
    let first = position-Some (has_come now) ms p None (sym is) in
    due_at now p es ms wakes first.1 first.2

pub due_nowhere : (now : ℕ) (es : Slots) (ms : List (Option ℕ)) → AreWakes es ms → None ≡ position (has_come now) ms
    → first_due now (present es) ≡ None
due_nowhere now es ms wakes is =
    none_due now es ms wakes (λ k. by k (nat_lt (position_or_len (has_come now) ms) (length ms)) refl is)
  where
    far : (k : ℕ) → length ms ≤ position_or_len (has_come now) ms → (k < length ms) ⊎ (length ms ≤ k) → has_come now (get_or ms k None) ≡ false
    far k most (inl low) = fails_before_first (has_come now) ms k None (omega (arith, low, most))
    far k most (inr high) = ap (has_come now) (get_or-eq_default ms None high)

    by : (k : ℕ) (b : Bool) → nat_lt (position_or_len (has_come now) ms) (length ms) ≡ b
        → None ≡ cond b (Some (position_or_len (has_come now) ms)) None → has_come now (get_or ms k None) ≡ false
    by k true test is = absurd (none_some (position_or_len (has_come now) ms) is)
    by k false test is = far k (ltb-false (position_or_len (has_come now) ms) (length ms) test) (cases_lt k (length ms))

pub wakes_room : (es : Slots) (ms : List (Option ℕ)) → AreWakes es ms → length es ≤ length ms
wakes_room [] ms wakes = omega arith
wakes_room (e ∷ more) [] wakes = absurd wakes
wakes_room (e ∷ more) (m ∷ ms) wakes = omega (arith, wakes_room more ms wakes.1)

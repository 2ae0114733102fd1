-- Sessions by number, in a list whose numbers rise.
use Rattle.std.proofs.Common.{◌≡◌, ℕ, ◌+◌, ◌<◌, ◌≤◌, nat_eq, Bool, true, false, cond, List, [], ◌∷◌, ◌++◌, Option, Some, None, arith, refl, sym, ap, ◌∙◌}
use Rattle.std.proofs.lemmas.Bool.{eqb-true, ne_eqb}
use Rattle.std.proofs.lemmas.Option.{same_Some}
use Rattle.std.specs.Map.{lookup, remove_entry, set_value}
use Rattle.std.specs.Option.{option_map}
use Rattle.session_table.specs.Sessions.{OwnRecord, SessionRecord, own_of, with_own}
use Rattle.session_table.specs.Tables.{Rises, TableRecord, changed, changed_in, session_of, with_session}

-- no session of a lower number is there
pub changed_past : (s last made : ℕ) (f : SessionRecord → SessionRecord) (es : List (ℕ × SessionRecord))
    → Rises last es made → s ≤ last → changed_in s f es ≡ es
changed_past s last made f [] rises low = refl
changed_past s last made f (e ∷ more) rises low =
    let other : nat_eq s e.0 ≡ false = ne_eqb s e.0 (λ at. omega (arith, rises.0, low, at)) in
    let rest = changed_past s e.0 made f more rises.1 (omega (arith, rises.0, low)) in
    rw other (ap (λ r. e ∷ r) rest)

-- the change of the session that is there
pub changed_is_set : (s last made : ℕ) (f : SessionRecord → SessionRecord) (es : List (ℕ × SessionRecord)) (old : SessionRecord)
    → Rises last es made → lookup (nat_eq s) es ≡ Some old
    → changed_in s f es ≡ set_value (nat_eq s) es (f old)
changed_is_set s last made f [] old rises at = cc
changed_is_set s last made f (e ∷ more) old rises at =
    by (nat_eq s e.0) refl at (changed_is_set s e.0 made f more old rises.1)
  where
    by : (b : Bool) → nat_eq s e.0 ≡ b → cond b (Some e.1) (lookup (nat_eq s) more) ≡ Some old
        → (lookup (nat_eq s) more ≡ Some old → changed_in s f more ≡ set_value (nat_eq s) more (f old))
        → (e.0, cond b (f e.1) e.1) ∷ changed_in s f more ≡ cond b ((e.0, f old) ∷ more) (e ∷ set_value (nat_eq s) more (f old))
    by true test at later =
        let number : s ≡ e.0 = eqb-true s e.0 test in
        let rest = changed_past s e.0 made f more rises.1 (omega (arith, number)) in
        ap (λ x. (e.0, f x) ∷ changed_in s f more) (same_Some e.1 old at) ∙ ap (λ r. (e.0, f old) ∷ r) rest
    by false test at later = ap (λ r. e ∷ r) (later at)

pub changed_absent : (s : ℕ) (f : SessionRecord → SessionRecord) (es : List (ℕ × SessionRecord))
    → lookup (nat_eq s) es ≡ None → changed_in s f es ≡ es
changed_absent s f [] absent = refl
changed_absent s f (e ∷ more) absent = by (nat_eq s e.0) refl absent (changed_absent s f more)
  where
    by : (b : Bool) → nat_eq s e.0 ≡ b → cond b (Some e.1) (lookup (nat_eq s) more) ≡ None
        → (lookup (nat_eq s) more ≡ None → changed_in s f more ≡ more)
        → (e.0, cond b (f e.1) e.1) ∷ changed_in s f more ≡ e ∷ more
    by true test absent later = cc
    by false test absent later = ap (λ r. e ∷ r) (later absent)

-- what is asked of the numbers, as sessions change, come and go
pub rises_changed : (s last made : ℕ) (f : SessionRecord → SessionRecord) (es : List (ℕ × SessionRecord))
    → Rises last es made → Rises last (changed_in s f es) made
rises_changed s last made f [] rises = rises
rises_changed s last made f (e ∷ more) rises = (rises.0, rises_changed s e.0 made f more rises.1)

pub rises_after : (last lower made : ℕ) (es : List (ℕ × SessionRecord)) → Rises last es made → lower ≤ last → Rises lower es made
rises_after last lower made [] rises low = omega (arith, rises, low)
rises_after last lower made (e ∷ more) rises low = (omega (arith, rises.0, low), rises.1)

pub rises_removed : (s last made : ℕ) (es : List (ℕ × SessionRecord)) → Rises last es made
    → Rises last (remove_entry (nat_eq s) es) made
rises_removed s last made [] rises = rises
rises_removed s last made (e ∷ more) rises = by (nat_eq s e.0) (rises_removed s e.0 made more rises.1)
  where
    by : (b : Bool) → Rises e.0 (remove_entry (nat_eq s) more) made
        → Rises last (cond b more (e ∷ remove_entry (nat_eq s) more)) made
    by true later = rises_after e.0 last made more rises.1 (omega (arith, rises.0))
    by false later = (rises.0, later)

pub rises_added : (last made : ℕ) (es : List (ℕ × SessionRecord)) (s : SessionRecord) → Rises last es made
    → Rises last (es ++ (made + 1, s) ∷ []) (made + 1)
rises_added last made [] s rises = (omega (arith, rises), omega arith)
rises_added last made (e ∷ more) s rises = (rises.0, rises_added e.0 made more s rises.1)

pub number_is_new : (last made n : ℕ) (es : List (ℕ × SessionRecord)) → Rises last es made → made < n
    → lookup (nat_eq n) es ≡ None
number_is_new last made n [] rises new = refl
number_is_new last made n (e ∷ more) rises new =
    let below = below_made e.0 made more rises.1 in
    let other : nat_eq n e.0 ≡ false = ne_eqb n e.0 (λ at. omega (arith, below, new, at)) in
    rw other (number_is_new e.0 made n more rises.1 new)
  where
    below_made : (last made : ℕ) (es : List (ℕ × SessionRecord)) → Rises last es made → last ≤ made
    below_made last made [] rises = rises
    below_made last made (e ∷ more) rises = omega (arith, rises.0, below_made e.0 made more rises.1)

-- what is written of a session is a change of it
changed_alike : (s last made : ℕ) (f g : SessionRecord → SessionRecord) (es : List (ℕ × SessionRecord)) (x : SessionRecord)
    → Rises last es made → lookup (nat_eq s) es ≡ Some x → f x ≡ g x → changed_in s f es ≡ changed_in s g es
changed_alike s last made f g es x rises at alike =
    changed_is_set s last made f es x rises at
    ∙ (ap (set_value (nat_eq s) es) alike ∙ sym (changed_is_set s last made g es x rises at))

pub with_session_changed : (s : ℕ) (f : SessionRecord → SessionRecord) (t : TableRecord) (x : SessionRecord)
    → Rises 0 t.sessions t.made → session_of s t ≡ Some x → with_session s t (f x) ≡ changed s f t
with_session_changed s f t x rises at =
    ap (λ (es : List (ℕ × SessionRecord)). record t { sessions = es })
    (changed_alike s 0 t.made (λ _. f x) f t.sessions x rises at refl)

-- for callers of `own_mut`: the session of which its owner's part was lent, and what the table is once that comes back
pub record Owned (s : ℕ) (t : TableRecord) (own : OwnRecord) : Type 0 where
  pub whole : SessionRecord
  pub there : session_of s t ≡ Some whole
  pub lent : own ≡ own_of whole
  pub ends : (w : OwnRecord) → with_session s t (with_own w whole) ≡ changed s (with_own w) t

pub owned : (s : ℕ) (t : TableRecord) (own : OwnRecord) → Rises 0 t.sessions t.made
    → Some own ≡ option_map own_of (session_of s t) → Owned s t own
owned s t own rises lent = by (session_of s t) refl lent
  where
    by : (o : Option SessionRecord) → session_of s t ≡ o → Some own ≡ option_map own_of o → Owned s t own
    by None none lent = cc
    by (Some x) there lent = record {
      whole = x;
      there = there;
      lent = same_Some own (own_of x) lent;
      ends = λ w. with_session_changed s (with_own w) t x rises there;
    }

-- what was written, as it was written of the owner's part
pub written : (x : SessionRecord) (own w : OwnRecord) (f : OwnRecord → OwnRecord) → own ≡ own_of x → w ≡ f own
    → with_own w x ≡ with_own (f (own_of x)) x
written x own w f lent wrote = ap (λ (o : OwnRecord). with_own o x) (wrote ∙ ap f lent)

-- where nothing was lent, the session isn't there
pub not_owned : (s : ℕ) (t : TableRecord) → None ≡ option_map own_of (session_of s t) → session_of s t ≡ None
not_owned s t lent = by (session_of s t) refl lent
  where
    by : (o : Option SessionRecord) → session_of s t ≡ o → None ≡ option_map own_of o → session_of s t ≡ None
    by None none lent = none
    by (Some x) there lent = cc

-- The first session that passes a test is the least number whose session does.
use Rattle.std.proofs.Common.{◌≡◌, inl, inr, ℕ, zero, suc, ◌<◌, ◌≤◌, nat_eq, nat_le, nat_lt, not, ◌||◌, Bool, true, false, List}
use Rattle.std.proofs.Common.{[], ◌∷◌, Option, Some, None, IsSomeAnd, refl, sym, ap, subst, ◌∙◌, arith}
use Rattle.std.proofs.lemmas.Bool.{ne_eqb}
use Rattle.std.proofs.lemmas.Bool.Decides.{leb_tells}
use Rattle.std.proofs.lemmas.Option.{same_Some}
use Rattle.std.specs.Map.{lookup}
use Rattle.session_table.specs.declared.life.Life.{Life}
use Rattle.session_table.specs.declared.life.Life.TheVariants.{Live, Over}
use Rattle.session_table.specs.declared.line.Line as stage
use Rattle.session_table.specs.Sessions as table
use Rattle.session_table.specs.Sessions.{SessionRecord}
use Rattle.session_table.specs.Tables.{TableRecord, IsFirst, IsThereWith, Rises, first_due, first_that, session_of}
use Rattle.session_table.proofs.FirstLemmas.{first_is}
use Rattle.session_table.proofs.ListLemmas.{number_is_new}
use Rattle.house_model.specs.Numbered.{least, or_here}
use Rattle.house_model.specs.Sessions.{Session}
use Rattle.house_model.specs.States.{Kept}
use Rattle.house_model.specs.Steps.{due, has_come, is_due, is_due_by}
use Rattle.house_model.specs.Traffic.{KeptTraffic}
use Rattle.house_world.specs.Views.{hold_by, session_by, sessions_of}

-- the least number is one of them, and passes
least_found : (n : ℕ) (test : ℕ → Bool) (s : ℕ) → least n test ≡ Some s → (0 < s) × (s ≤ n) × (test s ≡ true)
least_found zero test s is = absurd (cc)
least_found (suc n) test s is = by (least n test) (test (suc n)) refl refl is (least_found n test s)
  where
    by : (o : Option ℕ) (b : Bool) → least n test ≡ o → test (suc n) ≡ b → or_here o b (suc n) ≡ Some s
        → (least n test ≡ Some s → (0 < s) × (s ≤ n) × (test s ≡ true)) → (0 < s) × (s ≤ suc n) × (test s ≡ true)
    by (Some m) b at here is old = (let rest = old (at ∙ is) in (rest.0, omega (arith, rest.1), rest.2))
    by None true at here is old =
        (let own : suc n ≡ s = same_Some (suc n) s is in (omega (arith, own), omega (arith, own), ap test (sym own) ∙ here))
    by None false at here is old = absurd (cc)

-- none that passes is lower
least_low : (n : ℕ) (test : ℕ → Bool) (k : ℕ) → 0 < k → k ≤ n → test k ≡ true → IsSomeAnd (least n test) (λ m. m ≤ k)
least_low zero test k above low passes = absurd (omega (arith, above, low))
least_low (suc n) test k above low passes =
    by (least n test) (test (suc n)) refl refl (λ less. least_low n test k above less passes)
  where
    by : (o : Option ℕ) (b : Bool) → least n test ≡ o → test (suc n) ≡ b → (k ≤ n → IsSomeAnd o (λ m. m ≤ k))
        → IsSomeAnd (or_here o b (suc n)) (λ m. m ≤ k)
    by (Some m) b at here old = elim (leb_tells k n) [
      | inl p ↦ old p.1
      | inr p ↦ (let found = least_found n test m at in omega (arith, found.1, p.1))
    ]
    by None true at here old = elim (leb_tells k n) [ inl p ↦ absurd (old p.1) | inr p ↦ omega (arith, p.1) ]
    by None false at here old = elim (leb_tells k n) [
      | inl p ↦ absurd (old p.1)
      | inr p ↦ absurd (let own : k ≡ suc n = omega (arith, p.1, low) in let both : true ≡ false = sym passes ∙ (ap test own ∙ here) in cc)
    ]

abbrev Passes : (SessionRecord → Bool) → SessionRecord → Type 0
Passes test x = test x ≡ true

-- a session that is there, and passes
abbrev pub passes : (SessionRecord → Bool) → Option SessionRecord → Bool
passes test None = false
passes test (Some x) = test x

passes_there : (test : SessionRecord → Bool) (o : Option SessionRecord) → IsSomeAnd o (λ x. test x ≡ true) → passes test o ≡ true
passes_there test None there = absurd there
passes_there test (Some x) there = there

there_passes : (test : SessionRecord → Bool) (o : Option SessionRecord) → passes test o ≡ true → IsSomeAnd o (λ x. test x ≡ true)
there_passes test None is = absurd (cc)
there_passes test (Some x) is = is

-- the number of a session that is there
none_below : (n last made : ℕ) (es : List (ℕ × SessionRecord)) → Rises last es made → n ≤ last → lookup (nat_eq n) es ≡ None
none_below n last made [] rises low = refl
none_below n last made (e ∷ more) rises low =
    let other : nat_eq n e.0 ≡ false = ne_eqb n e.0 (λ at. omega (arith, rises.0, low, at)) in
    rw other (none_below n e.0 made more rises.1 (omega (arith, low, rises.0)))

pub there_at : (P : SessionRecord → Type 0) (o : Option SessionRecord) → IsSomeAnd o P → o ≡ None → ⊥
there_at P None there none = there
there_at P (Some x) there none = absurd (cc)

number_of : (P : SessionRecord → Type 0) (s : ℕ) (t : TableRecord) → Rises 0 t.sessions t.made → IsThereWith s P t → (0 < s) × (s ≤ t.made)
number_of P s t rises there = (
  elim (leb_tells s 0) [
    | inl p ↦ absurd (there_at P (session_of s t) there (none_below s 0 t.made t.sessions rises p.1))
    | inr p ↦ p.1
  ],
  elim (leb_tells s t.made) [
    | inl p ↦ p.1
    | inr p ↦ absurd (there_at P (session_of s t) there (number_is_new 0 t.made s t.sessions rises p.1))
  ],
)

pub first_is_least : (test : SessionRecord → Bool) (on : ℕ → Bool) (t : TableRecord) → Rises 0 t.sessions t.made
    → ((s : ℕ) → on s ≡ passes test (session_of s t)) → first_that test t.sessions ≡ least t.made on
first_is_least test on t rises tells =
    by (first_that test t.sessions) (least t.made on) (first_is (Passes test) test (λ x is. is) (λ x is. is) t rises) refl
  where
    low : (a : ℕ) → IsThereWith a (Passes test) t → IsSomeAnd (least t.made on) (λ m. m ≤ a)
    low a there =
        let range = number_of (Passes test) a t rises there in
        least_low t.made on a range.0 range.1 (tells a ∙ passes_there test (session_of a t) there)

    found : (b : ℕ) → least t.made on ≡ Some b → IsThereWith b (Passes test) t
    found b is = there_passes test (session_of b t) (sym (tells b) ∙ (least_found t.made on b is).2)

    by : (o p : Option ℕ) → IsFirst (Passes test) t o → least t.made on ≡ p → o ≡ p
    by None None first is = refl
    by (Some a) None first is = absurd (subst (λ (o : Option ℕ). IsSomeAnd o (λ m. m ≤ a)) is (low a first.found))
    by None (Some b) first is = absurd (first.least b (found b is))
    by (Some a) (Some b) first is =
        let under : b ≤ a = subst (λ (o : Option ℕ). IsSomeAnd o (λ m. m ≤ a)) is (low a first.found) in
        let above : a ≤ b = first.least b (found b is) in
        ap Some (omega (arith, under, above))

-- a session is due for the definition as for the table
late : (now m : ℕ) → not (nat_lt now m) ≡ nat_le m now
late now m = elim (leb_tells (suc now) m) [
  | inl p ↦ elim (leb_tells m now) [ inl q ↦ absurd (omega (arith, p.1, q.1)) | inr q ↦ ap not p.0 ∙ sym q.0 ]
  | inr p ↦ elim (leb_tells m now) [ inl q ↦ ap not p.0 ∙ sym q.0 | inr q ↦ absurd (omega (arith, p.1, q.1)) ]
]

has_come_is : (now : ℕ) (d : Option ℕ) → has_come d now ≡ table.has_come now d
has_come_is now None = refl
has_come_is now (Some m) = late now m

due_by : (now : ℕ) (l : Life) (h d : Option ℕ) (ls : List stage.Line) → is_due_by (hold_by l h ls) d now ≡ (table.is_over l || table.has_come now d)
due_by now (Over cause) h d ls = refl
due_by now Live None d ls = has_come_is now d
due_by now Live (Some w) d ls = has_come_is now d

due_session : (now : ℕ) (ls : List stage.Line) (o : Option SessionRecord) → is_due now (session_by ls o) ≡ passes (table.is_due now) o
due_session now ls None = refl
due_session now ls (Some x) = due_by now x.state x.holder x.deadline ls

pub due_is : (k : Kept) (t : TableRecord) → Rises 0 t.sessions t.made → k.world.made ≡ t.made → k.world.sessions ≡ sessions_of t
    → first_due k.head.moment t.sessions ≡ due k
due_is k t rises made same =
    first_is_least (table.is_due k.head.moment) (λ s. is_due k.head.moment (sessions_of t s)) t rises (λ s. due_session k.head.moment t.lines (session_of s t))
    ∙ sym (λ i. least (made i) (λ s. is_due k.head.moment (same i s)))

pub due_is_none : (k : Kept) (t : TableRecord) → k.world.sessions ≡ sessions_of t
    → IsFirst (λ x. table.is_due k.head.moment x ≡ true) t None → due k ≡ None
due_is_none k t same first = by (due k) refl
  where
    by : (o : Option ℕ) → due k ≡ o → o ≡ None
    by None is = refl
    by (Some s) is =
        let found = least_found k.world.made (λ n. is_due k.head.moment (k.world.sessions n)) s is in
        let own : passes (table.is_due k.head.moment) (session_of s t) ≡ true =
        sym (due_session k.head.moment t.lines (session_of s t))
        ∙ (ap (λ (f : ℕ → Session KeptTraffic). is_due k.head.moment (f s)) (sym same) ∙ found.2) in
        absurd (first.least s (there_passes (table.is_due k.head.moment) (session_of s t) own))

-- Users, one after another.
use Rattle.std.proofs.Common.{◌≡◌, ℕ, ◌<◌, ◌≤◌, ◌==◌, nat_le, List, [], ◌∷◌, ◌++◌, length, length-append, append_assoc, Bool, true, false, not}
use Rattle.std.proofs.Common.{◌&&◌, ◌||◌, bytes_eq, Option, Some, None, arith, refl, sym, ap, ◌∙◌, inl, inr, if◌then◌else◌}
use Rattle.std.specs.Prelude.{is_some}
use Rattle.std.proofs.lemmas.Bool.{cases_Bool, cond-true, cond-false, le-leb, lt-leb}
use Rattle.std.proofs.lemmas.List.Folds.{list_all-append, list_any-append}
use Rattle.std.proofs.lemmas.List.Splits.{slice_split-cons_yes, slice_split-cons_no}
use Rattle.std.specs.List.{slice_split, list_all, list_any, onto_first}
use Rattle.std.proofs.lemmas.Option.{cond_some}
use Rattle.std.proofs.lemmas.Slice.Eq.{bytes_eq-Decides}
use Rattle.std.specs.Prelude.{Result, Ok, Err}
use Rattle.jid_core.specs.Cuts.{before, after}
use Rattle.jid_core.specs.Names.{are_distinct}
use Rattle.jid_core.specs.Preparation.{is_local, local_of}
use Rattle.jid_core.specs.declared.fault.JidFault.{JidFault}
use Rattle.replay_script.specs.Lines.{same, user_of, new_user, is_user, are_users, users_of}

abbrev is_comma : ℕ → Bool
is_comma b = b == 44

split-at : (c : Bool) (b : ℕ) (bs rest : List ℕ) → (b == 44) ≡ c → (if c then Some bs else after 44 bs) ≡ Some rest
    → (after 44 bs ≡ Some rest → slice_split is_comma bs ≡ before 44 bs ∷ slice_split is_comma rest)
    → slice_split is_comma (b ∷ bs) ≡ (if c then [] else b ∷ before 44 bs) ∷ slice_split is_comma rest
split-at true b bs rest e h more = slice_split-cons_yes is_comma b bs e ∙ ap (λ (o : Option (List ℕ)). [] ∷ slice_split is_comma (unwrapped o)) h
  where
    unwrapped : Option (List ℕ) → List ℕ
    unwrapped None = []
    unwrapped (Some xs) = xs
split-at false b bs rest e h more = slice_split-cons_no is_comma b bs e ∙ ap (λ parts. onto_first b parts) (more h)

pub split_more : (text rest : List ℕ) → after 44 text ≡ Some rest → slice_split is_comma text ≡ before 44 text ∷ slice_split is_comma rest
split_more [] rest h = absurd (cc)
split_more (b ∷ bs) rest h = split-at (b == 44) b bs rest refl h (split_more bs rest)

split-none : (c : Bool) (b : ℕ) (bs : List ℕ) → (b == 44) ≡ c → (if c then Some bs else after 44 bs) ≡ None
    → (after 44 bs ≡ None → slice_split is_comma bs ≡ before 44 bs ∷ [])
    → slice_split is_comma (b ∷ bs) ≡ (if c then [] else b ∷ before 44 bs) ∷ []
split-none true b bs e h more = absurd (cc)
split-none false b bs e h more = slice_split-cons_no is_comma b bs e ∙ ap (λ parts. onto_first b parts) (more h)

pub split_last : (text : List ℕ) → after 44 text ≡ None → slice_split is_comma text ≡ before 44 text ∷ []
split_last [] h = refl
split_last (b ∷ bs) h = split-none (b == 44) b bs refl h (split_last bs)

-- the first part is what stands before the first comma
split-first : (text : List ℕ) (o : Option (List ℕ)) → after 44 text ≡ o → (more : List (List ℕ)) × (slice_split is_comma text ≡ before 44 text ∷ more)
split-first text None h = ([], split_last text h)
split-first text (Some rest) h = (slice_split is_comma rest, split_more text rest h)

and-none : (a : Bool) → (a && false) ≡ false
and-none true = refl
and-none false = refl

both : (a b : Bool) → a ≡ true → b ≡ true → (a && b) ≡ true
both true b p q = q
both false b p q = absurd (cc)

or-false : (a b : Bool) → a ≡ false → b ≡ false → (a || b) ≡ false
or-false false b p q = q
or-false true b p q = absurd (cc)

parts-of : (a b : Bool) → (a && b) ≡ true → (a ≡ true) × (b ≡ true)
parts-of true b h = (refl, h)
parts-of false b h = absurd (cc)

not-true : (a : Bool) → not a ≡ true → a ≡ false
not-true true h = absurd (cc)
not-true false h = refl

halves : (a b : Bool) → (a || b) ≡ false → (a ≡ false) × (b ≡ false)
halves true b h = absurd (cc)
halves false b h = (refl, h)

-- one user more
pub users_more : (us : List (List ℕ)) (u : List ℕ) → list_all is_user us ≡ true → is_user u ≡ true → list_all is_user (us ++ u ∷ []) ≡ true
users_more us u all one = list_all-append is_user us (u ∷ []) ∙ both (list_all is_user us) (is_user u && true) all (both (is_user u) true one refl)

pub differ_more : (us : List (List ℕ)) (u : List ℕ) → are_distinct us ≡ true → list_any (λ x. bytes_eq x u) us ≡ false → are_distinct (us ++ u ∷ []) ≡ true
differ_more [] u differ new = refl
differ_more (x ∷ more) u differ new =
    let old = parts-of (not (list_any (λ y. bytes_eq x y) more)) (are_distinct more) differ in
    let apart = halves (bytes_eq x u) (list_any (λ y. bytes_eq y u) more) new in
    let none : list_any (λ y. bytes_eq x y) (more ++ u ∷ []) ≡ false =
    list_any-append (λ y. bytes_eq x y) more (u ∷ [])
    ∙ or-false (list_any (λ y. bytes_eq x y) more) (bytes_eq x u || false) (not-true (list_any (λ y. bytes_eq x y) more) old.0)
    (or-false (bytes_eq x u) false apart.0 refl) in
    both (not (list_any (λ y. bytes_eq x y) (more ++ u ∷ []))) (are_distinct (more ++ u ∷ [])) (ap not none) (differ_more more u old.1 apart.1)

or-one : (a b : Bool) → a ≡ true → (a || b) ≡ true
or-one true b p = refl
or-one false b p = absurd (cc)

or-other : (a b : Bool) → b ≡ true → (a || b) ≡ true
or-other true b p = refl
or-other false b p = p

not-false : (a b : Bool) → a ≡ true → (not a && b) ≡ false
not-false true b p = refl
not-false false b p = absurd (cc)

and-last : (a b : Bool) → b ≡ false → (a && b) ≡ false
and-last true b p = p
and-last false b p = refl

-- a user that is there already
differ_again : (us : List (List ℕ)) (u : List ℕ) (ys : List (List ℕ)) → list_any (λ x. bytes_eq x u) us ≡ true → are_distinct (us ++ u ∷ ys) ≡ false
differ_again [] u ys old = absurd (cc)
differ_again (x ∷ more) u ys old = elim (cases_Bool (bytes_eq x u)) [
  | inl e ↦ not-false (list_any (λ y. bytes_eq x y) (more ++ u ∷ ys)) (are_distinct (more ++ u ∷ ys))
      (list_any-append (λ y. bytes_eq x y) more (u ∷ ys)
      ∙ or-other (list_any (λ y. bytes_eq x y) more) (bytes_eq x u || list_any (λ y. bytes_eq x y) ys)
      (or-one (bytes_eq x u) (list_any (λ y. bytes_eq x y) ys) e))
  | inr e ↦ and-last (not (list_any (λ y. bytes_eq x y) (more ++ u ∷ ys))) (are_distinct (more ++ u ∷ ys))
      (differ_again more u ys (or-rest (bytes_eq x u) (list_any (λ y. bytes_eq y u) more) e old))
]
  where
    or-rest : (a b : Bool) → a ≡ false → (a || b) ≡ true → b ≡ true
    or-rest true b p h = absurd (cc)
    or-rest false b p h = h

refused : (field : List ℕ) (us : List (List ℕ)) → us ≡ slice_split is_comma field → are_users us ≡ false → users_of field ≡ None
refused field us is fails = cond-false (are_users (slice_split is_comma field)) (Some (slice_split is_comma field)) None (ap are_users (sym is) ∙ fails)

-- the users so far, the first of the rest, and what comes after it
whole : (field rest : List ℕ) (us more : List (List ℕ)) → us ++ slice_split is_comma rest ≡ slice_split is_comma field
    → slice_split is_comma rest ≡ before 44 rest ∷ more
    → us ++ before 44 rest ∷ more ≡ slice_split is_comma field
whole field rest us more is first = ap (λ parts. us ++ parts) (sym first) ∙ is

-- no user
pub users_bad : (field rest : List ℕ) (us : List (List ℕ)) → us ++ slice_split is_comma rest ≡ slice_split is_comma field
    → user_of (before 44 rest) ≡ None → users_of field ≡ None
users_bad field rest us is none =
    let first = split-first rest (after 44 rest) refl in
    let fails : list_all is_user (us ++ before 44 rest ∷ first.0) ≡ false =
    list_all-append is_user us (before 44 rest ∷ first.0)
    ∙ and-last (list_all is_user us) (is_user (before 44 rest) && list_all is_user first.0)
    (first-none (is_user (before 44 rest)) (list_all is_user first.0) (ap is_some none)) in
    refused field (us ++ before 44 rest ∷ first.0) (whole field rest us first.0 is first.1)
    (middle (nat_le (length (us ++ before 44 rest ∷ first.0)) 4096) (list_all is_user (us ++ before 44 rest ∷ first.0))
    (are_distinct (us ++ before 44 rest ∷ first.0)) fails)
  where
    first-none : (a b : Bool) → a ≡ false → (a && b) ≡ false
    first-none true b p = absurd (cc)
    first-none false b p = refl

    middle : (a b c : Bool) → b ≡ false → (a && b && c) ≡ false
    middle true true c p = absurd (cc)
    middle true false c p = refl
    middle false b c p = refl

-- a user twice
pub users_twice : (field rest : List ℕ) (us : List (List ℕ)) → us ++ slice_split is_comma rest ≡ slice_split is_comma field
    → list_any (λ x. bytes_eq x (before 44 rest)) us ≡ true → users_of field ≡ None
users_twice field rest us is old =
    let first = split-first rest (after 44 rest) refl in
    refused field (us ++ before 44 rest ∷ first.0) (whole field rest us first.0 is first.1)
    (and-last (nat_le (length (us ++ before 44 rest ∷ first.0)) 4096 && list_all is_user (us ++ before 44 rest ∷ first.0))
    (are_distinct (us ++ before 44 rest ∷ first.0))
    (differ_again us (before 44 rest) first.0 old))

longer : (us : List (List ℕ)) (x : List ℕ) (ys : List (List ℕ)) → length us ≡ 4096 → 4096 < length (us ++ x ∷ ys)
longer us x ys count = omega (arith, count, length-append us (x ∷ ys))

-- too many users
pub users_many : (field rest : List ℕ) (us : List (List ℕ)) → us ++ slice_split is_comma rest ≡ slice_split is_comma field → length us ≡ 4096
    → users_of field ≡ None
users_many field rest us is count =
    let first = split-first rest (after 44 rest) refl in
    refused field (us ++ before 44 rest ∷ first.0) (whole field rest us first.0 is first.1)
    (front-false (nat_le (length (us ++ before 44 rest ∷ first.0)) 4096) (list_all is_user (us ++ before 44 rest ∷ first.0))
    (are_distinct (us ++ before 44 rest ∷ first.0))
    (lt-leb (length (us ++ before 44 rest ∷ first.0)) 4096 (longer us (before 44 rest) first.0 count)))
  where
    front-false : (a b c : Bool) → a ≡ false → (a && b && c) ≡ false
    front-false true b c p = absurd (cc)
    front-false false b c p = refl

-- all of them
pub users_good : (field : List ℕ) (us : List (List ℕ)) → us ≡ slice_split is_comma field → length us ≤ 4096 → list_all is_user us ≡ true
    → are_distinct us ≡ true → users_of field ≡ Some us
users_good field us is few all differ =
    cond-true (are_users (slice_split is_comma field)) (Some (slice_split is_comma field)) None
    (ap are_users (sym is) ∙ both (nat_le (length us) 4096 && list_all is_user us) (are_distinct us)
    (both (nat_le (length us) 4096) (list_all is_user us) (le-leb (length us) 4096 few) all) differ)
    ∙ ap Some (sym is)

-- a user is written as it is prepared
same-user : (text : List ℕ) (r : Result (List ℕ) JidFault) (u : List ℕ) → same text r ≡ Some u → u ≡ text
same-user text (Err fault) u h = absurd (cc)
same-user text (Ok part) u h =
    let found = cond_some (bytes_eq part text && not (list_any is_comma text)) part u h in
    let tests = parts-of (bytes_eq part text) (not (list_any is_comma text)) found.0 in
    sym found.1 ∙ (bytes_eq-Decides part text).0 tests.0

user-is : (text u : List ℕ) → user_of text ≡ Some u → u ≡ text
user-is text u h = same-user text (local_of text) u h

pub step_parts : (field rest more : List ℕ) (us : List (List ℕ)) (u : List ℕ) → us ++ slice_split is_comma rest ≡ slice_split is_comma field
    → user_of (before 44 rest) ≡ Some u
    → after 44 rest ≡ Some more → (us ++ u ∷ []) ++ slice_split is_comma more ≡ slice_split is_comma field
step_parts field rest more us u is one cut =
    append_assoc us (u ∷ []) (slice_split is_comma more)
    ∙ ap (λ x. us ++ x ∷ slice_split is_comma more) (user-is (before 44 rest) u one)
    ∙ ap (λ parts. us ++ parts) (sym (split_more rest more cut))
    ∙ is

pub last_parts : (field rest : List ℕ) (us : List (List ℕ)) (u : List ℕ) → us ++ slice_split is_comma rest ≡ slice_split is_comma field
    → user_of (before 44 rest) ≡ Some u
    → after 44 rest ≡ None → us ++ u ∷ [] ≡ slice_split is_comma field
last_parts field rest us u is one cut =
    ap (λ x. us ++ x ∷ []) (user-is (before 44 rest) u one)
    ∙ ap (λ parts. us ++ parts) (sym (split_last rest cut))
    ∙ is

pub step_users : (us : List (List ℕ)) (u text : List ℕ) → list_all is_user us ≡ true → user_of text ≡ Some u → list_all is_user (us ++ u ∷ []) ≡ true
step_users us u text all one = users_more us u all (ap is_user (user-is text u one) ∙ ap is_some one)

pub step_differ : (us : List (List ℕ)) (u text : List ℕ) → are_distinct us ≡ true → user_of text ≡ Some u → list_any (λ x. bytes_eq x text) us ≡ false
    → are_distinct (us ++ u ∷ []) ≡ true
step_differ us u text differ one new = differ_more us u differ (ap (λ t. list_any (λ x. bytes_eq x t) us) (user-is text u one) ∙ new)

-- the last user
pub users_all : (field rest : List ℕ) (us : List (List ℕ)) (u : List ℕ) → us ++ slice_split is_comma rest ≡ slice_split is_comma field → length us < 4096
    → list_all is_user us ≡ true → are_distinct us ≡ true → user_of (before 44 rest) ≡ Some u → list_any (λ x. bytes_eq x (before 44 rest)) us ≡ false
    → after 44 rest ≡ None
    → users_of field ≡ Some (us ++ u ∷ [])
users_all field rest us u is few all differ one new cut =
    users_good field (us ++ u ∷ []) (last_parts field rest us u is one cut) (omega (arith, few, length-append us (u ∷ [])))
    (step_users us u (before 44 rest) all one)
    (step_differ us u (before 44 rest) differ one new)

pub step_prepared : (us : List (List ℕ)) (u : List ℕ) → list_all is_local us ≡ true → is_local u ≡ true → list_all is_local (us ++ u ∷ []) ≡ true
step_prepared us u all one = list_all-append is_local us (u ∷ []) ∙ both (list_all is_local us) (is_local u && true) all (both (is_local u) true one refl)

pub new-user : (b : Bool) (us : List (List ℕ)) (text u : List ℕ) → (if b then None else user_of text) ≡ Some u → (b ≡ false) × (user_of text ≡ Some u)
new-user true us text u h = absurd (cc)
new-user false us text u h = (refl, h)

-- a user who was there, or none
pub users_refused : (field rest : List ℕ) (us : List (List ℕ)) → us ++ slice_split is_comma rest ≡ slice_split is_comma field
    → new_user us (before 44 rest) ≡ None → users_of field ≡ None
users_refused field rest us is none = elim (cases_Bool (list_any (λ x. bytes_eq x (before 44 rest)) us)) [
  | inl e ↦ users_twice field rest us is e
  | inr e ↦ users_bad field rest us is (sym (cond-false (list_any (λ x. bytes_eq x (before 44 rest)) us) None (user_of (before 44 rest)) e) ∙ none)
]

-- one user more, and the last
pub users_step : (field rest more : List ℕ) (us : List (List ℕ)) (u : List ℕ) → us ++ slice_split is_comma rest ≡ slice_split is_comma field
    → list_all is_user us ≡ true → are_distinct us ≡ true → new_user us (before 44 rest) ≡ Some u → after 44 rest ≡ Some more
    → ((us ++ u ∷ []) ++ slice_split is_comma more ≡ slice_split is_comma field) × (list_all is_user (us ++ u ∷ []) ≡ true)
    × (are_distinct (us ++ u ∷ []) ≡ true)
users_step field rest more us u is all differ one cut =
    let new = new-user (list_any (λ x. bytes_eq x (before 44 rest)) us) us (before 44 rest) u one in
    (step_parts field rest more us u is new.1 cut, step_users us u (before 44 rest) all new.1, step_differ us u (before 44 rest) differ new.1 new.0)

pub end_differ : (us : List (List ℕ)) (text u : List ℕ) → are_distinct us ≡ true → new_user us text ≡ Some u → are_distinct (us ++ u ∷ []) ≡ true
end_differ us text u differ one =
    let new = new-user (list_any (λ x. bytes_eq x text) us) us text u one in
    step_differ us u text differ new.1 new.0

pub users_end : (field rest : List ℕ) (us : List (List ℕ)) (u : List ℕ) → us ++ slice_split is_comma rest ≡ slice_split is_comma field → length us < 4096
    → list_all is_user us ≡ true → are_distinct us ≡ true → new_user us (before 44 rest) ≡ Some u → after 44 rest ≡ None → users_of field ≡ Some (us ++ u ∷ [])
users_end field rest us u is few all differ one cut =
    let new = new-user (list_any (λ x. bytes_eq x (before 44 rest)) us) us (before 44 rest) u one in
    users_all field rest us u is few all differ new.1 new.0 cut

-- Password lines, of which a front was read.
use Rattle.std.proofs.Common.{◌≡◌, ℕ, ◌<◌, ◌≤◌, nat_lt, ◌==◌, ◌&&◌, List, [], ◌∷◌, ◌++◌, length, length-append, Bool, true, false}
use Rattle.std.proofs.Common.{true≢false, Some, None, arith, refl, sym, ap, subst, ◌∙◌, append-nil, append_assoc, inl, inr}
use Rattle.std.specs.Prelude.{◌⊎◌, Option}
use Rattle.std.specs.List.{list_all}
use Rattle.std.proofs.lemmas.Bool.{cond-false, eqb-true, ltb-true}
use Rattle.std.proofs.lemmas.List.Folds.{list_all-append}
use Rattle.jid_core.specs.Cuts.{before, after}
use Rattle.commands.specs.Accounts.{is_printable, IsPassword, IsPasswordLine, IsRead, IsNoLine, ReadsAtMost}
use Rattle.script_play.specs.Readings.{Begins, Ends}
use Rattle.commands.proofs.Conjunctions.{two-true, true-two}
use Rattle.script_play.proofs.Feeds.{NoFeed}

-- LF is not printable
no-feed : (b : ℕ) → is_printable b ≡ true → (b == 10) ≡ false
no-feed b h = byte (b == 10) refl
  where
    byte : (d : Bool) → (b == 10) ≡ d → d ≡ false
    byte true e = absurd (true≢false (sym h ∙ ap is_printable (eqb-true b 10 e)))
    byte false e = refl

no-feeds : (bytes : List ℕ) → list_all is_printable bytes ≡ true → NoFeed bytes
no-feeds [] h = tt
no-feeds (b ∷ more) h = let two = two-true (is_printable b) (list_all is_printable more) h in (no-feed b two.0, no-feeds more two.1)

before-byte : (b : ℕ) (more : List ℕ) → (b == 10) ≡ false → before 10 (b ∷ more) ≡ b ∷ before 10 more
before-byte b more other = cond-false (b == 10) [] (b ∷ before 10 more) other

after-byte : (b : ℕ) (more : List ℕ) → (b == 10) ≡ false → after 10 (b ∷ more) ≡ after 10 more
after-byte b more other = cond-false (b == 10) (Some more) (after 10 more) other

before-front : (front more : List ℕ) → NoFeed front → before 10 (front ++ more) ≡ front ++ before 10 more
before-front [] more h = refl
before-front (b ∷ bs) more h = before-byte b (bs ++ more) h.0 ∙ ap (λ xs. b ∷ xs) (before-front bs more h.1)

after-front : (front more : List ℕ) → NoFeed front → after 10 (front ++ more) ≡ after 10 more
after-front [] more h = refl
after-front (b ∷ bs) more h = after-byte b (bs ++ more) h.0 ∙ after-front bs more h.1

-- a line without LF, and one with it
before-all : (bytes : List ℕ) → NoFeed bytes → before 10 bytes ≡ bytes
before-all bytes h = ap (before 10) (sym (append-nil bytes)) ∙ before-front bytes [] h ∙ append-nil bytes

after-all : (bytes : List ℕ) → NoFeed bytes → after 10 bytes ≡ None
after-all bytes h = ap (after 10) (sym (append-nil bytes)) ∙ after-front bytes [] h

before-feed : (bytes more : List ℕ) → NoFeed bytes → before 10 (bytes ++ 10 ∷ more) ≡ bytes
before-feed bytes more h = before-front bytes (10 ∷ more) h ∙ append-nil bytes

after-feed : (bytes more : List ℕ) → NoFeed bytes → after 10 (bytes ++ 10 ∷ more) ≡ Some more
after-feed bytes more h = after-front bytes (10 ∷ more) h

-- the password of a line stands before its LF
password-before : (password bytes : List ℕ) → IsPasswordLine password bytes → before 10 bytes ≡ password
password-before password bytes l = elim l.line [
  | inl same ↦ ap (before 10) same ∙ before-all password (no-feeds password l.valid.printable)
  | inr same ↦ ap (before 10) same ∙ before-feed password [] (no-feeds password l.valid.printable)
]

-- and nothing after it
password-after : (password bytes : List ℕ) → IsPasswordLine password bytes → (after 10 bytes ≡ None) ⊎ (after 10 bytes ≡ Some [])
password-after password bytes l = elim l.line [
  | inl same ↦ inl (ap (after 10) same ∙ after-all password (no-feeds password l.valid.printable))
  | inr same ↦ inr (ap (after 10) same ∙ after-feed password [] (no-feeds password l.valid.printable))
]

-- all bytes, of which a front and one more byte were read
all-given : (old mid now : Option (List ℕ)) (front : List ℕ) (b : ℕ) (all : List ℕ) → old ≡ Some all → Begins old mid front → Begins mid now (b ∷ [])
    → (rest : List ℕ) × ((now ≡ Some rest) × (all ≡ front ++ b ∷ rest))
all-given old mid now front b all told begins gives =
    let first = begins all told in
    let next = gives first.0 first.1.0 in
    (next.0, (next.1.0, first.1.1 ∙ ap (λ xs. front ++ xs) next.1.1))

-- and the end after them
all-ended : (old mid now : Option (List ℕ)) (front all : List ℕ) → old ≡ Some all → Begins old mid front → Ends mid now → (all ≡ front) × (now ≡ Some [])
all-ended old mid now front all told begins gives =
    let first = begins all told in
    let end = gives first.0 first.1.0 in
    (first.1.1 ∙ ap (λ xs. front ++ xs) end.0 ∙ append-nil front, end.1)

pub begins_more : (old mid now : Option (List ℕ)) (front : List ℕ) (b : ℕ) → Begins old mid front → Begins mid now (b ∷ []) → Begins old now (front ++ b ∷ [])
begins_more old mid now front b begins gives = λ all told.
    let next = all-given old mid now front b all told begins gives in
    (next.0, (next.1.0, next.1.1 ∙ sym (append_assoc front (b ∷ []) next.0)))

-- a byte that fits
pub printable_more : (front : List ℕ) (b : ℕ) → list_all is_printable front ≡ true → (nat_lt (length front) 256 && is_printable b) ≡ true
    → list_all is_printable (front ++ b ∷ []) ≡ true
printable_more front b h fits =
    let two = two-true (nat_lt (length front) 256) (is_printable b) fits in
    list_all-append is_printable front (b ∷ []) ∙ true-two (list_all is_printable front) (is_printable b && true) h (true-two (is_printable b) true two.1 refl)

pub few_more : (front : List ℕ) (b : ℕ) → (nat_lt (length front) 256 && is_printable b) ≡ true → length front < 256
few_more front b fits = ltb-true (length front) 256 (two-true (nat_lt (length front) 256) (is_printable b) fits).0

-- a line that goes on with a byte other than LF has a password that does
goes-on : (front : List ℕ) (b : ℕ) (rest all password : List ℕ) → list_all is_printable front ≡ true → (b == 10) ≡ false → all ≡ front ++ b ∷ rest
    → IsPasswordLine password all
    → password ≡ front ++ b ∷ before 10 rest
goes-on front b rest all password h other same l =
    sym (password-before password all l) ∙ ap (before 10) same ∙ before-front front (b ∷ rest) (no-feeds front h)
    ∙ ap (λ xs. front ++ xs) (before-byte b rest other)

pub fits-going : (front : List ℕ) (b : ℕ) (rest all password : List ℕ) → list_all is_printable front ≡ true → (b == 10) ≡ false → all ≡ front ++ b ∷ rest
    → IsPasswordLine password all → (nat_lt (length front) 256 && is_printable b) ≡ true
fits-going front b rest all password h other same l =
    let is = goes-on front b rest all password h other same l in
    let every = sym (list_all-append is_printable front (b ∷ before 10 rest)) ∙ ap (list_all is_printable) (sym is) ∙ l.valid.printable in
    let one = two-true (is_printable b) (list_all is_printable (before 10 rest))
    (two-true (list_all is_printable front) (list_all is_printable (b ∷ before 10 rest)) every).1 in
    true-two (nat_lt (length front) 256) (is_printable b)
    (few-below (length front) (omega (arith, ap length is, length-append front (b ∷ before 10 rest), l.valid.most_is))) one.0
  where
    few-below : (n : ℕ) → n < 256 → nat_lt n 256 ≡ true
    few-below n h = grind arith

-- a byte that doesn't fit
pub no_line : (old mid now : Option (List ℕ)) (front : List ℕ) (b : ℕ) → list_all is_printable front ≡ true → Begins old mid front → Begins mid now (b ∷ [])
    → (b == 10) ≡ false
    → (nat_lt (length front) 256 && is_printable b) ≡ false → IsNoLine old
no_line old mid now front b h begins gives other unfit = λ all told password l.
    let next = all-given old mid now front b all told begins gives in
    true≢false (sym (fits-going front b next.0 all password h other next.1.1 l) ∙ unfit)

-- a byte after LF
pub no_line_after : (old mid feed now : Option (List ℕ)) (front : List ℕ) (c : ℕ) → list_all is_printable front ≡ true → Begins old mid front
    → Begins mid feed (10 ∷ [])
    → Begins feed now (c ∷ []) → IsNoLine old
no_line_after old mid feed now front c h begins gives more = λ all told password l.
    let next = all-given old mid feed front 10 all told begins gives in
    let last = more next.0 next.1.0 in
    let rest : after 10 all ≡ Some (c ∷ last.0) = ap (after 10) next.1.1 ∙ after-feed front next.0 (no-feeds front h) ∙ ap Some last.1.1 in
    elim (password-after password all l) [
      | inl none ↦ some-none (sym rest ∙ none)
      | inr end ↦ some-end (sym rest ∙ end)
    ]
  where
    size : Option (List ℕ) → ℕ
    size None = 0
    size (Some []) = 1
    size (Some (x ∷ xs)) = 2

    some-none : {x : ℕ} {xs : List ℕ} → Some (x ∷ xs) ≡ None → ⊥
    some-none e = let n : 2 ≡ 0 = ap size e in omega (arith, n)

    some-end : {x : ℕ} {xs : List ℕ} → Some (x ∷ xs) ≡ Some [] → ⊥
    some-end e = let n : 2 ≡ 1 = ap size e in omega (arith, n)

-- no byte, or LF alone
no-empty : (all password : List ℕ) → before 10 all ≡ [] → IsPasswordLine password all → ⊥
no-empty all password none l = omega (arith, ap length (sym (password-before password all l) ∙ none), l.valid.least_is)

pub no_line_empty : (old mid now : Option (List ℕ)) (front : List ℕ) → front ≡ [] → Begins old mid front → Ends mid now → IsNoLine old
no_line_empty old mid now front none begins gives = λ all told password l.
    let end = all-ended old mid now front all told begins gives in
    no-empty all password (ap (before 10) (end.0 ∙ none)) l

pub no_line_feed : (old mid feed now : Option (List ℕ)) (front : List ℕ) → front ≡ [] → Begins old mid front → Begins mid feed (10 ∷ []) → Ends feed now
    → IsNoLine old
no_line_feed old mid feed now front none begins gives end = λ all told password l.
    let next = all-given old mid feed front 10 all told begins gives in
    no-empty all password (ap (before 10) (next.1.1 ∙ ap (λ xs. xs ++ 10 ∷ next.0) none)) l

-- a whole line
pub password_of : (front : List ℕ) → list_all is_printable front ≡ true → 1 ≤ length front → length front ≤ 256 → IsPassword front
password_of front h least most = record { least_is = least; most_is = most; printable = h }

pub read_end : (old mid now : Option (List ℕ)) (front : List ℕ) → IsPassword front → Begins old mid front → Ends mid now → IsRead front old now
read_end old mid now front valid begins gives = λ all told.
    let end = all-ended old mid now front all told begins gives in
    (record { valid = valid; line = inl end.0 }, end.1)

pub read_feed : (old mid feed now : Option (List ℕ)) (front : List ℕ) → IsPassword front → Begins old mid front → Begins mid feed (10 ∷ []) → Ends feed now
    → IsRead front old now
read_feed old mid feed now front valid begins gives end = λ all told.
    let next = all-given old mid feed front 10 all told begins gives in
    let last = end next.0 next.1.0 in
    (record { valid = valid; line = inr (next.1.1 ∙ ap (λ xs. front ++ 10 ∷ xs) last.0) }, last.1)

-- how much was read
pub at_most : (most : ℕ) (old now : Option (List ℕ)) (front : List ℕ) → length front ≤ most → Begins old now front → ReadsAtMost most old now
at_most most old now front few begins = λ all told.
    let given = begins all told in
    (front, (given.0, (given.1.1, given.1.0, few)))

pub begins_on : (a b c : Option (List ℕ)) (xs ys : List ℕ) → Begins a b xs → Begins b c ys → Begins a c (xs ++ ys)
begins_on a b c xs ys first second = λ all told.
    let one = first all told in
    let two = second one.0 one.1.0 in
    (two.0, (two.1.0, one.1.1 ∙ ap (λ zs. xs ++ zs) two.1.1 ∙ sym (append_assoc xs ys two.0)))

pub begins_same : (a b : Option (List ℕ)) → b ≡ a → Begins a b []
begins_same a b same = λ all told. (all, (same ∙ told, refl))

pub begins_end : (a b : Option (List ℕ)) → Ends a b → Begins a b []
begins_end a b ends = λ all told. let end = ends all told in ([], (end.1, end.0))

-- the password that is kept
pub kept_end : (old mid now : Option (List ℕ)) (front kept : List ℕ) → kept ≡ front → 1 ≤ length kept → list_all is_printable front ≡ true → length front ≤ 256
    → Begins old mid front → Ends mid now → IsRead kept old now
kept_end old mid now front kept same least h most begins ends =
    subst (λ (p : List ℕ). IsRead p old now) (sym same)
    (read_end old mid now front (password_of front h (subst (λ (p : List ℕ). 1 ≤ length p) same least) most) begins ends)

pub kept_feed : (old mid feed now : Option (List ℕ)) (front kept : List ℕ) → kept ≡ front → 1 ≤ length kept → list_all is_printable front ≡ true
    → length front ≤ 256
    → Begins old mid front → Begins mid feed (10 ∷ []) → Ends feed now → IsRead kept old now
kept_feed old mid feed now front kept same least h most begins gives ends =
    subst (λ (p : List ℕ). IsRead p old now) (sym same)
    (read_feed old mid feed now front (password_of front h (subst (λ (p : List ℕ). 1 ≤ length p) same least) most) begins gives ends)

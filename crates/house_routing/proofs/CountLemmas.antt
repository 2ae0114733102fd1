-- How many sessions there are that a new one of an address has to leave room for.
use Rattle.std.proofs.Common.{◌≡◌, ◌≢◌, inl, inr, ℕ, zero, suc, ◌+◌, ◌-◌, ◌<◌, ◌≤◌, ◌&&◌, nat_lt, nat_eq, not, cond, Bool, true, false}
use Rattle.std.proofs.Common.{List, [], ◌∷◌, length, Option, Some, None, if◌then◌else◌, arith, refl, sym, ap, ◌∙◌}
use Rattle.std.specs.Prelude.{bytes_eq}
use Rattle.std.specs.Map.{lookup}
use Rattle.std.proofs.lemmas.Bool.{ne_eqb, true≢false}
use Rattle.std.proofs.lemmas.Bool.Decides.{eqb_tells}
use Rattle.jid_core.specs.Addresses.{Address, same_address, same_bare, same_part}
use Rattle.session_table.specs.declared.line.Line as stage
use Rattle.session_table.specs.Sessions.{SessionRecord}
use Rattle.session_table.specs.Tables.{Rises, TableRecord, of_user, session_of}
use Rattle.house_model.specs.declared.answer.Answer.{Answer}
use Rattle.house_model.specs.declared.limits.Limits.{Limits}
use Rattle.house_model.specs.Numbered.{passing}
use Rattle.house_model.specs.States.{World, Kept}
use Rattle.house_model.specs.Lookups.{is_there, is_at}
use Rattle.house_model.specs.Steps.{has_place}
use Rattle.house_model.specs.Traffic.{KeptTraffic}
use Rattle.archive_table.specs.Archives.{Archives}
use Rattle.contact_table.specs.Books.{Book}
use Rattle.muc_service.specs.Rooms.{Rooms}
use Rattle.house_world.specs.Views.{session_by, sessions_of, world_of}
use Rattle.house_world.specs.Wholes.{IsSession, IsTied}
use Rattle.house_world.proofs.AtLemmas.{there_is}
use Rattle.house_world.proofs.DueLemmas.{passes}

abbrev pub one_if : Bool → ℕ
one_if b = if b then 1 else 0

-- how many of a list's sessions pass a test
abbrev pub counted : (SessionRecord → Bool) → List (ℕ × SessionRecord) → ℕ
counted pick [] = 0
counted pick (e ∷ more) = one_if (pick e.1) + counted pick more

passing_same : (n : ℕ) (test other : ℕ → Bool) → ((s : ℕ) → s ≤ n → other s ≡ test s) → passing n other ≡ passing n test
passing_same zero test other same = refl
passing_same (suc n) test other same = λ i.
    passing_same n test other (λ s low. same s (omega (arith, low))) i + one_if (same (suc n) (omega arith) i)

passing_none : (n : ℕ) (test : ℕ → Bool) → ((s : ℕ) → test s ≡ false) → passing n test ≡ 0
passing_none zero test none = refl
passing_none (suc n) test none =
    let before = passing_none n test none in
    let here : one_if (test (suc n)) ≡ 0 = ap one_if (none (suc n)) in
    omega (arith, before, here)

-- one number more is told by the test
passing_more : (n k : ℕ) (b : Bool) (test other : ℕ → Bool) → 0 < k → k ≤ n → test k ≡ false → other k ≡ b
    → ((s : ℕ) → (s ≡ k → ⊥) → other s ≡ test s) → passing n other ≡ one_if b + passing n test
passing_more zero k b test other above low here there same = absurd (omega (arith, above, low))
passing_more (suc n) k b test other above low here there same = elim (eqb_tells k (suc n)) [
  | inl p ↦
      let is : k ≡ suc n = p.1 in
      let before : passing n other ≡ passing n test = passing_same n test other (λ s under. same s (λ e. omega (arith, is, e, under))) in
      let new : one_if (other (suc n)) ≡ one_if b = ap one_if (ap other (sym is) ∙ there) in
      let old : one_if (test (suc n)) ≡ 0 = ap one_if (ap test (sym is) ∙ here) in
      omega (arith, before, new, old)
  | inr p ↦
      let apart : k ≢ suc n = p.1 in
      let before : passing n other ≡ one_if b + passing n test =
      passing_more n k b test other above (omega (arith, low, apart)) here there same in
      let last : one_if (other (suc n)) ≡ one_if (test (suc n)) = ap one_if (same (suc n) (λ e. apart (sym e))) in
      omega (arith, before, last)
]

passing_most : (n : ℕ) (test : ℕ → Bool) → passing n test ≤ n
passing_most zero test = omega arith
passing_most (suc n) test =
    let before = passing_most n test in
    let here = most_one (test (suc n)) in
    omega (arith, before, here)
  where
    most_one : (b : Bool) → one_if b ≤ 1
    most_one true = omega arith
    most_one false = omega arith

pub rises_most : (last made : ℕ) (es : List (ℕ × SessionRecord)) → Rises last es made → last ≤ made
rises_most last made [] rises = rises
rises_most last made (e ∷ more) rises =
    let first = rises.0 in
    let rest = rises_most e.0 made more rises.1 in
    omega (arith, first, rest)

pub none_below : (n last made : ℕ) (es : List (ℕ × SessionRecord)) → Rises last es made → n ≤ last → lookup (nat_eq n) es ≡ None
none_below n last made [] rises low = refl
none_below n last made (e ∷ more) rises low =
    let first = rises.0 in
    ap (λ (b : Bool). cond b (Some e.1) (lookup (nat_eq n) more)) (ne_eqb n e.0 (λ is. omega (arith, first, low, is)))
    ∙ none_below n e.0 made more rises.1 (omega (arith, first, low))

pub passing_listed : (pick : SessionRecord → Bool) (last made : ℕ) (es : List (ℕ × SessionRecord)) → Rises last es made
    → passing made (λ s. passes pick (lookup (nat_eq s) es)) ≡ counted pick es
passing_listed pick last made [] rises = passing_none made (λ s. false) (λ s. refl)
passing_listed pick last made (e ∷ more) rises =
    let first = rises.0 in
    passing_more made e.0 (pick e.1) (λ s. passes pick (lookup (nat_eq s) more)) (λ s. passes pick (lookup (nat_eq s) (e ∷ more)))
    (omega (arith, first)) (rises_most e.0 made more rises.1)
    (ap (passes pick) (none_below e.0 e.0 made more rises.1 (omega arith)))
    (elim (eqb_tells e.0 e.0) [
      | inl p ↦ ap (λ (b : Bool). passes pick (cond b (Some e.1) (lookup (nat_eq e.0) more))) p.0
      | inr p ↦ absurd (p.1 refl)
    ])
    (λ s other. ap (λ (b : Bool). passes pick (cond b (Some e.1) (lookup (nat_eq s) more))) (ne_eqb s e.0 other))
    ∙ ap (λ n. one_if (pick e.1) + n) (passing_listed pick e.0 made more rises.1)

pub counted_most : (pick : SessionRecord → Bool) (t : TableRecord) → Rises 0 t.sessions t.made → counted pick t.sessions ≤ t.made
counted_most pick t rises =
    let most = passing_most t.made (λ s. passes pick (session_of s t)) in
    let same = passing_listed pick 0 t.made t.sessions rises in
    omega (arith, most, same)

-- the sessions at an address, those that count for one more there, and those of its user
abbrev pub is_same : Address → SessionRecord → Bool
is_same a x = same_address x.address a

abbrev pub is_other : Address → SessionRecord → Bool
is_other a x = not (same_address x.address a)

abbrev pub is_users_other : Address → SessionRecord → Bool
is_users_other a x = same_bare x.address a && not (same_address x.address a)

other_by : (a : Address) (lines : List stage.Line) (o : Option SessionRecord) → ((x : SessionRecord) → o ≡ Some x → IsSession x)
    → (is_there (session_by lines o) && not (is_at a (session_by lines o))) ≡ passes (is_other a) o
other_by a lines None each = refl
other_by a lines (Some x) each = ap (λ b. b && not (b && same_address x.address a)) (there_is x lines (each x refl))

users_by : (a : Address) (lines : List stage.Line) (o : Option SessionRecord) → ((x : SessionRecord) → o ≡ Some x → IsSession x)
    → (is_there (session_by lines o) && (same_bare (session_by lines o).rest.address a && not (is_at a (session_by lines o))))
    ≡ passes (is_users_other a) o
users_by a lines None each = refl
users_by a lines (Some x) each =
    ap (λ b. b && (same_bare x.address a && not (b && same_address x.address a))) (there_is x lines (each x refl))

pub place_is : (k : Kept) (a : Address) (t : TableRecord) (answers : List (List Answer)) (book : Book) (rooms : Rooms) (kept : Archives)
    → IsTied t → Rises 0 t.sessions t.made → k.world ≡ world_of t answers book rooms kept
    → has_place k a
    ≡ (nat_lt (counted (is_other a) t.sessions) k.head.limits.sessions && nat_lt (counted (is_users_other a) t.sessions) k.head.limits.of_user)
place_is k a t answers book rooms kept tied rises world =
    ap (λ (x : World KeptTraffic). nat_lt (passing x.made (λ s. is_there (x.sessions s) && not (is_at a (x.sessions s)))) k.head.limits.sessions
    && nat_lt (passing x.made (λ s. is_there (x.sessions s) && (same_bare (x.sessions s).rest.address a && not (is_at a (x.sessions s)))))
    k.head.limits.of_user) world
    ∙ (λ i. nat_lt (all i) k.head.limits.sessions && nat_lt (users i) k.head.limits.of_user)
  where
    all : passing t.made (λ s. is_there (sessions_of t s) && not (is_at a (sessions_of t s))) ≡ counted (is_other a) t.sessions
    all =
        (λ i. passing t.made (λ s. other_by a t.lines (session_of s t) (tied.each s) i))
        ∙ passing_listed (is_other a) 0 t.made t.sessions rises

    users : passing t.made (λ s. is_there (sessions_of t s) && (same_bare (sessions_of t s).rest.address a && not (is_at a (sessions_of t s))))
        ≡ counted (is_users_other a) t.sessions
    users =
        (λ i. passing t.made (λ s. users_by a t.lines (session_of s t) (tied.each s) i))
        ∙ passing_listed (is_users_other a) 0 t.made t.sessions rises

-- those that pass, and those that don't
pub counted_both : (pick : SessionRecord → Bool) (es : List (ℕ × SessionRecord)) → counted pick es + counted (λ x. not (pick x)) es ≡ length es
counted_both pick [] = refl
counted_both pick (e ∷ more) = by (pick e.1) (counted_both pick more)
  where
    by : (b : Bool) → counted pick more + counted (λ x. not (pick x)) more ≡ length more
        → (one_if b + counted pick more) + (one_if (not b) + counted (λ x. not (pick x)) more) ≡ suc (length more)
    by true rest = omega (arith, rest)
    by false rest = omega (arith, rest)

-- all that pass are of one user, so it is enough to look at the user's
pub counted_of_user : (local : Option (List ℕ)) (pick : SessionRecord → Bool) (es : List (ℕ × SessionRecord))
    → ((x : SessionRecord) → pick x ≡ true → same_part x.address.local local ≡ true) → counted pick (of_user local es) ≡ counted pick es
counted_of_user local pick [] theirs = refl
counted_of_user local pick (e ∷ more) theirs = by (same_part e.1.address.local local) refl (counted_of_user local pick more theirs)
  where
    none : same_part e.1.address.local local ≡ false → (b : Bool) → pick e.1 ≡ b → one_if b ≡ 0
    none other true is = absurd (true≢false (sym (theirs e.1 is) ∙ other))
    none other false is = refl

    by : (b : Bool) → same_part e.1.address.local local ≡ b → counted pick (of_user local more) ≡ counted pick more
        → counted pick (cond b (e ∷ of_user local more) (of_user local more)) ≡ one_if (pick e.1) + counted pick more
    by true own rest = ap (λ n. one_if (pick e.1) + n) rest
    by false other rest =
        let zero : one_if (pick e.1) ≡ 0 = none other (pick e.1) refl in
        omega (arith, zero, rest)

and_left : (b c : Bool) → (b && c) ≡ true → b ≡ true
and_left true c both = refl
and_left false c both = both

its_user : (a : Address) (x : SessionRecord) → same_bare x.address a ≡ true → same_part x.address.local a.local ≡ true
its_user a x same = and_left (same_part x.address.local a.local) (bytes_eq x.address.domain a.domain) same

pub same_of_user : (a : Address) (es : List (ℕ × SessionRecord)) → counted (is_same a) (of_user a.local es) ≡ counted (is_same a) es
same_of_user a es = counted_of_user a.local (is_same a) es
    (λ x same. its_user a x (and_left (same_bare x.address a) (same_part x.address.resource a.resource) same))

pub others_of_user : (a : Address) (es : List (ℕ × SessionRecord))
    → counted (is_users_other a) (of_user a.local es) ≡ counted (is_users_other a) es
others_of_user a es = counted_of_user a.local (is_users_other a) es
    (λ x other. its_user a x (and_left (same_bare x.address a) (not (same_address x.address a)) other))

-- a count, where none is left
pub counted_end : (n : ℕ) (pick : SessionRecord → Bool) (rest es : List (ℕ × SessionRecord)) → rest ≡ [] → n + counted pick rest ≡ counted pick es
    → counted pick es ≡ n
counted_end n pick rest es end all =
    let none : counted pick rest ≡ 0 = ap (counted pick) end in
    omega (arith, none, all)

-- those that were counted are no more than there are
pub counted_within : (pick : SessionRecord → Bool) (count n : ℕ) (rest es : List (ℕ × SessionRecord)) → count ≡ length es → rest ≡ []
    → n + counted pick rest ≡ counted pick es → n ≤ count
counted_within pick count n rest es many end all =
    let both = counted_both pick es in
    let counts = counted_end n pick rest es end all in
    omega (arith, both, counts, many)

-- all less those at the address are the others
pub place_counted : (k : Kept) (a : Address) (t : TableRecord) (answers : List (List Answer)) (book : Book) (rooms : Rooms) (kept : Archives)
    (limits : Limits) (count n m : ℕ) (rest : List (ℕ × SessionRecord))
    → IsTied t → Rises 0 t.sessions t.made → k.world ≡ world_of t answers book rooms kept → k.head.limits ≡ limits
    → count ≡ length t.sessions → rest ≡ [] → n + counted (is_same a) rest ≡ counted (is_same a) t.sessions
    → m + counted (is_users_other a) rest ≡ counted (is_users_other a) t.sessions
    → has_place k a ≡ (nat_lt (count - n) limits.sessions && nat_lt m limits.of_user)
place_counted k a t answers book rooms kept limits count n m rest tied rises world most many end same users =
    place_is k a t answers book rooms kept tied rises world
    ∙ (λ i. nat_lt (others i) (most i).sessions && nat_lt (counted_end m (is_users_other a) rest t.sessions end users i) (most i).of_user)
  where
    others : counted (is_other a) t.sessions ≡ count - n
    others =
        let both = counted_both (is_same a) t.sessions in
        let counts = counted_end n (is_same a) rest t.sessions end same in
        omega (arith, both, counts, many)

-- one more is counted, where one is left
pub counted_below : (n : ℕ) (pick : SessionRecord → Bool) (t : TableRecord) (e : ℕ × SessionRecord) (rest more : List (ℕ × SessionRecord))
    → Rises 0 t.sessions t.made → n + counted pick rest ≡ counted pick t.sessions → rest ≡ e ∷ more → pick e.1 ≡ true → n + 1 ≤ t.made
counted_below n pick t e rest more rises all left is =
    let here : one_if (pick e.1) ≡ 1 = ap one_if is in
    let next : counted pick rest ≡ one_if (pick e.1) + counted pick more = ap (counted pick) left in
    let most = counted_most pick t rises in
    omega (arith, here, next, most, all)

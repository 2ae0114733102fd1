-- The sessions of a user, by number and as the table lists them.
use Rattle.std.proofs.Common.{◌≡◌, inl, inr, ℕ, zero, suc, ◌<◌, ◌≤◌, ◌&&◌, nat_eq, cond, Bool, true, false, List, []}
use Rattle.std.proofs.Common.{◌∷◌, ◌++◌, Option, Some, None, if◌then◌else◌, arith, refl, sym, ap, ◌∙◌}
use Rattle.std.specs.Prelude.{flat_map, map, is_some}
use Rattle.std.specs.List.{filter, list_any}
use Rattle.std.specs.Map.{lookup}
use Rattle.std.proofs.lemmas.Bool.{ne_eqb}
use Rattle.std.proofs.lemmas.Bool.Decides.{eqb_tells}
use Rattle.std.proofs.lemmas.List.{append-nil, append_assoc}
use Rattle.jid_core.specs.Addresses.{Address, same_part}
use Rattle.stanza_model.specs.declared.here.Here.{Here}
use Rattle.session_table.specs.declared.line.Line as stage
use Rattle.session_table.specs.Sessions.{SessionRecord}
use Rattle.session_table.specs.Tables.{Rises, of_user, session_of}
use Rattle.house_model.specs.Numbered.{all_passing}
use Rattle.house_model.specs.Lookups.{here, is_of, is_there, sessions_of}
use Rattle.house_model.specs.Presences.{available_of, named, names}
use Rattle.house_model.specs.Sessions.{Session}
use Rattle.house_model.specs.Traffic.{KeptTraffic}
use Rattle.house_world.specs.declared.world.World as code
use Rattle.house_world.specs.Views.{session_by}
use Rattle.house_routing.specs.Listings.{here_from, here_in, is_named, numbers_by}
use Rattle.house_world.specs.Wholes.{IsSession, IsTied}
use Rattle.house_world.specs.Worlds.{seen}
use Rattle.house_world.proofs.AtLemmas.{there_is}
use Rattle.house_world.proofs.DueLemmas.{passes}
use Rattle.house_routing.proofs.CountLemmas.{none_below, rises_most}

abbrev one_of : Bool → ℕ → List ℕ
one_of b n = if b then n ∷ [] else []

none_passing : (n : ℕ) (test : ℕ → Bool) → ((s : ℕ) → s ≤ n → test s ≡ false) → all_passing n test ≡ []
none_passing zero test none = refl
none_passing (suc n) test none = λ i.
    none_passing n test (λ s low. none s (omega (arith, low))) i ++ one_of (none (suc n) (omega arith) i) (suc n)

-- a number passes that is below all the others
all_more : (n k : ℕ) (b : Bool) (test other : ℕ → Bool) → 0 < k → k ≤ n → ((s : ℕ) → s ≤ k → test s ≡ false) → other k ≡ b
    → ((s : ℕ) → (s ≡ k → ⊥) → other s ≡ test s) → all_passing n other ≡ one_of b k ++ all_passing n test
all_more zero k b test other above low none here same = absurd (omega (arith, above, low))
all_more (suc n) k b test other above low none here same = elim (eqb_tells k (suc n)) [
  | inl p ↦
      let is : k ≡ suc n = p.1 in
      let before : all_passing n other ≡ [] =
      none_passing n other (λ s under. same s (λ e. omega (arith, is, e, under)) ∙ none s (omega (arith, is, under))) in
      let rest : all_passing n test ≡ [] = none_passing n test (λ s under. none s (omega (arith, is, under))) in
      let last : test (suc n) ≡ false = none (suc n) (omega (arith, is)) in
      let own : one_of (other (suc n)) (suc n) ≡ one_of b k = (λ i. one_of ((ap other (sym is) ∙ here) i) (sym is i)) in
      (λ i. before i ++ own i)
      ∙ (sym (append-nil (one_of b k)) ∙ sym (λ i. one_of b k ++ (rest i ++ one_of (last i) (suc n))))
  | inr p ↦
      let apart : (k ≡ suc n → ⊥) = p.1 in
      let before : all_passing n other ≡ one_of b k ++ all_passing n test =
      all_more n k b test other above (omega (arith, low, apart)) none here same in
      let last : one_of (other (suc n)) (suc n) ≡ one_of (test (suc n)) (suc n) =
      ap (λ c. one_of c (suc n)) (same (suc n) (λ e. apart (sym e))) in
      (λ i. before i ++ last i) ∙ append_assoc (one_of b k) (all_passing n test) (one_of (test (suc n)) (suc n))
]

abbrev pub is_users : List ℕ → SessionRecord → Bool
is_users user x = same_part x.address.local (Some user)

-- the sessions that pass a test
abbrev pub listed_by : Bool → ℕ × SessionRecord → List Here → List Here
listed_by true e later = here_from e.0 e.1 ∷ later
listed_by false e later = later

abbrev pub listed : (SessionRecord → Bool) → List (ℕ × SessionRecord) → List Here
listed pick [] = []
listed pick (e ∷ more) = listed_by (pick e.1) e (listed pick more)

own_number : (e : ℕ × SessionRecord) (more : List (ℕ × SessionRecord)) → lookup (nat_eq e.0) (e ∷ more) ≡ Some e.1
own_number e more = elim (eqb_tells e.0 e.0) [
  | inl p ↦ ap (λ (b : Bool). cond b (Some e.1) (lookup (nat_eq e.0) more)) p.0
  | inr p ↦ absurd (p.1 refl)
]

all_picked : (pick : SessionRecord → Bool) (last made : ℕ) (es : List (ℕ × SessionRecord)) → Rises last es made
    → all_passing made (λ s. passes pick (lookup (nat_eq s) es)) ≡ numbers_by pick es
all_picked pick last made [] rises = none_passing made (λ s. false) (λ s low. refl)
all_picked pick last made (e ∷ more) rises =
    let first = rises.0 in
    all_more made e.0 (pick e.1) (λ s. passes pick (lookup (nat_eq s) more)) (λ s. passes pick (lookup (nat_eq s) (e ∷ more)))
    (omega (arith, first)) (rises_most e.0 made more rises.1)
    (λ s low. ap (passes pick) (none_below s e.0 made more rises.1 low))
    (ap (passes pick) (own_number e more))
    (λ s other. ap (λ (b : Bool). passes pick (cond b (Some e.1) (lookup (nat_eq s) more))) (ne_eqb s e.0 other))
    ∙ ap (λ ns. one_of (pick e.1) e.0 ++ ns) (all_picked pick e.0 made more rises.1)

-- one that is found later in the list is found in the whole
later_found : (last made s : ℕ) (e : ℕ × SessionRecord) (more : List (ℕ × SessionRecord)) (x : SessionRecord) → Rises last (e ∷ more) made
    → lookup (nat_eq s) more ≡ Some x → lookup (nat_eq s) (e ∷ more) ≡ Some x
later_found last made s e more x rises at = elim (eqb_tells s e.0) [
  | inl p ↦ absurd (let none = none_below s e.0 made more rises.1 (omega (arith, p.1)) in let both : None ≡ Some x = sym none ∙ at in cc)
  | inr p ↦ ap (λ (b : Bool). cond b (Some e.1) (lookup (nat_eq s) more)) (ne_eqb s e.0 p.1) ∙ at
]

map_listed : (g : ℕ → Here) (pick : SessionRecord → Bool) (last made : ℕ) (es : List (ℕ × SessionRecord)) → Rises last es made
    → ((s : ℕ) (x : SessionRecord) → lookup (nat_eq s) es ≡ Some x → g s ≡ here_from s x) → map g (numbers_by pick es) ≡ listed pick es
map_listed g pick last made [] rises are = refl
map_listed g pick last made (e ∷ more) rises are =
    by (pick e.1) (are e.0 e.1 (own_number e more))
    (map_listed g pick e.0 made more rises.1 (λ s x at. are s x (later_found last made s e more x rises at)))
  where
    by : (b : Bool) → g e.0 ≡ here_from e.0 e.1 → map g (numbers_by pick more) ≡ listed pick more
        → map g (one_of b e.0 ++ numbers_by pick more) ≡ listed_by b e (listed pick more)
    by true own rest = λ i. own i ∷ rest i
    by false own rest = rest

-- a session that is kept passes a test where it is picked
abbrev IsPick : (Session KeptTraffic → Bool) → (SessionRecord → Bool) → Type 0
IsPick test pick = (ls : List stage.Line) (o : Option SessionRecord) → ((x : SessionRecord) → o ≡ Some x → IsSession x)
    → test (session_by ls o) ≡ passes pick o

of_by : (user : List ℕ) → IsPick (is_of user) (is_users user)
of_by user ls None each = refl
of_by user ls (Some x) each = λ i. there_is x ls (each x refl) i && same_part x.address.local (Some user)

abbrev pub is_any : SessionRecord → Bool
is_any x = true

there_by : IsPick is_there is_any
there_by ls None each = refl
there_by ls (Some x) each = there_is x ls (each x refl)

abbrev here_by : ℕ → Session KeptTraffic → Here
here_by s y = record {
  session = s;
  address = y.rest.address;
  available = is_some y.rest.manner.presence;
  priority = y.rest.manner.priority;
  wants_roster = y.rest.manner.wants_roster;
  pushes = y.rest.manner.pushes;
}

here_is : (a : code.World) (s : ℕ) (x : SessionRecord) → session_of s a.table ≡ Some x → here (seen a) s ≡ here_from s x
here_is a s x at = ap (λ (o : Option SessionRecord). here_by s (session_by a.table.lines o)) at

picked_is : (a : code.World) (test : Session KeptTraffic → Bool) (pick : SessionRecord → Bool) → IsPick test pick → IsTied a.table
    → Rises 0 a.table.sessions a.table.made
    → listed pick a.table.sessions ≡ map (here (seen a)) (all_passing a.table.made (λ s. test ((seen a).sessions s)))
picked_is a test pick is tied rises =
    let t = a.table in
    sym (
    ap (map (here (seen a)))
    ((λ i. all_passing t.made (λ s. is t.lines (session_of s t) (tied.each s) i)) ∙ all_picked pick 0 t.made t.sessions rises)
    ∙ map_listed (here (seen a)) pick 0 t.made t.sessions rises (here_is a)
    )

listed_is : (a : code.World) (user : List ℕ) → IsTied a.table → Rises 0 a.table.sessions a.table.made
    → listed (is_users user) a.table.sessions ≡ sessions_of (seen a) user
listed_is a user tied rises = picked_is a (is_of user) (is_users user) (of_by user) tied rises

-- of those that are listed, the ones that pass a test too
filter_listed : (p : Here → Bool) (pick q : SessionRecord → Bool) (es : List (ℕ × SessionRecord))
    → ((n : ℕ) (x : SessionRecord) → p (here_from n x) ≡ q x) → filter p (listed pick es) ≡ listed (λ x. pick x && q x) es
filter_listed p pick q [] same = refl
filter_listed p pick q (e ∷ more) same = by (pick e.1) (q e.1) (same e.0 e.1) (filter_listed p pick q more same)
  where
    by : (b c : Bool) → p (here_from e.0 e.1) ≡ c → filter p (listed pick more) ≡ listed (λ x. pick x && q x) more
        → filter p (listed_by b e (listed pick more)) ≡ listed_by (b && c) e (listed (λ x. pick x && q x) more)
    by false c is rest = rest
    by true true is rest = λ i. if is i then here_from e.0 e.1 ∷ rest i else rest i
    by true false is rest = λ i. if is i then here_from e.0 e.1 ∷ rest i else rest i

named_is : (a : code.World) (addresses : List Address) → IsTied a.table → Rises 0 a.table.sessions a.table.made
    → listed (is_named addresses) a.table.sessions ≡ named (seen a) addresses
named_is a addresses tied rises =
    sym (
    ap (filter (λ h. list_any (names h) addresses)) (sym (picked_is a is_there is_any there_by tied rises))
    ∙ filter_listed (λ h. list_any (names h) addresses) is_any (λ x. list_any (names (here_from 0 x)) addresses) a.table.sessions
    (λ n x. refl)
    )

-- Sessions in the order of their users.
available_is : (a : code.World) (user : List ℕ) → IsTied a.table → Rises 0 a.table.sessions a.table.made
    → available_of (seen a) user ≡ listed (λ x. is_users user x && is_some x.presence) a.table.sessions
available_is a user tied rises =
    ap (filter (λ h. h.available)) (sym (listed_is a user tied rises))
    ∙ filter_listed (λ h. h.available) (is_users user) (λ x. is_some x.presence) a.table.sessions (λ n x. refl)

-- the sessions of a user, as the table finds them

and_true : (b : Bool) → (b && true) ≡ b
and_true true = refl
and_true false = refl

user_listed : (user : List ℕ) (pick : SessionRecord → Bool) (es : List (ℕ × SessionRecord))
    → listed pick (of_user (Some user) es) ≡ listed (λ x. is_users user x && pick x) es
user_listed user pick [] = refl
user_listed user pick (e ∷ more) = by (is_users user e.1) (user_listed user pick more)
  where
    by : (b : Bool) → listed pick (of_user (Some user) more) ≡ listed (λ x. is_users user x && pick x) more
        → listed pick (cond b (e ∷ of_user (Some user) more) (of_user (Some user) more))
        ≡ listed_by (b && pick e.1) e (listed (λ x. is_users user x && pick x) more)
    by true rest = ap (listed_by (pick e.1) e) rest
    by false rest = rest

abbrev pub is_shown : SessionRecord → Bool
is_shown x = is_some x.presence

pub users_sessions : (a : code.World) (user : List ℕ) → IsTied a.table → Rises 0 a.table.sessions a.table.made
    → listed is_any (of_user (Some user) a.table.sessions) ≡ sessions_of (seen a) user
users_sessions a user tied rises =
    user_listed user is_any a.table.sessions
    ∙ ((λ i. listed (λ x. and_true (is_users user x) i) a.table.sessions) ∙ listed_is a user tied rises)

pub users_available : (a : code.World) (user : List ℕ) → IsTied a.table → Rises 0 a.table.sessions a.table.made
    → listed is_shown (of_user (Some user) a.table.sessions) ≡ available_of (seen a) user
users_available a user tied rises = user_listed user is_shown a.table.sessions ∙ sym (available_is a user tied rises)

pub listed_end : (found : List Here) (pick : SessionRecord → Bool) (rest : List (ℕ × SessionRecord)) (all : List Here) → rest ≡ []
    → found ++ listed pick rest ≡ all → found ≡ all
listed_end found pick rest all end done = sym (append-nil found) ∙ (sym (λ i. found ++ listed pick (end i)) ∙ done)

-- what is found of the numbers of those that pass
found_listed : (find : ℕ → Option SessionRecord) (pick : SessionRecord → Bool) (last made : ℕ) (es : List (ℕ × SessionRecord))
    → Rises last es made → ((s : ℕ) (x : SessionRecord) → lookup (nat_eq s) es ≡ Some x → find s ≡ Some x)
    → flat_map (λ s. here_in s (find s)) (numbers_by pick es) ≡ listed pick es
found_listed find pick last made [] rises are = refl
found_listed find pick last made (e ∷ more) rises are =
    by (pick e.1) (are e.0 e.1 (own_number e more))
    (found_listed find pick e.0 made more rises.1 (λ s x at. are s x (later_found last made s e more x rises at)))
  where
    by : (b : Bool) → find e.0 ≡ Some e.1 → flat_map (λ s. here_in s (find s)) (numbers_by pick more) ≡ listed pick more
        → flat_map (λ s. here_in s (find s)) (one_of b e.0 ++ numbers_by pick more) ≡ listed_by b e (listed pick more)
    by true own rest = λ i. here_in e.0 (own i) ++ rest i
    by false own rest = rest

pub named_found : (a : code.World) (addresses : List Address) → IsTied a.table → Rises 0 a.table.sessions a.table.made
    → flat_map (λ s. here_in s (session_of s a.table)) (numbers_by (is_named addresses) a.table.sessions) ≡ named (seen a) addresses
named_found a addresses tied rises =
    found_listed (λ s. session_of s a.table) (is_named addresses) 0 a.table.made a.table.sessions rises (λ s x at. at)
    ∙ named_is a addresses tied rises

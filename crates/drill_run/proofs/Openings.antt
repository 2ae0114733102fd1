-- The names in the house of the drills are read as they stand.
use Rattle.std.proofs.Common.{◌≡◌, ℕ, zero, suc, ◌+◌, ◌<◌, List, [], ◌∷◌, ◌++◌, length, map, take, nat_lt, true, Ok, Err, None, codes, refl, sym, ap, ap₂, ◌∙◌, arith}
use Rattle.std.proofs.lemmas.Fmt.{decimal_digit}
use Rattle.std.proofs.lemmas.Bool.{and_from, and_parts, ltb-true}
use Rattle.std.specs.List.{list_all}
use Rattle.std.specs.Prelude.{Result}
use Rattle.std.specs.Str.{str_to_ascii_lowercase}
use Rattle.jid_core.specs.Addresses.{address_of, joined}
use Rattle.jid_core.specs.AsciiParts.{is_local_byte}
use Rattle.jid_core.specs.Names.{are_distinct}
use Rattle.jid_core.specs.Preparation.{IsCause, is_local, local_of}
use Rattle.jid_core.specs.declared.fault.JidFault.{JidFault}
use Rattle.jid_core.specs.declared.fault.JidFault.TheVariants.{Bad, Empty, Long, NoMemory}
use Rattle.jid_core.proofs.PreparationLemmas.{domain_of_short, is_local-local_of, local_of_short}
use Rattle.replay_script.specs.DrillStanzas.{domain, user}
use Rattle.replay_script.specs.Drills.{clients}

-- a user by its bytes
abbrev known : (i : ℕ) → List ℕ
known i = 117 ∷ (48 + i) ∷ []

user-known : (i : ℕ) → i < 8 → user i ≡ known i
user-known i low = ap (λ bytes. 117 ∷ bytes) (decimal_digit i (omega (arith, low)))

short : (name : List ℕ) → nat_lt 0 (length name) ≡ true → list_all is_local_byte name ≡ true → nat_lt (length name) 1024 ≡ true
    → str_to_ascii_lowercase name ≡ name → local_of name ≡ Ok name
short name some all few low = local_of_short name (ltb-true 0 (length name) some) all (ltb-true (length name) 1024 few) ∙ ap Ok low

known-read : (i : ℕ) → i < 8 → local_of (known i) ≡ Ok (known i)
known-read zero low = short (known 0) refl refl refl refl
known-read (suc zero) low = short (known 1) refl refl refl refl
known-read (suc (suc zero)) low = short (known 2) refl refl refl refl
known-read (suc (suc (suc zero))) low = short (known 3) refl refl refl refl
known-read (suc (suc (suc (suc zero)))) low = short (known 4) refl refl refl refl
known-read (suc (suc (suc (suc (suc zero))))) low = short (known 5) refl refl refl refl
known-read (suc (suc (suc (suc (suc (suc zero)))))) low = short (known 6) refl refl refl refl
known-read (suc (suc (suc (suc (suc (suc (suc zero))))))) low = short (known 7) refl refl refl refl
known-read (suc (suc (suc (suc (suc (suc (suc (suc i)))))))) low = absurd (omega (arith, low))

pub user_read : (i : ℕ) → i < 8 → local_of (user i) ≡ Ok (user i)
user_read i low = ap local_of (user-known i low) ∙ (known-read i low ∙ ap Ok (sym (user-known i low)))

pub domain_read : address_of (codes "example.org") ≡ Ok domain
domain_read =
    ap (λ d. joined (Ok None) d (Ok None)) (domain_of_short (codes "example.org") (ltb-true 0 11 refl) refl (ltb-true 11 1024 refl))

-- so what is read is that, and the only fault is want of memory
abbrev value-or : {A : Type 0} → A → Result A JidFault → A
value-or a (Ok b) = b
value-or a (Err fault) = a

pub read_is : {A : Type 0} (read : Result A JidFault) (a b : A) → read ≡ Ok a → read ≡ Ok b → b ≡ a
read_is read a b is same = ap (value-or a) (sym same ∙ is)

apart : {A : Type 0} (a : A) (fault : JidFault) → Ok a ≡ Err fault → ⊥
apart a fault e = cc

pub no_fault : {A : Type 0} (read : Result A JidFault) (a : A) (fault : JidFault) → read ≡ Ok a → IsCause read fault → fault ≡ NoMemory
no_fault read a NoMemory is cause = refl
no_fault read a (Empty which) is cause = absurd (apart a (Empty which) (sym is ∙ cause))
no_fault read a (Long which) is cause = absurd (apart a (Long which) (sym is ∙ cause))
no_fault read a (Bad which place) is cause = absurd (apart a (Bad which place) (sym is ∙ cause))

-- The users, one after the other.

pub taken : (i : ℕ) → i < 8 → map user (take i clients) ++ user i ∷ [] ≡ map user (take (i + 1) clients)
taken zero low = refl
taken (suc zero) low = refl
taken (suc (suc zero)) low = refl
taken (suc (suc (suc zero))) low = refl
taken (suc (suc (suc (suc zero)))) low = refl
taken (suc (suc (suc (suc (suc zero))))) low = refl
taken (suc (suc (suc (suc (suc (suc zero)))))) low = refl
taken (suc (suc (suc (suc (suc (suc (suc zero))))))) low = refl
taken (suc (suc (suc (suc (suc (suc (suc (suc i)))))))) low = absurd (omega (arith, low))

all-local : (is : List ℕ) → list_all (λ i. nat_lt i 8) is ≡ true → list_all is_local (map user is) ≡ true
all-local [] all = refl
all-local (i ∷ more) all =
    let b = and_parts (nat_lt i 8) (list_all (λ j. nat_lt j 8) more) all in
    and_from (is_local (user i)) (list_all is_local (map user more)) (is_local-local_of (user i) (user i) (user_read i (ltb-true i 8 b.0)))
    (all-local more b.1)

pub users_local : list_all is_local (map user clients) ≡ true
users_local = all-local clients refl

users-known : (is : List ℕ) → list_all (λ i. nat_lt i 8) is ≡ true → map user is ≡ map known is
users-known [] all = refl
users-known (i ∷ more) all =
    let b = and_parts (nat_lt i 8) (list_all (λ j. nat_lt j 8) more) all in
    ap₂ (λ (u : List ℕ) (us : List (List ℕ)). u ∷ us) (user-known i (ltb-true i 8 b.0)) (users-known more b.1)

pub users_differ : are_distinct (map user clients) ≡ true
users_differ = ap are_distinct (users-known clients refl)

-- The addresses of a drill, as they are read.
use Rattle.std.proofs.Common.{◌≡◌, ℕ, zero, suc, ◌+◌, ◌<◌, List, [], ◌∷◌, ◌++◌, refl, sym, ap, ◌∙◌, subst, Some, None, Ok, codes, arith}
use Rattle.std.proofs.lemmas.Bool.{ltb-true}
use Rattle.std.proofs.lemmas.Fmt.{decimal_digit}
use Rattle.std.specs.Fmt.{decimal}
use Rattle.std.specs.Prelude.{IfOk, IsOk, is_ok, Result, Err}
use Rattle.jid_core.specs.declared.fault.JidFault.{JidFault}
use Rattle.jid_core.specs.Addresses.{address_of, address_text, joined, some_of}
use Rattle.jid_core.specs.Preparation.{domain_of, local_of, resource_of}
use Rattle.jid_core.proofs.PreparationLemmas.{local_of_short, domain_of_short, resource_of_short}
use Rattle.replay_script.specs.DrillStanzas.{client, domain, room, seat, user}

-- What is read as it is known.

pub known : {A : Type 0} (r : Result A JidFault) (a : A) → r ≡ Ok a → IsOk r
known r a e = ap is_ok e

given : {A : Type 0} → A → Result A JidFault → A
given a (Ok p) = p
given a (Err fault) = a

pub known_is : {A E : Type 0} (r : Result A E) (read : Result A JidFault) (a : A) → read ≡ Ok a → IfOk r (λ p. read ≡ Ok p) → IfOk r (λ p. p ≡ a)
unfolding given
known_is (Ok p) read a e h = ap (given a) (sym h ∙ e)
known_is (Err fault) read a e h = tt

-- what holds of each number below eight
pub below-eight : (P : ℕ → Type 0) → P 0 → P 1 → P 2 → P 3 → P 4 → P 5 → P 6 → P 7 → (i : ℕ) → i < 8 → P i
below-eight P a b c d e f g h zero low = a
below-eight P a b c d e f g h (suc zero) low = b
below-eight P a b c d e f g h (suc (suc zero)) low = c
below-eight P a b c d e f g h (suc (suc (suc zero))) low = d
below-eight P a b c d e f g h (suc (suc (suc (suc zero)))) low = e
below-eight P a b c d e f g h (suc (suc (suc (suc (suc zero))))) low = f
below-eight P a b c d e f g h (suc (suc (suc (suc (suc (suc zero)))))) low = g
below-eight P a b c d e f g h (suc (suc (suc (suc (suc (suc (suc zero))))))) low = h
below-eight P a b c d e f g h (suc (suc (suc (suc (suc (suc (suc (suc i)))))))) low = absurd (omega arith)

-- the name of a user by its digits
abbrev name_of : List ℕ → List ℕ
name_of digits = codes "u" ++ digits

pub digit-of : (P : List ℕ → Type 0) (i : ℕ) → i < 8 → P ((48 + i) ∷ []) → P (decimal i)
digit-of P i low p = subst P (sym (decimal_digit i (omega arith))) p

-- Parts.

local-read : (i : ℕ) → i < 8 → local_of (name_of ((48 + i) ∷ [])) ≡ Ok (name_of ((48 + i) ∷ []))
local-read =
    below-eight (λ i. local_of (name_of ((48 + i) ∷ [])) ≡ Ok (name_of ((48 + i) ∷ [])))
    (local_of_short (codes "u0") (ltb-true 0 2 refl) refl (ltb-true 2 1024 refl))
    (local_of_short (codes "u1") (ltb-true 0 2 refl) refl (ltb-true 2 1024 refl))
    (local_of_short (codes "u2") (ltb-true 0 2 refl) refl (ltb-true 2 1024 refl))
    (local_of_short (codes "u3") (ltb-true 0 2 refl) refl (ltb-true 2 1024 refl))
    (local_of_short (codes "u4") (ltb-true 0 2 refl) refl (ltb-true 2 1024 refl))
    (local_of_short (codes "u5") (ltb-true 0 2 refl) refl (ltb-true 2 1024 refl))
    (local_of_short (codes "u6") (ltb-true 0 2 refl) refl (ltb-true 2 1024 refl))
    (local_of_short (codes "u7") (ltb-true 0 2 refl) refl (ltb-true 2 1024 refl))

nick-read : (i : ℕ) → i < 8 → resource_of (name_of ((48 + i) ∷ [])) ≡ Ok (name_of ((48 + i) ∷ []))
nick-read =
    below-eight (λ i. resource_of (name_of ((48 + i) ∷ [])) ≡ Ok (name_of ((48 + i) ∷ [])))
    (resource_of_short (codes "u0") (ltb-true 0 2 refl) refl (ltb-true 2 1024 refl))
    (resource_of_short (codes "u1") (ltb-true 0 2 refl) refl (ltb-true 2 1024 refl))
    (resource_of_short (codes "u2") (ltb-true 0 2 refl) refl (ltb-true 2 1024 refl))
    (resource_of_short (codes "u3") (ltb-true 0 2 refl) refl (ltb-true 2 1024 refl))
    (resource_of_short (codes "u4") (ltb-true 0 2 refl) refl (ltb-true 2 1024 refl))
    (resource_of_short (codes "u5") (ltb-true 0 2 refl) refl (ltb-true 2 1024 refl))
    (resource_of_short (codes "u6") (ltb-true 0 2 refl) refl (ltb-true 2 1024 refl))
    (resource_of_short (codes "u7") (ltb-true 0 2 refl) refl (ltb-true 2 1024 refl))

pub user_read : (i : ℕ) → i < 8 → local_of (user i) ≡ Ok (user i)
user_read i low = digit-of (λ d. local_of (name_of d) ≡ Ok (name_of d)) i low (local-read i low)

pub resource_read : resource_of (codes "r") ≡ Ok (codes "r")
resource_read = resource_of_short (codes "r") (ltb-true 0 1 refl) refl (ltb-true 1 1024 refl)

room-local : local_of (codes "drill") ≡ Ok (codes "drill")
room-local = local_of_short (codes "drill") (ltb-true 0 5 refl) refl (ltb-true 5 1024 refl)

room-domain : domain_of (codes "rooms.example.org") ≡ Ok (codes "rooms.example.org")
room-domain = domain_of_short (codes "rooms.example.org") (ltb-true 0 17 refl) refl (ltb-true 17 1024 refl)

domain-read : domain_of (codes "example.org") ≡ Ok (codes "example.org")
domain-read = domain_of_short (codes "example.org") (ltb-true 0 11 refl) refl (ltb-true 11 1024 refl)

-- Addresses.

bare-read : (local name : List ℕ) → local_of local ≡ Ok local → domain_of name ≡ Ok name
    → joined (some_of (local_of local)) (domain_of name) (Ok None) ≡ Ok (record { local = Some local; domain = name; resource = None })
bare-read local name first second =
    ap (λ p. joined (some_of p) (domain_of name) (Ok None)) first ∙ ap (λ p. joined (Ok (Some local)) p (Ok None)) second

full-read : (local name resource : List ℕ) → local_of local ≡ Ok local → domain_of name ≡ Ok name → resource_of resource ≡ Ok resource
    → joined (some_of (local_of local)) (domain_of name) (some_of (resource_of resource))
    ≡ Ok (record { local = Some local; domain = name; resource = Some resource })
full-read local name resource first second third =
    ap (λ p. joined (some_of p) (domain_of name) (some_of (resource_of resource))) first
    ∙ ap (λ p. joined (Ok (Some local)) p (some_of (resource_of resource))) second
    ∙ ap (λ p. joined (Ok (Some local)) (Ok name) (some_of p)) third

pub room_read : address_of (codes "drill@rooms.example.org") ≡ Ok room
room_read = bare-read (codes "drill") (codes "rooms.example.org") room-local room-domain

seat-digit : (i : ℕ) → i < 8
    → address_of (codes "drill@rooms.example.org/u" ++ (48 + i) ∷ []) ≡ Ok (record room { resource = Some (name_of ((48 + i) ∷ [])) })
seat-digit i low = full-read (codes "drill") (codes "rooms.example.org") (name_of ((48 + i) ∷ [])) room-local room-domain (nick-read i low)

pub seat_read : (i : ℕ) → i < 8 → address_of (codes "drill@rooms.example.org/u" ++ decimal i) ≡ Ok (seat i)
seat_read i low =
    digit-of (λ d. address_of (codes "drill@rooms.example.org/u" ++ d) ≡ Ok (record room { resource = Some (name_of d) })) i low (seat-digit i low)

client-by : (i : ℕ) → local_of (name_of ((48 + i) ∷ [])) ≡ Ok (name_of ((48 + i) ∷ []))
    → joined (some_of (local_of (name_of ((48 + i) ∷ [])))) (domain_of (codes "example.org")) (some_of (resource_of (codes "r")))
    ≡ Ok (record domain { local = Some (name_of ((48 + i) ∷ [])); resource = Some (codes "r") })
client-by i is = full-read (name_of ((48 + i) ∷ [])) (codes "example.org") (codes "r") is domain-read resource_read

abbrev IsClient : ℕ → Type 0
IsClient i =
    address_of (codes "u" ++ (48 + i) ∷ codes "@example.org/r")
    ≡ Ok (record domain { local = Some (name_of ((48 + i) ∷ [])); resource = Some (codes "r") })

client-digit : (i : ℕ) → i < 8 → IsClient i
client-digit =
    below-eight IsClient (client-by 0 (local-read 0 (ltb-true 0 8 refl))) (client-by 1 (local-read 1 (ltb-true 1 8 refl)))
    (client-by 2 (local-read 2 (ltb-true 2 8 refl))) (client-by 3 (local-read 3 (ltb-true 3 8 refl))) (client-by 4 (local-read 4 (ltb-true 4 8 refl)))
    (client-by 5 (local-read 5 (ltb-true 5 8 refl))) (client-by 6 (local-read 6 (ltb-true 6 8 refl))) (client-by 7 (local-read 7 (ltb-true 7 8 refl)))

pub client_read : (i : ℕ) → i < 8 → address_of (codes "u" ++ decimal i ++ codes "@example.org/r") ≡ Ok (client i)
client_read i low =
    digit-of (λ d. address_of (codes "u" ++ d ++ codes "@example.org/r") ≡ Ok (record domain { local = Some (name_of d); resource = Some (codes "r") })) i low
    (client-digit i low)

-- as it is written
pub client-text-read : (i : ℕ) → i < 8 → address_of (address_text (client i)) ≡ Ok (client i)
client-text-read i low =
    digit-of (λ d. address_of (address_text (record domain { local = Some (name_of d); resource = Some (codes "r") }))
    ≡ Ok (record domain { local = Some (name_of d); resource = Some (codes "r") })) i low
    (client-digit i low)

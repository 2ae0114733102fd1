-- What a prepared address is written as reads as that address.
use Rattle.std.proofs.Common.{◌≡◌, ℕ, Bool, true, not, ◌==◌, List, [], ◌∷◌, ◌++◌, Option, Some, None, Ok}
use Rattle.std.proofs.Common.{Result, refl, ap, ◌∙◌, arith, append_assoc, append-nil}
use Rattle.std.proofs.lemmas.Bool.{cond-true, cond-false, and_parts, and_from, not-true, eq-eqb}
use Rattle.std.proofs.lemmas.Bool.Decides.{nat_tests}
use Rattle.std.proofs.lemmas.List.Folds.{list_all-append}
use Rattle.std.specs.List.{list_all}
use Rattle.std.specs.Option.{option_map, unwrap_or}
use Rattle.jid_core.specs.Cuts.{before, after}
use Rattle.jid_core.specs.declared.fault.JidFault.{JidFault}
use Rattle.jid_core.specs.Preparation.{is_local, is_resource, local_of, domain_of, resource_of}
use Rattle.jid_core.specs.Addresses.{Address, passes, is_prepared, local_text, resource_text, address_text}
use Rattle.jid_core.specs.Addresses.{local_in, domain_in, some_of, part_of, joined, address_of}
use Rattle.jid_core.proofs.AsciiLemmas.{weaker}
use Rattle.jid_core.proofs.PreparationLemmas.{is_name_byte, domain-bytes, local_lacks, local_stays, domain_stays, resource_stays}
use Rattle.jid_core.proofs.AddressLemmas.{IsPrepared-is_prepared}

-- the byte is not among them
abbrev pub lacks : ℕ → List ℕ → Bool
lacks c bs = list_all (λ b. not (b == c)) bs

pub before-here : (c : ℕ) (xs ys : List ℕ) → lacks c xs ≡ true → before c (xs ++ c ∷ ys) ≡ xs
before-here c [] ys h = cond-true (c == c) [] _ (eq-eqb c c refl)
before-here c (x ∷ xs) ys h =
    let parts = and_parts (not (x == c)) (lacks c xs) h in cond-false (x == c) [] _ (not-true (x == c) parts.0) ∙ ap (λ r. x ∷ r) (before-here c xs ys parts.1)

pub after-here : (c : ℕ) (xs ys : List ℕ) → lacks c xs ≡ true → after c (xs ++ c ∷ ys) ≡ Some ys
after-here c [] ys h = cond-true (c == c) (Some ys) _ (eq-eqb c c refl)
after-here c (x ∷ xs) ys h =
    let parts = and_parts (not (x == c)) (lacks c xs) h in cond-false (x == c) (Some (xs ++ c ∷ ys)) _ (not-true (x == c) parts.0) ∙ after-here c xs ys parts.1

pub before-none : (c : ℕ) (xs : List ℕ) → lacks c xs ≡ true → before c xs ≡ xs
before-none c [] h = refl
before-none c (x ∷ xs) h =
    let parts = and_parts (not (x == c)) (lacks c xs) h in cond-false (x == c) [] _ (not-true (x == c) parts.0) ∙ ap (λ r. x ∷ r) (before-none c xs parts.1)

pub after-none : (c : ℕ) (xs : List ℕ) → lacks c xs ≡ true → after c xs ≡ None
after-none c [] h = refl
after-none c (x ∷ xs) h =
    let parts = and_parts (not (x == c)) (lacks c xs) h in cond-false (x == c) (Some xs) _ (not-true (x == c) parts.0) ∙ after-none c xs parts.1

name-no_slash : (b : ℕ) → is_name_byte b ≡ true → not (b == 47) ≡ true
name-no_slash b h = grind (arith, nat_tests)

name-no_at : (b : ℕ) → is_name_byte b ≡ true → not (b == 64) ≡ true
name-no_at b h = grind (arith, nat_tests)

local-no_slash : (part : Option (List ℕ)) → passes is_local part ≡ true → lacks 47 (local_text part) ≡ true
local-no_slash None h = refl
local-no_slash (Some part) h = list_all-append (λ b. not (b == 47)) part (64 ∷ []) ∙ and_from (lacks 47 part) _ (local_lacks 47 part (omega arith) refl h) refl

cut-resource : (front : List ℕ) (part : Option (List ℕ)) → lacks 47 front ≡ true
    → (before 47 (front ++ resource_text part) ≡ front) × (after 47 (front ++ resource_text part) ≡ part)
cut-resource front None h = (ap (before 47) (append-nil front) ∙ before-none 47 front h, ap (after 47) (append-nil front) ∙ after-none 47 front h)
cut-resource front (Some part) h = (before-here 47 front part h, after-here 47 front part h)

cut-local : (part : Option (List ℕ)) (domain : List ℕ) → passes is_local part ≡ true → lacks 64 domain ≡ true
    → (local_in (local_text part ++ domain) ≡ part) × (domain_in (local_text part ++ domain) ≡ domain)
cut-local None domain h none =
    let later : after 64 domain ≡ None = after-none 64 domain none in
    (ap (option_map (λ _. before 64 domain)) later, ap (λ o. unwrap_or o domain) later)
cut-local (Some part) domain h none =
    let rest : (part ++ 64 ∷ []) ++ domain ≡ part ++ 64 ∷ domain = append_assoc part (64 ∷ []) domain in
    let clear = local_lacks 64 part (omega arith) refl h in
    let later : after 64 ((part ++ 64 ∷ []) ++ domain) ≡ Some domain = ap (after 64) rest ∙ after-here 64 part domain clear in
    let front : before 64 ((part ++ 64 ∷ []) ++ domain) ≡ part = ap (before 64) rest ∙ before-here 64 part domain clear in
    (ap (option_map (λ _. before 64 ((part ++ 64 ∷ []) ++ domain))) later ∙ ap Some front, ap (λ o. unwrap_or o ((part ++ 64 ∷ []) ++ domain)) later)

part-stays : (test : List ℕ → Bool) (prepare : List ℕ → Result (List ℕ) JidFault) → ((p : List ℕ) → test p ≡ true → prepare p ≡ Ok p) → (part : Option (List ℕ))
    → passes test part ≡ true → part_of prepare part ≡ Ok part
part-stays test prepare stays None h = refl
part-stays test prepare stays (Some part) h = ap some_of (stays part h)

pub address_of-address_text : (a : Address) → is_prepared a ≡ true → address_of (address_text a) ≡ Ok a
address_of-address_text a h =
    let p = IsPrepared-is_prepared a h in
    let bytes = domain-bytes a.domain p.domain in
    let clear : lacks 47 (local_text a.local ++ a.domain) ≡ true =
    list_all-append (λ b. not (b == 47)) (local_text a.local) a.domain
    ∙ and_from (lacks 47 (local_text a.local)) _ (local-no_slash a.local p.local) (weaker is_name_byte (λ b. not (b == 47)) name-no_slash a.domain bytes) in
    let outer = cut-resource (local_text a.local ++ a.domain) a.resource clear in
    let inner = cut-local a.local a.domain p.local (weaker is_name_byte (λ b. not (b == 64)) name-no_at a.domain bytes) in
    let local = ap (λ x. part_of local_of (local_in x)) outer.0 ∙ ap (part_of local_of) inner.0 ∙ part-stays is_local local_of local_stays a.local p.local in
    let domain = ap (λ x. domain_of (domain_in x)) outer.0 ∙ ap domain_of inner.1 ∙ domain_stays a.domain p.domain in
    let resource = ap (part_of resource_of) outer.1 ∙ part-stays is_resource resource_of resource_stays a.resource p.resource in
    λ i. joined (local i) (domain i) (resource i)

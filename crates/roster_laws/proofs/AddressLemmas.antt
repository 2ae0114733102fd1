-- Addresses that are compared part by part.
use Rattle.std.proofs.Common.{◌≡◌, ℕ, List, true, ◌&&◌, bytes_eq, Option, Some, None, refl, ap, ◌∙◌}
use Rattle.std.proofs.lemmas.Bool.{and_from}
use Rattle.jid_core.specs.Addresses.{Address, same_address, same_bare, same_part}
use Rattle.jid_core.proofs.NameLemmas.{bytes_flip}
use Rattle.contact_table.proofs.ByteLemmas.{bytes_same}

part_flip : (p q : Option (List ℕ)) → same_part p q ≡ same_part q p
part_flip None None = refl
part_flip None (Some q) = refl
part_flip (Some p) None = refl
part_flip (Some p) (Some q) = bytes_flip p q

pub same_flip : (a b : Address) → same_address a b ≡ same_address b a
same_flip a b =
    ap (λ x. x && bytes_eq a.domain b.domain && same_part a.resource b.resource) (part_flip a.local b.local)
    ∙ ap (λ x. same_part b.local a.local && x && same_part a.resource b.resource) (bytes_flip a.domain b.domain)
    ∙ ap (λ x. same_part b.local a.local && bytes_eq b.domain a.domain && x) (part_flip a.resource b.resource)

part_same : (p : Option (List ℕ)) → same_part p p ≡ true
part_same None = refl
part_same (Some p) = bytes_same p

pub address_same : (a : Address) → same_address a a ≡ true
address_same a =
    and_from (same_bare a a) (same_part a.resource a.resource)
    (and_from (same_part a.local a.local) (bytes_eq a.domain a.domain) (part_same a.local) (bytes_same a.domain)) (part_same a.resource)

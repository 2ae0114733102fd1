-- The copies of a user's name.
use Rattle.std.proofs.Common.{◌≡◌, ℕ, ◌+◌, ◌<◌, ◌≤◌, List, [], ◌∷◌, ◌++◌, length, append-nil, append_assoc, length-append, map, drop, true, ◌&&◌}
use Rattle.std.proofs.Common.{bytes_eq, Option, Some, None, IfSome, IsSome, ◌↔◌, is_some, option_to_list, refl, sym, ap, ◌∙◌, arith}
use Rattle.std.proofs.lemmas.Bool.{and_parts}
use Rattle.std.proofs.lemmas.List.Folds.{list_all-append}
use Rattle.std.specs.List.{list_all}
use Rattle.jid_core.specs.Addresses.{Address}
use Rattle.contact_table.specs.Folders.{IsNamed, Name}
use Rattle.contact_table.proofs.ByteLemmas.{bytes_equal, bytes_same}

pub named_more : (user : List ℕ) (ns new : List Name) (n : Name) → new ≡ ns ++ n ∷ [] → n.items ≡ user → IsNamed user ns → IsNamed user new
named_more user ns new n made is named =
    ap (list_all (λ n. bytes_eq user n.items)) made ∙ list_all-append (λ n. bytes_eq user n.items) ns (n ∷ [])
    ∙ ap (λ b. b && (bytes_eq user n.items && true)) named
    ∙ ap (λ (name : List ℕ). bytes_eq user name && true) is ∙ ap (λ b. b && true) (bytes_same user)

pub named_less : (user : List ℕ) (ns : List Name) (n : Name) → IsNamed user (ns ++ n ∷ []) → IsNamed user ns × (n.items ≡ user)
named_less user ns n named =
    let parts = and_parts (list_all (λ n. bytes_eq user n.items) ns) (bytes_eq user n.items && true)
    (sym (list_all-append (λ n. bytes_eq user n.items) ns (n ∷ [])) ∙ named) in
    (parts.0, sym (bytes_equal user n.items (and_parts (bytes_eq user n.items) true parts.1).0))

-- the last one is taken out
pub popped : (user : List ℕ) (old new : List Name) (o : Option Name) → old ≡ new ++ option_to_list o → IsNamed user old
    → IsNamed user new × IfSome o (λ n. n.items ≡ user)
popped user old new (Some n) made named = named_less user new n (sym (ap (list_all (λ n. bytes_eq user n.items)) made) ∙ named)
popped user old new None made named =
    (sym (ap (list_all (λ n. bytes_eq user n.items)) (made ∙ append-nil new)) ∙ named, tt)

pub popped_some : (o : Option Name) (n : ℕ) → 0 < n → (IsSome o ↔ (0 < n)) → is_some o ≡ true
popped_some (Some x) n some variant = refl
popped_some None n some variant = variant.1 some

pub popped_length : (old new : List Name) (o : Option Name) → old ≡ new ++ option_to_list o → length old ≤ length new + 1
popped_length old new (Some n) made = let l = ap length made ∙ length-append new (n ∷ []) in omega (arith, l)
popped_length old new None made = let l = ap length (made ∙ append-nil new) in omega (arith, l)

-- one address more
pub next_address : (bare : List ℕ → Address) (ns : List Name) (i : ℕ) (n : Name) (a : Address) (done new all : List Address)
    → drop i ns ≡ n ∷ drop (i + 1) ns → new ≡ done ++ a ∷ [] → a ≡ bare n.items
    → done ++ map bare (map (λ n. n.items) (drop i ns)) ≡ all → new ++ map bare (map (λ n. n.items) (drop (i + 1) ns)) ≡ all
next_address bare ns i n a done new all next made is before =
    let rest = map bare (map (λ n. n.items) (drop (i + 1) ns)) in
    ap (λ front. front ++ rest) made ∙ append_assoc done (a ∷ []) rest ∙ ap (λ a. done ++ a ∷ rest) is
    ∙ sym (ap (λ ns. done ++ map bare (map (λ n. n.items) ns)) next) ∙ before

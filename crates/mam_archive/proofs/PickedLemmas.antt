-- The rows of the peer that is asked for.
use Rattle.std.proofs.Common.{◌≡◌, ℕ, List, [], ◌∷◌, map, Bool, true, false, nat_eq, ◌&&◌, bytes_eq, refl, ap, sym, ◌∙◌, if◌then◌else◌}
use Rattle.std.specs.Prelude.{Option, Some, None, is_some}
use Rattle.std.specs.List.{filter}
use Rattle.std.proofs.lemmas.Bool.{and_parts}
use Rattle.std.proofs.lemmas.Slice.Eq.{bytes_eq-Decides}
use Rattle.hash_keys.specs.declared.key.HashKey.{HashKey}
use Rattle.jid_core.specs.Addresses.{Address, bare, same_address, same_bare, same_part}
use Rattle.jid_core.proofs.AddressLemmas.{same_address-equal}
use Rattle.rsm_paging.specs.Pages.{id_of, is_of}
use Rattle.rsm_paging.specs.declared.ask.Row.{Row}
use Rattle.mam_archive.specs.Lists.{AreOf, Entries, IsListed, list_at, rows_with}
use Rattle.mam_archive.specs.Peers.{extent_of, face, key}
use Rattle.mam_archive.specs.declared.peers.Extent.{Extent}
use Rattle.mam_archive.specs.declared.peers.Extent.TheVariants.{Bare, Full}
use Rattle.mam_archive.proofs.ListLemmas.{nat_eq-same}

-- addresses that are the same

part-equal : (p q : Option (List ℕ)) → same_part p q ≡ true → p ≡ q
part-equal None None h = refl
part-equal None (Some q) h = absurd (let z : false ≡ true = h in cc)
part-equal (Some p) None h = absurd (let z : false ≡ true = h in cc)
part-equal (Some p) (Some q) h = ap Some ((bytes_eq-Decides p q).0 h)

part-same : (p : Option (List ℕ)) → same_part p p ≡ true
part-same None = refl
part-same (Some p) = (bytes_eq-Decides p p).1 refl

and-true : (a b : Bool) → a ≡ true → b ≡ true → (a && b) ≡ true
and-true true b is is' = is'
and-true false b is is' = absurd (let z : false ≡ true = is in cc)

bare-same : (a : Address) → same_bare a a ≡ true
bare-same a = and-true (same_part a.local a.local) (bytes_eq a.domain a.domain) (part-same a.local) ((bytes_eq-Decides a.domain a.domain).1 refl)

address-same : (a : Address) → same_address a a ≡ true
address-same a = and-true (same_bare a a) (same_part a.resource a.resource) (bare-same a) (part-same a.resource)

bare-equal : (a b : Address) → same_bare a b ≡ true → bare a ≡ bare b
bare-equal a b h =
    let parts = and_parts (same_part a.local b.local) (bytes_eq a.domain b.domain) h in
    let locals = part-equal a.local b.local parts.0 in
    let domains = (bytes_eq-Decides a.domain b.domain).0 parts.1 in
    λ i. record { local = locals i; domain = domains i; resource = None }

face-of : (asked other : Address) → is_of asked other ≡ true → face (extent_of asked) other ≡ face (extent_of asked) asked
face-of asked other is = by (is_some asked.resource) is where
  by : (b : Bool) → (if b then same_address asked other else same_bare asked other) ≡ true
      → face (if b then Full else Bare) other ≡ face (if b then Full else Bare) asked
  by true is = sym (same_address-equal asked other is)
  by false is = sym (bare-equal asked other is)

of-face : (asked other : Address) → face (extent_of asked) other ≡ face (extent_of asked) asked → is_of asked other ≡ true
of-face asked other same = by (is_some asked.resource) same where
  by : (b : Bool) → face (if b then Full else Bare) other ≡ face (if b then Full else Bare) asked
      → (if b then same_address asked other else same_bare asked other) ≡ true
  by true same = ap (same_address asked) same ∙ address-same asked
  by false same = ap (same_bare asked) same ∙ bare-same asked

module _ (hash_key : HashKey) where
  key-of : (e : Extent) (a b : Address) → face e a ≡ face e b → key hash_key e a ≡ key hash_key e b
  key-of Bare a b same = ap (key hash_key Bare) same
  key-of Full a b same = ap (key hash_key Full) same

  -- rows of one key that are all of the peer are those of the peer

  all-of : (asked : Address) (rows : List Row)
      → AreOf (extent_of asked) (face (extent_of asked) asked) (rows_with hash_key (extent_of asked) (key hash_key (extent_of asked) asked) rows)
      → rows_with hash_key (extent_of asked) (key hash_key (extent_of asked) asked) rows ≡ filter (λ row. is_of asked row.peer) rows
  all-of asked [] all = refl
  all-of asked (r ∷ rows) all = by (nat_eq (key hash_key e asked) (key hash_key e r.peer)) refl all (all-of asked rows) where
    e : Extent
    e = extent_of asked

    rest : List Row
    rest = rows_with hash_key e (key hash_key e asked) rows

    not-of : nat_eq (key hash_key e asked) (key hash_key e r.peer) ≡ false → (b : Bool) → is_of asked r.peer ≡ b → b ≡ false
    not-of apart false is = refl
    not-of apart true is =
        let same = key-of e r.peer asked (face-of asked r.peer is) in
        absurd (let z : true ≡ false = sym (nat_eq-same (key hash_key e asked)) ∙ ap (nat_eq (key hash_key e asked)) (sym same) ∙ apart in cc)

    by : (b : Bool) → nat_eq (key hash_key e asked) (key hash_key e r.peer) ≡ b → AreOf e (face e asked) (if b then r ∷ rest else rest)
        → (AreOf e (face e asked) rest → rest ≡ filter (λ row. is_of asked row.peer) rows)
        → (if b then r ∷ rest else rest)
        ≡ (if is_of asked r.peer then r ∷ filter (λ row. is_of asked row.peer) rows else filter (λ row. is_of asked row.peer) rows)
    by true is all later = rw (of-face asked r.peer all.0) (ap (λ (l : List Row). r ∷ l) (later all.1))
    by false is all later = rw (not-of is (is_of asked r.peer) refl) (later all)

  pub picked-is : (asked : Address) (rows : List Row) (made : ℕ) (es : Entries) → IsListed hash_key (extent_of asked) rows made es
      → AreOf (extent_of asked) (face (extent_of asked) asked) (rows_with hash_key (extent_of asked) (key hash_key (extent_of asked) asked) rows)
      → (list_at (key hash_key (extent_of asked) asked) es).ids ≡ map id_of (filter (λ row. is_of asked row.peer) rows)
  picked-is asked rows made es was all = was.ids (key hash_key (extent_of asked) asked) ∙ ap (map id_of) (all-of asked rows all)

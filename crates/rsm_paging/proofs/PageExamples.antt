-- Pages of five rows, and of six (XEP-0059, 2.1 to 2.5).
use Rattle.std.proofs.Common.{◌≡◌, ℕ, List, [], ◌∷◌, map, codes, refl}
use Rattle.std.specs.Prelude.{Some, None}
use Rattle.jid_core.specs.Addresses.{Address}
use Rattle.rsm_paging.specs.Pages.{first_page, id_of, index_of, last_page, row_numbered, those_after, those_before}
use Rattle.rsm_paging.specs.declared.ask.Row.{Row}

peer : Address
peer = record { local = Some (codes "bob"); domain = codes "example.org"; resource = None }

row : ℕ → Row
row n = record { id = n; stamp = 0; peer = peer; text = codes "<message/>" }

five : List Row
five = row 1 ∷ row 2 ∷ row 3 ∷ row 4 ∷ row 5 ∷ []

six : List Row
six = row 1 ∷ row 2 ∷ row 3 ∷ row 4 ∷ row 5 ∷ row 6 ∷ []

two-first : map id_of (first_page 2 five) ≡ 1 ∷ 2 ∷ []
unfolding five row peer
two-first = refl

two-after : map id_of (first_page 2 (those_after (row_numbered (Some 2) five) five)) ≡ 3 ∷ 4 ∷ []
unfolding five row peer
two-after = refl

index-after : index_of five (row 3 ∷ row 4 ∷ []) ≡ 2
unfolding five row peer
index-after = refl

two-last : map id_of (last_page 2 six) ≡ 5 ∷ 6 ∷ []
unfolding six row peer
two-last = refl

two-before : map id_of (last_page 2 (those_before (row_numbered (Some 4) six) six)) ≡ 2 ∷ 3 ∷ []
unfolding six row peer
two-before = refl

none-asked : first_page 0 six ≡ []
unfolding six row peer
none-asked = refl

not-there : row_numbered (Some 99) six ≡ None
unfolding six row peer
not-there = refl

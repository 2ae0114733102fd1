-- The users of a house, and their names.
use Rattle.std.proofs.Common.{◌≡◌, ℕ, List, [], ◌∷◌, ◌++◌, Bool, true, false, not, ◌&&◌, ◌||◌, cond, map, bytes_eq, refl, sym, ap, ◌∙◌}
use Rattle.std.proofs.lemmas.Bool.{and_parts}
use Rattle.std.proofs.lemmas.List.Folds.{list_any-append}
use Rattle.std.specs.List.{list_any}
use Rattle.jid_core.specs.Names.{are_distinct}
use Rattle.jid_core.proofs.NameLemmas.{bytes_flip}
use Rattle.contact_table.specs.Orders.{with_user}
use Rattle.contact_table.proofs.OrderLemmas.{neither, nor, not_true}

-- a name of names that differ is not among those before it
pub not_before : (us more : List (List ℕ)) (u : List ℕ) → are_distinct (us ++ u ∷ more) ≡ true → list_any (bytes_eq u) us ≡ false
not_before [] more u distinct = refl
not_before (v ∷ us) more u distinct =
    let parts = and_parts (not (list_any (bytes_eq v) (us ++ u ∷ more))) (are_distinct (us ++ u ∷ more)) distinct in
    let none : list_any (bytes_eq v) (us ++ u ∷ more) ≡ false = not_true (list_any (bytes_eq v) (us ++ u ∷ more)) parts.0 in
    let here = neither (list_any (bytes_eq v) us) (bytes_eq v u || list_any (bytes_eq v) more) (sym (list_any-append (bytes_eq v) us (u ∷ more)) ∙ none) in
    let apart = neither (bytes_eq v u) (list_any (bytes_eq v) more) here.1 in
    nor (bytes_eq u v) (list_any (bytes_eq u) us) (bytes_flip u v ∙ apart.0) (not_before us more u parts.1)

-- one that is not there comes last
pub joins : (u : List ℕ) (us : List (List ℕ)) → list_any (bytes_eq u) us ≡ false → with_user u true us ≡ us ++ u ∷ []
joins u us new = ap (λ (b : Bool). cond b us (us ++ u ∷ [])) new

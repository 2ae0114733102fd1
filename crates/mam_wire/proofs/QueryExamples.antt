-- Queries, and what they ask for (XEP-0313, 4.1, with XEP-0059, 2).
use Rattle.std.proofs.Common.{◌≡◌, ℕ, List, [], ◌∷◌, codes, refl, Ok, Err}
use Rattle.std.specs.Prelude.{Some, None}
use Rattle.stanza_tree.specs.declared.node.Element.{Element}
use Rattle.stanza_tree.specs.declared.node.Node.{Node}
use Rattle.stanza_tree.specs.declared.node.Node.TheOpen.{Child, Words}
use Rattle.stanza_tree.specs.declared.node.Node.TheViews.{roll-Node, out-roll-Node}
use Rattle.stanza_model.specs.Errors.{element_of, plain_attr}
use Rattle.mam_wire.specs.Answers.{mam_space, rsm_space}
use Rattle.mam_wire.specs.Filters.{no_filter}
use Rattle.mam_wire.specs.Forms.{field, form_space, value_nodes}
use Rattle.mam_wire.specs.Queries.{query_of}
use Rattle.mam_wire.specs.declared.fault.QueryFault.TheVariants.{BadRequest, NotImplemented}

query : List Node → Element
query nodes = element_of mam_space (codes "query") [] nodes

-- `<local>W</local>`
limit : (local words : List ℕ) → Node
limit local words = roll-Node (Child (element_of rsm_space local [] (roll-Node (Words words) ∷ [])))

set : List Node → Node
set nodes = roll-Node (Child (element_of rsm_space (codes "set") [] nodes))

form : List Node → Node
form fields = roll-Node (Child (element_of form_space (codes "x") (plain_attr (codes "type") (codes "submit") ∷ []) fields))

type : List ℕ → Node
type value = field (codes "hidden") (codes "FORM_TYPE") (value_nodes value)

from : List ℕ → Node
from stamp = field (codes "text-single") (codes "start") (value_nodes stamp)

-- all rows, from the first on
bare : query_of (query []) ≡ Ok (record { queryid = None; filter = no_filter; ask = record { max = 50; after = None; before = None } })
unfolding query
bare = refl

-- the last page, of 50 rows at most
last-page : query_of (query (set (limit (codes "max") (codes "100") ∷ limit (codes "before") [] ∷ []) ∷ []))
    ≡ Ok (record { queryid = None; filter = no_filter; ask = record { max = 50; after = None; before = Some [] } })
unfolding query set limit
last-page = simp out-roll-Node refl

by-index : query_of (query (set (limit (codes "index") (codes "10") ∷ limit (codes "max") (codes "5") ∷ []) ∷ [])) ≡ Err NotImplemented
unfolding query set limit
by-index = simp out-roll-Node refl

no-number : query_of (query (set (limit (codes "index") (codes "10") ∷ limit (codes "max") (codes "-1") ∷ []) ∷ [])) ≡ Err BadRequest
unfolding query set limit
no-number = simp out-roll-Node refl

two-ways : query_of (query (set (limit (codes "after") (codes "1") ∷ limit (codes "before") (codes "9") ∷ []) ∷ [])) ≡ Err BadRequest
unfolding query set limit
two-ways = simp out-roll-Node refl

-- the form is read before the page
no-stamp : query_of (query (form (type mam_space ∷ from (codes "yesterday") ∷ []) ∷ set (limit (codes "index") (codes "1") ∷ []) ∷ []))
    ≡ Err BadRequest
unfolding query form set limit type from
no-stamp = simp out-roll-Node refl

no-type : query_of (query (form (from (codes "1970-01-01T00:00:01Z") ∷ []) ∷ [])) ≡ Err BadRequest
unfolding query form from
no-type = simp out-roll-Node refl

other-field : query_of (query (form (type mam_space ∷ field (codes "text-single") (codes "withtext") (value_nodes (codes "a")) ∷ []) ∷ []))
    ≡ Err NotImplemented
unfolding query form type
other-field = simp out-roll-Node refl

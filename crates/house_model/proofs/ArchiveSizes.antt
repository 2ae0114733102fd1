-- How long it is what an archive answers: the form of a query, and what a page is.
use Rattle.std.proofs.Common.{◌≡◌, ℕ, ◌*◌, ◌≤◌, List, [], ◌∷◌, ◌++◌, map, length, Bool, true, false, codes, refl, ap, arith, length-append}
use Rattle.std.specs.Prelude.{IfSome}
use Rattle.std.specs.Fmt.{decimal}
use Rattle.std.specs.List.{AllByRecursion, filter}
use Rattle.jid_core.specs.Addresses.{address_text}
use Rattle.stanza_tree.specs.Spelling.{attributes, client_space, declarations, text, text_under, texts_under, words_text}
use Rattle.stanza_tree.specs.declared.node.Attr.{Attr}
use Rattle.stanza_tree.specs.declared.node.Element.{Element}
use Rattle.stanza_tree.specs.declared.node.Node.{Node}
use Rattle.stanza_tree.specs.declared.node.Node.TheOpen.{Words}
use Rattle.stanza_tree.specs.declared.node.Node.TheViews.{roll-Node, out-roll-Node}
use Rattle.stanza_tree.proofs.Bounds.{length-value_text-le, length-words_text-le}
use Rattle.stanza_tree.proofs.SpellingLemmas.{texts-words}
use Rattle.stanza_model.specs.Errors.{element_of, plain_attr}
use Rattle.stanza_model.specs.Replies.{one_child, result_of}
use Rattle.stanza_model.specs.Stanzas.{id_in, to_in}
use Rattle.stanza_model.specs.declared.stanza.Stanza.{Stanza}
use Rattle.rsm_paging.specs.Pages.{fits, id_of, index_of, is_past, matching}
use Rattle.rsm_paging.specs.declared.ask.Filter.{Filter}
use Rattle.rsm_paging.specs.declared.ask.Page.{Page}
use Rattle.rsm_paging.specs.declared.ask.PageAsk.{PageAsk}
use Rattle.rsm_paging.specs.declared.ask.Row.{Row}
use Rattle.archive_table.specs.Pages.{page_of, shown}
use Rattle.mam_wire.specs.Answers.{bounds, complete_attrs, fin, last_or, mam_space, number_node, result_set, rsm_space, told}
use Rattle.mam_wire.specs.Forms.{field, field_element, form_space, query_fields, query_form, value_nodes}
use Rattle.house_model.proofs.RosterSizes.{number-le}
use Rattle.house_model.proofs.ReplySizes.{first-length, one-attribute-le, plain-attributes, plain-declared, reply-le, spelt_length, under-le}
use Rattle.house_model.proofs.ShownRows.{shown-all}
use Rattle.house_model.proofs.StayLemmas.{choose}

words-le : (p w : List ℕ) → length (texts_under p (roll-Node (Words w) ∷ [])) ≤ 6 * length w
words-le p w =
    omega (
      arith,
      ap length (texts-words p (roll-Node (Words w)) [] w (out-roll-Node (Words w))),
      length-append (words_text w) [],
      length-words_text-le w,
    )

-- the form of a query

value-le : (w : List ℕ) → length w ≤ 100 → length (texts_under form_space (value_nodes w)) ≤ 1000
value-le w few =
    omega (
      arith,
      few,
      words-le form_space w,
      under-le form_space form_space (codes "value") [] (roll-Node (Words w) ∷ []),
      first-length form_space (element_of form_space (codes "value") [] (roll-Node (Words w) ∷ [])) [],
    )

field-le : (kind name : List ℕ) (nodes : List Node) → length kind ≤ 100 → length name ≤ 100 → length (texts_under form_space nodes) ≤ 1000
    → length (text_under form_space (field_element kind name nodes)) ≤ 3000
field-le kind name nodes one two some =
    omega (
      arith,
      one,
      two,
      some,
      under-le form_space form_space (codes "field") (plain_attr (codes "type") kind ∷ plain_attr (codes "var") name ∷ []) nodes,
      plain-attributes (codes "type") kind (plain_attr (codes "var") name ∷ []),
      plain-attributes (codes "var") name [],
      ap length (plain-declared (codes "type") kind (plain_attr (codes "var") name ∷ [])),
      ap length (plain-declared (codes "var") name []),
      length-value_text-le kind,
      length-value_text-le name,
    )

abbrev typed : Element
typed = field_element (codes "hidden") (codes "FORM_TYPE") (value_nodes mam_space)

abbrev with_whom : Element
with_whom = field_element (codes "jid-single") (codes "with") []

abbrev from_when : Element
from_when = field_element (codes "text-single") (codes "start") []

abbrev till_when : Element
till_when = field_element (codes "text-single") (codes "end") []

fields-le : length (texts_under form_space query_fields) ≤ 12000
fields-le =
    let l3 : List Node = field (codes "text-single") (codes "end") [] ∷ [] in
    let l2 : List Node = field (codes "text-single") (codes "start") [] ∷ l3 in
    let l1 : List Node = field (codes "jid-single") (codes "with") [] ∷ l2 in
    omega (
      arith,
      first-length form_space typed l1,
      first-length form_space with_whom l2,
      first-length form_space from_when l3,
      first-length form_space till_when [],
      field-le (codes "hidden") (codes "FORM_TYPE") (value_nodes mam_space) (omega arith) (omega arith) (value-le mam_space (omega arith)),
      field-le (codes "jid-single") (codes "with") [] (omega arith) (omega arith) (omega arith),
      field-le (codes "text-single") (codes "start") [] (omega arith) (omega arith) (omega arith),
      field-le (codes "text-single") (codes "end") [] (omega arith) (omega arith) (omega arith),
    )

abbrev form_x : Element
form_x = element_of form_space (codes "x") (plain_attr (codes "type") (codes "form") ∷ []) query_fields

pub form-le : (st : Stanza) → IfSome (to_in st) (λ a. length (address_text a) ≤ 3071) → spelt_length (id_in st) ≤ 196608
    → length (text (result_of st (one_child query_form))) ≤ 500000
form-le st to id =
    reply-le st (codes "result") (one_child query_form) to id (omega arith)
    (omega (
      arith,
      fields-le,
      first-length client_space query_form [],
      under-le client_space mam_space (codes "query") [] (one_child form_x),
      first-length mam_space form_x [],
      one-attribute-le mam_space form_space (codes "x") (codes "type") (codes "form") query_fields,
    ))

-- a page

counted-le : (local : List ℕ) (attrs : List Attr) (n : ℕ) → length local ≤ 10 → length (declarations 0 attrs) ≡ 0 → length (attributes 0 attrs) ≤ 200
    → n ≤ 18446744073709551618 → length (text_under rsm_space (element_of rsm_space local attrs (number_node n ∷ []))) ≤ 700
counted-le local attrs n short none some few =
    omega (
      arith,
      short,
      none,
      some,
      under-le rsm_space rsm_space local attrs (number_node n ∷ []),
      words-le rsm_space (decimal n),
      number-le n few,
    )

index-le : (index : ℕ) → index ≤ 18446744073709551618 → length (attributes 0 (plain_attr (codes "index") (decimal index) ∷ [])) ≤ 200
index-le index few =
    omega (arith, plain-attributes (codes "index") (decimal index) [], number-le index few, length-value_text-le (decimal index))

abbrev IsFew : ℕ → Type 0
IsFew n = n ≤ 18446744073709551618

last-few : (id : ℕ) (more : List ℕ) → IsFew id → AllByRecursion IsFew more → IsFew (last_or id more)
last-few id [] few all = few
last-few id (next ∷ more) few all = last-few next more all.0 all.1

abbrev first_told : (index id : ℕ) → Element
first_told index id = element_of rsm_space (codes "first") (plain_attr (codes "index") (decimal index) ∷ []) (number_node id ∷ [])

abbrev last_told : (id : ℕ) → Element
last_told id = element_of rsm_space (codes "last") [] (number_node id ∷ [])

abbrev count_told : (n : ℕ) → Element
count_told n = element_of rsm_space (codes "count") [] (number_node n ∷ [])

bounds-le : (index n : ℕ) (ids : List ℕ) → IsFew index → IsFew n → AllByRecursion IsFew ids
    → length (texts_under rsm_space (bounds index ids ++ told (codes "count") [] n ∷ [])) ≤ 2100
bounds-le index n [] few many all =
    omega (arith, first-length rsm_space (count_told n) [], counted-le (codes "count") [] n (omega arith) (omega arith) (omega arith) many)
bounds-le index n (id ∷ more) few many all =
    let last : List Node = told (codes "count") [] n ∷ [] in
    omega (
      arith,
      first-length rsm_space (first_told index id) (told (codes "last") [] (last_or id more) ∷ last),
      first-length rsm_space (last_told (last_or id more)) last,
      first-length rsm_space (count_told n) [],
      counted-le (codes "first") (plain_attr (codes "index") (decimal index) ∷ []) id (omega arith)
          (ap length (plain-declared (codes "index") (decimal index) [])) (index-le index few) all.0,
      counted-le (codes "last") [] (last_or id more) (omega arith) (omega arith) (omega arith) (last-few id more all.0 all.1),
      counted-le (codes "count") [] n (omega arith) (omega arith) (omega arith) many,
    )

complete-declared : (b : Bool) → declarations 0 (complete_attrs b) ≡ []
complete-declared true = plain-declared (codes "complete") (codes "true") []
complete-declared false = refl

complete-le : (b : Bool) → length (attributes 0 (complete_attrs b)) ≤ 40
complete-le true = omega (arith, plain-attributes (codes "complete") (codes "true") [], length-value_text-le (codes "true"))
complete-le false = omega arith

fin-le : (st : Stanza) (page : Page) → IsFew page.first_index → IsFew page.count → AllByRecursion IsFew page.rows
    → IfSome (to_in st) (λ a. length (address_text a) ≤ 3071) → spelt_length (id_in st) ≤ 196608
    → length (text (result_of st (one_child (fin page)))) ≤ 500000
fin-le st page few many all to id =
    reply-le st (codes "result") (one_child (fin page)) to id (omega arith)
    (omega (
      arith,
      first-length client_space (fin page) [],
      under-le client_space mam_space (codes "fin") (complete_attrs page.complete) (one_child (result_set page)),
      ap length (complete-declared page.complete),
      complete-le page.complete,
      first-length mam_space (result_set page) [],
      under-le mam_space rsm_space (codes "set") [] (bounds page.first_index page.rows ++ told (codes "count") [] page.count ∷ []),
      bounds-le page.first_index page.count page.rows few many all,
    ))

filtered-le : (test : Row → Bool) (rows : List Row) → length (filter test rows) ≤ length rows
filtered-le test [] = omega arith
filtered-le test (r ∷ rows) =
    choose (λ (l : List Row). length l ≤ length (r ∷ rows)) (test r) (r ∷ filter test rows) (filter test rows)
    (λ (_ : _). omega (arith, filtered-le test rows)) (λ (_ : _). omega (arith, filtered-le test rows))

index-few : (asked shown : List Row) → IsFew (length asked) → IsFew (index_of asked shown)
index-few asked [] few = omega arith
index-few asked (r ∷ shown) few = omega (arith, few, filtered-le (λ other. is_past other r) asked)

abbrev pub HasFewId : Row → Type 0
HasFewId row = row.id ≤ 18446744073709551618

ids-few : (rows : List Row) → AllByRecursion HasFewId rows → AllByRecursion IsFew (map id_of rows)
ids-few [] all = tt
ids-few (r ∷ rows) all = (all.0, ids-few rows all.1)

pub page-le : (st : Stanza) (rows : List Row) (f : Filter) (ask : PageAsk) → length rows ≤ 18446744073709551618 → AllByRecursion HasFewId rows
    → IfSome (to_in st) (λ a. length (address_text a) ≤ 3071) → spelt_length (id_in st) ≤ 196608
    → length (text (result_of st (one_child (fin (page_of rows f ask))))) ≤ 500000
page-le st rows f ask few all to id =
    let asked : IsFew (length (matching f rows)) = omega (arith, few, filtered-le (fits f) rows) in
    fin-le st (page_of rows f ask) (index-few (matching f rows) (shown rows f ask) asked) asked
    (ids-few (shown rows f ask) (shown-all HasFewId rows f ask all)) to id

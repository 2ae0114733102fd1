-- What is wanting in a query is never memory.
use Rattle.std.proofs.Common.{◌≡◌, ℕ, List, [], ◌∷◌, Bool, true, false, not, subst, Result, Ok, Err}
use Rattle.std.specs.Prelude.{codes, Option, Some, None, ⊤, if◌then◌else◌}
use Rattle.std.specs.List.{list_any}
use Rattle.jid_core.specs.Addresses.{Address, address_of}
use Rattle.jid_core.specs.declared.fault.JidFault.{JidFault}
use Rattle.stanza_tree.specs.Attributes.{attr_of}
use Rattle.stanza_tree.specs.declared.node.Element.{Element}
use Rattle.stanza_model.specs.Forms.{form_of}
use Rattle.stanza_model.specs.declared.form.DataForm.{DataForm}
use Rattle.stanza_model.specs.declared.form.Field.{Field}
use Rattle.rsm_paging.specs.declared.ask.Filter.{Filter}
use Rattle.rsm_paging.specs.declared.ask.PageAsk.{PageAsk}
use Rattle.mam_wire.specs.Asks.{ask_by, ask_of, has_index, max_of, page_ask, words_at}
use Rattle.mam_wire.specs.Filters.{asked_named, filter_in, filter_of, is_typed, is_unknown, no_filter, only_value, put, put_all, put_by, put_only}
use Rattle.mam_wire.specs.Filters.{with_end, with_peer, with_start}
use Rattle.mam_wire.specs.Moments.{stamp_value}
use Rattle.mam_wire.specs.Queries.{form_in, is_long, joined, query_of, queryid_of, set_in}
use Rattle.mam_wire.specs.declared.filter.Asked.{Asked}
use Rattle.mam_wire.specs.declared.filter.Asked.TheVariants.{FormType, With, Start, End}
use Rattle.mam_wire.specs.declared.fault.QueryFault.{QueryFault}
use Rattle.mam_wire.specs.declared.fault.QueryFault.TheVariants.{NoMemory, BadRequest, NotImplemented}
use Rattle.mam_wire.specs.declared.query.Query.{Query}

-- a fault that it has is one of the element
abbrev IsCaused : {A : Type 0} → Result A QueryFault → Type 0
IsCaused (Ok value) = ⊤
IsCaused (Err NoMemory) = ⊥
IsCaused (Err BadRequest) = ⊤
IsCaused (Err NotImplemented) = ⊤

either : {A : Type 0} (b : Bool) (x y : Result A QueryFault) → IsCaused x → IsCaused y → IsCaused (if b then x else y)
either true x y is_x is_y = is_x
either false x y is_x is_y = is_y

peer : (read : Result Address JidFault) (filter : Filter) → IsCaused (with_peer read filter)
peer (Ok address) filter = tt
peer (Err fault) filter = tt

start : (moment : Option ℕ) (filter : Filter) → IsCaused (with_start moment filter)
start None filter = tt
start (Some moment) filter = tt

end : (moment : Option ℕ) (filter : Filter) → IsCaused (with_end moment filter)
end None filter = tt
end (Some moment) filter = tt

of_value : (asked : Asked) (value : List ℕ) (filter : Filter) → IsCaused (put asked value filter)
of_value FormType value filter = tt
of_value With value filter = peer (address_of value) filter
of_value Start value filter = start (stamp_value value) filter
of_value End value filter = end (stamp_value value) filter

of_only : (asked : Asked) (value : Option (List ℕ)) (filter : Filter) → IsCaused (put_only asked value filter)
of_only asked None filter = tt
of_only asked (Some value) filter = of_value asked value filter

of_field : (asked : Option Asked) (values : List (List ℕ)) (filter : Filter) → IsCaused (put_by asked values filter)
of_field None values filter = tt
of_field (Some asked) values filter = of_only asked (only_value values) filter

of_fields : (fields : List Field) (read : Result Filter QueryFault) → IsCaused read → IsCaused (put_all fields read)
of_fields [] read is = is
of_fields (f ∷ more) (Err fault) is = is
of_fields (f ∷ more) (Ok filter) is =
    of_fields more (put_by (asked_named f.name) f.values filter) (of_field (asked_named f.name) f.values filter)

of_form : (form : Option DataForm) → IsCaused (filter_in form)
of_form None = tt
of_form (Some form) =
    either (not (is_typed form.fields)) (Err BadRequest)
    (if list_any is_unknown form.fields then Err NotImplemented else put_all form.fields (Ok no_filter)) tt
    (either (list_any is_unknown form.fields) (Err NotImplemented) (put_all form.fields (Ok no_filter)) tt
    (of_fields form.fields (Ok no_filter) tt))

of_filter : (x : Option Element) → IsCaused (filter_of x)
of_filter None = tt
of_filter (Some x) = of_form (form_of x)

of_page : (max : ℕ) (after before : Option (List ℕ)) → IsCaused (page_ask max after before)
of_page max (Some after) (Some before) = tt
of_page max (Some after) None = tt
of_page max None before = tt

of_ask : (max : Option ℕ) (index : Bool) (after before : Option (List ℕ)) → IsCaused (ask_by max index after before)
of_ask None index after before = tt
of_ask (Some max) true after before = tt
of_ask (Some max) false after before = of_page max after before

of_set : (set : Option Element) → IsCaused (ask_of set)
of_set None = tt
of_set (Some set) = of_ask (max_of (words_at (codes "max") set)) (has_index set) (words_at (codes "after") set) (words_at (codes "before") set)

of_parts : (f : Result Filter QueryFault) (i : Result (Option (List ℕ)) QueryFault) (a : Result PageAsk QueryFault)
    → IsCaused f → IsCaused i → IsCaused a → IsCaused (joined f i a)
of_parts (Err NoMemory) i a f_is i_is a_is = f_is
of_parts (Err BadRequest) i a f_is i_is a_is = tt
of_parts (Err NotImplemented) i a f_is i_is a_is = tt
of_parts (Ok filter) (Err NoMemory) a f_is i_is a_is = i_is
of_parts (Ok filter) (Err BadRequest) a f_is i_is a_is = tt
of_parts (Ok filter) (Err NotImplemented) a f_is i_is a_is = tt
of_parts (Ok filter) (Ok id) (Err NoMemory) f_is i_is a_is = a_is
of_parts (Ok filter) (Ok id) (Err BadRequest) f_is i_is a_is = tt
of_parts (Ok filter) (Ok id) (Err NotImplemented) f_is i_is a_is = tt
of_parts (Ok filter) (Ok id) (Ok ask) f_is i_is a_is = tt

of_query : (query : Element) → IsCaused (query_of query)
of_query query =
    let id = attr_of (codes "queryid") query.attrs in
    of_parts (filter_of (form_in query)) (queryid_of id) (ask_of (set_in query)) (of_filter (form_in query))
    (either (is_long id) (Err BadRequest) (Ok id) tt tt) (of_set (set_in query))

pub not_memory : (query : Element) → query_of query ≡ Err NoMemory → ⊥
not_memory query is = subst (λ (r : Result Query QueryFault). IsCaused r) is (of_query query)

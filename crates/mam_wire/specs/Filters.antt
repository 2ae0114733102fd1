-- Which rows a query asks for (XEP-0313, 4.1), by the form that it submits (XEP-0004).
use Rattle.std.specs.Prelude.{ℕ, List, [], ◌∷◌, Bool, false, not, ◌&&◌, codes, bytes_eq, Option, Some, None, is_none, Result, Ok, Err, if◌then◌else◌}
use Rattle.std.specs.List.{list_any}
use Rattle.jid_core.specs.Addresses.{Address, address_of}
use Rattle.jid_core.specs.declared.fault.JidFault.{JidFault}
use Rattle.stanza_tree.specs.declared.node.Element.{Element}
use Rattle.stanza_model.specs.Forms.{form_of}
use Rattle.stanza_model.specs.declared.form.DataForm.{DataForm}
use Rattle.stanza_model.specs.declared.form.Field.{Field}
use Rattle.rsm_paging.specs.declared.ask.Filter.{Filter}
use Rattle.mam_wire.specs.Answers.{mam_space}
use Rattle.mam_wire.specs.Moments.{stamp_value}
use Rattle.mam_wire.specs.declared.fault.QueryFault.{QueryFault}
use Rattle.mam_wire.specs.declared.fault.QueryFault.TheVariants.{BadRequest, NotImplemented}
use Rattle.mam_wire.specs.declared.filter.Asked.{Asked}
use Rattle.mam_wire.specs.declared.filter.Asked.TheVariants.{FormType, With, Start, End}

-- Fields.

-- XEP-0313, 4.1: what a field of this name says
abbrev pub asked_named : List ℕ → Option Asked
asked_named name =
    if bytes_eq name (codes "FORM_TYPE") then Some FormType
    else (if bytes_eq name (codes "with") then Some With
    else (if bytes_eq name (codes "start") then Some Start
    else (if bytes_eq name (codes "end") then Some End else None)))

-- XEP-0004, 3.2: the value of a field that has one, and no more
abbrev pub only_value : List (List ℕ) → Option (List ℕ)
only_value [] = None
only_value (value ∷ []) = Some value
only_value (value ∷ next ∷ more) = None

-- XEP-0068, 3.1: a form for queries is of this type
abbrev pub is_mam : Option (List ℕ) → Bool
is_mam None = false
is_mam (Some value) = bytes_eq value mam_space

abbrev pub names_type : Field → Bool
names_type f = bytes_eq f.name (codes "FORM_TYPE")

-- a field that says that the form is of another type
abbrev pub is_foreign : Field → Bool
is_foreign f = names_type f && not (is_mam (only_value f.values))

-- of which type the form is is said, and it is the one for queries
abbrev pub is_typed : List Field → Bool
is_typed fields = list_any names_type fields && not (list_any is_foreign fields)

abbrev pub is_unknown : Field → Bool
is_unknown f = is_none (asked_named f.name)

-- What the fields ask for, one after another.

-- what can't be read is a bad request
abbrev pub with_peer : Result Address JidFault → Filter → Result Filter QueryFault
with_peer (Err fault) filter = Err BadRequest
with_peer (Ok peer) filter = Ok (record filter { peer = Some peer })

abbrev pub with_start : Option ℕ → Filter → Result Filter QueryFault
with_start None filter = Err BadRequest
with_start (Some moment) filter = Ok (record filter { start = Some moment })

abbrev pub with_end : Option ℕ → Filter → Result Filter QueryFault
with_end None filter = Err BadRequest
with_end (Some moment) filter = Ok (record filter { end = Some moment })

abbrev pub put : Asked → List ℕ → Filter → Result Filter QueryFault
put FormType value filter = Ok filter
put With value filter = with_peer (address_of value) filter
put Start value filter = with_start (stamp_value value) filter
put End value filter = with_end (stamp_value value) filter

abbrev pub put_only : Asked → Option (List ℕ) → Filter → Result Filter QueryFault
put_only asked None filter = Err BadRequest
put_only asked (Some value) filter = put asked value filter

abbrev pub put_by : Option Asked → List (List ℕ) → Filter → Result Filter QueryFault
put_by None values filter = Ok filter
put_by (Some asked) values filter = put_only asked (only_value values) filter

-- the fields in their order: the first fault is that of all, and of two fields of one name the later one counts
abbrev pub put_all : List Field → Result Filter QueryFault → Result Filter QueryFault
put_all [] read = read
put_all (f ∷ more) (Err fault) = Err fault
put_all (f ∷ more) (Ok filter) = put_all more (put_by (asked_named f.name) f.values filter)

-- The form.

-- all rows
abbrev pub no_filter : Filter
no_filter = record { peer = None; start = None; end = None }

-- the form's type is looked at first, then the names of its fields, and then their values
abbrev pub filter_by : List Field → Result Filter QueryFault
filter_by fields =
    if not (is_typed fields) then Err BadRequest
    else (if list_any is_unknown fields then Err NotImplemented else put_all fields (Ok no_filter))

-- a form that isn't submitted can't be read
abbrev pub filter_in : Option DataForm → Result Filter QueryFault
filter_in None = Err BadRequest
filter_in (Some form) = filter_by form.fields

-- without a form all rows are asked for
abbrev pub filter_of : Option Element → Result Filter QueryFault
filter_of None = Ok no_filter
filter_of (Some x) = filter_in (form_of x)

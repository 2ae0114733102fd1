-- A query of an archive as it is read (XEP-0313, 4.1 and 4.3, with XEP-0004 and XEP-0059).
use Rattle.std.specs.Prelude.{ℕ, nat_lt, List, length, Bool, false, codes, Option, Some, None, Result, Ok, Err, if◌then◌else◌}
use Rattle.stanza_tree.specs.Attributes.{attr_of}
use Rattle.stanza_tree.specs.Children.{child_of}
use Rattle.stanza_tree.specs.declared.node.Element.{Element}
use Rattle.rsm_paging.specs.declared.ask.Filter.{Filter}
use Rattle.rsm_paging.specs.declared.ask.PageAsk.{PageAsk}
use Rattle.mam_wire.specs.Answers.{rsm_space}
use Rattle.mam_wire.specs.Asks.{ask_of}
use Rattle.mam_wire.specs.Filters.{filter_of}
use Rattle.mam_wire.specs.Forms.{form_space}
use Rattle.mam_wire.specs.declared.fault.QueryFault.{QueryFault}
use Rattle.mam_wire.specs.declared.fault.QueryFault.TheVariants.{BadRequest}
use Rattle.mam_wire.specs.declared.query.Query.{Query}

-- the form, which says which rows are asked for, and the result set, which says which of them are wanted now
abbrev pub form_in : Element → Option Element
form_in query = child_of form_space (codes "x") query.children

abbrev pub set_in : Element → Option Element
set_in query = child_of rsm_space (codes "set") query.children

-- the most bytes of a query's id
abbrev pub is_long : Option (List ℕ) → Bool
is_long None = false
is_long (Some id) = nat_lt 1024 (length id)

abbrev pub queryid_of : Option (List ℕ) → Result (Option (List ℕ)) QueryFault
queryid_of id = if is_long id then Err BadRequest else Ok id

-- the first fault is that of the query
abbrev pub joined : Result Filter QueryFault → Result (Option (List ℕ)) QueryFault → Result PageAsk QueryFault → Result Query QueryFault
joined (Err fault) queryid ask = Err fault
joined (Ok filter) (Err fault) ask = Err fault
joined (Ok filter) (Ok queryid) (Err fault) = Err fault
joined (Ok filter) (Ok queryid) (Ok ask) = Ok (record { queryid = queryid; filter = filter; ask = ask })

abbrev pub query_of : Element → Result Query QueryFault
query_of query = joined (filter_of (form_in query)) (queryid_of (attr_of (codes "queryid") query.attrs)) (ask_of (set_in query))

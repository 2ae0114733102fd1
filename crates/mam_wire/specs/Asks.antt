-- Which page a query asks for (XEP-0313, 4.3, with XEP-0059, 2).
use Rattle.std.specs.Prelude.{ℕ, nat_lt, min, List, length, Bool, true, false, ◌&&◌, codes, Option, Some, None, is_some, Result, Ok, Err, if◌then◌else◌}
use Rattle.std.specs.Char.{is_ascii_digit}
use Rattle.std.specs.List.{list_all}
use Rattle.std.specs.Option.{option_map}
use Rattle.std.specs.Str.Parse.{digits_value}
use Rattle.stanza_tree.specs.Children.{child_of, words_of}
use Rattle.stanza_tree.specs.declared.node.Element.{Element}
use Rattle.rsm_paging.specs.declared.ask.PageAsk.{PageAsk}
use Rattle.mam_wire.specs.Answers.{rsm_space}
use Rattle.mam_wire.specs.declared.fault.QueryFault.{QueryFault}
use Rattle.mam_wire.specs.declared.fault.QueryFault.TheVariants.{BadRequest, NotImplemented}

-- the words of the first child of that name
abbrev pub words_at : List ℕ → Element → Option (List ℕ)
words_at local set = option_map (λ e. words_of e.children) (child_of rsm_space local set.children)

abbrev pub has_index : Element → Bool
has_index set = is_some (child_of rsm_space (codes "index") set.children)

-- the most rows of a page, and how many it has where `max` is absent
abbrev pub most : ℕ
most = 50

-- XEP-0059, 2.1: the number that these digits write, or the most
abbrev pub max_of : Option (List ℕ) → Option ℕ
max_of None = Some most
max_of (Some words) =
    if nat_lt 0 (length words) && list_all is_ascii_digit words then Some (min (digits_value 10 words) most) else None

-- those after a row, or those before one; not both
abbrev pub page_ask : (max : ℕ) → (after before : Option (List ℕ)) → Result PageAsk QueryFault
page_ask max (Some after) (Some before) = Err BadRequest
page_ask max (Some after) None = Ok (record { max = max; after = Some after; before = None })
page_ask max None before = Ok (record { max = max; after = None; before = before })

-- XEP-0059, 2.6: a page by the number of its first row isn't had
abbrev pub ask_by : Option ℕ → (is_by_index : Bool) → (after before : Option (List ℕ)) → Result PageAsk QueryFault
ask_by None index after before = Err BadRequest
ask_by (Some max) true after before = Err NotImplemented
ask_by (Some max) false after before = page_ask max after before

abbrev pub ask_in : Element → Result PageAsk QueryFault
ask_in set = ask_by (max_of (words_at (codes "max") set)) (has_index set) (words_at (codes "after") set) (words_at (codes "before") set)

-- without a `set` the first page is asked for
abbrev pub ask_of : Option Element → Result PageAsk QueryFault
ask_of None = Ok (record { max = most; after = None; before = None })
ask_of (Some set) = ask_in set

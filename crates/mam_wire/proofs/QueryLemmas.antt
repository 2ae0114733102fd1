-- A query by its three parts, and that its page is asked for one way.
use Rattle.std.proofs.Common.{◌≡◌, ℕ, List, ap, refl, subst, Bool, true, false, Result, Ok, Err}
use Rattle.std.specs.Prelude.{codes, Option, Some, None}
use Rattle.stanza_tree.specs.Attributes.{attr_of}
use Rattle.stanza_tree.specs.declared.node.Element.{Element}
use Rattle.rsm_paging.specs.Pages.{IsOneWay}
use Rattle.rsm_paging.specs.declared.ask.Filter.{Filter}
use Rattle.rsm_paging.specs.declared.ask.PageAsk.{PageAsk}
use Rattle.mam_wire.specs.Asks.{ask_by, ask_of, has_index, max_of, page_ask, words_at}
use Rattle.mam_wire.specs.Filters.{filter_of}
use Rattle.mam_wire.specs.Queries.{form_in, joined, query_of, queryid_of, set_in}
use Rattle.mam_wire.specs.declared.fault.QueryFault.{QueryFault}
use Rattle.mam_wire.specs.declared.query.Query.{Query}

pub joined_ok : (f : Result Filter QueryFault) (i : Result (Option (List ℕ)) QueryFault) (a : Result PageAsk QueryFault) (filter : Filter)
    (queryid : Option (List ℕ)) (ask : PageAsk) → f ≡ Ok filter → i ≡ Ok queryid → a ≡ Ok ask
    → joined f i a ≡ Ok (record { queryid = queryid; filter = filter; ask = ask })
joined_ok f i a filter queryid ask is_filter is_id is_ask = rw is_filter (rw is_id (rw is_ask refl))

-- what two equal answers have is the same
same_ok : {A : Type 0} (a b : A) → ◌≡◌ {A = Result A QueryFault} (Ok a) (Ok b) → a ≡ b
same_ok a b is = cc

err_ok : {A : Type 0} (fault : QueryFault) (a : A) → ◌≡◌ {A = Result A QueryFault} (Err fault) (Ok a) → ⊥
err_ok fault a is = cc

goes_one_way : (made ask : PageAsk) → ◌≡◌ {A = Result PageAsk QueryFault} (Ok made) (Ok ask) → IsOneWay made.after made.before
    → IsOneWay ask.after ask.before
goes_one_way made ask is way = subst (λ (p : PageAsk). IsOneWay p.after p.before) (same_ok made ask is) way

page_one_way : (max : ℕ) (after before : Option (List ℕ)) (ask : PageAsk) → page_ask max after before ≡ Ok ask → IsOneWay ask.after ask.before
page_one_way max (Some after) (Some before) ask is = absurd (err_ok _ ask is)
page_one_way max (Some after) None ask is = goes_one_way _ ask is tt
page_one_way max None before ask is = goes_one_way _ ask is tt

by_one_way : (max : Option ℕ) (index : Bool) (after before : Option (List ℕ)) (ask : PageAsk) → ask_by max index after before ≡ Ok ask
    → IsOneWay ask.after ask.before
by_one_way None index after before ask is = absurd (err_ok _ ask is)
by_one_way (Some max) true after before ask is = absurd (err_ok _ ask is)
by_one_way (Some max) false after before ask is = page_one_way max after before ask is

set_one_way : (set : Option Element) (ask : PageAsk) → ask_of set ≡ Ok ask → IsOneWay ask.after ask.before
set_one_way None ask is = goes_one_way _ ask is tt
set_one_way (Some set) ask is =
    by_one_way (max_of (words_at (codes "max") set)) (has_index set) (words_at (codes "after") set) (words_at (codes "before") set) ask is

ask_joined : (f : Result Filter QueryFault) (i : Result (Option (List ℕ)) QueryFault) (a : Result PageAsk QueryFault) (q : Query)
    → joined f i a ≡ Ok q → a ≡ Ok q.ask
ask_joined (Err fault) i a q is = absurd (err_ok fault q is)
ask_joined (Ok filter) (Err fault) a q is = absurd (err_ok fault q is)
ask_joined (Ok filter) (Ok id) (Err fault) q is = absurd (err_ok fault q is)
ask_joined (Ok filter) (Ok id) (Ok ask) q is = ap (λ (r : Query). Ok r.ask) (same_ok _ q is)

-- what is read asks for a page one way, as pages want it
pub one_way : (query : Element) (q : Query) → query_of query ≡ Ok q → IsOneWay q.ask.after q.ask.before
one_way query q is =
    set_one_way (set_in query) q.ask
    (ask_joined (filter_of (form_in query)) (queryid_of (attr_of (codes "queryid") query.attrs)) (ask_of (set_in query)) q is)

use Rattle.std.proofs.Common.{◌∙◌, ◌++◌, ◌+◌, ◌-◌, ap, sym, map, List, Option}
use Rattle.std.specs.Option.{option_copied, option_to_list}
use Rattle.std.proofs.lemmas.List.{append_assoc}
use Rattle.rsm_paging.specs.Matches.{match_of}
use Rattle.rsm_paging.specs.Places.{row_at, rows_at}
use Rattle.rsm_paging.specs.declared.ask.Row.{Row}
use Rattle.rsm_paging.specs.declared.matching.Match.{Match}
use Rattle.rsm_paging.proofs.PageLemmas.{map-append}
use Rattle.rsm_paging.proofs.PlaceLemmas.{rows-step}
use Rattle.rsm_paging.proofs.placing.matches_at.Goals as goal

pub loop-i-preserved : goal.loop-i-preserved
loop-i-preserved c =
    let rows = c.args.rows.now in
    let picked = option_copied c.args.picked in
    let from = c.args.span.from in
    let many = c.args.span.many in
    let i = c.loop-i.i in
    let here : List Row = option_to_list (row_at rows picked (from + i)) in
    let rest : List Row = rows_at rows picked (from + (i + 1)) (many - (i + 1)) in
    ap (λ (l : List Match). l ++ map match_of rest)
    (c.in_ok-push_match.ensures ∙ ap (λ (o : Option Row). c.loop-i.all.items ++ map match_of (option_to_list o)) c.row_at.ensures)
    ∙ append_assoc c.loop-i.all.items (map match_of here) (map match_of rest)
    ∙ ap (λ (l : List Match). c.loop-i.all.items ++ l)
    (sym (map-append match_of here rest) ∙ ap (map match_of) (sym (rows-step rows picked from many i c.loop-i-test.true)))
    ∙ c.loop-i.invariant

use Rattle.std.proofs.Common.{◌≡◌, ◌++◌, drop, map, Some}
use Rattle.std.specs.Option.{option_copied}
use Rattle.rsm_paging.specs.Pages.{row_numbered}
use Rattle.house_routing.proofs.ShownLemmas.{all_shown}
use Rattle.house_routing.proofs.archives.push_shown.Given as goal

abbrev pub invariant-loop-id : goal.invariant-loop-id
invariant-loop-id l =
    l.effects.items
    ++ all_shown l.fn.who (option_copied l.fn.from) l.fn.query.queryid (map (λ id. row_numbered (Some id) l.fn.rows) (drop l.id-index l.id-items))
    ≡ l.fn.effects.items
    ++ all_shown l.fn.who (option_copied l.fn.from) l.fn.query.queryid (map (λ id. row_numbered (Some id) l.fn.rows) l.fn.page.rows)

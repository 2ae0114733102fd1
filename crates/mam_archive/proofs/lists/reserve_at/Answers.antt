use Rattle.std.proofs.Common.{rules, ◌≡◌, ◌+◌, ◌≤◌, sym, subst}
use Rattle.mam_archive.specs.Lists.{IdList, list_at}
use Rattle.mam_archive.proofs.lists.reserve_at.Goals as goal

pub returns-in-Some-clause-room : goal.returns-in-Some-clause-room
returns-in-Some-clause-room c = λ made fits had.
    let old : list_at c.args.key c.args.lists.now.entries ≡ c.in-Some.list.now = search rules in
    let new : list_at c.args.key (c.get_mut.follows.lender c.reserve.new.self).entries ≡ c.reserve.new.self = search rules in
    subst (λ (l : IdList). l.until ≤ made + l.free) (sym new)
    (c.reserve.ensures.room made fits (subst (λ (l : IdList). l.until ≤ made + l.free) old had))

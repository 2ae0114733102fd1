use Rattle.std.proofs.Common.{◌∙◌, ap, sym}
use Rattle.mam_archive.specs.Lists.{IdList}
use Rattle.mam_archive.proofs.ListLemmas.{listed-same}
use Rattle.mam_archive.proofs.lists.reserve.Goals as goal

pub returns-clause-listed : goal.returns-clause-listed
returns-clause-listed c = λ hash_key e rows made fits was.
    let k = c.args.key in
    let same = c.reserve_at.ensures.same in
    listed-same hash_key e rows made k c.args.lists.now.entries c.reserve_at.new.lists.entries c.reserve_at.ensures.others was
    (ap (λ (l : IdList). l.ids) same) (c.reserve_at.ensures.room made fits (was.room k))
    (λ fine. was.alike k (sym (ap (λ (l : IdList). l.mixed) same) ∙ fine))

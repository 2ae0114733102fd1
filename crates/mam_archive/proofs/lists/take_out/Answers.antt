use Rattle.mam_archive.proofs.ListLemmas.{listed-taken}
use Rattle.mam_archive.proofs.lists.take_out.Goals as goal

pub returns-clause-listed : goal.returns-clause-listed
returns-clause-listed c = λ hash_key e rows was.
    listed-taken hash_key e rows c.args.made c.args.key c.args.lists.now.entries c.remove_at.new.lists.entries c.remove_at.ensures.others c.requires
    c.remove_at.ensures.here was

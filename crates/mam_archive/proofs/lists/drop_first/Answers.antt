use Rattle.mam_archive.proofs.ListLemmas.{dropped-by}
use Rattle.mam_archive.proofs.lists.drop_first.Goals as goal

pub returns-then-drop_at-clause-listed : goal.returns-then-drop_at-clause-listed
returns-then-drop_at-clause-listed c = λ first more was is.
    c.take_out.ensures.listed c.args.hash_key c.args.extent more
    (dropped-by c.args.hash_key c.args.extent c.key_of-key.result c.args.peer.now c.args.made c.args.lists.now.entries c.drop_at.new.lists.entries
    c.key_of-key.ensures c.drop_at.ensures.others c.drop_at.ensures.ids c.drop_at.ensures.same c.drop_at.ensures.room first more was is)

pub returns-else-drop_at-clause-listed : goal.returns-else-drop_at-clause-listed
returns-else-drop_at-clause-listed c = λ first more was is.
    dropped-by c.args.hash_key c.args.extent c.key_of-key.result c.args.peer.now c.args.made c.args.lists.now.entries c.drop_at.new.lists.entries
    c.key_of-key.ensures c.drop_at.ensures.others c.drop_at.ensures.ids c.drop_at.ensures.same c.drop_at.ensures.room first more was is

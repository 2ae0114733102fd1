use Rattle.session_table.proofs.PlaceLemmas.{place_of}
use Rattle.session_table.proofs.slots.find.Goals as goal

pub returns : goal.returns
returns c =
    place_of c.args.number c.args.slots.now.entries c.get_index_of.result c.get_index_of.ensures.index c.get_index_of.ensures.found

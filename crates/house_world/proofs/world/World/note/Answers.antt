use Rattle.house_world.proofs.NoteLemmas.{note_did, stays_noted}
use Rattle.house_world.proofs.world.World.note.Goals as goal

pub returns-clause-did : goal.returns-clause-did
returns-clause-did c =
    note_did c.args.self.now c.args.change c.apply.new.self c.requires.tied c.requires.users c.know_change.ensures c.apply.ensures.book
    c.apply.ensures.domain

pub returns-clause-stays : goal.returns-clause-stays
returns-clause-stays c = stays_noted c.args.self.now c.apply.new.self

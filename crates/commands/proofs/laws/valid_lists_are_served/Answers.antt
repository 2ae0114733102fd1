use Rattle.script_play.proofs.Faults.{never}
use Rattle.commands.proofs.Servings.{ends_concluded}
use Rattle.commands.proofs.laws.valid_lists_are_served.Goals as goal

pub returns : goal.returns
returns g c =
    let w = c.requires.task.0 in
    let valid = c.requires.valid w c.requires.task.1 in record {
      ends =
          ends_concluded w c.args.source.now c.run.new.source valid.0 _ _ _ _ c.run.result (c.requires.short w c.requires.task.1) valid.1
          (c.run.ensures.served w c.requires.task.1) (λ is. never (c.run.ensures.read is)) (λ is. never (c.run.ensures.written is))
          (λ is. never (c.run.ensures.listened is));
    }

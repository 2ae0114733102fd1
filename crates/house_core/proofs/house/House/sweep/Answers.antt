use Rattle.house_model.specs.declared.event.Event.TheVariants.{Sweep}
use Rattle.house_model.proofs.Texts.{text-sweep}
use Rattle.house_model.proofs.TurnLaws.{stands-ended}
use Rattle.house_core.specs.Houses.{held}
use Rattle.house_core.proofs.house.House.sweep.Goals as goal

pub returns-clause-history : goal.returns-clause-history
returns-clause-history c = λ o h stands.
    stands-ended o h (held c.args.self.now) (held c.apply_sweep.new.self) (Sweep c.args.w c.args.t) c.apply_sweep.result stands c.requires.line tt tt
    (text-sweep (held c.args.self.now) c.args.w c.args.t)
    c.apply_sweep.ensures.state c.apply_sweep.ensures.reply c.apply_sweep.ensures.refused

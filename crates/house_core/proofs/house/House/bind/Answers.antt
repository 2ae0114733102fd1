use Rattle.std.specs.Option.{option_copied}
use Rattle.house_model.specs.declared.event.Event.TheVariants.{Bind}
use Rattle.house_model.proofs.Texts.{text-bind}
use Rattle.house_model.proofs.TurnLaws.{stands-ended}
use Rattle.house_core.specs.Houses.{held}
use Rattle.house_core.proofs.house.House.bind.Goals as goal

pub returns-clause-history : goal.returns-clause-history
returns-clause-history c = λ o h stands.
    let e = Bind c.args.w c.args.id.now (option_copied c.args.resource) c.args.t c.args.dice in
    stands-ended o h (held c.args.self.now) (held c.apply_bind.new.self) e c.apply_bind.result stands c.requires.line c.requires.id tt
    (text-bind (held c.args.self.now) c.args.w c.args.id.now (option_copied c.args.resource) c.args.t c.args.dice)
    c.apply_bind.ensures.state c.apply_bind.ensures.reply c.apply_bind.ensures.refused

use Rattle.std.proofs.Common.{[], sym}
use Rattle.house_model.specs.declared.event.Event.TheVariants.{Enable}
use Rattle.house_model.proofs.Texts.{text-enable}
use Rattle.house_model.proofs.TurnLaws.{stands-made}
use Rattle.house_core.specs.Houses.{held}
use Rattle.house_core.proofs.house.House.enable.Goals as goal

pub returns-clause-history : goal.returns-clause-history
returns-clause-history c = λ o h stands.
    stands-made o h (held c.args.self.now) (held c.apply_enable.new.self) (Enable c.args.w c.args.resume c.args.dice) c.apply_enable.result [] stands
    c.requires.line tt
    c.apply_enable.ensures.state c.apply_enable.ensures.reply (sym (text-enable (held c.args.self.now) c.args.w c.args.resume c.args.dice))

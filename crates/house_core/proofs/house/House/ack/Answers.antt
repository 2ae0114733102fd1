use Rattle.std.proofs.Common.{[], sym}
use Rattle.house_model.specs.declared.event.Event.TheVariants.{Ack}
use Rattle.house_model.proofs.Texts.{text-ack}
use Rattle.house_model.proofs.TurnLaws.{stands-made}
use Rattle.house_core.specs.Houses.{held}
use Rattle.house_core.proofs.house.House.ack.Goals as goal

pub returns-clause-history : goal.returns-clause-history
returns-clause-history c = λ o h stands.
    stands-made o h (held c.args.self.now) (held c.apply_ack.new.self) (Ack c.args.w c.args.h) c.apply_ack.result [] stands c.requires.line tt
    c.apply_ack.ensures.state c.apply_ack.ensures.reply (sym (text-ack (held c.args.self.now) c.args.w c.args.h))

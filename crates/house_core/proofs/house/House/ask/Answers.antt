use Rattle.std.proofs.Common.{[], sym}
use Rattle.house_model.specs.declared.event.Event.TheVariants.{Ask}
use Rattle.house_model.proofs.Texts.{text-ask}
use Rattle.house_model.proofs.TurnLaws.{stands-made}
use Rattle.house_core.specs.Houses.{held}
use Rattle.house_core.proofs.house.House.ask.Goals as goal

pub returns-clause-history : goal.returns-clause-history
returns-clause-history c = λ o h stands.
    stands-made o h (held c.args.self.now) (held c.apply_ask.new.self) (Ask c.args.w) c.apply_ask.result [] stands c.requires.line tt
    c.apply_ask.ensures.state c.apply_ask.ensures.reply (sym (text-ask (held c.args.self.now) c.args.w))

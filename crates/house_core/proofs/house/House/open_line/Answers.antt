use Rattle.std.proofs.Common.{[], sym}
use Rattle.house_model.specs.declared.event.Event.TheVariants.{OpenLine}
use Rattle.house_model.proofs.Texts.{text-open_line}
use Rattle.house_model.proofs.TurnLaws.{stands-made}
use Rattle.house_core.specs.Houses.{held}
use Rattle.house_core.proofs.house.House.open_line.Goals as goal

pub returns-clause-history : goal.returns-clause-history
returns-clause-history c = λ o h stands.
    stands-made o h (held c.args.self.now) (held c.apply_open.new.self) (OpenLine c.args.w) c.apply_open.result [] stands c.requires.line tt
    c.apply_open.ensures.state c.apply_open.ensures.reply (sym (text-open_line (held c.args.self.now) c.args.w))

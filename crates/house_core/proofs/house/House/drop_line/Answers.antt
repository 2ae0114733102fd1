use Rattle.std.proofs.Common.{[], sym}
use Rattle.house_model.specs.declared.event.Event.TheVariants.{DropLine}
use Rattle.house_model.proofs.Texts.{text-drop_line}
use Rattle.house_model.proofs.TurnLaws.{stands-made}
use Rattle.house_core.specs.Houses.{held}
use Rattle.house_core.proofs.house.House.drop_line.Goals as goal

pub returns-clause-history : goal.returns-clause-history
returns-clause-history c = λ o h stands.
    stands-made o h (held c.args.self.now) (held c.apply_drop.new.self) (DropLine c.args.w c.args.t) c.apply_drop.result [] stands c.requires.line tt
    c.apply_drop.ensures.state c.apply_drop.ensures.reply (sym (text-drop_line (held c.args.self.now) c.args.w c.args.t))

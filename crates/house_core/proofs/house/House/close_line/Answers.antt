use Rattle.std.proofs.Common.{[], sym}
use Rattle.house_model.specs.declared.event.Event.TheVariants.{CloseLine}
use Rattle.house_model.proofs.Texts.{text-close_line}
use Rattle.house_model.proofs.TurnLaws.{stands-made}
use Rattle.house_core.specs.Houses.{held}
use Rattle.house_core.proofs.house.House.close_line.Goals as goal

pub returns-clause-history : goal.returns-clause-history
returns-clause-history c = λ o h stands.
    stands-made o h (held c.args.self.now) (held c.apply_close.new.self) (CloseLine c.args.w c.args.t) c.apply_close.result [] stands c.requires.line tt
    c.apply_close.ensures.state c.apply_close.ensures.reply (sym (text-close_line (held c.args.self.now) c.args.w c.args.t))

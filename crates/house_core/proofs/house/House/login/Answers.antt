use Rattle.std.proofs.Common.{[], sym}
use Rattle.house_model.specs.declared.event.Event.TheVariants.{Login}
use Rattle.house_model.proofs.Texts.{text-login}
use Rattle.house_model.proofs.TurnLaws.{stands-made}
use Rattle.house_core.specs.Houses.{held}
use Rattle.house_core.proofs.house.House.login.Goals as goal

pub returns-clause-history : goal.returns-clause-history
returns-clause-history c = λ o h stands.
    stands-made o h (held c.args.self.now) (held c.apply_login.new.self) (Login c.args.w c.args.user.now) c.apply_login.result [] stands c.requires.line tt
    c.apply_login.ensures.state c.apply_login.ensures.reply (sym (text-login (held c.args.self.now) c.args.w c.args.user.now))

use Rattle.std.proofs.Common.{[], sym}
use Rattle.std.specs.Option.{option_copied}
use Rattle.house_model.specs.declared.event.Event.TheVariants.{Resume}
use Rattle.house_model.proofs.Texts.{text-resume}
use Rattle.house_model.proofs.TurnLaws.{stands-made}
use Rattle.house_core.specs.Houses.{held}
use Rattle.house_core.proofs.house.House.resume.Goals as goal

pub returns-clause-history : goal.returns-clause-history
returns-clause-history c = λ o h stands.
    stands-made o h (held c.args.self.now) (held c.apply_resume.new.self) (Resume c.args.w (option_copied c.args.id) c.args.h c.args.t)
    c.apply_resume.result [] stands c.requires.line tt
    c.apply_resume.ensures.state c.apply_resume.ensures.reply
    (sym (text-resume (held c.args.self.now) c.args.w (option_copied c.args.id) c.args.h c.args.t))

use Rattle.house_model.specs.declared.event.Event.TheVariants.{Act}
use Rattle.house_model.proofs.Texts.{text-act}
use Rattle.house_model.proofs.TurnLaws.{stands-ended}
use Rattle.house_core.specs.Houses.{held}
use Rattle.house_core.proofs.house.House.act.Goals as goal

pub returns-clause-history : goal.returns-clause-history
returns-clause-history c = λ o h stands.
    stands-ended o h (held c.args.self.now) (held c.apply_act.new.self) (Act c.args.w c.args.stanza.now c.args.t) c.apply_act.result stands c.requires.line
    c.requires.fits
    tt (text-act (held c.args.self.now) c.args.w c.args.stanza.now c.args.t) c.apply_act.ensures.state c.apply_act.ensures.reply c.apply_act.ensures.refused

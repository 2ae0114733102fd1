use Rattle.std.proofs.Common.{sym, ◌∙◌}
use Rattle.std.proofs.lemmas.List.{append_cancel_left}
use Rattle.house_model.specs.declared.event.Event.TheVariants.{Pull}
use Rattle.house_model.specs.Histories.{kept_step}
use Rattle.house_model.proofs.TurnLaws.{stands-made}
use Rattle.house_core.specs.Houses.{held}
use Rattle.house_core.proofs.house.House.pull.Goals as goal

pub returns-clause-history : goal.returns-clause-history
returns-clause-history c = λ o h text is stands.
    stands-made o h (held c.args.self.now) (held c.apply_pull.new.self) (Pull c.args.w c.args.t) c.apply_pull.result text stands c.requires.line tt
    c.apply_pull.ensures.state c.apply_pull.ensures.reply
    (append_cancel_left c.args.out.now.items text (kept_step (held c.args.self.now) (Pull c.args.w c.args.t)).text (sym is ∙ c.apply_pull.ensures.text))

use Rattle.std.proofs.Common.{sym, ap, subst, ◌∙◌}
use Rattle.std.specs.Option.{option_copied}
use Rattle.house_world.specs.Wholes.{HasSpare}
use Rattle.house_world.proofs.DidLemmas.{stays_beside}
use Rattle.house_world.proofs.PartLemmas.{end_away_did}
use Rattle.session_table.specs.Tables.{TableRecord}
use Rattle.house_world.proofs.ReadyLemmas.{spare_ended}
use Rattle.house_world.proofs.StayLemmas.{stays_ended}
use Rattle.house_world.proofs.world.World.end.Goals as goal

pub returns-in-None-clause-did : goal.returns-in-None-clause-did
returns-in-None-clause-did c =
    let x = c.in-Some.session.now in
    let there = sym c.session.ensures.session ∙ ap option_copied c.in-Some.is in
    end_away_did c.args.self.now c.args.s x c.requires.tied there c.mark_over.new.self c.args.cause
    (sym c.state.ensures ∙ c.in-Live.is) (sym c.holder.ensures ∙ c.in-None.is) c.mark_over.ensures

pub returns-in-None-clause-queues : goal.returns-in-None-clause-queues
returns-in-None-clause-queues c = λ n r has.
    let there = sym c.session.ensures.session ∙ ap option_copied c.in-Some.is in
    subst (HasSpare n r) (sym c.mark_over.ensures)
    (spare_ended c.args.s n r c.args.cause c.args.self.now.table c.in-Some.session.now there has)

pub returns-in-None-clause-stays : goal.returns-in-None-clause-stays
returns-in-None-clause-stays c =
    let x = c.in-Some.session.now in
    let there = sym c.session.ensures.session ∙ ap option_copied c.in-Some.is in
    stays_ended c.args.self.now (record c.args.self.now { table = c.mark_over.new.self }) c.args.s x c.args.cause c.requires.tied there
    (end_away_did c.args.self.now c.args.s x c.requires.tied there c.mark_over.new.self c.args.cause
    (sym c.state.ensures ∙ c.in-Live.is) (sym c.holder.ensures ∙ c.in-None.is) c.mark_over.ensures)
    (ap (λ (t : TableRecord). t.spare) c.mark_over.ensures)

pub returns-in-Some-holder-clause-stays : goal.returns-in-Some-holder-clause-stays
returns-in-Some-holder-clause-stays c =
    let there = sym c.session.ensures.session ∙ ap option_copied c.in-Some.is in
    stays_beside c.args.self.now c.end_held.new.self c.note.new.self
    (stays_ended c.args.self.now c.end_held.new.self c.args.s c.in-Some.session.now c.args.cause c.requires.tied there
    c.end_held.ensures.did c.end_held.ensures.room)

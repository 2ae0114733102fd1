use Rattle.std.proofs.Common.{sym, ap, subst, ◌∙◌}
use Rattle.session_table.specs.Sessions.{ended}
use Rattle.session_table.specs.Tables.{changed, line_ended, holds}
use Rattle.session_table.proofs.ListLemmas.{rises_changed}
use Rattle.house_world.specs.Wholes.{HasSpare, IsFreeLine}
use Rattle.house_world.proofs.EndLemmas.{end_did, end_free}
use Rattle.house_world.proofs.LeavingLemmas.{free_holds}
use Rattle.house_world.proofs.ReadyLemmas.{spare_closed}
use Rattle.house_world.proofs.world.World.end_held.Goals as goal

pub line_over-requires-clause-free : goal.line_over-requires-clause-free
line_over-requires-clause-free c =
    let t = c.args.self.now.table in
    let w = c.args.w in
    let s = c.args.s in
    let free = end_free c.args.self.now w s c.args.cause c.requires.tied c.requires.line c.requires.answered c.requires.held in
    ap (holds w) c.mark_over.ensures
    ∙ free_holds w (changed s (ended c.args.cause) t) (rises_changed s 0 t.made (ended c.args.cause) t.sessions c.session.ensures.rises) free

pub returns-clause-did : goal.returns-clause-did
returns-clause-did c =
    end_did c.args.self.now c.args.w c.args.s c.args.cause c.requires.tied c.requires.line c.requires.answered c.requires.held
    c.line_over.new.self c.clear.new.self (c.line_over.ensures ∙ ap (line_ended c.args.w c.args.cause) c.mark_over.ensures) c.clear.ensures

pub returns-clause-free : goal.returns-clause-free
returns-clause-free c =
    subst (IsFreeLine c.args.w) (sym (c.line_over.ensures ∙ ap (line_ended c.args.w c.args.cause) c.mark_over.ensures))
    (end_free c.args.self.now c.args.w c.args.s c.args.cause c.requires.tied c.requires.line c.requires.answered c.requires.held)

pub returns-clause-queues : goal.returns-clause-queues
returns-clause-queues c = λ n r has.
    subst (HasSpare n r) (sym (c.line_over.ensures ∙ ap (line_ended c.args.w c.args.cause) c.mark_over.ensures))
    (spare_closed c.args.w c.args.s n r c.args.cause c.args.self.now.table c.requires.held has)

use Rattle.std.proofs.Common.{ap, ◌∙◌}
use Rattle.session_table.specs.Tables.{changed, holds}
use Rattle.session_table.proofs.ListLemmas.{rises_changed}
use Rattle.house_world.specs.Worlds.{released}
use Rattle.house_world.proofs.EndLemmas.{close_did, leave_free}
use Rattle.house_world.proofs.LeavingLemmas.{free_holds}
use Rattle.house_world.proofs.world.World.close_bound.Goals as goal

pub line_over-requires-clause-free : goal.line_over-requires-clause-free
line_over-requires-clause-free c =
    let t = c.args.self.now.table in
    let w = c.args.w in
    let s = c.args.s in
    let m = c.args.moment in
    ap (holds w) c.release.ensures.table
    ∙ free_holds w (changed s (released m) t) (rises_changed s 0 t.made (released m) t.sessions c.session.ensures.rises)
    (leave_free c.args.self.now w s m c.requires.tied c.requires.line c.requires.answered c.requires.held)

pub returns : goal.returns
returns c =
    close_did c.args.self.now c.args.w c.args.s c.args.moment c.requires.tied c.requires.line c.requires.answered c.requires.held
    c.line_over.new.self c.release.new.self.table c.clear.new.self c.args.cause c.release.ensures.table c.line_over.ensures c.clear.ensures c.release.new.self
    c.release.ensures.answers c.release.ensures.book c.release.ensures.rooms c.release.ensures.archives

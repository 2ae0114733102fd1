use Rattle.std.proofs.Common.{◌≡◌, ap, arith}
use Rattle.session_table.specs.Tables.{TableRecord}
use Rattle.house_world.proofs.EndLemmas.{open_did}
use Rattle.house_world.proofs.world.World.open_bound.Goals as goal

pub returns-clause-did : goal.returns-clause-did
returns-clause-did c =
    let t = c.args.self.now.table in
    let few = c.requires.few.opened in
    let same : c.release.new.self.table.opened ≡ t.opened = ap (λ (x : TableRecord). x.opened) c.release.ensures.table in
    let number = c.open_conn.ensures.number in
    open_did c.args.self.now c.args.w c.args.s c.args.moment c.requires.tied c.requires.line c.requires.answered c.requires.held
    c.open_conn.new.self c.release.new.self.table c.open_conn.result c.clear.new.self c.release.ensures.table c.open_conn.ensures.table
    (omega (arith, few, same, number))
    c.clear.ensures c.release.new.self c.release.ensures.answers c.release.ensures.book c.release.ensures.rooms c.release.ensures.archives

use Rattle.std.proofs.Common.{◌≡◌, sym, ap, subst, ◌∙◌, true, false}
use Rattle.session_table.specs.declared.line.Line.TheVariants.{Logged}
use Rattle.session_table.specs.Tables.{conn_of, line_of, is_fresh}
use Rattle.house_world.specs.Wholes.{IsTied}
use Rattle.house_world.proofs.TiedLemmas.{tied_line, line_free}
use Rattle.house_world.proofs.world.World.log.Goals as goal

pub returns-clause-tied : goal.returns-clause-tied
returns-clause-tied c =
    let t = c.args.self.now.table in
    let w = c.args.w in
    let free = line_free w t c.requires.tied (λ d s is. (
    let z : false ≡ true = ap is_fresh (sym is) ∙ c.requires.fresh in
    cc)) in
    subst IsTied (sym c.login.ensures)
    (tied_line w (Logged (conn_of (line_of w t)) c.args.user) t c.requires.tied c.requires.line free (λ d s is. (cc)))

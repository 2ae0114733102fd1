use Rattle.std.proofs.Common.{◌≡◌, true, ◌∙◌}
use Rattle.session_table.specs.Sessions.{is_due}
use Rattle.session_table.specs.Tables.{session_of}
use Rattle.house_core.proofs.PullLemmas.{found_there, has_due, has_no_due}
use Rattle.house_core.proofs.pulling.has_due.Goals as goal

pub returns-in-Some : goal.returns-in-Some
returns-in-Some c = λ k world now.
    let s = c.in-Some.s in
    let t = c.args.world.now.table in
    c.is_some.ensures
    ∙ (found_there (λ x. is_due c.args.moment x ≡ true) c.session.result (session_of s t) c.session.ensures.session c.in-Some.ensures.first.found
    ∙ has_due k c.args.world.now c.args.moment s world now c.session.ensures.rises c.in-Some.ensures.number)

pub returns-in-None : goal.returns-in-None
returns-in-None c = λ k world now. has_no_due k c.args.world.now c.args.moment world now c.in-None.ensures.first

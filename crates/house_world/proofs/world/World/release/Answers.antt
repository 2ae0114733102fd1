use Rattle.std.proofs.Common.{is_some, sym, ap, ◌∙◌}
use Rattle.std.specs.Option.{option_copied}
use Rattle.session_table.specs.Sessions.{SessionRecord}
use Rattle.house_world.proofs.EndLemmas.{released_some, released_none}
use Rattle.house_world.proofs.world.World.release.Goals as goal

pub returns-then-is_some-clause-table : goal.returns-then-is_some-clause-table
returns-then-is_some-clause-table c =
    let x = c.in-Some.session.now in
    let there = sym c.session.ensures.session ∙ ap option_copied c.in-Some.is in
    c.detach.ensures ∙ released_some c.args.s c.args.moment c.args.self.now.table x c.session.ensures.rises there
    (ap (λ (y : SessionRecord). is_some y.resume_id) (sym c.session-2.view_is)
    ∙ (ap (λ (z : _). is_some z.own.resume_id) (sym c.session-inside.view_is) ∙ (sym c.is_some.ensures ∙ c.if-is_some.true)))

pub returns-else-is_some-clause-table : goal.returns-else-is_some-clause-table
returns-else-is_some-clause-table c =
    let x = c.in-Some.session.now in
    let there = sym c.session.ensures.session ∙ ap option_copied c.in-Some.is in
    c.mark_over.ensures ∙ released_none c.args.s c.args.moment c.args.self.now.table x c.session.ensures.rises there
    (ap (λ (y : SessionRecord). is_some y.resume_id) (sym c.session-2.view_is)
    ∙ (ap (λ (z : _). is_some z.own.resume_id) (sym c.session-inside.view_is) ∙ (sym c.is_some.ensures ∙ c.if-is_some.false)))

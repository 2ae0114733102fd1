use Rattle.std.proofs.Common.{◌≤◌, ◌-◌, sym, ap, subst, ◌∙◌}
use Rattle.std.specs.Option.{option_copied}
use Rattle.session_table.specs.Sessions.{SessionRecord}
use Rattle.house_core.proofs.AnswerLemmas.{counted_fits}
use Rattle.house_core.proofs.counting.tell.Goals as goal

pub inward-h-requires : goal.inward-h-requires
inward-h-requires c =
    subst (λ (x : SessionRecord). x.base_in ≤ x.acted) (sym c.session-2.view_is)
    (c.requires.tied.each c.args.s c.in-Some.session.now (sym c.session.ensures.session ∙ ap option_copied c.in-Some.is)).base_in

pub say-requires-clause-short : goal.say-requires-clause-short
say-requires-clause-short c =
    counted_fits c.inward-h.result (c.session-2.inside.own.acted - c.session-2.inside.own.base_in) c.inward-h.ensures

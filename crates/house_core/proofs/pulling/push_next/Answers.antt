use Rattle.std.proofs.Common.{sym, ap, ◌∙◌}
use Rattle.std.specs.Option.{option_copied}
use Rattle.house_core.proofs.pulling.push_next.Goals as goal

pub push_unsent-requires-clause-short : goal.push_unsent-requires-clause-short
push_unsent-requires-clause-short c =
    (c.requires.tied.each c.args.s c.in-Some.session.now (sym c.session.ensures.session ∙ ap option_copied c.in-Some.is)).short

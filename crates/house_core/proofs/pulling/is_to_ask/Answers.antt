use Rattle.std.proofs.Common.{sym, ap, ◌∙◌}
use Rattle.std.specs.Option.{option_copied}
use Rattle.house_core.proofs.pulling.is_to_ask.Goals as goal

pub is_unasked-requires-clause-given : goal.is_unasked-requires-clause-given
is_unasked-requires-clause-given c =
    (c.requires.tied.each c.args.s c.in-Some.session.now (sym c.session.ensures.session ∙ ap option_copied c.in-Some.is)).given

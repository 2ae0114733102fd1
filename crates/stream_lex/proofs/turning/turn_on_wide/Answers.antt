use Rattle.std.proofs.Common.{◌∙◌, sym}
use Rattle.stream_lex.proofs.Classing.{class-scalar}
use Rattle.stream_lex.proofs.turning.turn_on_wide.Goals as goal

pub char_of-requires : goal.char_of-requires
char_of-requires c = class-scalar c.allowed_of-allowed.result c.in-Whole.number (sym c.may_come-in-Whole.ensures ∙ c.if-may_come-2.true)

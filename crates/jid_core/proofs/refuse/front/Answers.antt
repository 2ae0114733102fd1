use Rattle.std.proofs.Common.{sym, ◌∙◌}
use Rattle.std.proofs.lemmas.Str.{utf8_valid_len-IsUtf8}
use Rattle.jid_core.proofs.FitLemmas.{whole-front}
use Rattle.jid_core.proofs.refuse.front.Goals as goal

pub returns-in-Ok : goal.returns-in-Ok
returns-in-Ok c = c.in-Ok.ensures.cases.0 ∙ sym (whole-front c.args.bytes.now (utf8_valid_len-IsUtf8 c.args.bytes.now c.in-Ok.ensures.cases.1))

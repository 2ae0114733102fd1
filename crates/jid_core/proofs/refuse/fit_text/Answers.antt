use Rattle.std.proofs.Common.{sym, ap, ◌∙◌, chars}
use Rattle.jid_core.specs.Preparation.{is_refused, fit_len}
use Rattle.jid_core.proofs.FitLemmas.{front-is_all}
use Rattle.jid_core.proofs.refuse.fit_text.Goals as goal

pub returns-then-len-bytes-clause-text : goal.returns-then-len-bytes-clause-text
returns-then-len-bytes-clause-text c =
    c.front-text.ensures
    ∙ front-is_all c.args.which c.args.bytes.now
    (ap (λ text. fit_len (is_refused c.args.which) (chars text)) (sym c.front-text.ensures) ∙ sym c.fit_len-len.ensures ∙ c.if-len-bytes.true)

use Rattle.std.proofs.Common.{◌∙◌}
use Rattle.conn_serve.proofs.Attending.{visited, within_more}
use Rattle.conn_serve.proofs.worker.attend.Goals as goal

pub returns-in-Link-clause-attended : goal.returns-in-Link-clause-attended
returns-in-Link-clause-attended g c =
    visited _ c.serve.result _ _ _ _ _ _ _ _ _ _ _ _ _ _ _ _ _ _ _ _ _ _ c.in-Link.ensures.unmarked c.serve.ensures.went c.in-Link.ensures.tapes
    c.done.ensures.tapes c.in-Link.ensures.comes.1 c.done.ensures.links c.serve.ensures.mark c.serve.ensures.cause

pub returns-in-Link-clause-within : goal.returns-in-Link-clause-within
returns-in-Link-clause-within g c = λ w. within_more _ _ _ _ (c.done.ensures.quota ∙ c.in-Link.ensures.quota) (c.done.ensures.links
    ∙ c.in-Link.ensures.comes.1) c.in-Link.ensures.comes.0

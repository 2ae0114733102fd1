use Rattle.conn_flow.proofs.Reasoning.{ready_anywhere, reasoned}
use Rattle.conn_flow.proofs.flow.Flow.next.Goals as goal

pub invariant_of-self : goal.invariant_of-self
invariant_of-self c = (
  ready_anywhere _ _ c.in-Ok.ensures.ready,
  c.in-Ok.ensures.loaded,
  (reasoned _ _ _ _ _ c.self.view_is c.self.invariant.0 c.self.invariant.1 c.self.invariant.2 c.in-Ok.ensures.wants).owns,
)

pub returns-in-Ok-clause-awaits : goal.returns-in-Ok-clause-awaits
returns-in-Ok-clause-awaits c = (reasoned _ _ _ _ _ c.self.view_is c.self.invariant.0 c.self.invariant.1 c.self.invariant.2 c.in-Ok.ensures.wants).awaits

pub returns-in-Ok-clause-rests : goal.returns-in-Ok-clause-rests
returns-in-Ok-clause-rests c = (reasoned _ _ _ _ _ c.self.view_is c.self.invariant.0 c.self.invariant.1 c.self.invariant.2 c.in-Ok.ensures.wants).rests

pub returns-in-Ok-clause-dice : goal.returns-in-Ok-clause-dice
returns-in-Ok-clause-dice c = (reasoned _ _ _ _ _ c.self.view_is c.self.invariant.0 c.self.invariant.1 c.self.invariant.2 c.in-Ok.ensures.wants).dice

pub returns-in-Ok-clause-finishes : goal.returns-in-Ok-clause-finishes
returns-in-Ok-clause-finishes c = (reasoned _ _ _ _ _ c.self.view_is c.self.invariant.0 c.self.invariant.1 c.self.invariant.2 c.in-Ok.ensures.wants).finishes

pub returns-in-Ok-clause-ends : goal.returns-in-Ok-clause-ends
returns-in-Ok-clause-ends c = (reasoned _ _ _ _ _ c.self.view_is c.self.invariant.0 c.self.invariant.1 c.self.invariant.2 c.in-Ok.ensures.wants).ends

pub returns-in-Ok-clause-own : goal.returns-in-Ok-clause-own
returns-in-Ok-clause-own c = (reasoned _ _ _ _ _ c.self.view_is c.self.invariant.0 c.self.invariant.1 c.self.invariant.2 c.in-Ok.ensures.wants).own

use Rattle.turn_trials.proofs.turns.closed.Goals as goal

pub returns-clause-closes : goal.returns-clause-closes
returns-clause-closes c = record {
  history = c.close.ensures.history;
  lines = c.close.ensures.lines;
  mine = c.close.ensures.mine;
}

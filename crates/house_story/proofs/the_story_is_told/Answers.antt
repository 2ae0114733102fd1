use Rattle.house_story.proofs.Telling as telling
use Rattle.house_story.proofs.the_story_is_told.Goals as goal

pub returns-clause-starts : goal.returns-clause-starts
returns-clause-starts c = telling.starts

pub returns-clause-sent : goal.returns-clause-sent
returns-clause-sent c = telling.sent

pub returns-clause-legal : goal.returns-clause-legal
returns-clause-legal c = telling.legal

pub returns-clause-account : goal.returns-clause-account
returns-clause-account c = telling.account

pub returns-clause-lines : goal.returns-clause-lines
returns-clause-lines c = telling.lines-are

pub returns-clause-before : goal.returns-clause-before
returns-clause-before c = telling.before

pub returns-clause-again : goal.returns-clause-again
returns-clause-again c = telling.again

pub returns-clause-handled : goal.returns-clause-handled
returns-clause-handled c = telling.handled-is

pub returns-clause-counted : goal.returns-clause-counted
returns-clause-counted c = telling.counted-is

pub returns-clause-acted : goal.returns-clause-acted
returns-clause-acted c = telling.acted-is

pub returns-clause-swept : goal.returns-clause-swept
returns-clause-swept c = telling.swept

pub returns-clause-in_turn : goal.returns-clause-in_turn
returns-clause-in_turn c = telling.in-turn

pub returns-clause-can : goal.returns-clause-can
returns-clause-can c = telling.can

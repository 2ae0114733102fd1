use Rattle.house_story.proofs.TalkTelling as telling
use Rattle.house_story.proofs.the_talk_is_told.Goals as goal

pub returns-clause-sent : goal.returns-clause-sent
returns-clause-sent c = telling.sent

pub returns-clause-legal : goal.returns-clause-legal
returns-clause-legal c = telling.legal

pub returns-clause-account : goal.returns-clause-account
returns-clause-account c = telling.account

pub returns-clause-lines : goal.returns-clause-lines
returns-clause-lines c = telling.lines-are

pub returns-clause-before : goal.returns-clause-before
returns-clause-before c = telling.before

pub returns-clause-again : goal.returns-clause-again
returns-clause-again c = telling.again

pub returns-clause-handled : goal.returns-clause-handled
returns-clause-handled c = telling.handled-is

pub returns-clause-counted : goal.returns-clause-counted
returns-clause-counted c = telling.counted-is

pub returns-clause-heard : goal.returns-clause-heard
returns-clause-heard c = telling.heard-is

pub returns-clause-run : goal.returns-clause-run
returns-clause-run c = telling.run-is

pub returns-clause-seats : goal.returns-clause-seats
returns-clause-seats c = telling.seats

use Rattle.sm_account.proofs.NotesResumed.{notes_are_an_account, notes_are_handled, notes_go_again, rooms}
use Rattle.sm_account.proofs.stories.resumes_after_a_drop.Goals as goal

pub returns-clause-account : goal.returns-clause-account
returns-clause-account g at c d early one two three fits =
    notes_are_an_account _ c d early one two three (rooms early one two three fits)

pub returns-clause-sent : goal.returns-clause-sent
returns-clause-sent g at c d early one two three fits =
    notes_go_again _ c d early one two three (rooms early one two three fits)

pub returns-clause-handled : goal.returns-clause-handled
returns-clause-handled g at c d early one two three fits =
    notes_are_handled _ c d early one two three (rooms early one two three fits)

use Rattle.std.proofs.Common.{sym, ◌∙◌}
use Rattle.conn_flow.specs.declared.want.Want.TheVariants.{Say, Submit, NeedDice, Await, Finish}
use Rattle.conn_serve.specs.declared.turn.Next.TheVariants.{Goes, Over}
use Rattle.conn_serve.proofs.Laws.{fits}
use Rattle.conn_serve.proofs.Growing.{finished_after}
use Rattle.conn_serve.proofs.Turning.{answered, draws_at, handled, over_now, said, says_none, says_then, short_of_memory, waits_at}
use Rattle.conn_serve.proofs.round.answer.Goals as goal

pub submit-requires-clause-line : goal.submit-requires-clause-line
submit-requires-clause-line g c =
    let w = rw c.in-Ok-Submit.field-0-is at c.in-Ok-Submit.ensures.wants in
    let h = handled c.requires.stands.site c.requires.stands.place _ _ _ _ (Submit c.in-Ok-Submit.event) _ c.requires.stands.at
    c.requires.stands.accounts_are w in
    (fits c.requires.stands.site h.to c.in-Ok-Submit.event h.served h.wishes).1 ∙ c.requires.stands.line_is

pub submit-requires-clause-meets : goal.submit-requires-clause-meets
submit-requires-clause-meets g c =
    let w = rw c.in-Ok-Submit.field-0-is at c.in-Ok-Submit.ensures.wants in
    let h = handled c.requires.stands.site c.requires.stands.place _ _ _ _ (Submit c.in-Ok-Submit.event) _ c.requires.stands.at
    c.requires.stands.accounts_are w in
    (fits c.requires.stands.site h.to c.in-Ok-Submit.event h.served h.wishes).0

pub returns-in-Ok-clause-turned : goal.returns-in-Ok-clause-turned
returns-in-Ok-clause-turned g c = λ o p tape moments faults ends line accounts at.
    let w = rw c.in-Ok-Say.field-0-is at c.in-Ok-Say.ensures.wants in
    let h = handled o p _ _ _ _ (Say c.in-Ok-Say.text) _ at accounts w in
    answered o _ _ p _ _ _ _ _ _ _ _ Goes h at.flow_is (says_then o _ p _ _ _ _ _ c.in-Ok-Say.text.items h h.wishes
    (said _ c.in-Ok.ensures c.as_slice.ensures.value))

pub returns-in-Ok-Say-clause-turned : goal.returns-in-Ok-Say-clause-turned
returns-in-Ok-Say-clause-turned g c = λ o p tape moments faults ends line accounts at.
    let w = rw c.in-Ok-Say.field-0-is at c.in-Ok-Say.ensures.wants in
    let h = handled o p _ _ _ _ (Say c.in-Ok-Say.text) _ at accounts w in
    finished_after (h.grew _) (says_none o _ p _ _ _ _ c.in-Ok-Say.text.items _ h h.wishes c.moment.ensures)

pub returns-in-Ok-Submit-clause-turned : goal.returns-in-Ok-Submit-clause-turned
returns-in-Ok-Submit-clause-turned g c = λ o p tape moments faults ends line accounts at.
    let w = rw c.in-Ok-Submit.field-0-is at c.in-Ok-Submit.ensures.wants in
    let h = handled o p _ _ _ _ (Submit c.in-Ok-Submit.event) _ at accounts w in
    answered o _ _ p _ _ _ _ _ _ _ _ c.submit.result h at.flow_is
    (c.submit.ensures.turned o h.to _ tape moments _ faults ends _ h.served h.ahead_is h.owes h.wishes h.now line)

pub returns-in-Ok-NeedDice-clause-turned : goal.returns-in-Ok-NeedDice-clause-turned
returns-in-Ok-NeedDice-clause-turned g c = λ o p tape moments faults ends line accounts at.
    let w = rw c.in-Ok-NeedDice.field-0-is at c.in-Ok-NeedDice.ensures.wants in
    let h = handled o p _ _ _ _ NeedDice _ at accounts w in
    answered o _ _ p _ _ _ _ _ _ _ _ c.draw.result h at.flow_is
    (c.draw.ensures.turned o h.to _ _ tape _ moments faults ends h.served h.ahead_is h.owes h.wishes (draws_at h.to _ h.wishes h.now))

pub returns-in-Ok-Await-clause-turned : goal.returns-in-Ok-Await-clause-turned
returns-in-Ok-Await-clause-turned g c = λ o p tape moments faults ends line accounts at.
    let w = rw c.in-Ok-Await.field-0-is at c.in-Ok-Await.ensures.wants in
    let h = handled o p _ _ _ _ Await _ at accounts w in
    answered o _ _ p _ _ _ _ _ _ _ _ c.hear_on.result h at.flow_is
    (c.hear_on.ensures.turned o h.to _ tape _ moments _ faults ends _
    (record { flow_is = sym (waits_at o h.to _ h.served h.wishes h.now); ahead_is = h.ahead_is; owed_is = h.owes; served = h.served }))

pub returns-in-Ok-Finish-clause-turned : goal.returns-in-Ok-Finish-clause-turned
returns-in-Ok-Finish-clause-turned g c = λ o p tape moments faults ends line accounts at.
    let w = rw c.in-Ok-Finish.field-0-is at c.in-Ok-Finish.ensures.wants in
    let h = handled o p _ _ _ _ (Finish c.in-Ok-Finish.ended) _ at accounts w in
    answered o _ _ p _ _ _ _ _ _ _ _ (Over c.in-Ok-Finish.ended) h at.flow_is (over_now o _ p _ _ _ _ c.in-Ok-Finish.ended h h.wishes)

pub returns-clause-turned : goal.returns-clause-turned
returns-clause-turned g c = λ o p tape moments faults ends line accounts at.
    short_of_memory o _ p _ _ _ _ at c.in-Err.ensures.going c.moment-moment.ensures

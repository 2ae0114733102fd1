use Rattle.std.proofs.Common.{rules, List, ap, sym, ◌∙◌, refl, arith, ◌≡◌, ◌++◌, ◌∷◌, []}
use Rattle.turn_lock.specs.Passes.{number_of, seen}
use Rattle.house_model.specs.Histories.{Turn}
use Rattle.house_core.specs.Houses.{held}
use Rattle.hall.specs.Openings.{opening_from}
use Rattle.hall.specs.Turns.{text_in}
use Rattle.hall.proofs.StoryLaws.{turns-known, same-opening, stands-on, stands-at, legal-known, legal-at}
use Rattle.hall.proofs.TurnLaws.{took}
use Rattle.hall.proofs.hall.Hall.turn.Goals as goal
use Rattle.std.specs.Prelude.{length}

pub make_noted-answer-requires-clause-turns : goal.make_noted-answer-requires-clause-turns
make_noted-answer-requires-clause-turns g c =
    let recorded = c.in_ok-value.field-0.value in
    let lent = stands-at _ _ _ _ _ _ refl refl (ap held (sym c.deref_mut-lent.ensures.value)) recorded.stands in
    let turns = turns-known _ _ _ lent in
    let counted = ap (λ (h : List Turn). length h) c.in_ok-value.ensures.story in
    omega (arith, turns, counted, c.in_ok-value.ensures.few)

pub invariant_of-value : goal.invariant_of-value
invariant_of-value g c =
    let recorded = c.in_ok-value.field-0.value in
    let lent = stands-at _ _ _ _ _ _ refl refl (ap held (sym c.deref_mut-lent.ensures.value)) recorded.stands in
    let stands = stands-on _ _ _ _ _ lent c.make_noted-answer.ensures.history in
    let turn = g.C.Call.turn c.args.call.now c.number-line.result c.deref_mut-lent.result.now c.make_noted-answer.result in
    let shown : c.with-log.result.entries ≡ recorded.log.entries ++ turn ∷ [] = c.with-log.ensures
    ∙ (λ i. recorded.log.entries ++ g.C.Call.turn (c.of.ensures i) c.number-line.result (c.of-before.ensures i) (c.of-2.ensures i) ∷ []) in
    let same = same-opening _ _ _ _ _ recorded.stands stands in
    record { stands = stands-at _ _ _ _ _ _ (ap opening_from same) (sym shown) refl stands }

pub leave-requires-clause-root : goal.leave-requires-clause-root
leave-requires-clause-root g c =
    let recorded = c.in_ok-value.field-0.value in
    let lent = stands-at _ _ _ _ _ _ refl refl (ap held (sym c.deref_mut-lent.ensures.value)) recorded.stands in
    let stands = stands-on _ _ _ _ _ lent c.make_noted-answer.ensures.history in
    sym (same-opening _ _ _ _ _ recorded.stands stands) ∙ c.in_ok-value.ensures.root

pub returns-clause-pass : goal.returns-clause-pass
returns-clause-pass g c =
    let recorded = c.in_ok-value.field-0.value in
    let lent = stands-at _ _ _ _ _ _ refl refl (ap held (sym c.deref_mut-lent.ensures.value)) recorded.stands in
    let stands = stands-on _ _ _ _ _ lent c.make_noted-answer.ensures.history in
    let turn = g.C.Call.turn c.args.call.now c.number-line.result c.deref_mut-lent.result.now c.make_noted-answer.result in
    let shown : c.with-log.result.entries ≡ recorded.log.entries ++ turn ∷ [] = c.with-log.ensures
    ∙ (λ i. recorded.log.entries ++ g.C.Call.turn (c.of.ensures i) c.number-line.result (c.of-before.ensures i) (c.of-2.ensures i) ∷ []) in
    let seen' : seen c.leave.new.pass ≡ recorded.log.entries ++ turn ∷ [] = c.leave.ensures.history ∙ shown in (
      c.leave.ensures.idle,
      search rules,
      legal-at _ _ _ _ (ap opening_from c.in_ok-value.ensures.root) (sym seen') (legal-known _ _ _ stands),
    )

pub returns-clause-took : goal.returns-clause-took
returns-clause-took g c =
    let recorded = c.in_ok-value.field-0.value in
    let number : c.number-line.result ≡ number_of c.args.pass.now = c.number-line.ensures ∙ c.in_ok-value.ensures.number in
    let turn = g.C.Call.turn c.args.call.now (number_of c.args.pass.now) c.deref_mut-lent.result.now c.make_noted-answer.result in
    let shown : c.with-log.result.entries ≡ seen c.enter.new.pass ++ turn ∷ [] = c.with-log.ensures ∙ (λ i. c.in_ok-value.ensures.story i
    ++ g.C.Call.turn (c.of.ensures i) (number i) (c.of-before.ensures i) (c.of-2.ensures i) ∷ []) in
    let seen' : seen c.leave.new.pass ≡ seen c.enter.new.pass ++ turn ∷ [] = c.leave.ensures.history ∙ shown in
    let entered = c.in_ok-value.ensures in (
      c.deref_mut-lent.result.now,
      c.make_noted-answer.ensures.text
          ∙ (λ i. c.args.out.now.items ++ text_in (g.C.Call.turn c.args.call.now (number i) c.deref_mut-lent.result.now c.make_noted-answer.result).outcome),
      took turn c.args.pass.now c.enter.new.pass c.leave.new.pass entered.number entered.history entered.mine entered.unmarked
          entered.known entered.given c.leave.ensures.number seen' c.leave.ensures.mine c.leave.ensures.refused
          c.leave.ensures.drawn (search rules),
    )

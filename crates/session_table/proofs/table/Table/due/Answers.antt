use Rattle.std.proofs.Common.{◌≡◌, ℕ, Option, true, sym, subst, ap, ◌∙◌}
use Rattle.session_table.specs.Sessions.{is_due}
use Rattle.session_table.specs.Tables.{IsFirst, TableRecord, first_due}
use Rattle.session_table.proofs.FirstLemmas.{first_that_is_due}
use Rattle.session_table.proofs.MomentLemmas.{due_found, due_nowhere}
use Rattle.session_table.proofs.PresentLemmas.{rises_present}
use Rattle.session_table.specs.contracts.table.Table.{the_view}
use Rattle.session_table.proofs.table.Table.due.Goals as goal

pub returns-in-Some-clause-number : goal.returns-in-Some-clause-number
returns-in-Some-clause-number c =
    let inside = c.self.inside in
    let now = c.args.now in
    let found = due_found now c.in-Some.place inside.slots.entries inside.wakes c.self.invariant.moments c.in-Some.ensures in
    c.number_at.ensures found.0 found.1 found.2
    ∙ (sym found.3 ∙ ap (λ (t : TableRecord). first_due now t.sessions) c.self.view_is)

pub returns-in-Some-clause-first : goal.returns-in-Some-clause-first
returns-in-Some-clause-first c =
    let inside = c.self.inside in
    let now = c.args.now in
    let found = due_found now c.in-Some.place inside.slots.entries inside.wakes c.self.invariant.moments c.in-Some.ensures in
    let is = c.number_at.ensures found.0 found.1 found.2
    ∙ (sym found.3 ∙ ap (λ (t : TableRecord). first_due now t.sessions) c.self.view_is) in
    let P : Option ℕ → Type 0 = λ answer. IsFirst (λ x. is_due now x ≡ true) c.args.self.now answer in
    let Q : TableRecord → Type 0 = λ t. IsFirst (λ x. is_due now x ≡ true) t (first_due now t.sessions) in
    let first = subst Q c.self.view_is
    (first_that_is_due now (the_view inside) (rises_present 0 inside.made inside.slots.entries c.self.invariant.chained.climbs)) in
    subst P (sym is) first

pub returns-in-None-clause-number : goal.returns-in-None-clause-number
returns-in-None-clause-number c =
    let inside = c.self.inside in
    let now = c.args.now in
    sym (due_nowhere now inside.slots.entries inside.wakes c.self.invariant.moments c.in-None.ensures)
    ∙ ap (λ (t : TableRecord). first_due now t.sessions) c.self.view_is

pub returns-in-None-clause-first : goal.returns-in-None-clause-first
returns-in-None-clause-first c =
    let inside = c.self.inside in
    let now = c.args.now in
    let is = sym (due_nowhere now inside.slots.entries inside.wakes c.self.invariant.moments c.in-None.ensures)
    ∙ ap (λ (t : TableRecord). first_due now t.sessions) c.self.view_is in
    let P : Option ℕ → Type 0 = λ answer. IsFirst (λ x. is_due now x ≡ true) c.args.self.now answer in
    let Q : TableRecord → Type 0 = λ t. IsFirst (λ x. is_due now x ≡ true) t (first_due now t.sessions) in
    let first = subst Q c.self.view_is
    (first_that_is_due now (the_view inside) (rises_present 0 inside.made inside.slots.entries c.self.invariant.chained.climbs)) in
    subst P (sym is) first

use Rattle.std.proofs.Common.{rules, [], sym, subst}
use Rattle.house_model.specs.Histories.{StandsFor}
use Rattle.house_model.specs.States.{Kept, opening_with}
use Rattle.house_model.proofs.TurnLaws.{starts}
use Rattle.house_core.proofs.OpenLemmas.{held_new, new_whole}
use Rattle.house_core.proofs.house.House.with_limits.Goals as goal

pub returns-clause-held : goal.returns-clause-held
returns-clause-held c =
    held_new c.args.domain.now c.in_ok-copy-2.field-0 c.args.users.now c.in_ok-of.field-0 c.args.limits c.args.workers c.in_ok-new.field-0
    c.in_ok-no_answers.field-0.items c.new-book.result c.new-rooms.result c.new-archives.result
    c.in_ok-copy-2.ensures c.in_ok-of.ensures c.in_ok-new.ensures c.in_ok-no_answers.ensures c.new-book.ensures.book
    c.new-rooms.ensures c.new-archives.ensures

pub returns-clause-history : goal.returns-clause-history
returns-clause-history c =
    subst (λ (k : Kept). StandsFor (opening_with c.args.limits c.args.domain.now c.args.users.now c.args.workers) [] k)
    (sym (held_new c.args.domain.now c.in_ok-copy-2.field-0 c.args.users.now c.in_ok-of.field-0 c.args.limits c.args.workers c.in_ok-new.field-0
    c.in_ok-no_answers.field-0.items c.new-book.result c.new-rooms.result c.new-archives.result
    c.in_ok-copy-2.ensures c.in_ok-of.ensures c.in_ok-new.ensures c.in_ok-no_answers.ensures c.new-book.ensures.book
    c.new-rooms.ensures c.new-archives.ensures))
    (starts c.args.limits c.args.domain.now c.args.users.now c.args.workers)

pub invariant_of-result : goal.invariant_of-result
invariant_of-result c =
    new_whole c.in_ok-copy-2.field-0.domain c.in_ok-of.field-0 c.args.workers c.in_ok-new.field-0 c.in_ok-no_answers.field-0.items
    c.new-book.result c.new-rooms.result c.new-archives.result
    (search rules) (search rules) (search rules) c.in_ok-new.ensures c.in_ok-no_answers.ensures (search rules) c.new-book.ensures.book
    c.new-rooms.ensures c.new-archives.ensures

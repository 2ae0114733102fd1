use Rattle.std.proofs.Common.{ℕ, [], get_or, Option, Some, sym, subst, ◌∙◌}
use Rattle.house_model.specs.Steps.{pulls}
use Rattle.house_core.specs.Pulls.{Gives, pass_of}
use Rattle.house_core.proofs.PullLemmas.{answer_gives, give_on, none_gave}
use Rattle.house_core.proofs.pulling.give.Goals as goal

pub returns-then-give_answer-clause-gives : goal.returns-then-give_answer-clause-gives
returns-then-give_answer-clause-gives c = λ k world now.
    let a = c.args.world.now in
    answer_gives c.args.w (get_or a.answers.items c.args.w []) c.args.session k a c.give_answer.new.world c.args.out.now.items c.give_answer.new.out.items
    c.if-give_answer.ensures.given

pub returns-in-Some-clause-gives : goal.returns-in-Some-clause-gives
returns-in-Some-clause-gives c = λ k world now.
    let a = c.args.world.now in
    let b = c.give_answer.new.world in
    let d = c.give_next.new.world in
    let xs = get_or a.answers.items c.args.w [] in
    let before = c.args.out.now.items in
    let mid = c.give_answer.new.out.items in
    let none = none_gave c.args.w xs a b before mid c.if-give_answer.ensures.given in
    subst (λ (o : Option ℕ). Gives (pulls k c.args.w xs (pass_of o)) c.give_next.result a d before c.give_next.new.out.items) (sym c.in-Some.is)
    (give_on (Some c.in-Some.s) k c.args.w xs c.give_next.result a b d before mid c.give_next.new.out.items c.if-give_answer.ensures.given
    (c.give_next.ensures.gives k (world ∙ sym none.2.world) now))

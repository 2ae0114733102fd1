use Rattle.std.proofs.Common.{refl, sym, arith}
use Rattle.house_model.specs.declared.event.Event.TheVariants.{Pull}
use Rattle.house_model.specs.Steps.{turn}
use Rattle.house_core.specs.Houses.{held}
use Rattle.house_core.proofs.CallLemmas.{house, later_passed, whole_calm}
use Rattle.house_core.proofs.house.House.apply_pull.Goals as goal

pub invariant_of-self-2 : goal.invariant_of-self-2
invariant_of-self-2 c =
    let h = c.self.inside in
    let e = Pull c.args.w c.args.t in
    let now = c.later-self-inside.result in
    let k = turn e (held (house h.domain h.users h.limits h.turns h.moment h.world)) in
    whole_calm h.domain h.users h.limits h.turns h.moment now 1 h.world c.pull.new.world e c.pull.result c.self.invariant
    (later_passed h.moment c.args.t now c.self.invariant.passed c.later-self-inside.ensures) (omega arith)
    (c.pull.ensures.gives k c.args.t refl (sym c.later-self-inside.ensures)).ends tt

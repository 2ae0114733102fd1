use Rattle.std.proofs.Common.{◌≡◌, ◌+◌, [], refl, sym, ap, subst, arith}
use Rattle.house_model.specs.declared.event.Event.TheVariants.{Sweep}
use Rattle.house_model.specs.Histories.{kept_step, passed}
use Rattle.house_model.specs.Steps.{turn}
use Rattle.house_core.specs.Houses.{HouseRecord, held}
use Rattle.house_world.proofs.CastLemmas.{hosted_later}
use Rattle.house_core.proofs.BoundLemmas.{on_err, passed_is}
use Rattle.house_core.proofs.CallLemmas.{house, later_passed, state_ends, whole_ends, whole_is}
use Rattle.house_core.proofs.house.House.apply_sweep.Goals as goal

pub sweep-requires-clause-hosted : goal.sweep-requires-clause-hosted
sweep-requires-clause-hosted c =
    let h = c.self.inside in
    let turns : h.turns ≡ c.args.self.now.turns = ap (λ (x : HouseRecord). x.turns) c.self.view_is in
    hosted_later h.turns 13835058055282163712 h.world.rooms (omega (arith, turns, c.requires.turns)) c.self.invariant.hosted

pub invariant_of-self-in_err-reply : goal.invariant_of-self-in_err-reply
invariant_of-self-in_err-reply c =
    let h = c.self.inside in
    whole_is h.users h.turns h.moment h.moment h.world c.sweep.new.world [] 0 c.self.invariant c.self.invariant.passed (omega arith)
    (λ world. (refl, refl, refl))
    c.in_err-reply.ensures.refused

pub returns-in_err-reply-clause-refused : goal.returns-in_err-reply-clause-refused
returns-in_err-reply-clause-refused c =
    let h = c.self.inside in
    on_err c.from_residual.result
    (subst (λ (x : HouseRecord). held (house h.domain h.users h.limits (h.turns + 1) h.moment c.sweep.new.world) ≡ passed (held x)) c.self.view_is
    (passed_is h.domain h.users h.limits h.turns h.moment h.world c.sweep.new.world c.in_err-reply.ensures.refused))

pub invariant_of-self-2 : goal.invariant_of-self-2
invariant_of-self-2 c =
    let h = c.self.inside in
    let e = Sweep c.args._w c.args.t in
    let now = c.later-moment.result in
    let k = turn e (held (house h.domain h.users h.limits h.turns h.moment h.world)) in
    whole_ends h.domain h.users h.limits h.turns h.moment now 0 h.world c.sweep.new.world e c.in_ok-reply.reply
    c.self.invariant (later_passed h.moment c.args.t now c.self.invariant.passed c.later-moment.ensures) (omega arith)
    (c.in_ok-reply.ensures.done k c.args._w c.args.t refl (sym c.later-moment.ensures)) c.in_ok-reply.ensures.hosts
    c.in_ok-reply.ensures.archives

pub returns-clause-state : goal.returns-clause-state
returns-clause-state c =
    let h = c.self.inside in
    let e = Sweep c.args._w c.args.t in
    let now = c.later-moment.result in
    let k = turn e (held (house h.domain h.users h.limits h.turns h.moment h.world)) in
    subst (λ (x : HouseRecord). held (house h.domain h.users h.limits (h.turns + 1) now c.sweep.new.world) ≡ (kept_step (held x) e).state) c.self.view_is
    (state_ends h.domain h.users h.limits h.turns h.moment now 0 h.world c.sweep.new.world e c.in_ok-reply.reply c.later-moment.ensures
    (c.in_ok-reply.ensures.done k c.args._w c.args.t refl (sym c.later-moment.ensures)))

pub returns-clause-reply : goal.returns-clause-reply
returns-clause-reply c =
    let h = c.self.inside in
    let e = Sweep c.args._w c.args.t in
    let k = turn e (held (house h.domain h.users h.limits h.turns h.moment h.world)) in
    subst (λ (x : HouseRecord). c.in_ok-reply.reply ≡ (kept_step (held x) e).reply) c.self.view_is
    (c.in_ok-reply.ensures.done k c.args._w c.args.t refl (sym c.later-moment.ensures)).answer

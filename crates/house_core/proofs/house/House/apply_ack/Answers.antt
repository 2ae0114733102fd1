use Rattle.std.proofs.Common.{◌≡◌, ◌+◌, refl, subst, arith}
use Rattle.house_model.specs.declared.event.Event.TheVariants.{Ack}
use Rattle.house_model.specs.Histories.{kept_step}
use Rattle.house_model.specs.Steps.{turn}
use Rattle.house_core.specs.Houses.{HouseRecord, held}
use Rattle.house_core.proofs.CallLemmas.{house, state_ends, whole_calm}
use Rattle.house_core.proofs.house.House.apply_ack.Goals as goal

pub invariant_of-self : goal.invariant_of-self
invariant_of-self c =
    let h = c.self.inside in
    let k = turn (Ack c.args.w c.args.h) (held (house h.domain h.users h.limits h.turns h.moment h.world)) in
    whole_calm h.domain h.users h.limits h.turns h.moment h.moment 0 h.world c.acknowledge.new.world (Ack c.args.w c.args.h) c.acknowledge.result
    c.self.invariant (c.self.invariant.passed) (omega arith) (c.acknowledge.ensures k refl refl) tt

pub returns-clause-state : goal.returns-clause-state
returns-clause-state c =
    let h = c.self.inside in
    let k = turn (Ack c.args.w c.args.h) (held (house h.domain h.users h.limits h.turns h.moment h.world)) in
    subst (λ (x : HouseRecord). held (house h.domain h.users h.limits (h.turns + 1) h.moment c.acknowledge.new.world)
    ≡ (kept_step (held x) (Ack c.args.w c.args.h)).state) c.self.view_is
    (state_ends h.domain h.users h.limits h.turns h.moment h.moment 0 h.world c.acknowledge.new.world (Ack c.args.w c.args.h) c.acknowledge.result refl
    (c.acknowledge.ensures k refl refl))

pub returns-clause-reply : goal.returns-clause-reply
returns-clause-reply c =
    let h = c.self.inside in
    let k = turn (Ack c.args.w c.args.h) (held (house h.domain h.users h.limits h.turns h.moment h.world)) in
    subst (λ (x : HouseRecord). c.acknowledge.result ≡ (kept_step (held x) (Ack c.args.w c.args.h)).reply) c.self.view_is
    (c.acknowledge.ensures k refl refl).answer

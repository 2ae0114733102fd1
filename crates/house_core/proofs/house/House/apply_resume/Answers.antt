use Rattle.std.proofs.Common.{◌≡◌, ◌+◌, refl, sym, subst, arith}
use Rattle.std.specs.Option.{option_copied}
use Rattle.house_model.specs.declared.event.Event.TheVariants.{Resume}
use Rattle.house_model.specs.Histories.{kept_step}
use Rattle.house_model.specs.Steps.{turn}
use Rattle.house_core.specs.Houses.{HouseRecord, held}
use Rattle.house_core.proofs.CallLemmas.{house, later_passed, state_ends, whole_calm}
use Rattle.house_core.proofs.house.House.apply_resume.Goals as goal

pub invariant_of-self-2 : goal.invariant_of-self-2
invariant_of-self-2 c =
    let h = c.self.inside in
    let now = c.later-self-inside.result in
    let e = Resume c.args.w (option_copied c.args.id) c.args.h c.args.t in
    let k = turn e (held (house h.domain h.users h.limits h.turns h.moment h.world)) in
    whole_calm h.domain h.users h.limits h.turns h.moment now 0 h.world c.go_on.new.world e c.go_on.result
    c.self.invariant (later_passed h.moment c.args.t now c.self.invariant.passed c.later-self-inside.ensures) (omega arith)
    (c.go_on.ensures k refl (sym c.later-self-inside.ensures) refl refl c.args.t) tt

pub returns-clause-state : goal.returns-clause-state
returns-clause-state c =
    let h = c.self.inside in
    let now = c.later-self-inside.result in
    let e = Resume c.args.w (option_copied c.args.id) c.args.h c.args.t in
    let k = turn e (held (house h.domain h.users h.limits h.turns h.moment h.world)) in
    subst (λ (x : HouseRecord). held (house h.domain h.users h.limits (h.turns + 1) now c.go_on.new.world) ≡ (kept_step (held x) e).state) c.self.view_is
    (state_ends h.domain h.users h.limits h.turns h.moment now 0 h.world c.go_on.new.world e c.go_on.result c.later-self-inside.ensures
    (c.go_on.ensures k refl (sym c.later-self-inside.ensures) refl refl c.args.t))

pub returns-clause-reply : goal.returns-clause-reply
returns-clause-reply c =
    let h = c.self.inside in
    let e = Resume c.args.w (option_copied c.args.id) c.args.h c.args.t in
    let k = turn e (held (house h.domain h.users h.limits h.turns h.moment h.world)) in
    subst (λ (x : HouseRecord). c.go_on.result ≡ (kept_step (held x) e).reply) c.self.view_is
    (c.go_on.ensures k refl (sym c.later-self-inside.ensures) refl refl c.args.t).answer

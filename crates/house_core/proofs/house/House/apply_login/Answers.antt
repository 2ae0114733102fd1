use Rattle.std.proofs.Common.{◌≡◌, ◌+◌, length, refl, subst}
use Rattle.house_model.specs.declared.event.Event.TheVariants.{Login}
use Rattle.house_model.specs.Histories.{kept_step}
use Rattle.house_model.specs.Steps.{turn, verdict}
use Rattle.house_core.specs.Houses.{HouseRecord, held}
use Rattle.house_core.specs.Logins.{Enters}
use Rattle.house_core.proofs.CallLemmas.{house}
use Rattle.house_core.proofs.LoginLemmas.{state_enters, whole_enters}
use Rattle.house_core.proofs.house.House.apply_login.Goals as goal

pub invariant_of-self : goal.invariant_of-self
invariant_of-self c =
    let h = c.self.inside in
    let e = Login c.args.w c.args.user.now in
    let k = turn e (held (house h.domain h.users h.limits h.turns h.moment h.world)) in
    let enters : Enters (verdict k e) (length h.users) c.login.result h.world c.login.new.world = c.login.ensures k refl refl refl in
    whole_enters h.domain h.users h.limits h.turns h.moment h.world c.login.new.world e c.login.result c.self.invariant enters tt

pub returns-clause-state : goal.returns-clause-state
returns-clause-state c =
    let h = c.self.inside in
    let e = Login c.args.w c.args.user.now in
    let k = turn e (held (house h.domain h.users h.limits h.turns h.moment h.world)) in
    subst (λ (x : HouseRecord). held (house h.domain h.users h.limits (h.turns + 1) h.moment c.login.new.world) ≡ (kept_step (held x) e).state)
    c.self.view_is
    (state_enters h.domain h.users h.limits h.turns h.moment (length h.users) h.world c.login.new.world e c.login.result refl
    (c.login.ensures k refl refl refl))

pub returns-clause-reply : goal.returns-clause-reply
returns-clause-reply c =
    let h = c.self.inside in
    let e = Login c.args.w c.args.user.now in
    let k = turn e (held (house h.domain h.users h.limits h.turns h.moment h.world)) in
    subst (λ (x : HouseRecord). c.login.result ≡ (kept_step (held x) e).reply) c.self.view_is
    (c.login.ensures k refl refl refl).answer

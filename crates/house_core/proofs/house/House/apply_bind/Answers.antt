use Rattle.std.proofs.Common.{ℕ, ◌≡◌, ◌+◌, ◌<◌, List, length, get_or, [], refl, sym, ap, subst, arith, ◌∙◌}
use Rattle.std.specs.Option.{option_copied}
use Rattle.jid_core.specs.Preparation.{is_local}
use Rattle.archive_table.specs.Archives.{Archives}
use Rattle.archive_table.specs.Tables.{archives_of}
use Rattle.session_table.specs.Tables.{line_of}
use Rattle.house_model.specs.declared.event.Event.TheVariants.{Bind}
use Rattle.house_model.specs.declared.reply.Reply.TheVariants.{Unready}
use Rattle.house_model.specs.Gate.{gate}
use Rattle.house_model.specs.Histories.{kept_step, passed}
use Rattle.house_model.specs.Steps.{resource_or, turn}
use Rattle.house_world.specs.declared.world.World as code
use Rattle.house_core.specs.Houses.{HouseRecord, held}
use Rattle.muc_service.specs.Rooms.{Rooms}
use Rattle.house_world.specs.Hosting.{Archived, AreHosted, Hosts}
use Rattle.house_world.specs.Worlds.{Did, seen}
use Rattle.house_world.proofs.CastLemmas.{hosted_later, hosts_same}
use Rattle.house_world.proofs.QuietLemmas.{archived_same}
use Rattle.house_core.proofs.BoundLemmas.{all_at, bind_ends, bound_is, on_err, other_ends, passed_is, same_did}
use Rattle.house_core.proofs.CallLemmas.{house, later_passed, state_ends, whole_ends, whole_is}
use Rattle.house_core.proofs.EndsLemmas.{stop_ends}
use Rattle.house_world.proofs.WorldLemmas.{few_later}
use Rattle.house_core.proofs.house.House.apply_bind.Goals as goal

pub bounds-parts-user : goal.bounds-parts-user
bounds-parts-user c =
    let h = c.self.inside in
    let k = turn (Bind c.args.w c.args.id.now (option_copied c.args.resource) c.args.t c.args.dice)
    (held (house h.domain h.users h.limits h.turns h.moment h.world)) in
    let same = (c.in-Knows.ensures.passes k refl (sym c.later-moment.ensures)).1 in
    let low = c.self.invariant.known c.args.w c.in-Knows.conn c.in-Knows.user (ap (λ (x : code.World). line_of c.args.w x.table) (sym same)
    ∙ c.in-Knows.ensures.found.0) in
    subst (λ (us : List (List ℕ)). c.in-Knows.user < length us) (sym c.parts.ensures) low

pub make_address-requires : goal.make_address-requires
make_address-requires c =
    let h = c.self.inside in
    let k = turn (Bind c.args.w c.args.id.now (option_copied c.args.resource) c.args.t c.args.dice)
    (held (house h.domain h.users h.limits h.turns h.moment h.world)) in
    let same = (c.in-Knows.ensures.passes k refl (sym c.later-moment.ensures)).1 in
    let low = c.self.invariant.known c.args.w c.in-Knows.conn c.in-Knows.user (ap (λ (x : code.World). line_of c.args.w x.table) (sym same)
    ∙ c.in-Knows.ensures.found.0) in
    let user = c.index-parts-user.result in
    ap is_local (c.index-parts-user.is ∙ ap (λ (us : List (List ℕ)). get_or us c.in-Knows.user user) c.parts.ensures)
    ∙ all_at is_local h.users c.in-Knows.user user low c.self.invariant.prepared

pub invariant_of-self-in_err-address-in-Knows : goal.invariant_of-self-in_err-address-in-Knows
invariant_of-self-in_err-address-in-Knows c =
    let h = c.self.inside in
    let k = turn (Bind c.args.w c.args.id.now (option_copied c.args.resource) c.args.t c.args.dice)
    (held (house h.domain h.users h.limits h.turns h.moment h.world)) in
    let same = (c.in-Knows.ensures.passes k refl (sym c.later-moment.ensures)).1 in
    whole_is h.users h.turns h.moment h.moment h.world c.check.new.world [] 0 c.self.invariant c.self.invariant.passed (omega arith)
    (λ world. (refl, refl, refl))
    (same_did h.world c.check.new.world c.check.ensures.tied same)

pub returns-in_err-address-in-Knows-clause-refused : goal.returns-in_err-address-in-Knows-clause-refused
returns-in_err-address-in-Knows-clause-refused c =
    let h = c.self.inside in
    let k = turn (Bind c.args.w c.args.id.now (option_copied c.args.resource) c.args.t c.args.dice)
    (held (house h.domain h.users h.limits h.turns h.moment h.world)) in
    let same = (c.in-Knows.ensures.passes k refl (sym c.later-moment.ensures)).1 in
    on_err c.from_residual.result
    (subst (λ (x : HouseRecord). held (house h.domain h.users h.limits (h.turns + 1) h.moment c.check.new.world) ≡ passed (held x)) c.self.view_is
    (passed_is h.domain h.users h.limits h.turns h.moment h.world c.check.new.world (same_did h.world c.check.new.world c.check.ensures.tied same)))

pub bind-requires-clause-small : goal.bind-requires-clause-small
bind-requires-clause-small c =
    let h = c.self.inside in
    let turns : h.turns ≡ c.args.self.now.turns = ap (λ (x : HouseRecord). x.turns) c.self.view_is in
    few_later h.turns 18446744073709546615 c.check.new.world.table (c.check.ensures.few h.turns c.self.invariant.counted)
    (omega (arith, turns, c.requires.turns))

pub bind-requires-clause-hosted : goal.bind-requires-clause-hosted
bind-requires-clause-hosted c =
    let h = c.self.inside in
    let turns : h.turns ≡ c.args.self.now.turns = ap (λ (x : HouseRecord). x.turns) c.self.view_is in
    hosted_later h.turns 13835058055282163712 c.check.new.world.rooms (omega (arith, turns, c.requires.turns))
    (subst (λ (r : Rooms). AreHosted h.turns r) (sym c.check.ensures.rooms) c.self.invariant.hosted)

pub invariant_of-self-in_default : goal.invariant_of-self-in_default
invariant_of-self-in_default c =
    let h = c.self.inside in
    let e = Bind c.args.w c.args.id.now (option_copied c.args.resource) c.args.t c.args.dice in
    let now = c.later-moment.result in
    let k = turn e (held (house h.domain h.users h.limits h.turns h.moment h.world)) in
    let ends = other_ends k c.args.w c.args.t c.args.id.now (option_copied c.args.resource) c.args.dice c.check.result (gate k e) h.world c.check.new.world
    c.check.ensures.tied c.in_default.not-Stop c.in_default.not-Knows (c.check.ensures.passes k refl (sym c.later-moment.ensures)) in
    whole_ends h.domain h.users h.limits h.turns h.moment now 0 h.world c.check.new.world e Unready c.self.invariant
    (later_passed h.moment c.args.t now c.self.invariant.passed c.later-moment.ensures) (omega arith) ends
    (hosts_same h.world.rooms c.check.new.world.rooms c.check.ensures.rooms)
    (archived_same (archives_of h.world.archives) (archives_of c.check.new.world.archives) c.check.ensures.archives)

pub returns-in_default-clause-state : goal.returns-in_default-clause-state
returns-in_default-clause-state c =
    let h = c.self.inside in
    let e = Bind c.args.w c.args.id.now (option_copied c.args.resource) c.args.t c.args.dice in
    let now = c.later-moment.result in
    let k = turn e (held (house h.domain h.users h.limits h.turns h.moment h.world)) in
    let ends = other_ends k c.args.w c.args.t c.args.id.now (option_copied c.args.resource) c.args.dice c.check.result (gate k e) h.world c.check.new.world
    c.check.ensures.tied c.in_default.not-Stop c.in_default.not-Knows (c.check.ensures.passes k refl (sym c.later-moment.ensures)) in
    subst (λ (x : HouseRecord). held (house h.domain h.users h.limits (h.turns + 1) now c.check.new.world) ≡ (kept_step (held x) e).state) c.self.view_is
    (state_ends h.domain h.users h.limits h.turns h.moment now 0 h.world c.check.new.world e Unready c.later-moment.ensures ends)

pub returns-in_default-clause-reply : goal.returns-in_default-clause-reply
returns-in_default-clause-reply c =
    let h = c.self.inside in
    let e = Bind c.args.w c.args.id.now (option_copied c.args.resource) c.args.t c.args.dice in
    let k = turn e (held (house h.domain h.users h.limits h.turns h.moment h.world)) in
    let ends = other_ends k c.args.w c.args.t c.args.id.now (option_copied c.args.resource) c.args.dice c.check.result (gate k e) h.world c.check.new.world
    c.check.ensures.tied c.in_default.not-Stop c.in_default.not-Knows (c.check.ensures.passes k refl (sym c.later-moment.ensures)) in
    subst (λ (x : HouseRecord). Unready ≡ (kept_step (held x) e).reply) c.self.view_is ends.answer

pub invariant_of-self-in-Stop : goal.invariant_of-self-in-Stop
invariant_of-self-in-Stop c =
    let h = c.self.inside in
    let e = Bind c.args.w c.args.id.now (option_copied c.args.resource) c.args.t c.args.dice in
    let now = c.later-moment.result in
    let k = turn e (held (house h.domain h.users h.limits h.turns h.moment h.world)) in
    let ends = stop_ends k e (gate k e) c.in-Stop.reply h.world c.check.new.world (c.in-Stop.ensures.passes k refl (sym c.later-moment.ensures)) in
    whole_ends h.domain h.users h.limits h.turns h.moment now 0 h.world c.check.new.world e c.in-Stop.reply c.self.invariant
    (later_passed h.moment c.args.t now c.self.invariant.passed c.later-moment.ensures) (omega arith) ends
    (hosts_same h.world.rooms c.check.new.world.rooms c.check.ensures.rooms)
    (archived_same (archives_of h.world.archives) (archives_of c.check.new.world.archives) c.check.ensures.archives)

pub returns-in-Stop-clause-state : goal.returns-in-Stop-clause-state
returns-in-Stop-clause-state c =
    let h = c.self.inside in
    let e = Bind c.args.w c.args.id.now (option_copied c.args.resource) c.args.t c.args.dice in
    let now = c.later-moment.result in
    let k = turn e (held (house h.domain h.users h.limits h.turns h.moment h.world)) in
    let ends = stop_ends k e (gate k e) c.in-Stop.reply h.world c.check.new.world (c.in-Stop.ensures.passes k refl (sym c.later-moment.ensures)) in
    subst (λ (x : HouseRecord). held (house h.domain h.users h.limits (h.turns + 1) now c.check.new.world) ≡ (kept_step (held x) e).state) c.self.view_is
    (state_ends h.domain h.users h.limits h.turns h.moment now 0 h.world c.check.new.world e c.in-Stop.reply c.later-moment.ensures ends)

pub returns-in-Stop-clause-reply : goal.returns-in-Stop-clause-reply
returns-in-Stop-clause-reply c =
    let h = c.self.inside in
    let e = Bind c.args.w c.args.id.now (option_copied c.args.resource) c.args.t c.args.dice in
    let k = turn e (held (house h.domain h.users h.limits h.turns h.moment h.world)) in
    let ends = stop_ends k e (gate k e) c.in-Stop.reply h.world c.check.new.world (c.in-Stop.ensures.passes k refl (sym c.later-moment.ensures)) in
    subst (λ (x : HouseRecord). c.in-Stop.reply ≡ (kept_step (held x) e).reply) c.self.view_is ends.answer

pub invariant_of-self-in_err-reply-in-Knows : goal.invariant_of-self-in_err-reply-in-Knows
invariant_of-self-in_err-reply-in-Knows c =
    let h = c.self.inside in
    let e = Bind c.args.w c.args.id.now (option_copied c.args.resource) c.args.t c.args.dice in
    let k = turn e (held (house h.domain h.users h.limits h.turns h.moment h.world)) in
    let same = (c.in-Knows.ensures.passes k refl (sym c.later-moment.ensures)).1 in
    whole_is h.users h.turns h.moment h.moment h.world c.bind.new.world [] 0 c.self.invariant c.self.invariant.passed (omega arith)
    (λ world. (refl, refl, refl))
    (subst (λ (x : code.World). Did [] 0 x c.bind.new.world) same c.in_err-reply-in-Knows.ensures.refused)

pub returns-in_err-reply-in-Knows-clause-refused : goal.returns-in_err-reply-in-Knows-clause-refused
returns-in_err-reply-in-Knows-clause-refused c =
    let h = c.self.inside in
    let e = Bind c.args.w c.args.id.now (option_copied c.args.resource) c.args.t c.args.dice in
    let k = turn e (held (house h.domain h.users h.limits h.turns h.moment h.world)) in
    let same = (c.in-Knows.ensures.passes k refl (sym c.later-moment.ensures)).1 in
    let did = subst (λ (x : code.World). Did [] 0 x c.bind.new.world) same c.in_err-reply-in-Knows.ensures.refused in
    on_err c.from_residual-in_err-reply-in-Knows.result
    (subst (λ (x : HouseRecord). held (house h.domain h.users h.limits (h.turns + 1) h.moment c.bind.new.world) ≡ passed (held x)) c.self.view_is
    (passed_is h.domain h.users h.limits h.turns h.moment h.world c.bind.new.world did))

pub invariant_of-self-in-Knows : goal.invariant_of-self-in-Knows
invariant_of-self-in-Knows c =
    let h = c.self.inside in
    let b = c.check.new.world in
    let d = c.bind.new.world in
    let reply = c.in_ok-reply-in-Knows.reply in
    let address = c.in_ok-address-in-Knows.address in
    let e = Bind c.args.w c.args.id.now (option_copied c.args.resource) c.args.t c.args.dice in
    let now = c.later-moment.result in
    let k = turn e (held (house h.domain h.users h.limits h.turns h.moment h.world)) in
    let passes = c.in-Knows.ensures.passes k refl (sym c.later-moment.ensures) in
    let low = c.self.invariant.known c.args.w c.in-Knows.conn c.in-Knows.user (ap (λ (x : code.World). line_of c.args.w x.table) (sym passes.1)
    ∙ c.in-Knows.ensures.found.0) in
    let place = bound_is k c.in-Knows.user c.index-parts-user.result (resource_or c.args.dice (option_copied c.args.resource)) low
    (c.index-parts-user.is ∙ ap (λ (us : List (List ℕ)). get_or us c.in-Knows.user c.index-parts-user.result) c.parts.ensures) in
    let ends = bind_ends k c.args.w c.args.t c.in-Knows.conn c.in-Knows.user c.args.id.now (option_copied c.args.resource) c.args.dice (gate k e) reply address
    h.world b d passes.0 passes.1 c.in-Knows.ensures.found.0 (c.in_ok-address-in-Knows.ensures ∙ place)
    (c.in_ok-reply-in-Knows.ensures.done k (ap seen (sym passes.1)) refl) in
    whole_ends h.domain h.users h.limits h.turns h.moment now 1 h.world d e reply c.self.invariant
    (later_passed h.moment c.args.t now c.self.invariant.passed c.later-moment.ensures) (omega arith) ends
    (subst (λ (r : Rooms). Hosts r d.rooms) c.check.ensures.rooms c.in_ok-reply-in-Knows.ensures.hosts)
    (subst (λ (x : Archives). Archived x (archives_of d.archives)) c.check.ensures.archives c.in_ok-reply-in-Knows.ensures.archives)

pub returns-in_ok-reply-in-Knows-clause-state : goal.returns-in_ok-reply-in-Knows-clause-state
returns-in_ok-reply-in-Knows-clause-state c =
    let h = c.self.inside in
    let b = c.check.new.world in
    let d = c.bind.new.world in
    let reply = c.in_ok-reply-in-Knows.reply in
    let address = c.in_ok-address-in-Knows.address in
    let e = Bind c.args.w c.args.id.now (option_copied c.args.resource) c.args.t c.args.dice in
    let now = c.later-moment.result in
    let k = turn e (held (house h.domain h.users h.limits h.turns h.moment h.world)) in
    let passes = c.in-Knows.ensures.passes k refl (sym c.later-moment.ensures) in
    let low = c.self.invariant.known c.args.w c.in-Knows.conn c.in-Knows.user (ap (λ (x : code.World). line_of c.args.w x.table) (sym passes.1)
    ∙ c.in-Knows.ensures.found.0) in
    let place = bound_is k c.in-Knows.user c.index-parts-user.result (resource_or c.args.dice (option_copied c.args.resource)) low
    (c.index-parts-user.is ∙ ap (λ (us : List (List ℕ)). get_or us c.in-Knows.user c.index-parts-user.result) c.parts.ensures) in
    let ends = bind_ends k c.args.w c.args.t c.in-Knows.conn c.in-Knows.user c.args.id.now (option_copied c.args.resource) c.args.dice (gate k e) reply address
    h.world b d passes.0 passes.1 c.in-Knows.ensures.found.0 (c.in_ok-address-in-Knows.ensures ∙ place)
    (c.in_ok-reply-in-Knows.ensures.done k (ap seen (sym passes.1)) refl) in
    subst (λ (x : HouseRecord). held (house h.domain h.users h.limits (h.turns + 1) now d) ≡ (kept_step (held x) e).state) c.self.view_is
    (state_ends h.domain h.users h.limits h.turns h.moment now 1 h.world d e reply c.later-moment.ensures ends)

pub returns-in_ok-reply-in-Knows-clause-reply : goal.returns-in_ok-reply-in-Knows-clause-reply
returns-in_ok-reply-in-Knows-clause-reply c =
    let h = c.self.inside in
    let b = c.check.new.world in
    let d = c.bind.new.world in
    let reply = c.in_ok-reply-in-Knows.reply in
    let address = c.in_ok-address-in-Knows.address in
    let e = Bind c.args.w c.args.id.now (option_copied c.args.resource) c.args.t c.args.dice in
    let k = turn e (held (house h.domain h.users h.limits h.turns h.moment h.world)) in
    let passes = c.in-Knows.ensures.passes k refl (sym c.later-moment.ensures) in
    let low = c.self.invariant.known c.args.w c.in-Knows.conn c.in-Knows.user (ap (λ (x : code.World). line_of c.args.w x.table) (sym passes.1)
    ∙ c.in-Knows.ensures.found.0) in
    let place = bound_is k c.in-Knows.user c.index-parts-user.result (resource_or c.args.dice (option_copied c.args.resource)) low
    (c.index-parts-user.is ∙ ap (λ (us : List (List ℕ)). get_or us c.in-Knows.user c.index-parts-user.result) c.parts.ensures) in
    let ends = bind_ends k c.args.w c.args.t c.in-Knows.conn c.in-Knows.user c.args.id.now (option_copied c.args.resource) c.args.dice (gate k e) reply address
    h.world b d passes.0 passes.1 c.in-Knows.ensures.found.0 (c.in_ok-address-in-Knows.ensures ∙ place)
    (c.in_ok-reply-in-Knows.ensures.done k (ap seen (sym passes.1)) refl) in
    subst (λ (x : HouseRecord). reply ≡ (kept_step (held x) e).reply) c.self.view_is ends.answer

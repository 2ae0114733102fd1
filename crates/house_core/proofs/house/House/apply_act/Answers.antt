use Rattle.std.proofs.Common.{◌≡◌, [], refl, sym, ap, arith}
use Rattle.archive_table.specs.Tables.{archives_of}
use Rattle.house_model.specs.declared.event.Event.TheVariants.{Act}
use Rattle.house_model.specs.Steps.{turn}
use Rattle.house_core.specs.Houses.{HouseRecord, held}
use Rattle.house_world.proofs.CastLemmas.{hosted_later}
use Rattle.house_world.proofs.QuietLemmas.{archived_later}
use Rattle.house_core.proofs.CallLemmas.{house, later_passed, whole_ends, whole_is}
use Rattle.house_core.proofs.house.House.apply_act.Goals as goal

pub act_at-requires-clause-hosted : goal.act_at-requires-clause-hosted
act_at-requires-clause-hosted c =
    let h = c.self.inside in
    let turns : h.turns ≡ c.args.self.now.turns = ap (λ (x : HouseRecord). x.turns) c.self.view_is in
    hosted_later h.turns 13835058055282163712 h.world.rooms (omega (arith, turns, c.requires.turns)) c.self.invariant.hosted

pub act_at-requires-clause-archived : goal.act_at-requires-clause-archived
act_at-requires-clause-archived c =
    let h = c.self.inside in
    let turns : h.turns ≡ c.args.self.now.turns = ap (λ (x : HouseRecord). x.turns) c.self.view_is in
    archived_later h.turns 13835058055282163712 (archives_of h.world.archives) (omega (arith, turns, c.requires.turns)) c.self.invariant.archived

pub invariant_of-self-in_err-reply : goal.invariant_of-self-in_err-reply
invariant_of-self-in_err-reply c =
    let h = c.self.inside in
    whole_is h.users h.turns h.moment h.moment h.world c.act_at.new.world [] 0 c.self.invariant c.self.invariant.passed (omega arith)
    (λ world. (refl, refl, refl))
    c.in_err-reply.ensures.refused

pub invariant_of-self-2 : goal.invariant_of-self-2
invariant_of-self-2 c =
    let h = c.self.inside in
    let e = Act c.args.w c.args.stanza.now c.args.t in
    let now = c.later-moment.result in
    let k = turn e (held (house h.domain h.users h.limits h.turns h.moment h.world)) in
    whole_ends h.domain h.users h.limits h.turns h.moment now 1 h.world c.act_at.new.world e c.in_ok-reply.reply c.self.invariant
    (later_passed h.moment c.args.t now c.self.invariant.passed c.later-moment.ensures) (omega arith)
    (c.in_ok-reply.ensures.done k refl (sym c.later-moment.ensures) refl refl c.args.t) c.in_ok-reply.ensures.hosts
    c.in_ok-reply.ensures.archives

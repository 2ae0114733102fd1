use Rattle.std.proofs.Common.{◌+◌, length, ap, arith}
use Rattle.std.specs.Prelude.{nat_lt, slice_get}
use Rattle.house_core.proofs.PullLemmas.{counts_of, held_there, none_framed, request_gives}
use Rattle.house_core.proofs.pulling.give_next.Goals as goal

pub push_request-requires : goal.push_request-requires
push_request-requires c =
    let x = held_there c.args.s c.args.world.now.table c.requires.held in
    let none = none_framed (slice_get x.0.queue.waiting x.0.queue.given) c.args.out.now.items c.push_next.new.out.items (c.if-push_next.ensures.frame x.0 x.1)
    in
    let same = ap length none.1 in
    omega (arith, same, c.push_next.new.out.ok.0, c.args.out.now.ok.0, c.requires.room, c.if-push_next.ensures.capacity)

pub request-requires-clause-counts : goal.request-requires-clause-counts
request-requires-clause-counts c = λ x at.
    counts_of x.counts (nat_lt x.asked_at (x.given_up + x.queue.given)) (c.if-is_to_ask.ensures x at)

pub returns-then-is_to_ask-clause-gives : goal.returns-then-is_to_ask-clause-gives
returns-then-is_to_ask-clause-gives c = λ k world now.
    let a = c.args.world.now in
    let x = held_there c.args.s a.table c.requires.held in
    request_gives k c.args.s x.0 a c.args.out.now.items c.push_next.new.out.items world x.1 (c.if-push_next.ensures.frame x.0 x.1)
    c.request.new.self c.push_request.new.out.items (c.if-is_to_ask.ensures x.0 x.1) c.push_request.ensures.bytes c.request.ensures

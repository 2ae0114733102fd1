use Rattle.std.proofs.Common.{◌≡◌, ◌&&◌, ◌-◌, nat_lt, not, Bool, true, false, sym, ap, arith, ◌∙◌}
use Rattle.std.proofs.lemmas.Bool.{lt-ltb, le-ltb}
use Rattle.jid_core.specs.Addresses.{Address, same_address, same_bare}
use Rattle.archive_table.specs.Tables.{archives_of}
use Rattle.house_routing.proofs.CountLemmas.{counted, counted_below, counted_within, is_same, is_users_other, others_of_user, place_counted, same_of_user}
use Rattle.house_core.proofs.binding.has_place.Goals as goal

pub loop-number-init : goal.loop-number-init
loop-number-init c =
    let a = c.args.address.now in
    let sessions = c.args.world.now.table.sessions in
    let theirs = c.into_iter-number-iterator.ensures.into_iter_gives ∙ c.of_user_at-number-items.ensures in
    let same = ap (counted (is_same a)) theirs ∙ same_of_user a sessions in
    let others = ap (counted (is_users_other a)) theirs ∙ others_of_user a sessions in
    record { can_next = tt; is_finite = tt; same = omega (arith, same); others = omega (arith, others) }

pub overflow_add-same : goal.overflow_add-same
overflow_add-same c =
    let a = c.args.address.now in
    let x = c.in-Some.session.now in
    let own : is_same a x ≡ true = sym (c.if-is_same.ensures.test ∙ ap (λ (b : Address). same_address b a) c.address.ensures) in
    let below = counted_below c.loop-number.same (is_same a) c.args.world.now.table (c.in-Some._number.now, x) c.loop-number._number-iterator
    c.next.new.self
    c.session.ensures.rises c.loop-number.invariant.same c.in-Some.ensures.steps own in
    omega (arith, below, c.requires.small.made)

pub overflow_add-others : goal.overflow_add-others
overflow_add-others c =
    let a = c.args.address.now in
    let x = c.in-Some.session.now in
    let other : same_address x.address a ≡ false = sym (c.if-is_same.ensures.test ∙ ap (λ (b : Address). same_address b a) c.address.ensures) in
    let users : same_bare x.address a ≡ true = sym (c.if-is_same_bare.ensures.test ∙ ap (λ (b : Address). same_bare b a) c.address-else-is_same.ensures) in
    let both : is_users_other a x ≡ true = (λ i. users i && not (other i)) in
    let below = counted_below c.loop-number.others (is_users_other a) c.args.world.now.table (c.in-Some._number.now, x) c.loop-number._number-iterator
    c.next.new.self
    c.session.ensures.rises c.loop-number.invariant.others c.in-Some.ensures.steps both in
    omega (arith, below, c.requires.small.made)

pub overflow_sub-all : goal.overflow_sub-all
overflow_sub-all c =
    counted_within (is_same c.args.address.now) c.count.result c.loop-number.same c.loop-number._number-iterator c.args.world.now.table.sessions
    c.count.ensures c.in-None.ensures.steps.0 c.loop-number.invariant.same

pub returns-then-all-limits-clause-place : goal.returns-then-all-limits-clause-place
returns-then-all-limits-clause-place c = λ k world most.
    sym (
    place_counted k c.args.address.now c.args.world.now.table c.args.world.now.answers.items c.args.world.now.book.book c.args.world.now.rooms
    (archives_of c.args.world.now.archives) c.args.limits c.count.result c.loop-number.same c.loop-number.others c.loop-number._number-iterator
    c.requires.tied c.session.ensures.rises world most c.count.ensures c.in-None.ensures.steps.0 c.loop-number.invariant.same
    c.loop-number.invariant.others
    ∙ ap (λ (b : Bool). b && nat_lt c.loop-number.others c.args.limits.of_user)
    (lt-ltb (c.count.result - c.loop-number.same) c.args.limits.sessions c.if-all-limits.true)
    )

pub returns-else-all-limits-clause-place : goal.returns-else-all-limits-clause-place
returns-else-all-limits-clause-place c = λ k world most.
    let less = le-ltb (c.count.result - c.loop-number.same) c.args.limits.sessions c.if-all-limits.false in
    less
    ∙ sym (
    place_counted k c.args.address.now c.args.world.now.table c.args.world.now.answers.items c.args.world.now.book.book c.args.world.now.rooms
    (archives_of c.args.world.now.archives) c.args.limits c.count.result c.loop-number.same c.loop-number.others c.loop-number._number-iterator
    c.requires.tied c.session.ensures.rises world most c.count.ensures c.in-None.ensures.steps.0 c.loop-number.invariant.same
    c.loop-number.invariant.others
    ∙ ap (λ (b : Bool). b && nat_lt c.loop-number.others c.args.limits.of_user) less
    )

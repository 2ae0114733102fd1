use Rattle.std.proofs.Common.{rules, arith, ◌≡◌, ◌++◌, ◌∷◌, [], length, ◌+◌, ap, ◌∙◌, sym, subst, append_assoc}
use Rattle.std.specs.Vec.Iter.{into_iter_items, into_iter_len}
use Rattle.turn_lock.specs.Histories.{Each}
use Rattle.turn_lock.specs.Views.{taken_in}
use Rattle.turn_lock.specs.Passes.{IsIdle}
use Rattle.turn_lock.proofs.Keeps.{joins}
use Rattle.turn_lock.proofs.Gathers.{each_of, each_middle, gathered-push, stage-gathered, root-gathered, claims_at_end, told_at_end, lines_at_end}
use Rattle.turn_lock.proofs.lock.Turnstile.close.Goals as goal

pub loop-other-init : goal.loop-other-init
loop-other-init g c =
    let first = c.in-Some.field-0 in
    let items : c.args.passes.items ≡ first ∷ into_iter_items c.into_iter-other-iterator.result = search rules in
    let size : length (into_iter_items c.into_iter-other-iterator.result) ≡ into_iter_len c.into_iter-other-iterator.result = search rules in
    let idle = each_of (IsIdle g.T.Storied.line g.T.Storied.root c.args.self) c.args.passes.items c.requires.idle in
    let own = each_middle (IsIdle g.T.Storied.line g.T.Storied.root c.args.self) [] first _ (subst (Each _) items idle) in
    (first, [], items, size, own.0, (λ i. (first.seat.me.0, ap (λ m. m.1) own.1 i)), search rules, search rules)

pub join_seat-requires : goal.join_seat-requires
join_seat-requires g c =
    let inv = c.loop-other.invariant in
    let next = c.in-Some-2.field-0 in
    let steps : into_iter_items c.loop-other.other-iterator ≡ next ∷ into_iter_items c.next-in-loop-other.new.self = search rules in
    let items : c.args.passes.items ≡ inv.0 ∷ (inv.1 ++ next ∷ into_iter_items c.next-in-loop-other.new.self) = inv.2 ∙ ap (λ l. inv.0 ∷ (inv.1 ++ l)) steps in
    let idle = each_of (IsIdle g.T.Storied.line g.T.Storied.root c.args.self) c.args.passes.items c.requires.idle in
    let first = each_middle (IsIdle g.T.Storied.line g.T.Storied.root c.args.self) [] inv.0 _ (subst (Each _) items idle) in
    let own = each_middle (IsIdle g.T.Storied.line g.T.Storied.root c.args.self) (inv.0 ∷ inv.1) next _ (subst (Each _) items idle) in
    let stage = ap (λ m. m.0.stage) inv.5 ∙ (stage-gathered inv.0.seat.me.0 inv.1 ∙ ap (λ m. m.0.stage) first.1) in
    let rooted = ap (λ m. m.0.root) inv.5 ∙ (root-gathered inv.0.seat.me.0 inv.1 ∙ ap (λ m. m.0.root) first.1) in (
      inv.4,
      own.0,
      ap (λ m. m.1) own.1,
      search rules,
      joins g.T.Storied.story g.T.Storied.line g.T.Storied.root _ _ _ _ _ _ _ rooted stage
          (ap (λ m. m.0.stage) own.1),
    )

pub loop-other-preserved : goal.loop-other-preserved
loop-other-preserved g c =
    let inv = c.loop-other.invariant in
    let next = c.in-Some-2.field-0 in
    let rest = into_iter_items c.next-in-loop-other.new.self in
    let steps : into_iter_items c.loop-other.other-iterator ≡ next ∷ rest = search rules in
    let count : into_iter_len c.next-in-loop-other.new.self + 1 ≡ into_iter_len c.loop-other.other-iterator = search rules in
    let items : c.args.passes.items ≡ inv.0 ∷ (inv.1 ++ next ∷ rest) = inv.2 ∙ ap (λ l. inv.0 ∷ (inv.1 ++ l)) steps in
    let long : length (into_iter_items c.loop-other.other-iterator) ≡ length (next ∷ rest) = ap length steps in
    let before = inv.3 in (
      inv.0,
      inv.1 ++ next ∷ [],
      items ∙ ap (λ l. inv.0 ∷ l) (sym (append_assoc inv.1 (next ∷ []) rest)),
      omega arith,
      c.join_seat.ensures.0 ∙ inv.4,
      c.join_seat.ensures.2 ∙ (ap (λ m. (taken_in m.0 next.seat.me.0, m.1)) inv.5 ∙ ap (λ v. (v, [])) (sym (gathered-push inv.0.seat.me.0 inv.1 next))),
      search rules,
      search rules,
    )

pub last_value-requires-clause-idle : goal.last_value-requires-clause-idle
last_value-requires-clause-idle g c =
    let inv = c.loop-other.invariant in
    let idle = each_of (IsIdle g.T.Storied.line g.T.Storied.root c.args.self) c.args.passes.items c.requires.idle in
    let first = each_middle (IsIdle g.T.Storied.line g.T.Storied.root c.args.self) [] inv.0 _ (subst (Each _) inv.2 idle) in
    ap (λ m. m.0.stage) inv.5 ∙ (stage-gathered inv.0.seat.me.0 inv.1 ∙ ap (λ m. m.0.stage) first.1)

pub last_value-requires-clause-all : goal.last_value-requires-clause-all
last_value-requires-clause-all g c =
    let inv = c.loop-other.invariant in
    let done : into_iter_len c.loop-other.other-iterator ≡ 0 = search rules in
    let size : length c.args.passes.items ≡ c.args.self.passes = search rules in
    claims_at_end g.T.Storied.line g.T.Storied.root c.args.self inv.0 inv.1 _ _ _ _ (inv.2, inv.3, done, c.requires.idle, inv.5) ∙ size

pub returns-clause-history : goal.returns-clause-history
returns-clause-history g c =
    let inv = c.loop-other.invariant in
    let done : into_iter_len c.loop-other.other-iterator ≡ 0 = search rules in
    let told = told_at_end g.T.Storied.line g.T.Storied.root c.args.self inv.0 inv.1 _ _ _ _ (inv.2, inv.3, done, c.requires.idle, inv.5) _
    c.last_value.ensures.sound in
    λ k d h. (told k d h).seen

pub returns-clause-mine : goal.returns-clause-mine
returns-clause-mine g c =
    let inv = c.loop-other.invariant in
    let done : into_iter_len c.loop-other.other-iterator ≡ 0 = search rules in
    let told = told_at_end g.T.Storied.line g.T.Storied.root c.args.self inv.0 inv.1 _ _ _ _ (inv.2, inv.3, done, c.requires.idle, inv.5) _
    c.last_value.ensures.sound in
    λ k d h. sym (told k d h).mine

pub returns-clause-refused : goal.returns-clause-refused
returns-clause-refused g c =
    let inv = c.loop-other.invariant in
    let done : into_iter_len c.loop-other.other-iterator ≡ 0 = search rules in
    let told = told_at_end g.T.Storied.line g.T.Storied.root c.args.self inv.0 inv.1 _ _ _ _ (inv.2, inv.3, done, c.requires.idle, inv.5) _
    c.last_value.ensures.sound in
    λ k d h. (told k d h).refused

pub returns-clause-drawn : goal.returns-clause-drawn
returns-clause-drawn g c =
    let inv = c.loop-other.invariant in
    let done : into_iter_len c.loop-other.other-iterator ≡ 0 = search rules in
    let told = told_at_end g.T.Storied.line g.T.Storied.root c.args.self inv.0 inv.1 _ _ _ _ (inv.2, inv.3, done, c.requires.idle, inv.5) _
    c.last_value.ensures.sound in
    λ k d h. (told k d h).drawn

pub returns-clause-lines : goal.returns-clause-lines
returns-clause-lines g c =
    let inv = c.loop-other.invariant in
    let done : into_iter_len c.loop-other.other-iterator ≡ 0 = search rules in
    lines_at_end g.T.Storied.line g.T.Storied.root c.args.self inv.0 inv.1 _ _ _ _ (inv.2, inv.3, done, c.requires.idle, inv.5) _ c.last_value.ensures.lines

use Rattle.std.proofs.Common.{arith, ◌≡◌, Some, ◌∙◌, sym}
use Rattle.std.specs.Slots.{slots_len}
use mathlib.Core.Option.{some-injective}
use Rattle.turn_lock.proofs.Keeps.{closes}
use Rattle.turn_lock.proofs.lock.Turnstile.last_value.Goals as goal

pub take-value-requires : goal.take-value-requires
take-value-requires g c =
    let size : slots_len c.close_with-closed.result.slots ≡ 1 = c.close_with-closed.ensures.counts.1 ∙ c.args.self.sized.1 in
    (omega arith, c.close_with-closed.ensures.values.1 0 (omega arith) (omega arith))

pub unreachable-requires : goal.unreachable-requires
unreachable-requires g c =
    let state = c.close_with-closed.ensures.values.2 in
    let last = closes g.T.Storied.story g.T.Storied.line g.T.Storied.root _ _ state.0 state.1.0 _ _ state.1.1 c.requires.idle (c.requires.all
    ∙ sym c.args.self.agreed) in
    c.in_default.not-Some last.0 (some-injective _ _ (sym c.take-value.ensures.value ∙ state.4 0 (Some last.0) last.1))

pub returns-clause-root : goal.returns-clause-root
returns-clause-root g c =
    let state = c.close_with-closed.ensures.values.2 in
    let last = closes g.T.Storied.story g.T.Storied.line g.T.Storied.root _ _ state.0 state.1.0 _ _ state.1.1 c.requires.idle (c.requires.all
    ∙ sym c.args.self.agreed) in
    let held = sym c.in-Some.is ∙ some-injective _ _ (sym c.take-value.ensures.value ∙ state.4 0 (Some last.0) last.1) in
    let same : c.in-Some.value ≡ last.0 = cc in
    rw same last.2

pub returns-clause-sound : goal.returns-clause-sound
returns-clause-sound g c =
    let state = c.close_with-closed.ensures.values.2 in
    let last = closes g.T.Storied.story g.T.Storied.line g.T.Storied.root _ _ state.0 state.1.0 _ _ state.1.1 c.requires.idle (c.requires.all
    ∙ sym c.args.self.agreed) in
    let held = sym c.in-Some.is ∙ some-injective _ _ (sym c.take-value.ensures.value ∙ state.4 0 (Some last.0) last.1) in
    let same : c.in-Some.value ≡ last.0 = cc in
    rw same last.3

pub returns-clause-lines : goal.returns-clause-lines
returns-clause-lines g c =
    let state = c.close_with-closed.ensures.values.2 in
    let last = closes g.T.Storied.story g.T.Storied.line g.T.Storied.root _ _ state.0 state.1.0 _ _ state.1.1 c.requires.idle (c.requires.all
    ∙ sym c.args.self.agreed) in
    let held = sym c.in-Some.is ∙ some-injective _ _ (sym c.take-value.ensures.value ∙ state.4 0 (Some last.0) last.1) in
    let same : c.in-Some.value ≡ last.0 = cc in
    rw same last.4

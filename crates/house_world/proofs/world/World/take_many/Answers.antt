use Rattle.std.proofs.Common.{List, ℕ, sym, subst}
use Rattle.std.specs.List.Sorted.{IsNonDecreasing, IsPermutation}
use Rattle.std.proofs.lemmas.List.Sorted.{IsNonDecreasingBy-from_sort}
use Rattle.house_world.proofs.RunLemmas.{ready_sorted}
use Rattle.house_world.proofs.world.World.take_many.Goals as goal

pub take_runs-requires-clause-sorted : goal.take_runs-requires-clause-sorted
take_runs-requires-clause-sorted c =
    let sorted = c.sort_unstable.new.self.items in
    subst (λ (xs : List ℕ). IsNonDecreasing xs) (sym c.as_slice.ensures.value)
    (IsNonDecreasingBy-from_sort (λ x. x) sorted c.sort_unstable.ensures.sorted)

pub returns-clause-ready : goal.returns-clause-ready
returns-clause-ready c =
    let found = c.in_ok-numbers.numbers.items in
    ready_sorted c.take_runs.result c.args.effects.now found c.as_slice.result.now c.take_runs.new.self.table c.in_ok-numbers.ensures
    (subst (λ (xs : List ℕ). IsPermutation found xs) (sym c.as_slice.ensures.value) c.sort_unstable.ensures.permutation)
    c.take_runs.ensures.room

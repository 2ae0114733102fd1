use Rattle.std.proofs.Common.{◌≡◌, ◌++◌, [], ◌≤◌, ◌-◌, Some, false, All, map, vec_len}
use Rattle.turn_lock.specs.Views.{resting, fresh}
use Rattle.turn_lock.specs.Histories.{counted}
use Rattle.turn_lock.specs.Passes.{number_of, seen, refused, drawn, Stands}
use Rattle.turn_lock.specs.declared.rule.Stage.TheVariants.{Idle}
use Rattle.turn_lock.proofs.lock.Turnstile.start.Given as goal

abbrev pub invariant-loop-number : goal.invariant-loop-number
invariant-loop-number g l = record {
  within : l.number ≤ l.passes;
  table : l.dealer.table_id ≡ l.table.shared.table_id;
  dealer : l.dealer.me ≡ (resting (Some (g.T.Storied.root l.fn.value)) false 0 (fresh l.number (l.passes - l.number)) [], []);
  count : vec_len l.all ≡ l.number;
  numbers : map number_of l.all.items ++ counted l.number (l.passes - l.number) ≡ counted 0 l.passes;
  idle : All (λ p. (p.seat.table_id ≡ l.table.shared.table_id) × Stands g.T.Storied.line (g.T.Storied.root l.fn.value) Idle [] p) l.all.items;
  fresh : All (λ p. (seen p ≡ []) × (drawn p ≡ 0) × (refused p ≡ false)) l.all.items;
}

use Rattle.std.proofs.Common.{◌≡◌, ◌++◌, ◌∷◌, [], List, length}
use Rattle.std.specs.Vec.Iter.{into_iter_items, into_iter_len}
use Rattle.turn_lock.specs.declared.tokens.Pass.{Pass}
use Rattle.turn_lock.proofs.Gathers.{view_of, gathered}
use Rattle.turn_lock.proofs.lock.Turnstile.close.Given as goal

abbrev pub invariant-loop-other : goal.invariant-loop-other
invariant-loop-other g l =
    (p : Pass g.row.T.Denot g.row.T-Entry.Denot g.row.T-Root.Denot) × (ps : List (Pass g.row.T.Denot g.row.T-Entry.Denot g.row.T-Root.Denot))
    × (l.fn.passes.items ≡ p ∷ (ps ++ into_iter_items l.other-iterator))
    × (length (into_iter_items l.other-iterator) ≡ into_iter_len l.other-iterator)
    × (l.seat.table_id ≡ l.fn.self.table.shared.table_id)
    × (l.seat.me ≡ (gathered (view_of p) ps, []))
    × (goal.iterator-loop-other g).can_next l.other-iterator × (goal.iterator-loop-other g).is_finite l.other-iterator

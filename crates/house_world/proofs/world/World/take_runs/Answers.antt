use Rattle.std.proofs.Common.{◌+◌, [], sym, subst, arith}
use Rattle.house_world.specs.declared.world.World as code
use Rattle.house_world.specs.Wholes.{IsHeldBy, IsTied}
use Rattle.house_world.specs.Worlds.{Did}
use Rattle.house_world.proofs.DidLemmas.{did_then}
use Rattle.house_world.proofs.RunLemmas.{taken_again, taken_all, taken_next, taken_with}
use Rattle.house_world.proofs.world.World.take_runs.Goals as goal
use Rattle.house_world.proofs.world.World.take_runs.Goals.{then-number-last+in_ok-take_room, else-number-last}

pub returns-in_err-take_room-clause-same : goal.returns-in_err-take_room-clause-same
returns-in_err-take_room-clause-same c =
    did_then [] [] 0 0 c.args.self.now c.loop-number.self c.take_room.new.self c.loop-number.invariant.same c.take_room.ensures.same

pub loop-number-preserved : goal.loop-number-preserved
loop-number-preserved c =
    let xs = c.args.numbers.now in
    let i = c.loop-number.number-index in
    let was = c.loop-number in
    let now = c.if-number-last in
    let here = c.loop-number-test.true in
    elim c.if-number-last.branch [
      | then-number-last+in_ok-take_room w ↦
          let new = w.take_room.new.self in
          let did = w.take_room.ensures in
          record {
            most = omega (arith, w.run-is);
            tied = subst (λ (z : code.World). IsTied z.table) (sym w.self-is) did.same.tied;
            taken = taken_with xs (i + 1) now.last _ now.run 0 now.self new w.self-is w.last-is w.run-is
                (taken_next xs i was.last was.run was.self.table c.requires.sorted here was.invariant.taken new.table
                w.if-number-last.true w.in_ok-take_room.ensures.room did.keeps);
            same = subst (λ (z : code.World). Did [] 0 c.args.self.now z) (sym w.self-is)
                (did_then [] [] 0 0 c.args.self.now was.self new was.invariant.same did.same);
            held = λ v r held. subst (λ (z : code.World). IsHeldBy v r z.table) (sym w.self-is) (did.held v r (was.invariant.held v r held));
          }
      | else-number-last w ↦
          record {
            most = omega (arith, w.run-is, was.invariant.most);
            tied = subst (λ (z : code.World). IsTied z.table) (sym w.self-is) was.invariant.tied;
            taken = taken_with xs (i + 1) now.last was.last now.run was.run now.self was.self w.self-is w.last-is w.run-is
                (taken_again xs i was.last was.run was.self.table c.requires.sorted here was.invariant.taken w.if-number-last.false);
            same = subst (λ (z : code.World). Did [] 0 c.args.self.now z) (sym w.self-is) was.invariant.same;
            held = λ v r held. subst (λ (z : code.World). IsHeldBy v r z.table) (sym w.self-is) (was.invariant.held v r held);
          }
    ]

pub returns-clause-same : goal.returns-clause-same
returns-clause-same c =
    did_then [] [] 0 0 c.args.self.now c.loop-number.self c.take_room-2.new.self c.loop-number.invariant.same c.take_room-2.ensures.same

pub returns-clause-room : goal.returns-clause-room
returns-clause-room c =
    let was = c.loop-number in
    taken_all c.take_room-2.result c.args.numbers.now was.number-index was.last was.run was.self.table c.take_room-2.new.self.table
    c.loop-number-test.false was.invariant.taken c.take_room-2.ensures.room c.take_room-2.ensures.keeps

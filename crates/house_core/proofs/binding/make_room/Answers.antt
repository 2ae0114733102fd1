use Rattle.std.proofs.Common.{[]}
use Rattle.house_core.proofs.BoundLemmas.{room_did}
use Rattle.house_world.proofs.DidLemmas.{did_then}
use Rattle.house_core.proofs.binding.make_room.Goals as goal

pub returns-clause-same : goal.returns-clause-same
returns-clause-same c =
    let b = c.prepare.new.self in
    did_then [] [] 0 0 c.args.world.now b (record b { table = c.reserve.new.self }) c.prepare.ensures.same
    (room_did b c.reserve.new.self c.reserve.ensures.same c.prepare.ensures.same.tied)

use Rattle.std.proofs.Common.{arith}
use Rattle.stanza_tree.proofs.Bounds.{length-value_text-le}
use Rattle.conn_asks.proofs.texts.push_value.Goals as goal

pub append_value-requires : goal.append_value-requires
append_value-requires c =
    let long = length-value_text-le c.args.bytes.now in
    let room = c.in-Some.ensures in
    let taken = c.in_ok-reserve.ensures.ok in
    omega (arith, long, room, taken)

use Rattle.std.proofs.Common.{ap, arith}
use Rattle.archive_table.proofs.EntryLemmas.{texts_in}
use Rattle.archive_table.proofs.RoomLemmas.{room-rows-out, room-spare-out, room-texts-le}
use Rattle.archive_table.proofs.rooms.remove.Goals as goal

pub returns-clause-length : goal.returns-clause-length
returns-clause-length c =
    let own = ap texts_in c.take_out.ensures.value in
    let few = room-texts-le c.args.room c.args.rooms.now.entries in
    omega (arith, own, few, c.requires, c.bytes_of.ensures)

pub returns-clause-rows : goal.returns-clause-rows
returns-clause-rows c n =
    room-rows-out c.args.room c.args.rooms.now.entries c.take_out.new.rooms.entries c.take_out.ensures.here c.take_out.ensures.others n

pub returns-clause-spare : goal.returns-clause-spare
returns-clause-spare c n p other =
    room-spare-out c.args.room c.args.rooms.now.entries c.take_out.new.rooms.entries c.take_out.ensures.here c.take_out.ensures.others n p other

pub returns-clause-texts : goal.returns-clause-texts
returns-clause-texts c =
    let own = ap texts_in c.take_out.ensures.value in
    let few = room-texts-le c.args.room c.args.rooms.now.entries in
    omega (arith, own, few, c.requires, c.bytes_of.ensures, c.take_out.ensures.texts)

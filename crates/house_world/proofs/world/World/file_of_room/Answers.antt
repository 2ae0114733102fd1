use Rattle.house_world.proofs.FilingLemmas.{room_filed, rows_are}
use Rattle.house_world.proofs.world.World.file_of_room.Goals as goal

pub returns-in-RoomRow-clause-archives : goal.returns-in-RoomRow-clause-archives
returns-in-RoomRow-clause-archives c =
    room_filed c.args.change c.in-RoomRow.room c.in-RoomRow.peer c.in-RoomRow.text c.in-RoomRow.moment c.args.self.now.archives c.file.new.self
    c.in-RoomRow.is c.file.ensures.archives c.file.ensures.users c.file.ensures.rooms

pub returns : goal.returns
returns c = absurd (rows_are c.args.change c.requires.room c.in_default.not-RoomRow)

use Rattle.std.proofs.Common.{◌≤◌, ◌+◌, ap, subst}
use Rattle.archive_table.specs.Entries.{rooms_of, users_of}
use Rattle.archive_table.specs.Tables.{room_archive, room_rows, room_spare, spare_in}
use Rattle.archive_table.specs.declared.filing.Filing.TheVariants.{OfRoom}
use Rattle.archive_table.proofs.TableLemmas.{room-filed}
use Rattle.archive_table.proofs.table.Archives.add_room.Goals as goal

pub returns-clause-archives : goal.returns-clause-archives
returns-clause-archives c =
    let t = c.self.inside in
    let new = c.add-self-inside.new.rooms.entries in
    room-filed (users_of t.users.entries) (users_of t.users.entries) (rooms_of t.rooms.entries) (rooms_of new) t.bytes c.add-self-inside.result
    c.args.self.now c.self.view_is c.args.room c.args.peer c.args.text c.args.moment c.add-self-inside.ensures.rows c.add-self-inside.ensures.bytes

pub returns-clause-rooms : goal.returns-clause-rooms
returns-clause-rooms c n p =
    subst (λ t. room_spare n p t ≤ spare_in (room_archive n (rooms_of c.add-self-inside.new.rooms.entries)) p
    + room_rows n (OfRoom c.args.room c.args.peer c.args.text c.args.moment))
    c.self.view_is (c.add-self-inside.ensures.spare n p)

pub returns-clause-users : goal.returns-clause-users
returns-clause-users c = ap (λ t. t.users) c.self.view_is

use Rattle.std.proofs.Common.{◌≤◌, ◌-◌, ap, subst}
use Rattle.archive_table.specs.Entries.{rooms_of, users_of}
use Rattle.archive_table.specs.Tables.{room_archive, room_spare, spare_in}
use Rattle.archive_table.proofs.TableLemmas.{room-ended}
use Rattle.archive_table.proofs.table.Archives.remove_room.Goals as goal

pub returns-clause-archives : goal.returns-clause-archives
returns-clause-archives c =
    let t = c.self.inside in
    room-ended (users_of t.users.entries) (users_of t.users.entries) (rooms_of t.rooms.entries) (rooms_of c.remove.new.rooms.entries) t.bytes
    (t.bytes - c.remove.result) c.args.self.now c.self.view_is c.args.room c.remove.ensures.rows (ap (λ n. t.bytes - n) c.remove.ensures.length)

pub returns-clause-rooms : goal.returns-clause-rooms
returns-clause-rooms c n p other =
    subst (λ t. room_spare n p t ≤ spare_in (room_archive n (rooms_of c.remove.new.rooms.entries)) p) c.self.view_is (c.remove.ensures.spare n p other)

pub returns-clause-users : goal.returns-clause-users
returns-clause-users c = ap (λ t. t.users) c.self.view_is

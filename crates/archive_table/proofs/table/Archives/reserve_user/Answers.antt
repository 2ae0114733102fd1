use Rattle.std.proofs.Common.{◌≤◌, ap, subst}
use Rattle.archive_table.specs.Entries.{rooms_of, users_of}
use Rattle.archive_table.specs.Tables.{spare_in, user_archive, user_spare}
use Rattle.archive_table.proofs.TableLemmas.{users-same}
use Rattle.archive_table.proofs.table.Archives.reserve_user.Goals as goal

pub returns-clause-same : goal.returns-clause-same
returns-clause-same c =
    let t = c.self.inside in
    users-same (users_of t.users.entries) (users_of c.reserve.new.users.entries) (rooms_of t.rooms.entries) (rooms_of t.rooms.entries) t.bytes t.bytes
    c.args.self.now c.self.view_is c.reserve.ensures.rows

pub returns-clause-users : goal.returns-clause-users
returns-clause-users c u p =
    subst (λ t. user_spare u p t ≤ spare_in (user_archive u (users_of c.reserve.new.users.entries)) p) c.self.view_is (c.reserve.ensures.spare u p)

pub returns-clause-rooms : goal.returns-clause-rooms
returns-clause-rooms c = ap (λ t. t.rooms) c.self.view_is

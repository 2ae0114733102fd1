use Rattle.std.proofs.Common.{◌≤◌, ◌+◌, ap, subst}
use Rattle.archive_table.specs.Entries.{rooms_of, users_of}
use Rattle.archive_table.specs.Tables.{spare_in, user_archive, user_rows, user_spare}
use Rattle.archive_table.specs.declared.filing.Filing.TheVariants.{OfUser}
use Rattle.archive_table.proofs.TableLemmas.{user-filed}
use Rattle.archive_table.proofs.table.Archives.add_user.Goals as goal

pub returns-clause-archives : goal.returns-clause-archives
returns-clause-archives c =
    let t = c.self.inside in
    let new = c.add-self-inside.new.users.entries in
    user-filed (users_of t.users.entries) (users_of new) (rooms_of t.rooms.entries) (rooms_of t.rooms.entries) t.bytes c.add-self-inside.result
    c.args.self.now c.self.view_is c.args.user.now c.args.peer c.args.text c.args.moment c.add-self-inside.ensures.rows c.add-self-inside.ensures.bytes

pub returns-clause-users : goal.returns-clause-users
returns-clause-users c u p =
    subst (λ t. user_spare u p t ≤ spare_in (user_archive u (users_of c.add-self-inside.new.users.entries)) p
    + user_rows u (OfUser c.args.user.now c.args.peer c.args.text c.args.moment))
    c.self.view_is (c.add-self-inside.ensures.spare u p)

pub returns-clause-rooms : goal.returns-clause-rooms
returns-clause-rooms c = ap (λ t. t.rooms) c.self.view_is

use Rattle.std.proofs.Common.{◌≡◌, ◌++◌, ◌∷◌, [], Some, nat_eq, sym, ap, ◌∙◌}
use Rattle.std.specs.Map.{lookup}
use Rattle.indexmap.proofs.CallerLemmas.{insert_entry-new}
use Rattle.archive_table.specs.Tables.{rows_of}
use Rattle.archive_table.proofs.EntryLemmas.{none-there}
use Rattle.archive_table.proofs.RoomLemmas.{room-rows-opened, room-spare-opened, room-texts-opened}
use Rattle.archive_table.proofs.rooms.open.Goals as goal

made : (c : goal.Joined-branch-2) → c.insert.new.self.entries ≡ c.args.rooms.now.entries ++ (c.args.room, c.new.result) ∷ []
made c =
    c.in_ok-insert.ensures.entries
    ∙ insert_entry-new _ c.args.rooms.now c.args.room c.new.result
    (none-there (lookup (nat_eq c.args.room) c.args.rooms.now.entries) (sym c.contains_key.ensures ∙ c.if-contains_key.false))

pub returns-clause-rows : goal.returns-clause-rows
returns-clause-rows c n =
    room-rows-opened c.args.rooms.now.entries c.insert.new.self.entries c.args.room c.new.result (made c)
    (ap (λ a. rows_of (Some a)) c.new.ensures) n

pub returns-clause-spare : goal.returns-clause-spare
returns-clause-spare c n p =
    room-spare-opened c.args.rooms.now.entries c.insert.new.self.entries c.args.room c.new.result (made c) n p

pub returns-clause-texts : goal.returns-clause-texts
returns-clause-texts c =
    room-texts-opened c.args.rooms.now.entries c.insert.new.self.entries c.args.room c.new.result (made c)
    (ap (λ a. rows_of (Some a)) c.new.ensures)

use Rattle.std.proofs.Common.{◌<◌, ◌-◌, ◌^◌, ap, sym, subst, ◌∙◌, arith}
use Rattle.archive_table.specs.Archives.{bytes_with}
use Rattle.archive_table.specs.Tables.{rows_of, spare_in}
use Rattle.archive_table.proofs.TextLemmas.{freed-le}
use Rattle.archive_table.proofs.RoomLemmas.{room-held, room-mine, room-none, room-rows, room-spare, room-texts}
use Rattle.archive_table.proofs.rooms.add.Goals as goal

pub add_to-requires-clause-spare : goal.add_to-requires-clause-spare
add_to-requires-clause-spare c =
    let f = c.in-Some.archive.now in
    let es = c.args.rooms.now.entries in
    subst (λ o. 0 < spare_in o c.args.peer) (room-mine c.args.room es es f f c.in-Some.ensures.value)
    c.requires.spare

pub add_to-requires-clause-numbers : goal.add_to-requires-clause-numbers
add_to-requires-clause-numbers c =
    let f = c.in-Some.archive.now in
    let es = c.args.rooms.now.entries in
    subst (λ o. (rows_of o).made < 2 ^ 64 - 1) (room-mine c.args.room es es f f c.in-Some.ensures.value)
    c.requires.numbers

pub add_to-requires-clause-kept : goal.add_to-requires-clause-kept
add_to-requires-clause-kept c =
    let f = c.in-Some.archive.now in
    let es = c.args.rooms.now.entries in
    let held = room-held c.args.room es es f f c.in-Some.ensures.value in
    let one = freed-le f in
    omega (arith, held, one, c.requires.kept)

pub returns-clause-bytes : goal.returns-clause-bytes
returns-clause-bytes c =
    let f = c.in-Some.archive.now in
    let es = c.args.rooms.now.entries in
    let mine = room-mine c.args.room es es f f c.in-Some.ensures.value in
    c.add_to.ensures.bytes ∙ ap (λ o. bytes_with c.args.text (rows_of o) c.args.bytes) (sym mine)

pub returns-clause-rows : goal.returns-clause-rows
returns-clause-rows c n =
    let f = c.in-Some.archive.now in
    let g = c.add_to.new.archive in
    room-rows c.args.room c.args.rooms.now.entries (c.get_mut.follows.lender g).entries f g
    c.in-Some.ensures.value (c.get_mut.follows.holds g).0 c.args.peer c.args.text c.args.moment c.add_to.ensures.rows n

pub returns-clause-spare : goal.returns-clause-spare
returns-clause-spare c n p =
    let f = c.in-Some.archive.now in
    let g = c.add_to.new.archive in
    room-spare c.args.room c.args.rooms.now.entries (c.get_mut.follows.lender g).entries f g
    c.in-Some.ensures.value (c.get_mut.follows.holds g).0 c.add_to.ensures.room n p

pub returns-clause-texts : goal.returns-clause-texts
returns-clause-texts c =
    let f = c.in-Some.archive.now in
    let g = c.add_to.new.archive in
    room-texts c.args.room c.args.rooms.now.entries (c.get_mut.follows.lender g).entries f g
    c.in-Some.ensures.value (c.get_mut.follows.holds g).0 c.args.text c.add_to.ensures.texts

pub unreachable-requires : goal.unreachable-requires
unreachable-requires c =
    let none = room-none c.args.room c.args.rooms.now.entries c.in-None.ensures.value in
    let some = subst (λ o. 0 < spare_in o c.args.peer) none c.requires.spare in
    omega (arith, some)

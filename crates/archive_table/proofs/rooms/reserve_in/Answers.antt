use Rattle.std.proofs.Common.{◌≤◌, Some, OnOk, ap, sym, subst}
use Rattle.mam_archive.specs.Archives.{room}
use Rattle.archive_table.specs.Tables.{rows_of, spare_in}
use Rattle.archive_table.proofs.TextLemmas.{least-le, least-ok}
use Rattle.archive_table.proofs.RoomLemmas.{room-here, room-rows-kept, room-spare-kept, room-texts-kept}
use Rattle.archive_table.proofs.rooms.reserve_in.Goals as goal

pub returns-in-Some-clause-room : goal.returns-in-Some-clause-room
returns-in-Some-clause-room c =
    let f = c.in-Some.archive.now in
    let g = c.reserve.new.self in
    let peer = c.args.peer.now in
    let here = room-here c.args.room c.args.rooms.now.entries (c.get_mut.follows.lender g).entries f g
    c.in-Some.ensures.value (c.get_mut.follows.holds g).0 in
    subst (λ o. OnOk c.reserve.result (c.args.many ≤ spare_in o peer)) (sym here)
    (least-ok c.reserve.result c.args.many g.spare (room peer g) c.reserve.ensures.spare c.reserve.ensures.room)

pub returns-in-Some-clause-rows : goal.returns-in-Some-clause-rows
returns-in-Some-clause-rows c n =
    let f = c.in-Some.archive.now in
    let g = c.reserve.new.self in
    room-rows-kept c.args.room c.args.rooms.now.entries (c.get_mut.follows.lender g).entries f g
    c.in-Some.ensures.value (c.get_mut.follows.holds g).0 (ap (λ a. rows_of (Some a)) c.reserve.ensures.same) n

pub returns-in-Some-clause-spare : goal.returns-in-Some-clause-spare
returns-in-Some-clause-spare c n p =
    let f = c.in-Some.archive.now in
    let g = c.reserve.new.self in
    room-spare-kept c.args.room c.args.rooms.now.entries (c.get_mut.follows.lender g).entries f g
    c.in-Some.ensures.value (c.get_mut.follows.holds g).0
    (λ q. least-le f.spare (room q f) g.spare (room q g) c.reserve.ensures.keeps_spare (c.reserve.ensures.keeps_room q)) n p

pub returns-in-Some-clause-texts : goal.returns-in-Some-clause-texts
returns-in-Some-clause-texts c =
    let f = c.in-Some.archive.now in
    let g = c.reserve.new.self in
    room-texts-kept c.args.room c.args.rooms.now.entries (c.get_mut.follows.lender g).entries f g
    c.in-Some.ensures.value (c.get_mut.follows.holds g).0 (ap (λ a. rows_of (Some a)) c.reserve.ensures.same)

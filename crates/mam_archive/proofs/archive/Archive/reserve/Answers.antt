use Rattle.std.proofs.Common.{rules, ◌≡◌, ◌+◌, ap, arith}
use Rattle.std.specs.Prelude.{Result, Ok, Err, OnOk}
use Rattle.mam_archive.specs.Archives.{room}
use Rattle.mam_archive.proofs.RoomLemmas.{room-more, room-there}
use Rattle.mam_archive.proofs.archive.Archive.reserve.Goals as goal

on-both : {A E : Type 0} {P Q R : Type 0} (r : Result A E) → OnOk r P → OnOk r Q → (P → Q → R) → OnOk r R
on-both (Ok a) p q f = f p q
on-both (Err e) p q f = tt

pub returns-clause-room : goal.returns-clause-room
returns-clause-room c =
    let a = c.self.inside in
    let new = c.reserve.new.self in
    let sum : c.in-Some.until ≡ a.made + c.args.many = search rules in
    on-both c.reserve.result c.reserve.ensures.ok_bare c.reserve.ensures.ok_full (λ bare full.
    room-there a.hash_key c.args.peer.now a.made c.args.many c.in-Some.until new.bare.entries new.full.entries sum bare full)

pub returns-clause-keeps_room : goal.returns-clause-keeps_room
returns-clause-keeps_room c = λ p.
    let a = c.self.inside in
    let new = c.reserve.new.self in
    let seen = ap (room p) c.self.view_is in
    let kept = room-more a.hash_key p a.made a.index.bare.entries a.index.full.entries new.bare.entries new.full.entries
    c.reserve.ensures.bare c.reserve.ensures.full in
    omega (arith, seen, kept)

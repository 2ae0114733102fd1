use Rattle.std.proofs.Common.{ap, arith}
use Rattle.mam_archive.specs.Archives.{room}
use Rattle.mam_archive.proofs.RoomLemmas.{room-kept}
use Rattle.mam_archive.proofs.archive.Archive.sweep.Goals as goal

pub returns-clause-room : goal.returns-clause-room
returns-clause-room c = λ p.
    let a = c.self.inside in
    let seen = ap (room p) c.self.view_is in
    let kept = room-kept a.hash_key p a.made a.index.bare.entries a.index.full.entries c.sweep.new.self.bare.entries c.sweep.new.self.full.entries
    c.sweep.ensures.bare c.sweep.ensures.full in
    omega (arith, seen, kept)

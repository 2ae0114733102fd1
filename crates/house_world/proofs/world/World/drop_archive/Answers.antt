use Rattle.std.proofs.Common.{refl}
use Rattle.house_world.proofs.FilingLemmas.{filable_same, gone_did, gone_filed, others_add}
use Rattle.house_world.proofs.HostLemmas.{other_last}
use Rattle.house_world.proofs.world.World.drop_archive.Goals as goal

pub returns-in-RoomGone-clause-did : goal.returns-in-RoomGone-clause-did
returns-in-RoomGone-clause-did c =
    gone_did c.args.self.now c.args.change.now c.in-RoomGone.room c.file.new.self c.requires.tied c.in-RoomGone.is c.file.ensures.archives

pub returns-in-RoomGone-clause-archives : goal.returns-in-RoomGone-clause-archives
returns-in-RoomGone-clause-archives c =
    gone_filed c.args.change.now c.in-RoomGone.room c.args.self.now.archives c.file.new.self c.in-RoomGone.is c.file.ensures.archives
    c.file.ensures.users c.file.ensures.rooms

pub returns-in_default-clause-did : goal.returns-in_default-clause-did
returns-in_default-clause-did c =
    other_last c.args.change.now c.args.self.now c.requires.tied c.requires.users c.requires.session c.requires.room c.in_default.not-RoomGone

pub returns-in_default-clause-archives : goal.returns-in_default-clause-archives
returns-in_default-clause-archives c = λ more.
    filable_same _ more c.args.self.now.archives c.args.self.now.archives (others_add c.args.change.now c.requires.room) refl

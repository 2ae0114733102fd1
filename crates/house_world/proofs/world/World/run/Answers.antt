use Rattle.house_world.proofs.HostLemmas.{put_did, put_files, put_is, put_stays}
use Rattle.house_world.proofs.world.World.run.Goals as goal

pub returns-clause-did : goal.returns-clause-did
returns-clause-did c =
    put_did c.args.cast.effects.items c.args.cast.rooms c.args.self.now c.apply_all.new.self c.put_rooms.new.self c.apply_all.ensures.did
    c.put_rooms.ensures c.requires.rooms

pub returns-clause-stays : goal.returns-clause-stays
returns-clause-stays c = put_stays c.args.self.now c.apply_all.new.self c.put_rooms.new.self _ c.put_rooms.ensures c.apply_all.ensures.stays

pub returns-clause-rooms : goal.returns-clause-rooms
returns-clause-rooms c =
    put_is c.args.cast.effects.items c.args.cast.rooms c.args.self.now c.apply_all.new.self c.put_rooms.new.self c.apply_all.ensures.did
    c.put_rooms.ensures

pub returns-clause-archives : goal.returns-clause-archives
returns-clause-archives c =
    put_files c.args.cast.effects.items c.args.cast.rooms c.args.self.now c.apply_all.new.self c.put_rooms.new.self c.apply_all.ensures.did
    c.put_rooms.ensures

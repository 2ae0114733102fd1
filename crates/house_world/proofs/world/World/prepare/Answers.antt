use Rattle.std.proofs.Common.{[], ap, ◌∙◌}
use Rattle.house_model.specs.States.{World}
use Rattle.house_model.specs.Traffic.{KeptTraffic}
use Rattle.house_world.proofs.DidLemmas.{did_then}
use Rattle.house_world.proofs.world.World.prepare.Goals as goal

pub returns-in_err-take_rooms-clause-archives : goal.returns-in_err-take_rooms-clause-archives
returns-in_err-take_rooms-clause-archives c = ap (λ (x : World KeptTraffic). x.archives) c.take_rooms.ensures.same.world

pub returns-in_err-take_places-clause-same : goal.returns-in_err-take_places-clause-same
returns-in_err-take_places-clause-same c =
    did_then [] [] 0 0 c.args.self.now c.take_rooms.new.self c.take_places.new.self c.take_rooms.ensures.same c.take_places.ensures.same

pub returns-in_err-take_places-clause-archives : goal.returns-in_err-take_places-clause-archives
returns-in_err-take_places-clause-archives c =
    ap (λ (x : World KeptTraffic). x.archives) c.take_places.ensures.same.world
    ∙ ap (λ (x : World KeptTraffic). x.archives) c.take_rooms.ensures.same.world

pub returns-clause-same : goal.returns-clause-same
returns-clause-same c =
    did_then [] [] 0 0 c.args.self.now c.take_places.new.self c.take_rows.new.self
    (did_then [] [] 0 0 c.args.self.now c.take_rooms.new.self c.take_places.new.self c.take_rooms.ensures.same c.take_places.ensures.same)
    c.take_rows.ensures.same

pub returns-clause-archives : goal.returns-clause-archives
returns-clause-archives c =
    c.take_rows.ensures.archives
    ∙ (ap (λ (x : World KeptTraffic). x.archives) c.take_places.ensures.same.world
    ∙ ap (λ (x : World KeptTraffic). x.archives) c.take_rooms.ensures.same.world)

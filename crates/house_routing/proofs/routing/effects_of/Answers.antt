use Rattle.std.proofs.Common.{arith}
use Rattle.house_model.specs.Routing.{Scene, effects_in}
use Rattle.house_model.proofs.SmallLemmas.{stanza_small}
use Rattle.house_world.specs.Worlds.{seen}
use Rattle.house_world.proofs.ReadyLemmas.{scene_short}
use Rattle.house_routing.proofs.KeptLemmas.{stanza_archived, stanza_few}
use Rattle.house_routing.proofs.TurnLemmas.{cast_is, cast_small, stanza_hosts, stanza_room}
use Rattle.house_routing.proofs.routing.effects_of.Goals as goal

pub cast-requires : goal.cast-requires
cast-requires c =
    let o : Scene = record { domain = c.args.domain.now; users = c.args.users.now; world = seen c.args.world.now; moment = c.args.moment } in
    stanza_room o c.args.s c.args.stanza.now c.in_ok-effects.effects.items c.in_ok-effects.ensures (omega (arith, c.len.ensures, c.know_length.ensures))
    c.requires.hosted

pub returns-clause-effects : goal.returns-clause-effects
returns-clause-effects c =
    let o : Scene = record { domain = c.args.domain.now; users = c.args.users.now; world = seen c.args.world.now; moment = c.args.moment } in
    cast_is c.in_ok-effects.effects.items (effects_in o c.args.s c.args.stanza.now) c.args.world.now.rooms c.in_ok-cast.cast c.in_ok-effects.ensures
    c.in_ok-cast.ensures

pub returns-clause-short : goal.returns-clause-short
returns-clause-short c =
    let o : Scene = record { domain = c.args.domain.now; users = c.args.users.now; world = seen c.args.world.now; moment = c.args.moment } in
    cast_small c.in_ok-effects.effects.items (effects_in o c.args.s c.args.stanza.now) c.args.world.now.rooms c.in_ok-cast.cast c.in_ok-effects.ensures
    c.in_ok-cast.ensures
    (stanza_small o c.args.s c.args.stanza.now c.requires.fits
    (scene_short c.args.world.now c.args.domain.now c.args.users.now c.args.moment c.requires.tied c.know_part.ensures c.requires.names
    c.requires.rosters c.requires.hosted.short c.requires.archived)
    c.know_to.ensures)

pub returns-clause-hosts : goal.returns-clause-hosts
returns-clause-hosts c =
    let o : Scene = record { domain = c.args.domain.now; users = c.args.users.now; world = seen c.args.world.now; moment = c.args.moment } in
    stanza_hosts o c.args.s c.args.stanza.now c.in_ok-effects.effects.items c.in_ok-cast.cast c.in_ok-effects.ensures c.in_ok-cast.ensures
    (omega (arith, c.len.ensures, c.know_length.ensures)) c.requires.fits
    (scene_short c.args.world.now c.args.domain.now c.args.users.now c.args.moment c.requires.tied c.know_part.ensures c.requires.names
    c.requires.rosters c.requires.hosted.short c.requires.archived)
    c.know_to.ensures

pub returns-clause-few : goal.returns-clause-few
returns-clause-few c =
    let o : Scene = record { domain = c.args.domain.now; users = c.args.users.now; world = seen c.args.world.now; moment = c.args.moment } in
    stanza_few o c.args.s c.args.stanza.now c.in_ok-effects.effects.items c.in_ok-cast.cast c.in_ok-effects.ensures c.in_ok-cast.ensures

pub returns-clause-archives : goal.returns-clause-archives
returns-clause-archives c =
    let o : Scene = record { domain = c.args.domain.now; users = c.args.users.now; world = seen c.args.world.now; moment = c.args.moment } in
    stanza_archived o c.args.s c.args.stanza.now c.in_ok-effects.effects.items c.in_ok-cast.cast c.in_ok-effects.ensures c.in_ok-cast.ensures
    c.requires.fits
    (scene_short c.args.world.now c.args.domain.now c.args.users.now c.args.moment c.requires.tied c.know_part.ensures c.requires.names
    c.requires.rosters c.requires.hosted.short c.requires.archived)
    c.know_to.ensures c.requires.archived

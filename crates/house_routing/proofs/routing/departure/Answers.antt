use Rattle.std.proofs.Common.{arith}
use Rattle.house_model.specs.Routing.{departure}
use Rattle.house_model.proofs.SmallLemmas.{departure_small}
use Rattle.house_world.specs.Worlds.{seen}
use Rattle.house_world.proofs.ReadyLemmas.{addresses_short}
use Rattle.house_routing.proofs.KeptLemmas.{departure_archived, departure_nothing}
use Rattle.house_routing.proofs.TurnLemmas.{cast_is, cast_small, departure_hosts, departure_room}
use Rattle.house_routing.proofs.routing.departure.Goals as goal

pub cast-requires : goal.cast-requires
cast-requires c =
    departure_room (seen c.args.world.now) c.args.s c.in_ok-effects.effects.items c.in_ok-effects.ensures (omega (arith, c.len.ensures, c.know_length.ensures))
    c.requires.hosted

pub returns-clause-effects : goal.returns-clause-effects
returns-clause-effects c =
    cast_is c.in_ok-effects.effects.items (departure (seen c.args.world.now) c.args.s) c.args.world.now.rooms c.in_ok-cast.cast c.in_ok-effects.ensures
    c.in_ok-cast.ensures

pub returns-clause-short : goal.returns-clause-short
returns-clause-short c =
    cast_small c.in_ok-effects.effects.items (departure (seen c.args.world.now) c.args.s) c.args.world.now.rooms c.in_ok-cast.cast c.in_ok-effects.ensures
    c.in_ok-cast.ensures
    (departure_small (seen c.args.world.now) c.args.s (addresses_short c.args.world.now c.requires.tied) c.requires.hosted.short)

pub returns-clause-hosts : goal.returns-clause-hosts
returns-clause-hosts c =
    departure_hosts (seen c.args.world.now) c.args.s c.in_ok-effects.effects.items c.in_ok-cast.cast c.in_ok-effects.ensures c.in_ok-cast.ensures
    (omega (arith, c.len.ensures, c.know_length.ensures))

pub returns-clause-nothing : goal.returns-clause-nothing
returns-clause-nothing c =
    departure_nothing (seen c.args.world.now) c.args.s c.in_ok-effects.effects.items c.in_ok-cast.cast c.in_ok-effects.ensures c.in_ok-cast.ensures

pub returns-clause-archives : goal.returns-clause-archives
returns-clause-archives c =
    departure_archived (seen c.args.world.now) c.args.s c.in_ok-effects.effects.items c.in_ok-cast.cast c.in_ok-effects.ensures c.in_ok-cast.ensures

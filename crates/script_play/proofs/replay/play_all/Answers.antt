use Rattle.std.proofs.Common.{rules}
use Rattle.house_core.specs.Houses.{held}
use Rattle.replay_script.specs.Deeds.{no_framers}
use Rattle.script_play.specs.Readings.{unread}
use Rattle.script_play.specs.Streams.{framers_of}
use Rattle.script_play.specs.Runs.{Going}
use Rattle.script_play.proofs.Faults.{read-before}
use Rattle.script_play.proofs.replay.play_all.Goals as goal

pub play_on-requires : goal.play_on-requires
play_on-requires g c =
    let left = g.S.Source.left c.args.source.now in
    let took = g.K.Sink.took c.args.sink.now in
    let opened : Going left (unread c.open_house.new.reader.held (g.S.Source.left c.open_house.new.source)) took took c.open_house.new.reader.given
    (held c.in-Some.house) no_framers 2 = search (rules, c.in_ok-house.ensures.opens took) in
    record { going = (left, (took, search (rules, opened))) }

pub returns-in-Some-clause-replayed : goal.returns-in-Some-clause-replayed
returns-in-Some-clause-replayed g c =
    let left = g.S.Source.left c.args.source.now in
    let took = g.K.Sink.took c.args.sink.now in
    let opened : Going left (unread c.open_house.new.reader.held (g.S.Source.left c.open_house.new.source)) took took c.open_house.new.reader.given
    (held c.in-Some.house) no_framers 2 = search (rules, c.in_ok-house.ensures.opens took) in
    let going : Going left (unread c.open_house.new.reader.held (g.S.Source.left c.open_house.new.source)) took took c.open_house.new.reader.given
    (held c.new-player.result.house) (framers_of c.new-player.result.streams.places.items) 2 = search (rules, opened) in
    c.play_on.ensures.ends left took going

pub returns-in-None-clause-replayed : goal.returns-in-None-clause-replayed
returns-in-None-clause-replayed g c = search (rules, c.in_ok-house.ensures.opens (g.K.Sink.took c.args.sink.now))

pub returns-in-Some-clause-read : goal.returns-in-Some-clause-read
returns-in-Some-clause-read g c =
    let before = g.S.Source.faults c.args.source.now in
    let opened = g.S.Source.faults c.open_house.new.source in
    read-before before opened (g.S.Source.faults c.play_on.new.source) c.play_on.result c.open_house.ensures.falls c.play_on.ensures.read

use Rattle.std.proofs.Common.{◌<◌, length, refl, rules}
use Rattle.std.specs.Prelude.{None}
use Rattle.stream_grammar.specs.machine.Reading.{first_reading}
use Rattle.script_play.proofs.StreamLemmas.{place_set}
use Rattle.script_play.proofs.streams.Streams.begin_again.Goals as goal

pub returns-then-w-len : goal.returns-then-w-len
returns-then-w-len c =
    let within : c.args.w < length c.args.self.now.places.items = search (rules) in
    place_set c.args.self.now.places.items c.args.w None first_reading within refl

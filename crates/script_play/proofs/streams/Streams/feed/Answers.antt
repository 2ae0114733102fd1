use Rattle.std.proofs.Common.{ap, ◌∙◌}
use Rattle.std.specs.Prelude.{Some}
use Rattle.stream_grammar.specs.machine.Reading.{Reading, handed, went}
use Rattle.stream_frames.specs.Limits.{limits}
use Rattle.script_play.specs.Streams.{framers_of}
use Rattle.script_play.proofs.StreamLemmas.{place_set}
use Rattle.script_play.proofs.streams.Streams.feed.Goals as goal

pub returns-clause-read : goal.returns-clause-read
returns-clause-read c =
    let s : Reading = handed (went limits (framers_of c.args.self.now.places.items c.args.w) c.args.bytes.now) in
    place_set c.take_out.new.self.places.items c.args.w (Some c.feed.new.self) s c.in_ok-place.ensures.there
    (c.in_ok-feed.ensures.read ∙ ap (λ (r : Reading). handed (went limits r c.args.bytes.now)) c.in_ok-place.ensures.reading)
    ∙ c.in_ok-place.ensures.rest s

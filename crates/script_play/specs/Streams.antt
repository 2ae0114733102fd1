-- Where the framer of each place stands.
use Rattle.std.specs.Prelude.{List, Option, Some, None, slice_index_or}
use Rattle.stream_grammar.specs.machine.Reading.{Reading, first_reading}
use Rattle.replay_script.specs.Deeds.{Framers}
use Rattle.script_play.specs.declared.place.Place.{Place}

abbrev pub reading_at : Option Place → Reading
reading_at None = first_reading
reading_at (Some p) = p.framer.reading

-- no framer was made where none was fed
abbrev pub framers_of : List (Option Place) → Framers
framers_of places w = reading_at (slice_index_or places w None)

-- What is being made of a stream.
use Rattle.std.specs.Prelude.{List, Option, Some, None}
use Rattle.std.specs.Global.{Box}
use Rattle.stream_grammar.specs.declared.namespaces.Binding.{Binding}
use Rattle.stream_grammar.specs.machine.Building.{Building, nothing_built}
use Rattle.stream_frames.specs.declared.built.Builder.{Builder}
use Rattle.stream_frames.specs.declared.work.Work.{Work}
use Rattle.stream_frames.specs.Builds.{building}

-- between elements there are bindings and nothing else
abbrev pub idle_on : List (List Binding) → Building
idle_on layers = record nothing_built { layers = layers }

abbrev pub built_or : List (List Binding) → Option (Box Builder) → Building
built_or layers None = idle_on layers
built_or layers (Some b) = building b.value

abbrev pub work_of : Work → Building
work_of w = built_or w.layers.items w.builder

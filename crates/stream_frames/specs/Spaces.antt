-- What a prefix was found to be bound to.
use Rattle.std.specs.Prelude.{ℕ, List, Option, Some, None}
use Rattle.stream_frames.specs.declared.namespaces.Space.{Space}
use Rattle.stream_frames.specs.declared.namespaces.Space.TheVariants as space

-- the bytes of a namespace
abbrev pub space_bytes : Space → List ℕ
space_bytes (space.Fixed bytes) = bytes.now
space_bytes (space.Bound text) = text.now

abbrev pub bound_space : Option Space → Option (List ℕ)
bound_space None = None
bound_space (Some s) = Some (space_bytes s)

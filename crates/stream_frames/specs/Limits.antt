-- What every stream of a client is held to (RFC 6120, 4.9.3.14 and 13.12).
use Rattle.stream_grammar.specs.declared.item.Limits.{Limits}

abbrev pub limits : Limits
limits = record { bytes = 65536; depth = 32; attrs = 64; canonical = 196608 }

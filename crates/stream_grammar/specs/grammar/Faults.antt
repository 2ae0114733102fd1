-- Where bytes begin no stream, and what kind of fault that is (RFC 6120, 4.9.3 and 11.1).
use Rattle.std.specs.Prelude.{ℕ, ◌+◌, ◌<◌, List, true}
use Rattle.stream_lex.specs.declared.LexFault.TheVariants as lexical
use Rattle.stream_lex.specs.grammar.Reading.{BeginsReading, IsKind}
use Rattle.stream_grammar.specs.declared.FrameFault.{FrameFault}
use Rattle.stream_grammar.specs.declared.FrameFault.TheVariants as fault
use Rattle.stream_grammar.specs.declared.rules.Rules.{Rules}
use Rattle.stream_grammar.specs.grammar.Streams.{Begins}

-- these rules with one level more, with one attribute more, and with any words between top elements
abbrev pub deeper : Rules → Rules
deeper r = record r { depth = r.depth + 1 }

abbrev pub wider : Rules → Rules
wider r = record r { attributes = r.attributes + 1 }

abbrev pub looser : Rules → Rules
looser r = record r { loose = true }

-- the order of the kinds: the first that fits
abbrev pub rank : FrameFault → ℕ
rank fault.TooLong = 0
rank fault.TooDeep = 1
rank fault.TooManyAttrs = 2
rank fault.BadEncoding = 3
rank fault.Restricted = 4
rank fault.BadFormat = 5
rank fault.BadPrefix = 6
rank fault.NotWellFormed = 7

-- Whether a kind fits bytes of which the last is the first with which no stream goes on: a stream would, but for a limit;
-- or they begin no lexical reading, and are refused so; or a stream would, were any words allowed between top elements.
abbrev pub Row : Rules → FrameFault → List ℕ → Type 0
Row r fault.TooDeep bytes = Begins (deeper r) bytes
Row r fault.TooManyAttrs bytes = Begins (wider r) bytes
Row r fault.BadEncoding bytes = (BeginsReading bytes → ⊥) × IsKind bytes lexical.BadEncoding
Row r fault.Restricted bytes = (BeginsReading bytes → ⊥) × IsKind bytes lexical.Restricted
Row r fault.BadFormat bytes = Begins (looser r) bytes
Row r fault.NotWellFormed bytes = Unit {0}
Row r f bytes = ⊥

abbrev pub IsSyntaxKind : Rules → FrameFault → List ℕ → Type 0
IsSyntaxKind r f bytes = Row r f bytes × ((g : FrameFault) → rank g < rank f → Row r g bytes → ⊥)

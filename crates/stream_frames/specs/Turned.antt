-- What the lexical layer makes of a byte in a stream that is open.
use Rattle.std.specs.Prelude.{◌≡◌, ℕ, true}
use Rattle.stream_lex.specs.machine.Live.{is_live}
use Rattle.stream_lex.specs.machine.Turns.{turn}
use Rattle.stream_lex.specs.machine.Leading.{IsTurned}
use Rattle.stream_frames.specs.declared.tracker.Turned.{Turned}
use Rattle.stream_grammar.specs.machine.Framing.{Frame, open_at}

abbrev pub Lexes : Frame → ℕ → Turned → Type 0
Lexes (open_at s n) b t = IsTurned s (turn s b) t.state t.lexed × (is_live t.state ≡ true)
Lexes f b t = Unit {0}

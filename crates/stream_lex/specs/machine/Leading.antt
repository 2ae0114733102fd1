-- Where bytes lead: the state after them, and what a text may still have.
use Rattle.std.specs.Prelude.{◌≡◌, ℕ, ◌-◌, List, [], ◌++◌, take, true, encode_utf8_all, IsUtf8}
use Rattle.std.specs.Str.{all_scalars}
use Rattle.std.specs.declared.option.Option.{Option}
use Rattle.std.specs.declared.option.Option.TheVariants.{None, Some}
use Rattle.stream_lex.specs.declared.Token.{Token}
use Rattle.stream_lex.specs.declared.LexFault.{LexFault}
use Rattle.stream_lex.specs.declared.Lexed.{Lexed}
use Rattle.stream_lex.specs.declared.stages.State.{State}
use Rattle.stream_lex.specs.grammar.Expressions.{Sign, all_said, IsText}
use Rattle.stream_lex.specs.grammar.Grammar.{spread}
use Rattle.stream_lex.specs.machine.Characters.{bytes_of}
use Rattle.stream_lex.specs.machine.Machine.{Voice, whole, by_byte, voice}
use Rattle.stream_lex.specs.machine.Turns.{Outcome, leads, fails}
use Rattle.stream_lex.specs.machine.Rests.{rest_at}
use Rattle.stream_lex.specs.grammar.Reading.{lines, Tells, Reads, BeginsReading, IsFault}

-- the tokens of the bytes of a character so far
abbrev pub heard : Voice → List ℕ → List Token
heard (whole f) bs = []
heard (by_byte first_character further_character) bs = spread first_character further_character bs

-- what may follow in a state: with the bytes of a character before it, it is a text of what may follow at its stage
abbrev pub Left : State → List ℕ → List Sign → Type 0
Left st more ms = (cs : List ℕ) × (all_scalars cs ≡ true) × (encode_utf8_all cs ≡ bytes_of st.pending ++ more)
    × IsText (rest_at st.stage) (lines st.returned cs) (all_said (heard (voice st.stage) (bytes_of st.pending)) ++ ms)

-- These bytes begin a reading and are the tokens ts: where they are a reading, it is this; and a text that begins with
-- them tells these, and then what the state has left.
pub record Leads (bytes : List ℕ) (ts : List Token) (st : State) : Type 0 where
  pub begins : BeginsReading bytes
  pub whole : (us : List Token) → Reads bytes us → us ≡ ts
  pub rest : (more : List ℕ) (ms : List Sign) → Tells (bytes ++ more) ms → (ns : List Sign) × (ms ≡ all_said ts ++ ns) × Left st more ns
  pub text : (more : List ℕ) (ns : List Sign) → Left st more ns → Tells (bytes ++ more) (all_said ts ++ ns)
  pub utf8 : (more : List ℕ) → IsUtf8 (bytes ++ more) → IsUtf8 (bytes_of st.pending ++ more)
  pub utf8_text : (more : List ℕ) → IsUtf8 (bytes_of st.pending ++ more) → IsUtf8 (bytes ++ more)

-- The bytes lead to the state and are the tokens ts; or they have the fault, and up to it the tokens are ts.
abbrev pub Stands : List ℕ → List Token → State → Option LexFault → Type 0
Stands bytes ts st None = Leads bytes ts st
Stands bytes ts st (Some f) = (k : ℕ) × IsFault bytes k f × Leads (take (k - 1) bytes) ts st

-- the tokens of one step
abbrev pub tokens_of : Lexed → List Token
tokens_of l = take l.count l.tokens

-- what a step does by an outcome: from the state s to t
abbrev pub IsTurned : State → Outcome → State → Lexed → Type 0
IsTurned s (leads u ts) t l = (t ≡ u) × (tokens_of l ≡ ts) × (l.fault ≡ None)
IsTurned s (fails f) t l = (t ≡ s) × (tokens_of l ≡ []) × (l.fault ≡ Some f)

-- The same, byte by byte: line ends, and characters of several bytes.
use Rattle.std.specs.Prelude.{ℕ, List, [], ◌∷◌, ◌++◌, Bool, true, false, cond, ◌==◌, ◌&&◌, nat_lt}
use Rattle.stream_lex.specs.declared.Token.{Token}
use Rattle.stream_lex.specs.declared.LexFault.{LexFault}
use Rattle.stream_lex.specs.declared.LexFault.TheVariants.{BadEncoding}
use Rattle.stream_lex.specs.declared.stages.Stage.{Stage}
use Rattle.stream_lex.specs.declared.stages.State.{State}
use Rattle.stream_lex.specs.declared.characters.Pending.{Pending}
use Rattle.stream_lex.specs.declared.characters.Pending.TheVariants as pending
use Rattle.stream_lex.specs.declared.characters.Reach.{Reach}
use Rattle.stream_lex.specs.declared.characters.Reach.TheVariants.{Whole, Begun, Broken}
use Rattle.stream_lex.specs.grammar.Classes.{has_between, class_of, scalar_values}
use Rattle.stream_lex.specs.grammar.Kinds.{ascii_kind}
use Rattle.stream_lex.specs.machine.Characters.{reach, is_nothing}
use Rattle.stream_lex.specs.machine.Machine.{Turn, goes, yields, stops, ascii, allowed_at, Voice, whole, by_byte, voice, through, wide_fault}

-- What a byte does: where it leads and what it tells, or a fault.
pub data Outcome : Type 0 where
  leads : State → List Token → Outcome
  fails : LexFault → Outcome

abbrev pub at : Stage → Pending → Bool → State
at s p r = record { stage = s; pending = p; returned = r }

-- the tokens of the byte b of a character, after the bytes p of it; and at its end
abbrev pub byte_told : Voice → Pending → ℕ → List Token
byte_told (whole f) p b = []
byte_told (by_byte first_character further_character) pending.Nothing b = first_character b ∷ []
byte_told (by_byte first_character further_character) p b = further_character b ∷ []

abbrev pub end_told : Voice → ℕ → List Token
end_told (whole f) c = f c
end_told (by_byte first_character further_character) c = []

abbrev pub settled : Bool → Turn → Outcome
settled r (goes s) = leads (at s pending.Nothing r) []
settled r (yields ts s) = leads (at s pending.Nothing r) ts
settled r (stops f) = fails f

-- XML 1.0, 2.11: a carriage return is a line feed, and so is one with the line feed after it
unfoldable pub turn_ascii : State → ℕ → Outcome
turn_ascii st b =
    cond (st.returned && b == 10) (leads (at st.stage pending.Nothing false) [])
    (cond (b == 13) (settled true (ascii st.stage (ascii_kind 10) 10)) (settled false (ascii st.stage (ascii_kind b) b)))

-- the fault of bytes that begin the characters from low to high
abbrev pub fault_of : Stage → ℕ → ℕ → LexFault
fault_of s low high = cond (has_between scalar_values low high) (wide_fault s) BadEncoding

unfoldable pub turn_wide : State → ℕ → Reach → Outcome
turn_wide st b (Begun p low high) =
    cond (has_between (class_of (allowed_at st.stage)) low high)
    (leads (at st.stage p st.returned) (byte_told (voice st.stage) st.pending b))
    (fails (fault_of st.stage low high))
turn_wide st b (Whole c) =
    cond (has_between (class_of (allowed_at st.stage)) c c)
    (leads (at (through st.stage) pending.Nothing false) (byte_told (voice st.stage) st.pending b ++ end_told (voice st.stage) c))
    (fails (fault_of st.stage c c))
turn_wide st b Broken = fails BadEncoding

abbrev pub turn : State → ℕ → Outcome
turn st b = cond (is_nothing st.pending && nat_lt b 128) (turn_ascii st b) (turn_wide st b (reach st.pending b))

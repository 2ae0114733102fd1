-- The lexical reading of bytes, and where no reading goes on.
use Rattle.std.specs.Prelude.{◌≡◌, ℕ, ◌-◌, ◌<◌, ◌≤◌, List, [], ◌∷◌, ◌++◌, take, length, Bool, true, false, cond, ◌==◌, ◌&&◌, ◌⊎◌, encode_utf8_all, IsUtf8}
use Rattle.std.specs.Str.{all_scalars}
use Rattle.std.specs.declared.option.Option.{Option}
use Rattle.std.specs.declared.option.Option.TheVariants.{None, Some}
use Rattle.stream_lex.specs.declared.Token.{Token}
use Rattle.stream_lex.specs.declared.LexFault.{LexFault}
use Rattle.stream_lex.specs.declared.LexFault.TheVariants.{NotWellFormed, Restricted, BadEncoding}
use Rattle.stream_lex.specs.grammar.Expressions.{Sign, refuses, all_said, IsText}
use Rattle.stream_lex.specs.grammar.Grammar.{document}

-- XML 1.0, 2.11: a carriage return is a line feed, and so is one with the line feed after it. The flag says that
-- a carriage return stands right before.
abbrev pub lines : Bool → List ℕ → List ℕ
lines returned [] = []
lines returned (c ∷ cs) = cond (returned && c == 10) (lines false cs) (cond (c == 13) (10 ∷ lines true cs) (c ∷ lines false cs))

-- The bytes are UTF-8, and their characters are a text of the grammar, which tells this.
abbrev pub Tells : List ℕ → List Sign → Type 0
Tells bytes ms = (cs : List ℕ) × (all_scalars cs ≡ true) × (encode_utf8_all cs ≡ bytes) × IsText document (lines false cs) ms

-- The lexical reading of the bytes: a text in which nothing is refused.
abbrev pub Reads : List ℕ → List Token → Type 0
Reads bytes ts = Tells bytes (all_said ts)

abbrev pub BeginsReading : List ℕ → Type 0
BeginsReading bytes = (more : List ℕ) × (ts : List Token) × Reads (bytes ++ more) ts

abbrev pub BeginsUtf8 : List ℕ → Type 0
BeginsUtf8 bytes = (more : List ℕ) × IsUtf8 (bytes ++ more)

-- in a text that begins with the bytes the first thing that is refused is refused so
abbrev pub BeginsRefused : List ℕ → LexFault → Type 0
BeginsRefused bytes f = (more : List ℕ) × (ts : List Token) × (ms : List Sign) × Tells (bytes ++ more) (all_said ts ++ refuses f ∷ ms)

-- The kind of a fault of bytes that begin no reading: the first that fits.
abbrev pub IsKind : List ℕ → LexFault → Type 0
IsKind bytes BadEncoding = (BeginsUtf8 bytes → ⊥) ⊎ BeginsRefused bytes BadEncoding
IsKind bytes Restricted = BeginsUtf8 bytes × (BeginsRefused bytes BadEncoding → ⊥) × BeginsRefused bytes Restricted
IsKind bytes NotWellFormed = BeginsUtf8 bytes × ((f : LexFault) → BeginsRefused bytes f → ⊥)

-- k is the least number such that the first k bytes begin no reading, and f its kind
pub record IsFault (bytes : List ℕ) (k : ℕ) (f : LexFault) : Type 0 where
  pub within : k ≤ length bytes
  pub void : BeginsReading (take k bytes) → ⊥
  pub least : (j : ℕ) → j < k → BeginsReading (take j bytes)
  pub kind : IsKind (take k bytes) f

-- The bytes begin a reading, and the tokens are the beginning of each that they begin.
pub record AreTold (bytes : List ℕ) (ts : List Token) : Type 0 where
  pub begins : BeginsReading bytes
  pub each : (more : List ℕ) (us : List Token) → Reads (bytes ++ more) us → (later : List Token) × (us ≡ ts ++ later)

-- What is told of bytes: such tokens; or the fault that they have, and such tokens of the bytes before the one that has it.
abbrev pub IsTold : List ℕ → List Token → Option LexFault → Type 0
IsTold bytes ts None = AreTold bytes ts
IsTold bytes ts (Some f) = (k : ℕ) × IsFault bytes k f × AreTold (take (k - 1) bytes) ts

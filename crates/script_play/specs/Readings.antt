-- What a reader has of a source, and what it takes.
use Rattle.std.specs.Prelude.{◌≡◌, ℕ, ◌+◌, ◌<◌, List, [], ◌∷◌, ◌++◌, Option, Some, None, ⊤, length}
use Rattle.replay_script.specs.Scripts.{IsWithin, lines_of, text_of}
use Rattle.script_play.specs.declared.lines.Taken.{Taken}
use Rattle.script_play.specs.declared.lines.Taken.TheVariants.{Line, End, TooLong, Failed}
use Rattle.script_play.specs.declared.lines.Next.{Next}
use Rattle.script_play.specs.declared.lines.Next.TheVariants as next
use Rattle.script_play.specs.declared.lines.Filled.{Filled}
use Rattle.script_play.specs.declared.lines.Filled.TheVariants as filled

-- the bytes that were read of a source and not given on yet, and how many were given on
pub record Reading : Type 0 where
  pub held : List ℕ
  pub given : ℕ

-- what is still to come, where the source tells what it has left
abbrev pub unread : List ℕ → Option (List ℕ) → Option (List ℕ)
unread held None = None
unread held (Some left) = Some (held ++ left)

-- where it is told what is to come, it begins so, and then comes the rest
abbrev pub Begins : Option (List ℕ) → Option (List ℕ) → List ℕ → Type 0
Begins old now front = (all : List ℕ) → old ≡ Some all → (rest : List ℕ) × ((now ≡ Some rest) × (all ≡ front ++ rest))

-- where it is told what is to come, there is nothing
abbrev pub Ends : Option (List ℕ) → Option (List ℕ) → Type 0
Ends old now = (all : List ℕ) → old ≡ Some all → (all ≡ []) × (now ≡ Some [])

-- the reader holds a byte, or the source ended
abbrev pub Fills : Option (List ℕ) → Option (List ℕ) → List ℕ → Filled → Type 0
Fills old now held filled.Ready = (0 < length held) × Begins old now []
Fills old now held filled.End = Ends old now
Fills old now held filled.Failed = ⊤

abbrev pub GivesNext : Option (List ℕ) → Option (List ℕ) → Next → Type 0
GivesNext old now (next.Byte b) = Begins old now (b ∷ [])
GivesNext old now next.End = Ends old now
GivesNext old now next.Failed = ⊤

-- bytes that are held, and none of which is a line feed, were moved to a line
pub record MovesRun (old now : Reading) (before after : List ℕ) : Type 0 where
  pub run : List ℕ
  pub plain : text_of run ≡ run
  pub held : old.held ≡ run ++ now.held
  pub line : after ≡ before ++ run
  pub given : now.given ≡ old.given + length run

-- a line was taken: this is its text; so many bytes were given before it and after it
pub record TakesLine (old now : Option (List ℕ)) (before after : ℕ) (text : List ℕ) : Type 0 where
  pub line : List ℕ
  pub text_is : text ≡ text_of line
  pub some : 0 < length line
  pub within : IsWithin before line
  pub given : after ≡ before + length line
  pub first : (all : List ℕ) → old ≡ Some all → (rest : List ℕ) × ((now ≡ Some rest) × (lines_of all ≡ line ∷ lines_of rest))

-- the next line passes a limit
abbrev pub PassesLimit : Option (List ℕ) → ℕ → Type 0
PassesLimit old before = (all : List ℕ) → old ≡ Some all → (line : List ℕ)
    × ((more : List (List ℕ)) × ((lines_of all ≡ line ∷ more) × (IsWithin before line → ⊥)))

abbrev pub Takes : Option (List ℕ) → Option (List ℕ) → ℕ → ℕ → List ℕ → Taken → Type 0
Takes old now before after text Line = TakesLine old now before after text
Takes old now before after text End = Ends old now
Takes old now before after text TooLong = PassesLimit old before
Takes old now before after text Failed = ⊤

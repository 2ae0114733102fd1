-- What a framer stands for.
use Rattle.std.specs.Prelude.{◌≡◌, ℕ, List, Result, Ok, Err, Option, Some, None}
use Rattle.stream_lex.specs.declared.Token.{Token}
use Rattle.stream_grammar.specs.declared.FrameFault.{FrameFault}
use Rattle.stream_frames.specs.declared.built.Builder.{Builder}
use Rattle.stream_frames.specs.declared.built.Ready.{Ready}
use Rattle.stream_grammar.specs.declared.item.Limits.{Limits}
use Rattle.stream_grammar.specs.machine.Framing.{Frame}
use Rattle.stream_grammar.specs.machine.Building.{Building, build_all, told_judged}
use Rattle.stream_frames.specs.Builds.{building, IsReady, applied}
use Rattle.stream_grammar.specs.machine.Reading.{Reading, reads, stopped}

pub record Fed : Type 0 where
  pub limits : Limits
  pub reading : Reading

-- a fault, or else a reading that goes on
abbrev pub reading_of : Option FrameFault → Frame → Building → ℕ → ℕ → Reading
reading_of (Some f) frame b n k = stopped f k
reading_of None frame b n k = reads frame b n k

-- what was prepared for tokens, or their fault
abbrev pub IsPrepared : Builder → List Token → Result Ready FrameFault → Type 0
IsPrepared b ts (Ok r) = (told_judged (building b) ts ≡ None) × IsReady b ts r × (applied r ts (building b) ≡ build_all (building b) ts)
IsPrepared b ts (Err f) = told_judged (building b) ts ≡ Some f

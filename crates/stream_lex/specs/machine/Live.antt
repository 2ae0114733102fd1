-- The states that are reached: what they wait for can come.
use Rattle.std.specs.Prelude.{length, Bool, true, false, ◌&&◌, nat_lt}
use Rattle.stream_lex.specs.declared.stages.Stage.{Stage}
use Rattle.stream_lex.specs.declared.stages.Stage.TheVariants as stage
use Rattle.stream_lex.specs.declared.stages.State.{State}
use Rattle.stream_lex.specs.declared.characters.Pending.{Pending}
use Rattle.stream_lex.specs.declared.characters.Pending.TheVariants as pending
use Rattle.stream_lex.specs.declared.characters.Reach.{Reach}
use Rattle.stream_lex.specs.declared.characters.Reach.TheVariants.{Begun}
use Rattle.stream_lex.specs.grammar.Classes.{CharacterClass, has_between, class_of}
use Rattle.stream_lex.specs.machine.Characters.{reach_first, reach_second, reach_third, is_begun}
use Rattle.stream_lex.specs.machine.Machine.{letters, allowed_at}

abbrev pub is_live_stage : Stage → Bool
is_live_stage (stage.Fixed w at) = nat_lt at (length (letters w))
is_live_stage (stage.Number p base v) = nat_lt v 0x110000
is_live_stage s = true

-- some character of the class begins so
abbrev pub is_met : CharacterClass → Reach → Bool
is_met c (Begun p low high) = has_between c low high
is_met c r = false

abbrev pub is_awaited : CharacterClass → Pending → Bool
is_awaited c pending.Nothing = true
is_awaited c (pending.One a) = is_met c (reach_first a)
is_awaited c (pending.Two a b) = is_met c (reach_second a b)
is_awaited c (pending.Three a b d) = is_met c (reach_third a b d)

unfoldable pub is_live : State → Bool
is_live st = is_live_stage st.stage && (is_begun st.pending && is_awaited (class_of (allowed_at st.stage)) st.pending)

-- What a byte tells: one token at most, or words; and the fault that it brings.
use Rattle.std.specs.Prelude.{ℕ, List, [], ◌∷◌, Bool, true, false, cond}
use Rattle.std.specs.declared.option.Option.{Option}
use Rattle.std.specs.declared.option.Option.TheVariants.{None, Some}
use Rattle.stream_lex.specs.declared.Token.{Token}
use Rattle.stream_lex.specs.declared.Token.TheVariants as token
use Rattle.stream_grammar.specs.declared.rules.Rules.{Rules}
use Rattle.stream_grammar.specs.declared.FrameFault.{FrameFault}
use Rattle.stream_grammar.specs.machine.Framing.{Frame, frame_next, is_broken, fault_at}

abbrev pub are_words : List Token → Bool
are_words [] = true
are_words (token.Word c ∷ ts) = are_words ts
are_words (t ∷ ts) = false

-- one token at most, or words
abbrev pub is_few : List Token → Bool
is_few [] = true
is_few (t ∷ []) = true
is_few (t ∷ u ∷ ts) = are_words (t ∷ u ∷ ts)

-- the fault that a byte brings
abbrev pub fault_told : Rules → Frame → ℕ → Option FrameFault
fault_told r f b = cond (is_broken f) None (cond (is_broken (frame_next r f b)) (Some (fault_at r f b)) None)

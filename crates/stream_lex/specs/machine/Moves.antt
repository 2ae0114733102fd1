-- What a move of the code says.
use Rattle.std.specs.Prelude.{[], ◌∷◌}
use Rattle.stream_lex.specs.declared.steps.Move.{Move}
use Rattle.stream_lex.specs.declared.steps.Move.TheVariants.{Goes, Gives, GivesTwo, GivesThree, Stops}
use Rattle.stream_lex.specs.machine.Machine.{Turn, goes, yields, stops}

abbrev pub turn_of : Move → Turn
turn_of (Goes s) = goes s
turn_of (Gives s t) = yields (t ∷ []) s
turn_of (GivesTwo s t u) = yields (t ∷ u ∷ []) s
turn_of (GivesThree s t u v) = yields (t ∷ u ∷ v ∷ []) s
turn_of (Stops f) = stops f

use Rattle.stream_lex.proofs.Standing.{stands-first_character, start-live}
use Rattle.stream_lex.proofs.Lex.new.Goals as goal

pub invariant_of-result : goal.invariant_of-result
invariant_of-result c = record { live = start-live c.start.result c.start.ensures }

pub returns : goal.returns
returns c = stands-first_character c.start.result (start-live c.start.result c.start.ensures) c.start.ensures

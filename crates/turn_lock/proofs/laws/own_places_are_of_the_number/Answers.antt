use Rattle.turn_lock.specs.Passes.{number_of, seen}
use Rattle.turn_lock.proofs.Places.{places_are_where, entries_at_places}
use Rattle.turn_lock.proofs.laws.own_places_are_of_the_number.Goals as goal

pub returns-clause-places : goal.returns-clause-places
returns-clause-places c at = λ line p. places_are_where line (number_of p) (seen p)

pub returns-clause-entries : goal.returns-clause-entries
returns-clause-entries c at = λ line p. entries_at_places line (number_of p) (seen p)

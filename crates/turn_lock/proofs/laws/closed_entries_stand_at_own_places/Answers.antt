use Rattle.turn_lock.proofs.Places.{closed_places, closed_entries, closed_by_someone, closed_by_one}
use Rattle.turn_lock.proofs.laws.closed_entries_stand_at_own_places.Goals as goal

pub returns-clause-places : goal.returns-clause-places
returns-clause-places c at = closed_places

pub returns-clause-entries : goal.returns-clause-entries
returns-clause-entries c at = closed_entries

pub returns-clause-whose : goal.returns-clause-whose
returns-clause-whose c at = closed_by_someone

pub returns-clause-alone : goal.returns-clause-alone
returns-clause-alone c at = closed_by_one

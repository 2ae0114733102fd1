use Rattle.stream_laws.proofs.ProperTops.{top-proper, proper-top}
use Rattle.stream_laws.proofs.round_trip.proper_elements_are_those_of_streams.Goals as goal

pub returns-clause-read : goal.returns-clause-read
returns-clause-read c = λ e t. top-proper e t

pub returns-clause-written : goal.returns-clause-written
returns-clause-written c = λ e proper fits. proper-top e proper fits

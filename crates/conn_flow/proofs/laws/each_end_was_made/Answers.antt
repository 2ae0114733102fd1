use Rattle.conn_flow.proofs.Calling.{hung_ends, stays_through, was_made}
use Rattle.conn_flow.proofs.laws.each_end_was_made.Goals as goal

pub returns-clause-made : goal.returns-clause-made
returns-clause-made c = λ a s calls x fresh led end. was_made a calls s x fresh led end

pub returns-clause-stays : goal.returns-clause-stays
returns-clause-stays c = λ a s calls x end led. stays_through a calls s x end led

pub returns-clause-hung : goal.returns-clause-hung
returns-clause-hung c = λ a s calls led made. hung_ends a calls s led made

use Rattle.flow_laws.proofs.Causing.{has_cause}
use Rattle.flow_laws.proofs.causes.each_end_has_its_cause.Goals as goal

pub returns : goal.returns
returns c = λ o opened moves last x through left. has_cause o opened moves last x through left

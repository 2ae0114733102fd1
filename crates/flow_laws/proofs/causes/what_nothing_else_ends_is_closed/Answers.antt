use Rattle.flow_laws.proofs.Causing.{closes, has_cause}
use Rattle.flow_laws.proofs.causes.what_nothing_else_ends_is_closed.Goals as goal

pub returns : goal.returns
returns c = λ o opened moves last x through left none. closes o opened moves x (has_cause o opened moves last x through left) none

use Rattle.sm_account.proofs.Grows.{start_in_order}
use Rattle.sm_account.proofs.laws.places_stay_in_order.Goals as goal

pub returns : goal.returns
returns c at = start_in_order

use Rattle.std.proofs.Common.{codes}
use Rattle.jid_core.specs.Preparation.{resource_of}
use Rattle.replay_script.proofs.DrillAddresses.{known, known_is, resource_read}
use Rattle.replay_script.proofs.drill_names.resource.Goals as goal

pub read_resource-requires : goal.read_resource-requires
read_resource-requires c = known (resource_of (codes "r")) (codes "r") resource_read

pub returns : goal.returns
returns c = known_is c.read_resource.result (resource_of (codes "r")) (codes "r") resource_read c.read_resource.ensures

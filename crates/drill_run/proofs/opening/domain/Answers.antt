use Rattle.std.proofs.Common.{codes}
use Rattle.jid_core.specs.Addresses.{address_of}
use Rattle.replay_script.specs.DrillStanzas.{domain}
use Rattle.drill_run.proofs.Openings.{domain_read, no_fault, read_is}
use Rattle.drill_run.proofs.opening.domain.Goals as goal

pub no_memory-requires : goal.no_memory-requires
no_memory-requires c = no_fault (address_of (codes "example.org")) domain c.in-Err.fault domain_read c.in-Err.ensures.fault

pub returns-in-Ok : goal.returns-in-Ok
returns-in-Ok c = read_is (address_of (codes "example.org")) domain c.in-Ok.jid domain_read c.in-Ok.ensures.ok

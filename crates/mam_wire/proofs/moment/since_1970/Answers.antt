use Rattle.std.proofs.Common.{arith}
use Rattle.std.proofs.lemmas.Grind.{common_steps}
use Rattle.jiff_core.proofs.CalendarLemmas.{day_count-epoch}
use Rattle.mam_wire.proofs.moment.since_1970.Goals as goal

pub returns : goal.returns
returns c = rw day_count-epoch (grind (arith, common_steps))

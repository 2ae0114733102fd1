use Rattle.std.proofs.Common.{◌-◌, ap}
use Rattle.session_table.specs.Sessions.{OwnRecord}
use Rattle.sm_counters.specs.Numbers.{count_of}
use Rattle.house_world.proofs.deeds.inward.Goals as goal

pub returns : goal.returns
returns c = ap (λ (o : OwnRecord). count_of (o.acted - o.base_in)) c.own.view_is

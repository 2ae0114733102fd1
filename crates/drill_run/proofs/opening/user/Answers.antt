use Rattle.std.proofs.Common.{ap, ◌∙◌}
use Rattle.jid_core.specs.Preparation.{local_of}
use Rattle.replay_script.specs.DrillStanzas.{user}
use Rattle.drill_run.proofs.Openings.{no_fault, read_is, user_read}
use Rattle.drill_run.proofs.opening.user.Goals as goal

pub no_memory-requires : goal.no_memory-requires
no_memory-requires c =
    no_fault (local_of c.as_bytes.result.now) (user c.args.i) c.in-Err.fault
    (ap local_of (c.as_bytes.ensures.value ∙ c.in_ok-name.ensures.ok) ∙ user_read c.args.i c.requires) c.in-Err.ensures.fault

pub returns-in-Ok : goal.returns-in-Ok
returns-in-Ok c =
    read_is (local_of c.as_bytes.result.now) (user c.args.i) c.in-Ok.name
    (ap local_of (c.as_bytes.ensures.value ∙ c.in_ok-name.ensures.ok) ∙ user_read c.args.i c.requires) c.in-Ok.ensures.ok

use Rattle.std.proofs.Common.{◌≡◌, ◌++◌, codes, ap, ◌∙◌}
use Rattle.std.specs.Fmt.{decimal}
use Rattle.jid_core.specs.Preparation.{local_of}
use Rattle.replay_script.specs.DrillStanzas.{user}
use Rattle.replay_script.proofs.DrillAddresses.{known, known_is, user_read}
use Rattle.replay_script.proofs.drill_names.user.Goals as goal

pub read_local-requires : goal.read_local-requires
read_local-requires c =
    let is : c.as_bytes.result.now ≡ codes "u" ++ decimal c.args.i = c.as_bytes.ensures.value ∙ c.in_ok-text.ensures.ok in
    known (local_of c.as_bytes.result.now) (user c.args.i) (ap local_of is ∙ user_read c.args.i c.requires)

pub returns : goal.returns
returns c =
    let is : c.as_bytes.result.now ≡ codes "u" ++ decimal c.args.i = c.as_bytes.ensures.value ∙ c.in_ok-text.ensures.ok in
    known_is c.read_local.result (local_of c.as_bytes.result.now) (user c.args.i) (ap local_of is ∙ user_read c.args.i c.requires) c.read_local.ensures

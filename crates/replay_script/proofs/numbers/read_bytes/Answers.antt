use Rattle.std.proofs.Common.{◌≡◌, ◌∙◌, true, Some, sym, ap}
use Rattle.replay_script.proofs.NumberLemmas.{bytes_read}
use Rattle.replay_script.specs.Numbers.{may_be_bytes}
use Rattle.replay_script.proofs.numbers.read_bytes.Goals as goal

pub returns-in-Ok : goal.returns-in-Ok
returns-in-Ok c =
    let may : may_be_bytes c.args.field.now ≡ true = cc in
    bytes_read c.args.field.now c.in-Ok.bytes.items may c.in-Ok.ensures.ok ∙ ap Some (sym c.of.ensures)

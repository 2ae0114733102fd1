use Rattle.std.proofs.Common.{◌≡◌, ◌++◌, codes, ap, ◌∙◌}
use Rattle.std.specs.Fmt.{decimal}
use Rattle.jid_core.specs.Addresses.{address_of}
use Rattle.replay_script.specs.DrillStanzas.{seat}
use Rattle.replay_script.proofs.DrillAddresses.{known, known_is, seat_read}
use Rattle.replay_script.proofs.drill_names.seat.Goals as goal

pub read_address-requires : goal.read_address-requires
read_address-requires c =
    let is : c.as_bytes.result.now ≡ codes "drill@rooms.example.org/u" ++ decimal c.args.i = c.as_bytes.ensures.value ∙ c.in_ok-text.ensures.ok in
    known (address_of c.as_bytes.result.now) (seat c.args.i) (ap address_of is ∙ seat_read c.args.i c.requires)

pub returns : goal.returns
returns c =
    let is : c.as_bytes.result.now ≡ codes "drill@rooms.example.org/u" ++ decimal c.args.i = c.as_bytes.ensures.value ∙ c.in_ok-text.ensures.ok in
    known_is c.read_address.result (address_of c.as_bytes.result.now) (seat c.args.i) (ap address_of is ∙ seat_read c.args.i c.requires) c.read_address.ensures

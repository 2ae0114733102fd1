use Rattle.std.proofs.Common.{codes}
use Rattle.jid_core.specs.Addresses.{address_of}
use Rattle.replay_script.specs.DrillStanzas.{room}
use Rattle.replay_script.proofs.DrillAddresses.{known, known_is, room_read}
use Rattle.replay_script.proofs.drill_names.room.Goals as goal

pub read_address-requires : goal.read_address-requires
read_address-requires c = known (address_of (codes "drill@rooms.example.org")) (room) room_read

pub returns : goal.returns
returns c = known_is c.read_address.result (address_of (codes "drill@rooms.example.org")) (room) room_read c.read_address.ensures

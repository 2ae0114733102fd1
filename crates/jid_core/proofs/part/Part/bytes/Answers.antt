use Rattle.std.proofs.Common.{subst}
use Rattle.std.specs.Prelude.{IsUtf8}
use Rattle.jid_core.proofs.PreparationLemmas.{IsUtf8-from_resource}
use Rattle.jid_core.specs.Held.{bytes_of}
use Rattle.jid_core.proofs.part.Part.bytes.Goals as goal

pub returns-clause-utf8 : goal.returns-clause-utf8
returns-clause-utf8 c = subst IsUtf8 c.self.view_is (IsUtf8-from_resource (bytes_of c.self.inside.held) c.self.invariant)

use Rattle.std.proofs.Common.{rules, codes}
use Rattle.std.proofs.lemmas.Str.{IsUtf8-append}
use Rattle.stanza_router.proofs.discovery.service_domain.Goals as goal

pub of_vec-requires : goal.of_vec-requires
of_vec-requires c = search (rules, IsUtf8-append (codes "rooms.") c.bytes.result.now)

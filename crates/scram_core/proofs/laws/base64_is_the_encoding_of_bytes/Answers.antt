use Rattle.scram_core.proofs.Encodings.{encoding-text, text-encoding}
use Rattle.scram_core.proofs.laws.base64_is_the_encoding_of_bytes.Goals as goal

pub returns-clause-decodes : goal.returns-clause-decodes
returns-clause-decodes c = λ text m. let e = text-encoding text m in (e.bytes, e.are_bytes, e.coded)

pub returns-clause-encodes : goal.returns-clause-encodes
returns-clause-encodes c = encoding-text

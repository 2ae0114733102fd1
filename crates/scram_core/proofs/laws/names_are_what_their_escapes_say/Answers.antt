use Rattle.scram_core.proofs.Names.{unescape-escape, escape-unescape}
use Rattle.scram_core.proofs.laws.names_are_what_their_escapes_say.Goals as goal

pub returns-clause-read : goal.returns-clause-read
returns-clause-read c = unescape-escape

pub returns-clause-spelt : goal.returns-clause-spelt
returns-clause-spelt c = escape-unescape

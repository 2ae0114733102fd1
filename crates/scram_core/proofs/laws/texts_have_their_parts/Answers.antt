use Rattle.scram_core.proofs.Parts.{first-parts, last-parts}
use Rattle.scram_core.proofs.laws.texts_have_their_parts.Goals as goal

pub returns-clause-first : goal.returns-clause-first
returns-clause-first c = first-parts

pub returns-clause-last : goal.returns-clause-last
returns-clause-last c = last-parts

use Rattle.stream_laws.proofs.GatherLemmas.{tag-gathered}
use Rattle.stream_laws.proofs.laws.tags_are_gathered.Goals as goal

pub returns : goal.returns
returns c = λ g t empty. tag-gathered g t empty

use Rattle.stream_grammar.proofs.Blaming.{fault-kind}
use Rattle.stream_laws.proofs.laws.faults_have_kinds.Goals as goal

pub returns : goal.returns
returns c = λ r bytes b e h. fault-kind r bytes b e h

use Rattle.stream_laws.proofs.Coming.{header-ends, top-ends}
use Rattle.stream_laws.proofs.laws.items_end.Goals as goal

pub returns-clause-header : goal.returns-clause-header
returns-clause-header c = λ r bytes b h. header-ends r bytes b h

pub returns-clause-top : goal.returns-clause-top
returns-clause-top c = λ r bytes b h. top-ends r bytes b h

use Rattle.stream_laws.proofs.NextCallLemmas.{next_taken, next_text}
use Rattle.stream_laws.proofs.calls.the_next_call_goes_on_from_the_bytes.Goals as goal

pub returns-clause-taken : goal.returns-clause-taken
returns-clause-taken c = λ l calls items later t u piece n fed clean on. next_taken l calls items later t u piece n fed clean on

pub returns-clause-text : goal.returns-clause-text
returns-clause-text c = λ l calls items later t u root f e more n next fed clean come named default within on.
    next_text l calls items later t u root f e more n next fed (come, named, default, clean) within on

use Rattle.stream_laws.proofs.OneFault.{fault_or_none, one_fault, none_else, place_stops, place_told, place_exact, item_or_fault}
use Rattle.stream_laws.proofs.laws.bytes_have_one_fault_or_none.Goals as goal

pub returns-clause-either : goal.returns-clause-either
returns-clause-either c = λ l bytes. fault_or_none l bytes

pub returns-clause-one : goal.returns-clause-one
returns-clause-one c = λ l bytes j k f g is has. one_fault l bytes j k f g is has

pub returns-clause-never_both : goal.returns-clause-never_both
returns-clause-never_both c = λ l bytes k f is none. none_else l bytes k f is none

pub returns-clause-stops : goal.returns-clause-stops
returns-clause-stops c = λ l bytes k f is. place_stops l bytes k f is

pub returns-clause-told : goal.returns-clause-told
returns-clause-told c = λ l bytes n f e. place_told l bytes n f e

pub returns-clause-exact : goal.returns-clause-exact
returns-clause-exact c = λ l bytes k f short e. place_exact l bytes k f short e

pub returns-clause-waits : goal.returns-clause-waits
returns-clause-waits c = λ l bytes b i e. item_or_fault l bytes b i e

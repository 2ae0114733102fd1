use Rattle.stream_laws.proofs.OneItem.{one_read, one_taken}
use Rattle.stream_laws.proofs.calls.a_piece_of_one_element_is_taken_whole.Goals as goal

pub returns-clause-read : goal.returns-clause-read
returns-clause-read c = λ l before b bs e count waits. one_read l before b bs e count waits

pub returns-clause-all : goal.returns-clause-all
returns-clause-all c = λ l before b bs e next is. one_taken l before b bs e next is

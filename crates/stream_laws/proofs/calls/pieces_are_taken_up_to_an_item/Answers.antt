use Rattle.stream_laws.proofs.TakenLemmas.{piece_taken, one_number, some_taken, faulty_taken}
use Rattle.stream_laws.proofs.calls.pieces_are_taken_up_to_an_item.Goals as goal

pub returns-clause-taken : goal.returns-clause-taken
returns-clause-taken c = λ l before piece none. piece_taken l before piece none

pub returns-clause-one : goal.returns-clause-one
returns-clause-one c = λ l before piece n m is too. one_number l before piece n m is too

pub returns-clause-some : goal.returns-clause-some
returns-clause-some c = λ l before piece n is h. some_taken l before piece n is h

pub returns-clause-after_fault : goal.returns-clause-after_fault
returns-clause-after_fault c = λ l before piece k f is. faulty_taken l before piece k f is

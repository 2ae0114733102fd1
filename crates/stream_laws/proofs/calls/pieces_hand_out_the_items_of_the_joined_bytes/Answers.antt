use Rattle.stream_laws.proofs.PiecesLemmas.{pieces_handed, any_pieces}
use Rattle.stream_laws.proofs.calls.pieces_hand_out_the_items_of_the_joined_bytes.Goals as goal

pub returns-clause-items : goal.returns-clause-items
returns-clause-items c = λ l pieces calls items t fed are. pieces_handed l pieces calls items t fed are

pub returns-clause-can : goal.returns-clause-can
returns-clause-can c = λ l pieces. any_pieces l pieces

use Rattle.std.proofs.Common.{◌≡◌, ℕ, List, ◌∷◌, refl}
use Rattle.stream_grammar.specs.declared.item.Limits.{Limits}
use Rattle.stream_grammar.specs.machine.Reading.{Reading, reads, stopped, handed, went}
use Rattle.stream_grammar.proofs.FeedLemmas.{piece_went}
use Rattle.stream_laws.proofs.Handing.{went-more}
use Rattle.stream_laws.proofs.laws.cuts_make_no_difference.Goals as goal

pub returns-clause-piece : goal.returns-clause-piece
returns-clause-piece c = λ l s piece h. piece_went l s piece h

pub returns-clause-pieces : goal.returns-clause-pieces
returns-clause-pieces c = λ l s xs ys. went-more l s xs ys

again : (l : Limits) (s : Reading) (b : ℕ) (bs : List ℕ) → went l (handed s) (b ∷ bs) ≡ went l s (b ∷ bs)
again l (stopped f k) b bs = refl
again l (reads f c n k) b bs = refl

pub returns-clause-handed : goal.returns-clause-handed
returns-clause-handed c = λ l s b bs. again l s b bs

use Rattle.stream_laws.proofs.Extents.{open_since}
use Rattle.stream_laws.proofs.OpenItems.{item_ends, item_was_open}
use Rattle.stream_laws.proofs.OpenGrammar.{open_by_grammar, open_by_frames, since_by_grammar}
use Rattle.stream_laws.proofs.laws.items_are_open_until_they_end.Goals as goal

pub returns-clause-since : goal.returns-clause-since
returns-clause-since c =
    λ r bytes h. let (xs, ys, split, since) = open_since r bytes (open_by_frames r bytes h) in (xs, ys, split, since_by_grammar r xs ys since)

pub returns-clause-ends : goal.returns-clause-ends
returns-clause-ends c = λ r bytes b h never begins. item_ends r bytes b (open_by_frames r bytes h) (λ k. never (open_by_grammar r _ k)) begins

pub returns-clause-ended : goal.returns-clause-ended
returns-clause-ended c =
    λ r bytes b e. let (was, never) = item_was_open r bytes b e in (open_by_grammar r bytes was, λ k. never (open_by_frames r _ k))

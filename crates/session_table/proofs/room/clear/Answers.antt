use Rattle.std.proofs.Common.{rules}
use Rattle.indexmap.proofs.CallerLemmas.{filter-RetainsPairs}
use Rattle.session_table.specs.Indexes.{is_filled}
use Rattle.session_table.proofs.room.clear.Goals as goal

pub returns-clause-entries : goal.returns-clause-entries
returns-clause-entries c = filter-RetainsPairs _ is_filled _ (λ k v b w g call. search rules) _ _ c.retain.ensures.filtered

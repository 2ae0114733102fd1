use Rattle.std.proofs.Common.{subst, IsTrue}
use Rattle.turn_lock.specs.Passes.{root_of}
use Rattle.turn_lock.proofs.laws.what_holds_of_stories_holds_of_what_was_seen.Goals as goal

pub returns : goal.returns
returns c at = λ story root test all lock p told.
    subst (λ l. IsTrue (test (root_of root lock) l)) told.1
    (subst (λ q. IsTrue (test q (story told.0))) told.2 (all told.0))

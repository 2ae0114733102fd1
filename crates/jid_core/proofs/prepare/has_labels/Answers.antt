use Rattle.std.proofs.Common.{rules, tests, ◌==◌, length}
use Rattle.std.specs.Int.{is_in_range}
use Rattle.std.proofs.lemmas.Iterator.Search.{all_from_yields_List}
use Rattle.std.proofs.lemmas.Iterator.Splits.{YieldsList-from_slice_split}
use Rattle.jid_core.proofs.prepare.has_labels.Goals as goal

pub returns : goal.returns
returns c =
    all_from_yields_List (λ label. is_in_range 1 63 (length label)) _ _ _ c.all.ensures.ran
    (YieldsList-from_slice_split _ (λ b. b == 46) c.args.name.now c.split.ensures.rest c.split.ensures.done c.split.ensures.closure
    (λ x b q k. search (rules, tests)))
    (λ x b q k. search (rules, tests))

use Rattle.std.proofs.Common.{rules, ◌≡◌}
use Rattle.contact_table.proofs.NameLemmas.{named_more}
use Rattle.contact_table.proofs.folder.fill.Goals as goal

pub loop-number-preserved : goal.loop-number-preserved
loop-number-preserved c =
    let same : c.in_ok-to_vec.field-0.items ≡ c.args.user.now = search rules in
    record {
      full = search rules;
      kept = search rules;
      named = λ before. named_more c.args.user.now c.loop-number.names.items c.push.new.self.items c.in_ok-to_vec.field-0
          c.in_ok-push.ensures.items same (c.loop-number.invariant.named before);
    }

use Rattle.std.proofs.Common.{◌+◌, ◌-◌, ◌/◌, List, sym, ◌∙◌, arith}
use Rattle.std.specs.Option.{option_copied}
use Rattle.rsm_paging.specs.Places.{comes_before, rows_at}
use Rattle.rsm_paging.specs.declared.ask.Row.{Row}
use Rattle.rsm_paging.proofs.PlaceLemmas.{above-count, below-count, count-le, rows-stand}
use Rattle.rsm_paging.proofs.placing.count_before.Goals as goal

pub loop-low-init : goal.loop-low-init
loop-low-init c =
    let xs : List Row = rows_at c.args.rows.now (option_copied c.args.picked) c.args.span.from c.args.span.many in
    let le = count-le (comes_before c.args.bound) xs in
    let wide = c.requires.span.there in
    record { order = omega arith; within = omega arith; low = omega arith; high = omega (arith, le, wide) }

pub loop-low-preserved-then-is_before_at : goal.loop-low-preserved-then-is_before_at
loop-low-preserved-then-is_before_at c =
    let picked = option_copied c.args.picked in
    let xs : List Row = rows_at c.args.rows.now picked c.args.span.from c.args.span.many in
    let less = c.loop-low-test.true in
    let within = c.loop-low.invariant.within in
    let middle = c.loop-low.low + (c.loop-low.high - c.loop-low.low) / 2 in
    let stand = rows-stand c.args.rows.now picked c.args.span.from c.args.span.many c.requires.span.there in
    let above = below-count c.args.bound xs c.args.rows.now picked c.args.span.from c.args.span.many middle stand c.requires.span.there c.requires.parted
    (omega (arith, less, within)) (sym c.is_before_at.ensures ∙ c.if-is_before_at.true) in
    record { order = omega (arith, less); within = within; low = omega (arith, above); high = c.loop-low.invariant.high }

pub loop-low-preserved : goal.loop-low-preserved
loop-low-preserved c =
    let picked = option_copied c.args.picked in
    let xs : List Row = rows_at c.args.rows.now picked c.args.span.from c.args.span.many in
    let less = c.loop-low-test.true in
    let within = c.loop-low.invariant.within in
    let middle = c.loop-low.low + (c.loop-low.high - c.loop-low.low) / 2 in
    let stand = rows-stand c.args.rows.now picked c.args.span.from c.args.span.many c.requires.span.there in
    record {
      order = omega arith;
      within = omega (arith, less, within);
      low = c.loop-low.invariant.low;
      high = above-count c.args.bound xs c.args.rows.now picked c.args.span.from c.args.span.many middle stand c.requires.span.there c.requires.parted
          (omega (arith, less, within)) (sym c.is_before_at.ensures ∙ c.if-is_before_at.false);
    }

use Rattle.std.proofs.Common.{rules}
use Rattle.stream_frames.proofs.WideBytes.{four_spell}
use Rattle.stream_frames.proofs.wide.are_four.Goals as goal

pub returns-then-d-ge128 : goal.returns-then-d-ge128
returns-then-d-ge128 c h = four_spell c.args.a c.args.b c.args.c c.args.d (record {
  first_low = search rules;
  first_high = search rules;
  second_low = search rules;
  second_high = search rules;
  third_low = search rules;
  third_high = search rules;
  fourth_low = search rules;
  fourth_high = search rules;
  long = search rules;
  scalar = search rules;
})

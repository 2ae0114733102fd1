use Rattle.std.proofs.Common.{rules}
use Rattle.stream_frames.proofs.WideBytes.{three_spell}
use Rattle.stream_frames.proofs.wide.are_three.Goals as goal

pub returns-after-a-eq239 : goal.returns-after-a-eq239
returns-after-a-eq239 c h = three_spell c.args.a c.args.b c.args.c (record {
  first_low = search rules;
  first_high = search rules;
  second_low = search rules;
  second_high = search rules;
  third_low = search rules;
  third_high = search rules;
  long = search rules;
  scalar = search rules;
  allowed = search rules;
})

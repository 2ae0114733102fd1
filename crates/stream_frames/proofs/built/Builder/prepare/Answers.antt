use Rattle.std.proofs.Common.{◌≤◌, ◌+◌, ◌*◌, ℕ, length, arith}
use Rattle.stream_frames.proofs.TextLemmas.{few_words}
use Rattle.stream_frames.proofs.built.Builder.prepare.Goals as goal

room : (len cap count : ℕ) → count ≤ 4 → len + 16 ≤ cap → len + 4 * count ≤ cap
room len cap count s r = omega (arith, s, r)

pub returns-in_ok-reserve-in_default-clause-ready : goal.returns-in_ok-reserve-in_default-clause-ready
returns-in_ok-reserve-in_default-clause-ready c = (
  room _ _ (length c.args.told.now) c.requires.short c.in_ok-reserve-in_default.ensures.ok,
  few_words c.args.told.now c.in_default.len_at_least c.requires.few,
)

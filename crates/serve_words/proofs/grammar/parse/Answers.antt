use Rattle.std.proofs.Common.{ap, map, string_bytes, ◌∙◌}
use Rattle.clap.specs.Words.{App, takes}
use Rattle.serve_words.proofs.grammar.parse.Goals as goal

pub returns : goal.returns
returns c = record {
  matches = tt;
  taken = λ t. absurd (c.in_default.not-OutOfMemory (c.kind.ensures
      ∙ c.in-Err.ensures.passes (ap (λ (a : App). takes a (map string_bytes c.args.words.now)) c.in_ok-grammar.ensures ∙ t)));
}

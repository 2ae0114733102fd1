use Rattle.std.proofs.Common.{map, ap, subst, ◌∙◌}
use Rattle.clap.specs.Words.{App, fault_of, is_simple_and_free}
use Rattle.commands.specs.Grammars.{Parses}
use Rattle.commands.proofs.GrammarLemmas.{replay_free}
use Rattle.commands.proofs.words.parse_replay.Goals as goal

pub returns : goal.returns
returns c =
    let is = c.bare.ensures in
    subst (λ (a : App). Parses (fault_of a (map (λ word. word.now) c.args.words.now)) c.parse.result) is
    (c.parse.ensures.fault (ap is_simple_and_free is ∙ replay_free))

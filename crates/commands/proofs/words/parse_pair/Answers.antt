use Rattle.std.proofs.Common.{map, ap, subst, ◌∙◌}
use Rattle.std.proofs.lemmas.Result.{IfOk-weaker}
use Rattle.clap.specs.Words.{App, fault_of, is_simple, is_simple_and_free, matches_of}
use Rattle.commands.specs.Grammars.{Parses}
use Rattle.commands.proofs.GrammarLemmas.{pair_free, pair_simple}
use Rattle.commands.proofs.words.parse_pair.Goals as goal

pub returns-clause-matches : goal.returns-clause-matches
returns-clause-matches c =
    let is = c.in_ok-pair_grammar.ensures in
    IfOk-weaker c.parse.result _ _ (λ m has. (has (ap is_simple is ∙ pair_simple)).0
    ∙ ap (λ (a : App). matches_of a (map (λ word. word.now) c.args.words.now)) is) c.parse.ensures.matches

pub returns-clause-fault : goal.returns-clause-fault
returns-clause-fault c =
    let is = c.in_ok-pair_grammar.ensures in
    subst (λ (a : App). Parses (fault_of a (map (λ word. word.now) c.args.words.now)) c.parse.result) is
    (c.parse.ensures.fault (ap is_simple_and_free is ∙ pair_free))

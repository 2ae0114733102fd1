use Rattle.std.proofs.Common.{◌≡◌, ◌++◌, map, drop}
use Rattle.std.specs.List.{list_all}
use Rattle.serve_words.specs.Options.{is_value}
use Rattle.commands.proofs.words.read_positionals.Given as goal

abbrev pub invariant-loop-word : goal.invariant-loop-word
invariant-loop-word l = record {
  texts : map (λ text. text.now) l.texts.items ++ drop l.word-index l.words ≡ l.words;
  positional : list_all is_value l.words ≡ list_all is_value (drop l.word-index l.words);
}

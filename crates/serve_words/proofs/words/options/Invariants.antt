use Rattle.std.proofs.Common.{◌≡◌, map, drop, None}
use Rattle.serve_words.specs.Options.{options, set_of}
use Rattle.serve_words.proofs.OptionLemmas.{after_some}
use Rattle.serve_words.proofs.words.options.Given as goal

abbrev pub invariant-loop-word : goal.invariant-loop-word
invariant-loop-word l = options None l.words ≡ after_some (map set_of l.given.items) (options l.waits (drop l.word-index l.words))

use Rattle.std.proofs.Common.{◌≡◌, ◌++◌, map, drop}
use Rattle.serve_words.specs.Options.{set_of, values_of}
use Rattle.serve_words.proofs.OptionLemmas.{found_in}
use Rattle.serve_words.proofs.words.sole.Given as goal

abbrev pub invariant-loop-one : goal.invariant-loop-one
invariant-loop-one l = values_of l.fn.name (map set_of l.given) ≡ found_in l.found ++ values_of l.fn.name (map set_of (drop l.one-index l.given))

use Rattle.replay_script.proofs.NumberLemmas.{dice-read}
use Rattle.replay_script.proofs.numbers.read_dice.Goals as goal

pub returns : goal.returns
returns c = dice-read c.args.field.now c.read_digits.result c.read_digits.ensures.spelt c.read_digits.ensures.found

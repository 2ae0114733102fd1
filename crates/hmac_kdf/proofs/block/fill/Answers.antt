-- What is left of a block of zeros behind the key is the zeros that the key is filled up with.
use Rattle.std.proofs.Common.{ℕ, arith, length}
use Rattle.std.proofs.lemmas.Grind.{common_steps}
use Rattle.std.proofs.lemmas.List.{drop-replicate}
use Rattle.hmac_kdf.proofs.block.fill.Goals as goal

pub returns : goal.returns
returns c = grind (arith, common_steps, drop-replicate {X = ℕ} (length c.args.key.now) 64 0)

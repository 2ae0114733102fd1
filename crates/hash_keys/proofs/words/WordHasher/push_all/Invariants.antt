use Rattle.std.proofs.Common.{◌≡◌, drop}
use Rattle.std.specs.List.{fold}
use Rattle.hash_keys.specs.Words.{pushed}
use Rattle.hash_keys.proofs.words.WordHasher.push_all.Given as goal

abbrev pub invariant-loop-byte : goal.invariant-loop-byte
invariant-loop-byte l = fold pushed l.self (drop l.byte-index l.bytes) ≡ fold pushed l.fn.self l.bytes

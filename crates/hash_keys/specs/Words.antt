-- Words that are gathered from bytes.
use Rattle.std.specs.Prelude.{ℕ, ◌+◌, ◌*◌, ◌%◌, ◌^◌, ◌==◌, ◌&&◌, cond, nat_lt, List, length, bit_or}
use Rattle.std.specs.Hash.{le_bytes}
use Rattle.std.specs.Hash.DefaultHasher as sip
use Rattle.std.specs.List.{fold}
use Rattle.hash_keys.specs.declared.words.WordHasher.{WordHasher}

-- one byte more: the eighth makes a word
unfoldable pub pushed : WordHasher → ℕ → WordHasher
pushed h byte =
    let rest = bit_or ((h.rest * 2 ^ 8) % 2 ^ 64) byte in
    cond (nat_lt h.count 7) (record { words = h.words; rest = rest; count = h.count + 1 })
    (record { words = sip.write h.words (le_bytes 8 rest); rest = 0; count = 0 })

-- eight bytes at once, where no byte waits, are a word
unfoldable pub written : WordHasher → List ℕ → WordHasher
written h bytes =
    cond (h.count == 0 && length bytes == 8) (record { words = sip.write h.words bytes; rest = h.rest; count = h.count }) (fold pushed h bytes)

-- the last word: how many bytes wait, and these
unfoldable pub finished : WordHasher → ℕ
finished h = sip.finish (sip.write h.words (le_bytes 8 (bit_or ((h.count * 2 ^ 56) % 2 ^ 64) h.rest)))

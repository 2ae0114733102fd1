-- HMAC (RFC 2104) over a hash function that works on blocks of 64 bytes, as SHA-1 and SHA-256 do.
-- A key, a text and a digest are lists of bytes.
use Rattle.std.specs.Prelude.{ℕ, List, ◌++◌, ◌-◌, map, length, replicate, bit_xor, nat_lt, if◌then◌else◌}

-- RFC 2104, 2, step (1): zeros are appended to the end of the key to make one block.
abbrev pub zero_filled : List ℕ → List ℕ
zero_filled key = key ++ replicate (64 - length key) 0

-- RFC 2104, 2: a key longer than a block is first hashed, and the digest is used as the key.
unfoldable pub block_of : (List ℕ → List ℕ) → List ℕ → List ℕ
block_of hash key = if nat_lt 64 (length key) then zero_filled (hash key) else zero_filled key

-- RFC 2104, 2: the XOR of a block with ipad or opad, which repeat one byte through the block.
abbrev pub masked : ℕ → List ℕ → List ℕ
masked pad block = map (λ byte. bit_xor byte pad) block

-- RFC 2104, 2: H(K XOR opad, H(K XOR ipad, text)), where ipad repeats 0x36 and opad 0x5C.
unfoldable pub hmac : (List ℕ → List ℕ) → List ℕ → List ℕ → List ℕ
hmac hash key text =
    hash (masked 0x5C (block_of hash key) ++ hash (masked 0x36 (block_of hash key) ++ text))

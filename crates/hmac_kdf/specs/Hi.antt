-- Hi (RFC 5802, 2.2), which is PBKDF2 (RFC 8018, 5.2) for one block of output. `mac` is the HMAC,
-- from a key and a text; strings are lists of bytes.
use Rattle.std.specs.Prelude.{ℕ, zero, suc, List, [], ◌∷◌, ◌++◌, bit_xor}

-- The exclusive-or of two strings, octet by octet.
abbrev pub exclusive_or : List ℕ → List ℕ → List ℕ
exclusive_or [] bs = []
exclusive_or (a ∷ as') [] = []
exclusive_or (a ∷ as') (b ∷ bs) = bit_xor a b ∷ exclusive_or as' bs

-- U1 := HMAC(str, salt + INT(1)), and Ui := HMAC(str, Ui-1). INT(1) is the number one in four
-- octets, most significant first. The text that U1 is made of stands as U0.
unfoldable pub u_of : (List ℕ → List ℕ → List ℕ) → List ℕ → List ℕ → ℕ → List ℕ
u_of mac str salt zero = salt ++ 0 ∷ 0 ∷ 0 ∷ 1 ∷ []
u_of mac str salt (suc i) = mac str (u_of mac str salt i)

-- Hi(str, salt, i) := U1 XOR U2 XOR ... XOR Ui. There is always at least one iteration.
unfoldable pub hi : (List ℕ → List ℕ → List ℕ) → List ℕ → List ℕ → ℕ → List ℕ
hi mac str salt zero = []
hi mac str salt (suc zero) = u_of mac str salt 1
hi mac str salt (suc (suc i)) =
    exclusive_or (hi mac str salt (suc i)) (u_of mac str salt (suc (suc i)))

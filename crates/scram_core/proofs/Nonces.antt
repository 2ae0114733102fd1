-- The nonce of a challenge.
use Rattle.std.proofs.Common.{◌≡◌, ℕ, ◌+◌, ◌<◌, ◌≤◌, arith, replicate, length-append, List, [], ◌∷◌, ◌++◌, length, drop}
use Rattle.std.proofs.Common.{refl, ap, ◌∙◌, append_assoc, true, false, IsTrue, ◌&&◌, nat_lt, nat_le}
use Rattle.std.proofs.lemmas.Bool.{lt-ltb, le-leb}
use Rattle.std.proofs.lemmas.List.{length-replicate}
use Rattle.std.specs.List.{list_all}
use Rattle.base64.specs.Rfc4648.{encode_symbols, unpadded_len, padding_len}
use Rattle.base64.specs.Engines.{standard}
use Rattle.base64.specs.GeneralPurpose.{engine_symbols, IsBytes}
use Rattle.base64.proofs.RoundTrip.{length-encode_symbols}
use Rattle.std.specs.Fmt.{decimal}
use Rattle.scram_core.specs.Expressions.{has, AreOf}
use Rattle.scram_core.specs.Grammar.{printable, base64}
use Rattle.scram_core.specs.Attributes.{before_comma, after_comma, has_comma, bare_of, nonce_of_first, nonce_of_server}
use Rattle.scram_core.specs.Login.{base64_of, is_server_nonce, server_first}
use Rattle.scram_core.proofs.Lists.{each, both}
use Rattle.scram_core.proofs.Encodings.{encoding-text}
use Rattle.scram_core.proofs.Classes.{passes-text}
use Rattle.scram_core.proofs.Commas.{no_comma-append, no_comma-before, no_comma-drop, of_class, before-first}

all-of : (bs : List ℕ) → list_all (has printable) bs ≡ true → AreOf printable bs
all-of [] h = tt
all-of (b ∷ bs) h = let two = each (has printable b) (list_all (has printable) bs) h in (two.0, all-of bs two.1)

own-commas : (own : List ℕ) → IsTrue (is_server_nonce own) → has_comma own ≡ false
own-commas own h =
    let two = each (nat_lt 0 (length own)) (nat_le (length own) 256 && list_all (has printable) own) h in
    let three = each (nat_le (length own) 256) (list_all (has printable) own) two.1 in
    of_class printable own refl (all-of own three.1)

grouped : (n s r : List ℕ) → ((((114 ∷ 61 ∷ [] ++ n) ++ 44 ∷ 115 ∷ 61 ∷ []) ++ s) ++ 44 ∷ 105 ∷ 61 ∷ []) ++ r
    ≡ 114 ∷ 61 ∷ (n ++ 44 ∷ 115 ∷ 61 ∷ (s ++ 44 ∷ 105 ∷ 61 ∷ r))
grouped n s r = simp append_assoc

nonce-told : (n salt : List ℕ) (rounds : ℕ) → has_comma n ≡ false → nonce_of_server (server_first n salt rounds) ≡ n
nonce-told n salt rounds h =
    ap (λ (l : List ℕ). drop 2 (before_comma l)) (grouped n (base64_of salt) (decimal rounds))
    ∙ ap (λ (l : List ℕ). drop 2 l) (before-first (114 ∷ 61 ∷ n) (115 ∷ 61 ∷ (base64_of salt ++ 44 ∷ 105 ∷ 61 ∷ decimal rounds)) h)

pub both-sides : (first own salt : List ℕ) (rounds : ℕ) → IsTrue (is_server_nonce own)
    → nonce_of_server (server_first (nonce_of_first first ++ own) salt rounds) ≡ nonce_of_first first ++ own
both-sides first own salt rounds h =
    nonce-told (nonce_of_first first ++ own) salt rounds
    (no_comma-append (nonce_of_first first) own (no_comma-drop (before_comma (after_comma (bare_of first))) (no_comma-before (after_comma (bare_of first))))
    (own-commas own h))

-- The base64 of bytes is such a nonce.

length-encoding : (bs : List ℕ) → length (base64_of bs) ≡ unpadded_len (length bs) + padding_len (length bs)
length-encoding bs =
    length-append (encode_symbols (engine_symbols standard) bs) (replicate (padding_len (length bs)) 61)
    ∙ (λ i. length-encode_symbols (engine_symbols standard) bs i + length-replicate {A = ℕ} (padding_len (length bs)) 61 i)

pub encoding-nonce : (bs : List ℕ) → IsBytes bs → 0 < length bs → length bs ≤ 192 → IsTrue (is_server_nonce (base64_of bs))
encoding-nonce bs h some most =
    let long = length-encoding bs in
    let more : 0 < length (base64_of bs) = omega (arith, long) in
    let fewer : length (base64_of bs) ≤ 256 = omega (arith, long) in
    both (nat_lt 0 (length (base64_of bs))) (nat_le (length (base64_of bs)) 256 && list_all (has printable) (base64_of bs))
    (lt-ltb 0 (length (base64_of bs)) more)
    (both (nat_le (length (base64_of bs)) 256) (list_all (has printable) (base64_of bs)) (le-leb (length (base64_of bs)) 256 fewer)
    (passes-text (has printable) base64 (base64_of bs) refl (encoding-text bs h)))

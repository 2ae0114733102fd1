-- Bytes that were copied to the front of a block are UTF-8 there.
use Rattle.std.proofs.Common.{◌≡◌, List, ℕ, ◌++◌, take, length, true, subst, sym, ap, ◌∙◌}
use Rattle.std.specs.Prelude.{IsUtf8}
use Rattle.std.specs.Str.{is_utf8}
use Rattle.std.proofs.Math.Seq.{take-append_seam}
use Rattle.std.proofs.lemmas.Str.{is_utf8-from_IsUtf8}

pub utf8_in_front : (xs ys rest : List ℕ) → ys ≡ xs → IsUtf8 xs → is_utf8 (take (length xs) (ys ++ rest)) ≡ true
utf8_in_front xs ys rest same utf8 = subst (λ (b : List ℕ). is_utf8 b ≡ true)
    (sym (ap (λ (z : List ℕ). take (length xs) (z ++ rest)) same ∙ take-append_seam xs rest)) (is_utf8-from_IsUtf8 xs utf8)

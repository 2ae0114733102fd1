-- One more draw.
use Rattle.std.proofs.Common.{◌≡◌, ℕ, ◌+◌, ◌-◌, ◌≤◌, min, replicate, List, [], ◌∷◌, ◌++◌, length, take, drop, refl, ap, sym, ◌∙◌, arith}
use Rattle.std.proofs.lemmas.List.{take-append-le, drop-append-le, length-drop, length-take-le, drop-replicate, drop-drop, take_all}
use Rattle.std.proofs.Math.Seq.{take-length, take-add}
use Rattle.std.proofs.Math.ListN.{drop_of_length-le}
use mathlib.Core.Logic.{dite}
use native.Mathlib.Decide.{dec_le}
use Rattle.std.specs.Prelude.{Bool, true, false, Some}
use Rattle.outside.specs.Tapes.{and_last, told_where}
use Rattle.outside.specs.Draws.{filled_up, pieces, total}

pub total_and_last : (ns : List ℕ) (n : ℕ) → total (ns ++ n ∷ []) ≡ total ns + n
total_and_last [] n = omega arith
total_and_last (m ∷ ms) n = let e = total_and_last ms n in omega (arith, e)

pub pieces_and_last : (ns bytes : List ℕ) (n : ℕ) (more : List ℕ) → total ns ≡ length bytes → n ≡ length more
    → pieces (ns ++ n ∷ []) (bytes ++ more) ≡ pieces ns bytes ++ more ∷ []
pieces_and_last [] [] n more all one = ap (λ xs. xs ∷ []) (ap (λ n. take n more) one ∙ take-length more)
pieces_and_last [] (b ∷ bs) n more all one = absurd (omega (arith, all))
pieces_and_last (m ∷ ms) bytes n more all one =
    let within : m ≤ length bytes = omega (arith, all) in
    let rest : total ms ≡ length (drop m bytes) = omega (arith, all, length-drop m bytes) in
    ap (λ xs. xs ∷ pieces (ms ++ n ∷ []) (drop m (bytes ++ more))) (take-append-le m bytes more within)
    ∙ ap (λ xs. take m bytes ∷ pieces (ms ++ n ∷ []) xs) (drop-append-le m bytes more within)
    ∙ ap (λ ps. take m bytes ∷ ps) (pieces_and_last ms (drop m bytes) n more rest one)

pub one_more : (ns bytes : List ℕ) (at n : ℕ) → at ≤ length bytes → total ns ≡ at → n ≤ length bytes - at
    → pieces (ns ++ n ∷ []) (take (at + n) bytes) ≡ pieces ns (take at bytes) ++ take n (drop at bytes) ∷ []
one_more ns bytes at n within all part =
    ap (λ xs. pieces (ns ++ n ∷ []) xs) (take-add at n bytes)
    ∙ pieces_and_last ns (take at bytes) n (take n (drop at bytes)) (all ∙ sym (length-take-le at bytes within))
    (sym (length-take-le n (drop at bytes) (omega (arith, part, length-drop at bytes))))

elim_order : {A : Type 0} (m n : ℕ) → (m ≤ n → A) → (n ≤ m → A) → A
elim_order m n below above = dite (dec_le m n) below (λ no. above (omega arith))

pub drawn_more : (tells : Bool) (ns bytes : List ℕ) (at n : ℕ) → at ≤ length bytes → total ns ≡ at → n ≤ length bytes - at
    → told_where (List ℕ) tells (pieces (ns ++ n ∷ []) (take (at + n) bytes))
    ≡ and_last (List ℕ) (told_where (List ℕ) tells (pieces ns (take at bytes))) (take n (drop at bytes))
drawn_more true ns bytes at n within all part = ap Some (one_more ns bytes at n within all part)
drawn_more false ns bytes at n within all part = refl

pub then_zeros : (left : List ℕ) (n count : ℕ) → count ≡ min (length left) n
    → take count left ++ drop count (replicate n 0) ≡ filled_up left n
then_zeros left n count is =
    ap (λ xs. take count left ++ xs) (drop-replicate count n 0)
    ∙ elim_order (length left) n
    (λ all. let e : count ≡ length left = omega (arith, is, all) in
    rw e (ap (λ xs. xs ++ replicate (n - length left) 0) (take-length left ∙ sym (take_all n left all))))
    (λ part. let e : count ≡ n = omega (arith, is, part) in
    rw e (ap (λ k. take n left ++ replicate k 0) (omega (arith, part))))

pub then_left : (bytes : List ℕ) (at n count : ℕ) → count ≡ min (length bytes - at) n → drop (at + count) bytes ≡ drop n (drop at bytes)
then_left bytes at n count is =
    elim_order (length bytes - at) n
    (λ all. drop_of_length-le bytes (omega (arith, is, all))
    ∙ sym (drop_of_length-le (drop at bytes) (omega (arith, all, length-drop at bytes))))
    (λ part. let e : count ≡ n = omega (arith, is, part) in rw e (sym (drop-drop n at bytes)))

-- One more mark of a tape.
use Rattle.std.proofs.Common.{◌≡◌, ℕ, ◌+◌, ◌≤◌, List, [], ◌∷◌, ◌++◌, length, take, drop, map, refl, ap, sym, ◌∙◌, arith}
use Rattle.std.proofs.lemmas.List.{take-append-le, drop-append-le, length-drop, length-take-le, take-append-drop}
use Rattle.std.proofs.Math.Seq.{take-length}
use Rattle.outside.specs.declared.tape.Kind.{Kind}
use Rattle.outside.specs.declared.tape.Kind.TheVariants as kind
use Rattle.outside.specs.Tapes.{all_bytes, bytes_of, kind_of, marks, mark_of, size, sizes}

pub sizes_and_last : (ks : List Kind) (k : Kind) → sizes (ks ++ k ∷ []) ≡ sizes ks + size k
sizes_and_last [] k = omega arith
sizes_and_last (j ∷ js) k = let e = sizes_and_last js k in omega (arith, e)

pub marks_and_last : (ks : List Kind) (bytes : List ℕ) (k : Kind) (more : List ℕ) → sizes ks ≡ length bytes → size k ≡ length more
    → marks (ks ++ k ∷ []) (bytes ++ more) ≡ marks ks bytes ++ mark_of k more ∷ []
marks_and_last [] [] k more all one = ap (λ xs. mark_of k xs ∷ []) (ap (λ n. take n more) one ∙ take-length more)
marks_and_last [] (b ∷ bs) k more all one = absurd (omega (arith, all))
marks_and_last (j ∷ js) bytes k more all one =
    let within : size j ≤ length bytes = omega (arith, all) in
    let rest : sizes js ≡ length (drop (size j) bytes) = omega (arith, all, length-drop (size j) bytes) in
    ap (λ xs. mark_of j xs ∷ marks (js ++ k ∷ []) (drop (size j) (bytes ++ more))) (take-append-le (size j) bytes more within)
    ∙ ap (λ xs. mark_of j (take (size j) bytes) ∷ marks (js ++ k ∷ []) xs) (drop-append-le (size j) bytes more within)
    ∙ ap (λ ms. mark_of j (take (size j) bytes) ∷ ms) (marks_and_last js (drop (size j) bytes) k more rest one)

kind_of_mark : (k : Kind) (bytes : List ℕ) → length bytes ≡ size k → kind_of (mark_of k bytes) ≡ k
kind_of_mark (kind.Heard n) bytes is = ap kind.Heard is
kind_of_mark kind.Quiet bytes is = refl
kind_of_mark kind.End bytes is = refl
kind_of_mark kind.Failed bytes is = refl
kind_of_mark (kind.Said n) bytes is = ap kind.Said is

none : (bytes : List ℕ) → length bytes ≡ 0 → [] ≡ bytes
none [] is = refl
none (b ∷ bs) is = absurd (omega (arith, is))

bytes_of_mark : (k : Kind) (bytes : List ℕ) → length bytes ≡ size k → bytes_of (mark_of k bytes) ≡ bytes
bytes_of_mark (kind.Heard n) bytes is = refl
bytes_of_mark kind.Quiet bytes is = none bytes is
bytes_of_mark kind.End bytes is = none bytes is
bytes_of_mark kind.Failed bytes is = none bytes is
bytes_of_mark (kind.Said n) bytes is = refl

pub kinds_of_marks : (ks : List Kind) (bytes : List ℕ) → sizes ks ≡ length bytes → map kind_of (marks ks bytes) ≡ ks
kinds_of_marks [] bytes all = refl
kinds_of_marks (k ∷ ks) bytes all =
    let one : length (take (size k) bytes) ≡ size k = length-take-le (size k) bytes (omega (arith, all)) in
    let rest : sizes ks ≡ length (drop (size k) bytes) = omega (arith, all, length-drop (size k) bytes) in
    ap (λ j. j ∷ map kind_of (marks ks (drop (size k) bytes))) (kind_of_mark k (take (size k) bytes) one)
    ∙ ap (λ js. k ∷ js) (kinds_of_marks ks (drop (size k) bytes) rest)

pub bytes_of_marks : (ks : List Kind) (bytes : List ℕ) → sizes ks ≡ length bytes → all_bytes (marks ks bytes) ≡ bytes
bytes_of_marks [] bytes all = none bytes (sym all)
bytes_of_marks (k ∷ ks) bytes all =
    let one : length (take (size k) bytes) ≡ size k = length-take-le (size k) bytes (omega (arith, all)) in
    let rest : sizes ks ≡ length (drop (size k) bytes) = omega (arith, all, length-drop (size k) bytes) in
    ap (λ xs. xs ++ all_bytes (marks ks (drop (size k) bytes))) (bytes_of_mark k (take (size k) bytes) one)
    ∙ ap (λ xs. take (size k) bytes ++ xs) (bytes_of_marks ks (drop (size k) bytes) rest)
    ∙ take-append-drop (size k) bytes

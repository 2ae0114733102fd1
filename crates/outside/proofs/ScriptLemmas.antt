-- A reading of which a part was taken.
use Rattle.std.proofs.Common.{◌≡◌, ℕ, ◌+◌, ◌-◌, ◌<◌, List, [], ◌∷◌, length, take, drop, refl, ap, sym, subst, ◌∙◌, arith}
use Rattle.std.proofs.lemmas.List.{drop-drop, length-drop, length-take-le, take_all}
use Rattle.std.specs.Prelude.{slice_index_or}
use Rattle.outside.specs.declared.link.Heard.TheVariants as heard
use Rattle.outside.specs.Scripts.{rest_from}
use Rattle.outside.specs.Links.{before, Gives}

pub before_some : (xs : List ℕ) (readings : List (List ℕ)) → 0 < length xs → before xs readings ≡ xs ∷ readings
before_some [] readings some = absurd (omega (arith, some))
before_some (x ∷ xs) readings some = refl

gives_rest : (rest : List ℕ) (later : List (List ℕ)) (count : ℕ) (buffer : List ℕ) → count < length rest → buffer ≡ take count rest
    → Gives (rest ∷ later) (drop count rest ∷ later) (heard.Bytes count) buffer
gives_rest [] later count buffer part is = absurd (omega (arith, part))
gives_rest (b ∷ bs) later count buffer part is =
    let len : length buffer ≡ count = ap length is ∙ length-take-le count (b ∷ bs) (omega (arith, part)) in
    let more : 0 < length (drop count (b ∷ bs)) = omega (arith, part, length-drop count (b ∷ bs)) in (
      ap heard.Bytes (omega (arith, part, len)),
      take_all (length (b ∷ bs)) buffer (omega (arith, part, len)) ∙ is ∙ ap (λ n. take n (b ∷ bs)) (sym len),
      sym (ap (λ n. before (drop n (b ∷ bs)) later) len ∙ before_some (drop count (b ∷ bs)) later more),
    )

pub gives_part : (readings : List (List ℕ)) (reading : List ℕ) (from count : ℕ) (buffer : List ℕ) → 0 < length readings
    → reading ≡ slice_index_or readings 0 reading → count < length reading - from → buffer ≡ take count (drop from reading)
    → Gives (rest_from from readings) (rest_from (from + count) readings) (heard.Bytes count) buffer
gives_part [] reading from count buffer some is part front = absurd (omega (arith, some))
gives_part (first ∷ later) reading from count buffer some is part front =
    let within : count < length (drop from first) = omega (arith, part, length-drop from first, ap length is) in
    subst (λ x. Gives (drop from first ∷ later) (x ∷ later) (heard.Bytes count) buffer) (drop-drop count from first)
    (gives_rest (drop from first) later count buffer within (front ∙ ap (λ r. take count (drop from r)) is))

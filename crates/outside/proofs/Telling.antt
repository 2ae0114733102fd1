-- What is told chains.
use Rattle.std.proofs.Common.{List, [], ◌++◌, sym, ap, ◌∙◌, append_assoc}
use Rattle.std.specs.Prelude.{Option, Some, None}
use Rattle.std.proofs.lemmas.List.{append-nil}
use Rattle.outside.specs.Tapes.{Tells}

pub tells_nothing : (A : Type 0) (told : Option (List A)) → Tells A told told []
tells_nothing A None = tt
tells_nothing A (Some xs) = sym (append-nil xs)

pub tells_both : (A : Type 0) (old middle now : Option (List A)) (xs ys : List A) → Tells A old middle xs → Tells A middle now ys → Tells A old now (xs ++ ys)
tells_both A old middle None xs ys p q = tt
tells_both A old None (Some now) xs ys p q = absurd q
tells_both A None (Some middle) (Some now) xs ys p q = absurd p
tells_both A (Some old) (Some middle) (Some now) xs ys p q =
    let joined = append_assoc old xs ys in
    q ∙ ap (λ zs. zs ++ ys) p ∙ joined

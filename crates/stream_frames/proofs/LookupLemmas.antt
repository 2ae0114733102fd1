-- The last binding of a prefix may be looked for from the end.
use Rattle.std.proofs.Common.{◌≡◌, ◌∙◌, ℕ, ◌+◌, ◌-◌, ◌<◌, ◌≤◌, List, [], ◌∷◌, ◌++◌, length, take, get_or, Bool, true}
use Rattle.std.proofs.Common.{false, refl, ap, sym, arith, if◌then◌else◌, Option, None, Some, bytes_eq}
use Rattle.std.proofs.lemmas.List.{take_more}
use Rattle.stream_grammar.specs.declared.namespaces.Binding.{Binding}
use Rattle.stream_grammar.specs.grammar.Namespaces.{last_space, last_layer}
use Rattle.stream_frames.proofs.TextLemmas.{layer_more}

-- what was found, or else what was given
abbrev pub found_or : Option (List ℕ) → Option (List ℕ) → Option (List ℕ)
found_or None given = given
found_or (Some space) given = Some space

pub last_more : (given : Option (List ℕ)) (bs : List Binding) (b : Binding) (prefix : List ℕ)
    → last_space given (bs ++ b ∷ []) prefix ≡ (if bytes_eq b.prefix prefix then Some b.space else last_space given bs prefix)
last_more given [] b prefix = refl
last_more given (c ∷ bs) b prefix = last_more (if bytes_eq c.prefix prefix then Some c.space else given) bs b prefix

found_once : (x : Option (List ℕ)) (e : Bool) (space : List ℕ) (given : Option (List ℕ))
    → found_or x (if e then Some space else given) ≡ found_or (found_or x (if e then Some space else None)) given
found_once None true space given = refl
found_once None false space given = refl
found_once (Some s) e space given = refl

pub last_known : (given : Option (List ℕ)) (bs : List Binding) (prefix : List ℕ) → last_space given bs prefix ≡ found_or (last_space None bs prefix) given
last_known given [] prefix = refl
last_known given (b ∷ bs) prefix =
    last_known (if bytes_eq b.prefix prefix then Some b.space else given) bs prefix
    ∙ found_once (last_space None bs prefix) (bytes_eq b.prefix prefix) b.space given
    ∙ ap (λ x. found_or x given) (sym (last_known (if bytes_eq b.prefix prefix then Some b.space else None) bs prefix))

-- At the last of the first i.

take_last : {X : Type 0} (xs : List X) (i : ℕ) (x : X) → 0 < i → i ≤ length xs → x ≡ get_or xs (i - 1) x → take i xs ≡ take (i - 1) xs ++ x ∷ []
take_last xs i x pos fits is =
    let same : i ≡ i - 1 + 1 = omega (arith, pos) in
    let below : i - 1 < length xs = omega (arith, pos, fits) in
    ap (λ n. take n xs) same ∙ take_more xs (i - 1) x below ∙ ap (λ y. take (i - 1) xs ++ y ∷ []) (sym is)

last_at : (given : Option (List ℕ)) (bs : List Binding) (i : ℕ) (b : Binding) (prefix : List ℕ) → 0 < i → i ≤ length bs → b ≡ get_or bs (i - 1) b
    → last_space given (take i bs) prefix ≡ (if bytes_eq b.prefix prefix then Some b.space else last_space given (take (i - 1) bs) prefix)
last_at given bs i b prefix pos fits is = ap (λ l. last_space given l prefix) (take_last bs i b pos fits is) ∙ last_more given (take (i - 1) bs) b prefix

pub last_here : (given : Option (List ℕ)) (bs : List Binding) (i : ℕ) (b : Binding) (prefix : List ℕ)
    → last_space given (take i bs) prefix ≡ last_space given bs prefix → 0 < i → i ≤ length bs → b ≡ get_or bs (i - 1) b
    → bytes_eq b.prefix prefix ≡ true → Some b.space ≡ last_space given bs prefix
last_here given bs i b prefix so_far pos fits is e =
    sym (last_at given bs i b prefix pos fits is ∙ ap (λ t. if t then Some b.space else last_space given (take (i - 1) bs) prefix) e) ∙ so_far

pub last_before : (given : Option (List ℕ)) (bs : List Binding) (i : ℕ) (b : Binding) (prefix : List ℕ)
    → last_space given (take i bs) prefix ≡ last_space given bs prefix → 0 < i → i ≤ length bs → b ≡ get_or bs (i - 1) b
    → bytes_eq b.prefix prefix ≡ false → last_space given (take (i - 1) bs) prefix ≡ last_space given bs prefix
last_before given bs i b prefix so_far pos fits is e =
    sym (last_at given bs i b prefix pos fits is ∙ ap (λ t. if t then Some b.space else last_space given (take (i - 1) bs) prefix) e) ∙ so_far

layer_at : (given : Option (List ℕ)) (ls : List (List Binding)) (i : ℕ) (l : List Binding) (prefix : List ℕ) → 0 < i → i ≤ length ls → l ≡ get_or ls (i - 1) l
    → last_layer given (take i ls) prefix ≡ found_or (last_space None l prefix) (last_layer given (take (i - 1) ls) prefix)
layer_at given ls i l prefix pos fits is =
    ap (λ k. last_layer given k prefix) (take_last ls i l pos fits is)
    ∙ layer_more given (take (i - 1) ls) l prefix
    ∙ last_known (last_layer given (take (i - 1) ls) prefix) l prefix

pub layer_here : (given : Option (List ℕ)) (ls : List (List Binding)) (i : ℕ) (l : List Binding) (prefix space : List ℕ)
    → last_layer given (take i ls) prefix ≡ last_layer given ls prefix → 0 < i → i ≤ length ls → l ≡ get_or ls (i - 1) l
    → last_space None l prefix ≡ Some space → Some space ≡ last_layer given ls prefix
layer_here given ls i l prefix space so_far pos fits is e =
    sym (layer_at given ls i l prefix pos fits is ∙ ap (λ x. found_or x (last_layer given (take (i - 1) ls) prefix)) e) ∙ so_far

pub layer_before : (given : Option (List ℕ)) (ls : List (List Binding)) (i : ℕ) (l : List Binding) (prefix : List ℕ)
    → last_layer given (take i ls) prefix ≡ last_layer given ls prefix → 0 < i → i ≤ length ls → l ≡ get_or ls (i - 1) l
    → last_space None l prefix ≡ None → last_layer given (take (i - 1) ls) prefix ≡ last_layer given ls prefix
layer_before given ls i l prefix so_far pos fits is e =
    sym (layer_at given ls i l prefix pos fits is ∙ ap (λ x. found_or x (last_layer given (take (i - 1) ls) prefix)) e) ∙ so_far

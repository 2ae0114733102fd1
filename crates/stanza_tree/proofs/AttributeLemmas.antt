-- An attribute is set at the place where it is found, or added last.
use Rattle.std.proofs.Common.{◌≡◌, ℕ, ◌+◌, ◌<◌, ◌≤◌, List, [], ◌∷◌, ◌++◌, length, get_or, set, Bool, true, false, if◌then◌else◌, refl, ap, arith}
use Rattle.std.proofs.lemmas.Grind.{common_steps}
use Rattle.stanza_tree.specs.declared.node.Attr.{Attr}
use Rattle.stanza_tree.specs.Attributes.{is_named, attr_place, with_attr}

-- one more attribute in front, by whether it is the one
set-here : (b : Bool) (a changed d : Attr) (value : List ℕ) (more rest : List Attr) (p : ℕ)
    → (if b then 0 else 1 + p) < 1 + length more
    → (p < length more → rest ≡ set more p (record (get_or more p d) { value = value }))
    → (if b then record a { value = value } ∷ more else a ∷ rest)
    ≡ set (a ∷ more) (if b then 0 else 1 + p) (record (get_or (a ∷ more) (if b then 0 else 1 + p) d) { value = value })
set-here true a changed d value more rest p within there = refl
set-here false a changed d value more rest p within there = grind (arith, common_steps, there (omega arith))

pub with_attr-set : (local value : List ℕ) (attrs : List Attr) (d : Attr) → attr_place local attrs < length attrs
    → with_attr local value attrs ≡ set attrs (attr_place local attrs) (record (get_or attrs (attr_place local attrs) d) { value = value })
with_attr-set local value [] d within = absurd (omega arith)
with_attr-set local value (a ∷ more) d within =
    set-here (is_named local a) a a d value more (with_attr local value more) (attr_place local more) (omega arith) (with_attr-set local value more d)

place-here : (b : Bool) (p n : ℕ) → p ≤ n → (if b then 0 else 1 + p) ≤ 1 + n
place-here true p n h = omega arith
place-here false p n h = omega arith

pub attr_place-le : (local : List ℕ) (attrs : List Attr) → attr_place local attrs ≤ length attrs
attr_place-le local [] = omega arith
attr_place-le local (a ∷ more) = let h : (if is_named local a then 0 else 1 + attr_place local more) ≤ 1 + length more =
    place-here (is_named local a) (attr_place local more) (length more) (attr_place-le local more) in omega arith

push-here : (b : Bool) (a changed : Attr) (more rest last : List Attr) (p : ℕ)
    → (if b then 0 else 1 + p) ≡ 1 + length more → (p ≡ length more → rest ≡ more ++ last)
    → (if b then changed ∷ more else a ∷ rest) ≡ (a ∷ more) ++ last
push-here true a changed more rest last p none there = absurd (omega arith)
push-here false a changed more rest last p none there = ap (λ xs. a ∷ xs) (there (omega arith))

pub with_attr-push : (local value : List ℕ) (attrs : List Attr) → attr_place local attrs ≡ length attrs
    → with_attr local value attrs ≡ attrs ++ record { name = record { space = []; local = local }; value = value } ∷ []
with_attr-push local value [] none = refl
with_attr-push local value (a ∷ more) none =
    push-here (is_named local a) a (record a { value = value }) more (with_attr local value more) _ (attr_place local more) (omega arith)
    (with_attr-push local value more)

-- The local part of a text, and the bindings of one element more.
use Rattle.std.proofs.Common.{◌≡◌, ◌∙◌, ℕ, suc, ◌+◌, ◌<◌, List, [], ◌∷◌, ◌++◌, refl, sym, ap, subst, Bool, true, false, ◌≤◌, ◌==◌, length, drop, get_or, arith}
use Rattle.stream_lex.specs.declared.Token.{Token}
use Rattle.stream_grammar.specs.machine.Telling.{is_few, are_words}
use Rattle.std.proofs.lemmas.Bool.{ltb-true, eqb-true}
use Rattle.std.proofs.lemmas.Str.{IsUtf8-drop, IsCharBoundary-after_ascii}
use Rattle.std.specs.Prelude.{Option, IsUtf8, if◌then◌else◌}
use Rattle.stream_grammar.specs.declared.namespaces.Binding.{Binding}
use Rattle.stream_grammar.specs.grammar.Namespaces.{colon_at, has_prefix, local_of, last_space, last_layer}

-- a colon stands alone
after-colon : (name : List ℕ) → colon_at name < length name → get_or name (colon_at name) 0 ≡ 58
after-colon [] h = absurd (omega (arith, h))
after-colon (b ∷ name) h = by (b == 58) refl (after-colon name)
  where
    one-more : (i : ℕ) → 1 + i ≡ suc i
    one-more i = omega arith

    shorter : (b == 58) ≡ false → colon_at name < length name
    shorter f = let c : colon_at (b ∷ name) ≡ 1 + colon_at name = ap (λ (t : Bool). if t then 0 else 1 + colon_at name) f in omega (arith, c, h)

    by : (t : Bool) → (b == 58) ≡ t → (colon_at name < length name → get_or name (colon_at name) 0 ≡ 58)
        → get_or (b ∷ name) (if b == 58 then 0 else 1 + colon_at name) 0 ≡ 58
    by true e more = ap (λ (t : Bool). get_or (b ∷ name) (if t then 0 else 1 + colon_at name) 0) e ∙ eqb-true b 58 e
    by false e more = ap (λ (t : Bool). get_or (b ∷ name) (if t then 0 else 1 + colon_at name) 0) e
        ∙ (ap (λ (i : ℕ). get_or (b ∷ name) i 0) (one-more (colon_at name)) ∙ more (shorter e))

-- the local part of a name that is UTF-8
pub local_utf8 : (name : List ℕ) → IsUtf8 name → IsUtf8 (local_of name)
local_utf8 name h = by (has_prefix name) refl
  where
    by : (t : Bool) → has_prefix name ≡ t → IsUtf8 (if has_prefix name then drop (colon_at name + 1) name else name)
    by true e =
        let within : colon_at name < length name = ltb-true (colon_at name) (length name) e in
        let low : get_or name (colon_at name) 0 < 128 = subst (λ (i : ℕ). i < 128) (sym (after-colon name within)) (omega arith) in
        subst (λ (t : Bool). IsUtf8 (if t then drop (colon_at name + 1) name else name)) (sym e)
        (IsUtf8-drop name (colon_at name + 1) h (IsCharBoundary-after_ascii name (colon_at name) h within low))
    by false e = subst (λ (t : Bool). IsUtf8 (if t then drop (colon_at name + 1) name else name)) (sym e) h

pub layer_more : (given : Option (List ℕ)) (ls : List (List Binding)) (l : List Binding) (prefix : List ℕ)
    → last_layer given (ls ++ l ∷ []) prefix ≡ last_space (last_layer given ls prefix) l prefix
layer_more given [] l prefix = refl
layer_more given (k ∷ ls) l prefix = layer_more (last_space given k prefix) ls l prefix

too-few : 2 ≤ 1 → ⊥
too-few h = omega (arith, h)

pub few_words : (ts : List Token) → 2 ≤ length ts → is_few ts ≡ true → are_words ts ≡ true
few_words [] h e = refl
few_words (t ∷ []) h e = absurd (too-few h)
few_words (t ∷ u ∷ ts) h e = e

-- Whether bytes are a text of an expression, byte by byte (Brzozowski's derivatives).
use Rattle.std.specs.Prelude.{ℕ, zero, suc, List, [], ◌∷◌, Bool, true, false, ◌&&◌, ◌||◌, cond}
use Rattle.scram_core.specs.Expressions.{has, Expression, void, empty, byte, up_to, concat, union, star}

-- whether the text without bytes is one
abbrev pub is_nullable : Expression → Bool
is_nullable void = false
is_nullable empty = true
is_nullable (byte C) = false
is_nullable (up_to n C) = true
is_nullable (concat p q) = is_nullable p && is_nullable q
is_nullable (union p q) = is_nullable p || is_nullable q
is_nullable (star p) = true

-- what may follow the byte b
abbrev pub derivative : ℕ → Expression → Expression
derivative b void = void
derivative b empty = void
derivative b (byte C) = cond (has C b) empty void
derivative b (up_to zero C) = void
derivative b (up_to (suc n) C) = cond (has C b) (up_to n C) void
derivative b (concat p q) = elim (is_nullable p) [
  | true ↦ union (concat (derivative b p) q) (derivative b q)
  | false ↦ concat (derivative b p) q
]
derivative b (union p q) = union (derivative b p) (derivative b q)
derivative b (star p) = concat (derivative b p) (star p)

-- whether the bytes are a text
abbrev pub matches : Expression → List ℕ → Bool
matches p [] = is_nullable p
matches p (b ∷ bs) = matches (derivative b p) bs

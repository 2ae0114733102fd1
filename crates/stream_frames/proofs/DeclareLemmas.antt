-- A declaration begins with an x.
use Rattle.std.proofs.Common.{◌≡◌, ℕ, zero, suc, List, [], ◌∷◌, take, refl, ap, Bool, true, false, ◌&&◌, ◌==◌}
use Rattle.std.specs.Prelude.{bytes_eq, codes, if◌then◌else◌}
use Rattle.stream_grammar.specs.grammar.Namespaces.{colon_at, has_prefix, is_declaration}
use Rattle.stream_frames.specs.Begins.{begins_with_x}

other-head : (c : ℕ) (cs : List ℕ) → (c == 120) ≡ false → bytes_eq (c ∷ cs) (codes "xmlns") ≡ false
other-head c cs h = ap (λ (t : Bool). t && bytes_eq cs (codes "mlns")) h

pub undeclared : (name : List ℕ) → begins_with_x name ≡ false → is_declaration name ≡ false
undeclared [] h = refl
undeclared (c ∷ cs) h = by (has_prefix (c ∷ cs)) (colon_at (c ∷ cs))
  where
    by : (p : Bool) (k : ℕ) → (if p then bytes_eq (if p then take k (c ∷ cs) else []) (codes "xmlns") else bytes_eq (c ∷ cs) (codes "xmlns")) ≡ false
    by true zero = refl
    by true (suc k) = other-head c (take k cs) h
    by false k = other-head c cs h

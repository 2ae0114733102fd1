-- The texts of base64 are the encodings of bytes.
use Rattle.std.proofs.Common.{◌≡◌, ℕ, zero, suc, ◌+◌, ◌*◌, ◌/◌, ◌%◌, ◌<◌, List, [], ◌∷◌, ◌++◌, inl, inr, length, replicate, slice_index, refl, sym, ap}
use Rattle.std.proofs.Common.{◌∙◌, subst, arith, append_assoc, Bool, true, not, ◌&&◌, ◌||◌, ◌==◌, nat_lt, if◌then◌else◌, lit<}
use Rattle.std.proofs.lemmas.Bool.{eqb-true, ltb-true}
use Rattle.base64.specs.Engines.{standard}
use Rattle.base64.specs.Rfc4648.{encode_group, encode_symbols, padding_len}
use Rattle.base64.specs.GeneralPurpose.{engine_symbols, IsBytes}
use Rattle.scram_core.specs.Expressions.{Class, Expression, byte, concat, union, Times, IsText}
use Rattle.scram_core.specs.Matching.{matches}
use Rattle.scram_core.specs.Grammar.{a, optional, base64_char, third_char, second_char, base64_4, base64_3, base64_2, base64}
use Rattle.scram_core.specs.Login.{base64_of}
use Rattle.scram_core.proofs.Lists.{each}
use Rattle.scram_core.proofs.Derivative.{matches-to, matches-from}
use Rattle.scram_core.proofs.Parts.{byte-is}
use Rattle.scram_core.proofs.Classes.{tops, low, passed}
use Rattle.scram_core.proofs.Keeping.{all_below, below-all}

-- the symbol of a value
abbrev symbol : ℕ → ℕ
symbol v = slice_index (engine_symbols standard) v

-- An encoding, group by group.

three_more : (n : ℕ) → padding_len (suc (suc (suc n))) ≡ padding_len n
three_more n = omega arith

pub encoding-group : (x y z : ℕ) (rest : List ℕ) → base64_of (x ∷ y ∷ z ∷ rest) ≡ encode_group (engine_symbols standard) x y z ++ base64_of rest
unfolding encode_symbols
encoding-group x y z rest =
    ap (λ (n : ℕ). encode_group (engine_symbols standard) x y z ++ (encode_symbols (engine_symbols standard) rest ++ replicate n 61)) (three_more (length rest))

encoding-none : base64_of [] ≡ []
unfolding encode_symbols
encoding-none = refl

encoding-one : (x : ℕ) → base64_of (x ∷ []) ≡ symbol (x / 4) ∷ symbol (x % 4 * 16) ∷ 61 ∷ 61 ∷ []
unfolding encode_symbols
encoding-one x = refl

encoding-two : (x y : ℕ) → base64_of (x ∷ y ∷ []) ≡ symbol (x / 4) ∷ symbol (x % 4 * 16 + y / 16) ∷ symbol (y % 16 * 4) ∷ 61 ∷ []
unfolding encode_symbols
encoding-two x y = refl

-- Symbols.

char-is : (v : ℕ) → v < 64 → IsText base64_char (symbol v ∷ [])
char-is v l = matches-from base64_char (symbol v ∷ []) (below-all 64 (λ n. matches base64_char (symbol n ∷ [])) refl v l)

third-is : (v : ℕ) → v < 16 → IsText third_char (symbol (v * 4) ∷ [])
third-is v l = matches-from third_char (symbol (v * 4) ∷ []) (below-all 16 (λ n. matches third_char (symbol (n * 4) ∷ [])) refl v l)

second-is : (v : ℕ) → v < 4 → IsText second_char (symbol (v * 16) ∷ [])
second-is v l = matches-from second_char (symbol (v * 16) ∷ []) (below-all 4 (λ n. matches second_char (symbol (n * 16) ∷ [])) refl v l)

pad-is : IsText (a 61) (61 ∷ [])
pad-is = matches-from (a 61) (61 ∷ []) refl

-- An encoding is a text.

four : (p q r s : Expression) (w x y z : ℕ) → IsText p (w ∷ []) → IsText q (x ∷ []) → IsText r (y ∷ []) → IsText s (z ∷ [])
    → IsText (concat p (concat q (concat r s))) (w ∷ x ∷ y ∷ z ∷ [])
unfolding IsText
four p q r s w x y z k l m n =
    (w ∷ [], x ∷ y ∷ z ∷ [], k, (x ∷ [], y ∷ z ∷ [], l, (y ∷ [], z ∷ [], m, n, refl), refl), refl)

none-text : IsText base64 []
none-text = matches-from base64 [] refl

end-text : (t : List ℕ) → IsText (union base64_3 base64_2) t → IsText base64 t
unfolding IsText
end-text t m = ([], t, (0, refl), inl m, refl)

more-text : (w x y z : ℕ) (t : List ℕ) → IsText base64_4 (w ∷ x ∷ y ∷ z ∷ []) → IsText base64 t → IsText base64 (w ∷ x ∷ y ∷ z ∷ t)
unfolding IsText
more-text w x y z t m (xs, ys, (n, k), o, e) =
    (w ∷ x ∷ y ∷ z ∷ xs, ys, (suc n, (w, x ∷ y ∷ z ∷ [], xs, m, k, refl)), o, ap (λ (l : List ℕ). w ∷ x ∷ y ∷ z ∷ l) e)

union-first : (p q : Expression) (t : List ℕ) → IsText p t → IsText (union p q) t
unfolding IsText
union-first p q t m = inl m

union-second : (p q : Expression) (t : List ℕ) → IsText q t → IsText (union p q) t
unfolding IsText
union-second p q t m = inr m

pub encoding-text : (bs : List ℕ) → IsBytes bs → IsText base64 (base64_of bs)
encoding-text [] h = subst (IsText base64) (sym encoding-none) none-text
encoding-text (x ∷ []) h =
    let x' : x < 256 = h 0 in
    subst (IsText base64) (sym (encoding-one x))
    (end-text _ (union-second base64_3 base64_2 _
    (four base64_char second_char (a 61) (a 61) _ _ 61 61 (char-is (x / 4) (omega arith)) (second-is (x % 4) (omega arith)) pad-is pad-is)))
encoding-text (x ∷ y ∷ []) h =
    let x' : x < 256 = h 0 in
    let y' : y < 256 = h 1 in
    subst (IsText base64) (sym (encoding-two x y))
    (end-text _ (union-first base64_3 base64_2 _
    (four base64_char base64_char third_char (a 61) _ _ _ 61 (char-is (x / 4) (omega arith)) (char-is (x % 4 * 16 + y / 16) (omega arith))
    (third-is (y % 16) (omega arith)) pad-is)))
encoding-text (x ∷ y ∷ z ∷ rest) h =
    let x' : x < 256 = h 0 in
    let y' : y < 256 = h 1 in
    let z' : z < 256 = h 2 in
    subst (IsText base64) (sym (encoding-group x y z rest))
    (more-text _ _ _ _ (base64_of rest)
    (four base64_char base64_char base64_char base64_char _ _ _ _ (char-is (x / 4) (omega arith)) (char-is (x % 4 * 16 + y / 16) (omega arith))
    (char-is (y % 16 * 4 + z / 64) (omega arith)) (char-is (z % 64) (omega arith)))
    (encoding-text rest (λ i. h (suc (suc (suc i))))))

-- A text is an encoding.

-- the first place of a symbol, which is its value
abbrev place : ℕ → List ℕ → ℕ
place c [] = 0
place c (b ∷ bs) = if b == c then 0 else suc (place c bs)

abbrev value_of : ℕ → ℕ
value_of c = place c (engine_symbols standard)

abbrev has_value : Expression → ℕ → ℕ → ℕ → Bool
has_value p most times c = not (matches p (c ∷ [])) || (nat_lt (value_of c / times) most && symbol (value_of c / times * times) == c)

-- the value of a character of these: so many times another
pub record HasValue (most times : ℕ) (t : List ℕ) : Type 0 where
  pub value : ℕ
  pub small : value < most
  pub is : t ≡ symbol (value * times) ∷ []

valued : (p : Expression) (most times c : ℕ) → has_value p most times c ≡ true → IsText p (c ∷ []) → HasValue most times (c ∷ [])
valued p most times c h m =
    let two = each _ _ (passed (matches p (c ∷ [])) _ h (matches-to p (c ∷ []) m)) in record {
      value = value_of c / times;
      small = ltb-true (value_of c / times) most two.0;
      is = ap (λ (b : ℕ). b ∷ []) (sym (eqb-true (symbol (value_of c / times * times)) c two.1));
    }

-- a text of a class is one byte of it, below 128
pub record IsByteOf (C : Class) (t : List ℕ) : Type 0 where
  pub char : ℕ
  pub low : char < 128
  pub is : t ≡ char ∷ []

class-byte : (C : Class) (t : List ℕ) → tops 128 C ≡ true → IsText (byte C) t → IsByteOf C t
unfolding IsText
class-byte C t h (c, k, e) = record { char = c; low = low 128 C c h k; is = e }

char-value : (C : Class) (most times : ℕ) (t : List ℕ) → tops 128 C ≡ true → all_below 128 (has_value (byte C) most times) ≡ true
    → IsText (byte C) t → HasValue most times t
char-value C most times t h k m =
    let b = class-byte C t h m in
    subst (HasValue most times) (sym b.is)
    (valued (byte C) most times b.char (below-all 128 (has_value (byte C) most times) k b.char b.low) (subst (IsText (byte C)) b.is m))

char-to : (t : List ℕ) → IsText base64_char t → HasValue 64 1 t
char-to t m = char-value _ 64 1 t refl refl m

third-to : (t : List ℕ) → IsText third_char t → HasValue 16 4 t
third-to t m = char-value _ 16 4 t refl refl m

second-to : (t : List ℕ) → IsText second_char t → HasValue 4 16 t
second-to t m = char-value _ 4 16 t refl refl m

pad-to : (t : List ℕ) → IsText (a 61) t → t ≡ 61 ∷ []
pad-to t m = byte-is 61 t m

-- The bytes of a text.
pub record IsEncoding (t : List ℕ) : Type 0 where
  pub bytes : List ℕ
  pub are_bytes : IsBytes bytes
  pub coded : t ≡ base64_of bytes

four-to : (p q r s : Expression) (t : List ℕ) → IsText (concat p (concat q (concat r s))) t
    → (w : List ℕ) × (x : List ℕ) × (y : List ℕ) × (z : List ℕ) × IsText p w × IsText q x × IsText r y × IsText s z × (t ≡ w ++ (x ++ (y ++ z)))
unfolding IsText
four-to p q r s t (w, us, k, (x, vs, l, (y, z, m, n, e), f), g) =
    (w, x, y, z, k, l, m, n, g ∙ (ap (λ (i : List ℕ). w ++ i) f ∙ ap (λ (i : List ℕ). w ++ (x ++ i)) e))

same_four : (w x y z w' x' y' z' : List ℕ) (t : List ℕ) → t ≡ w ++ (x ++ (y ++ z)) → w ≡ w' → x ≡ x' → y ≡ y' → z ≡ z' → t ≡ w' ++ (x' ++ (y' ++ z'))
same_four w x y z w' x' y' z' t e f g h k = e ∙ (λ i. f i ++ (g i ++ (h i ++ k i)))

times-one : (n : ℕ) → n * 1 ≡ n
times-one n = omega arith

bytes-nil : IsBytes []
bytes-nil i = lit< tt

bytes-cons : (b : ℕ) (bs : List ℕ) → b < 256 → IsBytes bs → IsBytes (b ∷ bs)
bytes-cons b bs h k zero = h
bytes-cons b bs h k (suc i) = k i

-- one byte from two values
one-coded : (v u : ℕ) (t : List ℕ) → v < 64 → u < 4 → t ≡ symbol v ∷ symbol (u * 16) ∷ 61 ∷ 61 ∷ [] → IsEncoding t
one-coded v u t hv hu e =
    let x = v * 4 + u in
    let first : x / 4 ≡ v = omega arith in
    let second : x % 4 * 16 ≡ u * 16 = omega arith in
    record {
      bytes = x ∷ [];
      are_bytes = bytes-cons x [] (omega arith) bytes-nil;
      coded = e ∙ sym (encoding-one x ∙ (λ i. symbol (first i) ∷ symbol (second i) ∷ 61 ∷ 61 ∷ []));
    }

two-coded : (v u s : ℕ) (t : List ℕ) → v < 64 → u < 64 → s < 16 → t ≡ symbol v ∷ symbol u ∷ symbol (s * 4) ∷ 61 ∷ [] → IsEncoding t
two-coded v u s t hv hu hs e =
    let x = v * 4 + u / 16 in
    let y = u % 16 * 16 + s in
    let first : x / 4 ≡ v = omega arith in
    let second : x % 4 * 16 + y / 16 ≡ u = omega arith in
    let third : y % 16 * 4 ≡ s * 4 = omega arith in
    record {
      bytes = x ∷ y ∷ [];
      are_bytes = bytes-cons x (y ∷ []) (omega arith) (bytes-cons y [] (omega arith) bytes-nil);
      coded = e ∙ sym (encoding-two x y ∙ (λ i. symbol (first i) ∷ symbol (second i) ∷ symbol (third i) ∷ 61 ∷ []));
    }

group-coded : (v u s r : ℕ) (t rest : List ℕ) → v < 64 → u < 64 → s < 64 → r < 64
    → t ≡ symbol v ∷ symbol u ∷ symbol s ∷ symbol r ∷ rest → IsEncoding rest → IsEncoding t
group-coded v u s r t rest hv hu hs hr e after =
    let x = v * 4 + u / 16 in
    let y = u % 16 * 16 + s / 4 in
    let z = s % 4 * 64 + r in
    let first : x / 4 ≡ v = omega arith in
    let second : x % 4 * 16 + y / 16 ≡ u = omega arith in
    let third : y % 16 * 4 + z / 64 ≡ s = omega arith in
    let fourth : z % 64 ≡ r = omega arith in
    record {
      bytes = x ∷ y ∷ z ∷ after.bytes;
      are_bytes = bytes-cons x (y ∷ z ∷ after.bytes) (omega arith)
          (bytes-cons y (z ∷ after.bytes) (omega arith) (bytes-cons z after.bytes (omega arith) after.are_bytes));
      coded = e ∙ (ap (λ (l : List ℕ). symbol v ∷ symbol u ∷ symbol s ∷ symbol r ∷ l) after.coded
          ∙ sym (encoding-group x y z after.bytes
          ∙ (λ i. symbol (first i) ∷ symbol (second i) ∷ symbol (third i) ∷ symbol (fourth i) ∷ base64_of after.bytes)));
    }

-- a character by its own value
own : (t : List ℕ) (h : HasValue 64 1 t) → t ≡ symbol h.value ∷ []
own t h = h.is ∙ ap (λ (n : ℕ). symbol n ∷ []) (times-one h.value)

end-coded : (t : List ℕ) → IsText base64_2 t → IsEncoding t
end-coded t m =
    let (w, x, y, z, k, l, n, o, e) = four-to base64_char second_char (a 61) (a 61) t m in
    let v = char-to w k in
    let u = second-to x l in
    one-coded v.value u.value t v.small u.small
    (same_four w x y z _ _ _ _ t e (own w v) u.is (pad-to y n) (pad-to z o))

end-coded-two : (t : List ℕ) → IsText base64_3 t → IsEncoding t
end-coded-two t m =
    let (w, x, y, z, k, l, n, o, e) = four-to base64_char base64_char third_char (a 61) t m in
    let v = char-to w k in
    let u = char-to x l in
    let s = third-to y n in
    two-coded v.value u.value s.value t v.small u.small s.small
    (same_four w x y z _ _ _ _ t e (own w v) (own x u) s.is (pad-to z o))

none-coded : (t : List ℕ) → t ≡ [] → IsEncoding t
none-coded t e = record { bytes = []; are_bytes = bytes-nil; coded = e ∙ sym encoding-none }

tail-coded : (t : List ℕ) → IsText (optional (union base64_3 base64_2)) t → IsEncoding t
unfolding IsText
tail-coded t (inl (inl m)) = end-coded-two t m
tail-coded t (inl (inr m)) = end-coded t m
tail-coded t (inr m) = none-coded t m

group-then : (g t rest : List ℕ) → IsText base64_4 g → t ≡ g ++ rest → IsEncoding rest → IsEncoding t
group-then g t rest m e after =
    let (w, x, y, z, k, l, n, o, f) = four-to base64_char base64_char base64_char base64_char g m in
    let v = char-to w k in
    let u = char-to x l in
    let s = char-to y n in
    let r = char-to z o in
    group-coded v.value u.value s.value r.value t rest v.small u.small s.small r.small
    (e ∙ ap (λ (i : List ℕ). i ++ rest) (same_four w x y z _ _ _ _ g f (own w v) (own x u) (own y s) (own z r))) after

groups-coded : (n : ℕ) (xs ys t : List ℕ) → Times (IsText base64_4) n xs → IsEncoding ys → t ≡ xs ++ ys → IsEncoding t
groups-coded zero xs ys t m after e = subst IsEncoding (sym (e ∙ ap (λ (l : List ℕ). l ++ ys) m)) after
groups-coded (suc n) xs ys t (c, g, rest, m, k, f) after e =
    group-then (c ∷ g) t (rest ++ ys) m
    (e ∙ (ap (λ (l : List ℕ). l ++ ys) f ∙ append_assoc (c ∷ g) rest ys)) (groups-coded n rest ys (rest ++ ys) k after refl)

pub text-encoding : (t : List ℕ) → IsText base64 t → IsEncoding t
unfolding IsText
text-encoding t (xs, ys, (n, m), o, e) = groups-coded n xs ys t m (tail-coded ys o) e

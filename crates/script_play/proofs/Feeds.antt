-- Lines of bytes, by their line feeds.
use Rattle.std.proofs.Common.{◌≡◌, ℕ, zero, suc, ◌<◌, ◌≤◌, ◌==◌, List, [], ◌∷◌, ◌++◌, length, take, Bool, true, false, arith, refl, sym, ap, subst, ◌∙◌}
use Rattle.std.proofs.lemmas.List.{length-take, take-take}
use Rattle.std.specs.Prelude.{⊤, Option, Some, None, slice_index}
use Rattle.std.specs.Option.{unwrap_or}
use Rattle.memchr.specs.Find.{IsFirstByte, is_byte}
use Rattle.jid_core.specs.Cuts.{before}
use Rattle.replay_script.specs.Scripts.{begun, with_byte, lines_of, text_of}

-- no byte is a line feed
abbrev pub NoFeed : List ℕ → Type 0
NoFeed [] = ⊤
NoFeed (b ∷ more) = ((b == 10) ≡ false) × NoFeed more

pub plain_more : (line : List ℕ) (b : ℕ) → NoFeed line → (b == 10) ≡ false → NoFeed (line ++ b ∷ [])
plain_more [] b plain other = (other, tt)
plain_more (x ∷ more) b plain other = (plain.0, plain_more more b plain.1 other)

before-plain : (b : ℕ) (more : List ℕ) → (b == 10) ≡ false → before 10 (b ∷ more) ≡ b ∷ before 10 more
before-plain b more other = rw other refl

plain-same : (b : ℕ) (more : List ℕ) (feed : Bool) → (b == 10) ≡ feed → before 10 (b ∷ more) ≡ b ∷ more → (feed ≡ false) × (before 10 more ≡ more)
plain-same b more true is same = absurd (let none : [] ≡ b ∷ more = rw is at same in cc)
plain-same b more false is same = (refl, let kept : b ∷ before 10 more ≡ b ∷ more = rw is at same in cc)

-- bytes that are the text of their line
plain-text : (run : List ℕ) → text_of run ≡ run → NoFeed run
plain-text [] same = tt
plain-text (b ∷ more) same = let parts = plain-same b more (b == 10) refl same in (parts.0, plain-text more parts.1)

plain-both : (line run : List ℕ) → NoFeed line → NoFeed run → NoFeed (line ++ run)
plain-both [] run plain too = too
plain-both (b ∷ more) run plain too = (plain.0, plain-both more run plain.1 too)

pub plain_run : (line run : List ℕ) → NoFeed line → text_of run ≡ run → NoFeed (line ++ run)
plain_run line run plain same = plain-both line run plain (plain-text run same)

-- the bytes before the first line feed, where there is one
text-before : (bytes : List ℕ) (n : ℕ) → ((k : ℕ) → k < n → k < length bytes → (slice_index bytes k == 10) ≡ true → ⊥)
    → text_of (take n bytes) ≡ take n bytes
text-before bytes zero never = refl
text-before [] (suc n) never = refl
text-before (b ∷ more) (suc n) never =
    before-plain b (take n more) (no (b == 10) (never 0 (omega arith) (omega arith)))
    ∙ ap (λ xs. b ∷ xs) (text-before more n (λ k low within. never (suc k) (omega (arith, low)) (omega (arith, within))))
  where
    no : (feed : Bool) → (feed ≡ true → ⊥) → feed ≡ false
    no true never = absurd (never refl)
    no false never = refl

text-found : (near : List ℕ) (r : Option ℕ) → IsFirstByte (is_byte 10) near r
    → text_of (take (unwrap_or r (length near)) near) ≡ take (unwrap_or r (length near)) near
text-found near None nowhere = text-before near (length near) (λ k low within. nowhere k (omega arith) within)
text-found near (Some place) first = text-before near place (λ k low within. first.0.before k (omega arith) low)

found-fits : (near : List ℕ) (r : Option ℕ) → IsFirstByte (is_byte 10) near r → unwrap_or r (length near) ≤ length near
found-fits near None nowhere = omega arith
found-fits near (Some place) first = let low = first.0.high in omega (arith, low)

-- so many bytes are looked at
pub text_length : (bytes : List ℕ) (most n : ℕ) (r : Option ℕ) → IsFirstByte (is_byte 10) (take most bytes) r
    → n ≡ unwrap_or r (length (take most bytes)) → text_of (take n bytes) ≡ take n bytes
text_length bytes most n r found is =
    let fits : n ≤ most = omega (arith, is, found-fits (take most bytes) r found, length-take most bytes) in
    subst (λ xs. text_of xs ≡ xs) (ap (λ k. take k (take most bytes)) (sym is) ∙ take-take n most bytes fits) (text-found (take most bytes) r found)

-- a byte that is none goes before the first line
with-plain : (b : ℕ) (lines : List (List ℕ)) → (b == 10) ≡ false → with_byte b lines ≡ begun b lines
with-plain b lines other = rw other refl

-- a line that ends by its line feed
pub lines_feed : (line rest : List ℕ) → NoFeed line → lines_of (line ++ 10 ∷ rest) ≡ (line ++ 10 ∷ []) ∷ lines_of rest
lines_feed [] rest plain = refl
lines_feed (b ∷ more) rest plain =
    with-plain b (lines_of (more ++ 10 ∷ rest)) plain.0 ∙ ap (begun b) (lines_feed more rest plain.1)

pub text_feed : (line : List ℕ) → NoFeed line → text_of (line ++ 10 ∷ []) ≡ line
text_feed [] plain = refl
text_feed (b ∷ more) plain = before-plain b (more ++ 10 ∷ []) plain.0 ∙ ap (λ xs. b ∷ xs) (text_feed more plain.1)

-- a last line without one
pub lines_last : (line : List ℕ) → NoFeed line → 0 < length line → lines_of line ≡ line ∷ []
lines_last [] plain some = absurd (omega arith)
lines_last (b ∷ []) plain some = with-plain b [] plain.0
lines_last (b ∷ c ∷ more) plain some = with-plain b (lines_of (c ∷ more)) plain.0 ∙ ap (begun b) (lines_last (c ∷ more) plain.1 (omega arith))

pub text_last : (line : List ℕ) → NoFeed line → text_of line ≡ line
text_last [] plain = refl
text_last (b ∷ more) plain = before-plain b more plain.0 ∙ ap (λ xs. b ∷ xs) (text_last more plain.1)

-- the first of the lines begins with these bytes, where one is there at least
begun-first : (b : ℕ) (lines : List (List ℕ)) → (first : List ℕ) × ((more : List (List ℕ)) × (begun b lines ≡ (b ∷ first) ∷ more))
begun-first b [] = ([], ([], refl))
begun-first b (line ∷ more) = (line, (more, refl))

with-first : (c : Bool) (b : ℕ) (lines : List (List ℕ)) → (b == 10) ≡ c → (first : List ℕ) × ((more : List (List ℕ)) × (with_byte b lines ≡ (b ∷ first) ∷ more))
with-first true b lines is = ([], (lines, rw is refl))
with-first false b lines is = let one = begun-first b lines in (one.0, (one.1.0, with-plain b lines is ∙ one.1.1))

-- the line of a byte after bytes that are no line feeds
pub lines_front : (line : List ℕ) (b : ℕ) (rest : List ℕ) → NoFeed line
    → (more : List ℕ) × ((lines : List (List ℕ)) × (lines_of (line ++ b ∷ rest) ≡ (line ++ b ∷ more) ∷ lines))
lines_front [] b rest plain = with-first (b == 10) b (lines_of rest) refl
lines_front (x ∷ front) b rest plain =
    let next = lines_front front b rest plain.1 in
    (next.0, (next.1.0, with-plain x (lines_of (front ++ b ∷ rest)) plain.0 ∙ ap (begun x) next.1.1))

-- such a text is as long as the line at least
pub text_front : (line more : List ℕ) → NoFeed line → length line ≤ length (text_of (line ++ more))
text_front [] more plain = omega arith
text_front (b ∷ front) more plain =
    let next = text_front front more plain.1 in
    omega (arith, next, ap length (before-plain b (front ++ more) plain.0))

-- the first line begins with bytes that are no line feeds
pub lines_long : (line rest : List ℕ) → NoFeed line → 0 < length line
    → (more : List ℕ) × ((lines : List (List ℕ)) × (lines_of (line ++ rest) ≡ (line ++ more) ∷ lines))
lines_long [] rest plain some = absurd (omega arith)
lines_long (b ∷ []) rest plain some =
    let one = begun-first b (lines_of rest) in (one.0, (one.1.0, with-plain b (lines_of rest) plain.0 ∙ one.1.1))
lines_long (b ∷ c ∷ front) rest plain some =
    let next = lines_long (c ∷ front) rest plain.1 (omega arith) in
    (next.0, (next.1.0, with-plain b (lines_of (c ∷ front ++ rest)) plain.0 ∙ ap (begun b) next.1.1))

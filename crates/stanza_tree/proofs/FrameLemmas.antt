-- A frame is UTF-8.
use Rattle.std.proofs.Common.{◌≡◌, ℕ, suc, ◌+◌, ◌<◌, ◌≤◌, List, [], ◌∷◌, ◌++◌, length, get_or, take, drop, Bool, true}
use Rattle.std.proofs.Common.{false, codes, if◌then◌else◌, refl, sym, subst, inl, inr, arith}
use Rattle.std.proofs.lemmas.Bool.Decides.{nat_tests}
use Rattle.std.proofs.lemmas.Grind.{common_steps}
use Rattle.std.proofs.lemmas.Str.{IsUtf8-append, IsUtf8-take, IsUtf8-drop, IsCharBoundary-before_ascii, IsCharBoundary-end}
use Rattle.std.proofs.lemmas.Bool.{cases_lt}
use Rattle.std.specs.Prelude.{IsUtf8}
use Rattle.std.specs.Str.{IsCharBoundary}
use Rattle.stanza_tree.specs.declared.frame.Entry.{Entry}
use Rattle.stanza_tree.specs.Entries.{ends_name, name_end, to_attribute, frame}
use Rattle.stanza_tree.specs.Spelling.{value_text}
use Rattle.stanza_tree.proofs.Utf8Lemmas.{ascii-utf8, value_text-utf8}

ends-low : (b : ℕ) → ends_name b ≡ true → b < 128
ends-low b h = grind (arith, nat_tests)

end-step : (t : Bool) (b : ℕ) (bs : List ℕ) (n : ℕ) → (t ≡ true → b < 128) → (n ≤ length bs) → (n < length bs → get_or bs n 0 < 128)
    → ((if t then 0 else 1 + n) ≤ suc (length bs)) × ((if t then 0 else 1 + n) < suc (length bs) → get_or (b ∷ bs) (if t then 0 else 1 + n) 0 < 128)
end-step true b bs n low within later = (omega arith, λ h. low refl)
end-step false b bs n low within later = (omega arith, λ h. grind (arith, common_steps, later (omega arith)))

-- a name ends at a byte of ASCII, or with the text
name-ends : (bs : List ℕ) → (name_end bs ≤ length bs) × (name_end bs < length bs → get_or bs (name_end bs) 0 < 128)
name-ends [] = (omega arith, λ h. absurd (omega arith))
name-ends (b ∷ bs) = end-step (ends_name b) b bs (name_end bs) (ends-low b) (name-ends bs).0 (name-ends bs).1

at-end : (bs : List ℕ) (i : ℕ) → i ≡ length bs → IsCharBoundary bs i
at-end bs i e = subst (IsCharBoundary bs) (sym e) (IsCharBoundary-end bs)

name-boundary : (bs : List ℕ) → IsCharBoundary bs (name_end bs)
name-boundary bs = elim (cases_lt (name_end bs) (length bs)) [
  | inl h ↦ IsCharBoundary-before_ascii bs (name_end bs) h ((name-ends bs).1 h)
  | inr h ↦ at-end bs (name_end bs) (omega (arith, (name-ends bs).0, h))
]

pub frame-utf8 : (e : Entry) → IsUtf8 e.rest → IsUtf8 e.to → IsUtf8 (frame e)
frame-utf8 e r t =
    let n = name_end e.rest in
    let cut = name-boundary e.rest in
    let quoted = IsUtf8-append (codes " to='" ++ value_text e.to) (codes "'")
    (IsUtf8-append (codes " to='") (value_text e.to) (ascii-utf8 (codes " to='") refl) (value_text-utf8 e.to t)) (ascii-utf8 (codes "'") refl) in
    IsUtf8-append (take n e.rest ++ to_attribute e.to) (drop n e.rest) (IsUtf8-append (take n e.rest) (to_attribute e.to) (IsUtf8-take e.rest n r cut) quoted)
    (IsUtf8-drop e.rest n r cut)

-- Stamps, and stanzas whose namespace is named, are UTF-8.
use Rattle.std.proofs.Common.{◌≡◌, ℕ, suc, ◌+◌, ◌/◌, ◌%◌, ◌<◌, ◌≤◌, nat_lt, List, [], ◌∷◌, ◌++◌, length, get_or, take, drop, Bool, true}
use Rattle.std.proofs.Common.{false, codes, if◌then◌else◌, refl, sym, subst, inl, inr, arith}
use Rattle.std.proofs.lemmas.Bool.Decides.{nat_tests}
use Rattle.std.proofs.lemmas.Grind.{common_steps}
use Rattle.std.proofs.lemmas.Str.{IsUtf8-append, IsUtf8-take, IsUtf8-drop, IsCharBoundary-before_ascii, IsCharBoundary-end}
use Rattle.std.proofs.lemmas.Bool.{cases_lt}
use Rattle.std.specs.Prelude.{IsUtf8}
use Rattle.std.specs.Str.{IsCharBoundary}
use Rattle.stanza_tree.specs.Entries.{ends_name, name_end}
use Rattle.stanza_tree.proofs.Utf8Lemmas.{all_low, ascii-utf8}
use Rattle.mam_wire.specs.Results.{in_client_space}
use Rattle.mam_wire.specs.Stamps.{IsStamp, counted, digit, stamp_of}

ends-low : (b : ℕ) → ends_name b ≡ true → b < 128
ends-low b h = grind (arith, nat_tests)

end-step : (t : Bool) (b : ℕ) (bs : List ℕ) (n : ℕ) → (t ≡ true → b < 128) → (n ≤ length bs) → (n < length bs → get_or bs n 0 < 128)
    → ((if t then 0 else 1 + n) ≤ suc (length bs)) × ((if t then 0 else 1 + n) < suc (length bs) → get_or (b ∷ bs) (if t then 0 else 1 + n) 0 < 128)
end-step true b bs n low within later = (omega arith, λ h. low refl)
end-step false b bs n low within later = (omega arith, λ h. grind (arith, common_steps, later (omega arith)))

-- a name ends at a byte of ASCII, or with the text
name-ends : (bs : List ℕ) → (name_end bs ≤ length bs) × (name_end bs < length bs → get_or bs (name_end bs) 0 < 128)
name-ends [] = (omega arith, λ h. absurd (omega arith))
name-ends (b ∷ bs) = end-step (ends_name b) b bs (name_end bs) (ends-low b) (name-ends bs).0 (name-ends bs).1

at-end : (bs : List ℕ) (i : ℕ) → i ≡ length bs → IsCharBoundary bs i
at-end bs i e = subst (IsCharBoundary bs) (sym e) (IsCharBoundary-end bs)

name-boundary : (bs : List ℕ) → IsCharBoundary bs (name_end bs)
name-boundary bs = elim (cases_lt (name_end bs) (length bs)) [
  | inl h ↦ IsCharBoundary-before_ascii bs (name_end bs) h ((name-ends bs).1 h)
  | inr h ↦ at-end bs (name_end bs) (omega (arith, (name-ends bs).0, h))
]

pub space-utf8 : (stanza : List ℕ) → IsUtf8 stanza → IsUtf8 (in_client_space stanza)
space-utf8 stanza is =
    let n = name_end stanza in
    let cut = name-boundary stanza in
    IsUtf8-append (take n stanza ++ codes " xmlns='jabber:client'") (drop n stanza)
    (IsUtf8-append (take n stanza) (codes " xmlns='jabber:client'") (IsUtf8-take stanza n is cut) (ascii-utf8 (codes " xmlns='jabber:client'") refl))
    (IsUtf8-drop stanza n is cut)

digit-low : (n : ℕ) → nat_lt (digit n) 128 ≡ true
digit-low n = grind (arith, nat_tests, common_steps)

-- each byte of a stamp is one of ASCII
stamp-low : (y m d t : ℕ) → all_low (stamp_of y m d t) ≡ true
stamp-low y m d t =
    rw (digit-low (y / 1000)) (rw (digit-low (y / 100)) (rw (digit-low (y / 10)) (rw (digit-low y) (
    rw (digit-low (m / 10)) (rw (digit-low m) (rw (digit-low (d / 10)) (rw (digit-low d) (
    rw (digit-low (t / 3600000 / 10)) (rw (digit-low (t / 3600000)) (rw (digit-low (t / 60000 % 60 / 10)) (rw (digit-low (t / 60000 % 60)) (
    rw (digit-low (t / 1000 % 60 / 10)) (rw (digit-low (t / 1000 % 60)) (
    rw (digit-low (t % 1000 / 100)) (rw (digit-low (t % 1000 / 10)) (rw (digit-low (t % 1000)) refl))
    ))
    ))))
    ))))
    ))))

pub stamp-utf8 : (moment : ℕ) (text : List ℕ) → IsStamp moment text → IsUtf8 text
stamp-utf8 moment text is =
    subst IsUtf8 (sym is.spelt) (ascii-utf8 (stamp_of is.year is.date.month is.date.day (counted moment % 86400000))
    (stamp-low is.year is.date.month is.date.day (counted moment % 86400000)))

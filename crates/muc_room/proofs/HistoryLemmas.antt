-- A message with one child more is UTF-8.
use Rattle.std.proofs.Common.{◌≡◌, ◌∙◌, ℕ, ◌+◌, ◌-◌, ◌<◌, List, ◌++◌, length, get_or, take, drop, true, refl, sym, ap, subst, arith}
use Rattle.std.proofs.lemmas.List.{get_or-drop, length-drop}
use Rattle.std.proofs.lemmas.Slice.Eq.{bytes_eq-Decides}
use Rattle.std.proofs.lemmas.Str.{IsUtf8-append, IsUtf8-take, IsCharBoundary-before_ascii}
use Rattle.std.specs.Prelude.{IsUtf8}
use Rattle.stanza_tree.proofs.Utf8Lemmas.{ascii-utf8}
use Rattle.muc_room.specs.Histories.{is_ended, message_end}

pub last-utf8 : (child text : List ℕ) → is_ended text ≡ true → IsUtf8 text → IsUtf8 child
    → IsUtf8 (take (length text - 10) text ++ child ++ message_end)
last-utf8 child text ended is more =
    let n : ℕ = length text - 10 in
    let rest : drop n text ≡ message_end = (bytes_eq-Decides (drop n text) message_end).0 ended in
    let long : length text - n ≡ 10 = sym (length-drop n text) ∙ ap (λ (l : List ℕ). length l) rest in
    let same : n ≡ n + 0 = omega arith in
    let first : get_or text n 0 ≡ 60 =
    ap (λ (i : ℕ). get_or text i 0) same ∙ (sym (get_or-drop n text 0 0) ∙ ap (λ (l : List ℕ). get_or l 0 0) rest) in
    let cut = IsCharBoundary-before_ascii text n (omega (arith, long)) (omega (arith, first)) in
    IsUtf8-append (take n text ++ child) message_end (IsUtf8-append (take n text) child (IsUtf8-take text n is cut) more) (ascii-utf8 message_end refl)

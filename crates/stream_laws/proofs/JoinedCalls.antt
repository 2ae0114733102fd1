-- Calls after calls.
use Rattle.std.proofs.Common.{◌≡◌, ℕ, List, [], ◌∷◌, ◌++◌, take, refl, sym, ap, ◌∙◌, subst, append_assoc}
use Rattle.std.specs.Prelude.{option_to_list}
use Rattle.stream_grammar.specs.declared.item.Item.{Item}
use Rattle.stream_grammar.specs.declared.item.Limits.{Limits}
use Rattle.stream_grammar.specs.machine.Reading.{Reading, reading_after, handed}
use Rattle.stream_grammar.specs.machine.Calls.{Call, feeds, falls_short, hands, Called, bytes_taken}

pub called_together : (first : List Call) (l : Limits) (second : List Call) (items later : List Item) (s t u : Reading)
    → Called l s first items t → Called l t second later u → Called l s (first ++ second) (items ++ later) u
called_together [] l second items later s t u (none, same) two =
    subst (λ (x : List Item). Called l s second (x ++ later) u) (sym none) (subst (λ (x : Reading). Called l x second later u) same two)
called_together (feeds piece n ∷ calls) l second items later s t u (ready, count, more) two =
    (ready, count, called_together calls l second items later (reading_after l s (take n piece)) t u more two)
called_together (falls_short piece n ∷ calls) l second items later s t u (ready, count, more) two =
    (ready, count, called_together calls l second items later (reading_after l s (take n piece)) t u more two)
called_together (hands next ∷ calls) l second items later s t u (is, (rest, all, more)) two = (
  is,
  (
    rest ++ later,
    ap (λ (x : List Item). x ++ later) all ∙ append_assoc (option_to_list next) rest later,
    called_together calls l second rest later (handed s) t u more two,
  ),
)

pub taken_together : (first second : List Call) → bytes_taken (first ++ second) ≡ bytes_taken first ++ bytes_taken second
taken_together [] second = refl
taken_together (feeds piece n ∷ calls) second =
    ap (λ (x : List ℕ). take n piece ++ x) (taken_together calls second) ∙ sym (append_assoc (take n piece) (bytes_taken calls) (bytes_taken second))
taken_together (falls_short piece n ∷ calls) second =
    ap (λ (x : List ℕ). take n piece ++ x) (taken_together calls second) ∙ sym (append_assoc (take n piece) (bytes_taken calls) (bytes_taken second))
taken_together (hands next ∷ calls) second = taken_together calls second

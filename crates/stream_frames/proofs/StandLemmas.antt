-- Where a framer stands after one more call.
use Rattle.std.proofs.Common.{◌≡◌, ℕ, ◌<◌, List, [], ◌∷◌, ◌++◌, take, refl, sym, ap, ◌∙◌, subst, append-nil, true}
use Rattle.std.specs.Prelude.{Option, option_to_list, Result, Ok, Err, IfOk, IfErr}
use Rattle.stream_grammar.specs.declared.item.Item.{Item}
use Rattle.stream_grammar.specs.declared.item.Limits.{Limits}
use Rattle.stream_grammar.specs.grammar.ItemLists.{AreItems, to_fault}
use Rattle.stream_grammar.specs.grammar.Takes.{AreTaken}
use Rattle.stream_grammar.specs.machine.Calls.{Call, feeds, falls_short, hands, Called, bytes_taken}
use Rattle.stream_grammar.specs.machine.Reading.{first_reading, reading_after, taken, waiting, handed, is_ready}
use Rattle.stream_laws.proofs.CallLemmas.{all_handed}
use Rattle.stream_laws.proofs.JoinedCalls.{called_together, taken_together}
use Rattle.stream_laws.proofs.NextCallLemmas.{next_are_taken}
use Rattle.stream_frames.specs.declared.framer.Short.{Short}
use Rattle.stream_frames.specs.Fed.{Fed}
use Rattle.stream_frames.specs.Stands.{Stands}

led : (framer : Fed) (bytes : List ℕ) (answers : List Item) (calls : List Call) → Called framer.limits first_reading calls answers framer.reading
    → bytes ≡ bytes_taken calls → Stands bytes answers framer
led framer bytes answers calls fed same = record {
  items = subst (λ (x : List ℕ). AreItems framer.limits x (to_fault (answers ++ option_to_list (waiting framer.reading)))) (sym same)
      (all_handed framer.limits calls answers framer.reading fed);
  came = (calls, fed, same);
}

-- at the beginning
pub begun : (framer : Fed) → framer.reading ≡ first_reading → Stands [] [] framer
begun framer e = led framer [] [] [] (refl, e) refl

-- after one more call, that took these bytes and answered these items
more : (old new : Fed) (call : Call) (bytes further : List ℕ) (answers later : List Item) → new.limits ≡ old.limits → bytes_taken (call ∷ []) ≡ further
    → Called old.limits old.reading (call ∷ []) later new.reading → Stands bytes answers old → Stands (bytes ++ further) (answers ++ later) new
more old new call bytes further answers later same took one before =
    let (calls, fed, is) = before.came in
    led new (bytes ++ further) (answers ++ later) (calls ++ call ∷ [])
    (subst (λ (l : Limits). Called l first_reading (calls ++ call ∷ []) (answers ++ later) new.reading) (sym same)
    (called_together calls old.limits (call ∷ []) answers later first_reading old.reading new.reading fed one))
    (ap (λ (x : List ℕ). x ++ further) is ∙ (ap (λ (x : List ℕ). bytes_taken calls ++ x) (sym took) ∙ sym (taken_together calls (call ∷ []))))

more-fed : (old new : Fed) (call : Call) (bytes further : List ℕ) (answers : List Item) → new.limits ≡ old.limits → bytes_taken (call ∷ []) ≡ further
    → Called old.limits old.reading (call ∷ []) [] new.reading → Stands bytes answers old → Stands (bytes ++ further) answers new
more-fed old new call bytes further answers same took one before =
    subst (λ (x : List Item). Stands (bytes ++ further) x new) (append-nil answers) (more old new call bytes further answers [] same took one before)

how-many : (framer : Fed) (bytes piece : List ℕ) (answers : List Item) → is_ready framer.reading ≡ true → Stands bytes answers framer
    → AreTaken framer.limits bytes piece (taken framer.limits framer.reading piece)
how-many framer bytes piece answers ready before =
    let (calls, fed, is) = before.came in
    subst (λ (x : List ℕ). AreTaken framer.limits x piece (taken framer.limits framer.reading piece)) (sym is)
    (next_are_taken framer.limits calls answers framer.reading piece fed ready)

pub fed_stands : (old new : Fed) (piece : List ℕ) (result : Result ℕ Short) → is_ready old.reading ≡ true → new.limits ≡ old.limits
    → IfOk result (λ n. n ≡ taken old.limits old.reading piece) → IfOk result (λ n. new.reading ≡ reading_after old.limits old.reading (take n piece))
    → IfOk result (λ n. (bytes : List ℕ) (answers : List Item) → Stands bytes answers old
    → Stands (bytes ++ take n piece) answers new × AreTaken old.limits bytes piece n)
fed_stands old new piece (Ok n) ready same count read = λ bytes answers before. (
  more-fed old new (feeds piece n) bytes (take n piece) answers same (append-nil (take n piece)) (ready, count, (refl, read)) before,
  subst (AreTaken old.limits bytes piece) (sym count)
      (how-many old bytes piece answers ready before),
)
fed_stands old new piece (Err s) ready same count read = tt

pub short_stands : (old new : Fed) (piece : List ℕ) (result : Result ℕ Short) → is_ready old.reading ≡ true → new.limits ≡ old.limits
    → IfErr result (λ s. s.taken < taken old.limits old.reading piece)
    → IfErr result (λ s. new.reading ≡ reading_after old.limits old.reading (take s.taken piece))
    → IfErr result (λ s. (bytes : List ℕ) (answers : List Item) → Stands bytes answers old
    → Stands (bytes ++ take s.taken piece) answers new × ((n : ℕ) × AreTaken old.limits bytes piece n × (s.taken < n)))
short_stands old new piece (Ok n) ready same few read = tt
short_stands old new piece (Err s) ready same few read = λ bytes answers before. (
  more-fed old new (falls_short piece s.taken) bytes (take s.taken piece) answers same (append-nil (take s.taken piece)) (ready, few, (refl, read)) before,
  (taken old.limits old.reading piece, how-many old bytes piece answers ready before, few),
)

pub asked_stands : (old new : Fed) (next : Option Item) → new.limits ≡ old.limits → next ≡ waiting old.reading → new.reading ≡ handed old.reading
    → (bytes : List ℕ) (answers : List Item) → Stands bytes answers old
    → Stands bytes (answers ++ option_to_list next) new × AreItems old.limits bytes (to_fault (answers ++ option_to_list next))
asked_stands old new next same item here bytes answers before = (
  subst (λ (x : List ℕ). Stands x (answers ++ option_to_list next) new) (append-nil bytes)
      (more old new (hands next) bytes [] answers (option_to_list next) same refl (item, ([], sym (append-nil (option_to_list next)), (refl, here))) before),
  subst (λ (o : Option Item). AreItems old.limits bytes (to_fault (answers ++ option_to_list o))) (sym item) before.items,
)

-- All items of given bytes are those that the fold over them brings.
use Rattle.std.proofs.Common.{◌≡◌, ℕ, ◌+◌, ◌-◌, ◌⊎◌, inl, inr, List, [], ◌∷◌, ◌++◌, length, take, refl, sym, ap, ◌∙◌, subst, append_assoc, false, arith}
use Rattle.std.specs.Prelude.{Option, Some, None, option_to_list}
use Rattle.stream_lex.proofs.Lists.{false-true}
use Rattle.stream_grammar.specs.declared.FrameFault.{FrameFault}
use Rattle.stream_grammar.specs.declared.item.Item.{Item}
use Rattle.stream_grammar.specs.declared.item.Item.TheVariants as item
use Rattle.stream_grammar.specs.declared.item.Limits.{Limits}
use Rattle.stream_grammar.specs.grammar.Parts.{AreFaultless, IsFirstFault, IsFault}
use Rattle.stream_grammar.specs.machine.Reading.{Reading, reads, stopped, first_reading, is_stopped, waiting, went}
use Rattle.stream_grammar.specs.grammar.Bounds.{rules_of, told_number}
use Rattle.stream_grammar.specs.grammar.ItemLists.{AreEnding, AreItems}
use Rattle.stream_laws.specs.ItemLists.{brought, items_from}
use Rattle.stream_laws.proofs.Handing.{went-more}
use Rattle.stream_laws.proofs.Judged.{none-some}
use Rattle.stream_laws.proofs.Waiting.{item_waits}
use Rattle.stream_laws.proofs.HandedOut.{item_given}
use Rattle.stream_laws.proofs.Faultless.{goes-before, cons-after, faultless_goes, first_stops}
use Rattle.stream_laws.proofs.OneFault.{fault_or_none}

-- the reading after one more byte
pub one-more : (l : Limits) (xs : List ℕ) (b : ℕ) → went l (went l first_reading xs) (b ∷ []) ≡ went l first_reading (xs ++ b ∷ [])
one-more l xs b = sym (went-more l first_reading xs (b ∷ []))

-- What a reading brings that goes on.
pub going-brings : (s : Reading) (o : Option Item) → is_stopped s ≡ false → brought s o ≡ option_to_list o
going-brings (reads f b n k) o h = refl
going-brings (stopped f k) o h = false-true (sym h)

pub stopped-brings : (l : Limits) (f : FrameFault) (k : ℕ) (ys : List ℕ) → items_from l (stopped f k) ys ≡ []
stopped-brings l f k [] = refl
stopped-brings l f k (b ∷ ys) = stopped-brings l f k ys

pub brings-more : (l : Limits) (s : Reading) (xs ys : List ℕ) → items_from l s (xs ++ ys) ≡ items_from l s xs ++ items_from l (went l s xs) ys
brings-more l s [] ys = refl
brings-more l s (x ∷ xs) ys =
    ap (λ (z : List Item). brought s (waiting (went l s (x ∷ []))) ++ z) (brings-more l (went l s (x ∷ [])) xs ys)
    ∙ sym (append_assoc (brought s (waiting (went l s (x ∷ [])))) (items_from l (went l s (x ∷ [])) xs) (items_from l (went l s (x ∷ xs)) ys))

-- one byte, and then the others
brings-next : (l : Limits) (xs ys : List ℕ) (b : ℕ) → is_stopped (went l first_reading xs) ≡ false
    → items_from l (went l first_reading xs) (b ∷ ys) ≡ option_to_list (waiting (went l first_reading (xs ++ b ∷ [])))
    ++ items_from l (went l first_reading (xs ++ b ∷ [])) ys
brings-next l xs ys b o =
    ap (λ (z : List Item). z ++ items_from l (went l (went l first_reading xs) (b ∷ [])) ys)
    (going-brings (went l first_reading xs) (waiting (went l (went l first_reading xs) (b ∷ []))) o)
    ∙ ap (λ (s : Reading). option_to_list (waiting s) ++ items_from l s ys) (one-more l xs b)

-- Where no byte has a fault.

pub ending-is : (l : Limits) (xs ys : List ℕ) → is_stopped (went l first_reading (xs ++ ys)) ≡ false
    → AreEnding (rules_of l) xs ys (items_from l (went l first_reading xs) ys)
ending-is l xs [] o = refl
ending-is l xs (b ∷ ys) o = by (λ p. ending-is l (xs ++ b ∷ []) ys p) (waiting (went l first_reading (xs ++ b ∷ []))) refl
  where
    all_on : is_stopped (went l first_reading ((xs ++ b ∷ []) ++ ys)) ≡ false
    all_on = ap (λ (z : List ℕ). is_stopped (went l first_reading z)) (cons-after xs ys b) ∙ o

    on : is_stopped (went l first_reading (xs ++ b ∷ [])) ≡ false
    on = goes-before l (xs ++ b ∷ []) ys all_on

    next : items_from l (went l first_reading xs) (b ∷ ys) ≡ option_to_list (waiting (went l first_reading (xs ++ b ∷ [])))
        ++ items_from l (went l first_reading (xs ++ b ∷ [])) ys
    next = brings-next l xs ys b (goes-before l xs (b ∷ []) on)

    by : (is_stopped (went l first_reading ((xs ++ b ∷ []) ++ ys)) ≡ false
        → AreEnding (rules_of l) (xs ++ b ∷ []) ys (items_from l (went l first_reading (xs ++ b ∷ [])) ys))
        → (w : Option Item) → waiting (went l first_reading (xs ++ b ∷ [])) ≡ w
        → AreEnding (rules_of l) xs (b ∷ ys) (items_from l (went l first_reading xs) (b ∷ ys))
    by go (Some i) e = inl (
      i,
      items_from l (went l first_reading (xs ++ b ∷ [])) ys,
      item_waits l xs b i on e,
      go all_on,
      next
          ∙ ap (λ (w : Option Item). option_to_list w ++ items_from l (went l first_reading (xs ++ b ∷ [])) ys) e,
    )
    by go None e = inr (
      λ i is. none-some i (sym e ∙ item_given l xs b i on is),
      subst (AreEnding (rules_of l) (xs ++ b ∷ []) ys)
          (sym (next ∙ ap (λ (w : Option Item). option_to_list w ++ items_from l (went l first_reading (xs ++ b ∷ [])) ys) e)) (go all_on),
    )

pub ending-only : (l : Limits) (xs ys : List ℕ) (items : List Item) → is_stopped (went l first_reading (xs ++ ys)) ≡ false → AreEnding (rules_of l) xs ys items
    → items ≡ items_from l (went l first_reading xs) ys
ending-only l xs [] items o e = e
ending-only l xs (b ∷ ys) items o e = by (λ later p q. ending-only l (xs ++ b ∷ []) ys later p q) e (waiting (went l first_reading (xs ++ b ∷ []))) refl
  where
    all_on : is_stopped (went l first_reading ((xs ++ b ∷ []) ++ ys)) ≡ false
    all_on = ap (λ (z : List ℕ). is_stopped (went l first_reading z)) (cons-after xs ys b) ∙ o

    on : is_stopped (went l first_reading (xs ++ b ∷ [])) ≡ false
    on = goes-before l (xs ++ b ∷ []) ys all_on

    next : items_from l (went l first_reading xs) (b ∷ ys) ≡ option_to_list (waiting (went l first_reading (xs ++ b ∷ [])))
        ++ items_from l (went l first_reading (xs ++ b ∷ [])) ys
    next = brings-next l xs ys b (goes-before l xs (b ∷ []) on)

    by : ((later : List Item) → is_stopped (went l first_reading ((xs ++ b ∷ []) ++ ys)) ≡ false → AreEnding (rules_of l) (xs ++ b ∷ []) ys later
        → later ≡ items_from l (went l first_reading (xs ++ b ∷ [])) ys)
        → AreEnding (rules_of l) xs (b ∷ ys) items → (w : Option Item) → waiting (went l first_reading (xs ++ b ∷ [])) ≡ w
        → items ≡ items_from l (went l first_reading xs) (b ∷ ys)
    by go (inl (i, later, is, ending, same)) w e =
        same
        ∙ (ap (λ (z : List Item). i ∷ z) (go later all_on ending)
        ∙ (ap (λ (o : Option Item). option_to_list o ++ items_from l (went l first_reading (xs ++ b ∷ [])) ys) (sym (item_given l xs b i on is)) ∙ sym next))
    by go (inr (never, ending)) None e =
        go items all_on ending ∙ (ap (λ (o : Option Item). option_to_list o ++ items_from l (went l first_reading (xs ++ b ∷ [])) ys) (sym e) ∙ sym next)
    by go (inr (never, ending)) (Some i) e = absurd (never i (item_waits l xs b i on e))

-- Where one has a fault.

fault-brings : (l : Limits) (xs ys : List ℕ) (b : ℕ) (f : FrameFault) → IsFirstFault l xs b f
    → items_from l first_reading (xs ++ (b ∷ ys)) ≡ items_from l first_reading xs ++ item.Broken f (told_number (length xs + 1)) ∷ []
fault-brings l xs ys b f first =
    let s : Reading = went l first_reading (xs ++ b ∷ []) in
    let stops : s ≡ stopped f (told_number (length xs + 1)) = first_stops l xs b f first in
    brings-more l first_reading xs (b ∷ ys)
    ∙ ap (λ (z : List Item). items_from l first_reading xs ++ z)
    (brings-next l xs ys b (faultless_goes l xs first.0)
    ∙ (ap (λ (x : Reading). option_to_list (waiting x) ++ items_from l x ys) stops
    ∙ ap (λ (z : List Item). item.Broken f (told_number (length xs + 1)) ∷ z) (stopped-brings l f (told_number (length xs + 1)) ys)))

front-before : (xs ys : List ℕ) (b k : ℕ) (bytes : List ℕ) → bytes ≡ xs ++ (b ∷ ys) → k ≡ length xs + 1 → take (k - 1) bytes ≡ xs
front-before xs ys b k bytes e number =
    let same : k - 1 ≡ length xs = omega (arith, number) in
    ap (λ (n : ℕ). take n bytes) same ∙ (ap (take (length xs)) e ∙ front xs)
  where
    front : (xs : List ℕ) → take (length xs) (xs ++ (b ∷ ys)) ≡ xs
    front [] = refl
    front (x ∷ xs) = ap (λ (z : List ℕ). x ∷ z) (front xs)

-- Both ways.

pub items_are : (l : Limits) (bytes : List ℕ) → AreItems l bytes (items_from l first_reading bytes)
items_are l bytes = by (fault_or_none l bytes)
  where
    by : AreFaultless l bytes ⊎ ((k : ℕ) × (f : FrameFault) × IsFault l bytes k f) → AreItems l bytes (items_from l first_reading bytes)
    by (inl none) = inl (none, ending-is l [] bytes (faultless_goes l bytes none))
    by (inr (k, f, (xs, b, ys, e, number, first))) = inr (
      k,
      f,
      items_from l first_reading xs,
      (xs, b, ys, e, number, first),
      subst (λ (z : List ℕ). AreEnding (rules_of l) [] z (items_from l first_reading xs)) (sym (front-before xs ys b k bytes e number))
          (ending-is l [] xs (faultless_goes l xs first.0)),
      ap (items_from l first_reading) e
          ∙ (fault-brings l xs ys b f first ∙ ap (λ (n : ℕ). items_from l first_reading xs ++ item.Broken f (told_number n) ∷ []) (sym number)),
    )

pub only_items : (l : Limits) (bytes : List ℕ) (items : List Item) → AreItems l bytes items → items ≡ items_from l first_reading bytes
only_items l bytes items (inl (none, ending)) = ending-only l [] bytes items (faultless_goes l bytes none) ending
only_items l bytes items (inr (k, f, before, (xs, b, ys, e, number, first), ending, same)) =
    let here : AreEnding (rules_of l) [] xs before = subst (λ (z : List ℕ). AreEnding (rules_of l) [] z before) (front-before xs ys b k bytes e number) ending
    in
    same
    ∙ (ap (λ (z : List Item). z ++ item.Broken f (told_number k) ∷ []) (ending-only l [] xs before (faultless_goes l xs first.0) here)
    ∙ (ap (λ (n : ℕ). items_from l first_reading xs ++ item.Broken f (told_number n) ∷ []) number
    ∙ (sym (fault-brings l xs ys b f first) ∙ ap (items_from l first_reading) (sym e))))

pub one_list : (l : Limits) (bytes : List ℕ) (xs ys : List Item) → AreItems l bytes xs → AreItems l bytes ys → xs ≡ ys
one_list l bytes xs ys p q = only_items l bytes xs p ∙ sym (only_items l bytes ys q)

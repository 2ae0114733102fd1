-- A call after others, in the words of the grammar.
use Rattle.std.proofs.Common.{◌≡◌, ℕ, ◌≤◌, ◌⊎◌, inl, inr, List, [], ◌∷◌, ◌++◌, length, take, sym, ap, ◌∙◌, subst, true, arith}
use Rattle.std.proofs.lemmas.List.{take_all, take-append-le}
use Rattle.std.specs.Prelude.{Option, Some}
use Rattle.stanza_tree.specs.declared.node.Element.{Element}
use Rattle.stanza_tree.specs.Spelling.{text}
use Rattle.stream_grammar.specs.declared.FrameFault.{FrameFault}
use Rattle.stream_grammar.specs.declared.item.Item.{Item}
use Rattle.stream_grammar.specs.declared.item.Item.TheVariants as item
use Rattle.stream_grammar.specs.declared.item.Limits.{Limits}
use Rattle.stream_grammar.specs.grammar.Parts.{AreFaultless, IsFault}
use Rattle.stream_grammar.specs.machine.Reading.{Reading, first_reading, handed, is_ready, reading_after, taken, waiting, went}
use Rattle.stream_grammar.specs.grammar.Trees.{RawTag, Content}
use Rattle.stream_grammar.proofs.FeedLemmas.{piece_went}
use Rattle.stream_grammar.specs.machine.Calls.{Call, feeds, hands, Called, bytes_taken}
use Rattle.stream_grammar.specs.grammar.Takes.{IsTaken, AreTaken}
use Rattle.stream_laws.specs.Written.{IsWithin}
use Rattle.stream_laws.proofs.CallLemmas.{stands_there}
use Rattle.stream_laws.proofs.Handing.{went-more}
use Rattle.stream_laws.proofs.HandedLemmas.{HasBegun, text-some, handed-goes, written_taken, written_waits}
use Rattle.stream_laws.proofs.OneFault.{fault_or_none}
use Rattle.stream_laws.proofs.TakenLemmas.{handed-ready, piece_taken, faulty_taken}

-- a framer that is ready stands where the bytes lead
pub ready-stands : (l : Limits) (calls : List Call) (items : List Item) (t : Reading) → Called l first_reading calls items t → is_ready t ≡ true
    → t ≡ handed (went l first_reading (bytes_taken calls))
ready-stands l calls items t fed ready = sym (handed-ready t ready) ∙ stands_there l calls items t fed

pub next_taken : (l : Limits) (calls : List Call) (items later : List Item) (t u : Reading) (piece : List ℕ) (n : ℕ) → Called l first_reading calls items t
    → AreFaultless l (bytes_taken calls) → Called l t (feeds piece n ∷ []) later u
    → IsTaken l (bytes_taken calls) piece n
next_taken l calls items later t u piece n fed clean (ready, count, more) =
    subst (IsTaken l (bytes_taken calls) piece) (sym (count ∙ ap (λ (s : Reading). taken l s piece) (ready-stands l calls items t fed ready)))
    (piece_taken l (bytes_taken calls) piece clean)

-- the same, or all of a piece after a fault
pub next_are_taken : (l : Limits) (calls : List Call) (items : List Item) (t : Reading) (piece : List ℕ) → Called l first_reading calls items t
    → is_ready t ≡ true → AreTaken l (bytes_taken calls) piece (taken l t piece)
next_are_taken l calls items t piece fed ready = by (fault_or_none l (bytes_taken calls))
  where
    here : taken l t piece ≡ taken l (handed (went l first_reading (bytes_taken calls))) piece
    here = ap (λ (s : Reading). taken l s piece) (ready-stands l calls items t fed ready)

    by : AreFaultless l (bytes_taken calls) ⊎ ((k : ℕ) × (f : FrameFault) × IsFault l (bytes_taken calls) k f)
        → AreTaken l (bytes_taken calls) piece (taken l t piece)
    by (inl clean) = inl (clean, subst (IsTaken l (bytes_taken calls) piece) (sym here) (piece_taken l (bytes_taken calls) piece clean))
    by (inr (k, f, is)) = inr (k, f, is, here ∙ faulty_taken l (bytes_taken calls) piece k f is)

pub next_text : (l : Limits) (calls : List Call) (items later : List Item) (t u : Reading) (root : RawTag) (f : Content) (e : Element) (more : List ℕ) (n : ℕ)
    (next : Option Item)
    → Called l first_reading calls items t → HasBegun l (bytes_taken calls) root f → IsWithin l e
    → Called l t (feeds (text e ++ more) n ∷ hands next ∷ []) later u → (n ≡ length (text e)) × (next ≡ Some (item.Top e))
next_text l calls items later t u root f e more n next fed begun within (ready, count, (is, rest)) =
    let bytes : List ℕ = bytes_taken calls in
    let s : Reading = handed (went l first_reading bytes) in
    let here : t ≡ s = ready-stands l calls items t fed ready in
    let number : n ≡ length (text e) = count ∙ (ap (λ (x : Reading). taken l x (text e ++ more)) here ∙ written_taken l bytes root f e more begun within) in
    let fits : length (text e) ≤ length (text e) = omega arith in
    let front : take n (text e ++ more) ≡ text e = ap (λ (i : ℕ). take i (text e ++ more)) number
    ∙ (take-append-le (length (text e)) (text e) more fits ∙ take_all (length (text e)) (text e) fits) in
    let read : reading_after l t (take n (text e ++ more)) ≡ went l t (take n (text e ++ more)) =
    ap (λ (i : ℕ). reading_after l t (take i (text e ++ more))) count
    ∙ (piece_went l t (text e ++ more) ready ∙ ap (λ (i : ℕ). went l t (take i (text e ++ more))) (sym count)) in
    let there : went l t (take n (text e ++ more)) ≡ went l first_reading (bytes ++ text e) =
    ap (went l t) front ∙ (ap (λ (x : Reading). went l x (text e)) here
    ∙ (handed-goes l (went l first_reading bytes) (text e) (text-some l bytes root f e begun within) ∙ sym (went-more l first_reading bytes (text e)))) in
    (number, is ∙ (ap waiting (read ∙ there) ∙ written_waits l bytes root f e begun within))

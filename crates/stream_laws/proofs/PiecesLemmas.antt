-- Pieces that are fed to the end.
use Rattle.std.proofs.Common.{◌≡◌, ℕ, zero, suc, ◌+◌, ◌<◌, ◌≤◌, List, [], ◌∷◌, ◌++◌, length, take, drop, refl}
use Rattle.std.proofs.Common.{sym, ap, ◌∙◌, subst, append-nil, Bool, true, false, arith}
use Rattle.std.proofs.lemmas.List.{drop-append-le}
use Rattle.std.specs.Prelude.{option_to_list, if◌then◌else◌}
use Rattle.stream_grammar.specs.declared.item.Item.{Item}
use Rattle.stream_grammar.specs.declared.item.Limits.{Limits}
use Rattle.stream_grammar.specs.machine.Reading.{Reading, reads, stopped, first_reading, reading_next, reading_after}
use Rattle.stream_grammar.specs.machine.Reading.{is_done, is_ready, handed, taken, taken_reading, waiting}
use Rattle.stream_grammar.specs.grammar.ItemLists.{AreItems, to_fault}
use Rattle.stream_grammar.specs.machine.Calls.{Call, feeds, falls_short, hands, Called, bytes_taken}
use Rattle.stream_laws.specs.CallLists.{IsFedBy, joined, left_before, AreFed}
use Rattle.stream_laws.proofs.CallLemmas.{taken-fits, all_handed, fed-bytes}

joined-left : (left : List ℕ) (pieces : List (List ℕ)) → joined (left_before left pieces) ≡ left ++ joined pieces
joined-left [] pieces = refl
joined-left (b ∷ bs) pieces = refl

-- the pieces are what is fed, cut anywhere
one-piece : (l : Limits) (s : Reading) (fed piece : List ℕ) (pieces : List (List ℕ)) (n : ℕ) (calls : List Call) → n ≤ taken l s fed → fed ≡ piece
    → IsFedBy (joined (left_before (drop n piece) pieces)) calls []
    → ((more : List ℕ) × (joined (piece ∷ pieces) ≡ fed ++ more)) × IsFedBy (drop n (joined (piece ∷ pieces))) calls []
one-piece l s fed piece pieces n calls few same go =
    let fits : taken l s fed ≤ length fed = taken-fits l s fed in
    let long : length fed ≡ length piece = ap length same in
    let short : n ≤ length piece = omega (arith, few, fits, long) in
    let left : joined (left_before (drop n piece) pieces) ≡ drop n (joined (piece ∷ pieces)) = joined-left (drop n piece) pieces
    ∙ sym (drop-append-le n piece (joined pieces) short) in
    ((joined pieces, ap (λ (x : List ℕ). x ++ joined pieces) (sym same)), subst (λ (x : List ℕ). IsFedBy x calls []) left go)

pieces-fed : (calls : List Call) (l : Limits) (s t : Reading) (items : List Item) (pieces : List (List ℕ)) → Called l s calls items t → AreFed pieces calls
    → IsFedBy (joined pieces) calls []
pieces-fed [] l s t items pieces fed are = ap joined are
pieces-fed (hands next ∷ calls) l s t items pieces (is, (later, all, more)) are = pieces-fed calls l (handed s) t later pieces more are
pieces-fed (feeds fed n ∷ calls) l s t items [] (h, count, more) are = absurd are
pieces-fed (feeds fed n ∷ calls) l s t items (piece ∷ pieces) (h, count, more) (same, are) =
    one-piece l s fed piece pieces n calls (let e : n ≤ taken l s fed = omega (arith, count) in e) same
    (pieces-fed calls l (reading_after l s (take n fed)) t items (left_before (drop n piece) pieces) more are)
pieces-fed (falls_short fed n ∷ calls) l s t items [] (h, count, more) are = absurd are
pieces-fed (falls_short fed n ∷ calls) l s t items (piece ∷ pieces) (h, count, more) (same, are) =
    one-piece l s fed piece pieces n calls (let e : n ≤ taken l s fed = omega (arith, count) in e) same
    (pieces-fed calls l (reading_after l s (take n fed)) t items (left_before (drop n piece) pieces) more are)

pub pieces_handed : (l : Limits) (pieces : List (List ℕ)) (calls : List Call) (items : List Item) (t : Reading) → Called l first_reading calls items t
    → AreFed pieces calls → AreItems l (joined pieces) (to_fault (items ++ option_to_list (waiting t)))
pieces_handed l pieces calls items t fed are =
    subst (λ (x : List ℕ). AreItems l x (to_fault (items ++ option_to_list (waiting t))))
    (sym (fed-bytes calls l first_reading t items (joined pieces) [] fed (pieces-fed calls l first_reading t items pieces fed are)
    ∙ append-nil (bytes_taken calls))) (all_handed l calls items t fed)

-- Any pieces can be fed so.

some-taken : (l : Limits) (s : Reading) (bs : List ℕ) → 0 < length bs → 0 < taken l s bs
some-taken l (stopped f k) bs h = h
some-taken l (reads f b n k) [] h = h
some-taken l (reads f b n k) (c ∷ cs) h = by (is_done (reading_next l (reads f b n k) c))
  where
    by : (t : Bool) → 0 < (if t then 1 else 1 + taken_reading l (reading_next l (reads f b n k) c) cs)
    by true = omega arith
    by false = omega arith

-- bytes and pieces together
size : List (List ℕ) → ℕ
size [] = 0
size (piece ∷ pieces) = suc (length piece + size pieces)

left-size : (n : ℕ) (piece : List ℕ) (pieces : List (List ℕ)) → (0 < length piece → 0 < n) → size (left_before (drop n piece) pieces) < size (piece ∷ pieces)
unfolding size
left-size n [] pieces some = by n
  where
    by : (n : ℕ) → size (left_before (drop n []) pieces) < suc (0 + size pieces)
    by zero = omega arith
    by (suc n) = omega arith
left-size zero (b ∷ bs) pieces some = absurd (let bad : 0 < 0 = some (omega arith) in omega (arith, bad))
left-size (suc n) (b ∷ bs) pieces some = by (drop n bs) (shorter n bs)
  where
    shorter : (n : ℕ) (bs : List ℕ) → length (drop n bs) ≤ length bs
    shorter zero bs = omega arith
    shorter (suc n) [] = omega arith
    shorter (suc n) (b ∷ bs) = let k = shorter n bs in omega (arith, k)

    by : (left : List ℕ) → length left ≤ length bs → size (left_before left pieces) < suc (suc (length bs) + size pieces)
    by [] h = omega arith
    by (c ∷ cs) h = omega (arith, h)

handed-is-ready : (s : Reading) → is_ready (handed s) ≡ true
handed-is-ready (reads f b n k) = refl
handed-is-ready (stopped f k) = refl

abbrev pub Driven : Limits → Reading → List (List ℕ) → Type 0
Driven l s pieces = (calls : List Call) × (items : List Item) × (t : Reading) × Called l s calls items t × AreFed pieces calls × (is_ready t ≡ true)

drive : (m : ℕ) (l : Limits) (s : Reading) (pieces : List (List ℕ)) → is_ready s ≡ true → size pieces < m → Driven l s pieces
unfolding size
drive zero l s pieces h low = absurd (omega (arith, low))
drive (suc m) l s [] h low = ([], [], s, (refl, refl), refl, h)
drive (suc m) l s (piece ∷ pieces) h low =
    let n : ℕ = taken l s piece in
    let next : Reading = reading_after l s (take n piece) in
    let less : size (left_before (drop n piece) pieces) < size (piece ∷ pieces) = left-size n piece pieces (some-taken l s piece) in
    let (calls, items, t, fed, are, ready) =
    drive m l (handed next) (left_before (drop n piece) pieces) (handed-is-ready next)
    (let e : size (left_before (drop n piece) pieces) < m = omega (arith, less, low) in e) in
    (feeds piece n ∷ hands (waiting next) ∷ calls, option_to_list (waiting next) ++ items, t, (h, refl, (refl, (items, refl, fed))), (refl, are), ready)

pub any_pieces : (l : Limits) (pieces : List (List ℕ)) → Driven l first_reading pieces
any_pieces l pieces = drive (suc (size pieces)) l first_reading pieces refl (omega arith)

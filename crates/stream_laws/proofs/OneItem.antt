-- The items of further bytes, and bytes in which one item ends, with the last of them.
use Rattle.std.proofs.Common.{◌≡◌, ℕ, ◌+◌, ◌≤◌, inl, inr, List, [], ◌∷◌, ◌++◌, length, take, refl, sym, ap, ◌∙◌}
use Rattle.std.proofs.Common.{subst, append_assoc, append-nil, Bool, true, false, not, ◌||◌, arith}
use Rattle.std.proofs.lemmas.List.{append_cancel_left, take_all}
use Rattle.std.specs.Prelude.{Option, Some, None, option_to_list, if◌then◌else◌}
use Rattle.stanza_tree.specs.declared.node.Element.{Element}
use Rattle.stream_lex.proofs.Lists.{false-true}
use Rattle.stream_grammar.specs.declared.item.Item.{Item}
use Rattle.stream_grammar.specs.declared.item.Item.TheVariants as item
use Rattle.stream_grammar.specs.declared.item.Limits.{Limits}
use Rattle.stream_grammar.specs.grammar.Parts.{IsItem}
use Rattle.stream_grammar.specs.machine.Reading.{Reading, reads, stopped, first_reading, reading_next, reading_after, is_stopped}
use Rattle.stream_grammar.specs.machine.Reading.{is_ready, is_none, is_done, handed, taken, taken_reading, waiting, went}
use Rattle.stream_grammar.specs.grammar.Bounds.{rules_of}
use Rattle.stream_grammar.proofs.FeedLemmas.{piece_went, stopped_stays}
use Rattle.stream_grammar.specs.grammar.ItemLists.{AreItems, AreNext}
use Rattle.stream_laws.specs.ItemLists.{brought, items_from}
use Rattle.stream_laws.proofs.CallLemmas.{reached}
use Rattle.stream_laws.proofs.Faultless.{faultless_goes, goes-before}
use Rattle.stream_laws.proofs.Handing.{stopped-went, went-more}
use Rattle.stream_laws.proofs.HandedOut.{item_given}
use Rattle.stream_laws.proofs.ItemListLemmas.{brings-more, going-brings, items_are, one_list}
use Rattle.stream_laws.proofs.TakenLemmas.{handed-ready, going-ready, going-none}
use Rattle.stream_laws.proofs.Waiting.{item_waits}

-- The items of further bytes.

pub next_brought : (l : Limits) (before bytes : List ℕ) → AreNext l before bytes (items_from l (went l first_reading before) bytes)
next_brought l before bytes = (
  items_from l first_reading before,
  items_are l before,
  subst (AreItems l (before ++ bytes)) (brings-more l first_reading before bytes)
      (items_are l (before ++ bytes)),
)

pub one_next : (l : Limits) (before bytes : List ℕ) (xs ys : List Item) → AreNext l before bytes xs → AreNext l before bytes ys → xs ≡ ys
one_next l before bytes xs ys (old, is, all) (same, too, whole) =
    let one : old ≡ same = one_list l before old same is too in
    append_cancel_left old xs ys (one_list l (before ++ bytes) (old ++ xs) (same ++ ys) all whole ∙ ap (λ (x : List Item). x ++ ys) (sym one))

-- what waited before them makes no difference
pub handed-brings : (l : Limits) (s : Reading) (bs : List ℕ) → items_from l (handed s) bs ≡ items_from l s bs
handed-brings l (stopped f k) bs = refl
handed-brings l (reads f b n k) [] = refl
handed-brings l (reads f b n k) (c ∷ cs) = refl

handed-on : (l : Limits) (s : Reading) (b : ℕ) (bs : List ℕ) → went l (handed s) (b ∷ bs) ≡ went l s (b ∷ bs)
handed-on l (stopped f k) b bs = refl
handed-on l (reads f c n k) b bs = refl

handed-stands : (s : Reading) → is_stopped (handed s) ≡ is_stopped s
handed-stands (stopped f k) = refl
handed-stands (reads f b n k) = refl

handed-waits : (s : Reading) → is_ready (handed s) ≡ true
handed-waits (stopped f k) = refl
handed-waits (reads f b n k) = refl

going-taken : (l : Limits) (s : Reading) (bs : List ℕ) → is_stopped s ≡ false → taken l s bs ≡ taken_reading l s bs
going-taken l (stopped f k) bs o = false-true (sym o)
going-taken l (reads f b n k) bs o = refl

-- The last of some bytes.

split-last : (b : ℕ) (bs : List ℕ) → (xs : List ℕ) × (c : ℕ) × (b ∷ bs ≡ xs ++ c ∷ [])
split-last b [] = ([], b, refl)
split-last b (c ∷ cs) = let (xs, d, e) = split-last c cs in (b ∷ xs, d, ap (λ (l : List ℕ). b ∷ l) e)

last-item : List Item → Option Item
last-item [] = None
last-item (x ∷ []) = Some x
last-item (x ∷ y ∷ ys) = last-item (y ∷ ys)

last-is : (xs : List Item) (x : Item) → last-item (xs ++ x ∷ []) ≡ Some x
unfolding last-item
last-is [] x = refl
last-is (y ∷ []) x = refl
last-is (y ∷ z ∷ zs) x = last-is (z ∷ zs) x

top-goes : (s : Reading) (e : Element) → waiting s ≡ Some (item.Top e) → is_stopped s ≡ false
top-goes (reads f b n k) e h = refl
top-goes (stopped f k) e h = absurd (cc)

went-goes : (l : Limits) (s : Reading) (bs : List ℕ) → is_stopped (went l s bs) ≡ false → is_stopped s ≡ false
went-goes l (reads f b n k) bs h = refl
went-goes l (stopped f k) bs h = false-true (sym h ∙ ap is_stopped (stopped-went l f k bs))

after-goes : (l : Limits) (s : Reading) (bs : List ℕ) → is_stopped (reading_after l s bs) ≡ false → is_stopped s ≡ false
after-goes l (reads f b n k) bs h = refl
after-goes l (stopped f k) bs h = false-true (sym h ∙ ap is_stopped (stopped_stays l f k bs))

-- Bytes that were taken whole, and what waits after them.

pub one_read : (l : Limits) (before : List ℕ) (b : ℕ) (bs : List ℕ) (e : Element)
    → taken l (handed (went l first_reading before)) (b ∷ bs) ≡ length (b ∷ bs)
    → waiting (reading_after l (handed (went l first_reading before)) (b ∷ bs)) ≡ Some (item.Top e)
    → AreNext l before (b ∷ bs) (item.Top e ∷ []) × IsItem (rules_of l) (before ++ (b ∷ bs)) (item.Top e)
one_read l before b bs e count waits = (subst (AreNext l before (b ∷ bs)) items (next_brought l before (b ∷ bs)), by (split-last b bs))
  where
    s : Reading
    s = handed (went l first_reading before)

    on : is_stopped (handed (went l first_reading before)) ≡ false
    on = after-goes l (handed (went l first_reading before)) (b ∷ bs) (top-goes (reading_after l (handed (went l first_reading before)) (b ∷ bs)) e waits)

    few : length (b ∷ bs) ≤ taken_reading l s (b ∷ bs)
    few = let same : taken_reading l s (b ∷ bs) ≡ length (b ∷ bs) = sym (going-taken l s (b ∷ bs) on) ∙ count in omega (arith, same)

    all : take (length (b ∷ bs)) (b ∷ bs) ≡ b ∷ bs
    all = take_all (length (b ∷ bs)) (b ∷ bs) (omega arith)

    both : (reading_after l s (b ∷ bs) ≡ went l s (b ∷ bs)) × (items_from l s (b ∷ bs) ≡ option_to_list (waiting (went l s (b ∷ bs))))
    both =
        subst (λ (x : List ℕ). (reading_after l s x ≡ went l s x) × (items_from l s x ≡ option_to_list (waiting (went l s x)))) all
        (reached (b ∷ bs) l s (length (b ∷ bs)) on (handed-waits (went l first_reading before)) few)

    there : waiting (went l s (b ∷ bs)) ≡ Some (item.Top e)
    there = ap waiting (sym both.0) ∙ waits

    items : items_from l (went l first_reading before) (b ∷ bs) ≡ item.Top e ∷ []
    items = sym (handed-brings l (went l first_reading before) (b ∷ bs)) ∙ (both.1 ∙ ap option_to_list there)

    whole : waiting (went l first_reading (before ++ (b ∷ bs))) ≡ Some (item.Top e)
    whole = ap waiting (went-more l first_reading before (b ∷ bs) ∙ sym (handed-on l (went l first_reading before) b bs)) ∙ there

    by : ((xs : List ℕ) × (c : ℕ) × (b ∷ bs ≡ xs ++ c ∷ [])) → IsItem (rules_of l) (before ++ (b ∷ bs)) (item.Top e)
    by (xs, c, same) =
        let split : before ++ (b ∷ bs) ≡ (before ++ xs) ++ c ∷ [] = ap (λ (x : List ℕ). before ++ x) same ∙ sym (append_assoc before xs (c ∷ [])) in
        let here : waiting (went l first_reading ((before ++ xs) ++ c ∷ [])) ≡ Some (item.Top e) =
        ap (λ (x : List ℕ). waiting (went l first_reading x)) (sym split) ∙ whole in
        subst (λ (x : List ℕ). IsItem (rules_of l) x (item.Top e)) (sym split)
        (item_waits l (before ++ xs) c (item.Top e) (top-goes (went l first_reading ((before ++ xs) ++ c ∷ [])) e here) here)

-- Bytes in which one item ends.

empty-right : (xs ys : List Item) → xs ++ ys ≡ [] → ys ≡ []
empty-right [] ys h = h
empty-right (x ∷ xs) ys h = absurd (cc)

some-brought : (cs : List ℕ) (c : ℕ) (l : Limits) (s : Reading) (y : Item) → is_stopped s ≡ false → items_from l s (c ∷ cs) ≡ []
    → is_stopped (went l s (c ∷ cs)) ≡ false → waiting (went l s (c ∷ cs)) ≡ Some y → ⊥
some-brought [] c l s y o none on waits =
    let told : y ∷ [] ≡ [] = ap option_to_list (sym waits)
    ∙ (sym (going-brings s (waiting (went l s (c ∷ []))) o) ∙ (sym (append-nil (brought s (waiting (went l s (c ∷ []))))) ∙ none)) in
    some-none y told
  where
    some-none : (y : Item) → y ∷ [] ≡ [] → ⊥
    some-none y h = cc
some-brought (d ∷ cs) c l s y o none on waits =
    some-brought cs d l (went l s (c ∷ [])) y (went-goes l (went l s (c ∷ [])) (d ∷ cs) on)
    (empty-right (brought s (waiting (went l s (c ∷ [])))) (items_from l (went l s (c ∷ [])) (d ∷ cs)) none) on waits

item-of : (s : Reading) → is_done s ≡ true → is_stopped s ≡ false → (i : Item) × (waiting s ≡ Some i)
item-of (stopped f k) h o = false-true (sym o)
item-of (reads f b n k) h o = by b.item h
  where
    by : (i : Option Item) → (false || not (is_none i)) ≡ true → (x : Item) × (i ≡ Some x)
    by None h = false-true h
    by (Some i) h = (i, refl)

tail-empty : (i x : Item) (ys : List Item) → i ∷ ys ≡ x ∷ [] → ys ≡ []
tail-empty i x ys h = cc

whole-taken : (bs : List ℕ) (l : Limits) (s : Reading) (x y : Item) → is_stopped s ≡ false → is_ready s ≡ true → items_from l s bs ≡ x ∷ []
    → is_stopped (went l s bs) ≡ false → waiting (went l s bs) ≡ Some y
    → taken_reading l s bs ≡ length bs
whole-taken [] l s x y o h items on waits = refl
whole-taken (b ∷ bs) l s x y o h items on waits =
    by (is_done (reading_next l s b)) refl (λ p q r. whole-taken bs l (reading_next l s b) x y p q r on-next waits-next)
  where
    same : went l s (b ∷ []) ≡ reading_next l s b
    same = ap (λ (z : Reading). reading_next l z b) (handed-ready s h)

    on-next : is_stopped (went l (reading_next l s b) bs) ≡ false
    on-next = ap (λ (z : Reading). is_stopped (went l (reading_next l z b) bs)) (sym (handed-ready s h)) ∙ on

    waits-next : waiting (went l (reading_next l s b) bs) ≡ Some y
    waits-next = ap (λ (z : Reading). waiting (went l (reading_next l z b) bs)) (sym (handed-ready s h)) ∙ waits

    first : option_to_list (waiting (reading_next l s b)) ++ items_from l (reading_next l s b) bs ≡ x ∷ []
    first =
        sym (ap (λ (z : List Item). z ++ items_from l (went l s (b ∷ [])) bs) (going-brings s (waiting (went l s (b ∷ []))) o)
        ∙ ap (λ (z : Reading). option_to_list (waiting z) ++ items_from l z bs) same)
        ∙ items

    going : is_stopped (reading_next l s b) ≡ false
    going = went-goes l (reading_next l s b) bs on-next

    last : (cs : List ℕ) → items_from l (reading_next l s b) cs ≡ [] → is_stopped (went l (reading_next l s b) cs) ≡ false
        → waiting (went l (reading_next l s b) cs) ≡ Some y → 1 ≡ length (b ∷ cs)
    last [] none still w = refl
    last (c ∷ cs) none still w = absurd (some-brought cs c l (reading_next l s b) y going none still w)

    by : (d : Bool) → is_done (reading_next l s b) ≡ d
        → (is_stopped (reading_next l s b) ≡ false → is_ready (reading_next l s b) ≡ true → items_from l (reading_next l s b) bs ≡ x ∷ []
        → taken_reading l (reading_next l s b) bs ≡ length bs)
        → (if d then 1 else 1 + taken_reading l (reading_next l s b) bs) ≡ length (b ∷ bs)
    by true e go =
        let (i, w) = item-of (reading_next l s b) e going in
        let none : items_from l (reading_next l s b) bs ≡ [] =
        tail-empty i x (items_from l (reading_next l s b) bs) (ap (λ (z : Option Item). option_to_list z ++ items_from l (reading_next l s b) bs) (sym w)
        ∙ first) in
        last bs none on-next waits-next
    by false e go =
        let (still, none) = going-none (reading_next l s b) e in
        let rest : items_from l (reading_next l s b) bs ≡ x ∷ [] = ap (λ (z : Option Item). option_to_list z ++ items_from l (reading_next l s b) bs) (sym none)
        ∙ first in
        let more : taken_reading l (reading_next l s b) bs ≡ length bs = go still (going-ready (reading_next l s b) e) rest in
        omega (arith, more)

next-goes : (l : Limits) (before bytes : List ℕ) (e : Element) → AreNext l before bytes (item.Top e ∷ [])
    → is_stopped (went l first_reading (before ++ bytes)) ≡ false
next-goes l before bytes e (old, is, inl (none, ending)) = faultless_goes l (before ++ bytes) none
next-goes l before bytes e (old, is, inr (k, f, front, fault, ending, same)) =
    absurd (apart (sym (last-is old (item.Top e)) ∙ (ap last-item same ∙ last-is front (item.Broken f _))))
  where
    apart : {g : _} {n : ℕ} → Some (item.Top e) ≡ Some (item.Broken g n) → ⊥
    apart h = cc

pub one_taken : (l : Limits) (before : List ℕ) (b : ℕ) (bs : List ℕ) (e : Element) → AreNext l before (b ∷ bs) (item.Top e ∷ [])
    → IsItem (rules_of l) (before ++ (b ∷ bs)) (item.Top e)
    → (taken l (handed (went l first_reading before)) (b ∷ bs) ≡ length (b ∷ bs))
    × (waiting (reading_after l (handed (went l first_reading before)) (b ∷ bs)) ≡ Some (item.Top e))
one_taken l before b bs e next is = (count, ap waiting read ∙ there)
  where
    on : is_stopped (went l first_reading (before ++ (b ∷ bs))) ≡ false
    on = next-goes l before (b ∷ bs) e next

    still : is_stopped (handed (went l first_reading before)) ≡ false
    still = handed-stands (went l first_reading before) ∙ goes-before l before (b ∷ bs) on

    path : went l (handed (went l first_reading before)) (b ∷ bs) ≡ went l first_reading (before ++ (b ∷ bs))
    path = handed-on l (went l first_reading before) b bs ∙ sym (went-more l first_reading before (b ∷ bs))

    by : ((xs : List ℕ) × (c : ℕ) × (b ∷ bs ≡ xs ++ c ∷ [])) → waiting (went l first_reading (before ++ (b ∷ bs))) ≡ Some (item.Top e)
    by (xs, c, same) =
        let split : before ++ (b ∷ bs) ≡ (before ++ xs) ++ c ∷ [] = ap (λ (x : List ℕ). before ++ x) same ∙ sym (append_assoc before xs (c ∷ [])) in
        ap (λ (x : List ℕ). waiting (went l first_reading x)) split
        ∙ item_given l (before ++ xs) c (item.Top e) (ap (λ (x : List ℕ). is_stopped (went l first_reading x)) (sym split)
        ∙ on) (subst (λ (x : List ℕ). IsItem (rules_of l) x (item.Top e)) split is)

    there : waiting (went l (handed (went l first_reading before)) (b ∷ bs)) ≡ Some (item.Top e)
    there = ap waiting path ∙ by (split-last b bs)

    items : items_from l (handed (went l first_reading before)) (b ∷ bs) ≡ item.Top e ∷ []
    items = handed-brings l (went l first_reading before) (b ∷ bs)
        ∙ one_next l before (b ∷ bs) (items_from l (went l first_reading before) (b ∷ bs)) (item.Top e ∷ []) (next_brought l before (b ∷ bs)) next

    count : taken l (handed (went l first_reading before)) (b ∷ bs) ≡ length (b ∷ bs)
    count =
        going-taken l (handed (went l first_reading before)) (b ∷ bs) still
        ∙ whole-taken (b ∷ bs) l (handed (went l first_reading before)) (item.Top e) (item.Top e) still (handed-waits (went l first_reading before)) items
        (ap is_stopped path ∙ on) there

    all : take (taken l (handed (went l first_reading before)) (b ∷ bs)) (b ∷ bs) ≡ b ∷ bs
    all = take_all (taken l (handed (went l first_reading before)) (b ∷ bs)) (b ∷ bs) (omega (arith, count))

    read : reading_after l (handed (went l first_reading before)) (b ∷ bs) ≡ went l (handed (went l first_reading before)) (b ∷ bs)
    read =
        subst (λ (x : List ℕ). reading_after l (handed (went l first_reading before)) x ≡ went l (handed (went l first_reading before)) x) all
        (piece_went l (handed (went l first_reading before)) (b ∷ bs) (handed-waits (went l first_reading before)))

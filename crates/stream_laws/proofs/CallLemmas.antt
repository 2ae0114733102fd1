-- What `next` hands out in all.
use Rattle.std.proofs.Common.{◌≡◌, ℕ, zero, suc, ◌+◌, ◌≤◌, inl, inr, List, [], ◌∷◌, ◌++◌, length, take, drop, refl, sym}
use Rattle.std.proofs.Common.{ap, ◌∙◌, subst, append_assoc, append-nil, Bool, true, false, arith}
use Rattle.std.specs.Prelude.{Option, Some, None, option_to_list, if◌then◌else◌}
use Rattle.std.proofs.lemmas.List.{take-append-drop, take-append-le}
use Rattle.stream_lex.proofs.Lists.{false-true}
use Rattle.stream_grammar.specs.declared.FrameFault.{FrameFault}
use Rattle.stream_grammar.specs.declared.item.Item.{Item}
use Rattle.stream_grammar.specs.declared.item.Item.TheVariants as item
use Rattle.stream_grammar.specs.declared.item.Limits.{Limits}
use Rattle.stream_grammar.specs.declared.rules.Rules.{Rules}
use Rattle.stream_grammar.specs.machine.Building.{Building}
use Rattle.stream_grammar.specs.machine.Framing.{Frame}
use Rattle.stream_grammar.specs.grammar.Parts.{IsItem}
use Rattle.stream_grammar.specs.machine.Reading.{Reading, reads, stopped, first_reading, reading_next, reading_after, is_stopped}
use Rattle.stream_grammar.specs.machine.Reading.{is_ready, is_none, is_done, handed, taken, taken_reading, waiting, went}
use Rattle.stream_grammar.specs.grammar.Bounds.{rules_of}
use Rattle.stream_grammar.proofs.FeedLemmas.{stopped_stays}
use Rattle.stream_grammar.specs.grammar.ItemLists.{AreEnding, AreItems, is_fault, to_fault}
use Rattle.stream_laws.specs.ItemLists.{brought, items_from}
use Rattle.stream_grammar.specs.machine.Calls.{Call, feeds, falls_short, hands, Called, bytes_taken}
use Rattle.stream_laws.specs.CallLists.{IsFedBy}
use Rattle.stream_laws.proofs.Handing.{stopped-went, went-more}
use Rattle.stream_laws.proofs.ItemListLemmas.{brings-more, stopped-brings, ending-is, items_are}
use Rattle.stream_laws.proofs.TakenLemmas.{handed-ready, going-ready, going-none}

-- Some bytes of a piece, as many at most as are taken at once: an item ends with the last of them, or none.

abbrev pub Reached : Limits → Reading → List ℕ → Type 0
Reached l s bs = (reading_after l s bs ≡ went l s bs) × (items_from l s bs ≡ option_to_list (waiting (went l s bs)))

none-reached : (l : Limits) (f : Reading) → is_stopped f ≡ false → waiting f ≡ None → Reached l f []
none-reached l f o none = (refl, ap option_to_list (sym none))

ready-none : (s : Reading) → is_stopped s ≡ false → is_ready s ≡ true → waiting s ≡ None
ready-none (stopped f k) o h = false-true (sym o)
ready-none (reads f b n k) o h = by b.item h
  where
    by : (i : Option Item) → is_none i ≡ true → i ≡ None
    by None h = refl
    by (Some i) h = false-true h

going-brought : (s : Reading) (o : Option Item) → is_stopped s ≡ false → brought s o ≡ option_to_list o
going-brought (reads f b n k) o h = refl
going-brought (stopped f k) o h = false-true (sym h)

pub reached : (bs : List ℕ) (l : Limits) (s : Reading) (n : ℕ) → is_stopped s ≡ false → is_ready s ≡ true → n ≤ taken_reading l s bs → Reached l s (take n bs)
reached bs l s zero o h few = none-reached l s o (ready-none s o h)
reached [] l s (suc n) o h few = none-reached l s o (ready-none s o h)
reached (b ∷ bs) l s (suc n) o h few = by (is_done (reading_next l s b)) refl few (λ p q r. reached bs l (reading_next l s b) n p q r)
  where
    same : went l s (b ∷ []) ≡ reading_next l s b
    same = ap (λ (x : Reading). reading_next l x b) (handed-ready s h)

    first : (ys : List ℕ) → items_from l s (b ∷ ys) ≡ option_to_list (waiting (reading_next l s b)) ++ items_from l (reading_next l s b) ys
    first ys = ap (λ (x : List Item). x ++ items_from l (went l s (b ∷ [])) ys) (going-brought s (waiting (went l s (b ∷ []))) o)
        ∙ ap (λ (x : Reading). option_to_list (waiting x) ++ items_from l x ys) same

    by : (t : Bool) → is_done (reading_next l s b) ≡ t → suc n ≤ (if t then 1 else 1 + taken_reading l (reading_next l s b) bs)
        → (is_stopped (reading_next l s b) ≡ false → is_ready (reading_next l s b) ≡ true → n ≤ taken_reading l (reading_next l s b) bs
        → Reached l (reading_next l s b) (take n bs))
        → Reached l s (b ∷ take n bs)
    by true e m go =
        let last : n ≡ 0 = omega (arith, m) in
        subst (λ (i : ℕ). Reached l s (b ∷ take i bs)) (sym last) (
          sym same,
          first []
              ∙ (append-nil (option_to_list (waiting (reading_next l s b))) ∙ ap (λ (x : Reading). option_to_list (waiting x)) (sym same)),
        )
    by false e m go =
        let (on, none) = going-none (reading_next l s b) e in
        let (read, told) = go on (going-ready (reading_next l s b) e) (let k : n ≤ taken_reading l (reading_next l s b) bs = omega (arith, m) in k) in (
          read ∙ ap (λ (x : Reading). went l x (take n bs)) (sym same),
          first (take n bs)
              ∙ (ap (λ (x : Option Item). option_to_list x ++ items_from l (reading_next l s b) (take n bs)) none
              ∙ (told ∙ ap (λ (x : Reading). option_to_list (waiting (went l x (take n bs)))) (sym same))),
        )

-- Up to the first fault.

fault-more : (xs ys zs : List Item) → to_fault ys ≡ to_fault zs → to_fault (xs ++ ys) ≡ to_fault (xs ++ zs)
fault-more [] ys zs e = e
fault-more (x ∷ xs) ys zs e = ap (λ (l : List Item). x ∷ (if is_fault x then [] else l)) (fault-more xs ys zs e)

-- What waits at a reading, and what comes of the bytes after it.

abbrev told_on : Limits → Reading → List ℕ → List Item
told_on l s bs = option_to_list (waiting s) ++ items_from l s bs

told-stopped : (l : Limits) (f : FrameFault) (k : ℕ) (bs : List ℕ) → told_on l (stopped f k) bs ≡ item.Broken f k ∷ []
told-stopped l f k bs = ap (λ (x : List Item). item.Broken f k ∷ x) (stopped-brings l f k bs)

-- a feed, whole or cut short
abbrev IsFew : Limits → Reading → List ℕ → ℕ → Type 0
IsFew l s piece n = n ≤ taken l s piece

told-fed : (l : Limits) (s : Reading) (piece rest : List ℕ) (n : ℕ) → is_ready s ≡ true → IsFew l s piece n
    → told_on l (reading_after l s (take n piece)) rest ≡ told_on l s (take n piece ++ rest)
told-fed l (stopped f k) piece rest n h few =
    ap (λ (x : Reading). told_on l x rest) (stopped_stays l f k (take n piece)) ∙ (told-stopped l f k rest ∙ sym (told-stopped l f k (take n piece ++ rest)))
told-fed l (reads f b m k) piece rest n h few =
    let s : Reading = reads f b m k in
    let (read, told) = reached piece l s n refl h few in
    let none : waiting s ≡ None = ready-none s refl h in
    ap (λ (x : Reading). told_on l x rest) read
    ∙ (ap (λ (x : List Item). x ++ items_from l (went l s (take n piece)) rest) (sym told)
    ∙ (sym (brings-more l s (take n piece) rest) ∙ ap (λ (o : Option Item). option_to_list o ++ items_from l s (take n piece ++ rest)) (sym none)))

told-handed : (l : Limits) (s : Reading) (later : List Item) (rest : List ℕ) → to_fault later ≡ to_fault (told_on l (handed s) rest)
    → to_fault (option_to_list (waiting s) ++ later) ≡ to_fault (told_on l s rest)
told-handed l (stopped f k) later rest e = ap to_fault (sym (told-stopped l f k rest))
told-handed l (reads f b n k) later rest e =
    fault-more (option_to_list b.item) later (items_from l (reads f b n k) rest) (e ∙ ap to_fault (same rest))
  where
    same : (rest : List ℕ) → items_from l (handed (reads f b n k)) rest ≡ items_from l (reads f b n k) rest
    same [] = refl
    same (c ∷ cs) = refl

pub fed-tells : (calls : List Call) (l : Limits) (s t : Reading) (items : List Item) → Called l s calls items t
    → to_fault (items ++ option_to_list (waiting t)) ≡ to_fault (told_on l s (bytes_taken calls))
fed-tells [] l s t items (none, e) = ap (λ (x : List Item). to_fault (x ++ option_to_list (waiting t))) none
    ∙ (ap (λ (x : Reading). to_fault (option_to_list (waiting x))) e ∙ ap to_fault (sym (append-nil (option_to_list (waiting s)))))
fed-tells (feeds piece n ∷ calls) l s t items (h, count, more) =
    fed-tells calls l (reading_after l s (take n piece)) t items more
    ∙ ap to_fault (told-fed l s piece (bytes_taken calls) n h (let e : n ≤ taken l s piece = omega (arith, count) in e))
fed-tells (falls_short piece n ∷ calls) l s t items (h, count, more) =
    fed-tells calls l (reading_after l s (take n piece)) t items more
    ∙ ap to_fault (told-fed l s piece (bytes_taken calls) n h (let e : n ≤ taken l s piece = omega (arith, count) in e))
fed-tells (hands next ∷ calls) l s t items (is, (later, all, more)) =
    ap (λ (x : List Item). to_fault (x ++ option_to_list (waiting t))) all
    ∙ (ap to_fault (append_assoc (option_to_list next) later (option_to_list (waiting t)))
    ∙ (ap (λ (o : Option Item). to_fault (option_to_list o ++ (later ++ option_to_list (waiting t)))) is
    ∙ told-handed l s (later ++ option_to_list (waiting t)) (bytes_taken calls) (fed-tells calls l (handed s) t later more)))

-- Where the framer stands.

handed-went : (l : Limits) (s : Reading) (bs : List ℕ) → handed (went l (handed s) bs) ≡ handed (went l s bs)
handed-went l (stopped f k) bs = refl
handed-went l (reads f b n k) [] = refl
handed-went l (reads f b n k) (c ∷ cs) = refl

fed-on : (l : Limits) (s : Reading) (piece : List ℕ) (n : ℕ) → is_ready s ≡ true → IsFew l s piece n
    → reading_after l s (take n piece) ≡ went l s (take n piece)
fed-on l (stopped f k) piece n h few = stopped_stays l f k (take n piece) ∙ sym (stopped-went l f k (take n piece))
fed-on l (reads f b m k) piece n h few = (reached piece l (reads f b m k) n refl h few).0

stands-more : (l : Limits) (s t : Reading) (piece rest : List ℕ) (n : ℕ) → is_ready s ≡ true → IsFew l s piece n
    → handed t ≡ handed (went l (reading_after l s (take n piece)) rest) → handed t ≡ handed (went l s (take n piece ++ rest))
stands-more l s t piece rest n h few e = e
    ∙ (ap (λ (x : Reading). handed (went l x rest)) (fed-on l s piece n h few) ∙ ap handed (sym (went-more l s (take n piece) rest)))

pub fed-stands : (calls : List Call) (l : Limits) (s t : Reading) (items : List Item) → Called l s calls items t
    → handed t ≡ handed (went l s (bytes_taken calls))
fed-stands [] l s t items (none, e) = ap handed e
fed-stands (feeds piece n ∷ calls) l s t items (h, count, more) =
    stands-more l s t piece (bytes_taken calls) n h (let e : n ≤ taken l s piece = omega (arith, count) in e)
    (fed-stands calls l (reading_after l s (take n piece)) t items more)
fed-stands (falls_short piece n ∷ calls) l s t items (h, count, more) =
    stands-more l s t piece (bytes_taken calls) n h (let e : n ≤ taken l s piece = omega (arith, count) in e)
    (fed-stands calls l (reading_after l s (take n piece)) t items more)
fed-stands (hands next ∷ calls) l s t items (is, (later, all, more)) = fed-stands calls l (handed s) t later more ∙ handed-went l s (bytes_taken calls)

-- From the first byte.

no-fault : (i : Item) (r : Rules) (bytes : List ℕ) → IsItem r bytes i → is_fault i ≡ false
no-fault (item.Header e space) r bytes is = refl
no-fault (item.Top e) r bytes is = refl
no-fault item.CloseTag r bytes is = refl
no-fault (item.Broken f k) r bytes is = absurd is

-- a list that is its own part up to the first fault
ending-whole : (r : Rules) (xs ys : List ℕ) (items more : List Item) → AreEnding r xs ys items → to_fault (items ++ more) ≡ items ++ to_fault more
ending-whole r xs [] items more e = ap (λ (x : List Item). to_fault (x ++ more)) e ∙ ap (λ (x : List Item). x ++ to_fault more) (sym e)
ending-whole r xs (b ∷ ys) items more (inl (i, later, is, ending, e)) =
    ap (λ (x : List Item). to_fault (x ++ more)) e
    ∙ (ap (λ (t : Bool). i ∷ (if t then [] else to_fault (later ++ more))) (no-fault i r (xs ++ b ∷ []) is)
    ∙ (ap (λ (x : List Item). i ∷ x) (ending-whole r (xs ++ b ∷ []) ys later more ending) ∙ ap (λ (x : List Item). x ++ to_fault more) (sym e)))
ending-whole r xs (b ∷ ys) items more (inr (never, ending)) = ending-whole r (xs ++ b ∷ []) ys items more ending

items-whole : (l : Limits) (bytes : List ℕ) (items : List Item) → AreItems l bytes items → to_fault items ≡ items
items-whole l bytes items (inl (none, ending)) = ap to_fault (sym (append-nil items)) ∙ (ending-whole (rules_of l) [] bytes items [] ending ∙ append-nil items)
items-whole l bytes items (inr (k, f, before, is, ending, e)) = ap to_fault e ∙ (ending-whole (rules_of l) [] _ before (item.Broken f _ ∷ []) ending ∙ sym e)

pub all_handed : (l : Limits) (calls : List Call) (items : List Item) (t : Reading) → Called l first_reading calls items t
    → AreItems l (bytes_taken calls) (to_fault (items ++ option_to_list (waiting t)))
all_handed l calls items t fed =
    let are = items_are l (bytes_taken calls) in
    subst (AreItems l (bytes_taken calls))
    (sym (fed-tells calls l first_reading t items fed ∙ items-whole l (bytes_taken calls) (items_from l first_reading (bytes_taken calls)) are)) are

-- where nothing waits there was no fault
abbrev HasNoFault : List Item → Type 0
HasNoFault [] = Unit {0}
HasNoFault (i ∷ items) = (is_fault i ≡ false) × HasNoFault items

ending-clean : (r : Rules) (xs ys : List ℕ) (items : List Item) → AreEnding r xs ys items → HasNoFault items
ending-clean r xs [] items e = subst HasNoFault (sym e) tt
ending-clean r xs (b ∷ ys) items (inl (i, later, is, ending, e)) =
    subst HasNoFault (sym e) (no-fault i r (xs ++ b ∷ []) is, ending-clean r (xs ++ b ∷ []) ys later ending)
ending-clean r xs (b ∷ ys) items (inr (never, ending)) = ending-clean r (xs ++ b ∷ []) ys items ending

clean-whole : (items : List Item) → HasNoFault (to_fault items) → to_fault items ≡ items
clean-whole [] h = refl
clean-whole (i ∷ items) h = by (is_fault i) refl h.0 h.1 (λ k. clean-whole items k)
  where
    by : (t : Bool) → is_fault i ≡ t → t ≡ false → HasNoFault (if t then [] else to_fault items) → (HasNoFault (to_fault items) → to_fault items ≡ items)
        → i ∷ (if t then [] else to_fault items) ≡ i ∷ items
    by true e h k go = false-true (sym h)
    by false e h k go = ap (λ (x : List Item). i ∷ x) (go k)

nothing-stopped : (s t : Reading) → waiting t ≡ None → handed t ≡ handed s → is_stopped s ≡ false
nothing-stopped (reads f b n k) t none e = refl
nothing-stopped (stopped f k) (reads g c n m) none e = absurd (apart _ _ _ _ _ _ e)
  where
    apart : (g : Frame) (c : Building) (n m : ℕ) (f : FrameFault) (k : ℕ) → reads g c n m ≡ stopped f k → ⊥
    apart g c n m f k e = cc
nothing-stopped (stopped f k) (stopped g m) none e = absurd (some-none _ none)
  where
    some-none : {X : Type 0} (x : X) → Some x ≡ None → ⊥
    some-none x e = cc

pub none_left : (l : Limits) (calls : List Call) (items : List Item) (t : Reading) → Called l first_reading calls items t → waiting t ≡ None
    → AreItems l (bytes_taken calls) items
none_left l calls items t fed none =
    let bytes : List ℕ = bytes_taken calls in
    let on : is_stopped (went l first_reading bytes) ≡ false =
    nothing-stopped (went l first_reading bytes) t none (fed-stands calls l first_reading t items fed) in
    let ending : AreEnding (rules_of l) [] bytes (items_from l first_reading bytes) = ending-is l [] bytes on in
    let clean : HasNoFault (items_from l first_reading bytes) = ending-clean (rules_of l) [] bytes (items_from l first_reading bytes) ending in
    let are = items_are l bytes in
    let same : to_fault (items_from l first_reading bytes) ≡ items_from l first_reading bytes = items-whole l bytes (items_from l first_reading bytes) are in
    let told : to_fault items ≡ items_from l first_reading bytes =
    ap to_fault (sym (append-nil items))
    ∙ (ap (λ (o : Option Item). to_fault (items ++ option_to_list o)) (sym none) ∙ (fed-tells calls l first_reading t items fed ∙ same)) in
    subst (AreItems l bytes) (sym told ∙ clean-whole items (subst HasNoFault (sym told) clean)) are

pub stands_there : (l : Limits) (calls : List Call) (items : List Item) (t : Reading) → Called l first_reading calls items t
    → handed t ≡ handed (went l first_reading (bytes_taken calls))
stands_there l calls items t fed = fed-stands calls l first_reading t items fed

-- The bytes that were fed are those that were taken, and the rest.

pub taken-fits : (l : Limits) (s : Reading) (bs : List ℕ) → taken l s bs ≤ length bs
taken-fits l (stopped f k) bs = omega arith
taken-fits l (reads f b n k) bs = fits bs (reads f b n k)
  where
    fits : (bs : List ℕ) (s : Reading) → taken_reading l s bs ≤ length bs
    fits [] s = omega arith
    fits (c ∷ cs) s = by (is_done (reading_next l s c)) (fits cs (reading_next l s c))
      where
        by : (t : Bool) → taken_reading l (reading_next l s c) cs ≤ length cs → (if t then 1 else 1 + taken_reading l (reading_next l s c) cs) ≤ suc (length cs)
        by true h = omega arith
        by false h = omega (arith, h)

one-fed : (l : Limits) (s : Reading) (piece more bytes after rest : List ℕ) (n : ℕ) → IsFew l s piece n → bytes ≡ piece ++ more → drop n bytes ≡ after ++ rest
    → bytes ≡ (take n piece ++ after) ++ rest
one-fed l s piece more bytes after rest n few e h =
    let fits : taken l s piece ≤ length piece = taken-fits l s piece in
    let short : n ≤ length piece = omega (arith, few, fits) in
    let front : take n bytes ≡ take n piece = ap (take n) e ∙ take-append-le n piece more short in
    sym (take-append-drop n bytes)
    ∙ (ap (λ (x : List ℕ). x ++ drop n bytes) front ∙ (ap (λ (x : List ℕ). take n piece ++ x) h ∙ sym (append_assoc (take n piece) after rest)))

pub fed-bytes : (calls : List Call) (l : Limits) (s t : Reading) (items : List Item) (bytes rest : List ℕ) → Called l s calls items t → IsFedBy bytes calls rest
    → bytes ≡ bytes_taken calls ++ rest
fed-bytes [] l s t items bytes rest fed e = e
fed-bytes (feeds piece n ∷ calls) l s t items bytes rest (h, count, more) ((later, e), go) =
    one-fed l s piece later bytes (bytes_taken calls) rest n (let e : n ≤ taken l s piece = omega (arith, count) in e) e
    (fed-bytes calls l (reading_after l s (take n piece)) t items (drop n bytes) rest more go)
fed-bytes (falls_short piece n ∷ calls) l s t items bytes rest (h, count, more) ((later, e), go) =
    one-fed l s piece later bytes (bytes_taken calls) rest n (let e : n ≤ taken l s piece = omega (arith, count) in e) e
    (fed-bytes calls l (reading_after l s (take n piece)) t items (drop n bytes) rest more go)
fed-bytes (hands next ∷ calls) l s t items bytes rest (is, (later, all, more)) go = fed-bytes calls l (handed s) t later bytes rest more go

-- Where `next` was the last call.

asked-last : (l : Limits) (s t : Reading) (next : Option Item) (items : List Item) → Called l s (hands next ∷ []) items t
    → to_fault (items ++ option_to_list (waiting t)) ≡ to_fault items
asked-last l (stopped f k) t next items (is, (later, all, (none, e))) =
    let same : items ≡ item.Broken f k ∷ later = all ∙ ap (λ (o : Option Item). option_to_list o ++ later) is in
    ap (λ (x : List Item). to_fault (x ++ option_to_list (waiting t))) same ∙ sym (ap to_fault same)
asked-last l (reads f b n k) t next items (is, (later, all, (none, e))) = ap (λ (x : Reading). to_fault (items ++ option_to_list (waiting x))) e
    ∙ ap to_fault (append-nil items)

pub asked-all : (calls : List Call) (l : Limits) (s t : Reading) (next : Option Item) (items : List Item) → Called l s (calls ++ hands next ∷ []) items t
    → to_fault (items ++ option_to_list (waiting t)) ≡ to_fault items
asked-all [] l s t next items fed = asked-last l s t next items fed
asked-all (feeds piece n ∷ calls) l s t next items (h, count, more) = asked-all calls l (reading_after l s (take n piece)) t next items more
asked-all (falls_short piece n ∷ calls) l s t next items (h, count, more) = asked-all calls l (reading_after l s (take n piece)) t next items more
asked-all (hands before ∷ calls) l s t next items (is, (later, all, more)) =
    ap (λ (x : List Item). to_fault (x ++ option_to_list (waiting t))) all
    ∙ (ap to_fault (append_assoc (option_to_list before) later (option_to_list (waiting t)))
    ∙ (fault-more (option_to_list before) (later ++ option_to_list (waiting t)) later (asked-all calls l (handed s) t next later more) ∙ ap to_fault (sym all)))

taken-asked : (calls : List Call) (next : Option Item) → bytes_taken (calls ++ hands next ∷ []) ≡ bytes_taken calls
taken-asked [] next = refl
taken-asked (feeds piece n ∷ calls) next = ap (λ (x : List ℕ). take n piece ++ x) (taken-asked calls next)
taken-asked (falls_short piece n ∷ calls) next = ap (λ (x : List ℕ). take n piece ++ x) (taken-asked calls next)
taken-asked (hands before ∷ calls) next = taken-asked calls next

pub all_asked : (l : Limits) (calls : List Call) (next : Option Item) (items : List Item) (t : Reading)
    → Called l first_reading (calls ++ hands next ∷ []) items t → AreItems l (bytes_taken calls) (to_fault items)
all_asked l calls next items t fed =
    subst (λ (x : List ℕ). AreItems l x (to_fault items)) (taken-asked calls next)
    (subst (AreItems l (bytes_taken (calls ++ hands next ∷ []))) (asked-all calls l first_reading t next items fed)
    (all_handed l (calls ++ hands next ∷ []) items t fed))

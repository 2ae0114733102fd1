-- What is written is handed out.
use Rattle.std.proofs.Common.{◌≡◌, ℕ, ◌<◌, ◌≤◌, ◌⊎◌, inl, inr, List, [], ◌∷◌, ◌++◌, length, map, take, refl, sym}
use Rattle.std.proofs.Common.{ap, ◌∙◌, subst, append_assoc, append-nil, true, false, arith}
use Rattle.std.proofs.lemmas.Bool.{ltb-true}
use Rattle.std.proofs.lemmas.List.{length-append, take_all}
use Rattle.std.specs.List.{AllByRecursion}
use Rattle.std.specs.Prelude.{Option, Some, None, option_to_list}
use Rattle.stanza_tree.specs.declared.node.Element.{Element}
use Rattle.stanza_tree.specs.Spelling.{text, client_space}
use Rattle.stream_lex.proofs.Lists.{same_head, same_tail, cons_not_nil, false-true}
use Rattle.stream_grammar.specs.declared.FrameFault.{FrameFault}
use Rattle.stream_grammar.specs.declared.item.Item.{Item}
use Rattle.stream_grammar.specs.declared.item.Item.TheVariants as item
use Rattle.stream_grammar.specs.declared.item.Limits.{Limits}
use Rattle.stream_grammar.specs.grammar.Elements.{default_of, IsNamed}
use Rattle.stream_grammar.specs.grammar.Extents.{IsPastLimit}
use Rattle.stream_grammar.specs.grammar.Items.{HasCome}
use Rattle.stream_grammar.specs.grammar.Parts.{IsItem, IsLargeEnd, IsByteFault, AreFaultless}
use Rattle.stream_grammar.specs.machine.Reading.{Reading, reads, stopped, first_reading, handed, is_stopped, taken, waiting, went}
use Rattle.stream_grammar.specs.grammar.Bounds.{is_large_item, rules_of, told_number}
use Rattle.stream_grammar.specs.grammar.RoundTrips.{texts_of}
use Rattle.stream_grammar.specs.grammar.Trees.{RawTag, Content}
use Rattle.stream_grammar.specs.grammar.ItemLists.{AreItems}
use Rattle.stream_laws.specs.ItemLists.{items_from}
use Rattle.stream_grammar.specs.grammar.Takes.{IsStop, HasNoStop, IsTaken}
use Rattle.stream_laws.specs.Written.{IsWithin}
use Rattle.stream_laws.proofs.OpenGrammar.{past-frames}
use Rattle.stream_laws.proofs.CallLemmas.{reached}
use Rattle.stream_laws.proofs.Faultless.{faultless_goes, cons-after}
use Rattle.stream_laws.proofs.HandedOut.{item_given}
use Rattle.stream_laws.proofs.Handing.{went-more}
use Rattle.stream_laws.proofs.ItemListLemmas.{brings-more, items_are, only_items}
use Rattle.stream_laws.proofs.RoundTripInsert.{written-comes}
use Rattle.stream_laws.proofs.TakenLemmas.{piece_taken, one_number}
use Rattle.stream_laws.proofs.Waiting.{item_waits}
use Rattle.stream_laws.proofs.WrittenLemmas.{IsAdding, adding, cut-less, last-whole, is-top, only-top, none-ends, no-name, no-past}

-- where a list ends with a byte
front-of : (front xs ys : List ℕ) (byte y : ℕ) → front ++ byte ∷ [] ≡ xs ++ (y ∷ ys) → (zs : List ℕ) × (front ≡ xs ++ zs)
front-of front [] ys byte y e = (front, refl)
front-of [] (x ∷ xs) ys byte y e = absurd (by xs (same_tail byte x [] (xs ++ (y ∷ ys)) e))
  where
    by : (xs : List ℕ) → [] ≡ xs ++ (y ∷ ys) → ⊥
    by [] e = cons_not_nil y ys (sym e)
    by (x ∷ xs) e = cons_not_nil x (xs ++ (y ∷ ys)) (sym e)
front-of (f ∷ front) (x ∷ xs) ys byte y e =
    let (zs, h) = front-of front xs ys byte y (same_tail f x (front ++ byte ∷ []) (xs ++ (y ∷ ys)) e) in
    (zs, ap (λ (z : ℕ). z ∷ front) (same_head f x (front ++ byte ∷ []) (xs ++ (y ∷ ys)) e) ∙ ap (λ (z : List ℕ). x ∷ z) h)

-- the last of several, or an earlier one
last-or : (front xs ys : List ℕ) (byte b : ℕ) → front ++ byte ∷ [] ≡ xs ++ (b ∷ ys) → (ys ≡ []) ⊎ ((zs : List ℕ) × (front ≡ xs ++ (b ∷ zs)))
last-or front xs [] byte b e = inl refl
last-or front xs (y ∷ ys) byte b e = let (zs, h) = front-of front (xs ++ b ∷ []) ys byte y (e ∙ sym (cons-after xs (y ∷ ys) b)) in inr (
  zs,
  h
      ∙ cons-after xs zs b,
)

snoc : (x : ℕ) (xs : List ℕ) → (us : List ℕ) × (b : ℕ) × (x ∷ xs ≡ us ++ b ∷ [])
snoc x [] = ([], x, refl)
snoc x (y ∷ xs) = let (us, b, e) = snoc y xs in (x ∷ us, b, ap (λ (l : List ℕ). x ∷ l) e)

-- No byte has a fault.

not-large : (l : Limits) (e : Element) → length (text e) ≤ l.canonical → is_large_item l (Some (item.Top e)) ≡ true → ⊥
not-large l e short large = let over : l.canonical < told_number (length (text e)) =
    ltb-true l.canonical (told_number (length (text e))) large in omega (arith, over, short)

no-large : (l : Limits) (bytes : List ℕ) (e : Element) (a : IsAdding (rules_of l) bytes e) (xs zs : List ℕ) (b : ℕ) → length (text e) ≤ l.canonical
    → text e ≡ xs ++ (b ∷ zs) → IsLargeEnd l ((bytes ++ xs) ++ b ∷ []) → ⊥
no-large l bytes e a xs zs b short p (i, is, large) = by (last-or a.front xs zs a.byte b (a.text_is ∙ p))
  where
    by : (zs ≡ []) ⊎ ((ws : List ℕ) × (a.front ≡ xs ++ (b ∷ ws))) → ⊥
    by (inl none) =
        let all : bytes ++ text e ≡ (bytes ++ xs) ++ b ∷ [] = ap (λ (x : List ℕ). bytes ++ x) (p ∙ ap (λ (x : List ℕ). xs ++ (b ∷ x)) none)
        ∙ sym (append_assoc bytes xs (b ∷ [])) in
        not-large l e short (ap (λ (x : Item). is_large_item l (Some x)) (sym (only-top (rules_of l) bytes e a (bytes ++ xs) b i all is)) ∙ large)
    by (inr (ws, q)) = none-ends (rules_of l) bytes e a xs ws b i q is

text-faultless : (l : Limits) (bytes : List ℕ) (e : Element) (a : IsAdding (rules_of l) bytes e) → AreFaultless l bytes → length (text e) ≤ l.bytes
    → length (text e) ≤ l.canonical → AreFaultless l (bytes ++ text e)
text-faultless l bytes e a clean short small = λ us vs b g p is. by us vs b g p is (cut-less bytes (text e) us vs b p)
  where
    inner : (xs zs us : List ℕ) (b : ℕ) (g : FrameFault) → us ≡ bytes ++ xs → text e ≡ xs ++ (b ∷ zs) → bytes ++ text e ≡ us ++ (b ∷ zs) → IsByteFault l us b g
        → ⊥
    inner xs zs us b g q h p (inl (past, is)) =
        no-past l bytes e a xs zs b h short (past-frames l (bytes ++ xs) b (subst (λ (x : List ℕ). IsPastLimit l x b) q past))
    inner xs zs us b g q h p (inr (past, inl (never, kind))) = never (a.whole (us ++ b ∷ []) zs (p ∙ sym (cons-after us zs b)))
    inner xs zs us b g q h p (inr (past, inr (begins, inl name))) = no-name (rules_of l) bytes e a us zs b g p name
    inner xs zs us b g q h p (inr (past, inr (begins, inr (large, is)))) =
        no-large l bytes e a xs zs b small h (subst (λ (x : List ℕ). IsLargeEnd l (x ++ b ∷ [])) q large)

    by : (us vs : List ℕ) (b : ℕ) (g : FrameFault) → bytes ++ text e ≡ us ++ (b ∷ vs) → IsByteFault l us b g
        → ((ws : List ℕ) × (bytes ≡ us ++ (b ∷ ws)) × (vs ≡ ws ++ text e)) ⊎ ((ws : List ℕ) × (us ≡ bytes ++ ws) × (text e ≡ ws ++ (b ∷ vs))) → ⊥
    by us vs b g p is (inl (ws, q, h)) = clean us ws b g q is
    by us vs b g p is (inr (ws, q, h)) = inner ws vs us b g q h p is

-- The element waits.

text-waits : (l : Limits) (bytes : List ℕ) (e : Element) (a : IsAdding (rules_of l) bytes e) → AreFaultless l (bytes ++ text e)
    → waiting (went l first_reading (bytes ++ text e)) ≡ Some (item.Top e)
text-waits l bytes e a clean =
    let all : bytes ++ text e ≡ (bytes ++ a.front) ++ a.byte ∷ [] = last-whole (rules_of l) bytes e a in
    ap (λ (x : List ℕ). waiting (went l first_reading x)) all
    ∙ item_given l (bytes ++ a.front) a.byte (item.Top e) (ap (λ (x : List ℕ). is_stopped (went l first_reading x)) (sym all)
    ∙ faultless_goes l (bytes ++ text e) clean) (subst (λ (x : List ℕ). IsItem (rules_of l) x (item.Top e)) all (is-top (rules_of l) bytes e a))

nothing-before : (l : Limits) (bytes : List ℕ) (e : Element) (a : IsAdding (rules_of l) bytes e) (xs ys : List ℕ) → AreFaultless l (bytes ++ text e)
    → text e ≡ xs ++ ys → (xs ≡ [] → ⊥) → (ys ≡ [] → ⊥) → waiting (went l first_reading (bytes ++ xs)) ≡ None
nothing-before l bytes e a [] ys clean p some more = absurd (some refl)
nothing-before l bytes e a (x ∷ xs) [] clean p some more = absurd (more refl)
nothing-before l bytes e a (x ∷ xs) (y ∷ ys) clean p some more =
    let (us, b, last) = snoc x xs in
    let (zs, front) = front-of a.front (x ∷ xs) ys a.byte y (a.text_is ∙ p) in
    let group : bytes ++ (x ∷ xs) ≡ (bytes ++ us) ++ b ∷ [] = ap (λ (z : List ℕ). bytes ++ z) last ∙ sym (append_assoc bytes us (b ∷ [])) in
    let early : a.front ≡ us ++ (b ∷ zs) = front ∙ (ap (λ (z : List ℕ). z ++ zs) last ∙ cons-after us zs b) in
    let rest : AreFaultless l ((bytes ++ us) ++ b ∷ []) =
    faultless-front l ((bytes ++ us) ++ b ∷ []) (y ∷ ys)
    (subst (AreFaultless l) (ap (λ (z : List ℕ). bytes ++ z) p ∙ (sym (append_assoc bytes (x ∷ xs) (y ∷ ys)) ∙ ap (λ (z : List ℕ). z ++ (y ∷ ys)) group))
    clean) in
    ap (λ (z : List ℕ). waiting (went l first_reading z)) group
    ∙ by us b zs early (faultless_goes l ((bytes ++ us) ++ b ∷ []) rest) (waiting (went l first_reading ((bytes ++ us) ++ b ∷ []))) refl
  where
    faultless-front : (l : Limits) (us vs : List ℕ) → AreFaultless l (us ++ vs) → AreFaultless l us
    faultless-front l us vs clean = λ xs ys b g p is. clean xs (ys ++ vs) b g (ap (λ (z : List ℕ). z ++ vs) p ∙ append_assoc xs (b ∷ ys) vs) is

    by : (us : List ℕ) (b : ℕ) (zs : List ℕ) → a.front ≡ us ++ (b ∷ zs) → is_stopped (went l first_reading ((bytes ++ us) ++ b ∷ [])) ≡ false
        → (o : Option Item) → waiting (went l first_reading ((bytes ++ us) ++ b ∷ [])) ≡ o → o ≡ None
    by us b zs early on None h = refl
    by us b zs early on (Some i) h = absurd (none-ends (rules_of l) bytes e a us zs b i early (item_waits l (bytes ++ us) b i on h))

-- `feed` takes the text.

text-taken : (l : Limits) (bytes more : List ℕ) (e : Element) (a : IsAdding (rules_of l) bytes e) → AreFaultless l bytes → AreFaultless l (bytes ++ text e)
    → taken l (handed (went l first_reading bytes)) (text e ++ more) ≡ length (text e)
text-taken l bytes more e a before clean = one_number l bytes (text e ++ more) _ (length (text e)) (piece_taken l bytes (text e ++ more) before) here
  where
    none : HasNoStop l bytes a.front
    none = λ xs ys b p stop. by xs ys b p stop
      where
        by : (xs ys : List ℕ) (b : ℕ) → a.front ≡ xs ++ (b ∷ ys) → IsStop l (bytes ++ xs) b → ⊥
        by xs ys b p (inl (i, is)) = none-ends (rules_of l) bytes e a xs ys b i p is
        by xs ys b p (inr (f, fault)) =
            clean (bytes ++ xs) (ys ++ a.byte ∷ []) b f
            (ap (λ (z : List ℕ). bytes ++ z) (sym a.text_is ∙ (ap (λ (z : List ℕ). z ++ a.byte ∷ []) p ∙ append_assoc xs (b ∷ ys) (a.byte ∷ [])))
            ∙ sym (append_assoc bytes xs (b ∷ (ys ++ a.byte ∷ [])))) fault

    here : IsTaken l bytes (text e ++ more) (length (text e))
    here = inr (
      a.front,
      a.byte,
      more,
      ap (λ (z : List ℕ). z ++ more) (sym a.text_is) ∙ cons-after a.front more a.byte,
      none,
      inl (item.Top e, subst (λ (x : List ℕ). IsItem (rules_of l) x (item.Top e)) (last-whole (rules_of l) bytes e a) (is-top (rules_of l) bytes e a)),
      ap length (sym a.text_is) ∙ length-append a.front (a.byte ∷ []),
    )

-- By the stream that has come.

abbrev pub HasBegun : Limits → List ℕ → RawTag → Content → Type 0
HasBegun l bytes root f = HasCome (rules_of l) bytes root f × IsNamed root f × (default_of root ≡ client_space) × AreFaultless l bytes

added : (l : Limits) (bytes : List ℕ) (root : RawTag) (f : Content) (e : Element) → HasBegun l bytes root f → IsWithin l e → IsAdding (rules_of l) bytes e
added l bytes root f e (come, named, default, clean) (writable, short, small) = adding (rules_of l) bytes root f e come named default writable

pub written_faultless : (l : Limits) (bytes : List ℕ) (root : RawTag) (f : Content) (e : Element) → HasBegun l bytes root f → IsWithin l e
    → AreFaultless l (bytes ++ text e)
written_faultless l bytes root f e begun within = text-faultless l bytes e (added l bytes root f e begun within) begun.3 within.1 within.2

pub written_waits : (l : Limits) (bytes : List ℕ) (root : RawTag) (f : Content) (e : Element) → HasBegun l bytes root f → IsWithin l e
    → waiting (went l first_reading (bytes ++ text e)) ≡ Some (item.Top e)
written_waits l bytes root f e begun within = text-waits l bytes e (added l bytes root f e begun within) (written_faultless l bytes root f e begun within)

pub written_last : (l : Limits) (bytes : List ℕ) (root : RawTag) (f : Content) (e : Element) (xs ys : List ℕ) → HasBegun l bytes root f → IsWithin l e
    → text e ≡ xs ++ ys → (xs ≡ [] → ⊥) → (ys ≡ [] → ⊥) → waiting (went l first_reading (bytes ++ xs)) ≡ None
written_last l bytes root f e xs ys begun within p some more =
    nothing-before l bytes e (added l bytes root f e begun within) xs ys (written_faultless l bytes root f e begun within) p some more

pub written_taken : (l : Limits) (bytes : List ℕ) (root : RawTag) (f : Content) (e : Element) (more : List ℕ) → HasBegun l bytes root f → IsWithin l e
    → taken l (handed (went l first_reading bytes)) (text e ++ more) ≡ length (text e)
written_taken l bytes root f e more begun within =
    text-taken l bytes more e (added l bytes root f e begun within) begun.3 (written_faultless l bytes root f e begun within)

-- Several texts, one after another.

going-reached : (l : Limits) (s : Reading) (piece : List ℕ) → is_stopped s ≡ false → length piece ≤ taken l (handed s) piece
    → items_from l (handed s) piece ≡ option_to_list (waiting (went l (handed s) piece))
going-reached l (stopped f k) piece o few = false-true (sym o)
going-reached l (reads f b n k) piece o few =
    let all : take (length piece) piece ≡ piece = take_all (length piece) piece (let e : length piece ≤ length piece = omega arith in e) in
    ap (items_from l (handed (reads f b n k))) (sym all)
    ∙ ((reached piece l (handed (reads f b n k)) (length piece) refl refl few).1
    ∙ ap (λ (x : List ℕ). option_to_list (waiting (went l (handed (reads f b n k)) x))) all)

handed-brings : (l : Limits) (s : Reading) (piece : List ℕ) → items_from l (handed s) piece ≡ items_from l s piece
handed-brings l (stopped f k) piece = refl
handed-brings l (reads f b n k) [] = refl
handed-brings l (reads f b n k) (c ∷ cs) = refl

pub handed-goes : (l : Limits) (s : Reading) (piece : List ℕ) → (piece ≡ [] → ⊥) → went l (handed s) piece ≡ went l s piece
handed-goes l s [] some = absurd (some refl)
handed-goes l (stopped f k) (c ∷ cs) some = refl
handed-goes l (reads f b n k) (c ∷ cs) some = refl

pub text-some : (l : Limits) (bytes : List ℕ) (root : RawTag) (f : Content) (e : Element) → HasBegun l bytes root f → IsWithin l e → text e ≡ [] → ⊥
text-some l bytes root f e begun within h = let a : IsAdding (rules_of l) bytes e = added l bytes root f e begun within in not-nil a.front a.byte (a.text_is
    ∙ h)
  where
    not-nil : (front : List ℕ) (byte : ℕ) → front ++ byte ∷ [] ≡ [] → ⊥
    not-nil [] byte h = cons_not_nil byte [] h
    not-nil (x ∷ front) byte h = cons_not_nil x (front ++ byte ∷ []) h

one-text : (l : Limits) (bytes : List ℕ) (root : RawTag) (f : Content) (e : Element) → HasBegun l bytes root f → IsWithin l e
    → items_from l (went l first_reading bytes) (text e) ≡ item.Top e ∷ []
one-text l bytes root f e begun within =
    let s : Reading = went l first_reading bytes in
    let count : taken l (handed s) (text e) ≡ length (text e) = ap (taken l (handed s)) (sym (append-nil (text e)))
    ∙ written_taken l bytes root f e [] begun within in
    let there : waiting (went l (handed s) (text e)) ≡ Some (item.Top e) = ap waiting (handed-goes l s (text e) (text-some l bytes root f e begun within)
    ∙ sym (went-more l first_reading bytes (text e))) ∙ written_waits l bytes root f e begun within in
    sym (handed-brings l s (text e))
    ∙ (going-reached l s (text e) (faultless_goes l bytes begun.3) (let e : length (text e) ≤ taken l (handed s) (text e) = omega (arith, count) in e)
    ∙ ap option_to_list there)

-- an element as an item
abbrev top : Element → Item
top e = item.Top e

pub all_written : (l : Limits) (es : List Element) (bytes : List ℕ) (root : RawTag) (f : Content) (before : List Item) → HasBegun l bytes root f
    → AllByRecursion (IsWithin l) es → AreItems l bytes before
    → AreFaultless l (bytes ++ texts_of es) × AreItems l (bytes ++ texts_of es) (before ++ map top es)
all_written l [] bytes root f before begun all are = (
  subst (AreFaultless l) (sym (append-nil bytes)) begun.3,
  subst (λ (x : List ℕ). AreItems l x (before ++ [])) (sym (append-nil bytes)) (subst (AreItems l bytes) (sym (append-nil before)) are),
)
all_written l (e ∷ es) bytes root f before begun all are =
    let (g, more, is, tops) = written-comes (rules_of l) bytes root f e begun.0 begun.1 begun.2 all.0.0 in
    let clean : AreFaultless l (bytes ++ text e) = written_faultless l bytes root f e begun all.0 in
    let same : before ++ top e ∷ [] ≡ items_from l first_reading (bytes ++ text e) =
    ap (λ (x : List Item). x ++ top e ∷ []) (only_items l bytes before are)
    ∙ (ap (λ (x : List Item). items_from l first_reading bytes ++ x) (sym (one-text l bytes root f e begun all.0))
    ∙ sym (brings-more l first_reading bytes (text e))) in
    let next : AreItems l (bytes ++ text e) (before ++ top e ∷ []) = subst (AreItems l (bytes ++ text e)) (sym same) (items_are l (bytes ++ text e)) in
    let (faultless, items) = all_written l es (bytes ++ text e) root g (before ++ top e ∷ []) (more, is, begun.2, clean) all.1 next in
    let group : (bytes ++ text e) ++ texts_of es ≡ bytes ++ texts_of (e ∷ es) = append_assoc bytes (text e) (texts_of es) in (
      subst (AreFaultless l) group faultless,
      subst (λ (x : List ℕ). AreItems l x (before ++ map top (e ∷ es))) group
          (subst (AreItems l ((bytes ++ text e) ++ texts_of es)) (append_assoc before (top e ∷ []) (map top es)) items),
    )

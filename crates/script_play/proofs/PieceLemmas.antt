-- A piece that is fed whole.
use Rattle.std.proofs.Common.{◌≡◌, ℕ, suc, ◌+◌, ◌-◌, ◌<◌, ◌≤◌, List, [], ◌∷◌, ◌++◌, length, take, drop, refl, sym, ap, ◌∙◌}
use Rattle.std.proofs.Common.{subst, append_assoc, append-nil, Bool, true, false, not, ◌||◌, arith}
use Rattle.std.proofs.lemmas.Grind.{flat_map-append}
use Rattle.std.proofs.lemmas.List.{drop-drop, drop_all, take_rest}
use Rattle.std.specs.Prelude.{Option, Some, None, if◌then◌else◌, option_to_list}
use Rattle.std.specs.Option.{is_some}
use Rattle.stream_grammar.specs.declared.item.Item.{Item}
use Rattle.stream_grammar.specs.declared.item.Limits.{Limits}
use Rattle.stream_grammar.specs.machine.Reading.{Reading, reads, stopped, reading_next, reading_after, taken, taken_reading}
use Rattle.stream_grammar.specs.machine.Reading.{handed, is_ready, is_none, is_done, went, waiting}
use Rattle.replay_script.specs.Deeds.{item_in, items_of, print_items}
use Rattle.replay_script.specs.Prints.{print_item}
use Rattle.stream_frames.specs.Limits.{limits}
use Rattle.script_play.specs.Feeding.{FedOn}
use Rattle.script_play.proofs.StreamLemmas.{ready_handed, went_on}

-- after so many bytes a framer that has handed these items out has the rest before it
pub record OnBy (s : Reading) (bs : List ℕ) (n : ℕ) (t : Reading) (items : List Item) : Type 0 where
  pub read : handed (went limits t (drop n bs)) ≡ handed (went limits s bs)
  pub told : items_of s bs ≡ items ++ items_of t (drop n bs)

-- A reading that goes on, and of which no item waits.

not-done : (s : Reading) → is_done s ≡ false → is_ready s ≡ true
not-done (stopped f k) h = absurd (let bad : true ≡ false = h in cc)
not-done (reads f b n k) h = by (is_none b.item) h
  where
    by : (t : Bool) → (false || not t) ≡ false → t ≡ true
    by true h = refl
    by false h = absurd (let bad : false ≡ true = sym h in cc)

none-waits : (s : Reading) → is_done s ≡ false → waiting s ≡ None
none-waits (stopped f k) h = absurd (let bad : true ≡ false = h in cc)
none-waits (reads f b n k) h = by b.item h
  where
    by : (i : Option Item) → (false || not (is_none i)) ≡ false → i ≡ None
    by None h = refl
    by (Some i) h = absurd (let bad : true ≡ false = h in cc)

none-done : (s : Reading) → waiting s ≡ None → is_done s ≡ false
none-done (stopped f k) e = absurd (some-none _ e)
  where
    some-none : {X : Type 0} (x : X) → Some x ≡ None → ⊥
    some-none x e = cc
none-done (reads f b n k) e = ap (λ (i : Option Item). false || not (is_none i)) e

item-told : (s t : Reading) → is_done s ≡ false → item_in s t ≡ option_to_list (waiting t)
item-told (stopped f k) t h = absurd (let bad : true ≡ false = h in cc)
item-told (reads f b n k) t h = refl

piece-on : (bs : List ℕ) (s : Reading) → is_done s ≡ false
    → OnBy s bs (taken_reading limits s bs) (handed (reading_after limits s (take (taken_reading limits s bs) bs)))
    (option_to_list (waiting (reading_after limits s (take (taken_reading limits s bs) bs))))
piece-on [] s h = record {
  read = ap handed (ready_handed s (not-done s h));
  told = ap (λ (o : Option Item). option_to_list o ++ []) (sym (none-waits s h));
}
piece-on (b ∷ bs) s h = by (is_done (reading_next limits s b)) refl (λ e. piece-on bs (reading_next limits s b) e)
  where
    by : (t : Bool) → is_done (reading_next limits s b) ≡ t
        → (is_done (reading_next limits s b) ≡ false
        → OnBy (reading_next limits s b) bs (taken_reading limits (reading_next limits s b) bs)
        (handed (reading_after limits (reading_next limits s b) (take (taken_reading limits (reading_next limits s b) bs) bs)))
        (option_to_list (waiting (reading_after limits (reading_next limits s b) (take (taken_reading limits (reading_next limits s b) bs) bs)))))
        → OnBy s (b ∷ bs) (if t then 1 else 1 + taken_reading limits (reading_next limits s b) bs)
        (handed (reading_after limits s (take (if t then 1 else 1 + taken_reading limits (reading_next limits s b) bs) (b ∷ bs))))
        (option_to_list (waiting (reading_after limits s (take (if t then 1 else 1 + taken_reading limits (reading_next limits s b) bs) (b ∷ bs)))))
    by true e go = record {
      read = went_on s b bs (not-done s h);
      told = ap (λ (x : List Item). x ++ items_of (handed (reading_next limits s b)) bs) (item-told s (reading_next limits s b) h);
    }
    by false e go =
        let m : ℕ = taken_reading limits (reading_next limits s b) bs in
        let more = go e in
        let ready : handed (reading_next limits s b) ≡ reading_next limits s b =
        ready_handed (reading_next limits s b) (not-done (reading_next limits s b) e) in
        let one : 1 + m ≡ suc m = omega arith in
        let none : item_in s (reading_next limits s b) ≡ [] = item-told s (reading_next limits s b) h
        ∙ ap option_to_list (none-waits (reading_next limits s b) e) in
        let whole : items_of s (b ∷ bs) ≡ items_of (reading_next limits s b) bs =
        ap (λ (x : List Item). x ++ items_of (handed (reading_next limits s b)) bs) none ∙ ap (λ (x : Reading). items_of x bs) ready in
        subst (λ (i : ℕ). OnBy s (b ∷ bs) i (handed (reading_after limits s (take i (b ∷ bs))))
        (option_to_list (waiting (reading_after limits s (take i (b ∷ bs)))))) (sym one) (record {
          read = more.read ∙ (ap (λ (x : Reading). handed (went limits x bs)) (sym ready) ∙ went_on s b bs (not-done s h));
          told = whole ∙ more.told;
        })

-- The piece of a framer that handed its item out, or that has a fault.

pub piece_fed : (l : Limits) (s held t u : Reading) (bs : List ℕ) (n : ℕ) (o : Option Item)
    → l ≡ limits → held ≡ handed s → is_ready s ≡ true → waiting s ≡ None → n ≡ taken l held bs → t ≡ reading_after l held (take n bs) → u ≡ handed t
    → o ≡ waiting t → OnBy s bs n u (option_to_list o)
piece_fed l (stopped f k) held t u bs n o same is ready none count read to item = absurd (some-none _ none)
  where
    some-none : {X : Type 0} (x : X) → Some x ≡ None → ⊥
    some-none x e = cc
piece_fed l (reads f b e k) held t u bs n o same is ready none count read to item =
    let s : Reading = reads f b e k in
    let here : held ≡ s = is ∙ ready_handed s ready in
    let number : n ≡ taken_reading limits s bs = count ∙ (ap (λ (x : Limits). taken x held bs) same ∙ ap (λ (x : Reading). taken limits x bs) here) in
    let after : t ≡ reading_after limits s (take (taken_reading limits s bs) bs) =
    read ∙ (ap (λ (x : Limits). reading_after x held (take n bs)) same
    ∙ (ap (λ (x : Reading). reading_after limits x (take n bs)) here ∙ ap (λ (i : ℕ). reading_after limits s (take i bs)) number)) in
    subst (λ (x : Option Item). OnBy s bs n u (option_to_list x)) (sym (item ∙ ap waiting after))
    (subst (λ (x : Reading). OnBy s bs n x (option_to_list (waiting (reading_after limits s (take (taken_reading limits s bs) bs)))))
    (sym (to ∙ ap handed after))
    (subst (λ (i : ℕ). OnBy s bs i (handed (reading_after limits s (take (taken_reading limits s bs) bs)))
    (option_to_list (waiting (reading_after limits s (take (taken_reading limits s bs) bs))))) (sym number) (piece-on bs s (none-done s none))))

-- after a fault no byte does anything
pub piece_stopped : (s u : Reading) (bs out : List ℕ) → is_ready s ≡ true → is_some (waiting s) ≡ true → u ≡ handed s → FedOn s bs out (length bs) u out
piece_stopped (reads f b n k) u bs out ready some to = absurd (by b.item ready some)
  where
    by : (o : Option Item) → is_none o ≡ true → is_some o ≡ true → ⊥
    by None h e = let bad : false ≡ true = e in cc
    by (Some x) h e = let bad : false ≡ true = h in cc
piece_stopped (stopped f k) u bs out ready some to =
    let none : drop (length bs) bs ≡ [] = drop_all (length bs) bs (let e : length bs ≤ length bs = omega arith in e) in
    subst (λ (x : Reading). FedOn (stopped f k) bs out (length bs) x out) (sym to) (record {
      read = ap (λ (l : List ℕ). handed (went limits (stopped f k) l)) none ∙ sym (ap handed (went-still bs));
      printed = ap (λ (l : List ℕ). out ++ print_items (items_of (stopped f k) l)) none ∙ sym (ap (λ (l : List Item). out ++ print_items l) (told-none bs));
    })
  where
    went-still : (bs : List ℕ) → went limits (stopped f k) bs ≡ stopped f k
    went-still [] = refl
    went-still (b ∷ bs) = went-still bs

    told-none : (bs : List ℕ) → items_of (stopped f k) bs ≡ []
    told-none [] = refl
    told-none (b ∷ bs) = told-none bs

-- what it brought was printed
told-on : (s u : Reading) (bs : List ℕ) (n : ℕ) (items : List Item) (out new : List ℕ) → OnBy s bs n u items → new ≡ out ++ print_items items
    → FedOn s bs out n u new
told-on s u bs n items out new on made = record {
  read = on.read;
  printed =
      ap (λ (l : List ℕ). l ++ print_items (items_of u (drop n bs))) made
      ∙ (append_assoc out (print_items items) (print_items (items_of u (drop n bs)))
      ∙ ap (λ (l : List ℕ). out ++ l) (sym (flat_map-append print_item items (items_of u (drop n bs))) ∙ ap print_items (sym on.told)));
}

pub item_printed : (s u : Reading) (bs : List ℕ) (n : ℕ) (i : Item) (out new : List ℕ) → OnBy s bs n u (option_to_list (Some i)) → new ≡ out ++ print_item i
    → FedOn s bs out n u new
item_printed s u bs n i out new on made = told-on s u bs n (i ∷ []) out new on (made ∙ ap (λ (l : List ℕ). out ++ l) (sym (append-nil (print_item i))))

pub none_printed : (s u : Reading) (bs : List ℕ) (n : ℕ) (out : List ℕ) → OnBy s bs n u (option_to_list None) → FedOn s bs out n u out
none_printed s u bs n out on = told-on s u bs n [] out out on (sym (append-nil out))

-- how many bytes are taken
pub taken_fits : (l : Limits) (s : Reading) (bs : List ℕ) → taken l s bs ≤ length bs
taken_fits l (stopped f k) bs = omega arith
taken_fits l (reads f b n k) bs = fits bs (reads f b n k)
  where
    fits : (bs : List ℕ) (s : Reading) → taken_reading l s bs ≤ length bs
    fits [] s = omega arith
    fits (c ∷ cs) s = by (is_done (reading_next l s c)) (fits cs (reading_next l s c))
      where
        by : (t : Bool) → taken_reading l (reading_next l s c) cs ≤ length cs → (if t then 1 else 1 + taken_reading l (reading_next l s c) cs) ≤ suc (length cs)
        by true h = omega arith
        by false h = omega (arith, h)

pub taken_some : (l : Limits) (s : Reading) (bs : List ℕ) → 0 < length bs → 0 < taken l s bs
taken_some l (stopped f k) bs h = h
taken_some l (reads f b n k) [] h = h
taken_some l (reads f b n k) (c ∷ cs) h = by (is_done (reading_next l (reads f b n k) c))
  where
    by : (t : Bool) → 0 < (if t then 1 else 1 + taken_reading l (reading_next l (reads f b n k) c) cs)
    by true = omega arith
    by false = omega arith

-- A piece in the middle of the bytes that were fed.
pub piece_next : (s0 s t : Reading) (bs : List ℕ) (i n : ℕ) (out0 out new : List ℕ) → FedOn s0 bs out0 i s out
    → FedOn s (take (length bs - i) (drop i bs)) out n t new → FedOn s0 bs out0 (i + n) t new
piece_next s0 s t bs i n out0 out new before on =
    let here : FedOn s (drop i bs) out n t new = subst (λ (l : List ℕ). FedOn s l out n t new) (take_rest bs i) on in record {
      read = ap (λ (l : List ℕ). handed (went limits t l)) (sym (drop-drop n i bs)) ∙ (here.read ∙ before.read);
      printed = ap (λ (l : List ℕ). new ++ print_items (items_of t l)) (sym (drop-drop n i bs)) ∙ (here.printed ∙ before.printed);
    }

-- the whole was fed
pub all_fed : (s t : Reading) (bs out new : List ℕ) (i : ℕ) → length bs ≤ i → is_ready t ≡ true → FedOn s bs out i t new
    → (t ≡ handed (went limits s bs)) × (new ≡ out ++ print_items (items_of s bs))
all_fed s t bs out new i h ready on =
    let none : drop i bs ≡ [] = drop_all i bs h in (
      sym (ready_handed t ready) ∙ (ap (λ (l : List ℕ). handed (went limits t l)) (sym none) ∙ on.read),
      sym (append-nil new) ∙ (ap (λ (l : List ℕ). new ++ print_items (items_of t l)) (sym none) ∙ on.printed),
    )

-- Bytes are read as they are cut.
use Rattle.std.proofs.Common.{◌≡◌, ℕ, suc, ◌+◌, List, [], ◌∷◌, ◌++◌, take, drop, refl, sym, ap, ◌∙◌, Bool, true}
use Rattle.std.proofs.Common.{false, not, ◌||◌, Option, Some, None, arith, append_assoc}
use Rattle.std.proofs.lemmas.List.{append-nil}
use Rattle.std.specs.Prelude.{if◌then◌else◌}
use Rattle.stream_grammar.specs.declared.item.Item.{Item}
use Rattle.stream_grammar.specs.machine.Reading.{Reading, reads, stopped, first_reading, reading_next, reading_after, taken}
use Rattle.stream_grammar.specs.machine.Reading.{taken_reading, is_done, is_stopped, is_ready, is_none, handed, waiting, went}
use Rattle.stream_grammar.proofs.FeedLemmas.{piece_went}
use Rattle.stream_laws.proofs.Handing.{went-more}
use Rattle.stream_frames.specs.Limits.{limits}
use Rattle.conn_flow.specs.Streams.{item_at, Cut, here_or, cut}
use Rattle.flow_laws.specs.Standing.{IsRead}

-- A reading at which nothing waits.

pub handed_twice : (r : Reading) → handed (handed r) ≡ handed r
handed_twice (reads f b n k) = refl
handed_twice (stopped f k) = refl

pub handed_is_ready : (r : Reading) → is_ready (handed r) ≡ true
handed_is_ready (reads f b n k) = refl
handed_is_ready (stopped f k) = refl

pub handed_goes : (r : Reading) → is_stopped r ≡ false → is_stopped (handed r) ≡ false
handed_goes (reads f b n k) h = refl
handed_goes (stopped f k) h = h

none_held : (i : Option Item) → is_none i ≡ true → i ≡ None
none_held None h = refl
none_held (Some i) h = absurd (let bad : false ≡ true = h in cc)

none_waits : (r : Reading) → is_ready r ≡ true → is_stopped r ≡ false → waiting r ≡ None
none_waits (reads f b n k) h go = none_held b.item h
none_waits (stopped f k) h go = absurd (let bad : true ≡ false = go in cc)

pub none_goes : (r : Reading) → waiting r ≡ None → is_stopped r ≡ false
none_goes (reads f b n k) h = refl
none_goes (stopped f k) h = absurd (cc)

none_ready : (r : Reading) → waiting r ≡ None → is_ready r ≡ true
none_ready (reads f b n k) h = ap is_none h
none_ready (stopped f k) h = refl

none_handed : (r : Reading) → waiting r ≡ None → handed r ≡ r
none_handed (reads f b n k) h = ap (λ (i : Option Item). reads f (record b { item = i }) n k) (sym h)
none_handed (stopped f k) h = refl

none_done : (r : Reading) → waiting r ≡ None → is_done r ≡ false
none_done (reads f b n k) h = ap (λ (i : Option Item). false || not (is_none i)) h
none_done (stopped f k) h = absurd (cc)

some_done : (r : Reading) (i : Item) → waiting r ≡ Some i → is_done r ≡ true
some_done (reads f b n k) i h = ap (λ (i : Option Item). false || not (is_none i)) h
some_done (stopped f k) i h = refl

-- Where the bytes are cut.

abbrev pub cut_as : Option Item → List ℕ → List ℕ → Cut
cut_as item stream rest = record { item = item; stream = stream; rest = rest }

pub cut_is : {a b : Option Item} {s t x y : List ℕ} → a ≡ b → s ≡ t → x ≡ y → cut_as a s x ≡ cut_as b t y
cut_is p q r = λ i. record { item = p i; stream = q i; rest = r i }

-- a reading that takes so many bytes
abbrev pub cut_by : List ℕ → List ℕ → Reading → ℕ → Cut
cut_by stream bytes r n = cut_as (waiting (reading_after limits r (take n bytes))) (stream ++ take n bytes) (drop n bytes)

item_next : (r : Reading) (stream : List ℕ) (b : ℕ) → r ≡ handed (went limits first_reading stream)
    → item_at (stream ++ b ∷ []) ≡ waiting (reading_next limits r b)
item_next r stream b at =
    ap waiting (went-more limits first_reading stream (b ∷ [])) ∙ ap (λ (x : Reading). waiting (reading_next limits x b)) (sym at)

-- no item ends with the next byte
read_next : (r : Reading) (stream : List ℕ) (b : ℕ) → r ≡ handed (went limits first_reading stream) → waiting (reading_next limits r b) ≡ None
    → IsRead (reading_next limits r b) (stream ++ b ∷ [])
read_next r stream b at h = record {
  at = sym (none_handed (reading_next limits r b) h)
      ∙ ap (λ (x : Reading). handed (reading_next limits x b)) at
      ∙ ap handed (sym (went-more limits first_reading stream (b ∷ [])));
  ready = none_ready (reading_next limits r b) h;
  goes = none_goes (reading_next limits r b) h;
}

one_more : (m b : ℕ) (bs stream : List ℕ) (r : Reading)
    → cut_by (stream ++ b ∷ []) bs (reading_next limits r b) m ≡ cut_by stream (b ∷ bs) r (1 + m)
one_more m b bs stream r =
    let on : suc m ≡ 1 + m = omega arith in
    let same : cut_by (stream ++ b ∷ []) bs (reading_next limits r b) m ≡ cut_by stream (b ∷ bs) r (suc m) =
    cut_is refl (append_assoc stream (b ∷ []) (take m bs)) refl in
    same ∙ ap (λ (n : ℕ). cut_by stream (b ∷ bs) r n) on

cut_taken : (bytes stream : List ℕ) (r : Reading) → IsRead r stream → cut stream bytes ≡ cut_by stream bytes r (taken_reading limits r bytes)
cut_taken [] stream r h = cut_is (sym (none_waits r h.ready h.goes)) (sym (append-nil stream)) refl
cut_taken (b ∷ bs) stream r h =
    ap (λ (o : Option Item). here_or o (stream ++ b ∷ []) bs (cut (stream ++ b ∷ []) bs)) (item_next r stream b h.at)
    ∙ by (waiting (reading_next limits r b)) refl (cut_taken bs (stream ++ b ∷ []) (reading_next limits r b))
  where
    by : (o : Option Item) → waiting (reading_next limits r b) ≡ o
        → (IsRead (reading_next limits r b) (stream ++ b ∷ [])
        → cut (stream ++ b ∷ []) bs ≡ cut_by (stream ++ b ∷ []) bs (reading_next limits r b) (taken_reading limits (reading_next limits r b) bs))
        → here_or o (stream ++ b ∷ []) bs (cut (stream ++ b ∷ []) bs) ≡ cut_by stream (b ∷ bs) r (taken_reading limits r (b ∷ bs))
    by (Some i) e go =
        let here : cut_as (Some i) (stream ++ b ∷ []) bs ≡ cut_by stream (b ∷ bs) r 1 = cut_is (sym e) refl refl in
        here
        ∙ ap (λ (t : Bool). cut_by stream (b ∷ bs) r (if t then 1 else 1 + taken_reading limits (reading_next limits r b) bs))
        (sym (some_done (reading_next limits r b) i e))
    by None e go =
        go (read_next r stream b h.at e)
        ∙ one_more (taken_reading limits (reading_next limits r b) bs) b bs stream r
        ∙ ap (λ (t : Bool). cut_by stream (b ∷ bs) r (if t then 1 else 1 + taken_reading limits (reading_next limits r b) bs))
        (sym (none_done (reading_next limits r b) e))

taken_goes : (r : Reading) (bytes : List ℕ) → is_stopped r ≡ false → taken limits r bytes ≡ taken_reading limits r bytes
taken_goes (reads f b n k) bytes h = refl
taken_goes (stopped f k) bytes h = absurd (let bad : true ≡ false = h in cc)

-- what was read up to its first item is cut there
pub cut_read : (bytes stream : List ℕ) (r : Reading) → IsRead r stream → cut stream bytes ≡ cut_by stream bytes r (taken limits r bytes)
cut_read bytes stream r h = cut_taken bytes stream r h ∙ ap (λ (n : ℕ). cut_by stream bytes r n) (sym (taken_goes r bytes h.goes))

-- where no item ends nothing is left

whole_here : (o : Option Item) (stream rest : List ℕ) (later : Cut) → (later.item ≡ None → later.rest ≡ []) → (here_or o stream rest later).item ≡ None
    → (here_or o stream rest later).rest ≡ []
whole_here (Some i) stream rest later go h = absurd (cc)
whole_here None stream rest later go h = go h

pub cut_whole : (bytes stream : List ℕ) → (cut stream bytes).item ≡ None → (cut stream bytes).rest ≡ []
cut_whole [] stream h = refl
cut_whole (b ∷ bs) stream h =
    whole_here (item_at (stream ++ b ∷ [])) (stream ++ b ∷ []) bs (cut (stream ++ b ∷ []) bs) (cut_whole bs (stream ++ b ∷ [])) h

-- the item is that of the stream up to its end

item_here : (o : Option Item) (stream rest : List ℕ) (later : Cut) (i : Item) → item_at stream ≡ o
    → (later.item ≡ Some i → item_at later.stream ≡ Some i) → (here_or o stream rest later).item ≡ Some i
    → item_at (here_or o stream rest later).stream ≡ Some i
item_here (Some x) stream rest later i e go h = e ∙ h
item_here None stream rest later i e go h = go h

pub cut_item : (bytes stream : List ℕ) (i : Item) → (cut stream bytes).item ≡ Some i → item_at (cut stream bytes).stream ≡ Some i
cut_item [] stream i h = absurd (cc)
cut_item (b ∷ bs) stream i h =
    item_here (item_at (stream ++ b ∷ [])) (stream ++ b ∷ []) bs (cut (stream ++ b ∷ []) bs) i refl (cut_item bs (stream ++ b ∷ []) i) h

-- What was read and handed out.

went_handed : (s : Reading) (bytes : List ℕ) → handed (went limits (handed s) bytes) ≡ handed (went limits s bytes)
went_handed s [] = handed_twice s
went_handed s (b ∷ bs) = ap (λ (x : Reading). handed (went limits (reading_next limits x b) bs)) (handed_twice s)

pub read_on : (bytes stream : List ℕ) (r : Reading) → IsRead r stream
    → handed (reading_after limits r (take (taken limits r bytes) bytes)) ≡ handed (went limits first_reading (stream ++ take (taken limits r bytes) bytes))
read_on bytes stream r h =
    let front : List ℕ = take (taken limits r bytes) bytes in
    ap handed (piece_went limits r bytes h.ready)
    ∙ ap (λ (x : Reading). handed (went limits x front)) h.at
    ∙ went_handed (went limits first_reading stream) front
    ∙ ap handed (sym (went-more limits first_reading stream front))

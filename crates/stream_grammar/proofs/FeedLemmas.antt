-- A piece is read byte by byte.
use Rattle.std.proofs.Common.{◌≡◌, ℕ, suc, ◌+◌, ◌<◌, List, [], ◌∷◌, ◌++◌, length, take, drop, get_or, refl, sym, ap, ◌∙◌, Bool, true, false, not, ◌||◌, arith}
use Rattle.std.proofs.lemmas.List.{drop_more, take_more}
use Rattle.std.specs.Prelude.{if◌then◌else◌, Option, Some, None}
use Rattle.stream_grammar.specs.declared.FrameFault.{FrameFault}
use Rattle.stream_grammar.specs.declared.item.Item.{Item}
use Rattle.stream_grammar.specs.declared.item.Limits.{Limits}
use Rattle.stream_grammar.specs.machine.Reading.{Reading, reads, stopped, reading_next, reading_after, taken, taken_reading}
use Rattle.stream_grammar.specs.machine.Reading.{is_done, is_stopped, is_ready, is_none, handed, went}

pub stopped_stays : (l : Limits) (f : FrameFault) (k : ℕ) (bs : List ℕ) → reading_after l (stopped f k) bs ≡ stopped f k
stopped_stays l f k [] = refl
stopped_stays l f k (b ∷ bs) = stopped_stays l f k bs

pub stays : (l : Limits) (s : Reading) (bs : List ℕ) → is_stopped s ≡ true → reading_after l s bs ≡ s
stays l (stopped f k) bs h = stopped_stays l f k bs
stays l (reads f b n k) bs h = absurd (let bad : false ≡ true = h in cc)

pub after_more : (l : Limits) (s : Reading) (xs ys : List ℕ) → reading_after l s (xs ++ ys) ≡ reading_after l (reading_after l s xs) ys
after_more l s [] ys = refl
after_more l s (x ∷ xs) ys = after_more l (reading_next l s x) xs ys

pub after_one : (l : Limits) (s : Reading) (bs : List ℕ) (i d : ℕ) → i < length bs
    → reading_after l s (take (i + 1) bs) ≡ reading_next l (reading_after l s (take i bs)) (get_or bs i d)
after_one l s bs i d h = ap (reading_after l s) (take_more bs i d h) ∙ after_more l s (take i bs) (get_or bs i d ∷ [])

pub rest_going : (l : Limits) (s t : Reading) (bs : List ℕ) (i d : ℕ) → i < length bs → reading_next l s (get_or bs i d) ≡ t → is_done t ≡ false
    → i + taken_reading l s (drop i bs) ≡ (i + 1) + taken_reading l t (drop (i + 1) bs)
rest_going l s t bs i d h e going = ap (λ (xs : List ℕ). i + taken_reading l s xs) (drop_more bs i d h)
    ∙ (ap (λ (r : Reading). i + (if is_done r then 1 else 1 + taken_reading l r (drop (i + 1) bs))) e
    ∙ (ap (λ (x : Bool). i + (if x then 1 else 1 + taken_reading l t (drop (i + 1) bs))) going ∙ shift i (taken_reading l t (drop (i + 1) bs))))
  where
    shift : (i n : ℕ) → i + (1 + n) ≡ (i + 1) + n
    shift i n = omega arith

-- An item is handed out before the next byte.

ready-handed : (s : Reading) → is_ready s ≡ true → handed s ≡ s
ready-handed (stopped f k) h = refl
ready-handed (reads f b n k) h = none b.item h refl
  where
    none : (i : Option Item) → is_none i ≡ true → b.item ≡ i → reads f (record b { item = None }) n k ≡ reads f b n k
    none None h e = ap (λ (i : Option Item). reads f (record b { item = i }) n k) (sym e)
    none (Some i) h e = absurd (let bad : false ≡ true = h in cc)

going-ready : (s : Reading) → is_done s ≡ false → is_ready s ≡ true
going-ready (stopped f k) h = refl
going-ready (reads f b n k) h = by (is_none b.item) h
  where
    by : (t : Bool) → (false || not t) ≡ false → t ≡ true
    by true h = refl
    by false h = absurd (let bad : true ≡ false = h in cc)

-- what is taken at once is read as if each item were handed out
pub taken_went : (bs : List ℕ) (l : Limits) (s : Reading) → is_ready s ≡ true
    → reading_after l s (take (taken_reading l s bs) bs) ≡ went l s (take (taken_reading l s bs) bs)
taken_went [] l s h = refl
taken_went (b ∷ bs) l s h = by (is_done (reading_next l s b)) refl (λ h. taken_went bs l (reading_next l s b) h)
  where
    by : (t : Bool) → is_done (reading_next l s b) ≡ t
        → (is_ready (reading_next l s b) ≡ true
        → reading_after l (reading_next l s b) (take (taken_reading l (reading_next l s b) bs) bs)
        ≡ went l (reading_next l s b) (take (taken_reading l (reading_next l s b) bs) bs))
        → reading_after l s (take (if t then 1 else 1 + taken_reading l (reading_next l s b) bs) (b ∷ bs))
        ≡ went l s (take (if t then 1 else 1 + taken_reading l (reading_next l s b) bs) (b ∷ bs))
    by true e go = ap (λ (x : Reading). reading_next l x b) (sym (ready-handed s h))
    by false e go =
        let m : ℕ = taken_reading l (reading_next l s b) bs in
        let one : take (1 + m) (b ∷ bs) ≡ b ∷ take m bs = ap (λ (n : ℕ). take n (b ∷ bs)) (let e : 1 + m ≡ suc m = omega arith in e) in
        ap (reading_after l s) one
        ∙ (go (going-ready (reading_next l s b) e)
        ∙ (ap (λ (x : Reading). went l (reading_next l x b) (take m bs)) (sym (ready-handed s h)) ∙ ap (went l s) (sym one)))

went-stopped : (bs : List ℕ) (l : Limits) (f : FrameFault) (k : ℕ) → went l (stopped f k) bs ≡ stopped f k
went-stopped [] l f k = refl
went-stopped (b ∷ bs) l f k = went-stopped bs l f k

pub piece_went : (l : Limits) (s : Reading) (bs : List ℕ) → is_ready s ≡ true → reading_after l s (take (taken l s bs) bs) ≡ went l s (take (taken l s bs) bs)
piece_went l (stopped f k) bs h = stopped_stays l f k (take (length bs) bs) ∙ sym (went-stopped (take (length bs) bs) l f k)
piece_went l (reads f b n k) bs h = taken_went bs l (reads f b n k) h

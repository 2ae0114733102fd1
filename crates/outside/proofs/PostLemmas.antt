-- Posts that are handed out and taken back.
use Rattle.std.proofs.Common.{◌≡◌, ◌≤◌, ◌<◌, ◌+◌, ◌-◌, ◌&&◌, ℕ, zero, suc, Bool, true, false, nat_eq, nat_lt, List, [], ◌∷◌, ◌++◌}
use Rattle.std.proofs.Common.{append_assoc, get_or, length, take, drop, map, arith, eqb-true, refl, ap, sym, ◌∙◌}
use Rattle.std.proofs.Math.ListN.{drop_of_length-le}
use Rattle.std.proofs.lemmas.List.{append-nil, drop_more, length-map, length-take-le, map-append}
use Rattle.std.proofs.lemmas.List.Elements.{All-cons, All-nil}
use Rattle.std.specs.Prelude.{All, Option, Some, None, is_some}
use Rattle.outside.specs.Plans.{Plan}
use Rattle.outside.specs.Polls.{IsFresh, IsOpened, PollerState, SeatState, all_tell, placed, placed_from, seat_at}
use Rattle.outside.specs.Posts.{AreOpened, Each, Gathers, IsUnused, MemPost, PortsState, added, all_of, and_tapes, dice_faults_of, fits, kept_by, opened}
use Rattle.outside.specs.Posts.{pass_first, tapes_told, told_of, took_post, took_posts}
use Rattle.outside.specs.Tapes.{Mark, shown, told_where}
use Rattle.outside.proofs.Adding.{added_both}
use Rattle.outside.proofs.PollLemmas.{both}

-- The first posts of a script.

pub each_take : (A : Type 0) (P : A → Type 0) (n : ℕ) (xs : List A) → Each A P xs → Each A P (take n xs)
each_take A P zero xs each = tt
each_take A P (suc n) [] each = tt
each_take A P (suc n) (x ∷ xs) each = (each.0, each_take A P n xs each.1)

pub each_drop : (A : Type 0) (P : A → Type 0) (n : ℕ) (xs : List A) → Each A P xs → Each A P (drop n xs)
each_drop A P zero xs each = each
each_drop A P (suc n) [] each = tt
each_drop A P (suc n) (x ∷ xs) each = each_drop A P n xs each.1

-- that many are there where each passes
pub passes_length : {A : Type 0} (test : A → Bool) (n : ℕ) (xs : List A) → pass_first test n xs ≡ true → n ≤ length xs
passes_length test zero xs e = omega arith
passes_length test (suc n) [] e = absurd (let f : false ≡ true = e in cc)
passes_length test (suc n) (x ∷ xs) e = let least = passes_length test n xs (both (test x) (pass_first test n xs) e).1 in omega (arith, least)

pub handed_length : {A B : Type 0} (test : A → Bool) (f : A → B) (n : ℕ) (xs : List A) → pass_first test n xs ≡ true → length (map f (take n xs)) ≡ n
handed_length test f n xs e = length-map (take n xs) f ∙ length-take-le n xs (passes_length test n xs e)

-- one more that passes
pub pass_one : {A : Type 0} (test : A → Bool) (n k : ℕ) (xs : List A) (x : A) → k < n → k < length xs → x ≡ get_or xs k x → test x ≡ true
    → pass_first test (n - k) (drop k xs) ≡ pass_first test (n - (k + 1)) (drop (k + 1) xs)
pass_one test n k xs x below less is passes =
    let more : n - k ≡ suc (n - (k + 1)) = omega (arith, below) in
    ap (λ m. pass_first test m (drop k xs)) more
    ∙ ap (λ ys. pass_first test (suc (n - (k + 1))) ys) (drop_more xs k x less)
    ∙ ap (λ b. b && pass_first test (n - (k + 1)) (drop (k + 1) xs)) (sym (ap test is) ∙ passes)

pub pass_none : {A : Type 0} (test : A → Bool) (n k : ℕ) (xs : List A) (x : A) → k < n → k < length xs → x ≡ get_or xs k x → test x ≡ false
    → pass_first test (n - k) (drop k xs) ≡ false
pass_none test n k xs x below less is fails =
    let more : n - k ≡ suc (n - (k + 1)) = omega (arith, below) in
    ap (λ m. pass_first test m (drop k xs)) more
    ∙ ap (λ ys. pass_first test (suc (n - (k + 1))) ys) (drop_more xs k x less)
    ∙ ap (λ b. b && pass_first test (n - (k + 1)) (drop (k + 1) xs)) (sym (ap test is) ∙ fails)

pub pass_few : {A : Type 0} (test : A → Bool) (n k : ℕ) (xs : List A) → k < n → length xs ≤ k → pass_first test (n - k) (drop k xs) ≡ false
pass_few test n k xs below few =
    let more : n - k ≡ suc (n - (k + 1)) = omega (arith, below) in
    ap (λ m. pass_first test m (drop k xs)) more ∙ ap (λ ys. pass_first test (suc (n - (k + 1))) ys) (drop_of_length-le xs few)

pub pass_end : {A : Type 0} (test : A → Bool) (n : ℕ) (xs : List A) → pass_first test (n - n) (drop n xs) ≡ true
pass_end test n xs = ap (λ m. pass_first test m (drop n xs)) (let e : n - n ≡ 0 = omega arith in e)

-- Pollers as they are handed out.

pub fresh_free : (places : List SeatState) (k : ℕ) → Each SeatState IsFresh places → IsFresh (seat_at places k)
fresh_free [] k each = (refl, refl, refl)
fresh_free (s ∷ more) zero each = each.0
fresh_free (s ∷ more) (suc k) each = fresh_free more k each.1

abbrev IsOpenedMem : (places quota : ℕ) → PollerState → Type 0
IsOpenedMem places quota p =
    IsOpened PollerState (λ q. length q.places) (λ q. q.quota) (λ q. q.plan.faults) (λ q. q.links) (λ q k. (seat_at q.places k).taken)
    (λ q k. (seat_at q.places k).came) (λ q k. (seat_at q.places k).tapes) places quota p

pub all_opened : (places quota n : ℕ) (posts : List MemPost) → Each MemPost IsUnused posts → pass_first (fits places) n posts ≡ true
    → AreOpened places quota (map (opened quota) (take n posts))
all_opened places quota zero posts each e = All-nil (λ (q : MemPost). IsOpenedMem places quota q.poller)
all_opened places quota (suc n) [] each e = absurd (let f : false ≡ true = e in cc)
all_opened places quota (suc n) (p ∷ ps) each e =
    let parts = both (fits places p) (pass_first (fits places) n ps) e in
    let sizes = both (nat_eq (length p.poller.places) places) (nat_eq (length p.sources.items) places) parts.0 in
    All-cons (λ (q : MemPost). IsOpenedMem places quota q.poller) (opened quota p) (map (opened quota) (take n ps))
    (record {
      places = eqb-true (length p.poller.places) places sizes.0;
      quota_is = refl;
      faults = each.0.0;
      links = each.0.1;
      free = λ k. (fresh_free p.poller.places k each.0.2).0;
      came = λ k. (fresh_free p.poller.places k each.0.2).1;
      tapes = λ k. (fresh_free p.poller.places k each.0.2).2;
    })
    (all_opened places quota n ps each.1 parts.1)

pub all_sourced : (places quota n : ℕ) (posts : List MemPost) → pass_first (fits places) n posts ≡ true
    → All (λ (p : MemPost). length p.sources.items ≡ places) (map (opened quota) (take n posts))
all_sourced places quota zero posts e = All-nil (λ (q : MemPost). length q.sources.items ≡ places)
all_sourced places quota (suc n) [] e = absurd (let f : false ≡ true = e in cc)
all_sourced places quota (suc n) (p ∷ ps) e =
    let parts = both (fits places p) (pass_first (fits places) n ps) e in
    let sizes = both (nat_eq (length p.poller.places) places) (nat_eq (length p.sources.items) places) parts.0 in
    All-cons (λ (q : MemPost). length q.sources.items ≡ places) (opened quota p) (map (opened quota) (take n ps))
    (eqb-true (length p.sources.items) places sizes.1)
    (all_sourced places quota n ps parts.1)

-- What is taken back.

-- keeping a poller changes no count
kept_plan : (b : Bool) (v : PortsState) (p : PollerState) → (kept_by b v p).plan ≡ v.plan
kept_plan true v p = refl
kept_plan false v p = refl

kept_links : (b : Bool) (v : PortsState) (p : PollerState) → (kept_by b v p).links ≡ v.links
kept_links true v p = refl
kept_links false v p = refl

kept_dice : (b : Bool) (v : PortsState) (p : PollerState) → (kept_by b v p).dice_faults ≡ v.dice_faults
kept_dice true v p = refl
kept_dice false v p = refl

kept_address : (b : Bool) (v : PortsState) (p : PollerState) → (kept_by b v p).address ≡ v.address
kept_address true v p = refl
kept_address false v p = refl

kept_own_dice : (b : Bool) (v : PortsState) (p : PollerState) → (kept_by b v p).dice ≡ v.dice
kept_own_dice true v p = refl
kept_own_dice false v p = refl

pub gathered_faults : (v : PortsState) (posts : List MemPost)
    → (took_posts v posts).plan.faults ≡ added v.plan.faults (map (λ p. p.poller.plan.faults) posts)
gathered_faults v [] = refl
gathered_faults v (p ∷ ps) =
    gathered_faults (took_post v p) ps
    ∙ ap (λ (x : Plan). added x.faults (map (λ (q : MemPost). q.poller.plan.faults) ps)) (kept_plan (nat_lt 0 v.room) _ p.poller)

pub gathered_links : (v : PortsState) (posts : List MemPost)
    → (took_posts v posts).links ≡ added v.links (map (λ p. p.poller.links) posts)
gathered_links v [] = refl
gathered_links v (p ∷ ps) =
    gathered_links (took_post v p) ps
    ∙ ap (λ n. added n (map (λ (q : MemPost). q.poller.links) ps)) (kept_links (nat_lt 0 v.room) _ p.poller)

pub gathered_dice : (v : PortsState) (posts : List MemPost)
    → (took_posts v posts).dice_faults ≡ added v.dice_faults (all_of (map (λ p. map (λ s. s.dice.plan.faults) p.sources.items) posts))
gathered_dice v [] = refl
gathered_dice v (p ∷ ps) =
    gathered_dice (took_post v p) ps
    ∙ ap (λ n. added n (all_of (map (λ (q : MemPost). dice_faults_of q.sources.items) ps))) (kept_dice (nat_lt 0 v.room) _ p.poller)
    ∙ sym (added_both v.dice_faults (dice_faults_of p.sources.items) (all_of (map (λ (q : MemPost). dice_faults_of q.sources.items) ps)))

pub gathered_address : (v : PortsState) (posts : List MemPost) → (took_posts v posts).address ≡ v.address
gathered_address v [] = refl
gathered_address v (p ∷ ps) = gathered_address (took_post v p) ps ∙ kept_address (nat_lt 0 v.room) _ p.poller

pub gathered_own_dice : (v : PortsState) (posts : List MemPost) → (took_posts v posts).dice ≡ v.dice
gathered_own_dice v [] = refl
gathered_own_dice v (p ∷ ps) = gathered_own_dice (took_post v p) ps ∙ kept_own_dice (nat_lt 0 v.room) _ p.poller

-- Tapes, post by post and place by place.

abbrev PlaceTapes : Type 0
PlaceTapes = Option (List (List Mark))

abbrev Tapes : Type 0
Tapes = Option (List (List (List (List Mark))))

-- what is told place by place is told of each place
placed_all : (places : List SeatState) (from : ℕ) (f : ℕ → PlaceTapes) → ((k : ℕ) → f (from + k) ≡ (seat_at places k).tapes)
    → placed_from from (length places) f ≡ map (λ (s : SeatState). s.tapes) places
placed_all [] from f same = refl
placed_all (s ∷ more) from f same =
    let zeroth : from ≡ from + 0 = omega arith in
    ap (λ t. t ∷ placed_from (from + 1) (length more) f) (ap f zeroth ∙ same 0)
    ∙ ap (λ ts. s.tapes ∷ ts)
    (placed_all more (from + 1) f (λ k. let next : from + 1 + k ≡ from + suc k = omega arith in ap f next ∙ same (suc k)))

abbrev tapes_at : PollerState → List PlaceTapes
tapes_at p = placed (length p.places) (λ k. (seat_at p.places k).tapes)

some_told : (t : PlaceTapes) → is_some t ≡ true → t ≡ Some (shown (List Mark) t)
some_told None e = absurd (let f : false ≡ true = e in cc)
some_told (Some tapes) e = refl

tapes_all : (places : List SeatState) → all_tell places ≡ true
    → map (λ (s : SeatState). s.tapes) places ≡ map Some (map (λ (s : SeatState). shown (List Mark) s.tapes) places)
tapes_all [] e = refl
tapes_all (s ∷ more) e =
    let parts = both (is_some s.tapes) (all_tell more) e in
    ap (λ t. t ∷ map (λ (q : SeatState). q.tapes) more) (some_told s.tapes parts.0)
    ∙ ap (λ ts. Some (shown (List Mark) s.tapes) ∷ ts) (tapes_all more parts.1)

gathers_by : (b : Bool) (old : Tapes) (given : List PlaceTapes) (tapes : List (List (List Mark))) → (b ≡ true → given ≡ map Some tapes)
    → Gathers old (given ∷ []) (and_tapes old (told_where (List (List Mark)) b tapes))
gathers_by b None given tapes same = tt
gathers_by true (Some old) given tapes same = (tapes ∷ [], ap (λ g. g ∷ []) (same refl), refl)
gathers_by false (Some old) given tapes same = tt

gathers_told : (old : Tapes) (p : PollerState) → Gathers old (tapes_at p ∷ []) (and_tapes old (told_of p))
gathers_told old p =
    let from : (k : ℕ) → (seat_at p.places (0 + k)).tapes ≡ (seat_at p.places k).tapes
    = λ k. ap (λ j. (seat_at p.places j).tapes) (let z : 0 + k ≡ k = omega arith in z) in
    gathers_by (all_tell p.places) old (tapes_at p) (tapes_told p)
    (λ e. placed_all p.places 0 (λ k. (seat_at p.places k).tapes) from ∙ tapes_all p.places e)

-- one more poller whose tapes are told, or which was kept untold
gathers_one : (b : Bool) (v : PortsState) (p : PollerState) → Gathers v.tapes (tapes_at p ∷ []) (kept_by b v p).tapes
gathers_one true v p = gathers_told v.tapes p
gathers_one false v p = tt

gathers_both : (old middle now : Tapes) (one more : List (List PlaceTapes)) → Gathers old one middle → Gathers middle more now → Gathers old (one ++ more) now
gathers_both old middle None one more p q = tt
gathers_both old None (Some now) one more p q = absurd q
gathers_both None (Some middle) (Some now) one more p q = absurd p
gathers_both (Some old) (Some middle) (Some now) one more p q =
    let joined = append_assoc old p.0 q.0 in (
      p.0 ++ q.0,
      ap (λ o. o ++ more) p.1 ∙ ap (λ m. map (map Some) p.0 ++ m) q.1 ∙ sym (map-append (map Some) p.0 q.0),
      q.2 ∙ ap (λ m. m ++ q.0) p.2 ∙ joined,
    )

gathers_none : (old : Tapes) → Gathers old [] old
gathers_none None = tt
gathers_none (Some old) = ([], refl, sym (append-nil old))

pub gathered_tapes : (v : PortsState) (posts : List MemPost)
    → Gathers v.tapes (map (λ p. placed (length p.poller.places) (λ k. (seat_at p.poller.places k).tapes)) posts) (took_posts v posts).tapes
gathered_tapes v [] = gathers_none v.tapes
gathered_tapes v (p ∷ ps) =
    gathers_both v.tapes (took_post v p).tapes (took_posts (took_post v p) ps).tapes (tapes_at p.poller ∷ []) (map (λ (q : MemPost). tapes_at q.poller) ps)
    (gathers_one (nat_lt 0 v.room) _ p.poller) (gathered_tapes (took_post v p) ps)

-- Posts of ports that never fail.
use Rattle.std.proofs.Common.{◌≡◌, ℕ, zero, suc, Bool, true, false, nat_eq, List, [], ◌∷◌, length, take, map, replicate, eqb-true, refl, ap, sym, subst, ◌∙◌}
use Rattle.std.proofs.lemmas.List.{length-replicate}
use Rattle.std.proofs.lemmas.List.Elements.{All-cons, All-nil, All-weaker}
use Rattle.std.specs.Prelude.{All, None}
use Rattle.outside.specs.Polls.{CleanPollerState, IsFresh, IsOpened, SeatState, seat_at, untold_seat}
use Rattle.outside.specs.Posts.{AreOpenedClean, CleanPost, Each, Finds, FindsBy, IsPlain, IsUnusedClean, fits_clean, opened_clean}
use Rattle.outside.specs.Posts.{pass_first, plain_poller, plain_sources}
use Rattle.outside.proofs.CleanPollLemmas.{fresh_untold}
use Rattle.outside.proofs.PollLemmas.{both}
use Rattle.outside.proofs.PostLemmas.{each_drop, fresh_free, handed_length}

abbrev IsOpenedClean : (places quota : ℕ) → CleanPollerState → Type 0
IsOpenedClean places quota p =
    IsOpened CleanPollerState (λ q. length q.places) (λ q. q.quota) (λ _. 0) (λ q. q.links) (λ q k. (seat_at q.places k).taken)
    (λ q k. (seat_at q.places k).came) (λ _ _. None) places quota p

all_opened : (places quota n : ℕ) (posts : List CleanPost) → Each CleanPost IsUnusedClean posts → pass_first (fits_clean places) n posts ≡ true
    → AreOpenedClean places quota (map (opened_clean quota) (take n posts))
all_opened places quota zero posts each e = All-nil (λ (q : CleanPost). IsOpenedClean places quota q.poller)
all_opened places quota (suc n) [] each e = absurd (let f : false ≡ true = e in cc)
all_opened places quota (suc n) (p ∷ ps) each e =
    let parts = both (fits_clean places p) (pass_first (fits_clean places) n ps) e in
    let sizes = both (nat_eq (length p.poller.places) places) (nat_eq (length p.sources.items) places) parts.0 in
    All-cons (λ (q : CleanPost). IsOpenedClean places quota q.poller) (opened_clean quota p) (map (opened_clean quota) (take n ps))
    (record {
      places = eqb-true (length p.poller.places) places sizes.0;
      quota_is = refl;
      faults = refl;
      links = each.0.0;
      free = λ k. (fresh_free p.poller.places k each.0.1).0;
      came = λ k. (fresh_free p.poller.places k each.0.1).1;
      tapes = λ k. tt;
    })
    (all_opened places quota n ps each.1 parts.1)

all_sourced : (places quota n : ℕ) (posts : List CleanPost) → pass_first (fits_clean places) n posts ≡ true
    → All (λ (p : CleanPost). length p.sources.items ≡ places) (map (opened_clean quota) (take n posts))
all_sourced places quota zero posts e = All-nil (λ (q : CleanPost). length q.sources.items ≡ places)
all_sourced places quota (suc n) [] e = absurd (let f : false ≡ true = e in cc)
all_sourced places quota (suc n) (p ∷ ps) e =
    let parts = both (fits_clean places p) (pass_first (fits_clean places) n ps) e in
    let sizes = both (nat_eq (length p.poller.places) places) (nat_eq (length p.sources.items) places) parts.0 in
    All-cons (λ (q : CleanPost). length q.sources.items ≡ places) (opened_clean quota p) (map (opened_clean quota) (take n ps))
    (eqb-true (length p.sources.items) places sizes.1)
    (all_sourced places quota n ps parts.1)

plain_opened : (places quota : ℕ) → IsOpenedClean places quota (plain_poller places quota)
plain_opened places quota = record {
  places = length-replicate places untold_seat;
  quota_is = refl;
  faults = refl;
  links = refl;
  free = λ k. (fresh_free (replicate places untold_seat) k (fresh_untold places)).0;
  came = λ k. (fresh_free (replicate places untold_seat) k (fresh_untold places)).1;
  tapes = λ k. tt;
}

opened_by : (b : Bool) (left now : List CleanPost) (workers places quota : ℕ) (posts : List CleanPost) → Each CleanPost IsUnusedClean left
    → pass_first (fits_clean places) workers left ≡ b → FindsBy b left now workers places quota posts → AreOpenedClean places quota posts
opened_by true left now workers places quota posts each e p =
    subst (λ (ps : List CleanPost). AreOpenedClean places quota ps) (sym p.0) (all_opened places quota workers left each e)
opened_by false left now workers places quota posts each e p =
    All-weaker (IsPlain places quota) (λ (q : CleanPost). IsOpenedClean places quota q.poller)
    (λ q plain. subst (λ (x : CleanPollerState). IsOpenedClean places quota x) (sym plain.poller) (plain_opened places quota)) posts p.1

pub found_opened : (left now : List CleanPost) (workers places quota : ℕ) (posts : List CleanPost) → Each CleanPost IsUnusedClean left
    → Finds left now workers places quota posts → AreOpenedClean places quota posts
found_opened left now workers places quota posts each p =
    opened_by (pass_first (fits_clean places) workers left) left now workers places quota posts each refl p

sourced_by : (b : Bool) (left now : List CleanPost) (workers places quota : ℕ) (posts : List CleanPost) → pass_first (fits_clean places) workers left ≡ b
    → FindsBy b left now workers places quota posts → All (λ (p : CleanPost). length p.sources.items ≡ places) posts
sourced_by true left now workers places quota posts e p =
    subst (λ (ps : List CleanPost). All (λ (q : CleanPost). length q.sources.items ≡ places) ps) (sym p.0) (all_sourced places quota workers left e)
sourced_by false left now workers places quota posts e p =
    All-weaker (IsPlain places quota) (λ (q : CleanPost). length q.sources.items ≡ places)
    (λ q plain. ap length plain.sources ∙ length-replicate places plain_sources) posts p.1

pub found_sourced : (left now : List CleanPost) (workers places quota : ℕ) (posts : List CleanPost) → Finds left now workers places quota posts
    → All (λ (p : CleanPost). length p.sources.items ≡ places) posts
found_sourced left now workers places quota posts p =
    sourced_by (pass_first (fits_clean places) workers left) left now workers places quota posts refl p

count_by : (b : Bool) (left now : List CleanPost) (workers places quota : ℕ) (posts : List CleanPost) → pass_first (fits_clean places) workers left ≡ b
    → FindsBy b left now workers places quota posts → length posts ≡ workers
count_by true left now workers places quota posts e p = ap length p.0 ∙ handed_length (fits_clean places) (opened_clean quota) workers left e
count_by false left now workers places quota posts e p = p.0

pub found_count : (left now : List CleanPost) (workers places quota : ℕ) (posts : List CleanPost) → Finds left now workers places quota posts
    → length posts ≡ workers
found_count left now workers places quota posts p =
    count_by (pass_first (fits_clean places) workers left) left now workers places quota posts refl p

unused_by : (b : Bool) (left now : List CleanPost) (workers places quota : ℕ) (posts : List CleanPost) → Each CleanPost IsUnusedClean left
    → FindsBy b left now workers places quota posts → Each CleanPost IsUnusedClean now
unused_by true left now workers places quota posts each p =
    subst (λ (ps : List CleanPost). Each CleanPost IsUnusedClean ps) (sym p.1) (each_drop CleanPost IsUnusedClean workers left each)
unused_by false left now workers places quota posts each p = subst (λ (ps : List CleanPost). Each CleanPost IsUnusedClean ps) (sym p.2) each

-- the posts that are left were not used
pub found_unused : (left now : List CleanPost) (workers places quota : ℕ) (posts : List CleanPost) → Each CleanPost IsUnusedClean left
    → Finds left now workers places quota posts → Each CleanPost IsUnusedClean now
found_unused left now workers places quota posts each p =
    unused_by (pass_first (fits_clean places) workers left) left now workers places quota posts each p

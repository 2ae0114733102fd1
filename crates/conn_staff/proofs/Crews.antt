-- The workers of the code: what they were given, and what they leave.
use Rattle.std.proofs.Common.{◌≡◌, ℕ, zero, suc, ◌<◌, ◌≤◌, ◌^◌, ◌*◌, Bool, false, List, [], ◌∷◌, map, length, All, slice_index_or, refl, sym, ap, subst, ◌∙◌, arith, length-append, suc-mul}
use Rattle.std.specs.Prelude.{Option, None, vec_capacity}
use Rattle.std.specs.List.{list_any}
use Rattle.account_book.specs.Lists.{Book}
use Rattle.house_model.specs.States.{Kept}
use Rattle.outside.specs.declared.poller.PollPost.{PollPost}
use Rattle.outside.specs.declared.poller.Sources.{Sources}
use Rattle.outside.specs.Posts.{all_of}
use Rattle.hall.specs.declared.hall.Hall.{Hall}
use Rattle.hall.specs.Halls.{CameFrom, Closed, opening_state}
use Rattle.hall.specs.Stories.{HallPass}
use Rattle.turn_lock.specs.Histories.{counted}
use Rattle.turn_lock.specs.Passes.{number_of}
use Rattle.many_links.specs.declared.place.Place.{Place}
use Rattle.many_links.specs.Visits.{Links, Tapes}
use Rattle.conn_staff.specs.declared.bench.Bench.{Bench}
use Rattle.conn_staff.specs.declared.roster.Worked.{Worked}
use Rattle.conn_staff.specs.declared.worker.Worker.{Worker}
use Rattle.conn_staff.specs.Staffs.{PostTelling, Staffed, Telling, counts, post_told, told_by, worked_by}
use Rattle.conn_staff.specs.Workers.{AllHaveRoom, AllWorked, Crew, HasRoom, IsFit, IsReady, crew_of, outfit_at, outfit_of, passes_at, post_of, source_of}
use Rattle.conn_staff.proofs.Gathering.{Fresh, came_after, many_after, map_both, of_each, passes_after, passes_of, staffed, through, un_map}
use Rattle.conn_staff.proofs.Places.{passes_same, told_same}

pub sources_length : (L C I : Type 0) (xs : List (Place HallPass L C I)) → length (map source_of xs) ≡ length xs
sources_length L C I [] = refl
sources_length L C I (x ∷ xs) = ap suc (sources_length L C I xs)

shorter : (m n : ℕ) → suc m ≡ suc n → m ≡ n
shorter m n h = omega arith

unequal : (n : ℕ) → 0 ≡ suc n → ⊥
unequal n h = omega arith

-- What they are given.

pub some_lines : (workers places : ℕ) → 0 < workers → 0 < places → 0 < workers * places
some_lines zero places some each = absurd (omega (arith, some))
some_lines (suc n) places some each = let next = suc-mul n places in omega (arith, next, each)

module _ (P L C I : Type 0) where
  -- benches with so many places have room for posts with as many
  pub all_have_room : (n : ℕ) (bs : List (Bench L C I)) (ps : List (PollPost P C I)) → length bs ≡ length ps → All (HasRoom L C I n) bs
      → All (λ p. length p.sources.items ≡ n) ps → AllHaveRoom P L C I bs ps
  all_have_room n [] [] same room many = tt
  all_have_room n [] (p ∷ ps) same room many = absurd (unequal (length ps) same)
  all_have_room n (b ∷ bs) [] same room many = absurd (unequal (length bs) (sym same))
  all_have_room n (b ∷ bs) (p ∷ ps) same room many = (
    subst (λ (m : ℕ). HasRoom L C I m b) (sym (many 0 p (omega arith))) (room 0 b (omega arith)),
    all_have_room n bs ps (shorter (length bs) (length ps) same) (λ k d h. room (suc k) d (omega (arith, h))) (λ k d h. many (suc k) d (omega (arith, h))),
  )

  -- as many passes as places
  pub all_sources : (n : ℕ) (ps : List (PollPost P C I)) → All (λ p. length p.sources.items ≡ n) ps
      → length (all_of (map (λ (p : PollPost P C I). p.sources.items) ps)) ≡ length ps * n
  all_sources n [] many = omega arith
  all_sources n (p ∷ ps) many =
      let first : length p.sources.items ≡ n = many 0 p (omega arith) in
      let rest = all_sources n ps (λ k d h. many (suc k) d (omega (arith, h))) in
      let both = length-append p.sources.items (all_of (map (λ (q : PollPost P C I). q.sources.items) ps)) in
      let next = suc-mul (length ps) n in
      omega (arith, first, rest, both, next)

  module _ (many : P → ℕ) (taken : P → ℕ → Bool) where
    pub all_ready : (hall : Hall) (ws : List (Worker P L C I)) (passes : List HallPass) (posts : List (PollPost P C I))
        → all_of (map passes_at ws) ≡ passes → map outfit_at ws ≡ map outfit_of posts → All (CameFrom hall) passes
        → All (λ p. many p.poller ≡ length p.sources.items) posts → All (λ p. length p.sources.items < 2 ^ 32) posts
        → All (λ p. (k : ℕ) → taken p.poller k ≡ false) posts → All (λ w. All (λ p. p.busy ≡ None) w.places.items) ws → All (λ w. w.said ≡ []) ws
        → All (λ w. (w.sources.items ≡ []) × (length w.places.items ≤ vec_capacity w.sources)) ws → All (IsReady P L C I many taken hall) ws
    all_ready hall ws passes posts same_passes same_posts came wide few free busy said sources = λ k d within.
        let X : Type 0 = P × List (Sources C I) in
        let w : Worker P L C I = slice_index_or ws k d in
        let long : length (map source_of w.places.items) ≡ length w.places.items = sources_length L C I w.places.items in
        let places : many w.poller ≡ length (map source_of w.places.items)
        = through (Worker P L C I) (PollPost P C I) X outfit_at outfit_of (λ x. many x.0 ≡ length x.1) ws posts same_posts wide k d within in
        let short : length (map source_of w.places.items) < 2 ^ 32
        = through (Worker P L C I) (PollPost P C I) X outfit_at outfit_of (λ x. length x.1 < 2 ^ 32) ws posts same_posts few k d within in
        record {
          fit = record { places = places ∙ long; none = (sources k d within).0; room = (sources k d within).1 };
          came = un_map (Place HallPass L C I) HallPass (λ p. p.pass) (CameFrom hall) w.places.items
              (of_each (Worker P L C I) HallPass passes_at (CameFrom hall) ws passes same_passes came k d within);
          busy = busy k d within;
          few = subst (λ (n : ℕ). n < 2 ^ 32) long short;
          free = through (Worker P L C I) (PollPost P C I) X outfit_at outfit_of (λ x. (j : ℕ) → taken x.0 j ≡ false) ws posts same_posts free k d within;
          said = said k d within;
        }

    -- What they leave.
    pub all_wide : (ws : List (Worker P L C I)) (posts : List (PollPost P C I)) → map outfit_of posts ≡ map outfit_at ws
        → All (IsFit P L C I many) ws → All (λ p. many p.poller ≡ length p.sources.items) posts
    all_wide ws posts same fit =
        through (PollPost P C I) (Worker P L C I) (P × List (Sources C I)) outfit_of outfit_at (λ x. many x.0 ≡ length x.1) posts ws same
        (λ k d within. (fit k d within).places ∙ sym (sources_length L C I (slice_index_or ws k d).places.items))

    pub all_emptied : (ws : List (Worker P L C I)) → All (IsFit P L C I many) ws
        → All (λ w. (w.sources.items ≡ []) × (length w.places.items ≤ vec_capacity w.sources)) ws
    all_emptied ws fit = λ k d within. ((fit k d within).none, (fit k d within).room)

module _ (P L C I : Type 0) (tapes : P → Tapes) (came : P → Links) (links faults quota : P → ℕ) (moments : C → Option (List ℕ))
    (drawn : I → Option (List (List ℕ))) (dice : I → ℕ) where
  abbrev pub crew_at : Worker P L C I → Crew
  crew_at = crew_of P L C I tapes came links faults quota moments drawn dice

  abbrev pub tell_at : P × List (Sources C I) → PostTelling
  tell_at x = told_by P C I tapes came links faults quota moments drawn dice x.0 x.1

  by_pass : (w : Worker P L C I) → passes_of (crew_at w).seats ≡ passes_at w
  by_pass w = passes_same L C I moments drawn dice (tapes w.poller) (came w.poller) 0 w.places.items

  by_tell : (w : Worker P L C I) → post_of (crew_at w) ≡ tell_at (outfit_at w)
  by_tell w =
      ap (λ (l : List Telling). record { poller = counts (links w.poller) (faults w.poller) (quota w.poller); places = l })
      (told_same L C I moments drawn dice (tapes w.poller) (came w.poller) 0 w.places.items)

  pub still_many : (hall : Hall) (accounts : Book) (olds news : List (Worker P L C I)) → AllWorked hall accounts (map crew_at olds) (map crew_at news)
      → length news ≡ length olds
  still_many hall accounts olds news worked = many_after crew_at passes_at outfit_at tell_at by_pass by_tell hall accounts olds news worked

  pub still_passes : (hall : Hall) (accounts : Book) (olds news : List (Worker P L C I)) (from : List HallPass)
      → AllWorked hall accounts (map crew_at olds) (map crew_at news) → all_of (map passes_at olds) ≡ from
      → length (all_of (map passes_at news)) ≡ length from
  still_passes hall accounts olds news from worked same =
      passes_after crew_at passes_at outfit_at tell_at by_pass by_tell hall accounts olds news worked ∙ ap length same

  pub still_came : (hall : Hall) (accounts : Book) (olds news : List (Worker P L C I)) (left : List HallPass)
      → AllWorked hall accounts (map crew_at olds) (map crew_at news) → left ≡ all_of (map passes_at news) → All (CameFrom hall) left
  still_came hall accounts olds news left worked same =
      came_after crew_at passes_at outfit_at tell_at by_pass by_tell hall accounts olds news left worked same

  told : (posts : List (PollPost P C I)) → map tell_at (map outfit_of posts) ≡ map (post_told P C I tapes came links faults quota moments drawn dice) posts
  told posts = map_both (PollPost P C I) (P × List (Sources C I)) PostTelling outfit_of tell_at posts

  pub all_staffed : (hall : Hall) (accounts : Book) (olds news : List (Worker P L C I)) (from left : List HallPass) (posts given : List (PollPost P C I))
      (worked : Worked) (k : Kept) → AllWorked hall accounts (map crew_at olds) (map crew_at news) → all_of (map passes_at olds) ≡ from
      → map outfit_at olds ≡ map outfit_of posts → left ≡ all_of (map passes_at news) → map outfit_of given ≡ map outfit_at news
      → map number_of from ≡ counted 0 (length from) → All Fresh from → worked ≡ worked_by (list_any (λ w. w.failed) news) → Closed hall left k
      → Staffed (opening_state hall) accounts (map (post_told P C I tapes came links faults quota moments drawn dice) posts)
      (map (post_told P C I tapes came links faults quota moments drawn dice) given) worked k
  all_staffed hall accounts olds news from left posts given worked k tended same_passes same_posts left_is given_is numbers fresh worked_is closed =
      subst (λ (l : List PostTelling). Staffed (opening_state hall) accounts l (map (post_told P C I tapes came links faults quota moments drawn dice) given) worked k) (told posts)
      (subst (λ (l : List PostTelling). Staffed (opening_state hall) accounts (map tell_at (map outfit_of posts)) l worked k) (told given)
      (staffed crew_at passes_at outfit_at tell_at by_pass by_tell hall accounts olds news from left (map outfit_of posts) (map outfit_of given) worked k
      tended same_passes same_posts left_is given_is numbers fresh worked_is closed))

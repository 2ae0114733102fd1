-- From the places of a worker by their numbers to what it tells.
use Rattle.std.proofs.Common.{◌≡◌, ℕ, suc, ◌+◌, ◌-◌, ◌^◌, ◌<◌, ◌≤◌, min, Bool, List, [], ◌∷◌, map, length, All, true, refl, sym, ap, subst, ◌∙◌, arith}
use Rattle.std.specs.Prelude.{Option, sum_by}
use Rattle.std.proofs.lemmas.List.Elements.{All-head, All-tail}
use Rattle.std.proofs.lemmas.List.Sums.{sum_by-cons}
use Rattle.account_book.specs.Lists.{Book}
use Rattle.outside.specs.Tapes.{Mark}
use Rattle.hall.specs.declared.hall.Hall.{Hall}
use Rattle.hall.specs.Desks.{turns_of}
use Rattle.hall.specs.Halls.{CameFrom, opening_state}
use Rattle.hall.specs.Stories.{HallPass}
use Rattle.turn_lock.specs.Passes.{number_of, refused, seen}
use Rattle.conn_serve.specs.Connections.{site_of}
use Rattle.conn_serve.specs.Shifts.{Attends, IsWithin}
use Rattle.many_links.specs.declared.place.Place.{Place}
use Rattle.many_links.specs.declared.many.ManyEnded.{ManyEnded}
use Rattle.many_links.specs.declared.many.ManyEnded.TheVariants.{PollFault, Shut}
use Rattle.outside.specs.Devices.{Rose}
use Rattle.many_links.specs.Visits.{AddsUp, AllServed, Ends, Links, Served, Spot, Tapes, at, spot_of, sum_of}
use Rattle.conn_staff.specs.Staffs.{EndedBy, Telling, at_line, counts, telling, told_from}
use Rattle.conn_staff.specs.Workers.{AllTended, Crew, HasWorked, Seat, Tended, seat, seats_from, source_of}

nothing_more : (k : ℕ) → k + 0 ≡ k
nothing_more k = omega arith

nothing_before : (k : ℕ) → 0 + k ≡ k
nothing_before k = omega arith

one_on : (k n : ℕ) → k + suc n ≡ (k + 1) + n
one_on k n = omega arith

next_number : (k : ℕ) → k + 1 ≡ suc k
next_number k = omega arith

within_more : (i n : ℕ) → i < n → suc i < suc n
within_more i n h = omega arith

within_first : (n : ℕ) → 0 < suc n
within_first n = omega arith

shorter : (m n : ℕ) → suc m ≡ suc n → m ≡ n
shorter m n h = omega arith

unequal : (n : ℕ) → 0 ≡ suc n → ⊥
unequal n h = omega arith

-- how its poller ended
pub by_shut : (r : ManyEnded) (x : Bool) (a b : ℕ) → r ≡ Shut → Ends r x a b → x ≡ true
by_shut r x a b is ends = subst (λ (y : ManyEnded). Ends y x a b) is ends

pub by_fault : (r : ManyEnded) (x : Bool) (a b : ℕ) → r ≡ PollFault → Ends r x a b → Rose a b
by_fault r x a b is ends = subst (λ (y : ManyEnded). Ends y x a b) is ends

module _ (L C I : Type 0) (moments : C → Option (List ℕ)) (drawn : I → Option (List (List ℕ))) (dice : I → ℕ) where
  pub seats_length : (t : Tapes) (m : Links) (k : ℕ) (xs : List (Place HallPass L C I))
      → length (seats_from L C I moments drawn dice t m k xs) ≡ length xs
  seats_length t m k [] = refl
  seats_length t m k (x ∷ xs) = ap suc (seats_length t m (k + 1) xs)

  pub told_same : (t : Tapes) (m : Links) (k : ℕ) (xs : List (Place HallPass L C I))
      → map (λ (s : Seat). s.told) (seats_from L C I moments drawn dice t m k xs) ≡ told_from C I moments drawn dice t m k (map source_of xs)
  told_same t m k [] = refl
  told_same t m k (x ∷ xs) =
      ap (λ (l : List Telling). telling (t k) (moments x.clock) (drawn x.dice) (m k) (dice x.dice) ∷ l) (told_same t m (k + 1) xs)

  pub passes_same : (t : Tapes) (m : Links) (k : ℕ) (xs : List (Place HallPass L C I))
      → map (λ (s : Seat). s.pass) (seats_from L C I moments drawn dice t m k xs) ≡ map (λ p. p.pass) xs
  passes_same t m k [] = refl
  passes_same t m k (x ∷ xs) = ap (λ (l : List HallPass). x.pass ∷ l) (passes_same t m (k + 1) xs)

  -- where the same is told of each place
  pub seats_same : (t t' : Tapes) (m m' : Links) (k : ℕ) (xs : List (Place HallPass L C I)) → ((j : ℕ) → t' j ≡ t j) → ((j : ℕ) → m' j ≡ m j)
      → seats_from L C I moments drawn dice t' m' k xs ≡ seats_from L C I moments drawn dice t m k xs
  seats_same t t' m m' k [] tapes came = refl
  seats_same t t' m m' k (x ∷ xs) tapes came =
      ap (λ (a : Option (List (List Mark))). seat x.pass (telling a (moments x.clock) (drawn x.dice) (m' k) (dice x.dice))
      ∷ seats_from L C I moments drawn dice t' m' (k + 1) xs) (tapes k)
      ∙ ap (λ (n : ℕ). seat x.pass (telling (t k) (moments x.clock) (drawn x.dice) n (dice x.dice))
      ∷ seats_from L C I moments drawn dice t' m' (k + 1) xs) (came k)
      ∙ ap (λ (l : List Seat). seat x.pass (telling (t k) (moments x.clock) (drawn x.dice) (m k) (dice x.dice)) ∷ l)
      (seats_same t t' m m' (k + 1) xs tapes came)

  -- the counts of places together
  summed : (t : Tapes) (m : Links) (k : ℕ) (xs : List (Place HallPass L C I)) → sum_of (k + length xs) m
      ≡ sum_of k m + sum_by (λ (a : Telling). a.links) (map (λ (s : Seat). s.told) (seats_from L C I moments drawn dice t m k xs))
  summed t m k [] = let e : sum_of (k + 0) m ≡ sum_of k m = ap (λ (n : ℕ). sum_of n m) (nothing_more k) in omega (arith, e)
  summed t m k (x ∷ xs) =
      let here : sum_of (k + suc (length xs)) m ≡ sum_of ((k + 1) + length xs) m = ap (λ (n : ℕ). sum_of n m) (one_on k (length xs)) in
      let rest = summed t m (k + 1) xs in
      let first : sum_of (k + 1) m ≡ sum_of k m + m k = ap (λ (n : ℕ). sum_of n m) (next_number k) in
      let cons = sum_by-cons (λ (a : Telling). a.links) (telling (t k) (moments x.clock) (drawn x.dice) (m k) (dice x.dice))
      (map (λ (s : Seat). s.told) (seats_from L C I moments drawn dice t m (k + 1) xs)) in
      omega (arith, here, rest, first, cons)

  all_summed : (t : Tapes) (m : Links) (n : ℕ) (xs : List (Place HallPass L C I)) → n ≡ length xs
      → sum_of n m ≡ sum_by (λ (a : Telling). a.links) (map (λ (s : Seat). s.told) (seats_from L C I moments drawn dice t m 0 xs))
  all_summed t m n xs same =
      let here : sum_of n m ≡ sum_of (0 + length xs) m = ap (λ (k : ℕ). sum_of k m) (same ∙ sym (nothing_before (length xs))) in
      here ∙ summed t m 0 xs
      ∙ nothing_before (sum_by (λ (a : Telling). a.links) (map (λ (s : Seat). s.told) (seats_from L C I moments drawn dice t m 0 xs)))

  -- Links were served at a place.
  module _ (tape : L → Option (List Mark)) (faults ends : L → ℕ) (hall : Hall) (accounts : Book) where
    abbrev pub spot : Place HallPass L C I → Spot
    spot = spot_of HallPass L C I number_of seen refused tape faults ends moments drawn dice

    abbrev pub domain : List ℕ
    domain = (opening_state hall).head.domain.domain

    tended_at : (x y : Place HallPass L C I) (t t' : Option (List (List Mark))) (m m' : ℕ)
        → Served domain accounts (spot x) t m (spot y) t' m' → CameFrom hall y.pass
        → Tended hall accounts (seat x.pass (telling t (moments x.clock) (drawn x.dice) m (dice x.dice)))
        (seat y.pass (telling t' (moments y.clock) (drawn y.dice) m' (dice y.dice)))
    tended_at x y t t' m m' s from = record {
      came = from;
      number = s.line;
      attends = subst (λ (w : ℕ). Attends (site_of (number_of x.pass) domain accounts)
          (at_line (telling t (moments x.clock) (drawn x.dice) m (dice x.dice)) (turns_of (number_of x.pass) (seen x.pass)) (refused x.pass))
          (at_line (telling t' (moments y.clock) (drawn y.dice) m' (dice y.dice)) (turns_of w (seen y.pass)) (refused y.pass))) s.line s.attends;
    }

    abbrev pub ServedAt : (t t' : Tapes) (m m' : Links) (n j : ℕ) → (xs ys : List (Place HallPass L C I)) → Type 0
    ServedAt t t' m m' n j xs ys = Served domain accounts (at (map spot xs) j) (t n) (m n) (at (map spot ys) j) (t' n) (m' n)

    tended_from : (t t' : Tapes) (m m' : Links) (k : ℕ) (xs ys : List (Place HallPass L C I)) → length ys ≡ length xs
        → All (λ p. CameFrom hall p.pass) ys → ((j : ℕ) → j < length xs → ServedAt t t' m m' (k + j) j xs ys)
        → AllTended hall accounts (seats_from L C I moments drawn dice t m k xs) (seats_from L C I moments drawn dice t' m' k ys)
    tended_from t t' m m' k [] [] same came each = tt
    tended_from t t' m m' k [] (y ∷ ys) same came each = absurd (unequal (length ys) (sym same))
    tended_from t t' m m' k (x ∷ xs) [] same came each = absurd (unequal (length xs) same)
    tended_from t t' m m' k (x ∷ xs) (y ∷ ys) same came each =
        let From : Place HallPass L C I → Type 0 = λ p. CameFrom hall p.pass in
        let first : Served domain accounts (spot x) (t k) (m k) (spot y) (t' k) (m' k)
        = subst (λ (n : ℕ). Served domain accounts (spot x) (t n) (m n) (spot y) (t' n) (m' n)) (nothing_more k) (each 0 (within_first (length xs))) in (
          tended_at x y (t k) (t' k) (m k) (m' k) first (All-head From y ys came),
          tended_from t t' m m' (k + 1) xs ys (shorter (length ys) (length xs) same) (All-tail From y ys came)
              (λ j h. subst (λ (n : ℕ). ServedAt t t' m m' n j xs ys) (one_on k j) (each (suc j) (within_more j (length xs) h))),
        )

    pub all_tended : (t t' : Tapes) (m m' : Links) (xs ys : List (Place HallPass L C I)) → length ys ≡ length xs → All (λ p. CameFrom hall p.pass) ys
        → AllServed domain accounts (map spot xs) t m (map spot ys) t' m' → length (map spot xs) ≡ length xs
        → AllTended hall accounts (seats_from L C I moments drawn dice t m 0 xs) (seats_from L C I moments drawn dice t' m' 0 ys)
    all_tended t t' m m' xs ys same came served many =
        tended_from t t' m m' 0 xs ys same came
        (λ j h. subst (λ (n : ℕ). ServedAt t t' m m' n j xs ys) (sym (nothing_before j)) (served j (subst (λ (n : ℕ). j < n) (sym many) h)))

    spots_length : (xs : List (Place HallPass L C I)) → length (map spot xs) ≡ length xs
    spots_length [] = refl
    spots_length (x ∷ xs) = ap suc (spots_length xs)

    abbrev pub crew : (t : Tapes) (m : Links) (n f q : ℕ) → List (Place HallPass L C I) → Bool → Crew
    crew t m n f q xs failed = record { seats = seats_from L C I moments drawn dice t m 0 xs; poller = counts n f q; failed = failed }

    -- a worker did its part
    pub has_worked : (t t' : Tapes) (m m' : Links) (n n' f f' q q' count count' : ℕ) (failed failed' : Bool) (xs ys : List (Place HallPass L C I))
        → count ≡ length xs → count' ≡ count → length ys ≡ length xs → All (λ p. CameFrom hall p.pass) ys
        → AllServed domain accounts (map spot xs) t m (map spot ys) t' m' → q' ≡ q → (IsWithin q n → IsWithin q' n')
        → (AddsUp count m n → AddsUp count' m' n') → f ≤ f' → EndedBy failed' (counts n f q) (counts n' f' q')
        → HasWorked hall accounts (crew t m n f q xs failed) (crew t' m' n' f' q' ys failed')
    has_worked t t' m m' n n' f f' q q' count count' failed failed' xs ys many places same came served quota within sum kept by = record {
      tended = all_tended t t' m m' xs ys same came served (spots_length xs);
      ended = record {
        by = by;
        quota = quota;
        within = within;
        kept = kept;
        places = told_length t' m' ys ∙ same ∙ sym (told_length t m xs);
        sum = λ before. sum (before ∙ ap (λ (k : ℕ). min k (2 ^ 64 - 1)) (sym (all_summed t m count xs many)))
            ∙ ap (λ (k : ℕ). min k (2 ^ 64 - 1)) (all_summed t' m' count' ys (places ∙ many ∙ sym same));
      };
    }
      where
        all_told : (l : List Seat) → length (map (λ (s : Seat). s.told) l) ≡ length l
        all_told [] = refl
        all_told (s ∷ ss) = ap suc (all_told ss)

        told_length : (u : Tapes) (v : Links) (zs : List (Place HallPass L C I))
            → length (map (λ (s : Seat). s.told) (seats_from L C I moments drawn dice u v 0 zs)) ≡ length zs
        told_length u v zs = all_told (seats_from L C I moments drawn dice u v 0 zs) ∙ seats_length u v 0 zs

    -- a note changes nothing of it
    pub as_noted : (t t' : Tapes) (m m' : Links) (n n' f f' q q' : ℕ) (failed : Bool) (xs : List (Place HallPass L C I)) (a : Crew)
        → ((j : ℕ) → t' j ≡ t j) → ((j : ℕ) → m' j ≡ m j) → n' ≡ n → f' ≡ f → q' ≡ q
        → HasWorked hall accounts a (crew t m n f q xs failed) → HasWorked hall accounts a (crew t' m' n' f' q' xs failed)
    as_noted t t' m m' n n' f f' q q' failed xs a tapes came links faults quota worked =
        subst (HasWorked hall accounts a) (sym same) worked
      where
        same : crew t' m' n' f' q' xs failed ≡ crew t m n f q xs failed
        same = λ i. record {
          seats = seats_same t t' m m' 0 xs tapes came i;
          poller = record { links = links i; faults = faults i; quota = quota i };
          failed = failed;
        }

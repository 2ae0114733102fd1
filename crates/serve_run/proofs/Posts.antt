-- What posts tell, as they were handed out and as they are given back.
use Rattle.std.proofs.Common.{◌≡◌, ℕ, suc, ◌+◌, ◌<◌, All, List, [], ◌∷◌, ◌++◌, length, map, Bool, false, refl, sym, ap, subst, ◌∙◌, arith}
use Rattle.std.proofs.lemmas.List.{map-append}
use Rattle.std.specs.Prelude.{Option}
use Rattle.outside.specs.declared.poller.PollPost.{PollPost}
use Rattle.outside.specs.declared.poller.Sources.{Sources}
use Rattle.outside.specs.Doors.{Untold}
use Rattle.outside.specs.Polls.{placed, placed_from}
use Rattle.outside.specs.Polls as Poll
use Rattle.outside.specs.Posts.{Each, Gathers, added, all_of}
use Rattle.outside.specs.Tapes.{Mark}
use Rattle.many_links.specs.Visits.{Links, Tapes}
use Rattle.conn_staff.specs.Staffs.{PostTelling, Telling, places_of, post_told, told_from}
use Rattle.serve_run.specs.Services.{AllOpened, Gathered, IsUnused, Tally}

pub map_both : (A B C : Type 0) (f : A → B) (g : B → C) (xs : List A) → map g (map f xs) ≡ map (λ x. g (f x)) xs
map_both A B C f g [] = refl
map_both A B C f g (x ∷ xs) = ap (λ (l : List C). g (f x) ∷ l) (map_both A B C f g xs)

first-at : (n : ℕ) → 0 < suc n
first-at n = omega arith

more-at : (k n : ℕ) → k < n → suc k < suc n
more-at k n h = omega arith

module _ (P C I : Type 0) (places : P → ℕ) (taken : P → ℕ → Bool) (tapes : P → Tapes) (came : P → Links) (links faults quota : P → ℕ)
    (moments : C → Option (List ℕ)) (drawn : I → Option (List (List ℕ))) (dice : I → ℕ) where
  abbrev pub told : PollPost P C I → PostTelling
  told = post_told P C I tapes came links faults quota moments drawn dice

  told_length : (t : Tapes) (m : Links) (k : ℕ) (xs : List (Sources C I)) → length (told_from C I moments drawn dice t m k xs) ≡ length xs
  told_length t m k [] = refl
  told_length t m k (x ∷ xs) = ap suc (told_length t m (k + 1) xs)

  told_unused : (t : Tapes) (m : Links) (k : ℕ) (xs : List (Sources C I)) → ((j : ℕ) → m j ≡ 0) → ((j : ℕ) → Untold (List Mark) (t j))
      → Each Telling IsUnused (told_from C I moments drawn dice t m k xs)
  told_unused t m k [] none blank = tt
  told_unused t m k (x ∷ xs) none blank = ((none k, blank k), told_unused t m (k + 1) xs none blank)

  told_placed : (t : Tapes) (m : Links) (k : ℕ) (xs : List (Sources C I))
      → placed_from k (length xs) t ≡ map (λ (a : Telling). a.tapes) (told_from C I moments drawn dice t m k xs)
  told_placed t m k [] = refl
  told_placed t m k (x ∷ xs) = ap (λ (l : List (Option (List (List Mark)))). t k ∷ l) (told_placed t m (k + 1) xs)

  told_dice : (t : Tapes) (m : Links) (k : ℕ) (xs : List (Sources C I))
      → map (λ s. dice s.dice) xs ≡ map (λ (a : Telling). a.dice) (told_from C I moments drawn dice t m k xs)
  told_dice t m k [] = refl
  told_dice t m k (x ∷ xs) = ap (λ (l : List ℕ). dice x.dice ∷ l) (told_dice t m (k + 1) xs)

  -- posts are handed out as they were asked for
  pub all_opened : (many most : ℕ) (xs : List (PollPost P C I))
      → All (λ p. Poll.IsOpened P places quota faults links taken came tapes many most p.poller) xs → All (λ p. length p.sources.items ≡ many) xs
      → AllOpened many most (map told xs)
  all_opened many most [] opened sources = tt
  all_opened many most (x ∷ xs) opened sources =
      let o = opened 0 x (first-at (length xs)) in (
        record {
          quota_is = o.quota_is;
          faults = o.faults;
          count = o.links;
          places = told_length (tapes x.poller) (came x.poller) 0 x.sources.items ∙ sources 0 x (first-at (length xs));
          unused = told_unused (tapes x.poller) (came x.poller) 0 x.sources.items o.came o.tapes;
        },
        all_opened many most xs (λ k d h. opened (suc k) d (more-at k (length xs) h)) (λ k d h. sources (suc k) d (more-at k (length xs) h)),
      )

  pub all_free : (many most : ℕ) (xs : List (PollPost P C I))
      → All (λ p. Poll.IsOpened P places quota faults links taken came tapes many most p.poller) xs → All (λ p. (k : ℕ) → taken p.poller k ≡ false) xs
  all_free many most xs opened = λ k d h. (opened k d h).free

  pub all_placed : (many most : ℕ) (xs : List (PollPost P C I))
      → All (λ p. Poll.IsOpened P places quota faults links taken came tapes many most p.poller) xs → All (λ p. places p.poller ≡ many) xs
  all_placed many most xs opened = λ k d h. (opened k d h).places

  tapes_told : (xs : List (PollPost P C I)) → All (λ p. places p.poller ≡ length p.sources.items) xs
      → map (λ p. placed (places p.poller) (tapes p.poller)) xs
      ≡ map (λ (a : PostTelling). map (λ (t : Telling). t.tapes) a.places) (map told xs)
  tapes_told [] wide = refl
  tapes_told (x ∷ xs) wide =
      let here : placed (places x.poller) (tapes x.poller)
      ≡ map (λ (t : Telling). t.tapes) (told_from C I moments drawn dice (tapes x.poller) (came x.poller) 0 x.sources.items)
      = ap (λ (n : ℕ). placed n (tapes x.poller)) (wide 0 x (first-at (length xs))) ∙ told_placed (tapes x.poller) (came x.poller) 0 x.sources.items in
      ap (λ (l : List (Option (List (List Mark)))). l ∷ map (λ p. placed (places p.poller) (tapes p.poller)) xs) here
      ∙ ap (λ (l : List (List (Option (List (List Mark))))).
      map (λ (t : Telling). t.tapes) (told_from C I moments drawn dice (tapes x.poller) (came x.poller) 0 x.sources.items) ∷ l)
      (tapes_told xs (λ k d h. wide (suc k) d (more-at k (length xs) h)))

  dice_told : (xs : List (PollPost P C I)) → all_of (map (λ p. map (λ s. dice s.dice) p.sources.items) xs)
      ≡ map (λ (a : Telling). a.dice) (places_of (map told xs))
  dice_told [] = refl
  dice_told (x ∷ xs) =
      let here = told_dice (tapes x.poller) (came x.poller) 0 x.sources.items in
      ap (λ (l : List ℕ). l ++ all_of (map (λ p. map (λ s. dice s.dice) p.sources.items) xs)) here
      ∙ ap (λ (l : List ℕ). map (λ (a : Telling). a.dice) (told x).places ++ l) (dice_told xs)
      ∙ sym (map-append (λ (a : Telling). a.dice) (told x).places (places_of (map told xs)))

  -- posts that are taken back are given back to the ports
  pub given_told : (ports mid now : Tally) (xs : List (PollPost P C I)) → mid.tapes ≡ ports.tapes → mid.links ≡ ports.links → mid.dice ≡ ports.dice
      → All (λ p. places p.poller ≡ length p.sources.items) xs → Gathers mid.tapes (map (λ p. placed (places p.poller) (tapes p.poller)) xs) now.tapes
      → now.links ≡ added mid.links (map (λ p. links p.poller) xs)
      → now.dice ≡ added mid.dice (all_of (map (λ p. map (λ s. dice s.dice) p.sources.items) xs)) → Gathered ports (map told xs) now
  given_told ports mid now xs same_tapes same_links same_dice wide told_tapes told_links told_dice_all = record {
    tapes = subst (λ (t : Option (List (List (List (List Mark))))).
        Gathers t (map (λ (a : PostTelling). map (λ (t : Telling). t.tapes) a.places) (map told xs)) now.tapes) same_tapes
        (subst (λ (l : List (List (Option (List (List Mark))))). Gathers mid.tapes l now.tapes) (tapes_told xs wide) told_tapes);
    links = told_links ∙ ap (λ n. added n (map (λ p. links p.poller) xs)) same_links
        ∙ ap (added ports.links) (sym (map_both (PollPost P C I) PostTelling ℕ told (λ (a : PostTelling). a.poller.links) xs));
    dice = told_dice_all ∙ ap (λ n. added n (all_of (map (λ p. map (λ s. dice s.dice) p.sources.items) xs))) same_dice
        ∙ ap (added ports.dice) (dice_told xs);
  }

  pub faults_told : (n f : ℕ) (xs : List (PollPost P C I)) → f ≡ added n (map (λ p. faults p.poller) xs)
      → f ≡ added n (map (λ (a : PostTelling). a.poller.faults) (map told xs))
  faults_told n f xs same = same ∙ ap (added n) (sym (map_both (PollPost P C I) PostTelling ℕ told (λ (a : PostTelling). a.poller.faults) xs))

  pub length_told : (xs : List (PollPost P C I)) (n : ℕ) → length xs ≡ n → length (map told xs) ≡ n
  length_told xs n h = as_many xs ∙ h
    where
      as_many : (ys : List (PollPost P C I)) → length (map told ys) ≡ length ys
      as_many [] = refl
      as_many (y ∷ ys) = ap suc (as_many ys)

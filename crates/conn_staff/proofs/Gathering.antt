-- What all workers did, in the one history.
use Rattle.std.proofs.Common.{◌≡◌, ℕ, suc, ◌+◌, ◌^◌, ◌≤◌, List, [], ◌∷◌, ◌++◌, length, map, take, All, Bool}
use Rattle.std.proofs.Common.{true, false, cond, eqb, refl, sym, ap, subst, ◌∙◌, arith}
use Rattle.std.proofs.Math.Logic.{∥∥₁_map}
use Rattle.std.proofs.Math.Seq.{take-append_seam}
use Rattle.std.proofs.lemmas.List.{map-append}
use Rattle.std.proofs.lemmas.List.Elements.{All-nil, All-cons, All-head, All-tail, All-map}
use Rattle.account_book.specs.Lists.{Book}
use Rattle.house_model.specs.Histories.{StandsFor, Turn}
use Rattle.house_model.specs.States.{Kept, State}
use Rattle.house_model.proofs.SafeLaws.{safe}
use Rattle.outside.specs.Posts.{all_of}
use Rattle.turn_lock.specs.Histories.{StartsWith, counted, if_so, places}
use Rattle.turn_lock.specs.Passes.{mine, number_of, refused, seen}
use Rattle.hall.specs.declared.hall.Hall.{Hall}
use Rattle.hall.specs.Desks.{turns_of}
use Rattle.hall.specs.Halls.{CameFrom, Closed, opening_state}
use Rattle.hall.specs.Stories.{HallPass, line}
use Rattle.conn_serve.specs.Connections.{site_of}
use Rattle.conn_serve.specs.Shifts.{Attends}
use Rattle.conn_staff.specs.declared.roster.Worked.{Worked}
use Rattle.conn_staff.specs.Staffs.{AllEnded, Attended, PostTelling, Staffed, Telling, at_line, places_of, worked_by}
use Rattle.conn_staff.specs.Workers.{AllTended, AllWorked, Crew, Seat, Tended, post_of}
use Rattle.std.specs.List.{list_any}
use Rattle.std.specs.Prelude.{◌||◌}

-- The turns that a pass has seen of its line are all that the history has of it.

by_line : (b : Bool) (k : ℕ) (e : Turn) (ks ks' : List ℕ) (es es' : List Turn) → if_so b k ks ≡ if_so b k ks' → (ks ≡ ks' → es ≡ es')
    → cond b (e ∷ es) es ≡ cond b (e ∷ es') es'
by_line true k e ks ks' es es' same next = ap (λ (l : List Turn). e ∷ l) (next (let tail : ks ≡ ks' = cc in tail))
by_line false k e ks ks' es es' same next = next same

none_by : (b : Bool) (k : ℕ) (e : Turn) (ks : List ℕ) (es : List Turn) → if_so b k ks ≡ [] → (ks ≡ [] → es ≡ []) → cond b (e ∷ es) es ≡ []
none_by true k e ks es same next = absurd (let first : k ∷ ks ≡ [] = same in cc)
none_by false k e ks es same next = next same

none_more : (n k : ℕ) (more : List Turn) → places line n k more ≡ [] → turns_of n more ≡ []
none_more n k [] same = refl
none_more n k (e ∷ es) same = none_by (eqb (line e) n) k e (places line n (suc k) es) (turns_of n es) same (none_more n (suc k) es)

turns_same : (n k : ℕ) (old more : List Turn) → places line n k (old ++ more) ≡ places line n k old → turns_of n (old ++ more) ≡ turns_of n old
turns_same n k [] more same = none_more n k more same
turns_same n k (e ∷ old) more same =
    by_line (eqb (line e) n) k e (places line n (suc k) (old ++ more)) (places line n (suc k) old) (turns_of n (old ++ more)) (turns_of n old) same
    (turns_same n (suc k) old more)

whole : (p : HallPass) (h : List Turn) → StartsWith h (seen p) → mine line p ≡ places line (number_of p) 0 h
    → turns_of (number_of p) (seen p) ≡ turns_of (number_of p) h
whole p h (more, split) same =
    sym (ap (turns_of (number_of p)) split
    ∙ turns_same (number_of p) 0 (seen p) more (ap (places line (number_of p) 0) (sym split) ∙ sym same))

-- One worker.

one : (hall : Hall) (accounts : Book) (h : List Turn) (n : ℕ) (a b : Seat) → Tended hall accounts a b → number_of a.pass ≡ n
    → (seen a.pass ≡ []) × (refused a.pass ≡ false) → StartsWith h (seen b.pass) → mine line b.pass ≡ places line (number_of b.pass) 0 h
    → (refused b.pass ≡ true → 2 ^ 63 ≤ length h)
    → (marked : Bool) × (marked ≡ true → 2 ^ 63 ≤ length h)
    × Attends (site_of n (opening_state hall).head.domain.domain accounts) (at_line a.told [] false) (at_line b.told (turns_of n h) marked)
one hall accounts h n a b t number (none, unmarked) starts own most =
    let domain : List ℕ = (opening_state hall).head.domain.domain in
    let at : Attends (site_of n domain accounts) (at_line a.told (turns_of n (seen a.pass)) (refused a.pass))
    (at_line b.told (turns_of n (seen b.pass)) (refused b.pass)) =
    subst (λ (m : ℕ). Attends (site_of m domain accounts) (at_line a.told (turns_of m (seen a.pass)) (refused a.pass))
    (at_line b.told (turns_of m (seen b.pass)) (refused b.pass))) number t.attends
    in
    let fresh : Attends (site_of n domain accounts) (at_line a.told [] false) (at_line b.told (turns_of n (seen b.pass)) (refused b.pass)) =
    subst (λ (m : Bool). Attends (site_of n domain accounts) (at_line a.told [] m) (at_line b.told (turns_of n (seen b.pass)) (refused b.pass))) unmarked
    (subst (λ (s : List Turn). Attends (site_of n domain accounts) (at_line a.told (turns_of n s) (refused a.pass))
    (at_line b.told (turns_of n (seen b.pass)) (refused b.pass))) none at)
    in
    let all : turns_of n (seen b.pass) ≡ turns_of n h =
    subst (λ (m : ℕ). turns_of m (seen b.pass) ≡ turns_of m h) (t.number ∙ number) (whole b.pass h starts own)
    in (
      refused b.pass,
      most,
      subst (λ (s : List Turn). Attends (site_of n domain accounts) (at_line a.told [] false) (at_line b.told s (refused b.pass))) all fresh,
    )

-- All of them.

abbrev pub passes_of : List Seat → List HallPass
passes_of l = map (λ s. s.pass) l

abbrev pub told_of : List Seat → List Telling
told_of l = map (λ s. s.told) l

next_number : (n : ℕ) → suc n ≡ n + 1
next_number n = omega arith

first_number : (a n : ℕ) (more ns : List ℕ) → a ∷ more ≡ n ∷ ns → a ≡ n
first_number a n more ns h = cc

more_numbers : (a n : ℕ) (more ns : List ℕ) → a ∷ more ≡ n ∷ ns → more ≡ ns
more_numbers a n more ns h = cc

abbrev pub Fresh : HallPass → Type 0
Fresh p = (seen p ≡ []) × (refused p ≡ false)

attended : (hall : Hall) (accounts : Book) (h : List Turn) (n : ℕ) (olds news : List Seat) → AllTended hall accounts olds news
    → map number_of (passes_of olds) ≡ counted n (length olds) → All Fresh (passes_of olds) → All (λ p. StartsWith h (seen p)) (passes_of news)
    → All (λ p. mine line p ≡ places line (number_of p) 0 h) (passes_of news) → All (λ p. refused p ≡ true → 2 ^ 63 ≤ length h) (passes_of news)
    → Attended (opening_state hall) accounts h n (told_of olds) (told_of news)
attended hall accounts h n [] [] tended numbers fresh starts own most = tt
attended hall accounts h n [] (b ∷ news) tended numbers fresh starts own most = absurd tended
attended hall accounts h n (a ∷ olds) [] tended numbers fresh starts own most = absurd tended
attended hall accounts h n (a ∷ olds) (b ∷ news) (first, rest) numbers fresh starts own most =
    let Starts : HallPass → Type 0 = λ p. StartsWith h (seen p) in
    let Own : HallPass → Type 0 = λ p. mine line p ≡ places line (number_of p) 0 h in
    let Most : HallPass → Type 0 = λ p. refused p ≡ true → 2 ^ 63 ≤ length h in (
      one hall accounts h n a b first (first_number (number_of a.pass) n (map number_of (passes_of olds)) (counted (suc n) (length olds)) numbers)
          (All-head Fresh a.pass (passes_of olds) fresh) (All-head Starts b.pass (passes_of news) starts) (All-head Own b.pass (passes_of news) own)
          (All-head Most b.pass (passes_of news) most),
      subst (λ (m : ℕ). Attended (opening_state hall) accounts h m (told_of olds) (told_of news)) (next_number n)
          (attended hall accounts h (suc n) olds news rest
          (more_numbers (number_of a.pass) n (map number_of (passes_of olds)) (counted (suc n) (length olds)) numbers)
          (All-tail Fresh a.pass (passes_of olds) fresh) (All-tail Starts b.pass (passes_of news) starts) (All-tail Own b.pass (passes_of news) own)
          (All-tail Most b.pass (passes_of news) most)),
    )

all_came : (hall : Hall) (accounts : Book) (olds news : List Seat) → AllTended hall accounts olds news → All (CameFrom hall) (passes_of news)
all_came hall accounts [] [] tended = All-nil (CameFrom hall)
all_came hall accounts [] (b ∷ news) tended = absurd tended
all_came hall accounts (a ∷ olds) [] tended = absurd tended
all_came hall accounts (a ∷ olds) (b ∷ news) (first, rest) = All-cons (CameFrom hall) b.pass (passes_of news) first.came (all_came hall accounts olds news rest)

as_many : (hall : Hall) (accounts : Book) (olds news : List Seat) → AllTended hall accounts olds news → length news ≡ length olds
as_many hall accounts [] [] tended = refl
as_many hall accounts [] (b ∷ news) tended = absurd tended
as_many hall accounts (a ∷ olds) [] tended = absurd tended
as_many hall accounts (a ∷ olds) (b ∷ news) (first, rest) = ap suc (as_many hall accounts olds news rest)

passes_length : (l : List Seat) → length (passes_of l) ≡ length l
passes_length [] = refl
passes_length (s ∷ ss) = ap suc (passes_length ss)

-- Worker by worker.

abbrev pub seats_of : List Crew → List Seat
seats_of crews = all_of (map (λ (c : Crew). c.seats) crews)

abbrev pub failed_of : List Crew → List Bool
failed_of crews = map (λ (c : Crew). c.failed) crews

both : (hall : Hall) (accounts : Book) (xs more ys more' : List Seat) → AllTended hall accounts xs ys → AllTended hall accounts more more'
    → AllTended hall accounts (xs ++ more) (ys ++ more')
both hall accounts [] more [] more' first rest = rest
both hall accounts [] more (y ∷ ys) more' first rest = absurd first
both hall accounts (x ∷ xs) more [] more' first rest = absurd first
both hall accounts (x ∷ xs) more (y ∷ ys) more' (one, next) rest = (one, both hall accounts xs more ys more' next rest)

all_seats : (hall : Hall) (accounts : Book) (olds news : List Crew) → AllWorked hall accounts olds news
    → AllTended hall accounts (seats_of olds) (seats_of news)
all_seats hall accounts [] [] worked = tt
all_seats hall accounts [] (b ∷ news) worked = absurd worked
all_seats hall accounts (a ∷ olds) [] worked = absurd worked
all_seats hall accounts (a ∷ olds) (b ∷ news) (first, rest) =
    both hall accounts a.seats (seats_of olds) b.seats (seats_of news) first.tended (all_seats hall accounts olds news rest)

all_ended : (hall : Hall) (accounts : Book) (olds news : List Crew) → AllWorked hall accounts olds news
    → AllEnded (map post_of olds) (map post_of news) (failed_of news)
all_ended hall accounts [] [] worked = tt
all_ended hall accounts [] (b ∷ news) worked = absurd worked
all_ended hall accounts (a ∷ olds) [] worked = absurd worked
all_ended hall accounts (a ∷ olds) (b ∷ news) (first, rest) = (first.ended, all_ended hall accounts olds news rest)

as_many_crews : (hall : Hall) (accounts : Book) (olds news : List Crew) → AllWorked hall accounts olds news → length news ≡ length olds
as_many_crews hall accounts [] [] worked = refl
as_many_crews hall accounts [] (b ∷ news) worked = absurd worked
as_many_crews hall accounts (a ∷ olds) [] worked = absurd worked
as_many_crews hall accounts (a ∷ olds) (b ∷ news) (first, rest) = ap suc (as_many_crews hall accounts olds news rest)

-- what the places of all workers tell, place by place
told_flat : (cs : List Crew) → told_of (seats_of cs) ≡ places_of (map post_of cs)
told_flat [] = refl
told_flat (c ∷ cs) =
    map-append (λ (s : Seat). s.told) c.seats (seats_of cs) ∙ ap (λ (l : List Telling). told_of c.seats ++ l) (told_flat cs)

-- what a slice of a vector has is written back
pub written : (A : Type 0) (n : ℕ) (xs ys : List A) → n ≡ length xs → take n (xs ++ ys) ≡ xs
written A n xs ys same = ap (λ (m : ℕ). take m (xs ++ ys)) same ∙ take-append_seam xs ys

pub at_opening : (o hall : State) (accounts : Book) (before now : List PostTelling) (worked : Worked) (k : Kept) → hall ≡ o
    → Staffed hall accounts before now worked k → Staffed o accounts before now worked k
at_opening o hall accounts before now worked k same s = subst (λ (v : State). Staffed v accounts before now worked k) same s

-- Lists of what is seen of the elements.

pub un_map : (A B : Type 0) (f : A → B) (P : B → Type 0) (xs : List A) → All P (map f xs) → All (λ x. P (f x)) xs
un_map A B f P [] all = All-nil (λ x. P (f x))
un_map A B f P (x ∷ xs) all =
    All-cons (λ x. P (f x)) x xs (All-head P (f x) (map f xs) all) (un_map A B f P xs (All-tail P (f x) (map f xs) all))

-- what holds of the ones holds of the others, which are seen as they are
pub through : (A B X : Type 0) (f : A → X) (g : B → X) (P : X → Type 0) (xs : List A) (ys : List B) → map f xs ≡ map g ys → All (λ y. P (g y)) ys
    → All (λ x. P (f x)) xs
through A B X f g P xs ys same all = un_map A X f P xs (subst (All P) (sym same) (All-map P g ys all))

pub map_both : (A B C : Type 0) (f : A → B) (g : B → C) (xs : List A) → map g (map f xs) ≡ map (λ x. g (f x)) xs
map_both A B C f g [] = refl
map_both A B C f g (x ∷ xs) = ap (λ (l : List C). g (f x) ∷ l) (map_both A B C f g xs)

front : (A : Type 0) (P : A → Type 0) (xs ys : List A) → All P (xs ++ ys) → All P xs
front A P [] ys all = All-nil P
front A P (x ∷ xs) ys all = All-cons P x xs (All-head P x (xs ++ ys) all) (front A P xs ys (All-tail P x (xs ++ ys) all))

back : (A : Type 0) (P : A → Type 0) (xs ys : List A) → All P (xs ++ ys) → All P ys
back A P [] ys all = all
back A P (x ∷ xs) ys all = back A P xs ys (All-tail P x (xs ++ ys) all)

-- what holds of all places holds of those of each worker
pub of_each : (A B : Type 0) (of : A → List B) (P : B → Type 0) (xs : List A) (all : List B) → all_of (map of xs) ≡ all → All P all
    → All (λ x. All P (of x)) xs
of_each A B of P [] all same holds = All-nil (λ x. All P (of x))
of_each A B of P (x ∷ xs) all same holds =
    let here : All P (of x ++ all_of (map of xs)) = subst (All P) (sym same) holds in
    All-cons (λ x. All P (of x)) x xs (front B P (of x) (all_of (map of xs)) here)
    (of_each A B of P xs (all_of (map of xs)) refl (back B P (of x) (all_of (map of xs)) here))

-- The workers of the code, by what is seen of them.

module _ {W X : Type 0} (crew : W → Crew) (passes : W → List HallPass) (pair : W → X) (tell : X → PostTelling)
    (by_pass : (w : W) → passes_of (crew w).seats ≡ passes w) (by_tell : (w : W) → post_of (crew w) ≡ tell (pair w)) where
  pub passes_flat : (ws : List W) → passes_of (seats_of (map crew ws)) ≡ all_of (map passes ws)
  passes_flat [] = refl
  passes_flat (w ∷ ws) =
      map-append (λ (s : Seat). s.pass) (crew w).seats (seats_of (map crew ws))
      ∙ ap (λ (l : List HallPass). l ++ passes_of (seats_of (map crew ws))) (by_pass w)
      ∙ ap (λ (l : List HallPass). passes w ++ l) (passes_flat ws)

  posts_same : (ws : List W) → map post_of (map crew ws) ≡ map tell (map pair ws)
  posts_same [] = refl
  posts_same (w ∷ ws) =
      ap (λ (p : PostTelling). p ∷ map post_of (map crew ws)) (by_tell w) ∙ ap (λ (l : List PostTelling). tell (pair w) ∷ l) (posts_same ws)

  crews_length : (ws : List W) → length (map crew ws) ≡ length ws
  crews_length [] = refl
  crews_length (w ∷ ws) = ap suc (crews_length ws)

  failed_same : (ws : List W) → list_any (λ b. b) (failed_of (map crew ws)) ≡ list_any (λ w. (crew w).failed) ws
  failed_same [] = refl
  failed_same (w ∷ ws) = ap (λ (b : Bool). (crew w).failed || b) (failed_same ws)

  pub many_after : (hall : Hall) (accounts : Book) (olds news : List W) → AllWorked hall accounts (map crew olds) (map crew news)
      → length news ≡ length olds
  many_after hall accounts olds news worked =
      sym (crews_length news) ∙ as_many_crews hall accounts (map crew olds) (map crew news) worked ∙ crews_length olds

  -- they have as many passes as before, all from the hall
  pub passes_after : (hall : Hall) (accounts : Book) (olds news : List W) → AllWorked hall accounts (map crew olds) (map crew news)
      → length (all_of (map passes news)) ≡ length (all_of (map passes olds))
  passes_after hall accounts olds news worked =
      let old : length (all_of (map passes olds)) ≡ length (seats_of (map crew olds))
      = ap length (sym (passes_flat olds)) ∙ passes_length (seats_of (map crew olds)) in
      let new : length (all_of (map passes news)) ≡ length (seats_of (map crew news))
      = ap length (sym (passes_flat news)) ∙ passes_length (seats_of (map crew news)) in
      new ∙ as_many hall accounts (seats_of (map crew olds)) (seats_of (map crew news)) (all_seats hall accounts (map crew olds) (map crew news) worked)
      ∙ sym old

  pub came_after : (hall : Hall) (accounts : Book) (olds news : List W) (left : List HallPass)
      → AllWorked hall accounts (map crew olds) (map crew news) → left ≡ all_of (map passes news) → All (CameFrom hall) left
  came_after hall accounts olds news left worked same =
      subst (All (CameFrom hall)) (passes_flat news ∙ sym same)
      (all_came hall accounts (seats_of (map crew olds)) (seats_of (map crew news)) (all_seats hall accounts (map crew olds) (map crew news) worked))

  pub staffed : (hall : Hall) (accounts : Book) (olds news : List W) (from left : List HallPass) (posts given : List X) (worked : Worked) (k : Kept)
      → AllWorked hall accounts (map crew olds) (map crew news) → all_of (map passes olds) ≡ from → map pair olds ≡ posts
      → left ≡ all_of (map passes news) → given ≡ map pair news → map number_of from ≡ counted 0 (length from) → All Fresh from
      → worked ≡ worked_by (list_any (λ w. (crew w).failed) news) → Closed hall left k
      → Staffed (opening_state hall) accounts (map tell posts) (map tell given) worked k
  staffed hall accounts olds news from left posts given worked k tended same_passes same_posts left_is given_is numbers fresh worked_is
      (h, stands, closes, most) =
      let before : List Seat = seats_of (map crew olds) in
      let now : List Seat = seats_of (map crew news) in
      let first : passes_of before ≡ from = passes_flat olds ∙ same_passes in
      let last : left ≡ passes_of now = left_is ∙ sym (passes_flat news) in
      let count : length from ≡ length before = sym (ap length first) ∙ passes_length before in
      let old_posts : map post_of (map crew olds) ≡ map tell posts = posts_same olds ∙ ap (map tell) same_posts in
      let new_posts : map post_of (map crew news) ≡ map tell given = posts_same news ∙ ap (map tell) (sym given_is) in
      record {
        history = h;
        stands = stands;
        failed = failed_of (map crew news);
        ended = subst (λ (l : List PostTelling). AllEnded l (map tell given) (failed_of (map crew news))) old_posts
            (subst (λ (l : List PostTelling). AllEnded (map post_of (map crew olds)) l (failed_of (map crew news))) new_posts
            (all_ended hall accounts (map crew olds) (map crew news) tended));
        worked_is = worked_is ∙ ap worked_by (sym (failed_same news));
        safe = ∥∥₁_map stands (λ (s : StandsFor (opening_state hall) h k). safe (opening_state hall) h s.starts s.legal);
        each = subst (λ (l : List Telling). Attended (opening_state hall) accounts h 0 l (places_of (map tell given)))
            (told_flat (map crew olds) ∙ ap places_of old_posts)
            (subst (λ (l : List Telling). Attended (opening_state hall) accounts h 0 (told_of before) l) (told_flat (map crew news) ∙ ap places_of new_posts)
            (attended hall accounts h 0 before now (all_seats hall accounts (map crew olds) (map crew news) tended)
            (ap (map number_of) first ∙ numbers ∙ ap (counted 0) count)
            (subst (All Fresh) (sym first) fresh)
            (subst (All (λ p. StartsWith h (seen p))) last closes.history)
            (subst (All (λ p. mine line p ≡ places line (number_of p) 0 h)) last closes.mine)
            (subst (All (λ p. refused p ≡ true → 2 ^ 63 ≤ length h)) last most)));
      }

-- What the pollers of all workers count.
use Rattle.std.proofs.Common.{◌≡◌, ◌≢◌, ℕ, suc, ◌+◌, ◌-◌, ◌*◌, ◌^◌, ◌<◌, ◌≤◌, ◌&&◌, nat_eq, nat_le, not, min, List, [], ◌∷◌, ◌++◌, length}
use Rattle.std.proofs.Common.{map, Bool, true, false, refl, sym, ap, subst, ◌∙◌, arith, leb-true, length-append, suc-mul}
use Rattle.std.proofs.lemmas.List.{map-append}
use Rattle.std.proofs.lemmas.List.Sums.{sum_by-cons}
use Rattle.std.specs.Prelude.{sum_by}
use Rattle.std.proofs.Math.Logic.{∥∥₁_elim}
use Rattle.std.proofs.Props.{props}
use Rattle.std.specs.List.{list_any}
use Rattle.account_book.specs.Lists.{Book}
use Rattle.outside.specs.Devices.{Rose}
use Rattle.outside.specs.Posts.{Each, added, plus}
use Rattle.outside.specs.Plans.{raised}
use Rattle.house_model.specs.Histories.{StandsFor, Turn, openings}
use Rattle.house_model.specs.States.{Kept, State}
use Rattle.hall.specs.Desks.{turns_of}
use Rattle.hall.specs.Stories.{Stands}
use Rattle.conn_asks.specs.declared.ended.Ended.{Ended}
use Rattle.conn_asks.specs.declared.ended.Ended.TheVariants as ended
use Rattle.conn_flow.specs.Duties.{Site}
use Rattle.conn_staff.specs.declared.roster.Worked.TheVariants.{PollFault, Shut}
use Rattle.conn_serve.specs.Shifts.{Attends, Serves, Shift, raised_by}
use Rattle.conn_staff.specs.Staffs as staff
use Rattle.conn_staff.specs.Staffs.{AllEnded, Attended, IsSum, PostTelling, Telling, at_line, places_of, worked_by}
use Rattle.serve_run.specs.Services.{AllOpened, IsOpened, IsUnused, dice_ends, dice_in, is_dice}
use Rattle.serve_run.proofs.Counting as Count
use Rattle.serve_run.proofs.Counting.{at-most, by-lines, opened_at, opened_in, openings-most, total, total-append, total-sum}

-- Links: a place counts the connections of its line.

raised-count : (ends : List Ended) (n : ℕ) → n + length ends ≤ 2 ^ 64 - 1 → raised_by ends n ≡ n + length ends
raised-count [] n fits = omega arith
raised-count (x ∷ more) n fits =
    let one : raised n ≡ n + 1 = omega (arith, fits) in
    let rest = raised-count more (raised n) (omega (arith, fits, one)) in
    omega (arith, rest, one)

door-links : (o : Site) (a b : Telling) (n : ℕ) (h : List Turn) (marked : Bool) → (marked ≡ true → 2 ^ 63 ≤ length h)
    → Attends o (at_line a [] false) (at_line b (turns_of n h) marked) → a.links ≡ 0 → length h < 2 ^ 63 → b.links ≡ opened_at n h
door-links o a b n h true few attends none short = absurd (let k = few refl in omega (arith, k, short))
door-links o a b n h false few attends none short =
    let cut = attends.cut refl in
    let many : length attends.ends ≡ opened_at n h = sym cut.opened ∙ ap openings (sym cut.turns_are) in
    let most = at-most n h in
    let counted : b.links ≡ raised_by attends.ends a.links = cut.links in
    let up : raised_by attends.ends a.links ≡ a.links + length attends.ends = raised-count attends.ends a.links (omega (arith, none, many, most, short)) in
    omega (arith, counted, up, none, many)

places-links : (o : State) (accounts : Book) (h : List Turn) (n : ℕ) (before now : List Telling) → Attended o accounts h n before now
    → Each Telling IsUnused before → length h < 2 ^ 63 → total (map (λ (a : Telling). a.links) now) ≡ opened_in n (length before) h
places-links o accounts h n [] [] each opened short = refl
places-links o accounts h n [] (b ∷ now) each opened short = absurd each
places-links o accounts h n (a ∷ before) [] each opened short = absurd each
places-links o accounts h n (a ∷ before) (b ∷ now) ((marked, few, attends), rest) (first, opened) short =
    let here = door-links _ a b n h marked few attends first.0 short in
    let more = places-links o accounts h (n + 1) before now rest opened short in
    omega (arith, here, more)

number-set : IsSet ℕ
number-set = Prim.hlevel props

lines-known : (lines : ℕ) (o : State) (h : List Turn) (k : Kept) → o.head.workers ≡ lines → Stands o h k → opened_in 0 lines h ≡ openings h
lines-known lines o h k same stands =
    ∥∥₁_elim stands (number-set (opened_in 0 lines h) (openings h)) (λ (s : StandsFor o h k). by-lines lines o h same s.legal)

links-total : (o : State) (accounts : Book) (h : List Turn) (k : Kept) (lines : ℕ) (before now : List Telling) → o.head.workers ≡ lines
    → length before ≡ lines → Stands o h k → Attended o accounts h 0 before now → Each Telling IsUnused before → length h < 2 ^ 63
    → total (map (λ (a : Telling). a.links) now) ≡ openings h
links-total o accounts h k lines before now same many stands each opened short =
    places-links o accounts h 0 before now each opened short ∙ ap (λ n. opened_in 0 n h) many ∙ lines-known lines o h k same stands

-- The places of posts as they were handed out.

each-both : (A : Type 0) (P : A → Type 0) (xs ys : List A) → Each A P xs → Each A P ys → Each A P (xs ++ ys)
each-both A P [] ys first rest = rest
each-both A P (x ∷ xs) ys (one, more) rest = (one, each-both A P xs ys more rest)

all-unused : (links quota : ℕ) (before : List PostTelling) → AllOpened links quota before → Each Telling IsUnused (places_of before)
all-unused links quota [] opened = tt
all-unused links quota (a ∷ before) (first, rest) =
    each-both Telling IsUnused a.places (places_of before) first.unused (all-unused links quota before rest)

pub places-many : (links quota : ℕ) (before : List PostTelling) → AllOpened links quota before → length (places_of before) ≡ length before * links
places-many links quota [] opened = omega arith
places-many links quota (a ∷ before) (first, rest) =
    let here = first.places in
    let more = places-many links quota before rest in
    let both = length-append a.places (places_of before) in
    let next = suc-mul (length before) links in
    omega (arith, here, more, both, next)

none-linked : (ts : List Telling) → Each Telling IsUnused ts → sum_by (λ (t : Telling). t.links) ts ≡ 0
none-linked [] unused = refl
none-linked (t ∷ ts) (first, rest) =
    let one = sum_by-cons (λ (a : Telling). a.links) t ts in
    let here = first.0 in
    let more = none-linked ts rest in
    omega (arith, one, here, more)

sum-opened : (links quota : ℕ) (a : PostTelling) → IsOpened links quota a → IsSum a
sum-opened links quota a opened = let none = none-linked a.places opened.unused in let zero = opened.count in omega (arith, none, zero)

-- a poller counts what came to its places
pollers-total : (links quota : ℕ) (before now : List PostTelling) (failed : List Bool) → AllEnded before now failed → AllOpened links quota before
    → total (map (λ (a : Telling). a.links) (places_of now)) < 2 ^ 63
    → total (map (λ (a : PostTelling). a.poller.links) now) ≡ total (map (λ (a : Telling). a.links) (places_of now))
pollers-total links quota [] [] [] all opened few = refl
pollers-total links quota [] [] (f ∷ failed) all opened few = absurd all
pollers-total links quota [] (b ∷ now) failed all opened few = absurd all
pollers-total links quota (a ∷ before) [] failed all opened few = absurd all
pollers-total links quota (a ∷ before) (b ∷ now) [] all opened few = absurd all
pollers-total links quota (a ∷ before) (b ∷ now) (f ∷ failed) (first, rest) (one, opened) few =
    let of : Telling → ℕ = λ (t : Telling). t.links in
    let both : total (map of (b.places ++ places_of now)) ≡ total (map of b.places) + total (map of (places_of now))
    = ap total (map-append of b.places (places_of now)) ∙ total-append (map of b.places) (map of (places_of now)) in
    let sum = first.sum (sum-opened links quota a one) in
    let here = total-sum Telling of b.places in
    let more = pollers-total links quota before now failed rest opened (omega (arith, few, both)) in
    omega (arith, both, sum, here, more, few)

-- As many posts come back.
pub as-many-ended : (before now : List PostTelling) (failed : List Bool) → AllEnded before now failed → length now ≡ length before
as-many-ended [] [] [] all = refl
as-many-ended [] [] (f ∷ failed) all = absurd all
as-many-ended [] (b ∷ now) failed all = absurd all
as-many-ended (a ∷ before) [] failed all = absurd all
as-many-ended (a ∷ before) (b ∷ now) [] all = absurd all
as-many-ended (a ∷ before) (b ∷ now) (f ∷ failed) (first, rest) = ap suc (as-many-ended before now failed rest)

-- and the ports add what the pollers count
pub posts-total : (o : State) (accounts : Book) (h : List Turn) (k : Kept) (workers links quota : ℕ) (before now : List PostTelling) (failed : List Bool)
    → o.head.workers ≡ workers * links → length before ≡ workers → Stands o h k → Attended o accounts h 0 (places_of before) (places_of now)
    → AllEnded before now failed → AllOpened links quota before → length h < 2 ^ 63
    → total (map (λ (a : PostTelling). a.poller.links) now) ≡ openings h
posts-total o accounts h k workers links quota before now failed same many stands each all opened short =
    let lines : length (places_of before) ≡ workers * links
    = places-many links quota before opened ∙ ap (λ n. n * links) many in
    let came = links-total o accounts h k (workers * links) (places_of before) (places_of now) same lines stands each (all-unused links quota before opened)
    short in
    let most = openings-most h in
    pollers-total links quota before now failed all opened (omega (arith, came, most, short)) ∙ came

counts-length : (A : Type 0) (count : A → ℕ) (xs : List A) → length (map count xs) ≡ length xs
counts-length A count [] = refl
counts-length A count (x ∷ xs) = ap suc (counts-length A count xs)

pub links-added : (o : State) (accounts : Book) (h : List Turn) (k : Kept) (workers links quota ports ports' : ℕ) (before now : List PostTelling)
    (failed : List Bool) → 0 < workers → o.head.workers ≡ workers * links → length before ≡ workers → Stands o h k
    → Attended o accounts h 0 (places_of before) (places_of now) → AllEnded before now failed → AllOpened links quota before
    → ports' ≡ added ports (map (λ (a : PostTelling). a.poller.links) now) → length h < 2 ^ 63 → ports' ≡ plus ports (openings h)
links-added o accounts h k workers links quota ports ports' before now failed some same many stands each all opened added_all short =
    let long = counts-length PostTelling (λ (a : PostTelling). a.poller.links) now in
    let ended = as-many-ended before now failed all in
    added_all ∙ Count.some-added ports (map (λ (a : PostTelling). a.poller.links) now) (omega (arith, some, many, long, ended))
    ∙ ap (plus ports) (posts-total o accounts h k workers links quota before now failed same many stands each all opened short)

-- Quotas: each poller that shut counts as many links as its own.

second-true : (a b : Bool) → a && b ≡ true → b ≡ true
second-true true b e = e
second-true false b e = absurd (let k : false ≡ true = e in cc)

full-poller : (links quota : ℕ) (a b : PostTelling) → staff.Ended false a b → IsOpened links quota a → quota ≢ 0 → b.poller.links ≡ quota
full-poller links quota a b e opened some =
    let kept : b.poller.quota ≡ quota = e.quota ∙ opened.quota_is in
    let least = leb-true b.poller.quota b.poller.links (second-true (not (nat_eq b.poller.quota 0)) (nat_le b.poller.quota b.poller.links) e.by) in
    let most = e.within (λ none. omega (arith, opened.count)) (λ none. some (sym kept ∙ none)) in
    omega (arith, kept, least, most)

all-shut : (b : Bool) → Shut ≡ worked_by b → b ≡ false
all-shut true e = absurd (let k : Shut ≡ PollFault = e in cc)
all-shut false e = refl

pollers-full : (links quota : ℕ) (before now : List PostTelling) (failed : List Bool) → AllEnded before now failed → list_any (λ b. b) failed ≡ false
    → AllOpened links quota before → quota ≢ 0 → total (map (λ (a : PostTelling). a.poller.links) now) ≡ length before * quota
pollers-full links quota [] [] [] all none opened some = omega arith
pollers-full links quota [] [] (f ∷ failed) all none opened some = absurd all
pollers-full links quota [] (b ∷ now) failed all none opened some = absurd all
pollers-full links quota (a ∷ before) [] failed all none opened some = absurd all
pollers-full links quota (a ∷ before) (b ∷ now) [] all none opened some = absurd all
pollers-full links quota (a ∷ before) (b ∷ now) (true ∷ failed) all none opened some = absurd (let k : true ≡ false = none in cc)
pollers-full links quota (a ∷ before) (b ∷ now) (false ∷ failed) (first, rest) none (one, opened) some =
    let here = full-poller links quota a b first one some in
    let more = pollers-full links quota before now failed rest none opened some in
    let next = suc-mul (length before) quota in
    omega (arith, here, more, next)

pub quotas-filled : (o : State) (accounts : Book) (h : List Turn) (k : Kept) (workers links quota : ℕ) (before now : List PostTelling) (failed : List Bool)
    → o.head.workers ≡ workers * links → length before ≡ workers → Stands o h k → Attended o accounts h 0 (places_of before) (places_of now)
    → AllEnded before now failed → Shut ≡ worked_by (list_any (λ b. b) failed) → AllOpened links quota before → length h < 2 ^ 63 → quota ≢ 0
    → openings h ≡ workers * quota
quotas-filled o accounts h k workers links quota before now failed same many stands each all shut opened short some =
    sym (posts-total o accounts h k workers links quota before now failed same many stands each all opened short)
    ∙ pollers-full links quota before now failed all (all-shut (list_any (λ b. b) failed) shut) opened some ∙ ap (λ n. n * quota) many

-- Dice: each link that ended by their fault is counted.

one-dice : (x : Ended) (d d' : ℕ) → d ≤ d' → (x ≡ ended.DiceFault → Rose d d') → min (d + is_dice x) (2 ^ 64 - 1) ≤ d'
one-dice ended.Closed d d' kept rose = omega (arith, kept)
one-dice ended.Hung d d' kept rose = omega (arith, kept)
one-dice ended.LinkFault d d' kept rose = omega (arith, kept)
one-dice ended.DiceFault d d' kept rose = let r = rose refl in omega (arith, r)
one-dice (ended.Broken f n) d d' kept rose = omega (arith, kept)
one-dice (ended.BadHeader f) d d' kept rose = omega (arith, kept)
one-dice (ended.BadItem f n) d d' kept rose = omega (arith, kept)
one-dice ended.ThirdFailure d d' kept rose = omega (arith, kept)
one-dice (ended.Idle t) d d' kept rose = omega (arith, kept)
one-dice (ended.Over c) d d' kept rose = omega (arith, kept)
one-dice ended.Spent d d' kept rose = omega (arith, kept)
one-dice ended.NoMemory d d' kept rose = omega (arith, kept)

dice-served : (o : Site) (a : Shift) (ends : List Ended) (b : Shift) → Serves o a ends b → min (a.dice + dice_in ends) (2 ^ 64 - 1) ≤ b.dice
dice-served o a [] b same = subst (λ (s : Shift). min (a.dice + 0) (2 ^ 64 - 1) ≤ s.dice) (sym same) (omega arith)
dice-served o a (x ∷ more) b (mid, visited, rest) =
    let here = one-dice x a.dice mid.dice visited.dice_kept visited.dice_failed in
    let after = dice-served o mid more b rest in
    omega (arith, here, after)

pub dice-added : (o : State) (accounts : Book) (h : List Turn) (n ports : ℕ) (before now : List Telling) (each : Attended o accounts h n before now)
    → min (ports + dice_ends o accounts h n before now each) (2 ^ 64 - 1) ≤ min (ports + total (map (λ (a : Telling). a.dice) now)) (2 ^ 64 - 1)
dice-added o accounts h n ports [] [] each = omega arith
dice-added o accounts h n ports [] (b ∷ now) each = absurd each
dice-added o accounts h n ports (a ∷ before) [] each = absurd each
dice-added o accounts h n ports (a ∷ before) (b ∷ now) (first, rest) =
    let here = dice-served _ _ first.2.ends _ first.2.serves in
    let more = dice-added o accounts h (n + 1) (ports + b.dice) before now rest in
    omega (arith, here, more)

as-many-attended : (o : State) (accounts : Book) (h : List Turn) (n : ℕ) (before now : List Telling) → Attended o accounts h n before now
    → length now ≡ length before
as-many-attended o accounts h n [] [] each = refl
as-many-attended o accounts h n [] (b ∷ now) each = absurd each
as-many-attended o accounts h n (a ∷ before) [] each = absurd each
as-many-attended o accounts h n (a ∷ before) (b ∷ now) (first, rest) = ap suc (as-many-attended o accounts h (n + 1) before now rest)

pub dice-counted : (o : State) (accounts : Book) (h : List Turn) (ports ports' : ℕ) (before now : List Telling) (each : Attended o accounts h 0 before now)
    → 0 < length before → ports' ≡ added ports (map (λ (a : Telling). a.dice) now)
    → min (ports + dice_ends o accounts h 0 before now each) (2 ^ 64 - 1) ≤ ports'
dice-counted o accounts h ports ports' before now each some added_all =
    let long = counts-length Telling (λ (a : Telling). a.dice) now in
    let same = as-many-attended o accounts h 0 before now each in
    let sum = added_all ∙ Count.some-added ports (map (λ (a : Telling). a.dice) now) (omega (arith, some, long, same)) in
    let least = dice-added o accounts h 0 ports before now each in
    omega (arith, sum, least)

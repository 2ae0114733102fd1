-- What a run of the server rests on.
use Rattle.std.proofs.Common.{◌≡◌, ◌⊎◌, ℕ, suc, ◌+◌, ◌-◌, ◌*◌, ◌^◌, ◌<◌, ◌≤◌, min, List, [], ◌∷◌, ◌++◌, length, map, Bool, true, false, Result, Ok}
use Rattle.std.proofs.Common.{Err, IfOk, IfErr, OnOk, OnErr, refl, sym, ap, subst, ◌∙◌, inl, inr, append_assoc, arith, suc-mul, zero}
use Rattle.std.proofs.Math.Logic.{∥∥₁_elim}
use Rattle.std.proofs.Props.{props}
use Rattle.std.specs.List.{list_any}
use Rattle.std.specs.Prelude.{◌≢◌, Option, Some, None}
use Rattle.account_book.specs.Entries.{entry_of}
use Rattle.account_book.specs.Lists.{Book}
use Rattle.house_core.specs.Houses.{HouseRecord, held}
use Rattle.hall.specs.Stories.{Stands}
use Rattle.house_model.specs.Histories.{StandsFor, Turn, openings}
use Rattle.house_model.specs.States.{Kept, State}
use Rattle.outside.specs.Devices.{Front, Rose}
use Rattle.outside.specs.Posts.{added, plus}
use Rattle.outside.specs.Tapes.{Tells}
use Rattle.script_play.specs.Runs as Run
use Rattle.script_play.specs.declared.status.Status.{Status}
use Rattle.script_play.specs.declared.status.Status.TheVariants as status
use Rattle.conn_staff.specs.declared.roster.Worked.{Worked}
use Rattle.conn_staff.specs.declared.roster.Worked.TheVariants.{PollFault, Shut}
use Rattle.conn_staff.specs.Staffs.{AllEnded, PostTelling, Staffed, places_of, worked_by}
use Rattle.serve_run.proofs.Pollers.{dice-counted, links-added, places-many, quotas-filled}
use Rattle.serve_run.specs.declared.serving.Serving.{Serving}
use Rattle.serve_run.specs.Services.{AllOpened, CameShort, DrewAtMostOne, Gathered, IsRefused, LeftUnserved, ListeningFailed, Ran, ReadsList, Refused}
use Rattle.serve_run.specs.Services.{Served, ServedBy, SomeRose, Tally, Unserved, address_at, entries_for, opening_for, report}

-- Workers: each poller shut, or one failed.

by_failed : (b : Bool) → worked_by b ≡ PollFault → b ≡ true
by_failed true h = refl
by_failed false h = absurd (let e : Shut ≡ PollFault = h in cc)

some_rose : (before now : List PostTelling) (failed : List Bool) → AllEnded before now failed → list_any (λ b. b) failed ≡ true → SomeRose before now
some_rose [] [] [] ended any = absurd (let e : false ≡ true = any in cc)
some_rose [] [] (f ∷ failed) ended any = absurd ended
some_rose [] (b ∷ now) failed ended any = absurd ended
some_rose (a ∷ before) [] failed ended any = absurd ended
some_rose (a ∷ before) (b ∷ now) [] ended any = absurd ended
some_rose (a ∷ before) (b ∷ now) (true ∷ failed) (first, rest) any = inl first.by
some_rose (a ∷ before) (b ∷ now) (false ∷ failed) (first, rest) any = inr (some_rose before now failed rest any)

pub staff_failed : (o : State) (accounts : Book) (before now : List PostTelling) (worked : Worked) (k : Kept) → Staffed o accounts before now worked k
    → worked ≡ PollFault → SomeRose before now
staff_failed o accounts before now worked k s failed = some_rose before now s.failed s.ended (by_failed (list_any (λ b. b) s.failed) (sym s.worked_is ∙ failed))

-- Over a list.

pub served_over : (r : Result (HouseRecord × Worked) Status) (asked : Serving) (list : List ℕ) (drawn drawn' : Option (List (List ℕ))) (accounts : Book)
    (before now : List PostTelling) (k : Kept) → IfOk r (λ left. (o : State) → StandsFor o [] k → Staffed o accounts before now left.1 (held left.0))
    → StandsFor (opening_for asked accounts) [] k → entries_for asked.sessions list ≡ Ok (map entry_of accounts.accounts)
    → Tells (List ℕ) drawn drawn' (accounts.secret ∷ []) → IfOk r (λ left. ServedBy left.1 asked list drawn drawn' before now (held left.0))
served_over (Ok left) asked list drawn drawn' accounts before now k served stands read drew =
    (accounts, read, drew, served (opening_for asked accounts) stands)
served_over (Err s) asked list drawn drawn' accounts before now k served stands read drew = tt

pub refused_over : (r : Result (HouseRecord × Worked) Status) (sessions : ℕ) (list : List ℕ) (X : Type 0) → IfErr r (λ s. s ≡ status.NoMemory)
    → IfErr r (λ s. Refused sessions list s X)
refused_over (Ok left) sessions list X refused = tt
refused_over (Err s) sessions list X is = inl (subst (λ (t : Status). IsRefused (entries_for sessions list) t) (sym is) tt)

pub when_err : {A : Type 0} (r : Result A Status) (X : Type 0) → X → OnErr r X
when_err (Ok x) X holds = tt
when_err (Err s) X holds = holds

-- nothing was served, and one secret was drawn
pub one_over : (r : Result (HouseRecord × Worked) Status) (drawn drawn' : Option (List (List ℕ))) (secret : List ℕ) → length secret ≡ 32
    → Tells (List ℕ) drawn drawn' (secret ∷ []) → OnErr r (DrewAtMostOne drawn drawn')
one_over (Ok left) drawn drawn' secret long drew = tt
one_over (Err s) drawn drawn' secret long drew = inr (secret, long, drew)

-- Counts.

pub rose_wider : (a b c d : ℕ) → a ≤ b → Rose b c → c ≤ d → Rose a d
rose_wider a b c d first rose last = omega arith

plus_rose : (n m x : ℕ) → min (n + 1) (2 ^ 64 - 1) ≤ x → min (n + 1) (2 ^ 64 - 1) ≤ plus x m
plus_rose n m x h = omega arith

plus_first : (n m : ℕ) → min (0 + 1) (2 ^ 64 - 1) ≤ m → min (n + 1) (2 ^ 64 - 1) ≤ plus n m
plus_first n m h = omega arith

added_rose : (n x : ℕ) (counts : List ℕ) → min (n + 1) (2 ^ 64 - 1) ≤ x → min (n + 1) (2 ^ 64 - 1) ≤ added x counts
added_rose n x [] h = h
added_rose n x (m ∷ counts) h = added_rose n (plus x m) counts (plus_rose n m x h)

plus_keeps : (n m x : ℕ) → min n (2 ^ 64 - 1) ≤ x → min n (2 ^ 64 - 1) ≤ plus x m
plus_keeps n m x h = omega arith

rose_from : (n x m : ℕ) → min n (2 ^ 64 - 1) ≤ x → min (0 + 1) (2 ^ 64 - 1) ≤ m → min (n + 1) (2 ^ 64 - 1) ≤ plus x m
rose_from n x m h rose = omega arith

none_before : (a b : ℕ) → a ≡ 0 → Rose a b → min (0 + 1) (2 ^ 64 - 1) ≤ b
none_before a b none rose = subst (λ (x : ℕ). min (x + 1) (2 ^ 64 - 1) ≤ b) none rose

added_some : (links quota n x : ℕ) (before now : List PostTelling) → min n (2 ^ 64 - 1) ≤ x → AllOpened links quota before → SomeRose before now
    → min (n + 1) (2 ^ 64 - 1) ≤ added x (map (λ (a : PostTelling). a.poller.faults) now)
added_some links quota n x [] [] kept opened rose = absurd rose
added_some links quota n x [] (b ∷ now) kept opened rose = absurd rose
added_some links quota n x (a ∷ before) [] kept opened rose = absurd rose
added_some links quota n x (a ∷ before) (b ∷ now) kept (first, rest) (inl rose) =
    added_rose n (plus x b.poller.faults) (map (λ (a : PostTelling). a.poller.faults) now) (rose_from n x b.poller.faults kept
    (none_before a.poller.faults b.poller.faults first.faults rose))
added_some links quota n x (a ∷ before) (b ∷ now) kept (first, rest) (inr rose) =
    added_some links quota n (plus x b.poller.faults) before now (plus_keeps n b.poller.faults x kept) rest rose

itself : (n : ℕ) → min n (2 ^ 64 - 1) ≤ n
itself n = omega arith

pub gathered_rose : (links quota n : ℕ) (before now : List PostTelling) → AllOpened links quota before → SomeRose before now
    → Rose n (added n (map (λ (a : PostTelling). a.poller.faults) now))
gathered_rose links quota n before now opened rose = added_some links quota n n before now (itself n) opened rose

-- A list that is read.

pub front_both : (old mid now : Option (List ℕ)) (x y : List ℕ) → Front old mid x → Front mid now y → Front old now (x ++ y)
front_both None mid now x y first next = subst (λ (m : Option (List ℕ)). Front m now y) first next
front_both (Some old) mid now x y (rest, split, is) next =
    let more : (more : List ℕ) × (rest ≡ y ++ more) × (now ≡ Some more) = subst (λ (m : Option (List ℕ)). Front m now y) is next in
    (more.0, split ∙ ap (λ (l : List ℕ). x ++ l) more.1 ∙ sym (append_assoc x y more.0), more.2)

pub front_none : (old : Option (List ℕ)) → Front old old []
front_none None = refl
front_none (Some old) = (old, refl, refl)

-- Ports.

itself_least : (n : ℕ) → n ≤ n
itself_least n = omega arith

both_least : (a b c : ℕ) → a ≤ b → b ≤ c → a ≤ c
both_least a b c h k = omega arith

-- what was drawn, where the ports told as much before and tell as much now
same_drawn : (X : Option (List (List ℕ)) → Option (List (List ℕ)) → Type 0) (drawn drawn' now now' : Option (List (List ℕ))) → drawn ≡ now
    → now' ≡ drawn' → X drawn drawn' → X now now'
same_drawn X drawn drawn' now now' first last x =
    subst (λ (d : Option (List (List ℕ))). X d now') first (subst (λ (d : Option (List (List ℕ))). X drawn d) (sym last) x)

pub ran : (worked : Worked) (asked : Serving) → 0 < asked.workers → 0 < asked.links → (list : List ℕ) (ports ports' : Tally)
    (before now : List PostTelling) (k : Kept) → length before ≡ asked.workers → AllOpened asked.links asked.connections before
    → ServedBy worked asked list ports.drawn ports'.drawn before now k → ports'.address ≡ Some (address_at asked.port) → Gathered ports now ports'
    → Ran worked asked list ports ports'
ran worked asked some places list ports ports' before now k many opened (accounts, read, drew, staffed) listened gathers = record {
  accounts = accounts;
  read = read;
  drew = drew;
  before = before;
  now = now;
  as_many = many;
  opened = opened;
  kept = k;
  staffed = staffed;
  listened = listened;
  gathered = gathers;
  counted =
      links-added (opening_for asked accounts) accounts staffed.history k asked.workers asked.links asked.connections ports.links ports'.links before now
      staffed.failed some refl many staffed.stands staffed.each staffed.ended opened gathers.links;
  filled = λ shut.
      quotas-filled (opening_for asked accounts) accounts staffed.history k asked.workers asked.links asked.connections before now staffed.failed refl many
      staffed.stands staffed.each staffed.ended (sym shut ∙ staffed.worked_is) opened;
  dice_failed =
      dice-counted (opening_for asked accounts) accounts staffed.history ports.dice ports'.dice (places_of before) (places_of now) staffed.each
      (some-places before many opened) gathers.dice;
}
  where
    product : (m n : ℕ) → 0 < m → 0 < n → 0 < m * n
    product zero n h k = absurd (omega (arith, h))
    product (suc m) n h k = let e = suc-mul m n in omega (arith, e, k)

    some-places : (before : List PostTelling) → length before ≡ asked.workers → AllOpened asked.links asked.connections before
        → 0 < length (places_of before)
    some-places posts many all =
        subst (λ (n : ℕ). 0 < n) (sym (places-many asked.links asked.connections posts all ∙ ap (λ (n : ℕ). n * asked.links) many))
        (product asked.workers asked.links some places)

pub posts_ran : (r : Result (HouseRecord × Worked) Status) (asked : Serving) → 0 < asked.workers → 0 < asked.links → (list : List ℕ)
    (ports ports' : Tally) (drawn drawn' : Option (List (List ℕ))) (before now : List PostTelling)
    → IfOk r (λ left. ServedBy left.1 asked list drawn drawn' before now (held left.0)) → drawn ≡ ports.drawn → ports'.drawn ≡ drawn'
    → length before ≡ asked.workers → AllOpened asked.links asked.connections before → ports'.address ≡ Some (address_at asked.port)
    → Gathered ports now ports' → IfOk r (λ left. (x : Ran left.1 asked list ports ports') × (x.kept ≡ held left.0))
unfolding ran
posts_ran (Ok left) asked some places list ports ports' drawn drawn' before now served first last many opened listened gathers = (
  ran left.1 asked some places list ports ports' before now (held left.0) many opened
      (same_drawn (λ (d d' : Option (List (List ℕ))). ServedBy left.1 asked list d d' before now (held left.0)) drawn drawn' ports.drawn ports'.drawn first
      last served) listened gathers,
  refl,
)
posts_ran (Err s) asked some places list ports ports' drawn drawn' before now served first last many opened listened gathers = tt

pub ports_failed : (r : Result (HouseRecord × Worked) Status) (asked : Serving) (list : List ℕ) (f0 f1 f2 f3 : ℕ) (drawn drawn' : Option (List (List ℕ)))
    (before now : List PostTelling) → IfOk r (λ left. ServedBy left.1 asked list drawn drawn' before now (held left.0)) → f0 ≤ f1 → f1 ≤ f2
    → f3 ≡ added f2 (map (λ (a : PostTelling). a.poller.faults) now) → AllOpened asked.links asked.connections before
    → IfOk r (λ left. left.1 ≡ PollFault → Rose f0 f3)
ports_failed (Ok left) asked list f0 f1 f2 f3 drawn drawn' before now (accounts, read, drew, staffed) k0 k1 is opened = λ failed.
    rose_wider f0 f2 f3 f3 (both_least f0 f1 f2 k0 k1)
    (subst (λ (x : ℕ). Rose f2 x) (sym is)
    (gathered_rose asked.links asked.connections f2 before now opened (staff_failed _ accounts before now left.1 (held left.0) staffed failed)))
    (itself_least f3)
ports_failed (Err s) asked list f0 f1 f2 f3 drawn drawn' before now served k0 k1 is opened = tt

pub ports_refused : (r : Result (HouseRecord × Worked) Status) (sessions : ℕ) (list : List ℕ) (f0 f1 f2 f3 : ℕ) → f0 ≤ f1 → f2 ≤ f3
    → IfErr r (λ s. Refused sessions list s (Rose f1 f2)) → IfErr r (λ s. Refused sessions list s (Rose f0 f3))
ports_refused (Ok left) sessions list f0 f1 f2 f3 k0 k2 refused = tt
ports_refused (Err s) sessions list f0 f1 f2 f3 k0 k2 (inl refused) = inl refused
ports_refused (Err s) sessions list f0 f1 f2 f3 k0 k2 (inr (failed, rose)) = inr (failed, rose_wider f0 f1 f2 f3 k0 rose k2)

by_status : (asked : Serving) (ports ports' : Tally) (s : Status) → Unserved asked ports ports' → LeftUnserved asked ports ports' s
by_status asked ports ports' (status.Accounts n) left = left
by_status asked ports ports' s left = inr left

-- nothing listened
pub never_listened : (asked : Serving) (ports ports' : Tally) (s : Status) → (s ≡ status.ListenFault) ⊎ (s ≡ status.NoMemory)
    → ports'.tapes ≡ ports.tapes → ports'.links ≡ ports.links → ports'.dice ≡ ports.dice → ports'.drawn ≡ ports.drawn
    → LeftUnserved asked ports ports' s
never_listened asked ports ports' s (inl is) tapes came dice drawn =
    subst (λ (x : Status). LeftUnserved asked ports ports' x) (sym is) (inl (record { tapes = tapes; links = came; dice = dice; drawn = drawn }))
never_listened asked ports ports' s (inr is) tapes came dice drawn =
    subst (λ (x : Status). LeftUnserved asked ports ports' x) (sym is) (inl (record { tapes = tapes; links = came; dice = dice; drawn = drawn }))

-- posts that came back as they were
pub ports_unserved : (r : Result (HouseRecord × Worked) Status) (asked : Serving) (ports ports' : Tally) (T : Type 0) (tell : T → PostTelling)
    (posts back : List T) (drawn drawn' : Option (List (List ℕ))) → IfErr r (λ s. back ≡ posts) → OnErr r (DrewAtMostOne drawn drawn')
    → drawn ≡ ports.drawn → ports'.drawn ≡ drawn' → length (map tell posts) ≡ asked.workers
    → AllOpened asked.links asked.connections (map tell posts) → ports'.address ≡ Some (address_at asked.port) → Gathered ports (map tell back) ports'
    → IfErr r (LeftUnserved asked ports ports')
ports_unserved (Ok left) asked ports ports' T tell posts back drawn drawn' same drew first last many opened listened gathers = tt
ports_unserved (Err s) asked ports ports' T tell posts back drawn drawn' same drew first last many opened listened gathers =
    by_status asked ports ports' s (record {
      posts = map tell posts;
      as_many = many;
      opened = opened;
      listened = listened;
      drew = same_drawn DrewAtMostOne drawn drawn' ports.drawn ports'.drawn first last drew;
      gathered = subst (λ (l : List T). Gathered ports (map tell l) ports') same gathers;
    })

-- The end of a run.

number-set : IsSet ℕ
number-set = Prim.hlevel props

-- what is known to stand for a history has its numbers
pub numbers_known : (house : HouseRecord) (o : State) (h : List Turn) → ((o : State) (h : List Turn) → StandsFor o h (held house)
    → (house.table.opened ≡ openings h) × (house.turns ≡ length h)) → Stands o h (held house) → (house.table.opened ≡ openings h) × (house.turns ≡ length h)
numbers_known house o h numbers known = (
  ∥∥₁_elim known (number-set house.table.opened (openings h)) (λ (s : StandsFor o h (held house)). (numbers o h s).0),
  ∥∥₁_elim known (number-set house.turns (length h)) (λ (s : StandsFor o h (held house)). (numbers o h s).1),
)

line_by : (links links' turns turns' : ℕ) → links ≡ links' → turns ≡ turns' → report links turns ≡ report links' turns'
line_by links links' turns turns' a b = ap (λ (n : ℕ). report n turns) a ∙ ap (λ (n : ℕ). report links' n) b

pub run_served : (asked : Serving) (list : List ℕ) (ports ports' : Tally) (house : HouseRecord) (worked : Worked)
    → worked ≡ Shut → (x : Ran worked asked list ports ports') × (x.kept ≡ held house)
    → ((o : State) (h : List Turn) → Stands o h (held house) → (house.table.opened ≡ openings h) × (house.turns ≡ length h))
    → Served asked list ports ports' (report house.table.opened house.turns)
run_served asked list ports ports' house worked shut known numbers =
    at-shut (subst (λ (w : Worked). (x : Ran w asked list ports ports') × (x.kept ≡ held house)) shut known)
  where
    at-shut : (x : Ran Shut asked list ports ports') × (x.kept ≡ held house)
        → Served asked list ports ports' (report house.table.opened house.turns)
    at-shut (x, same) =
        let o : State = opening_for asked x.accounts in
        let stands : Stands o x.staffed.history (held house) = subst (λ (k : Kept). Stands o x.staffed.history k) same x.staffed.stands in
        let n : (house.table.opened ≡ openings x.staffed.history) × (house.turns ≡ length x.staffed.history) = numbers o x.staffed.history stands in
        record {
          ran = x;
          line_is = line_by house.table.opened (openings x.staffed.history) house.turns (length x.staffed.history) n.0 n.1;
        }

pub printed : (r : Result (Unit {0}) Status) (left left' : Option (List ℕ)) (asked : Serving) (list : List ℕ)
    (ports ports' : Tally) (took took' : Option (List ℕ)) (line : List ℕ) → ReadsList asked.sessions left left' list
    → Served asked list ports ports' line → ((taken : List ℕ) → took ≡ Some taken → OnOk r (took' ≡ Some (taken ++ line)))
    → OnOk r ((l : List ℕ) × (said : List ℕ) × ReadsList asked.sessions left left' l × Served asked l ports ports' said
    × ((taken : List ℕ) → took ≡ Some taken → took' ≡ Some (taken ++ said)))
printed (Ok done) left left' asked list ports ports' took took' line reads served told = (list, line, reads, served, told)
printed (Err s) left left' asked list ports ports' took took' line reads served told = tt

-- the sink failed, and took a front of the line
pub printed_front : (r : Result (Unit {0}) Status) (left left' : Option (List ℕ)) (asked : Serving) (list : List ℕ)
    (ports ports' : Tally) (took took' : Option (List ℕ)) (line : List ℕ) → ReadsList asked.sessions left left' list
    → Served asked list ports ports' line
    → ((taken : List ℕ) → took ≡ Some taken → IfErr r (λ s. s ≡ status.WriteFault → Run.Front taken line took'))
    → IfErr r (λ s. s ≡ status.WriteFault → (l : List ℕ) × (said : List ℕ) × ReadsList asked.sessions left left' l × Served asked l ports ports' said
    × ((taken : List ℕ) → took ≡ Some taken → Run.Front taken said took'))
printed_front (Ok done) left left' asked list ports ports' took took' line reads served told = tt
printed_front (Err s) left left' asked list ports ports' took took' line reads served told =
    λ is. (list, line, reads, served, λ taken before. told taken before is)

pub when_cut : (r : Result (Unit {0}) Status) (X : Type 0) → OnErr r X → IfErr r (λ s. s ≡ status.WriteFault → X)
when_cut (Ok done) X failed = tt
when_cut (Err s) X failed = λ is. failed

pub when_silent : (r : Result (Unit {0}) Status) (X : Type 0) → IfErr r (λ s. s ≡ status.WriteFault) → IfErr r (λ s. s ≡ status.NoMemory → X)
when_silent (Ok done) X told = tt
when_silent (Err s) X told = λ is. absurd (let e : status.WriteFault ≡ status.NoMemory = sym told ∙ is in cc)

-- a sink that didn't fail took nothing
pub printed_nothing : (K : Type 0) (old now : K) (r : Result (Unit {0}) Status) → IfErr r (λ s. (s ≡ status.WriteFault) ⊎ (s ≡ status.NoMemory))
    → IfErr r (λ s. s ≡ status.NoMemory → now ≡ old) → IfErr r (λ s. s ≢ status.WriteFault → now ≡ old)
printed_nothing K old now (Ok done) others silent = tt
printed_nothing K old now (Err s) (inl is) silent = λ other. absurd (other is)
printed_nothing K old now (Err s) (inr is) silent = λ other. silent is

-- statuses that differ

pub write-accounts : (n : ℕ) → status.WriteFault ≡ status.Accounts n → ⊥
write-accounts n is = absurd (let k : status.WriteFault ≡ status.Accounts n = is in cc)

pub write-read : status.WriteFault ≡ status.ReadFault → ⊥
write-read is = absurd (let k : status.WriteFault ≡ status.ReadFault = is in cc)

pub write-memory : status.WriteFault ≡ status.NoMemory → ⊥
write-memory is = absurd (let k : status.WriteFault ≡ status.NoMemory = is in cc)

pub listen-memory : status.ListenFault ≡ status.NoMemory → ⊥
listen-memory is = absurd (let k : status.ListenFault ≡ status.NoMemory = is in cc)

pub listen-read : status.ListenFault ≡ status.ReadFault → ⊥
listen-read is = absurd (let k : status.ListenFault ≡ status.ReadFault = is in cc)

pub write-listen : status.WriteFault ≡ status.ListenFault → ⊥
write-listen is = absurd (let k : status.WriteFault ≡ status.ListenFault = is in cc)

pub write-usage : status.WriteFault ≡ status.Usage → ⊥
write-usage is = absurd (let k : status.WriteFault ≡ status.Usage = is in cc)

pub write-done : status.WriteFault ≡ status.Done → ⊥
write-done is = absurd (let k : status.WriteFault ≡ status.Done = is in cc)

pub write-script : (n : ℕ) → status.WriteFault ≡ status.Script n → ⊥
write-script n is = absurd (let k : status.WriteFault ≡ status.Script n = is in cc)

pub memory-accounts : (n : ℕ) → status.NoMemory ≡ status.Accounts n → ⊥
memory-accounts n is = absurd (let k : status.NoMemory ≡ status.Accounts n = is in cc)

pub memory-read : status.NoMemory ≡ status.ReadFault → ⊥
memory-read is = absurd (let k : status.NoMemory ≡ status.ReadFault = is in cc)

pub memory-listen : status.NoMemory ≡ status.ListenFault → ⊥
memory-listen is = absurd (let k : status.NoMemory ≡ status.ListenFault = is in cc)

pub memory-usage : status.NoMemory ≡ status.Usage → ⊥
memory-usage is = absurd (let k : status.NoMemory ≡ status.Usage = is in cc)

pub memory-done : status.NoMemory ≡ status.Done → ⊥
memory-done is = absurd (let k : status.NoMemory ≡ status.Done = is in cc)

pub memory-script : (n : ℕ) → status.NoMemory ≡ status.Script n → ⊥
memory-script n is = absurd (let k : status.NoMemory ≡ status.Script n = is in cc)

-- printing fails by the sink or by memory alone
pub by_printing : (r : Result (Unit {0}) Status) (Y : Status → Type 0) → IfErr r (λ s. (s ≡ status.WriteFault) ⊎ (s ≡ status.NoMemory)) → Y status.WriteFault
    → Y status.NoMemory → IfErr r Y
by_printing (Ok done) Y is fault memory = tt
by_printing (Err s) Y (inl is) fault memory = subst Y (sym is) fault
by_printing (Err s) Y (inr is) fault memory = subst Y (sym is) memory

-- where a poller failed
pub run_failed : (asked : Serving) (list : List ℕ) (ports ports' : Tally) (house : HouseRecord) (worked : Worked)
    → worked ≡ PollFault → (x : Ran worked asked list ports ports') × (x.kept ≡ held house)
    → ListeningFailed asked list ports ports'
run_failed asked list ports ports' house worked failed (x, same) =
    inr (inr (subst (λ (w : Worked). Ran w asked list ports ports') failed x))

-- where memory was wanting

pub short_unserved : (left left' : Option (List ℕ)) (asked : Serving) (ports ports' : Tally) (s : Status)
    → LeftUnserved asked ports ports' s → s ≡ status.NoMemory → CameShort left left' asked ports ports'
short_unserved left left' asked ports ports' s unserved is =
    elim (subst (λ (x : Status). LeftUnserved asked ports ports' x) is unserved) [ inl never ↦ inl never | inr back ↦ inr (inl back) ]

pub short_line : (left left' : Option (List ℕ)) (asked : Serving) (list : List ℕ) (ports ports' : Tally)
    (house : HouseRecord) (worked : Worked) → worked ≡ Shut → (x : Ran worked asked list ports ports') × (x.kept ≡ held house)
    → ReadsList asked.sessions left left' list → CameShort left left' asked ports ports'
short_line left left' asked list ports ports' house worked shut (x, same) reads =
    inr (inr (list, reads, subst (λ (w : Worked). Ran w asked list ports ports') shut x))

-- and what is refused is no fault of the source
pub refused-read : (sessions : ℕ) (list : List ℕ) (s : Status) (X Y : Type 0) → Refused sessions list s X → s ≡ status.ReadFault → Y
refused-read sessions list s X Y (inl refused) is = absurd (subst (λ (x : Status). IsRefused (entries_for sessions list) x) is refused)
refused-read sessions list s X Y (inr (failed, rose)) is =
    absurd (let k : status.ListenFault ≡ status.ReadFault = sym failed ∙ is in cc)

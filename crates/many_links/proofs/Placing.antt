-- What is done at one place leaves the others as they were.
use Rattle.std.proofs.Common.{◌≡◌, ◌≢◌, ◌<◌, ℕ, ◌+◌, List, [], ◌∷◌, arith, get_or, length, map, set, refl, subst, sym, ap, inl, inr, ◌∙◌}
use Rattle.std.specs.Prelude.{All, Bool, true, false, Option, Some, None}
use Rattle.std.proofs.lemmas.List.{get_or-map, get_or-set_same, get_or-set_other, length-map, length-set, map-set}
use Rattle.std.proofs.lemmas.Bool.Decides.{eqb_tells}
use Rattle.outside.specs.Doors.{TakesBack}
use Rattle.outside.specs.Tapes.{Mark}
use Rattle.account_book.specs.Lists.{Book}
use Rattle.conn_asks.specs.declared.ended.Ended.{Ended}
use Rattle.conn_serve.proofs.Cutting.{attends_same}
use Rattle.conn_serve.proofs.Turning.{starts_same}
use Rattle.conn_serve.specs.Connections.{site_of}
use Rattle.conn_serve.specs.Shifts.{Serves}
use Rattle.many_links.specs.Visits.{AllFree, AllHeld, AllServed, AllStand, FreeBefore, IsHeld, IsOpenAt, Links, Open, Served, Spot, Stands, Stood, Tapes}
use Rattle.many_links.specs.Visits.{at, is_taken, nowhere, shift_at}

-- a fact of each place, where one of them is changed
pub by_place : (P : ℕ → Spot → Type 0) (spots : List Spot) (n : ℕ) (s : Spot) (k : ℕ) → k < length spots
    → P n s → (k ≢ n → P k (at spots k)) → P k (at (set spots n s) k)
by_place P spots n s k less here else_where =
    elim (eqb_tells k n) [
      | inl e ↦
          subst (λ (x : Spot). P k x)
          (sym (ap (λ (j : ℕ). at (set spots n s) j) e.1 ∙ get_or-set_same spots n s nowhere (subst (λ (j : ℕ). j < length spots) e.1 less)))
          (subst (λ (j : ℕ). P j s) (sym e.1) here)
      | inr e ↦ subst (λ (x : Spot). P k x) (sym (get_or-set_other spots n k s nowhere e.1)) (else_where e.1)
    ]

-- a place by its number, over what f tells of it
pub at_place : {X : Type 0} (f : X → Spot) (items : List X) (n : ℕ) (p : X) → n < length items → p ≡ get_or items n p → at (map f items) n ≡ f p
at_place f items n p less value = get_or-map f items n p nowhere less ∙ ap f (sym value)

-- the others are as they were
pub others_same : {X : Type 0} (f : X → Spot) (items : List X) (n : ℕ) (p : X) (j : ℕ) → j ≢ n → at (map f (set items n p)) j ≡ at (map f items) j
others_same f items n p j apart =
    ap (λ (spots : List Spot). at spots j) (map-set f items n p) ∙ get_or-set_other (map f items) n j (f p) nowhere apart

-- Places are held.

pub held_at : {X : Type 0} (accounts : Book) (f : X → Spot) (items : List X) (taken : ℕ → Bool) (n : ℕ) (p : X) → n < length items → p ≡ get_or items n p
    → AllHeld accounts taken (map f items) → IsHeld accounts (taken n) (f p)
held_at accounts f items taken n p less value held =
    subst (λ (s : Spot). IsHeld accounts (taken n) s) (at_place f items n p less value)
    (held n (subst (λ (m : ℕ). n < m) (sym (length-map items f)) less))

pub place_held : {X : Type 0} (accounts : Book) (f : X → Spot) (items : List X) (taken taken' : ℕ → Bool) (n : ℕ) (p : X)
    → IsHeld accounts (taken' n) (f p) → ((j : ℕ) → j ≢ n → taken' j ≡ taken j)
    → AllHeld accounts taken (map f items) → AllHeld accounts taken' (map f (set items n p))
place_held accounts f items taken taken' n p here others held =
    let spots : List Spot = map f items in
    let all : AllHeld accounts taken' (set spots n (f p)) = λ k less.
    let low : k < length spots = subst (λ (m : ℕ). k < m) (length-set spots n (f p)) less in
    by_place (λ j s. IsHeld accounts (taken' j) s) spots n (f p) k low here
    (λ apart. subst (λ (b : Bool). IsHeld accounts b (at spots k)) (sym (others k apart)) (held k low)) in
    subst (λ (x : List Spot). AllHeld accounts taken' x) (sym (map-set f items n p)) all

pub places_held : (accounts : Book) (spots : List Spot) (taken taken' : ℕ → Bool) → ((j : ℕ) → taken' j ≡ taken j)
    → AllHeld accounts taken spots → AllHeld accounts taken' spots
places_held accounts spots taken taken' same held =
    λ k less. subst (λ (b : Bool). IsHeld accounts b (at spots k)) (sym (same k)) (held k less)

-- Places stand.

place_stands : {X : Type 0} (domain : List ℕ) (accounts : Book) (f : X → Spot) (olds : List Spot) (items : List X) (t0 : Tapes) (l0 : Links)
    (t t' : Tapes) (l l' : Links) (n : ℕ) (p p' : X)
    → n < length items → p ≡ get_or items n p → length olds ≡ length items
    → (Stood domain accounts (at olds n) (t0 n) (l0 n) (f p) (t n) (l n) → Stood domain accounts (at olds n) (t0 n) (l0 n) (f p') (t' n) (l' n))
    → ((j : ℕ) → j ≢ n → t' j ≡ t j) → ((j : ℕ) → j ≢ n → l' j ≡ l j)
    → AllStand domain accounts olds t0 l0 (map f items) t l → AllStand domain accounts olds t0 l0 (map f (set items n p')) t' l'
place_stands domain accounts f olds items t0 l0 t t' l l' n p p' less value same step others counts all =
    let spots : List Spot = map f items in
    let wide : length olds ≡ length spots = same ∙ sym (length-map items f) in
    let before : Stood domain accounts (at olds n) (t0 n) (l0 n) (f p) (t n) (l n)
    = subst (λ (s : Spot). Stood domain accounts (at olds n) (t0 n) (l0 n) s (t n) (l n)) (at_place f items n p less value)
    (all n (subst (λ (m : ℕ). n < m) (sym same) less)) in
    let each : AllStand domain accounts olds t0 l0 (set spots n (f p')) t' l' = λ k low.
    by_place (λ j s. Stood domain accounts (at olds j) (t0 j) (l0 j) s (t' j) (l' j)) spots n (f p') k (subst (λ (m : ℕ). k < m) wide low) (step before)
    (λ apart. subst (λ (x : Option (List (List Mark))). Stood domain accounts (at olds k) (t0 k) (l0 k) (at spots k) x (l' k)) (sym (others k apart))
    (subst (λ (m : ℕ). Stood domain accounts (at olds k) (t0 k) (l0 k) (at spots k) (t k) m) (sym (counts k apart)) (all k low))) in
    subst (λ (x : List Spot). AllStand domain accounts olds t0 l0 x t' l') (sym (map-set f items n p')) each

-- where no tape came back; g is what became of the count of links
pub stands_on : {X : Type 0} (g : ℕ → ℕ) (domain : List ℕ) (accounts : Book) (f : X → Spot) (olds : List Spot) (items : List X) (t0 : Tapes) (l0 : Links)
    (t t' : Tapes) (l l' : Links) (n : ℕ) (p p' : X)
    → n < length items → p ≡ get_or items n p → length olds ≡ length items
    → ((s : Spot) (x y : Option (List (List Mark))) (m k : ℕ) → Stood domain accounts s x m (f p) y k → Stood domain accounts s x m (f p') y (g k))
    → ((j : ℕ) → t' j ≡ t j) → l' n ≡ g (l n) → ((j : ℕ) → j ≢ n → l' j ≡ l j)
    → AllStand domain accounts olds t0 l0 (map f items) t l → AllStand domain accounts olds t0 l0 (map f (set items n p')) t' l'
stands_on g domain accounts f olds items t0 l0 t t' l l' n p p' less value same step every here counts all =
    place_stands domain accounts f olds items t0 l0 t t' l l' n p p' less value same
    (λ s. subst (λ (x : Option (List (List Mark))). Stood domain accounts (at olds n) (t0 n) (l0 n) (f p') x (l' n)) (sym (every n))
    (subst (λ (m : ℕ). Stood domain accounts (at olds n) (t0 n) (l0 n) (f p') (t n) m) (sym here)
    (step (at olds n) (t0 n) (t n) (l0 n) (l n) s)))
    (λ j apart. every j) counts all

-- where one did
pub stands_back : {X : Type 0} (g : ℕ → ℕ) (domain : List ℕ) (accounts : Book) (f : X → Spot) (olds : List Spot) (items : List X) (t0 : Tapes) (l0 : Links)
    (t t' : Tapes) (l l' : Links) (n : ℕ) (p p' : X) (tape : Option (List Mark))
    → n < length items → p ≡ get_or items n p → length olds ≡ length items
    → ((s : Spot) (x y z : Option (List (List Mark))) (m k : ℕ) → TakesBack y tape z
    → Stood domain accounts s x m (f p) y k → Stood domain accounts s x m (f p') z (g k))
    → TakesBack (t n) tape (t' n) → ((j : ℕ) → j ≢ n → t' j ≡ t j) → l' n ≡ g (l n) → ((j : ℕ) → j ≢ n → l' j ≡ l j)
    → AllStand domain accounts olds t0 l0 (map f items) t l → AllStand domain accounts olds t0 l0 (map f (set items n p')) t' l'
stands_back g domain accounts f olds items t0 l0 t t' l l' n p p' tape less value same step back others here counts all =
    place_stands domain accounts f olds items t0 l0 t t' l l' n p p' less value same
    (λ s. subst (λ (m : ℕ). Stood domain accounts (at olds n) (t0 n) (l0 n) (f p') (t' n) m) (sym here)
    (step (at olds n) (t0 n) (t n) (t' n) (l0 n) (l n) back s))
    others counts all

-- where nothing was done at any place
pub places_stand : (domain : List ℕ) (accounts : Book) (olds spots : List Spot) (t0 : Tapes) (l0 : Links) (t t' : Tapes) (l l' : Links)
    → ((j : ℕ) → t' j ≡ t j) → ((j : ℕ) → l' j ≡ l j)
    → AllStand domain accounts olds t0 l0 spots t l → AllStand domain accounts olds t0 l0 spots t' l'
places_stand domain accounts olds spots t0 l0 t t' l l' every counts all = λ k less.
    subst (λ (x : Option (List (List Mark))). Stood domain accounts (at olds k) (t0 k) (l0 k) (at spots k) x (l' k)) (sym (every k))
    (subst (λ (m : ℕ). Stood domain accounts (at olds k) (t0 k) (l0 k) (at spots k) (t k) m) (sym (counts k)) (all k less))

-- Places are free.

pub none_busy : (busy : Option Open) → is_taken busy ≡ false → busy ≡ None
none_busy None e = refl
none_busy (Some u) e = absurd (let f : true ≡ false = e in cc)

-- a free place is held
pub free_held : (accounts : Book) (taken : Bool) (s : Spot) → taken ≡ false → s.busy ≡ None → IsHeld accounts taken s
free_held accounts taken s not_taken free = record {
  known = not_taken ∙ sym (ap is_taken free);
  open_at = subst (λ (b : Option Open). IsOpenAt s.line accounts b) (sym free) tt;
}

-- those that are not taken are free
pub free_all_held : (accounts : Book) (spots : List Spot) (taken : ℕ → Bool) → ((j : ℕ) → j < length spots → taken j ≡ false) → AllHeld accounts taken spots
    → AllFree spots
free_all_held accounts spots taken none held = λ k less. none_busy (at spots k).busy (sym (held k less).known ∙ none k less)

pub free_places : {X : Type 0} (f : X → Spot) (P : X → Type 0) → ((x : X) → P x → (f x).busy ≡ None) → (items : List X) → All P items
    → AllFree (map f items)
free_places f P h [] all = λ k less. absurd (omega (arith, less))
free_places f P h (x ∷ xs) all = λ k less.
    let low : k < length (x ∷ xs) = subst (λ (m : ℕ). k < m) (length-map (x ∷ xs) f) less in
    ap (λ (s : Spot). s.busy) (get_or-map f (x ∷ xs) k x nowhere low) ∙ h (get_or (x ∷ xs) k x) (all k x low)

pub all_free_held : (accounts : Book) (spots : List Spot) (taken : ℕ → Bool) → AllFree spots → ((k : ℕ) → taken k ≡ false) → AllHeld accounts taken spots
all_free_held accounts spots taken free none = λ k less. free_held accounts (taken k) (at spots k) (none k) (free k less)

pub free_before : {X : Type 0} (f : X → Spot) (items : List X) (n : ℕ) (p : X) → n < length items → (f p).busy ≡ None
    → FreeBefore n (map f items) → FreeBefore (n + 1) (map f (set items n p))
free_before f items n p less here free = λ k below.
    subst (λ (spots : List Spot). (at spots k).busy ≡ None) (sym (map-set f items n p))
    (by_place (λ j s. s.busy ≡ None) (map f items) n (f p) k (subst (λ (m : ℕ). k < m) (sym (length-map items f)) (omega (arith, below, less))) here
    (λ apart. free k (omega (arith, below, apart))))

pub free_all : (spots : List Spot) (n : ℕ) → length spots ≡ n → FreeBefore n spots → AllFree spots
free_all spots n same free = λ k less. free k (subst (λ (m : ℕ). k < m) same less)

-- The beginning and the end.

-- at the start each place served none
pub none_served : (domain : List ℕ) (accounts : Book) (spots : List Spot) (t : Tapes) (l : Links) → AllFree spots → AllStand domain accounts spots t l spots t l
none_served domain accounts spots t l free = λ k less.
    let s : Spot = at spots k in
    record {
      line = refl;
      history = starts_same s.seen;
      stands = subst (λ (b : Option Open). Stands (site_of s.line domain accounts) (shift_at (t k) (l k) s) (shift_at (t k) (l k) s) b)
          (sym (free k less)) ([], refl);
    }

attends : (domain : List ℕ) (accounts : Book) (s s' : Spot) (t t' : Option (List (List Mark))) (m n : ℕ) → s'.busy ≡ None
    → Stood domain accounts s t m s' t' n → Served domain accounts s t m s' t' n
attends domain accounts s s' t t' m n free stood =
    let served : (ends : List Ended) × Serves (site_of s.line domain accounts) (shift_at t m s) ends (shift_at t' n s')
    = subst (λ (b : Option Open). Stands (site_of s.line domain accounts) (shift_at t m s) (shift_at t' n s') b) free stood.stands in
    record {
      line = stood.line;
      history = stood.history;
      attends = attends_same (site_of s.line domain accounts) (shift_at t m s) served.0 (shift_at t' n s') (shift_at t' n s') served.1 refl;
    }

-- where none is taken each place served its links
pub all_served : (domain : List ℕ) (accounts : Book) (olds news : List Spot) (t t' : Tapes) (l l' : Links) → length olds ≡ length news → AllFree news
    → AllStand domain accounts olds t l news t' l' → AllServed domain accounts olds t l news t' l'
all_served domain accounts olds news t t' l l' same free all = λ k less.
    attends domain accounts (at olds k) (at news k) (t k) (t' k) (l k) (l' k) (free k (subst (λ (m : ℕ). k < m) same less)) (all k less)

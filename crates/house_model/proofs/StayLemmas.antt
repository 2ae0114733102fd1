-- What is true of a stay of one session, over plain orders, seats and queues.
use Rattle.std.proofs.Common.{◌≡◌, ℕ, suc, ◌+◌, ◌-◌, ◌≤◌, ◌==◌, List, [], ◌∷◌, ◌++◌, length, take, drop, sym, refl, ap, ◌∙◌, subst, inl, inr, arith}
use Rattle.std.proofs.Common.{Bool, true, false, Option, Some, if◌then◌else◌}
use Rattle.std.proofs.lemmas.Bool.{cases_eq, eqb-true, eqb-false, eq-eqb, ne_eqb}
use Rattle.std.proofs.lemmas.List.{append-nil, length-append, drop-append-le, take-append-le, length-drop, take_all}
use Rattle.std.proofs.lemmas.List.Elements.{filter-append}
use Rattle.jid_core.specs.Addresses.{Address}
use Rattle.stanza_tree.specs.declared.frame.Entry.{Entry}
use Rattle.house_model.specs.Numbered.{put}
use Rattle.house_model.specs.Stays.{Item, Stay, Unmade, Open, Ended, closed, is_of, live_of, view_of, views, between, own, run}

-- tests and updates

pub choose : {A : Type 0} (P : A → Type 0) (b : Bool) (x y : A) → (b ≡ true → P x) → (b ≡ false → P y) → P (if b then x else y)
choose P true x y f g = f refl
choose P false x y f g = g refl

pub put_same : {A : Type 0} (k : ℕ) (v : A) (f : ℕ → A) → put k v f k ≡ v
put_same k v f = rw (eq-eqb k k refl) refl

pub put_other : {A : Type 0} (k : ℕ) (v : A) (f : ℕ → A) (x : ℕ) → (x ≡ k → ⊥) → put k v f x ≡ f x
put_other k v f x ne = rw (ne_eqb x k ne) refl

-- what holds of the new value at k and of the old ones elsewhere
pub put_both : {A : Type 0} (P : ℕ → A → Type 0) (k : ℕ) (v : A) (f : ℕ → A) → P k v → ((x : ℕ) → (x ≡ k → ⊥) → P x (f x)) → (x : ℕ) → P x (put k v f x)
put_both P k v f here other x =
    choose (λ (a : _). P x a) (x == k) v (f x) (λ (e : _). subst (λ (j : ℕ). P j v) (sym (eqb-true x k e)) here) (λ (e : _). other x (eqb-false x k e))

-- the run of a stay when its room's order grows

pub views_push : (r i s : ℕ) (address : Address) (n : ℕ) (xs : List Item) (x : Item)
    → views r i s address n (xs ++ x ∷ []) ≡ views r i s address n xs ++ view_of r i s address (n + length xs) x ∷ []
views_push r i s address n [] x = ap (λ (k : ℕ). view_of r i s address k x ∷ []) (omega arith)
views_push r i s address n (y ∷ ys) x =
    let h = views_push r i s address (n + 1) ys x in
    let e : (n + 1) + length ys ≡ n + suc (length ys) = omega arith in
    ap (λ (l : List Entry). view_of r i s address n y ∷ l) (h ∙ ap (λ (k : ℕ). views r i s address (n + 1) ys ++ view_of r i s address k x ∷ []) e)

pub between_grows : (a e : ℕ) (xs more : List Item) → a ≤ e → e ≤ length xs → between a e (xs ++ more) ≡ between a e xs
between_grows a e xs more h k =
    let ha : a ≤ length xs = omega arith in
    let hb : e - a ≤ length (drop a xs) = rw (length-drop a xs) (omega arith) in
    ap (take (e - a)) (drop-append-le a xs more ha) ∙ take-append-le (e - a) (drop a xs) more hb

pub between_all : (a : ℕ) (xs : List Item) → between a (length xs) xs ≡ drop a xs
between_all a xs = take_all (length xs - a) (drop a xs) (rw (length-drop a xs) (omega arith))

-- the entries of a stay when an entry is added

pub live_push : (i : ℕ) (q : List Entry) (e : Entry) → live_of i (q ++ e ∷ []) ≡ live_of i q ++ live_of i (e ∷ [])
live_push i q e = filter-append (λ x. is_of i x.origin) q (e ∷ [])

pub live_else : (i : ℕ) (q : List Entry) (e : Entry) → is_of i e.origin ≡ false → live_of i (q ++ e ∷ []) ≡ live_of i q
live_else i q e h = live_push i q e ∙ (let z : live_of i (e ∷ []) ≡ [] = rw h refl in ap (λ (l : List Entry). live_of i q ++ l) z ∙ append-nil (live_of i q))

pub live_named : (i : ℕ) (q : List Entry) (e : Entry) → is_of i e.origin ≡ true → live_of i (q ++ e ∷ []) ≡ live_of i q ++ e ∷ []
live_named i q e h = live_push i q e ∙ (let z : live_of i (e ∷ []) ≡ e ∷ [] = rw h refl in ap (λ (l : List Entry). live_of i q ++ l) z)

-- What is true of a stay, as session s has it: it has this number, the session this address and such entries, and takes entries or doesn't.
abbrev pub Fine : (ℕ → List Item) → (ℕ → Option ℕ) → ℕ → Address → Bool → List Entry → ℕ → Stay → Type 0
Fine order seats s address live q i Unmade = live_of i q ≡ []
Fine order seats s address live q i (Open p r a) =
    (p ≡ s) × (a ≤ length (order r)) × (live_of i q ≡ views r i s address a (drop a (order r))) × (seats r ≡ Some i) × (live ≡ true)
Fine order seats s address live q i (Ended p r a e) =
    (a ≤ e) × (e ≤ length (order r)) × (live_of i q ≡ views r i s address a (between a e (order r)))

pub fine_run : (order : ℕ → List Item) (seats : ℕ → Option ℕ) (s : ℕ) (address : Address) (live : Bool) (q : List Entry) (i : ℕ) (t : Stay)
    → Fine order seats s address live q i t → live_of i q ≡ run order s address i t
fine_run order seats s address live q i Unmade fine = fine
fine_run order seats s address live q i (Open p r a) fine = fine.2
fine_run order seats s address live q i (Ended p r a e) fine = fine.2

-- orders only grow
abbrev pub Grow : (ℕ → List Item) → (ℕ → List Item) → Type 0
Grow order order' = (r : ℕ) → (more : List Item) × (order' r ≡ order r ++ more)

pub ended_grows : (r i s a e : ℕ) (address : Address) (q q' : List Entry) (xs xs' : List Item) → (more : List Item) × (xs' ≡ xs ++ more)
    → live_of i q' ≡ live_of i q
    → (a ≤ e) × (e ≤ length xs) × (live_of i q ≡ views r i s address a (between a e xs))
    → (a ≤ e) × (e ≤ length xs') × (live_of i q' ≡ views r i s address a (between a e xs'))
ended_grows r i s a e address q q' xs xs' (more, is) same (low, high, shown) =
    let len : length xs' ≡ length xs + length more = ap length is ∙ length-append xs more in
    let bt : between a e xs' ≡ between a e xs = ap (between a e) is ∙ between_grows a e xs more low high in
    (low, omega arith, same ∙ (shown ∙ ap (views r i s address a) (sym bt)))

-- a stay that takes no entry, and is closed if it is among these; the length at which it closes is that of its order before
pub stay_moves : (order upto order' : ℕ → List Item) (seats seats' : ℕ
    → Option ℕ) (s : ℕ) (address : Address) (live live' : Bool) (q q' : List Entry) (i : ℕ) (among : ℕ → ℕ → Bool)
    → Grow order order' → ((r : ℕ) → upto r ≡ order r) → live_of i q' ≡ live_of i q
    → (t : Stay)
    → ((r a : ℕ) → t ≡ Open s r a → among s r ≡ false → seats r ≡ Some i → live ≡ true → (order' r ≡ order r) × (seats' r ≡ Some i) × (live' ≡ true))
    → Fine order seats s address live q i t → Fine order' seats' s address live' q' i (closed among upto t)
stay_moves order upto order' seats seats' s address live live' q q' i among grow ends same Unmade kept fine = same ∙ fine
stay_moves order upto order' seats seats' s address live live' q q' i among grow ends same (Ended p r a e) kept fine =
    ended_grows r i s a e address q q' (order r) (order' r) (grow r) same fine
stay_moves order upto order' seats seats' s address live live' q q' i among grow ends same (Open p r a) kept (mine, low, shown, seated, alive) =
    choose (Fine order' seats' s address live' q' i) (among p r) (Ended p r a (length (upto r))) (Open p r a)
    (λ (e : _).
    let up : length (upto r) ≡ length (order r) = ap length (ends r) in
    let all : between a (length (upto r)) (order r) ≡ drop a (order r) = ap (λ (n : ℕ). between a n (order r)) up ∙ between_all a (order r) in
    ended_grows r i s a (length (upto r)) address q q' (order r) (order' r) (grow r) same (
      omega arith,
      omega arith,
      shown
          ∙ ap (views r i s address a) (sym all),
    ))
    (λ (e : _).
    let k = kept r a (ap (λ (j : ℕ). Open j r a) mine) (ap (λ (j : ℕ). among j r) (sym mine) ∙ e) seated alive in
    (mine, (let o : order' r ≡ order r = k.0 in rw o low), same ∙ (shown ∙ ap (λ (xs : List Item). views r i s address a (drop a xs)) (sym k.0)), k.1, k.2))

pub closed_none : (upto : ℕ → List Item) (t : Stay) → closed (λ _ _. false) upto t ≡ t
closed_none upto Unmade = refl
closed_none upto (Open p r a) = refl
closed_none upto (Ended p r a e) = refl

-- a stay that takes no entry and isn't closed
pub stay_rests : (order order' : ℕ → List Item) (seats seats' : ℕ
    → Option ℕ) (s : ℕ) (address : Address) (live live' : Bool) (q q' : List Entry) (i : ℕ) (t : Stay)
    → Grow order order' → live_of i q' ≡ live_of i q
    → ((r a : ℕ) → t ≡ Open s r a → seats r ≡ Some i → live ≡ true → (order' r ≡ order r) × (seats' r ≡ Some i) × (live' ≡ true))
    → Fine order seats s address live q i t → Fine order' seats' s address live' q' i t
stay_rests order order' seats seats' s address live live' q q' i t grow same kept fine =
    subst (Fine order' seats' s address live' q' i) (closed_none order t)
    (stay_moves order order order' seats seats' s address live live' q q' i (λ _ _. false) grow (λ r. refl) same t
    (λ r a is _ seated alive. kept r a is seated alive) fine)

pub no_growth : (order : ℕ → List Item) → Grow order order
no_growth order r = ([], sym (append-nil (order r)))

pub grow_same : (order order' : ℕ → List Item) → ((r : ℕ) → order' r ≡ order r) → Grow order order'
grow_same order order' h r = ([], h r ∙ sym (append-nil (order r)))

-- one room's order grows by an item
abbrev pub Grows : ℕ → Item → (ℕ → List Item) → (ℕ → List Item) → Type 0
Grows room item order order' = (order' room ≡ order room ++ item ∷ []) × ((r : ℕ) → (r ≡ room → ⊥) → order' r ≡ order r)

pub grows_all : (room : ℕ) (item : Item) (order order' : ℕ → List Item) → Grows room item order order' → Grow order order'
grows_all room item order order' (here, there) r =
    elim (cases_eq r room) as (λ _. (more : List Item) × (order' r ≡ order r ++ more)) [
      | inl e ↦ (item ∷ [], subst (λ (j : ℕ). order' j ≡ order j ++ item ∷ []) (sym e) here)
      | inr ne ↦ ([], there r ne ∙ sym (append-nil (order r)))
    ]

abbrev pub is_open_in : ℕ → Stay → Bool
is_open_in room Unmade = false
is_open_in room (Open p r a) = r == room
is_open_in room (Ended p r a e) = false

-- the stay that hears an item
pub stay_hears : (order order' : ℕ → List Item) (seats : ℕ → Option ℕ) (s room number : ℕ) (item : Item) (address : Address) (live : Bool) (q : List Entry)
    (i : ℕ) (t : Stay)
    → Grows room item order order' → number ≡ length (order room) → is_open_in room t ≡ true
    → Fine order seats s address live q i t → Fine order' seats s address live (q ++ view_of room i s address number item ∷ []) i t
stay_hears order order' seats s room number item address live q i Unmade grows is_number test fine = absurd (let z : false ≡ true = test in cc)
stay_hears order order' seats s room number item address live q i (Ended p r a e) grows is_number test fine = absurd (let z : false ≡ true = test in cc)
stay_hears order order' seats s room number item address live q i (Open p r a) (here, there) is_number test (mine, low, shown, seated, alive) =
    let e : r ≡ room = eqb-true r room test in
    let here' : order' r ≡ order r ++ item ∷ [] = subst (λ (j : ℕ). order' j ≡ order j ++ item ∷ []) (sym e) here in
    let len : length (order' r) ≡ length (order r) + 1 = ap length here' ∙ (length-append (order r) (item ∷ [])) in
    let number' : a + length (drop a (order r)) ≡ number = rw (length-drop a (order r)) (let n : length (order r) ≡ number = ap (λ (j : ℕ). length (order j)) e
    ∙ sym is_number in omega arith) in
    let dropped : drop a (order' r) ≡ drop a (order r) ++ item ∷ [] = ap (drop a) here' ∙ drop-append-le a (order r) (item ∷ []) low in
    let known : List Entry = views r i s address a (drop a (order r)) in
    let seen : views r i s address a (drop a (order' r)) ≡ known ++ view_of room i s address number item ∷ [] =
    ap (views r i s address a) dropped
    ∙ (views_push r i s address a (drop a (order r)) item
    ∙ (ap (λ (k : ℕ). known ++ view_of r i s address k item ∷ []) number' ∙ ap (λ (j : ℕ). known ++ view_of j i s address number item ∷ []) e)) in
    let taken : live_of i (q ++ view_of room i s address number item ∷ []) ≡ live_of i q ++ view_of room i s address number item ∷ [] =
    live_named i q (view_of room i s address number item) (eq-eqb i i refl) in
    (mine, omega arith, taken ∙ (ap (λ (l : List Entry). l ++ view_of room i s address number item ∷ []) shown ∙ sym seen), seated, alive)

-- a session's own stays close where its stays do
pub own_closed : (s : ℕ) (among : ℕ → ℕ → Bool) (order : ℕ → List Item) (t : Stay) → own s (closed among order t) ≡ closed among order (own s t)
own_closed s among order Unmade = refl
own_closed s among order (Ended p r a e) = choose (λ (t : Stay). t ≡ closed among order t) (p == s) (Ended p r a e) Unmade (λ (_ : _). refl) (λ (_ : _). refl)
own_closed s among order (Open p r a) =
    choose (λ (t : Stay). own s (closed among order (Open p r a)) ≡ closed among order t) (p == s) (Open p r a) Unmade
    (λ (e : _).
    choose (λ (t : Stay). own s t ≡ t) (among p r) (Ended p r a (length (order r))) (Open p r a) (λ (_ : _). rw e refl) (λ (_ : _). rw e refl))
    (λ (e : _).
    choose (λ (t : Stay). own s t ≡ Unmade) (among p r) (Ended p r a (length (order r))) (Open p r a) (λ (_ : _). rw e refl) (λ (_ : _). rw e refl))

-- Moments in a tree: what one write leaves, and where the first that has come stands.
use Rattle.std.proofs.Common.{◌≡◌, ◌≢◌, ℕ, zero, suc, ◌<◌, ◌≤◌, ◌+◌, ◌-◌, ◌*◌, ◌/◌, ◌%◌, ◌^◌, min, nat_eq, Bool, true, false, cond}
use Rattle.std.proofs.Common.{◌⊎◌, inl, inr, List, [], ◌++◌, length, set, take, drop, replicate, Option, Some, None, position, nat_lt, add-one, arith, refl}
use Rattle.std.proofs.Common.{sym, ap, subst, ◌∙◌}
use Rattle.std.proofs.lemmas.Bool.{le-leb, le-ltb, leb-true, leb-false, lt-leb, lt-ltb, true≢false}
use Rattle.std.proofs.lemmas.Bool.Decides.{eqb_tells}
use Rattle.std.proofs.lemmas.List.{get_or-set_same, get_or-set_other, get_or-drop, length-drop, drop-set-add, drop-replicate, length-set}
use Rattle.std.proofs.lemmas.List.Sums.{position_or_len_is}
use Rattle.std.specs.List.{position_or_len}
use Rattle.std.proofs.Math.Nat.{pow-suc}
use Rattle.std.proofs.Math.Seq.{take-append_seam}
use Rattle.std.proofs.Math.Pow.{pow_mono}
use Rattle.session_table.specs.Waking.{earlier}
use Rattle.session_table.specs.Sessions.{has_come}
use Rattle.session_table.specs.Waking.{IsEarlier, IsTree, IsTreeBut, node}

-- the earlier of two moments has come where one of them has
pub none_come : (now : ℕ) (a b : Option ℕ) → has_come now (earlier a b) ≡ false
    → (has_come now a ≡ false) × (has_come now b ≡ false)
none_come now None b ahead = (refl, ahead)
none_come now (Some x) None ahead = (ahead, refl)
none_come now (Some x) (Some y) ahead =
    let low = leb-false (min x y) now ahead in
    (lt-leb x now (omega (arith, low)), lt-leb y now (omega (arith, low)))

second_come : (now : ℕ) (a b : Option ℕ) → has_come now (earlier a b) ≡ true → has_come now a ≡ false
    → has_come now b ≡ true
second_come now None b come first = come
second_come now (Some x) None come first = absurd (true≢false (sym come ∙ first))
second_come now (Some x) (Some y) come first =
    let low = leb-true (min x y) now come in
    let high = leb-false x now first in
    le-leb y now (omega (arith, low, high))

-- a write leaves all other nodes, and those above it must be mended
node_else : (nodes : List (Option ℕ)) (at i : ℕ) (m : Option ℕ) → i ≢ at → node (set nodes at m) i ≡ node nodes i
node_else nodes at i m other = get_or-set_other nodes at i m None other

still_earlier : (nodes : List (Option ℕ)) (at i : ℕ) (m : Option ℕ) → i ≢ at → 2 * i ≢ at → 2 * i + 1 ≢ at → IsEarlier nodes i
    → IsEarlier (set nodes at m) i
still_earlier nodes at i m here left right is =
    node_else nodes at i m here
    ∙ (is ∙ sym ((λ j. earlier (node_else nodes at (2 * i) m left j) (node_else nodes at (2 * i + 1) m right j))))

-- a place is written
pub wrote_place : (nodes : List (Option ℕ)) (at : ℕ) (m : Option ℕ) → length nodes ≤ 2 * at + 1 → IsTree nodes
    → IsTreeBut (at / 2) (set nodes at m)
wrote_place nodes at m low tree = λ i above within other.
    let inside : 2 * i + 1 < length nodes = omega (arith, within, length-set nodes at m) in
    still_earlier nodes at i m (λ e. omega (arith, e, low, inside)) (λ e. other (omega (arith, e))) (λ e. other (omega (arith, e)))
    (tree i above inside (λ e. omega (arith, e, above)))

-- a node is mended
pub wrote_node : (nodes : List (Option ℕ)) (at : ℕ) (m : Option ℕ) → 0 < at → 2 * at + 1 < length nodes → IsTreeBut at nodes
    → m ≡ earlier (node nodes (2 * at)) (node nodes (2 * at + 1)) → IsTreeBut (at / 2) (set nodes at m)
wrote_node nodes at m above inside tree is = λ i high within other.
    let there : 2 * i + 1 < length nodes = omega (arith, within, length-set nodes at m) in
    by i high there other (eqb_tells i at)
  where
    by : (i : ℕ) → 0 < i → 2 * i + 1 < length nodes → i ≢ at / 2 → ((nat_eq i at ≡ true) × (i ≡ at)) ⊎ ((nat_eq i at ≡ false) × (i ≢ at))
        → IsEarlier (set nodes at m) i
    by i high there other (inl same) =
        subst (λ k. IsEarlier (set nodes at m) k) (sym same.1)
        (get_or-set_same nodes at m None (omega (arith, inside))
        ∙ (is ∙ sym ((λ j. earlier (node_else nodes at (2 * at) m (λ e. omega (arith, e, above)) j)
        (node_else nodes at (2 * at + 1) m (λ e. omega (arith, e, above)) j)))))
    by i high there other (inr apart) =
        still_earlier nodes at i m apart.1 (λ e. other (omega (arith, e))) (λ e. other (omega (arith, e)))
        (tree i high there apart.1)

-- a node has what it should have already
pub right_node : (nodes : List (Option ℕ)) (at : ℕ) → IsTreeBut at nodes → IsEarlier nodes at → IsTree nodes
right_node nodes at tree is = λ i above within other. by i above within (eqb_tells i at)
  where
    by : (i : ℕ) → 0 < i → 2 * i + 1 < length nodes → ((nat_eq i at ≡ true) × (i ≡ at)) ⊎ ((nat_eq i at ≡ false) × (i ≢ at))
        → IsEarlier nodes i
    by i above within (inl same) = subst (IsEarlier nodes) (sym same.1) is
    by i above within (inr apart) = tree i above within apart.1

-- on a level, the first node whose moment has come
pub record IsFirstAt (now : ℕ) (nodes : List (Option ℕ)) (low at : ℕ) : Type 0 where
  pub from : low ≤ at
  pub below : at < 2 * low
  pub come : has_come now (node nodes at) ≡ true
  pub before : (j : ℕ) → low ≤ j → j < at → has_come now (node nodes j) ≡ false

parts_ahead : (now : ℕ) (nodes : List (Option ℕ)) (i : ℕ) → IsEarlier nodes i → has_come now (node nodes i) ≡ false
    → (has_come now (node nodes (2 * i)) ≡ false) × (has_come now (node nodes (2 * i + 1)) ≡ false)
parts_ahead now nodes i is ahead =
    none_come now (node nodes (2 * i)) (node nodes (2 * i + 1)) (sym (ap (has_come now) is) ∙ ahead)

half_of : (j : ℕ) → (j ≡ 2 * (j / 2)) ⊎ (j ≡ 2 * (j / 2) + 1)
half_of j = by (j % 2) refl
  where
    by : (r : ℕ) → j % 2 ≡ r → (j ≡ 2 * (j / 2)) ⊎ (j ≡ 2 * (j / 2) + 1)
    by zero is = inl (omega (arith, is))
    by (suc zero) is = inr (omega (arith, is))
    by (suc (suc r)) is = absurd (omega (arith, is))

pub first_below : (now : ℕ) (nodes : List (Option ℕ)) (low at : ℕ) → IsTree nodes → 4 * low ≤ length nodes → 0 < low
    → IsFirstAt now nodes low at
    → IsFirstAt now nodes (2 * low) (cond (has_come now (node nodes (2 * at))) (2 * at) (2 * at + 1))
first_below now nodes low at tree wide some first = by (has_come now (node nodes (2 * at))) refl
  where
    is : IsEarlier nodes at
    is = tree at (omega (arith, first.from, some)) (omega (arith, first.below, wide)) (λ e. omega (arith, e, first.from, some))

    ahead : (j : ℕ) → 2 * low ≤ j → j < 2 * at → has_come now (node nodes j) ≡ false
    ahead j from before =
        let up : low ≤ j / 2 = omega (arith, from) in
        let left : j / 2 < at = omega (arith, before) in
        let parts = parts_ahead now nodes (j / 2)
        (tree (j / 2) (omega (arith, up, some)) (omega (arith, left, first.below, wide)) (λ e. omega (arith, e, up, some)))
        (first.before (j / 2) up left) in
        side (half_of j) parts
      where
        side : (j ≡ 2 * (j / 2)) ⊎ (j ≡ 2 * (j / 2) + 1)
            → (has_come now (node nodes (2 * (j / 2))) ≡ false) × (has_come now (node nodes (2 * (j / 2) + 1)) ≡ false)
            → has_come now (node nodes j) ≡ false
        side (inl e) parts = ap (λ k. has_come now (node nodes k)) e ∙ parts.0
        side (inr e) parts = ap (λ k. has_come now (node nodes k)) e ∙ parts.1

    by : (b : Bool) → has_come now (node nodes (2 * at)) ≡ b → IsFirstAt now nodes (2 * low) (cond b (2 * at) (2 * at + 1))
    by true come = record {
      from = omega (arith, first.from);
      below = omega (arith, first.below);
      come = come;
      before = ahead;
    }
    by false none = record {
      from = omega (arith, first.from);
      below = omega (arith, first.below);
      come = second_come now (node nodes (2 * at)) (node nodes (2 * at + 1)) (sym (ap (has_come now) is) ∙ first.come) none;
      before = λ j from before. last j from before (eqb_tells j (2 * at));
    }
      where
        last : (j : ℕ) → 2 * low ≤ j → j < 2 * at + 1
            → ((nat_eq j (2 * at) ≡ true) × (j ≡ 2 * at)) ⊎ ((nat_eq j (2 * at) ≡ false) × (j ≢ 2 * at))
            → has_come now (node nodes j) ≡ false
        last j from before (inl same) = ap (λ k. has_come now (node nodes k)) same.1 ∙ none
        last j from before (inr apart) =
            let left : j < 2 * at = omega (arith, before, apart.1) in
            ahead j from left

-- the first among the places
pub first_place : (now : ℕ) (nodes : List (Option ℕ)) (half at : ℕ) → length nodes ≡ 2 * half → IsFirstAt now nodes half at
    → position (has_come now) (drop half nodes) ≡ Some (at - half)
first_place now nodes half at wide first =
    let p = at - half in
    let many : length (drop half nodes) ≡ half = omega (arith, length-drop half nodes, wide) in
    let inside : p < half = omega (arith, first.from, first.below) in
    let is : position_or_len (has_come now) (drop half nodes) ≡ p =
    position_or_len_is (has_come now) (drop half nodes) p None (omega (arith, many, inside))
    (λ k low. ap (has_come now) (get_or-drop half nodes k None) ∙ first.before (half + k) (omega arith) (omega (arith, low, first.from)))
    (λ low. ap (has_come now) (get_or-drop half nodes p None)
    ∙ (ap (λ k. has_come now (node nodes k)) (omega (arith, first.from)) ∙ first.come)) in
    let there : nat_lt (position_or_len (has_come now) (drop half nodes)) (length (drop half nodes)) ≡ true =
    lt-ltb (position_or_len (has_come now) (drop half nodes)) (length (drop half nodes)) (omega (arith, is, many, inside)) in
    ap (λ b. cond b (Some (position_or_len (has_come now) (drop half nodes))) None) there ∙ ap Some is

-- while the uppermost node's moment lies ahead, none has come
all_ahead : (now half : ℕ) (nodes : List (Option ℕ)) → length nodes ≡ 2 * half → IsTree nodes → has_come now (node nodes 1) ≡ false
    → (fuel j : ℕ) → j ≤ fuel → 0 < j → j < length nodes → has_come now (node nodes j) ≡ false
all_ahead now half nodes wide tree ahead zero j within some inside = absurd (omega (arith, within, some))
all_ahead now half nodes wide tree ahead (suc fuel) j within some inside =
    by (eqb_tells j 1) (λ k. all_ahead now half nodes wide tree ahead fuel k)
  where
    odd : (j ≡ 2 * (j / 2)) ⊎ (j ≡ 2 * (j / 2) + 1) → 2 * (j / 2) + 1 < length nodes
    odd (inl e) = omega (arith, e, inside, wide)
    odd (inr e) = omega (arith, e, inside)

    up : 0 < j / 2 → has_come now (node nodes (j / 2)) ≡ false → (j ≡ 2 * (j / 2)) ⊎ (j ≡ 2 * (j / 2) + 1)
        → has_come now (node nodes j) ≡ false
    up high gone (inl e) =
        ap (λ k. has_come now (node nodes k)) e
        ∙ (parts_ahead now nodes (j / 2) (tree (j / 2) high (odd (inl e)) (λ z. omega (arith, z, high))) gone).0
    up high gone (inr e) =
        ap (λ k. has_come now (node nodes k)) e
        ∙ (parts_ahead now nodes (j / 2) (tree (j / 2) high (odd (inr e)) (λ z. omega (arith, z, high))) gone).1

    by : ((nat_eq j 1 ≡ true) × (j ≡ 1)) ⊎ ((nat_eq j 1 ≡ false) × (j ≢ 1))
        → ((k : ℕ) → k ≤ fuel → 0 < k → k < length nodes → has_come now (node nodes k) ≡ false)
        → has_come now (node nodes j) ≡ false
    by (inl same) below = ap (λ k. has_come now (node nodes k)) same.1 ∙ ahead
    by (inr apart) below =
        let high : 0 < j / 2 = omega (arith, some, apart.1) in
        up high (below (j / 2) (omega (arith, within, some)) high (omega (arith, inside, some))) (half_of j)

pub no_place : (now : ℕ) (nodes : List (Option ℕ)) (half : ℕ) → length nodes ≡ 2 * half → 0 < half → IsTree nodes
    → has_come now (node nodes 1) ≡ false → position (has_come now) (drop half nodes) ≡ None
no_place now nodes half wide some tree ahead =
    let many : length (drop half nodes) ≡ half = omega (arith, length-drop half nodes, wide) in
    let is : position_or_len (has_come now) (drop half nodes) ≡ half =
    position_or_len_is (has_come now) (drop half nodes) half None (omega (arith, many))
    (λ k low. ap (has_come now) (get_or-drop half nodes k None)
    ∙ all_ahead now half nodes wide tree ahead (half + k) (half + k) (omega arith) (omega (arith, some)) (omega (arith, low, wide)))
    (λ low. absurd (omega (arith, low, many))) in
    let there : nat_lt (position_or_len (has_come now) (drop half nodes)) (length (drop half nodes)) ≡ false =
    le-ltb (position_or_len (has_come now) (drop half nodes)) (length (drop half nodes)) (omega (arith, is, many)) in
    ap (λ b. cond b (Some (position_or_len (has_come now) (drop half nodes))) None) there

-- the levels of the tree
pub next_level : (k : ℕ) → 2 ^ (k + 1) ≡ 2 * 2 ^ k
next_level k = rw add-one (pow-suc 2 k ∙ omega arith)

pub level_within : (k n : ℕ) → k < n → 2 * 2 ^ k ≤ 2 ^ n
level_within k n low =
    let more : 2 ^ (k + 1) ≤ 2 ^ n = pow_mono (omega (arith, low)) in
    omega (arith, more, next_level k)

-- new places have no moments
pub new_places : (half many n : ℕ) (before nodes : List (Option ℕ)) → before ≡ []
    → nodes ≡ take many before ++ replicate n None → n ≡ 2 * half → drop half nodes ≡ replicate half None
new_places half many n before nodes none is twice =
    let all : nodes ≡ replicate n None = is ∙ (ap (λ l. take many l ++ replicate n None) none ∙ ap (λ l. l ++ replicate n None) (empty many)) in
    ap (drop half) all ∙ (drop-replicate half n None ∙ ap (λ m. replicate m None) (omega (arith, twice)))
  where
    empty : (m : ℕ) → ◌≡◌ {A = List (Option ℕ)} (take m []) []
    empty zero = refl
    empty (suc m) = refl

-- a place is set, and the nodes above it are mended
pub set_place : (nodes more : List (Option ℕ)) (half at place : ℕ) (m : Option ℕ) → length nodes ≡ 2 * half → at ≡ half + place
    → drop half more ≡ drop half (set nodes at m) → drop half more ≡ set (drop half nodes) place m
set_place nodes more half at place m wide is same =
    same ∙ (ap (λ k. drop half (set nodes k m)) is ∙ drop-set-add half nodes place m)

-- what a vector has after its elements were written
pub refilled : (len : ℕ) (more old : List (Option ℕ)) → length more ≡ len → take len (more ++ drop (length more) old) ≡ more
refilled len more old same = ap (λ n. take n (more ++ drop (length more) old)) (sym same) ∙ take-append_seam more (drop (length more) old)

-- Names that are kept apart from their accounts, in the same order.
use Rattle.std.proofs.Common.{◌≡◌, ℕ, suc, ◌+◌, ◌<◌, ◌≤◌, nat_lt, List, [], ◌∷◌, ◌++◌, length, map, Bool, true, false, not, ◌&&◌, ◌||◌, cond}
use Rattle.std.proofs.Common.{bytes_eq, Option, Some, None, IfSome, is_some, get_or, option_map, refl, sym, ap, subst, ◌∙◌, arith}
use Rattle.std.proofs.lemmas.Bool.{cond-false, ltb-true, ltb-false}
use Rattle.std.proofs.lemmas.Option.{cond_some, slice_get_past, slice_get_read}
use Rattle.std.proofs.lemmas.Slice.Eq.{bytes_eq-Decides}
use Rattle.std.proofs.lemmas.List.{map-append, length-map, length-append}
use Rattle.std.proofs.lemmas.List.Folds.{list_all-append}
use Rattle.std.specs.List.{list_any, list_all, position, position_or_len, slice_get}
use Rattle.jid_core.specs.Names.{are_distinct}
use Rattle.jid_core.specs.Preparation.{is_local}
use Rattle.jid_core.proofs.NameLemmas.{distinct-more}
use Rattle.account_book.specs.declared.account.Account.{Account}
use Rattle.account_book.specs.Entries.{entry_of}
use Rattle.account_book.specs.Lines.{has_name}
use Rattle.account_book.specs.Lists.{names_of, named}

some-same : {X : Type 0} (x y : X) → Some x ≡ Some y → x ≡ y
some-same x y h = cc

heads : {X : Type 0} (x y : X) (xs ys : List X) → x ∷ xs ≡ y ∷ ys → x ≡ y
heads x y xs ys h = cc

tails : {X : Type 0} (x y : X) (xs ys : List X) → x ∷ xs ≡ y ∷ ys → xs ≡ ys
tails x y xs ys h = cc

-- a name is among the names where it is an account's
pub names-have : {K : Type 0} (f : K → List ℕ) (name : List ℕ) (ks : List K) (accounts : List Account) → map f ks ≡ map (λ a. a.name) accounts
    → list_any (λ k. bytes_eq name (f k)) ks ≡ has_name (map entry_of accounts) name
names-have f name [] [] h = refl
names-have f name [] (a ∷ more) h = absurd (cc)
names-have f name (k ∷ ks) [] h = absurd (cc)
names-have f name (k ∷ ks) (a ∷ more) h =
    ap (λ n. bytes_eq name n || list_any (λ x. bytes_eq name (f x)) ks) (heads (f k) a.name (map f ks) (map (λ a. a.name) more) h)
    ∙ ap (λ b. bytes_eq name a.name || b) (names-have f name ks more (tails (f k) a.name (map f ks) (map (λ a. a.name) more) h))

same-count : {K : Type 0} (f : K → List ℕ) (ks : List K) (accounts : List Account) → map f ks ≡ map (λ a. a.name) accounts → length ks ≡ length accounts
same-count f ks accounts h = sym (length-map ks f) ∙ ap length h ∙ length-map accounts (λ a. a.name)

one_more : (r : ℕ) → 1 + r ≡ suc r
one_more r = omega arith

get-first : (a : Account) (more : List Account) (b : Bool) (r : ℕ) → slice_get (a ∷ more) (cond (not b) (1 + r) 0) ≡ cond b (Some a) (slice_get more r)
get-first a more true r = refl
get-first a more false r = ap (λ (i : ℕ). slice_get (a ∷ more) i) (one_more r)

-- the account at the place of a name is the name's
named-at : {K : Type 0} (f : K → List ℕ) (name : List ℕ) (ks : List K) (accounts : List Account) → map f ks ≡ map (λ a. a.name) accounts
    → slice_get accounts (position_or_len (λ k. bytes_eq name (f k)) ks) ≡ named name accounts
named-at f name [] [] h = refl
named-at f name [] (a ∷ more) h = absurd (cc)
named-at f name (k ∷ ks) [] h = absurd (cc)
named-at f name (k ∷ ks) (a ∷ more) h =
    get-first a more (bytes_eq name (f k)) (position_or_len (λ x. bytes_eq name (f x)) ks)
    ∙ ap (λ o. cond (bytes_eq name (f k)) (Some a) o) (named-at f name ks more (tails (f k) a.name (map f ks) (map (λ a. a.name) more) h))
    ∙ ap (λ n. cond (bytes_eq name n) (Some a) (named name more)) (heads (f k) a.name (map f ks) (map (λ a. a.name) more) h)

pub name-found : {K : Type 0} (f : K → List ℕ) (name : List ℕ) (ks : List K) (accounts : List Account) (i : ℕ) → map f ks ≡ map (λ a. a.name) accounts
    → position (λ k. bytes_eq name (f k)) ks ≡ Some i → slice_get accounts i ≡ named name accounts
name-found f name ks accounts i h found =
    let is = cond_some (nat_lt (position_or_len (λ k. bytes_eq name (f k)) ks) (length ks)) (position_or_len (λ k. bytes_eq name (f k)) ks) i found in
    ap (λ j. slice_get accounts j) (sym is.1) ∙ named-at f name ks accounts h

past : (n m : ℕ) (b : Bool) → nat_lt n m ≡ b → cond b (Some n) None ≡ None → m ≤ n
past n m true e none = absurd (cc)
past n m false e none = ltb-false n m e

pub name-missing : {K : Type 0} (f : K → List ℕ) (name : List ℕ) (ks : List K) (accounts : List Account) → map f ks ≡ map (λ a. a.name) accounts
    → position (λ k. bytes_eq name (f k)) ks ≡ None → named name accounts ≡ None
name-missing f name ks accounts h none =
    let at = position_or_len (λ k. bytes_eq name (f k)) ks in
    let far : length ks ≤ at = past at (length ks) (nat_lt at (length ks)) refl none in
    sym (named-at f name ks accounts h) ∙ slice_get_past accounts at (subst (λ (n : ℕ). n ≤ at) (same-count f ks accounts h) far)

-- what `get` answers
pub got : {B : Type 0} (now : B → Account) (r : Option B) (accounts : List Account) (i : ℕ) → is_some r ≡ nat_lt i (length accounts)
    → IfSome r (λ x. now x ≡ get_or accounts i (now x)) → option_map now r ≡ slice_get accounts i
got now (Some x) accounts i some at = sym (slice_get_read accounts (length accounts) i (now x) refl (ltb-true i (length accounts) (sym some)) at)
got now None accounts i some at = sym (slice_get_past accounts i (ltb-false i (length accounts) (sym some)))

-- one name more for one account more: it was not there
pub names-joined : {K : Type 0} (f : K → List ℕ) (k : K) (ks : List K) (a : Account) (accounts : List Account) → map f ks ≡ map (λ a. a.name) accounts
    → f k ≡ a.name
    → map f (ks ++ k ∷ []) ≡ map (λ a. a.name) (accounts ++ a ∷ [])
names-joined f k ks a accounts h is =
    map-append f ks (k ∷ []) ∙ ap (λ ns. ns ++ f k ∷ []) h ∙ ap (λ n. map (λ a. a.name) accounts ++ n ∷ []) is
    ∙ sym (map-append (λ a. a.name) accounts (a ∷ []))

pub name-added : {K : Type 0} (f : K → List ℕ) (k : K) (ks new : List K) (name : List ℕ) (accounts : List Account) → map f ks ≡ map (λ a. a.name) accounts
    → f k ≡ name
    → has_name (map entry_of accounts) name ≡ false → new ≡ cond (list_any (λ x. bytes_eq (f k) (f x)) ks) ks (ks ++ k ∷ []) → new ≡ ks ++ k ∷ []
name-added f k ks new name accounts h is fresh made =
    made ∙ cond-false (list_any (λ x. bytes_eq (f k) (f x)) ks) ks (ks ++ k ∷ []) (ap (λ n. list_any (λ x. bytes_eq n (f x)) ks) is
    ∙ names-have f name ks accounts h ∙ fresh)

pub all-local : (accounts : List Account) (a : Account) → list_all is_local (names_of accounts) ≡ true → is_local a.name ≡ true
    → list_all is_local (names_of (accounts ++ a ∷ [])) ≡ true
all-local accounts a h is =
    ap (list_all is_local) (map-append (λ x. x.name) accounts (a ∷ [])) ∙ list_all-append is_local (names_of accounts) (a.name ∷ [])
    ∙ ap (λ b. b && (is_local a.name && true)) h ∙ ap (λ b. b && true) is

name-among : (name : List ℕ) (accounts : List Account) → list_any (bytes_eq name) (names_of accounts) ≡ has_name (map entry_of accounts) name
name-among name [] = refl
name-among name (a ∷ more) = ap (λ b. bytes_eq name a.name || b) (name-among name more)

pub all-differ : (accounts : List Account) (a : Account) → are_distinct (names_of accounts) ≡ true → has_name (map entry_of accounts) a.name ≡ false
    → are_distinct (names_of (accounts ++ a ∷ [])) ≡ true
all-differ accounts a h fresh =
    ap are_distinct (map-append (λ x. x.name) accounts (a ∷ []))
    ∙ distinct-more a.name (names_of accounts) h (name-among a.name accounts ∙ fresh)

pub one-more : (accounts : List Account) (a : Account) (new : List Account) → new ≡ accounts ++ a ∷ [] → length accounts < 65536 → length new ≤ 65536
one-more accounts a new is few = let l = ap length is ∙ length-append accounts (a ∷ []) in omega (arith, l, few)

-- the account of a name has that name
pub named-own : {B : Type 0} (now : B → Account) (r : Option B) (name : List ℕ) (accounts : List Account) → option_map now r ≡ named name accounts
    → IfSome r (λ x. (now x).name ≡ name)
named-own now None name accounts h = tt
named-own now (Some x) name accounts h = own accounts (sym h)
  where
    own : (all : List Account) → named name all ≡ Some (now x) → (now x).name ≡ name
    own [] g = absurd (cc)
    own (a ∷ more) g = here (bytes_eq name a.name) refl g (own more)
      where
        here : (b : Bool) → bytes_eq name a.name ≡ b → cond b (Some a) (named name more) ≡ Some (now x) → (named name more ≡ Some (now x) → (now x).name ≡ name)
            → (now x).name ≡ name
        here true e g rest = let same = some-same a (now x) g in ap (λ y. y.name) (sym same) ∙ sym ((bytes_eq-Decides name a.name).0 e)
        here false e g rest = rest g

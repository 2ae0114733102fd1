-- A message finds no session twice, and finds those that it is for.
use Rattle.std.proofs.Common.{◌≡◌, inl, inr, ℕ, zero, suc, ◌<◌, ◌≤◌, List, [], ◌∷◌, ◌++◌, map, Option, Some, None, Bool, true, false, not, ◌==◌, ◌||◌, ◌&&◌}
use Rattle.std.proofs.Common.{refl, sym, ap, ◌∙◌, subst, append-nil, true≢false, if◌then◌else◌, arith}
use Rattle.std.specs.List.{filter}
use Rattle.std.proofs.lemmas.Bool.{cases_lt, eqb-true, eq-eqb, ne_eqb}
use Rattle.std.specs.Prelude.{⊤}
use Rattle.jid_core.specs.Addresses.{same_part}
use Rattle.stanza_tree.specs.declared.frame.Entry.{Entry}
use Rattle.stanza_model.specs.declared.here.Here.{Here}
use Rattle.stanza_model.specs.declared.kinds.MessageForm.{MessageForm}
use Rattle.stanza_model.specs.declared.kinds.MessageForm.TheVariants.{Chat, Normal, Headline, Groupchat, Error}
use Rattle.stanza_router.specs.Messages.{is_reached, of_user, else_of_user, at_address, receivers_of}
use Rattle.stanza_router.specs.declared.places.Place.{Place}
use Rattle.stanza_router.specs.declared.places.Place.TheVariants.{Account, Server, User, UserAt, Service, Room, RoomAt, Foreign}
use Rattle.house_model.specs.Numbered.{all_passing}
use Rattle.house_model.specs.Lookups.{here, is_of, numbers_of, sessions_of}
use Rattle.house_model.specs.Routing.{choosable, chosen, receivers}
use Rattle.house_model.specs.States.{World}
use Rattle.house_model.specs.Traffic.{KeptTraffic}
use Rattle.house_model.specs.Deliveries.{is_among}

-- tests

or_right : (a b : Bool) → b ≡ true → (a || b) ≡ true
or_right true b is = refl
or_right false b is = is

none_left : (a b : Bool) → (a || b) ≡ false → a ≡ false
none_left true b is = is
none_left false b is = refl

none_right : (a b : Bool) → (a || b) ≡ false → b ≡ false
none_right true b is = absurd (true≢false is)
none_right false b is = is

neither : (a b : Bool) → a ≡ false → b ≡ false → (a || b) ≡ false
neither true b a_is b_is = absurd (true≢false a_is)
neither false b a_is b_is = b_is

-- numbers that rise

abbrev pub is_in : ℕ → List ℕ → Bool
is_in r [] = false
is_in r (k ∷ ks) = (r == k) || is_in r ks

abbrev pub IsOnceIn : ℕ → List ℕ → Type 0
IsOnceIn r [] = ⊤
IsOnceIn r (k ∷ ks) = ((r == k) ≡ true → is_in r ks ≡ false) × IsOnceIn r ks

in_none : (r : ℕ) (xs ys : List ℕ) → is_in r xs ≡ false → is_in r ys ≡ false → is_in r (xs ++ ys) ≡ false
in_none r [] ys a b = b
in_none r (k ∷ ks) ys a b = neither (r == k) (is_in r (ks ++ ys)) (none_left (r == k) (is_in r ks) a) (in_none r ks ys (none_right (r == k) (is_in r ks) a) b)

first_by : (b x y : Bool) → (x ≡ true → y ≡ true) → (b || x) ≡ true → (b || y) ≡ true
first_by true x y later is = refl
first_by false x y later is = later is

in_first : (r : ℕ) (xs ys : List ℕ) → is_in r xs ≡ true → is_in r (xs ++ ys) ≡ true
in_first r [] ys is = absurd (true≢false (sym is))
in_first r (k ∷ ks) ys is = first_by (r == k) (is_in r ks) (is_in r (ks ++ ys)) (in_first r ks ys) is

in_rest : (r : ℕ) (xs ys : List ℕ) → is_in r ys ≡ true → is_in r (xs ++ ys) ≡ true
in_rest r [] ys is = is
in_rest r (k ∷ ks) ys is = or_right (r == k) (is_in r (ks ++ ys)) (in_rest r ks ys is)

-- what is added last, and wasn't there
once_last : (r : ℕ) (xs : List ℕ) (k : ℕ) → IsOnceIn r xs → ((r == k) ≡ true → is_in r xs ≡ false) → IsOnceIn r (xs ++ k ∷ [])
once_last r [] k once new = (λ _. refl, tt)
once_last r (x ∷ xs) k once new = (
  λ same. in_none r xs (k ∷ []) (once.0 same) (other (r == k) refl same),
  once_last r xs k once.1 (λ is. none_right (r == x) (is_in r xs) (new is)),
)
  where
    other : (b : Bool) → (r == k) ≡ b → (r == x) ≡ true → (b || false) ≡ false
    other true at same = absurd (true≢false (sym same ∙ none_left (r == x) (is_in r xs) (new at)))
    other false at same = refl

passing_below : (r n : ℕ) (test : ℕ → Bool) → n < r → is_in r (all_passing n test) ≡ false
passing_below r zero test low = refl
passing_below r (suc n) test low =
    in_none r (all_passing n test) (if test (suc n) then suc n ∷ [] else []) (passing_below r n test (omega (arith, low))) (last (test (suc n)))
  where
    last : (b : Bool) → is_in r (if b then suc n ∷ [] else []) ≡ false
    last true = neither (r == suc n) false (ne_eqb r (suc n) (λ e. omega (arith, low, e))) refl
    last false = refl

once_if : (b : Bool) (r k : ℕ) (xs : List ℕ) → IsOnceIn r xs → ((r == k) ≡ true → is_in r xs ≡ false) → IsOnceIn r (xs ++ (if b then k ∷ [] else []))
once_if true r k xs once new = once_last r xs k once new
once_if false r k xs once new = subst (IsOnceIn r) (sym (append-nil xs)) once

once_passing : (r n : ℕ) (test : ℕ → Bool) → IsOnceIn r (all_passing n test)
once_passing r zero test = tt
once_passing r (suc n) test =
    once_if (test (suc n)) r (suc n) (all_passing n test) (once_passing r n test)
    (λ at. passing_below r n test (let same : r ≡ suc n = eqb-true r (suc n) at in omega (arith, same)))

abbrev last_of : (ℕ → Bool) → ℕ → List ℕ
last_of test k = if test k then k ∷ [] else []

last_in : (b : Bool) (r : ℕ) → b ≡ true → is_in r (if b then r ∷ [] else []) ≡ true
last_in true r at = ap (λ (c : Bool). c || false) (eq-eqb r r refl)
last_in false r at = absurd (true≢false (sym at))

in_by : (b : Bool) (r n : ℕ) (test : ℕ → Bool) (xs : List ℕ) → (r == suc n) ≡ b → test r ≡ true → r ≤ suc n → (r ≤ n → is_in r xs ≡ true)
    → is_in r (xs ++ last_of test (suc n)) ≡ true
in_by true r n test xs at is low before =
    in_rest r xs (last_of test (suc n)) (subst (λ (k : ℕ). is_in r (last_of test k) ≡ true) (eqb-true r (suc n) at) (last_in (test r) r is))
in_by false r n test xs at is low before = in_first r xs (last_of test (suc n)) (before (elim (cases_lt n r) [
  | inl up ↦ absurd (true≢false (sym (eq-eqb r (suc n) (omega (arith, up, low))) ∙ at))
  | inr few ↦ few
]))

pub passing_in : (r n : ℕ) (test : ℕ → Bool) → test r ≡ true → 0 < r → r ≤ n → is_in r (all_passing n test) ≡ true
passing_in r zero test is above low = absurd (omega (arith, above, low))
passing_in r (suc n) test is above low =
    in_by (r == suc n) r n test (all_passing n test) refl is low (λ few. passing_in r n test is above few)

-- sessions

abbrev pub IsOnce : ℕ → List Here → Type 0
IsOnce r [] = ⊤
IsOnce r (h ∷ hs) = ((r == h.session) ≡ true → is_among r hs ≡ false) × IsOnce r hs

seen_among : (world : World KeptTraffic) (r : ℕ) (ks : List ℕ) → is_among r (map (here world) ks) ≡ is_in r ks
seen_among world r [] = refl
seen_among world r (k ∷ ks) = ap (λ (b : Bool). (r == k) || b) (seen_among world r ks)

seen_once : (world : World KeptTraffic) (r : ℕ) (ks : List ℕ) → IsOnceIn r ks → IsOnce r (map (here world) ks)
seen_once world r [] once = tt
seen_once world r (k ∷ ks) once = (λ at. seen_among world r ks ∙ once.0 at, seen_once world r ks once.1)

none_by : (b : Bool) (r : ℕ) (h : Here) (hs : List Here) → (r == h.session) ≡ false → is_among r hs ≡ false → is_among r (if b then h ∷ hs else hs) ≡ false
none_by true r h hs first rest = neither (r == h.session) (is_among r hs) first rest
none_by false r h hs first rest = rest

filter_none : (r : ℕ) (p : Here → Bool) (hs : List Here) → is_among r hs ≡ false → is_among r (filter p hs) ≡ false
filter_none r p [] none = refl
filter_none r p (h ∷ hs) none =
    none_by (p h) r h (filter p hs) (none_left (r == h.session) (is_among r hs) none)
    (filter_none r p hs (none_right (r == h.session) (is_among r hs) none))

once_by : (b : Bool) (r : ℕ) (h : Here) (hs : List Here) → ((r == h.session) ≡ true → is_among r hs ≡ false) → IsOnce r hs → IsOnce r (if b then h ∷ hs else hs)
once_by true r h hs first rest = (first, rest)
once_by false r h hs first rest = rest

filter_once : (r : ℕ) (p : Here → Bool) (hs : List Here) → IsOnce r hs → IsOnce r (filter p hs)
filter_once r p [] once = tt
filter_once r p (h ∷ hs) once = once_by (p h) r h (filter p hs) (λ at. filter_none r p hs (once.0 at)) (filter_once r p hs once.1)

-- one that passes is kept, and one that was kept stays
kept_by : (b : Bool) (r : ℕ) (h : Here) (hs : List Here) → b ≡ true → (r == h.session) ≡ true → is_among r (if b then h ∷ hs else hs) ≡ true
kept_by true r h hs passes same = ap (λ (c : Bool). c || is_among r hs) same
kept_by false r h hs passes same = absurd (true≢false (sym passes))

later_by : (b : Bool) (r : ℕ) (h : Here) (hs : List Here) → is_among r hs ≡ true → is_among r (if b then h ∷ hs else hs) ≡ true
later_by true r h hs at = or_right (r == h.session) (is_among r hs) at
later_by false r h hs at = at

among_by : (same : Bool) (world : World KeptTraffic) (r k : ℕ) (p : Here → Bool) (hs : List Here) (there : Bool) → (r == k) ≡ same → p (here world r) ≡ true
    → (same || there) ≡ true → (there ≡ true → is_among r hs ≡ true) → is_among r (if p (here world k) then here world k ∷ hs else hs) ≡ true
among_by true world r k p hs there at passes is rest =
    kept_by (p (here world k)) r (here world k) hs (ap (λ (j : ℕ). p (here world j)) (sym (eqb-true r k at)) ∙ passes) at
among_by false world r k p hs there at passes is rest = later_by (p (here world k)) r (here world k) hs (rest is)

filter_among : (world : World KeptTraffic) (r : ℕ) (p : Here → Bool) (ks : List ℕ) → p (here world r) ≡ true → is_in r ks ≡ true
    → is_among r (filter p (map (here world) ks)) ≡ true
filter_among world r p [] passes is = absurd (true≢false (sym is))
filter_among world r p (k ∷ ks) passes is =
    among_by (r == k) world r k p (filter p (map (here world) ks)) (is_in r ks) refl passes is (filter_among world r p ks passes)

-- whom a message finds

sessions_once : (world : World KeptTraffic) (r : ℕ) (user : List ℕ) → IsOnce r (sessions_of world user)
sessions_once world r user = seen_once world r (numbers_of world user) (once_passing r world.made (λ s. is_of user (world.sessions s)))

user_once : (r : ℕ) (form : MessageForm) (hs : List Here) → IsOnce r hs → IsOnce r (of_user form hs)
user_once r Chat hs once = filter_once r is_reached hs once
user_once r Normal hs once = filter_once r is_reached hs once
user_once r Headline hs once = filter_once r is_reached hs once
user_once r Groupchat hs once = tt
user_once r Error hs once = tt

else_once : (r : ℕ) (form : MessageForm) (hs at : List Here) → IsOnce r hs → IsOnce r at → IsOnce r (else_of_user form hs at)
else_once r form hs (h ∷ more) once some = some
else_once r Chat hs [] once some = user_once r Chat hs once
else_once r Normal hs [] once some = tt
else_once r Headline hs [] once some = tt
else_once r Groupchat hs [] once some = tt
else_once r Error hs [] once some = tt

of_once : (r : ℕ) (form : MessageForm) (place : Place) (hs : List Here) → IsOnce r hs → IsOnce r (receivers_of form place hs)
of_once r form Account hs once = user_once r form hs once
of_once r form (User user) hs once = user_once r form hs once
of_once r form (UserAt user resource) hs once =
    else_once r form hs (at_address resource hs) once (filter_once r (λ h. same_part h.address.resource (Some resource)) hs once)
of_once r form Server hs once = tt
of_once r form Service hs once = tt
of_once r form (Room room) hs once = tt
of_once r form (RoomAt room nick) hs once = tt
of_once r form Foreign hs once = tt

choosable_once : (r : ℕ) (place : Place) (hs : List Here) → IsOnce r hs → IsOnce r (choosable place hs)
choosable_once r (UserAt user resource) hs once = filter_once r (λ h. not (same_part h.address.resource (Some resource))) hs once
choosable_once r Account hs once = once
choosable_once r (User user) hs once = once
choosable_once r Server hs once = once
choosable_once r Service hs once = once
choosable_once r (Room room) hs once = once
choosable_once r (RoomAt room nick) hs once = once
choosable_once r Foreign hs once = once

chosen_once : (world : World KeptTraffic) (r : ℕ) (form : MessageForm) (place : Place) (user : Option (List ℕ)) → IsOnce r (chosen world form place user)
chosen_once world r form place None = tt
chosen_once world r form place (Some user) =
    of_once r form place (choosable place (sessions_of world user)) (choosable_once r place (sessions_of world user) (sessions_once world r user))

receivers_once : (world : World KeptTraffic) (r : ℕ) (form : MessageForm) (place : Place) (user : Option (List ℕ)) (live : Option ℕ)
    → IsOnce r (receivers world form place user live)
receivers_once world r form place user (Some s) = (λ at. refl, tt)
receivers_once world r form place user None = chosen_once world r form place user

-- a copy for each that is found

abbrev pub copies_in : ℕ → Entry → List Here → List Entry
copies_in r x [] = []
copies_in r x (h ∷ hs) = (if r == h.session then x ∷ [] else []) ++ copies_in r x hs

copied_by : (b a : Bool) (x : Entry) (rest : List Entry) → (b ≡ true → a ≡ false) → rest ≡ (if a then x ∷ [] else [])
    → ((if b then x ∷ [] else []) ++ rest) ≡ (if b || a then x ∷ [] else [])
copied_by true a x rest none is = ap (λ (l : List Entry). x ∷ l) (is ∙ ap (λ (c : Bool). if c then x ∷ [] else []) (none refl))
copied_by false a x rest none is = is

copies_once : (r : ℕ) (x : Entry) (hs : List Here) → IsOnce r hs → copies_in r x hs ≡ (if is_among r hs then x ∷ [] else [])
copies_once r x [] once = refl
copies_once r x (h ∷ hs) once = copied_by (r == h.session) (is_among r hs) x (copies_in r x hs) once.0 (copies_once r x hs once.1)

pub receivers_copied : (world : World KeptTraffic) (r : ℕ) (x : Entry) (form : MessageForm) (place : Place) (user : Option (List ℕ)) (live : Option ℕ)
    → copies_in r x (receivers world form place user live) ≡ (if is_among r (receivers world form place user live) then x ∷ [] else [])
receivers_copied world r x form place user live = copies_once r x (receivers world form place user live) (receivers_once world r form place user live)

-- a session of the user that passes a test is among those that pass it
pub passing_among : (world : World KeptTraffic) (r : ℕ) (user : List ℕ) (p : Here → Bool) → is_of user (world.sessions r) ≡ true → p (here world r) ≡ true
    → 0 < r → r ≤ world.made → is_among r (filter p (sessions_of world user)) ≡ true
passing_among world r user p is passes above made =
    filter_among world r p (numbers_of world user) passes (passing_in r world.made (λ s. is_of user (world.sessions s)) is above made)

-- two tests, one after another

both_by : (b : Bool) (p : Here → Bool) (h : Here) (hs rest : List Here) → filter p hs ≡ rest
    → filter p (if b then h ∷ hs else hs) ≡ (if b && p h then h ∷ rest else rest)
both_by true p h hs rest is = ap (λ (l : List Here). if p h then h ∷ l else l) is
both_by false p h hs rest is = is

pub filter_both : (p q : Here → Bool) (hs : List Here) → filter p (filter q hs) ≡ filter (λ h. q h && p h) hs
filter_both p q [] = refl
filter_both p q (h ∷ hs) = both_by (q h) p h (filter q hs) (filter (λ h. q h && p h) hs) (filter_both p q hs)

never_by : (b : Bool) (p : Here → Bool) (h : Here) (hs : List Here) → p h ≡ b → filter p hs ≡ [] → filter p (if not b then h ∷ hs else hs) ≡ []
never_by true p h hs is none = none
never_by false p h hs is none = ap (λ (c : Bool). if c then h ∷ filter p hs else filter p hs) is ∙ none

pub filter_never : (p : Here → Bool) (hs : List Here) → filter p (filter (λ h. not (p h)) hs) ≡ []
filter_never p [] = refl
filter_never p (h ∷ hs) = never_by (p h) p h (filter (λ h. not (p h)) hs) refl (filter_never p hs)

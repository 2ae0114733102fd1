-- The sessions that the rules on stanzas find.
use Rattle.std.proofs.Common.{◌≡◌, ℕ, zero, suc, ◌<◌, ◌≤◌, List, [], ◌∷◌, ◌++◌, map, flat_map, Option, Some}
use Rattle.std.proofs.Common.{None, Bool, true, false, not, if◌then◌else◌, refl, arith}
use Rattle.std.specs.List.{AllByRecursion, filter, list_any}
use Rattle.jid_core.specs.Addresses.{Address, same_address, same_part}
use Rattle.stanza_model.specs.declared.here.Here.{Here}
use Rattle.stanza_model.specs.declared.kinds.MessageForm.{MessageForm}
use Rattle.stanza_model.specs.declared.kinds.MessageForm.TheVariants.{Chat, Normal, Headline, Groupchat, Error}
use Rattle.stanza_router.specs.Messages.{is_reached, of_user, else_of_user, at_address, receivers_of}
use Rattle.stanza_router.specs.declared.places.Place.{Place}
use Rattle.stanza_router.specs.declared.places.Place.TheVariants.{Account, Server, User, UserAt, Service, Room, RoomAt, Foreign}
use Rattle.contact_table.specs.Books.{who_sees, whom_sees}
use Rattle.house_model.specs.Numbered.{least, or_here, all_passing}
use Rattle.house_model.specs.Lookups.{is_there, is_at, goes_on, is_of, here, numbers_there, session_in, sessions_of, if_it_goes_on, live_at, numbers_of}
use Rattle.house_model.specs.Presences.{available_of, in_sight, is_another, is_told, named, names, watchers}
use Rattle.house_model.specs.Routing.{live_for, choosable, chosen, receivers}
use Rattle.house_model.specs.States.{World}
use Rattle.house_model.specs.Traffic.{KeptTraffic}
use Rattle.house_model.proofs.Partings.{least_passes}
use Rattle.house_model.proofs.Resumes.{and_left}

-- a session that is found: it was made, and is there
pub record IsFound (world : World KeptTraffic) (s : ℕ) : Type 0 where
  pub above : 0 < s
  pub made : s ≤ world.made
  pub there : is_there (world.sessions s) ≡ true

-- one that is found, as the rules on stanzas see it
pub record IsHere (world : World KeptTraffic) (h : Here) : Type 0 where
  pub found : IsFound world h.session
  pub seen : h ≡ here world h.session

abbrev pub AreFound : World KeptTraffic → List Here → Type 0
AreFound world hs = AllByRecursion (IsHere world) hs

-- Lists.
pub append_all : {X : Type 0} (P : X → Type 0) (xs ys : List X) → AllByRecursion P xs → AllByRecursion P ys
    → AllByRecursion P (xs ++ ys)
append_all P [] ys a b = b
append_all P (x ∷ xs) ys a b = (a.0, append_all P xs ys a.1 b)

pub either_all : {X : Type 0} (P : X → Type 0) (b : Bool) (xs ys : List X) → AllByRecursion P xs → AllByRecursion P ys
    → AllByRecursion P (if b then xs else ys)
either_all P true xs ys a b = a
either_all P false xs ys a b = b

pub filter_all : {X : Type 0} (P : X → Type 0) (p : X → Bool) (xs : List X) → AllByRecursion P xs → AllByRecursion P (filter p xs)
filter_all P p [] all = tt
filter_all P p (x ∷ xs) all =
    either_all P (p x) (x ∷ filter p xs) (filter p xs) (all.0, filter_all P p xs all.1) (filter_all P p xs all.1)

pub every : {X : Type 0} (P : X → Type 0) → ((x : X) → P x) → (xs : List X) → AllByRecursion P xs
every P each [] = tt
every P each (x ∷ xs) = (each x, every P each xs)

-- Which sessions are found.
one_passing : (world : World KeptTraffic) (b : Bool) (n : ℕ) → (b ≡ true → is_there (world.sessions (suc n)) ≡ true)
    → suc n ≤ world.made → AllByRecursion (IsFound world) (if b then suc n ∷ [] else [])
one_passing world true n there made = (record { above = omega arith; made = made; there = there refl }, tt)
one_passing world false n there made = tt

passing_found : (world : World KeptTraffic) (n : ℕ) (test : ℕ → Bool)
    → ((s : ℕ) → test s ≡ true → is_there (world.sessions s) ≡ true) → n ≤ world.made
    → AllByRecursion (IsFound world) (all_passing n test)
passing_found world zero test there made = tt
passing_found world (suc n) test there made =
    append_all (IsFound world) (all_passing n test) (if test (suc n) then suc n ∷ [] else [])
    (passing_found world n test there (omega (arith, made))) (one_passing world (test (suc n)) n (there (suc n)) made)

here_found : (world : World KeptTraffic) (ns : List ℕ) → AllByRecursion (IsFound world) ns
    → AreFound world (map (here world) ns)
here_found world [] all = tt
here_found world (n ∷ ns) all = (record { found = all.0; seen = refl }, here_found world ns all.1)

pub numbers_found : (world : World KeptTraffic) (user : List ℕ) → AreFound world (sessions_of world user)
numbers_found world user =
    here_found world (numbers_of world user)
    (passing_found world world.made (λ s. is_of user (world.sessions s))
    (λ s is. and_left (is_there (world.sessions s)) _ is) (omega arith))

-- the least number lies between 1 and the greatest
or_here_among : (o : Option ℕ) (b : Bool) (n s : ℕ) → (o ≡ Some s → (0 < s) × (s ≤ n)) → or_here o b (suc n) ≡ Some s
    → (0 < s) × (s ≤ suc n)
or_here_among (Some x) b n s before is = let p = before is in (p.0, omega (arith, p.1))
or_here_among None true n s before is = let same : suc n ≡ s = cc in (omega (arith, same), omega (arith, same))
or_here_among None false n s before is = absurd (cc)

pub least_among : (n : ℕ) (test : ℕ → Bool) (s : ℕ) → least n test ≡ Some s → (0 < s) × (s ≤ n)
least_among zero test s is = absurd (cc)
least_among (suc n) test s is = or_here_among (least n test) (test (suc n)) n s (λ e. least_among n test s e) is

goes_on_is : (o : Option ℕ) (world : World KeptTraffic) (s : ℕ) → if_it_goes_on world o ≡ Some s → o ≡ Some s
goes_on_is None world s is = is
goes_on_is (Some r) world s is = by_going (goes_on (world.sessions r).hold) is
  where
    by_going : (b : Bool) → (if b then Some r else None) ≡ Some s → Some r ≡ Some s
    by_going true is = is
    by_going false is = absurd (cc)

pub session_found : (world : World KeptTraffic) (a : Address) (s : ℕ) → session_in world a ≡ Some s → IsFound world s
session_found world a s here =
    let among : (0 < s) × (s ≤ world.made) = least_among world.made (λ n. is_at a (world.sessions n)) s here in
    record {
      above = among.0;
      made = among.1;
      there = and_left (is_there (world.sessions s)) (same_address (world.sessions s).rest.address a)
          (least_passes world.made (λ n. is_at a (world.sessions n)) s here);
    }

pub live_found : (world : World KeptTraffic) (a : Address) (s : ℕ) → live_at world a ≡ Some s → IsFound world s
live_found world a s is = session_found world a s (goes_on_is (session_in world a) world s is)

pub live_for_found : (world : World KeptTraffic) (place : Place) (to : Option Address) (s : ℕ)
    → live_for world place to ≡ Some s → IsFound world s
live_for_found world (UserAt user resource) (Some a) s is = live_found world a s is
live_for_found world (UserAt user resource) None s is = absurd (cc)
live_for_found world Account to s is = absurd (cc)
live_for_found world Server to s is = absurd (cc)
live_for_found world (User user) to s is = absurd (cc)
live_for_found world Service to s is = absurd (cc)
live_for_found world (Room room) to s is = absurd (cc)
live_for_found world (RoomAt room nick) to s is = absurd (cc)
live_for_found world Foreign to s is = absurd (cc)

of_user_found : (world : World KeptTraffic) (form : MessageForm) (hs : List Here) → AreFound world hs
    → AreFound world (of_user form hs)
of_user_found world Chat hs all = filter_all (IsHere world) is_reached hs all
of_user_found world Normal hs all = filter_all (IsHere world) is_reached hs all
of_user_found world Headline hs all = filter_all (IsHere world) is_reached hs all
of_user_found world Groupchat hs all = tt
of_user_found world Error hs all = tt

else_found : (world : World KeptTraffic) (form : MessageForm) (hs at : List Here) → AreFound world hs → AreFound world at
    → AreFound world (else_of_user form hs at)
else_found world form hs (h ∷ more) all some = some
else_found world Chat hs [] all some = of_user_found world Chat hs all
else_found world Normal hs [] all some = tt
else_found world Headline hs [] all some = tt
else_found world Groupchat hs [] all some = tt
else_found world Error hs [] all some = tt

of_found : (world : World KeptTraffic) (form : MessageForm) (place : Place) (hs : List Here) → AreFound world hs
    → AreFound world (receivers_of form place hs)
of_found world form Account hs all = of_user_found world form hs all
of_found world form (User user) hs all = of_user_found world form hs all
of_found world form (UserAt user resource) hs all =
    else_found world form hs (at_address resource hs) all
    (filter_all (IsHere world) (λ h. same_part h.address.resource (Some resource)) hs all)
of_found world form Server hs all = tt
of_found world form Service hs all = tt
of_found world form (Room room) hs all = tt
of_found world form (RoomAt room nick) hs all = tt
of_found world form Foreign hs all = tt

choosable_found : (world : World KeptTraffic) (place : Place) (hs : List Here) → AreFound world hs → AreFound world (choosable place hs)
choosable_found world (UserAt user resource) hs all =
    filter_all (IsHere world) (λ h. not (same_part h.address.resource (Some resource))) hs all
choosable_found world Account hs all = all
choosable_found world (User user) hs all = all
choosable_found world Server hs all = all
choosable_found world Service hs all = all
choosable_found world (Room room) hs all = all
choosable_found world (RoomAt room nick) hs all = all
choosable_found world Foreign hs all = all

chosen_found : (world : World KeptTraffic) (form : MessageForm) (place : Place) (user : Option (List ℕ))
    → AreFound world (chosen world form place user)
chosen_found world form place None = tt
chosen_found world form place (Some user) =
    of_found world form place (choosable place (sessions_of world user))
    (choosable_found world place (sessions_of world user) (numbers_found world user))

pub receivers_found : (world : World KeptTraffic) (form : MessageForm) (place : Place) (user : Option (List ℕ)) (live : Option ℕ)
    → ((s : ℕ) → live ≡ Some s → IsFound world s) → AreFound world (receivers world form place user live)
receivers_found world form place user (Some s) is = (record { found = is s refl; seen = refl }, tt)
receivers_found world form place user None is = chosen_found world form place user

-- Whom presence reaches.
flat_found : (world : World KeptTraffic) (users : List (List ℕ)) → AreFound world (flat_map (available_of world) users)
flat_found world [] = tt
flat_found world (user ∷ users) =
    append_all (IsHere world) (available_of world user) (flat_map (available_of world) users)
    (filter_all (IsHere world) (λ h. h.available) (sessions_of world user) (numbers_found world user)) (flat_found world users)

pub watchers_found : (world : World KeptTraffic) (own : List ℕ) (who : Here) → AreFound world (watchers world own who)
watchers_found world own who =
    append_all (IsHere world) (flat_map (available_of world) (who_sees world.book own)) (filter (is_told who) (sessions_of world own))
    (flat_found world (who_sees world.book own))
    (filter_all (IsHere world) (is_told who) (sessions_of world own) (numbers_found world own))

pub in_sight_found : (world : World KeptTraffic) (own : List ℕ) (who : Here) → AreFound world (in_sight world own who)
in_sight_found world own who =
    append_all (IsHere world) (flat_map (available_of world) (whom_sees world.book own)) (filter (is_another who) (sessions_of world own))
    (flat_found world (whom_sees world.book own))
    (filter_all (IsHere world) (is_another who) (sessions_of world own) (numbers_found world own))

pub named_found : (world : World KeptTraffic) (addresses : List Address) → AreFound world (named world addresses)
named_found world addresses =
    filter_all (IsHere world) (λ h. list_any (names h) addresses) (map (here world) (numbers_there world))
    (here_found world (numbers_there world) (passing_found world world.made (λ s. is_there (world.sessions s)) (λ s is. is) (omega arith)))

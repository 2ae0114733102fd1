-- What the book tells of a user, as it changes.
use Rattle.std.proofs.Common.{◌≡◌, ℕ, List, [], ◌∷◌, ◌++◌, map, Bool, true, false, not, ◌&&◌, cond, bytes_eq, filter, Option, Some, None, refl, sym, ap, ◌∙◌}
use Rattle.std.proofs.lemmas.Simd.{map-map}
use Rattle.std.specs.List.{list_any}
use Rattle.jid_core.specs.Addresses.{Address, same_address, same_part}
use Rattle.stanza_model.specs.Subscriptions.{state_by}
use Rattle.stanza_model.specs.declared.shared.Contact.{Contact}
use Rattle.stanza_model.specs.declared.shared.Subscription.{Subscription}
use Rattle.contact_table.specs.Books.{Book, Record, contact_of, contacts_of, has_pair, is_asked, is_contact, local_user}
use Rattle.contact_table.specs.Books.{set_in, subscription_to, with_contact, with_pair, without_contact}
use Rattle.contact_table.specs.Marks.{Sheet, asked_by, asking, flagged, is_user, marked, putting, seeing, seen_by}
use Rattle.contact_table.specs.Marks.{seen_in, sees_in, set_listed, sheet_of, taking_out, with_listed}
use Rattle.contact_table.specs.Orders.{with_user}
use Rattle.contact_table.specs.declared.flag.Flag.{Flag}
use Rattle.contact_table.specs.declared.flag.Flag.TheVariants.{Sees, Seen, Asked}
use Rattle.jid_core.proofs.NameLemmas.{bytes_flip}
use Rattle.contact_table.proofs.ByteLemmas.{bytes_equal}
use Rattle.contact_table.proofs.ListedLemmas.{alike, and_flip, any_listed, listed, listed_snoc, removed}
use Rattle.contact_table.proofs.PairLemmas.{firsts_with, has_with, pair, same_pair, seconds_with}

-- Contacts.

-- the records say nothing of the pairs
kept_contact : (domain : List ℕ) (k : Book) (rs : List Record) (x : Record) → contact_of domain (record k { records = rs }) x ≡ contact_of domain k x
kept_contact domain k rs x = by (local_user domain x.address)
  where
    by : (o : Option (List ℕ)) → ◌≡◌ {A = Contact}
        (record {
          address = x.address;
          name = x.name;
          groups = x.groups;
          subscription = subscription_to (record k { records = rs }) x.user o;
          asked =
              is_asked (record k { records = rs }) x.user o;
        })
        (record { address = x.address; name = x.name; groups = x.groups; subscription = subscription_to k x.user o; asked = is_asked k x.user o })
    by None = refl
    by (Some other) = refl

map_same : {Q V : Type 0} (f g : Q → V) (qs : List Q) → ((q : Q) → f q ≡ g q) → map f qs ≡ map g qs
map_same f g [] same = refl
map_same f g (q ∷ qs) same = ap (λ v. v ∷ map f qs) (same q) ∙ ap (λ vs. g q ∷ vs) (map_same f g qs same)

own_records : List ℕ → List Record → List Record
own_records u rs = filter (λ x. bytes_eq x.user u) rs

module _ (f : Record → Contact) (at : (x : Record) → (f x).address ≡ x.address) (u : List ℕ) where
  abbrev told : List Record → List Contact
  told rs = listed (λ x. x.user) f u rs

  test_is : (user : List ℕ) (address : Address) (y : Record)
      → is_contact user address y ≡ (same_address (f y).address address && bytes_eq user y.user)
  test_is user address y =
      and_flip (bytes_eq y.user user) (same_address y.address address)
      ∙ ap (λ b. same_address y.address address && b) (bytes_flip y.user user)
      ∙ ap (λ (a : Address). same_address a address && bytes_eq user y.user) (sym (at y))

  told_set_own : (x : Record) → bytes_eq x.user u ≡ true → (rs : List Record) → told (set_in x rs) ≡ set_listed (f x) (told rs)
  told_set_own x own [] = refl
  told_set_own x own (y ∷ rs) =
      let key : bytes_eq y.user x.user ≡ bytes_eq y.user u = ap (λ (m : List ℕ). bytes_eq y.user m) (bytes_equal x.user u own) in
      ap (λ b. told (cond (b && same_address y.address x.address) (x ∷ rs) (y ∷ set_in x rs))) key
      ∙ by (bytes_eq y.user u) (same_address y.address x.address) refl refl (told_set_own x own rs)
    where
      here : same_address (f y).address (f x).address ≡ same_address y.address x.address
      here = ap (λ (a : Address). same_address a (f x).address) (at y) ∙ ap (λ (a : Address). same_address y.address a) (at x)

      by : (z s : Bool) → bytes_eq y.user u ≡ z → same_address y.address x.address ≡ s → told (set_in x rs) ≡ set_listed (f x) (told rs)
          → told (cond (z && s) (x ∷ rs) (y ∷ set_in x rs))
          ≡ set_listed (f x) (map f (cond z (y ∷ filter (λ x. bytes_eq x.user u) rs) (filter (λ x. bytes_eq x.user u) rs)))
      by true true key is rest =
          ap (λ b. map f (cond b (x ∷ filter (λ x. bytes_eq x.user u) rs) (filter (λ x. bytes_eq x.user u) rs))) own
          ∙ sym (ap (λ b. cond b (f x ∷ told rs) (f y ∷ set_listed (f x) (told rs))) (here ∙ is))
      by true false key is rest =
          ap (λ b. map f (cond b (y ∷ filter (λ x. bytes_eq x.user u) (set_in x rs)) (filter (λ x. bytes_eq x.user u) (set_in x rs)))) key
          ∙ ap (λ cs. f y ∷ cs) rest
          ∙ sym (ap (λ b. cond b (f x ∷ told rs) (f y ∷ set_listed (f x) (told rs))) (here ∙ is))
      by false s key is rest =
          ap (λ b. map f (cond b (y ∷ filter (λ x. bytes_eq x.user u) (set_in x rs)) (filter (λ x. bytes_eq x.user u) (set_in x rs)))) key
          ∙ rest

  told_set_else : (x : Record) → bytes_eq x.user u ≡ false → (rs : List Record) → told (set_in x rs) ≡ told rs
  told_set_else x other [] = refl
  told_set_else x other (y ∷ rs) = by (bytes_eq y.user x.user) (same_address y.address x.address) refl (told_set_else x other rs)
    where
      by : (z s : Bool) → bytes_eq y.user x.user ≡ z → told (set_in x rs) ≡ told rs
          → told (cond (z && s) (x ∷ rs) (y ∷ set_in x rs)) ≡ told (y ∷ rs)
      by true true key rest =
          let apart : bytes_eq y.user u ≡ false = sym (alike y.user x.user u key) ∙ other in
          ap (λ b. map f (cond b (x ∷ filter (λ x. bytes_eq x.user u) rs) (filter (λ x. bytes_eq x.user u) rs))) other
          ∙ sym (ap (λ b. map f (cond b (y ∷ filter (λ x. bytes_eq x.user u) rs) (filter (λ x. bytes_eq x.user u) rs))) apart)
      by true false key rest = kept (bytes_eq y.user u) rest
        where
          kept : (b : Bool) → told (set_in x rs) ≡ told rs
              → map f (cond b (y ∷ filter (λ x. bytes_eq x.user u) (set_in x rs)) (filter (λ x. bytes_eq x.user u) (set_in x rs)))
              ≡ map f (cond b (y ∷ filter (λ x. bytes_eq x.user u) rs) (filter (λ x. bytes_eq x.user u) rs))
          kept true rest = ap (λ cs. f y ∷ cs) rest
          kept false rest = rest
      by false s key rest = kept (bytes_eq y.user u) rest
        where
          kept : (b : Bool) → told (set_in x rs) ≡ told rs
              → map f (cond b (y ∷ filter (λ x. bytes_eq x.user u) (set_in x rs)) (filter (λ x. bytes_eq x.user u) (set_in x rs)))
              ≡ map f (cond b (y ∷ filter (λ x. bytes_eq x.user u) rs) (filter (λ x. bytes_eq x.user u) rs))
          kept true rest = ap (λ cs. f y ∷ cs) rest
          kept false rest = rest

  told_with : (x : Record) (rs : List Record) → told (with_contact x rs) ≡ cond (bytes_eq x.user u) (with_listed (f x) (told rs)) (told rs)
  told_with x rs = by (list_any (is_contact x.user x.address) rs) (bytes_eq x.user u) refl refl
    where
      there_too : bytes_eq x.user u ≡ true → list_any (is_contact x.user x.address) rs ≡ list_any (λ d. same_address d.address (f x).address) (told rs)
      there_too own =
          any_listed (λ x. x.user) f x.user (λ d. same_address d.address x.address) (is_contact x.user x.address) (test_is x.user x.address) u own rs
          ∙ ap (λ (a : Address). list_any (λ d. same_address d.address a) (told rs)) (sym (at x))

      by : (t b : Bool) → list_any (is_contact x.user x.address) rs ≡ t → bytes_eq x.user u ≡ b
          → told (cond t (set_in x rs) (rs ++ x ∷ [])) ≡ cond b (with_listed (f x) (told rs)) (told rs)
      by true true there own =
          told_set_own x own rs
          ∙ sym (ap (λ b. cond b (set_listed (f x) (told rs)) (told rs ++ f x ∷ [])) (sym (there_too own) ∙ there))
      by true false there other = told_set_else x other rs
      by false true absent own =
          listed_snoc (λ x. x.user) f u rs x ∙ ap (λ b. cond b (told rs ++ f x ∷ []) (told rs)) own
          ∙ sym (ap (λ b. cond b (set_listed (f x) (told rs)) (told rs ++ f x ∷ [])) (sym (there_too own) ∙ absent))
      by false false absent other = listed_snoc (λ x. x.user) f u rs x ∙ ap (λ b. cond b (told rs ++ f x ∷ []) (told rs)) other

  told_without : (user : List ℕ) (address : Address) (rs : List Record)
      → told (without_contact user address rs) ≡ cond (bytes_eq user u) (filter (λ c. not (same_address c.address address)) (told rs)) (told rs)
  told_without user address rs =
      removed (λ x. x.user) f user (λ c. same_address c.address address) (is_contact user address) (test_is user address) u rs

pub contacts_with : (domain : List ℕ) (k : Book) (x : Record) (u : List ℕ)
    → contacts_of domain (record k { records = with_contact x k.records }) u
    ≡ cond (bytes_eq x.user u) (with_listed (contact_of domain k x) (contacts_of domain k u)) (contacts_of domain k u)
contacts_with domain k x u =
    map_same (contact_of domain (record k { records = with_contact x k.records })) (contact_of domain k)
    (filter (λ y. bytes_eq y.user u) (with_contact x k.records))
    (kept_contact domain k (with_contact x k.records))
    ∙ told_with (contact_of domain k) (λ y. refl) u x k.records

pub contacts_without : (domain : List ℕ) (k : Book) (user : List ℕ) (address : Address) (u : List ℕ)
    → contacts_of domain (record k { records = without_contact user address k.records }) u
    ≡ cond (bytes_eq user u) (filter (λ c. not (same_address c.address address)) (contacts_of domain k u)) (contacts_of domain k u)
contacts_without domain k user address u =
    map_same (contact_of domain (record k { records = without_contact user address k.records })) (contact_of domain k)
    (filter (λ y. bytes_eq y.user u) (without_contact user address k.records)) (kept_contact domain k (without_contact user address k.records))
    ∙ told_without (contact_of domain k) (λ y. refl) u user address k.records

-- What a pair says of contacts.

seen_state : (s t : Bool) → seen_in (state_by s t) ≡ t
seen_state true true = refl
seen_state true false = refl
seen_state false true = refl
seen_state false false = refl

sees_state : (s t : Bool) → sees_in (state_by s t) ≡ s
sees_state true true = refl
sees_state true false = refl
sees_state false true = refl
sees_state false false = refl

-- where p and q hold
abbrev set_if : Bool → Bool → Flag → Bool → Contact → Contact
set_if p q flag on c = cond p (cond q (flagged flag on c) c) c

sees_set : (c : Contact) (on s t p q : Bool) → c.subscription ≡ state_by s t
    → set_if p q Sees on c ≡ record c { subscription = state_by (cond (p && q) on s) t }
sees_set c on s t true true is =
    ap (λ (x : Subscription). record c { subscription = x }) (ap (λ x. state_by on (seen_in x)) is ∙ ap (λ b. state_by on b) (seen_state s t))
sees_set c on s t true false is = ap (λ (x : Subscription). record c { subscription = x }) is
sees_set c on s t false q is = ap (λ (x : Subscription). record c { subscription = x }) is

seen_set : (c : Contact) (on s t p q : Bool) → c.subscription ≡ state_by s t
    → set_if p q Seen on c ≡ record c { subscription = state_by s (cond (q && p) on t) }
seen_set c on s t true true is =
    ap (λ (x : Subscription). record c { subscription = x }) (ap (λ x. state_by (sees_in x) on) is ∙ ap (λ b. state_by b on) (sees_state s t))
seen_set c on s t true false is = ap (λ (x : Subscription). record c { subscription = x }) is
seen_set c on s t false true is = ap (λ (x : Subscription). record c { subscription = x }) is
seen_set c on s t false false is = ap (λ (x : Subscription). record c { subscription = x }) is

asked_set : (c : Contact) (on s p q : Bool) → c.asked ≡ s → set_if p q Asked on c ≡ record c { asked = cond (p && q) on s }
asked_set c on s true true is = refl
asked_set c on s true false is = ap (λ (x : Bool). record c { asked = x }) is
asked_set c on s false q is = ap (λ (x : Bool). record c { asked = x }) is

none_set : (p on : Bool) (flag : Flag) (c : Contact) → set_if p false flag on c ≡ c
none_set true on flag c = refl
none_set false on flag c = refl

-- the contact of a record, by the user that it is
abbrev contact_by : Book → Record → Option (List ℕ) → Contact
contact_by k x o = record { address = x.address; name = x.name; groups = x.groups; subscription = subscription_to k x.user o; asked = is_asked k x.user o }

contact_sees : (domain a b u : List ℕ) (k : Book) (on : Bool) (x : Record) → bytes_eq x.user u ≡ true
    → contact_of domain (record k { sees = with_pair (pair a b) on k.sees }) x
    ≡ set_if (bytes_eq b u) (is_user domain a x.address) Seen on (set_if (bytes_eq a u) (is_user domain b x.address) Sees on (contact_of domain k x))
contact_sees domain a b u k on x own = by (local_user domain x.address)
  where
    new : Book
    new = record k { sees = with_pair (pair a b) on k.sees }

    by : (o : Option (List ℕ)) → contact_by new x o
        ≡ set_if (bytes_eq b u) (same_part o (Some a)) Seen on (set_if (bytes_eq a u) (same_part o (Some b)) Sees on (contact_by k x o))
    by None =
        sym (ap (set_if (bytes_eq b u) false Seen on) (none_set (bytes_eq a u) on Sees (contact_by k x None))
        ∙ none_set (bytes_eq b u) on Seen (contact_by k x None))
    by (Some w) =
        let old = contact_by k x (Some w) in
        let s = has_pair x.user w k.sees in
        let t = has_pair w x.user k.sees in
        let user : x.user ≡ u = bytes_equal x.user u own in
        let one : same_pair a b x.user w ≡ (bytes_eq a u && bytes_eq w b) =
        ap (λ (m : List ℕ). bytes_eq a m && bytes_eq b w) user ∙ ap (λ z. bytes_eq a u && z) (bytes_flip b w) in
        let other : same_pair a b w x.user ≡ (bytes_eq w a && bytes_eq b u) =
        ap (λ (m : List ℕ). bytes_eq a w && bytes_eq b m) user ∙ ap (λ z. z && bytes_eq b u) (bytes_flip a w) in
        let to = has_with a b x.user w on k.sees ∙ ap (λ z. cond z on s) one in
        let back = has_with a b w x.user on k.sees ∙ ap (λ z. cond z on t) other in
        let first = sees_set old on s t (bytes_eq a u) (bytes_eq w b) refl in
        let middle : Contact = record old { subscription = state_by (cond (bytes_eq a u && bytes_eq w b) on s) t } in
        let second = seen_set middle on (cond (bytes_eq a u && bytes_eq w b) on s) t (bytes_eq b u) (bytes_eq w a) refl in
        ap (λ z. record old { subscription = state_by z (has_pair w x.user new.sees) }) to
        ∙ ap (λ z. record old { subscription = state_by (cond (bytes_eq a u && bytes_eq w b) on s) z }) back
        ∙ sym (ap (set_if (bytes_eq b u) (bytes_eq w a) Seen on) first ∙ second)

contact_asked : (domain a b u : List ℕ) (k : Book) (on : Bool) (x : Record) → bytes_eq x.user u ≡ true
    → contact_of domain (record k { asked = with_pair (pair a b) on k.asked }) x
    ≡ set_if (bytes_eq a u) (is_user domain b x.address) Asked on (contact_of domain k x)
contact_asked domain a b u k on x own = by (local_user domain x.address)
  where
    new : Book
    new = record k { asked = with_pair (pair a b) on k.asked }

    by : (o : Option (List ℕ)) → contact_by new x o ≡ set_if (bytes_eq a u) (same_part o (Some b)) Asked on (contact_by k x o)
    by None = sym (none_set (bytes_eq a u) on Asked (contact_by k x None))
    by (Some w) =
        let old = contact_by k x (Some w) in
        let s = has_pair x.user w k.asked in
        let one : same_pair a b x.user w ≡ (bytes_eq a u && bytes_eq w b) =
        ap (λ (m : List ℕ). bytes_eq a m && bytes_eq b w) (bytes_equal x.user u own) ∙ ap (λ z. bytes_eq a u && z) (bytes_flip b w) in
        ap (λ (z : Bool). record old { asked = z }) (has_with a b x.user w on k.asked ∙ ap (λ z. cond z on s) one)
        ∙ sym (asked_set old on s (bytes_eq a u) (bytes_eq w b) refl)

-- of the records of one user
map_own : (u : List ℕ) (f g : Record → Contact) (rs : List Record) → ((x : Record) → bytes_eq x.user u ≡ true → f x ≡ g x)
    → map f (filter (λ x. bytes_eq x.user u) rs) ≡ map g (filter (λ x. bytes_eq x.user u) rs)
map_own u f g [] same = refl
map_own u f g (x ∷ rs) same = by (bytes_eq x.user u) refl (map_own u f g rs same)
  where
    by : (b : Bool) → bytes_eq x.user u ≡ b → map f (filter (λ x. bytes_eq x.user u) rs) ≡ map g (filter (λ x. bytes_eq x.user u) rs)
        → map f (cond b (x ∷ filter (λ x. bytes_eq x.user u) rs) (filter (λ x. bytes_eq x.user u) rs))
        ≡ map g (cond b (x ∷ filter (λ x. bytes_eq x.user u) rs) (filter (λ x. bytes_eq x.user u) rs))
    by true own rest = ap (λ c. c ∷ map f (filter (λ x. bytes_eq x.user u) rs)) (same x own) ∙ ap (λ cs. g x ∷ cs) rest
    by false other rest = rest

map_if : (p : Bool) (f : Contact → Contact) (cs : List Contact) → map (λ c. cond p (f c) c) cs ≡ cond p (map f cs) cs
map_if true f cs = refl
map_if false f [] = refl
map_if false f (c ∷ cs) = ap (λ ds. c ∷ ds) (map_if false f cs)

-- a mark leaves the address
address_kept : (p q on : Bool) (flag : Flag) (c : Contact) → (set_if p q flag on c).address ≡ c.address
address_kept true true on Sees c = refl
address_kept true true on Seen c = refl
address_kept true true on Asked c = refl
address_kept true false on flag c = refl
address_kept false q on flag c = refl

pub contacts_sees : (domain a b u : List ℕ) (k : Book) (on : Bool)
    → contacts_of domain (record k { sees = with_pair (pair a b) on k.sees }) u
    ≡ cond (bytes_eq b u) (map (marked domain a Seen on)
    (cond (bytes_eq a u) (map (marked domain b Sees on) (contacts_of domain k u)) (contacts_of domain k u)))
    (cond (bytes_eq a u) (map (marked domain b Sees on) (contacts_of domain k u)) (contacts_of domain k u))
contacts_sees domain a b u k on =
    let own = filter (λ x. bytes_eq x.user u) k.records in
    let sees = λ (c : Contact). cond (bytes_eq a u) (marked domain b Sees on c) c in
    let seen = λ (c : Contact). cond (bytes_eq b u) (marked domain a Seen on c) c in
    map_own u (contact_of domain (record k { sees = with_pair (pair a b) on k.sees })) (λ x. seen (sees (contact_of domain k x))) k.records
    (λ x own. contact_sees domain a b u k on x own ∙ addressed x)
    ∙ sym (map-map seen (λ x. sees (contact_of domain k x)) own)
    ∙ ap (map seen) (sym (map-map sees (contact_of domain k) own))
    ∙ ap (map seen) (map_if (bytes_eq a u) (marked domain b Sees on) (contacts_of domain k u))
    ∙ map_if (bytes_eq b u) (marked domain a Seen on) (cond (bytes_eq a u) (map (marked domain b Sees on) (contacts_of domain k u)) (contacts_of domain k u))
  where
    addressed : (x : Record)
        → set_if (bytes_eq b u) (is_user domain a x.address) Seen on (set_if (bytes_eq a u) (is_user domain b x.address) Sees on (contact_of domain k x))
        ≡ cond (bytes_eq b u) (marked domain a Seen on (cond (bytes_eq a u) (marked domain b Sees on (contact_of domain k x)) (contact_of domain k x)))
        (cond (bytes_eq a u) (marked domain b Sees on (contact_of domain k x)) (contact_of domain k x))
    addressed x =
        let c = set_if (bytes_eq a u) (is_user domain b x.address) Sees on (contact_of domain k x) in
        ap (λ (address : Address). set_if (bytes_eq b u) (is_user domain a address) Seen on c)
        (sym (address_kept (bytes_eq a u) (is_user domain b x.address) on Sees (contact_of domain k x)))

pub contacts_asked : (domain a b u : List ℕ) (k : Book) (on : Bool)
    → contacts_of domain (record k { asked = with_pair (pair a b) on k.asked }) u
    ≡ cond (bytes_eq a u) (map (marked domain b Asked on) (contacts_of domain k u)) (contacts_of domain k u)
contacts_asked domain a b u k on =
    let own = filter (λ x. bytes_eq x.user u) k.records in
    let asks = λ (c : Contact). cond (bytes_eq a u) (marked domain b Asked on c) c in
    map_own u (contact_of domain (record k { asked = with_pair (pair a b) on k.asked })) (λ x. asks (contact_of domain k x)) k.records
    (contact_asked domain a b u k on)
    ∙ sym (map-map asks (contact_of domain k) own)
    ∙ map_if (bytes_eq a u) (marked domain b Asked on) (contacts_of domain k u)

-- The whole sheet of a user.

pub sheet_with : (domain : List ℕ) (k : Book) (x : Record) (u : List ℕ)
    → sheet_of domain (record k { records = with_contact x k.records }) u
    ≡ cond (bytes_eq x.user u) (putting (contact_of domain k x) (sheet_of domain k u)) (sheet_of domain k u)
sheet_with domain k x u =
    ap (λ (cs : List Contact). record (sheet_of domain k u) { contacts = cs }) (contacts_with domain k x u) ∙ by (bytes_eq x.user u)
  where
    by : (b : Bool) → ◌≡◌ {A = Sheet}
        (record (sheet_of domain k u) { contacts = cond b (with_listed (contact_of domain k x) (contacts_of domain k u)) (contacts_of domain k u) })
        (cond b (putting (contact_of domain k x) (sheet_of domain k u)) (sheet_of domain k u))
    by true = refl
    by false = refl

pub sheet_without : (domain : List ℕ) (k : Book) (user : List ℕ) (address : Address) (u : List ℕ)
    → sheet_of domain (record k { records = without_contact user address k.records }) u
    ≡ cond (bytes_eq user u) (taking_out address (sheet_of domain k u)) (sheet_of domain k u)
sheet_without domain k user address u =
    ap (λ (cs : List Contact). record (sheet_of domain k u) { contacts = cs }) (contacts_without domain k user address u) ∙ by (bytes_eq user u)
  where
    by : (b : Bool) → ◌≡◌ {A = Sheet}
        (record (sheet_of domain k u)
        { contacts = cond b (filter (λ c. not (same_address c.address address)) (contacts_of domain k u)) (contacts_of domain k u) })
        (cond b (taking_out address (sheet_of domain k u)) (sheet_of domain k u))
    by true = refl
    by false = refl

-- what one user is given, where it is this one
abbrev pub given : Bool → (Sheet → Sheet) → Sheet → Sheet
given b step s = cond b (step s) s

pub sheet_sees : (domain a b u : List ℕ) (k : Book) (on : Bool)
    → sheet_of domain (record k { sees = with_pair (pair a b) on k.sees }) u
    ≡ given (bytes_eq b u) (seen_by domain a on) (given (bytes_eq a u) (seeing domain b on) (sheet_of domain k u))
sheet_sees domain a b u k on =
    let new = record k { sees = with_pair (pair a b) on k.sees } in
    let old = sheet_of domain k u in
    ap (λ (cs : List Contact). record (sheet_of domain new u) { contacts = cs }) (contacts_sees domain a b u k on)
    ∙ ap (λ (us : List (List ℕ)). record (sheet_of domain new u) { contacts = made (bytes_eq a u) (bytes_eq b u); who_sees = us }) (firsts_with a b u on k.sees)
    ∙ ap (λ (us : List (List ℕ)). record old
    { contacts = made (bytes_eq a u) (bytes_eq b u); who_sees = cond (bytes_eq b u) (with_user a on old.who_sees) old.who_sees; whom_sees = us })
    (seconds_with a b u on k.sees)
    ∙ by (bytes_eq a u) (bytes_eq b u)
  where
    made : Bool → Bool → List Contact
    made p q = cond q (map (marked domain a Seen on) (cond p (map (marked domain b Sees on) (contacts_of domain k u)) (contacts_of domain k u)))
        (cond p (map (marked domain b Sees on) (contacts_of domain k u)) (contacts_of domain k u))

    by : (p q : Bool) → ◌≡◌ {A = Sheet} (record (sheet_of domain k u) {
      contacts = made p q;
      who_sees = cond q (with_user a on (sheet_of domain k u).who_sees) (sheet_of domain k u).who_sees;
      whom_sees = cond p (with_user b on (sheet_of domain k u).whom_sees) (sheet_of domain k u).whom_sees;
    }) (given q (seen_by domain a on) (given p (seeing domain b on) (sheet_of domain k u)))
    by true true = refl
    by true false = refl
    by false true = refl
    by false false = refl

pub sheet_asked : (domain a b u : List ℕ) (k : Book) (on : Bool)
    → sheet_of domain (record k { asked = with_pair (pair a b) on k.asked }) u
    ≡ given (bytes_eq b u) (asked_by a on) (given (bytes_eq a u) (asking domain b on) (sheet_of domain k u))
sheet_asked domain a b u k on =
    let new = record k { asked = with_pair (pair a b) on k.asked } in
    let old = sheet_of domain k u in
    ap (λ (cs : List Contact). record (sheet_of domain new u) { contacts = cs }) (contacts_asked domain a b u k on)
    ∙ ap (λ (us : List (List ℕ)). record old { contacts = made (bytes_eq a u); who_asked = us }) (firsts_with a b u on k.asked)
    ∙ by (bytes_eq a u) (bytes_eq b u)
  where
    made : Bool → List Contact
    made p = cond p (map (marked domain b Asked on) (contacts_of domain k u)) (contacts_of domain k u)

    by : (p q : Bool) → ◌≡◌ {A = Sheet} (record (sheet_of domain k u) {
      contacts = made p;
      who_asked = cond q (with_user a on (sheet_of domain k u).who_asked) (sheet_of domain k u).who_asked;
    }) (given q (asked_by a on) (given p (asking domain b on) (sheet_of domain k u)))
    by true true = refl
    by true false = refl
    by false true = refl
    by false false = refl

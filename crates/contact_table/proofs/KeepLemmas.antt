-- The folders stand for the book, change by change.
use Rattle.std.proofs.Common.{◌≡◌, ℕ, ◌<◌, List, [], ◌∷◌, map, Bool, true, false, ◌&&◌, ◌||◌, cond, bytes_eq, filter}
use Rattle.std.proofs.Common.{Option, Some, None, Result, Ok, Err, IfOk, is_some, refl, sym, ap, subst, ◌∙◌, arith}
use Rattle.std.proofs.lemmas.Bool.{and_parts}
use Rattle.std.specs.List.{list_all}
use Rattle.jid_core.specs.Addresses.{Address}
use Rattle.stanza_model.specs.Subscriptions.{state_by}
use Rattle.stanza_model.specs.declared.shared.Contact.{Contact}
use Rattle.stanza_model.specs.declared.shared.Subscription.{Subscription}
use Rattle.contact_table.specs.Books.{Book, Pair, Record, bare_of, contact_of, firsts_of, has_pair, is_asked, is_pair, local_user}
use Rattle.contact_table.specs.Books.{subscription_to, who_asked, with_contact, with_pair, without_contact}
use Rattle.contact_table.specs.Marks.{Sheet, asked_by, asking, putting, seeing, seen_by, sheet_of, taking_out}
use Rattle.contact_table.specs.Folders.{Edits, Entries, IsOwn, Keeps, asked_in, folder_at, has_user, room_in, sheet_in, subscription_in}
use Rattle.contact_table.specs.declared.folder.Folder.{Folder}
use Rattle.contact_table.proofs.ByteLemmas.{bytes_equal, bytes_same}
use Rattle.contact_table.proofs.BookLemmas.{given, sheet_asked, sheet_sees, sheet_with, sheet_without}
use Rattle.contact_table.proofs.PairLemmas.{first_is_pair, has_with, pair, same_pair, second_is_pair}

-- where one user is changed and nothing of who has asked
kept_by : (domain user : List ℕ) (k after : Book) (step : Sheet → Sheet) (uses takes : ℕ) (old new : Entries) → Keeps domain k old
    → Edits user step uses takes old new
    → ((u : List ℕ) → sheet_of domain after u ≡ cond (bytes_eq user u) (step (sheet_of domain k u)) (sheet_of domain k u))
    → after.asked ≡ k.asked → Keeps domain after new
kept_by domain user k after step uses takes old new before edit told same = record {
  sheets = λ u. edit.sheets u ∙ ap (λ s. cond (bytes_eq user u) (step s) s) (before.sheets u) ∙ sym (told u);
  own = λ u. edit.own domain u (before.own u);
  askers = λ a b has. edit.there a ∙ before.askers a b (ap (has_pair a b) (sym same) ∙ has);
}

pub keeps_same : (domain user : List ℕ) (k : Book) (uses takes : ℕ) (old new : Entries) → Keeps domain k old
    → Edits user (λ s. s) uses takes old new → Keeps domain k new
keeps_same domain user k uses takes old new before edit =
    kept_by domain user k k (λ s. s) uses takes old new before edit (λ u. twice (bytes_eq user u) (sheet_of domain k u)) refl
  where
    twice : (b : Bool) (s : Sheet) → s ≡ cond b s s
    twice true s = refl
    twice false s = refl

-- what is read of the sheets

pub subscription_is : (domain user : List ℕ) (k : Book) (es : Entries) (o : Option (List ℕ)) → Keeps domain k es
    → subscription_in (sheet_in (folder_at user es)) o ≡ subscription_to k user o
subscription_is domain user k es None kept = refl
subscription_is domain user k es (Some other) kept =
    ap (λ s. subscription_in s (Some other)) (kept.sheets user)
    ∙ ap (λ b. state_by b (has_user (firsts_of user k.sees) other)) (second_is_pair user other k.sees)
    ∙ ap (state_by (has_pair user other k.sees)) (first_is_pair other user k.sees)

pub asked_is : (domain user : List ℕ) (k : Book) (es : Entries) (o : Option (List ℕ)) → Keeps domain k es
    → asked_in es user o ≡ is_asked k user o
asked_is domain user k es None kept = refl
asked_is domain user k es (Some other) kept =
    ap (λ s. has_user s.who_asked user) (kept.sheets other) ∙ first_is_pair user other k.asked

-- the changes

pub keeps_contact : (domain : List ℕ) (k : Book) (x : Record) (c : Contact) (uses : ℕ) (old new : Entries) → Keeps domain k old
    → c ≡ record {
      address = x.address;
      name = x.name;
      groups = x.groups;
      subscription =
          subscription_in (sheet_in (folder_at x.user old)) (local_user domain x.address);
      asked = asked_in old x.user (local_user domain x.address);
    }
    → Edits x.user (putting c) uses 0 old new → Keeps domain (record k { records = with_contact x k.records }) new
keeps_contact domain k x c uses old new before made edit =
    kept_by domain x.user k (record k { records = with_contact x k.records }) (putting c) uses 0 old new before edit
    (λ u. sheet_with domain k x u ∙ ap (λ (c : Contact). cond (bytes_eq x.user u) (putting c (sheet_of domain k u)) (sheet_of domain k u)) (sym is)) refl
  where
    is : c ≡ contact_of domain k x
    is =
        made
        ∙ ap (λ (state : Subscription). record (contact_of domain k x) { subscription = state; asked = asked_in old x.user (local_user domain x.address) })
        (subscription_is domain x.user k old (local_user domain x.address) before)
        ∙ ap (λ (b : Bool). record (contact_of domain k x) { asked = b }) (asked_is domain x.user k old (local_user domain x.address) before)

pub keeps_no_contact : (domain : List ℕ) (k : Book) (user : List ℕ) (address : Address) (uses : ℕ) (old new : Entries) → Keeps domain k old
    → Edits user (taking_out address) uses 0 old new → Keeps domain (record k { records = without_contact user address k.records }) new
keeps_no_contact domain k user address uses old new before edit =
    kept_by domain user k (record k { records = without_contact user address k.records }) (taking_out address) uses 0 old new before edit
    (sheet_without domain k user address) refl

-- two users are changed one after the other
two_sheets : (a b : List ℕ) (step more : Sheet → Sheet) (uses least : ℕ) (old middle new : Entries)
    → Edits a step uses 0 old middle → Edits b more least 0 middle new → (u : List ℕ)
    → sheet_in (folder_at u new) ≡ given (bytes_eq b u) more (given (bytes_eq a u) step (sheet_in (folder_at u old)))
two_sheets a b step more uses least old middle new first second u = second.sheets u ∙ ap (given (bytes_eq b u) more) (first.sheets u)

pub keeps_sees : (domain a b : List ℕ) (k : Book) (on : Bool) (old middle new : Entries) → Keeps domain k old
    → Edits a (seeing domain b on) 1 0 old middle → Edits b (seen_by domain a on) 1 0 middle new
    → Keeps domain (record k { sees = with_pair (pair a b) on k.sees }) new
keeps_sees domain a b k on old middle new before first second = record {
  sheets = λ u. two_sheets a b (seeing domain b on) (seen_by domain a on) 1 1 old middle new first second u
      ∙ ap (λ s. given (bytes_eq b u) (seen_by domain a on) (given (bytes_eq a u) (seeing domain b on) s)) (before.sheets u)
      ∙ sym (sheet_sees domain a b u k on);
  own = λ u. second.own domain u (first.own domain u (before.own u));
  askers = λ c d has. second.there c ∙ first.there c ∙ before.askers c d has;
}

pub keeps_asked : (domain a b : List ℕ) (k : Book) (on : Bool) (old middle new : Entries) → Keeps domain k old
    → is_some (folder_at a old) ≡ true → Edits a (asking domain b on) 0 0 old middle → Edits b (asked_by a on) 1 0 middle new
    → Keeps domain (record k { asked = with_pair (pair a b) on k.asked }) new
keeps_asked domain a b k on old middle new before there first second = record {
  sheets = λ u. two_sheets a b (asking domain b on) (asked_by a on) 0 1 old middle new first second u
      ∙ ap (λ s. given (bytes_eq b u) (asked_by a on) (given (bytes_eq a u) (asking domain b on) s)) (before.sheets u)
      ∙ sym (sheet_asked domain a b u k on);
  own = λ u. second.own domain u (first.own domain u (before.own u));
  askers = λ c d has. second.there c ∙ first.there c ∙ asker c d (same_pair a b c d) refl (sym (has_with a b c d on k.asked) ∙ has);
}
  where
    asker : (c d : List ℕ) (s : Bool) → same_pair a b c d ≡ s → cond s on (has_pair c d k.asked) ≡ true → is_some (folder_at c old) ≡ true
    asker c d true same has =
        ap (λ (m : List ℕ). is_some (folder_at m old)) (sym (bytes_equal a c (and_parts (bytes_eq a c) (bytes_eq b d) same).0)) ∙ there
    asker c d false other has = before.askers c d has

-- who has asked has a folder

all_asked : (user : List ℕ) (t : List ℕ → Bool) (ps : List Pair) → ((a : List ℕ) → has_pair a user ps ≡ true → t a ≡ true)
    → list_all t (firsts_of user ps) ≡ true
all_asked user t [] there = refl
all_asked user t (p ∷ ps) there = by (bytes_eq p.b user) refl (all_asked user t ps (λ a has. there a (later a has)))
  where
    or_right : (b : Bool) → (b || true) ≡ true
    or_right true = refl
    or_right false = refl

    later : (a : List ℕ) → has_pair a user ps ≡ true → has_pair a user (p ∷ ps) ≡ true
    later a has = ap (λ b. is_pair (pair a user) p || b) has ∙ or_right (is_pair (pair a user) p)

    by : (b : Bool) → bytes_eq p.b user ≡ b → list_all t (firsts_of user ps) ≡ true
        → list_all t (map (λ q. q.a) (cond b (p ∷ filter (λ q. bytes_eq q.b user) ps) (filter (λ q. bytes_eq q.b user) ps))) ≡ true
    by true is rest =
        let own : is_pair (pair p.a user) p ≡ true =
        ap (λ b. b && bytes_eq user p.b) (bytes_same p.a) ∙ ap (λ (m : List ℕ). bytes_eq user m) (bytes_equal p.b user is) ∙ bytes_same user in
        ap (λ b. b && list_all t (firsts_of user ps)) (there p.a (ap (λ b. b || has_pair p.a user ps) own)) ∙ rest
    by false other rest = rest

pub askers_there : (domain user : List ℕ) (k : Book) (es : Entries) → Keeps domain k es
    → list_all (λ u. is_some (folder_at u es)) (who_asked k user) ≡ true
askers_there domain user k es kept = all_asked user (λ u. is_some (folder_at u es)) k.asked (λ a has. kept.askers a user has)

-- where there is room there is a folder
pub room_there : (o : Option Folder) → 0 < room_in o → is_some o ≡ true
room_there (Some f) room = refl
room_there None room = absurd (omega (arith, room))

-- what is found of a user is what the book tells
pub told_by : (domain word user : List ℕ) (k : Book) (es : Entries) (o : Option Folder) → word ≡ user → o ≡ folder_at word es → Keeps domain k es
    → sheet_in o ≡ sheet_of domain k user
told_by domain word user k es o same found kept =
    ap sheet_in found ∙ ap (λ (m : List ℕ). sheet_in (folder_at m es)) same ∙ kept.sheets user

pub owner_by : (domain word user : List ℕ) (k : Book) (es : Entries) (f : Folder) → word ≡ user → Some f ≡ folder_at word es → Keeps domain k es
    → f.roster.owner ≡ bare_of domain user
owner_by domain word user k es f same found kept =
    (subst (IsOwn domain user) (sym (found ∙ ap (λ (m : List ℕ). folder_at m es) same)) (kept.own user)).0

-- what a list that was made is, under an equation
pub ok_carried : {X Y E : Type 0} (r : Result X E) (f : X → Y) (a b : Y) → IfOk r (λ v. f v ≡ a) → a ≡ b → IfOk r (λ v. f v ≡ b)
ok_carried (Ok v) f a b is same = is ∙ same
ok_carried (Err e) f a b is same = tt

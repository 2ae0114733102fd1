-- Rows are added to archives, and archives go.
use Rattle.std.proofs.Common.{◌≡◌, inl, inr, ℕ, ◌+◌, ◌-◌, ◌<◌, ◌≤◌, ◌==◌, ◌^◌, Bool, true, false, bytes_eq, List, [], ◌∷◌, length, if◌then◌else◌}
use Rattle.std.proofs.Common.{Some, refl, sym, ap, subst, ◌∙◌, arith}
use Rattle.std.specs.List.{AllByRecursion}
use Rattle.std.proofs.lemmas.Bool.Decides.{Decides-eqb, eqb_tells, same_from_decides}
use Rattle.std.proofs.lemmas.Slice.Eq.{bytes_eq-Decides}
use Rattle.jid_core.specs.Addresses.{Address}
use Rattle.jid_core.proofs.NameLemmas.{bytes_flip}
use Rattle.stanza_tree.specs.declared.frame.Origin.{Origin}
use Rattle.stanza_model.specs.declared.effect.Change.{Change}
use Rattle.stanza_model.specs.declared.effect.Change.TheVariants as change
use Rattle.stanza_model.specs.declared.effect.Effect as stanza
use Rattle.stanza_model.specs.declared.effect.Effect.TheVariants.{Queue, Keep, Set}
use Rattle.archive_table.specs.Archives.{Archives, Rows, Said, filed, no_rows, with_row}
use Rattle.archive_table.specs.declared.filing.Filing.{Filing}
use Rattle.archive_table.specs.declared.filing.Filing.TheVariants.{OfUser, OfRoom, NoRoom}
use Rattle.archive_table.specs.Tables as archive
use Rattle.archive_table.specs.Tables.{IsReady, archives_of, ends, made_before, room_rows, room_spare, text_length, user_rows, user_spare}
use Rattle.house_model.specs.Archiving.{NoRowAfter, is_row, rows_of_room, rows_of_user}
use Rattle.house_model.specs.Effects.{Files}
use Rattle.house_world.specs.declared.world.World as code
use Rattle.house_world.specs.Hosting.{but_rooms_of}
use Rattle.house_world.specs.Marks.{is_of_archives, is_of_users, named_by}
use Rattle.house_world.specs.Readiness.{AreFilable, HasNumbers, HasPlaces, added}
use Rattle.house_world.specs.Views.{world_of}
use Rattle.house_world.specs.Wholes.{IsTied}
use Rattle.house_world.specs.Worlds.{Did, Stays}
use Rattle.house_world.proofs.BookLemmas.{book_same}
use Rattle.house_world.proofs.WorldLemmas.{few_later}

-- the archives are others

pub filed_did : (a : code.World) (f : Filing) (b : archive.TableRecord) → IsTied a.table → archives_of b ≡ filed f (archives_of a.archives)
    → Did (Files f ∷ []) 0 a (record a { archives = b })
filed_did a f b tied is = record {
  world = ap (λ (x : Archives). world_of a.table a.answers.items a.book.book a.rooms x) is;
  tied = tied;
  known = λ many users. users;
  few = λ turns few. few_later turns (turns + 0) a.table few (omega arith);
  lines = refl;
  answered = refl;
  kept = book_same;
}

-- or have other room
pub spaced_did : (a : code.World) (b : archive.TableRecord) → IsTied a.table → archives_of b ≡ archives_of a.archives
    → Did [] 0 a (record a { archives = b })
spaced_did a b tied is = record {
  world = ap (λ (x : Archives). world_of a.table a.answers.items a.book.book a.rooms x) is;
  tied = tied;
  known = λ many users. users;
  few = λ turns few. few_later turns (turns + 0) a.table few (omega arith);
  lines = refl;
  answered = refl;
  kept = book_same;
}

pub stays_filed : (a : code.World) (b : archive.TableRecord) → Stays a (record a { archives = b })
stays_filed a b = record { logged = λ w c u at. (at, refl); there = λ n is. is; over = λ n is. is; spare = refl }

-- which changes add no row

pub users_add : (c : Change) → is_of_users c ≡ true → is_row (Set c) ≡ false
users_add (change.RoomRow n peer text moment) is = absurd (cc)
users_add c is = refl

pub sessions_add : (c : Change) (s : ℕ) → named_by c ≡ Some s → is_row (Set c) ≡ false
sessions_add (change.RoomRow n peer text moment) s is = absurd (cc)
sessions_add c s is = refl

-- An effect was carried out, so that there is memory, and are numbers, for those after it.
pub record Leaves (e : stanza.Effect) (more : List stanza.Effect) (t u : archive.TableRecord) : Type 0 where
  pub users : (user : List ℕ) (p : Address) → length (rows_of_user user (e ∷ more)) ≤ user_spare user p t
      → length (rows_of_user user more) ≤ user_spare user p u
  pub rooms : (n : ℕ) (p : Address) → length (rows_of_room n (e ∷ more)) ≤ room_spare n p t
      → length (rows_of_room n more) ≤ room_spare n p u
  pub made : (user : List ℕ) → ((archives_of u).users user).made + length (rows_of_user user more)
      ≤ ((archives_of t).users user).made + length (rows_of_user user (e ∷ more))
  pub made_in : (n : ℕ) → ((archives_of u).rooms n).made + length (rows_of_room n more)
      ≤ ((archives_of t).rooms n).made + length (rows_of_room n (e ∷ more))
  pub bytes : u.bytes + added more ≤ t.bytes + added (e ∷ more)

module _ (e : stanza.Effect) (more : List stanza.Effect) (t u : archive.TableRecord) (l : Leaves e more t u) where
  place_left : (x : stanza.Effect) → HasPlaces (e ∷ more) t x → HasPlaces more u x
  place_left (Keep user peer text moment) has = l.users user peer has
  place_left (Set (change.RoomRow n peer text moment)) has = l.rooms n peer has
  place_left x has = tt

  places_left : (es : List stanza.Effect) → AllByRecursion (HasPlaces (e ∷ more) t) es → AllByRecursion (HasPlaces more u) es
  places_left [] all = tt
  places_left (x ∷ es) all = (place_left x all.0, places_left es all.1)

  number_left : (x : stanza.Effect) → HasNumbers (e ∷ more) (archives_of t) x → HasNumbers more (archives_of u) x
  number_left (Keep user peer text moment) has = record {
    numbered = omega (arith, has.numbered, l.made user);
    counted = omega (arith, has.counted, l.bytes);
  }
  number_left (Set (change.RoomRow n peer text moment)) has = record {
    numbered = omega (arith, has.numbered, l.made_in n);
    counted = omega (arith, has.counted, l.bytes);
  }
  number_left x has = tt

  numbers_left : (es : List stanza.Effect) → AllByRecursion (HasNumbers (e ∷ more) (archives_of t)) es
      → AllByRecursion (HasNumbers more (archives_of u)) es
  numbers_left [] all = tt
  numbers_left (x ∷ es) all = (number_left x all.0, numbers_left es all.1)

ends_left : (e : stanza.Effect) (more : List stanza.Effect) → NoRowAfter (e ∷ more) → NoRowAfter more
ends_left (Set (change.RoomGone n)) more is = is.1
ends_left e more is = is

pub filable_left : (e : stanza.Effect) (more : List stanza.Effect) (t u : archive.TableRecord) → Leaves e more t u
    → AreFilable (e ∷ more) t → AreFilable more u
filable_left e more t u l is = record {
  places = places_left e more t u l more is.places.1;
  numbers = numbers_left e more t u l more is.numbers.1;
  ends = ends_left e more is.ends;
}

-- one that adds no row

record AddsNone (e : stanza.Effect) (more : List stanza.Effect) : Type 0 where
  users : (user : List ℕ) → rows_of_user user (e ∷ more) ≡ rows_of_user user more
  rooms : (n : ℕ) → rows_of_room n (e ∷ more) ≡ rows_of_room n more
  bytes : added (e ∷ more) ≡ added more

adds_none : (e : stanza.Effect) (more : List stanza.Effect) → is_row e ≡ false → AddsNone e more
adds_none (Keep user peer text moment) more is = absurd (cc)
adds_none (Set (change.RoomRow n peer text moment)) more is = absurd (cc)
adds_none e more is = record { users = λ user. refl; rooms = λ n. refl; bytes = omega arith }

none_leaves : (e : stanza.Effect) (more : List stanza.Effect) (t : archive.TableRecord) → is_row e ≡ false → Leaves e more t t
none_leaves e more t is =
    let none = adds_none e more is in
    record {
      users = λ user p has. (let same = ap length (none.users user) in omega (arith, has, same));
      rooms = λ n p has. (let same = ap length (none.rooms n) in omega (arith, has, same));
      made = λ user. (let same = ap length (none.users user) in omega (arith, same));
      made_in = λ n. (let same = ap length (none.rooms n) in omega (arith, same));
      bytes = omega (arith, none.bytes);
    }

pub filable_same : (e : stanza.Effect) (more : List stanza.Effect) (t u : archive.TableRecord) → is_row e ≡ false → u ≡ t
    → AreFilable (e ∷ more) t → AreFilable more u
filable_same e more t u is same can =
    subst (λ (x : archive.TableRecord). AreFilable more x) (sym same) (filable_left e more t t (none_leaves e more t is) can)

-- one that adds a row

own_bytes : (xs : List ℕ) → bytes_eq xs xs ≡ true
own_bytes xs = (bytes_eq-Decides xs xs).1 refl

flip : (m n : ℕ) → (m == n) ≡ (n == m)
flip m n = same_from_decides (m == n) (n == m) (Decides-eqb m n) (λ is. sym ((Decides-eqb n m).0 is), λ is. (Decides-eqb n m).1 (sym is))

rows_more : (b : Bool) (x : Said) (xs : List Said) → length (if b then x ∷ xs else xs) ≡ (if b then 1 else 0) + length xs
rows_more true x xs = omega arith
rows_more false x xs = omega arith

-- the row is the next of its archive
made_more : (b : Bool) (x y : Rows) (peer : Address) (text : List ℕ) (moment : ℕ) → (b ≡ true → x ≡ y)
    → (if b then with_row peer text moment x else y).made ≤ y.made + (if b then 1 else 0)
made_more true x y peer text moment is = (let same = ap (λ (z : Rows). z.made) (is refl) in omega (arith, same))
made_more false x y peer text moment is = omega arith

module _ (user : List ℕ) (peer : Address) (text : List ℕ) (moment : ℕ) (t : archive.TableRecord) where
  abbrev row : stanza.Effect
  row = Keep user peer text moment

  abbrev filing : Filing
  filing = OfUser user peer text moment

  one_row : length (rows_of_user user (Keep user peer text moment ∷ [])) ≡ 1
  one_row =
      rows_more (bytes_eq user user) (record { peer = peer; text = text; moment = moment }) []
      ∙ ap (λ (b : Bool). (if b then 1 else 0) + 0) (own_bytes user)

  pub user_ready : AreFilable (row ∷ []) t → IsReady filing t
  user_ready is = (let place = is.places.0 in omega (arith, place, one_row))

  pub user_numbered : AreFilable (row ∷ []) t → made_before filing (archives_of t) < 2 ^ 64 - 1
  user_numbered is = (let many = is.numbers.0.numbered in omega (arith, many, one_row))

  pub user_counted : AreFilable (row ∷ []) t → t.bytes + text_length filing < 2 ^ 64
  user_counted is = (let all = is.numbers.0.counted in omega (arith, all))

  pub user_leaves : (more : List stanza.Effect) (u : archive.TableRecord) → archives_of u ≡ filed filing (archives_of t)
      → ((v : List ℕ) (p : Address) → user_spare v p t ≤ user_spare v p u + user_rows v filing)
      → ((n : ℕ) (p : Address) → ends n filing ≡ false → room_spare n p t ≤ room_spare n p u + room_rows n filing)
      → Leaves row more t u
  user_leaves more u is users rooms =
      let said : Said = record { peer = peer; text = text; moment = moment } in
      let many : (v : List ℕ) → length (rows_of_user v (row ∷ more)) ≡ (if bytes_eq v user then 1 else 0) + length (rows_of_user v more) =
      (λ v. rows_more (bytes_eq user v) said (rows_of_user v more)
      ∙ ap (λ (b : Bool). (if b then 1 else 0) + length (rows_of_user v more)) (bytes_flip user v)) in
      record {
        users = λ v p has. omega (arith, has, many v, users v p);
        rooms = λ n p has. (let left = rooms n p refl in omega (arith, has, left));
        made = λ v.
            let now = ap (λ (a : Archives). (a.users v).made) is in
            let most = made_more (bytes_eq v user) ((archives_of t).users user) ((archives_of t).users v) peer text moment
            (λ same. ap (archives_of t).users (sym ((bytes_eq-Decides v user).0 same))) in
            omega (arith, now, most, many v);
        made_in = λ n. (let now = ap (λ (a : Archives). (a.rooms n).made) is in omega (arith, now));
        bytes = (let now = ap (λ (a : Archives). a.bytes) is in omega (arith, now));
      }

module _ (n : ℕ) (peer : Address) (text : List ℕ) (moment : ℕ) (t : archive.TableRecord) where
  abbrev row_in : stanza.Effect
  row_in = Set (change.RoomRow n peer text moment)

  abbrev filing_in : Filing
  filing_in = OfRoom n peer text moment

  one_in : length (rows_of_room n (Set (change.RoomRow n peer text moment) ∷ [])) ≡ 1
  one_in =
      rows_more (n == n) (record { peer = peer; text = text; moment = moment }) []
      ∙ ap (λ (b : Bool). (if b then 1 else 0) + 0) ((Decides-eqb n n).1 refl)

  pub room_ready : AreFilable (row_in ∷ []) t → IsReady filing_in t
  room_ready is = (let place = is.places.0 in omega (arith, place, one_in))

  pub room_numbered : AreFilable (row_in ∷ []) t → made_before filing_in (archives_of t) < 2 ^ 64 - 1
  room_numbered is = (let many = is.numbers.0.numbered in omega (arith, many, one_in))

  pub room_counted : AreFilable (row_in ∷ []) t → t.bytes + text_length filing_in < 2 ^ 64
  room_counted is = (let all = is.numbers.0.counted in omega (arith, all))

  pub room_leaves : (more : List stanza.Effect) (u : archive.TableRecord) → archives_of u ≡ filed filing_in (archives_of t)
      → ((v : List ℕ) (p : Address) → user_spare v p t ≤ user_spare v p u + user_rows v filing_in)
      → ((m : ℕ) (p : Address) → ends m filing_in ≡ false → room_spare m p t ≤ room_spare m p u + room_rows m filing_in)
      → Leaves row_in more t u
  room_leaves more u is users rooms =
      let said : Said = record { peer = peer; text = text; moment = moment } in
      let many : (m : ℕ) → length (rows_of_room m (row_in ∷ more)) ≡ (if m == n then 1 else 0) + length (rows_of_room m more) =
      (λ m. rows_more (n == m) said (rows_of_room m more)
      ∙ ap (λ (b : Bool). (if b then 1 else 0) + length (rows_of_room m more)) (flip n m)) in
      record {
        users = λ v p has. (let left = users v p in omega (arith, has, left));
        rooms = λ m p has. (let left = rooms m p refl in omega (arith, has, many m, left));
        made = λ v. (let now = ap (λ (a : Archives). (a.users v).made) is in omega (arith, now));
        made_in = λ m.
            let now = ap (λ (a : Archives). (a.rooms m).made) is in
            let most = made_more (m == n) ((archives_of t).rooms n) ((archives_of t).rooms m) peer text moment
            (λ same. ap (archives_of t).rooms (sym ((Decides-eqb m n).0 same))) in
            omega (arith, now, most, many m);
        bytes = (let now = ap (λ (a : Archives). a.bytes) is in omega (arith, now));
      }

-- a room is there no more

made_none : (b : Bool) (y : Rows) → (if b then no_rows else y).made ≤ y.made
made_none true y = omega arith
made_none false y = omega arith

pub gone_leaves : (n : ℕ) (t : archive.TableRecord) (more : List stanza.Effect) (u : archive.TableRecord)
    → archives_of u ≡ filed (NoRoom n) (archives_of t)
    → ((v : List ℕ) (p : Address) → user_spare v p t ≤ user_spare v p u + user_rows v (NoRoom n))
    → ((m : ℕ) (p : Address) → ends m (NoRoom n) ≡ false → room_spare m p t ≤ room_spare m p u + room_rows m (NoRoom n))
    → NoRowAfter (Set (change.RoomGone n) ∷ more) → Leaves (Set (change.RoomGone n)) more t u
gone_leaves n t more u is users rooms last = record {
  users = λ v p has. (let left = users v p in omega (arith, has, left));
  rooms = λ m p has. elim (eqb_tells m n) [
    | inl q ↦ (let none = ap length (ap (λ (k : ℕ). rows_of_room k more) q.1 ∙ last.0) in omega (arith, none))
    | inr q ↦ (let left = rooms m p q.0 in omega (arith, has, left))
  ];
  made = λ v. (let now = ap (λ (a : Archives). (a.users v).made) is in omega (arith, now));
  made_in = λ m.
      let now = ap (λ (a : Archives). (a.rooms m).made) is in
      let most = made_none (m == n) ((archives_of t).rooms m) in
      omega (arith, now, most);
  bytes = (let now = ap (λ (a : Archives). a.bytes) is in omega (arith, now));
}

-- another change of rooms
pub others_add : (c : Change) → is_of_archives c ≡ false → is_row (Set c) ≡ false
others_add (change.RoomRow n peer text moment) is = absurd (cc)
others_add c is = refl

-- of effects that can be filed, the first one can

first_rows : (e : stanza.Effect) (more : List stanza.Effect) (user : List ℕ)
    → length (rows_of_user user (e ∷ [])) ≤ length (rows_of_user user (e ∷ more))
first_rows (Keep other peer text moment) more user =
    let said : Said = record { peer = peer; text = text; moment = moment } in
    let one = rows_more (bytes_eq other user) said [] in
    let all = rows_more (bytes_eq other user) said (rows_of_user user more) in
    omega (arith, one, all)
first_rows e more user = omega arith

first_in : (e : stanza.Effect) (more : List stanza.Effect) (n : ℕ) → length (rows_of_room n (e ∷ [])) ≤ length (rows_of_room n (e ∷ more))
first_in (Set (change.RoomRow r peer text moment)) more n =
    let said : Said = record { peer = peer; text = text; moment = moment } in
    let one = rows_more (r == n) said [] in
    let all = rows_more (r == n) said (rows_of_room n more) in
    omega (arith, one, all)
first_in e more n = omega arith

first_place : (e x : stanza.Effect) (more : List stanza.Effect) (t : archive.TableRecord) → HasPlaces (e ∷ more) t x → HasPlaces (e ∷ []) t x
first_place e (Keep user peer text moment) more t has = (let less = first_rows e more user in omega (arith, has, less))
first_place e (Set (change.RoomRow n peer text moment)) more t has = (let less = first_in e more n in omega (arith, has, less))
first_place e x more t has = tt

first_number : (e x : stanza.Effect) (more : List stanza.Effect) (a : Archives) → HasNumbers (e ∷ more) a x → HasNumbers (e ∷ []) a x
first_number e (Keep user peer text moment) more a has = (let less = first_rows e more user in record {
  numbered = omega (arith, has.numbered, less);
  counted = omega (arith, has.counted);
})
first_number e (Set (change.RoomRow n peer text moment)) more a has = (let less = first_in e more n in record {
  numbered = omega (arith, has.numbered, less);
  counted = omega (arith, has.counted);
})
first_number e x more a has = tt

first_ends : (e : stanza.Effect) → NoRowAfter (e ∷ [])
first_ends (Set (change.RoomGone n)) = (refl, tt)
first_ends e = tt

pub filable_first : (e : stanza.Effect) (more : List stanza.Effect) (t : archive.TableRecord) → AreFilable (e ∷ more) t → AreFilable (e ∷ []) t
filable_first e more t is = record {
  places = (first_place e e more t is.places.0, tt);
  numbers = (first_number e e more (archives_of t) is.numbers.0, tt);
  ends = first_ends e;
}

-- the same of an effect that is a row, or takes an archive away

pub user_filed : (e : stanza.Effect) (user : List ℕ) (peer : Address) (text : List ℕ) (moment : ℕ) (t u : archive.TableRecord)
    → e ≡ Keep user peer text moment → archives_of u ≡ filed (OfUser user peer text moment) (archives_of t)
    → ((v : List ℕ) (p : Address) → user_spare v p t ≤ user_spare v p u + user_rows v (OfUser user peer text moment))
    → ((n : ℕ) (p : Address) → ends n (OfUser user peer text moment) ≡ false
    → room_spare n p t ≤ room_spare n p u + room_rows n (OfUser user peer text moment))
    → (more : List stanza.Effect) → AreFilable (e ∷ more) t → AreFilable more u
user_filed e user peer text moment t u is now users rooms more can =
    filable_left (Keep user peer text moment) more t u (user_leaves user peer text moment t more u now users rooms)
    (subst (λ (x : stanza.Effect). AreFilable (x ∷ more) t) is can)

pub room_filed : (c : Change) (n : ℕ) (peer : Address) (text : List ℕ) (moment : ℕ) (t u : archive.TableRecord)
    → c ≡ change.RoomRow n peer text moment → archives_of u ≡ filed (OfRoom n peer text moment) (archives_of t)
    → ((v : List ℕ) (p : Address) → user_spare v p t ≤ user_spare v p u + user_rows v (OfRoom n peer text moment))
    → ((m : ℕ) (p : Address) → ends m (OfRoom n peer text moment) ≡ false
    → room_spare m p t ≤ room_spare m p u + room_rows m (OfRoom n peer text moment))
    → (more : List stanza.Effect) → AreFilable (Set c ∷ more) t → AreFilable more u
room_filed c n peer text moment t u is now users rooms more can =
    filable_left (Set (change.RoomRow n peer text moment)) more t u (room_leaves n peer text moment t more u now users rooms)
    (subst (λ (x : Change). AreFilable (Set x ∷ more) t) is can)

pub gone_filed : (c : Change) (n : ℕ) (t u : archive.TableRecord) → c ≡ change.RoomGone n → archives_of u ≡ filed (NoRoom n) (archives_of t)
    → ((v : List ℕ) (p : Address) → user_spare v p t ≤ user_spare v p u + user_rows v (NoRoom n))
    → ((m : ℕ) (p : Address) → ends m (NoRoom n) ≡ false → room_spare m p t ≤ room_spare m p u + room_rows m (NoRoom n))
    → (more : List stanza.Effect) → AreFilable (Set c ∷ more) t → AreFilable more u
gone_filed c n t u is now users rooms more can =
    let can' : AreFilable (Set (change.RoomGone n) ∷ more) t = subst (λ (x : Change). AreFilable (Set x ∷ more) t) is can in
    filable_left (Set (change.RoomGone n)) more t u (gone_leaves n t more u now users rooms can'.ends) can'

pub gone_did : (a : code.World) (c : Change) (n : ℕ) (b : archive.TableRecord) → IsTied a.table → c ≡ change.RoomGone n
    → archives_of b ≡ filed (NoRoom n) (archives_of a.archives) → Did (but_rooms_of (Set c)) 0 a (record a { archives = b })
gone_did a c n b tied is now =
    subst (λ (x : Change). Did (but_rooms_of (Set x)) 0 a (record a { archives = b })) (sym is) (filed_did a (NoRoom n) b tied now)

-- no other change is one of archives
pub rows_are : (c : Change) → is_of_archives c ≡ true
    → ((n : ℕ) (peer : Address) (text : List ℕ) (moment : ℕ) → c ≡ change.RoomRow n peer text moment → ⊥) → ⊥
rows_are (change.RoomRow n peer text moment) is other = other n peer text moment refl
rows_are c is other = absurd (cc)

-- effects that are neither queued, nor kept, nor set
pub silent_adds : (e : stanza.Effect) → ((s : ℕ) (to rest : List ℕ) (origin : Origin) → e ≡ Queue s to rest origin → ⊥)
    → ((user : List ℕ) (peer : Address) (text : List ℕ) (moment : ℕ) → e ≡ Keep user peer text moment → ⊥)
    → ((c : Change) → e ≡ Set c → ⊥) → is_row e ≡ false
silent_adds (Queue s to rest origin) unqueued unkept unset = refl
silent_adds (Keep user peer text moment) unqueued unkept unset = absurd (unkept user peer text moment refl)
silent_adds (Set c) unqueued unkept unset = absurd (unset c refl)
silent_adds e unqueued unkept unset = refl

-- A change of what is kept of users.
use Rattle.std.proofs.Common.{◌≡◌, ◌⊎◌, inl, inr, ℕ, zero, suc, ◌+◌, ◌<◌, ◌≤◌, List, [], ◌∷◌, ◌++◌, drop, get_or, Bool, true}
use Rattle.std.proofs.Common.{false, not, length, refl, sym, ap, subst, arith, ◌∙◌, if◌then◌else◌}
use Rattle.std.specs.Prelude.{bytes_eq}
use Rattle.std.specs.List.{filter, list_any}
use Rattle.std.proofs.lemmas.List.{drop_all, drop_more}
use Rattle.stanza_model.specs.declared.effect.Change.{Change}
use Rattle.stanza_model.specs.declared.effect.Change.TheVariants as change
use Rattle.stanza_model.specs.declared.effect.Effect as stanza
use Rattle.stanza_model.specs.declared.effect.Effect.TheVariants.{Queue, Broadcast, Enter, Leave, Keep, Set}
use Rattle.contact_table.specs.Books.{Book, Pair, is_pair, noted, pair_of, user_of, with_pair}
use Rattle.contact_table.specs.Tables.{BookRecord, needed, spare}
use Rattle.archive_table.specs.Tables.{archives_of}
use Rattle.house_model.specs.Effects.{Effect, Note}
use Rattle.house_model.specs.Steps.{set}
use Rattle.house_world.specs.declared.world.World as code
use Rattle.house_world.specs.Views.{world_of}
use Rattle.house_world.specs.Keeping.{AreShortNames, IsShortChange}
use Rattle.house_world.specs.Marks.{is_of_users}
use Rattle.house_world.specs.Readiness.{changes_in, notes, notes_by}
use Rattle.house_world.specs.Wholes.{IsTied}
use Rattle.house_world.specs.Worlds.{Did, Stays}
use Rattle.house_world.proofs.WorldLemmas.{few_later}

one_at_most : (b : Bool) → (if b then 1 else 0) ≤ 1
one_at_most true = omega arith
one_at_most false = omega arith

-- an effect notes something of a user, or nothing
some_or_none : (n : ℕ) → (0 < n) ⊎ (n ≡ 0)
some_or_none zero = inr refl
some_or_none (suc n) = inl (omega arith)

-- names stay short
all_append : (ps qs : List Pair) → AreShortNames ps → AreShortNames qs → AreShortNames (ps ++ qs)
all_append [] qs a b = b
all_append (p ∷ ps) qs a b = (a.0, all_append ps qs a.1 b)

all_filtered : (test : Pair → Bool) (ps : List Pair) → AreShortNames ps → AreShortNames (filter test ps)
all_filtered test [] short = tt
all_filtered test (p ∷ ps) short = by (test p) (all_filtered test ps short.1)
  where
    by : (b : Bool) → AreShortNames (filter test ps) → AreShortNames (if b then p ∷ filter test ps else filter test ps)
    by true rest = (short.0, rest)
    by false rest = rest

pair_short : (p : Pair) (on : Bool) (ps : List Pair) → length p.a ≤ 1023 → AreShortNames ps → AreShortNames (with_pair p on ps)
pair_short p true ps small short = by (list_any (is_pair p) ps)
  where
    by : (b : Bool) → AreShortNames (if b then ps else ps ++ p ∷ [])
    by true = short
    by false = all_append ps (p ∷ []) short (small, tt)
pair_short p false ps small short = all_filtered (λ q. not (is_pair p q)) ps short

noted_short : (c : Change) (k : Book) → IsShortChange c → AreShortNames k.asked → AreShortNames (noted c k).asked
noted_short (change.Asked a b on) k small short = pair_short (pair_of a b) on k.asked small short
noted_short (change.Sees a b on) k small short = short
noted_short (change.Contact user address name groups) k small short = short
noted_short (change.NoContact user address) k small short = short
noted_short c k small short = short

-- a change of users is noted
note_is : (c : Change) → is_of_users c ≡ true → Note c ≡ set c
note_is (change.Contact user address name groups) is = refl
note_is (change.NoContact user address) is = refl
note_is (change.Sees a b on) is = refl
note_is (change.Asked a b on) is = refl
note_is (change.WantsRoster s) is = absurd (cc)
note_is (change.Pushed s pushes) is = absurd (cc)
note_is (change.Available s stanza priority) is = absurd (cc)
note_is (change.Unavailable s) is = absurd (cc)
note_is (change.Directed s addresses) is = absurd (cc)
note_is (change.RoomMade n address owner) is = absurd (cc)
note_is (change.RoomGone n) is = absurd (cc)
note_is (change.Unlocked n) is = absurd (cc)
note_is (change.Configured n config) is = absurd (cc)
note_is (change.Affiliated n address a) is = absurd (cc)
note_is (change.RoleSet n s role) is = absurd (cc)
note_is (change.Renamed n s nick) is = absurd (cc)
note_is (change.OccupantShown n s presence) is = absurd (cc)
note_is (change.Subject n text stamp) is = absurd (cc)
note_is (change.RoomRow n peer text moment) is = absurd (cc)

pub note_did : (a : code.World) (c : Change) (b : BookRecord) → IsTied a.table → is_of_users c ≡ true → IsShortChange c
    → b.book ≡ noted c a.book.book → b.domain ≡ a.book.domain → Did (set c ∷ []) 0 a (record a { book = b })
note_did a c b tied none small is same =
    subst (λ (e : Effect). Did (e ∷ []) 0 a (record a { book = b })) (note_is c none) (record {
      world = ap (λ (k : Book). world_of a.table a.answers.items k a.rooms (archives_of a.archives)) is;
      tied = tied;
      known = λ many users. users;
      few = λ turns few. few_later turns (turns + 0) a.table few (omega arith);
      lines = refl;
      answered = refl;
      kept = record {
        domain = same;
        names = λ short. subst (λ (k : Book). AreShortNames k.asked) (sym is) (noted_short c a.book.book small short);
      };
    })

pub stays_noted : (a : code.World) (b : BookRecord) → Stays a (record a { book = b })
stays_noted a b = record { logged = λ w c u at. (at, refl); there = λ n is. is; over = λ n is. is; spare = refl }

-- no change is noted twice for a user
some_at_most : (user : List ℕ) (c : Change) → needed user c ≤ (if is_of_users c then 1 else 0)
some_at_most user (change.Contact u address name groups) = one_at_most (list_any (bytes_eq user) (u ∷ []))
some_at_most user (change.NoContact u address) = one_at_most (list_any (bytes_eq user) (u ∷ []))
some_at_most user (change.Sees a b on) = one_at_most (list_any (bytes_eq user) (user_of a ∷ user_of b ∷ []))
some_at_most user (change.Asked a b on) = one_at_most (list_any (bytes_eq user) (user_of a ∷ user_of b ∷ []))
some_at_most user c = omega arith

pub notes_at_most : (user : List ℕ) (es : List stanza.Effect) → notes user es ≤ changes_in es
notes_at_most user [] = omega arith
notes_at_most user (Queue s to rest origin ∷ more) = omega (arith, notes_at_most user more)
notes_at_most user (Set c ∷ more) = omega (arith, some_at_most user c, notes_at_most user more)
notes_at_most user (Broadcast n item ∷ more) = omega (arith, notes_at_most user more)
notes_at_most user (Enter n s address nick role ∷ more) = omega (arith, notes_at_most user more)
notes_at_most user (Leave n s ∷ more) = omega (arith, notes_at_most user more)
notes_at_most user (Keep other peer text moment ∷ more) = omega (arith, notes_at_most user more)

-- an effect more has places, and each one before it still has
pub places_step : (user : List ℕ) (all : List stanza.Effect) (i many : ℕ) (e d : stanza.Effect) (old new : BookRecord)
    → i < length all → e ≡ get_or all i d
    → (0 < notes_by user e → many ≤ spare user new)
    → spare user old ≤ spare user new
    → (notes user (drop i all) < notes user all → many ≤ spare user old)
    → notes user (drop (i + 1) all) < notes user all → many ≤ spare user new
places_step user all i many e d old new low is taken keeps before less =
    let first : notes user (drop i all) ≡ notes_by user e + notes user (drop (i + 1) all) =
    ap (notes user) (drop_more all i d low)
    ∙ ap (λ (x : stanza.Effect). notes_by user x + notes user (drop (i + 1) all)) (sym is) in
    elim (some_or_none (notes_by user e)) [
      | inl some ↦ taken some
      | inr none ↦ (let had = before (omega (arith, first, none, less)) in omega (arith, had, keeps))
    ]

-- after the last one each has its places
pub places_all : (user : List ℕ) (all : List stanza.Effect) (i : ℕ) (b : BookRecord) → length all ≤ i
    → (notes user (drop i all) < notes user all → changes_in all ≤ spare user b) → notes user all ≤ spare user b
places_all user all i b last taken =
    let none : notes user (drop i all) ≡ 0 = ap (notes user) (drop_all i all last) in
    elim (some_or_none (notes user all)) [
      | inl some ↦ (let had = taken (omega (arith, none, some)) in omega (arith, had, notes_at_most user all))
      | inr nothing ↦ omega (arith, nothing)
    ]

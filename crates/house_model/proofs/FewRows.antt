-- A turn adds one row to an archive, at most.
use Rattle.std.proofs.Common.{◌≡◌, ◌≤◌, ℕ, ◌+◌, ◌==◌, List, [], ◌∷◌, length, arith, refl, sym, ap, ◌∙◌, subst, Bool, true, false, if◌then◌else◌}
use Rattle.std.proofs.lemmas.Bool.{eqb-true}
use Rattle.stanza_model.specs.declared.effect.Change.{Change}
use Rattle.stanza_model.specs.declared.effect.Change.TheVariants as change
use Rattle.stanza_model.specs.declared.effect.Effect as stanza
use Rattle.stanza_model.specs.declared.effect.Effect.TheVariants as effect
use Rattle.archive_table.specs.Archives.{Archives, Rows, Said, no_rows, with_row}
use Rattle.house_model.specs.declared.event.Event.{Event}
use Rattle.house_model.specs.declared.event.Event.TheVariants as event
use Rattle.house_model.specs.Archiving.{AddsFew, HaveFewRows, rows_of_room, rows_of_user}
use Rattle.house_model.specs.Histories.{IsOpening, Made, Outcome, Short, Turn, after, next, next_by}
use Rattle.house_model.specs.Routing.{scene_of}
use Rattle.house_model.specs.States.{State, keep, keep_world}
use Rattle.house_model.specs.Steps.{turn, verdict}
use Rattle.house_model.proofs.CastVerdicts.{IsCast, archives_are, verdict_cast}
use Rattle.house_model.proofs.FiledRows.{all_in, grown, kept_in, set_in, user_rows}
use Rattle.house_model.proofs.GoneRooms.{number_turned}
use Rattle.house_model.proofs.KeptRows.{quiet_few, stanza_kept}
use Rattle.house_model.proofs.Unkept.{kept_none}

grown_made : (ms : List Said) (x : Rows) → (grown ms x).made ≡ x.made + length ms
grown_made [] x = omega arith
grown_made (m ∷ ms) x =
    let later : (grown ms (with_row m.peer m.text m.moment x)).made ≡ (x.made + 1) + length ms = grown_made ms (with_row m.peer m.text m.moment x) in
    omega (arith, later)

abbrev AtMost : Archives → Archives → ℕ → ℕ → Type 0
AtMost new old n more = (new.rooms n).made ≤ (old.rooms n).made + more

at_most_then : (new mid old : Archives) (n more first all : ℕ) → AtMost new mid n more → (mid.rooms n).made ≤ (old.rooms n).made + first
    → first + more ≤ all → AtMost new old n all
at_most_then new mid old n more first all one two total = omega (arith, one, two, total)

row_made : (m n : ℕ) (of : ℕ → Rows) (s : Said) (b : Bool) → (m == n) ≡ b
    → (if b then with_row s.peer s.text s.moment (of m) else of n).made ≤ (of n).made + length (if b then s ∷ [] else [])
row_made m n of s true is =
    let same : (of m).made ≡ (of n).made = ap (λ (k : ℕ). (of k).made) (eqb-true m n is) in
    omega (arith, same)
row_made m n of s false is = omega arith

more_if : (b : Bool) (s : Said) (ms : List Said) → length (if b then s ∷ [] else []) + length ms ≤ length (if b then s ∷ ms else ms)
more_if true s ms = omega arith
more_if false s ms = omega arith

gone_made : (b : Bool) (x : Rows) → (if b then no_rows else x).made ≤ x.made + 0
gone_made true x = omega arith
gone_made false x = omega arith

rooms_made : (es : List stanza.Effect) (a : Archives) (n : ℕ) → AtMost (all_in es a) a n (length (rows_of_room n es))
rooms_made [] a n = omega arith
rooms_made (effect.Set (change.RoomRow m peer text moment) ∷ es) a n =
    let s : Said = record { peer = peer; text = text; moment = moment } in
    let e : Change = change.RoomRow m peer text moment in
    at_most_then (all_in es (set_in e a)) (set_in e a) a n (length (rows_of_room n es)) (length (if m == n then s ∷ [] else [])) _
    (rooms_made es (set_in e a) n)
    (subst (λ (b : Bool). (if b then with_row peer text moment (a.rooms m) else a.rooms n).made
    ≤ (a.rooms n).made + length (if m == n then s ∷ [] else []))
    (number_turned m n) (row_made m n a.rooms s (m == n) refl))
    (more_if (m == n) s (rows_of_room n es))
rooms_made (effect.Set (change.RoomGone m) ∷ es) a n =
    let e : Change = change.RoomGone m in
    at_most_then (all_in es (set_in e a)) (set_in e a) a n (length (rows_of_room n es)) 0 _ (rooms_made es (set_in e a) n)
    (gone_made (n == m) (a.rooms n)) (omega arith)
rooms_made (effect.Set c ∷ es) a n = rooms_made es a n
rooms_made (effect.Queue s to rest origin ∷ es) a n = rooms_made es a n
rooms_made (effect.Broadcast m item ∷ es) a n = rooms_made es a n
rooms_made (effect.Enter m s address nick role ∷ es) a n = rooms_made es a n
rooms_made (effect.Leave m s ∷ es) a n = rooms_made es a n
rooms_made (effect.Keep user peer text moment ∷ es) a n = rooms_made es (kept_in (effect.Keep user peer text moment) a) n

one_more : (a b n most : ℕ) → a ≤ b + n → n ≤ 1 → b ≤ most → a ≤ most + 1
one_more a b n most one few low = omega (arith, one, few, low)

pub all_few : (es : List stanza.Effect) (a : Archives) (most : ℕ) → AddsFew es → HaveFewRows most a → HaveFewRows (most + 1) (all_in es a)
all_few es a most few have = record {
  users = λ user.
      let made : ((all_in es a).users user).made ≡ (a.users user).made + length (rows_of_user user es) =
      ap (λ (x : Rows). x.made) (user_rows es a user) ∙ grown_made (rows_of_user user es) (a.users user) in
      one_more _ (a.users user).made (length (rows_of_user user es)) most (omega (arith, made)) (few.users user) (have.users user);
  rooms = λ n. one_more _ (a.rooms n).made (length (rows_of_room n es)) most (rooms_made es a n) (few.rooms n) (have.rooms n);
}

more_few : (a : Archives) (most : ℕ) → HaveFewRows most a → HaveFewRows (most + 1) a
more_few a most have = record {
  users = λ user. (let low : (a.users user).made ≤ most = have.users user in omega (arith, low));
  rooms = λ n. (let low : (a.rooms n).made ≤ most = have.rooms n in omega (arith, low));
}

turn_few : (st : State) (e : Event) (outcome : Outcome) (most : ℕ) → HaveFewRows most st.world.archives
    → HaveFewRows (most + 1) (next_by st e outcome).world.archives
turn_few st e (Made reply text) most have =
    let is : IsCast AddsFew st.world (verdict (keep (turn e st)) e).effects =
    verdict_cast st e AddsFew (kept_none [] tt).few (λ s. quiet_few (keep_world st.world) s)
    (λ w c s t x same bound. (stanza_kept (scene_of (keep (turn (event.Act w x t) st))) s x).few) in
    subst (HaveFewRows (most + 1)) (sym (archives_are AddsFew st.world (verdict (keep (turn e st)) e).effects is))
    (all_few is.told st.world.archives most is.holds have)
turn_few st e Short most have = more_few st.world.archives most have

few_after : (h : List Turn) (st : State) (most : ℕ) → HaveFewRows most st.world.archives → HaveFewRows (most + length h) (after st h).world.archives
few_after [] st most have = subst (λ (n : ℕ). HaveFewRows n st.world.archives) (omega arith) have
few_after (x ∷ h) st most have =
    subst (λ (n : ℕ). HaveFewRows n (after (next st x) h).world.archives) (omega arith)
    (few_after h (next st x) (most + 1) (turn_few st x.event x.outcome most have))

none_before : (n : ℕ) → 0 + n ≡ n
none_before n = omega arith

pub few_rows : (o : State) (h : List Turn) → IsOpening o → HaveFewRows (length h) (after o h).world.archives
few_rows o h starts =
    subst (λ (n : ℕ). HaveFewRows n (after o h).world.archives) (none_before (length h))
    (few_after h o 0 (subst (λ (st : State). HaveFewRows 0 st.world.archives) (sym starts.4)
    (record { users = λ user. omega arith; rooms = λ n. omega arith })))

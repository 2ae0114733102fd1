-- Room that is taken for a sorted list of sessions, one run of equal numbers after another.
use Rattle.std.proofs.Common.{◌≡◌, inl, inr, ℕ, ◌+◌, ◌<◌, ◌≤◌, ◌==◌, List, [], ◌∷◌, take, get_or, length, refl, sym, ap, subst, ◌∙◌, arith}
use Rattle.std.specs.Prelude.{if◌then◌else◌, OnOk, Result}
use Rattle.std.specs.List.Sorted.{IsNonDecreasing, IsPermutation}
use Rattle.std.proofs.lemmas.Bool.{eq-eqb, ne_eqb}
use Rattle.std.proofs.lemmas.Bool.Decides.{eqb_tells}
use Rattle.std.proofs.lemmas.List.{take_all}
use Rattle.std.proofs.lemmas.List.Sorted.{sum_by-IsPermutation}
use Rattle.std.proofs.lemmas.List.Sums.{sum_by-cons, count_by_more_yes, count_by_more_no}
use Rattle.stanza_model.specs.declared.effect.Effect.{Effect}
use Rattle.stanza_model.specs.declared.effect.Effect.TheVariants.{Queue, Broadcast, Enter, Leave, Keep, Set}
use Rattle.session_table.specs.Tables.{TableRecord}
use Rattle.house_world.specs.declared.world.World as code
use Rattle.house_world.specs.Readiness.{AreReady, needed, queued_for, times}
use Rattle.house_world.specs.Wholes.{HasSpare}
use Rattle.house_world.proofs.ActLemmas.{on_ok}

-- what effects queue for a session is how often it is in the list
times_needed : (s : ℕ) (effects : List Effect) → times s (queued_for effects) ≡ needed s effects
times_needed s [] = refl
times_needed s (Queue r to rest origin ∷ more) =
    sum_by-cons _ r (queued_for more) ∙ ap (λ (n : ℕ). (if s == r then 1 else 0) + n) (times_needed s more)
times_needed s (Set change ∷ more) = (let same = times_needed s more in omega (arith, same))
times_needed s (Broadcast n item ∷ more) = (let same = times_needed s more in omega (arith, same))
times_needed s (Enter n r address nick role ∷ more) = (let same = times_needed s more in omega (arith, same))
times_needed s (Leave n r ∷ more) = (let same = times_needed s more in omega (arith, same))
times_needed s (Keep user peer text moment ∷ more) = (let same = times_needed s more in omega (arith, same))

-- in whatever order
pub ready_sorted : {A E : Type 0} (result : Result A E) (effects : List Effect) (found sorted : List ℕ) (t : TableRecord)
    → found ≡ queued_for effects → IsPermutation found sorted → OnOk result ((s : ℕ) → HasSpare (times s sorted) s t)
    → OnOk result (AreReady effects t)
ready_sorted result effects found sorted t is moved room =
    on_ok result (λ has s. subst (λ (n : ℕ). HasSpare n s t)
    (sum_by-IsPermutation _ found sorted moved ∙ (ap (times s) is ∙ times_needed s effects)) (has s)) room

-- one place more
module _ (xs : List ℕ) (i s : ℕ) (here : i < length xs) where
  times_here : s ≡ get_or xs i 0 → times s (take (i + 1) xs) ≡ times s (take i xs) + 1
  times_here same = count_by_more_yes (λ r. s == r) xs i 0 here (eq-eqb s (get_or xs i 0) same)

  times_else : (s ≡ get_or xs i 0 → ⊥) → times s (take (i + 1) xs) ≡ times s (take i xs)
  times_else other = count_by_more_no (λ r. s == r) xs i 0 here (ne_eqb s (get_or xs i 0) other)

-- The last number up to a place, and how often it is there. It is the greatest, none of those after it is less, and there is room for the
-- others.
pub record Taken (xs : List ℕ) (i last run : ℕ) (t : TableRecord) : Type 0 where
  pub count : times last (take i xs) ≡ run
  pub above : (s : ℕ) → last < s → times s (take i xs) ≡ 0
  pub low : (j : ℕ) → i ≤ j → j < length xs → last ≤ get_or xs j 0
  pub room : (s : ℕ) → (s ≡ last → ⊥) → HasSpare (times s (take i xs)) s t

pub taken_none : (xs : List ℕ) (t : TableRecord) → Taken xs 0 0 0 t
taken_none xs t = record {
  count = refl;
  above = λ s more. refl;
  low = λ j before here. omega arith;
  room = λ s other x at. omega arith;
}

-- there is room for all up to a place, once it is taken for the last one
pub room_for_all : (xs : List ℕ) (i last run : ℕ) (old new : TableRecord) → Taken xs i last run old → HasSpare run last new
    → ((n s : ℕ) → HasSpare n s old → HasSpare n s new) → (s : ℕ) → HasSpare (times s (take i xs)) s new
room_for_all xs i last run old new was has keeps s = elim (eqb_tells s last) [
  | inl p ↦
      subst (λ (k : ℕ). HasSpare (times k (take i xs)) k new) (sym p.1)
      (subst (λ (n : ℕ). HasSpare n last new) (sym was.count) has)
  | inr p ↦ keeps (times s (take i xs)) s (was.room s p.1)
]

module _ (xs : List ℕ) (i last run : ℕ) (old : TableRecord) (sorted : IsNonDecreasing xs) (here : i < length xs) (was : Taken xs i last run old) where
  abbrev x : ℕ
  x = get_or xs i 0

  -- the number again
  pub taken_again : x ≡ last → Taken xs (i + 1) last (run + 1) old
  taken_again same = record {
    count = times_here xs i last here (sym same) ∙ ap (λ (n : ℕ). n + 1) was.count;
    above = λ s more. times_else xs i s here (λ e. (let both = e ∙ same in omega (arith, more, both))) ∙ was.above s more;
    low = λ j before there. was.low j (omega (arith, before)) there;
    room = λ s other. subst (λ (n : ℕ). HasSpare n s old) (sym (times_else xs i s here (λ e. other (e ∙ same)))) (was.room s other);
  }

  -- another, once the room for the last one is taken
  pub taken_next : (new : TableRecord) → (x ≡ last → ⊥) → HasSpare run last new → ((n s : ℕ) → HasSpare n s old → HasSpare n s new)
      → Taken xs (i + 1) x 1 new
  taken_next new other has keeps =
      let least : last ≤ x = was.low i (omega arith) here in
      let more : last < x = elim (eqb_tells x last) [ inl p ↦ absurd (other p.1) | inr p ↦ omega (arith, least, p.1) ] in
      record {
        count = times_here xs i x here refl ∙ ap (λ (n : ℕ). n + 1) (was.above x more);
        above = λ s above. times_else xs i s here (λ e. omega (arith, above, e)) ∙ was.above s (omega (arith, more, above));
        low = λ j before there. sorted i j 0 (omega (arith, before)) there;
        room = λ s apart. subst (λ (n : ℕ). HasSpare n s new) (sym (times_else xs i s here apart))
            (room_for_all xs i last run old new was has keeps s);
      }

-- after a turn of the loop
pub taken_with : (xs : List ℕ) (i last last' run run' : ℕ) (a b : code.World) → a ≡ b → last ≡ last' → run ≡ run'
    → Taken xs i last' (run' + 1) b.table → Taken xs i last (run + 1) a.table
taken_with xs i last last' run run' a b world number times' taken =
    subst (λ (z : code.World). Taken xs i last (run + 1) z.table) (sym world)
    (subst (λ (n : ℕ). Taken xs i n (run + 1) b.table) (sym number)
    (subst (λ (n : ℕ). Taken xs i last' (n + 1) b.table) (sym times') taken))

-- and at its end
pub taken_all : {A E : Type 0} (result : Result A E) (xs : List ℕ) (i last run : ℕ) (old new : TableRecord) → length xs ≤ i
    → Taken xs i last run old → OnOk result (HasSpare run last new) → ((n s : ℕ) → HasSpare n s old → HasSpare n s new)
    → OnOk result ((s : ℕ) → HasSpare (times s xs) s new)
taken_all result xs i last run old new ends was room keeps =
    on_ok result (λ has s. subst (λ (ys : List ℕ). HasSpare (times s ys) s new) (take_all i xs ends)
    (room_for_all xs i last run old new was has keeps s)) room

-- What a queue stands for, as stanzas come, are sent and are done with.
use Rattle.std.proofs.Common.{◌≡◌, ℕ, ◌+◌, ◌-◌, ◌≤◌, List, ◌∷◌, length, drop, Option, Some, None, Ok, arith, refl, ap, subst, ◌∙◌}
use Rattle.std.proofs.lemmas.List.{drop-drop}
use Rattle.std.proofs.lemmas.List.Sums.{sum_by-cons}
use Rattle.std.specs.Option.{option_map}
use Rattle.stanza_tree.specs.declared.frame.Entry.{Entry}
use Rattle.stanza_tree.specs.Entries.{frame}
use Rattle.sm_counters.specs.Numbers.{number}
use Rattle.sm_counters.proofs.CountLaws.{number-some}
use Rattle.sm_queue.specs.Queues.{Queue, frames_length, without}
use Rattle.sm_queue.specs.Wholes.{Acks, AcksUpTo, IsPlaceOf, Rewinds, RewindsTo, StandsFor}

pub frames_of_cons : (e : Entry) (es : List Entry) → frames_length (e ∷ es) ≡ length (frame e) + frames_length es
frames_of_cons e es = sum_by-cons (λ e. length (frame e)) e es

-- n stanzas more are done with
pub stands_without : (all : List Entry) (base kept sent n : ℕ) (q : Queue) → StandsFor all base kept sent q
    → kept + n ≤ sent → StandsFor all base (kept + n) sent (without n q)
stands_without all base kept sent n q stands within = record {
  began = omega (arith, stands.began);
  in_order = within;
  within = stands.within;
  rest = ap (drop n) stands.rest ∙ drop-drop n kept all;
  given = omega (arith, stands.given);
  counted = omega (arith, stands.counted, stands.began);
}

-- what was sent is to be sent again
pub stands_resent : (all : List Entry) (base kept sent : ℕ) (q : Queue) → StandsFor all base kept sent q
    → StandsFor all base kept kept (record q { given = 0 })
stands_resent all base kept sent q stands = record {
  began = stands.began;
  in_order = omega arith;
  within = omega (arith, stands.in_order, stands.within);
  rest = stands.rest;
  given = omega arith;
  counted = stands.counted;
}

module _ (all : List Entry) (base kept sent h n : ℕ) (q : Queue) (stands : StandsFor all base kept sent q) (within : n ≤ q.given) where
  -- n stanzas more are done with, up to the number m
  stands_at : (m : ℕ) → number (kept - base) (sent - base) h ≡ Some m → n ≡ m - (kept - base)
      → StandsFor all base (base + m) sent (without n q)
  stands_at m at place =
      let is = number-some (kept - base) (sent - base) h m at in
      let place_of : kept + n ≡ base + m = omega (arith, is.low, stands.began) in
      subst (λ (k : ℕ). StandsFor all base k sent (without n q)) place_of
      (stands_without all base kept sent n q stands (omega (arith, stands.given, stands.in_order)))

  pub acks_up_to : IsPlaceOf base kept sent h (Some n) → Acks all base kept sent h q (without n q) (Ok tt)
  acks_up_to place = by (number (kept - base) (sent - base) h) refl place
    where
      by : (o : Option ℕ) → number (kept - base) (sent - base) h ≡ o
          → Some n ≡ option_map (λ m. m - (kept - base)) o → AcksUpTo o all base kept sent h q (without n q) (Ok tt)
      by None at place = cc
      by (Some m) at place =
          let same : n ≡ m - (kept - base) = cc in
          (refl, stands_at m at same)

  pub rewinds_to : IsPlaceOf base kept sent h (Some n)
      → Rewinds all base kept sent h q (record (without n q) { given = 0 }) (Ok tt)
  rewinds_to place = by (number (kept - base) (sent - base) h) refl place
    where
      by : (o : Option ℕ) → number (kept - base) (sent - base) h ≡ o
          → Some n ≡ option_map (λ m. m - (kept - base)) o
          → RewindsTo o all base kept sent h q (record (without n q) { given = 0 }) (Ok tt)
      by None at place = cc
      by (Some m) at place =
          let same : n ≡ m - (kept - base) = cc in
          (refl, stands_resent all base (base + m) sent (without n q) (stands_at m at same))

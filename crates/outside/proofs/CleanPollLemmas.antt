-- The places of a poller that never fails.
use Rattle.std.proofs.Common.{◌≡◌, ◌<◌, ◌+◌, ◌||◌, ℕ, zero, suc, List, Bool, true, false, not, nat_lt, arith, cond, drop, get_or, length, length-drop}
use Rattle.std.proofs.Common.{ltb-false, ltb-true, replicate, refl, ap, sym, subst, ◌∙◌}
use Rattle.std.proofs.lemmas.List.{get_or-drop}
use Rattle.std.proofs.lemmas.List.Quantifiers.{position-Some}
use Rattle.std.proofs.lemmas.List.Sums.{fails_before_first}
use Rattle.std.proofs.lemmas.Option.{none-some}
use Rattle.std.specs.List.{position, position_or_len}
use Rattle.std.specs.Prelude.{Option, Some, None}
use Rattle.outside.specs.declared.poller.Ring.{Ring}
use Rattle.outside.specs.declared.poller.Ring.TheVariants as ring
use Rattle.outside.specs.Doors.{reached}
use Rattle.outside.specs.Links.{CleanLinkState}
use Rattle.outside.specs.Polls.{CleanPollerState, CleanRings, IsFresh, IsNew, Rings, SeatState, can_ring, first_taken, from_turn, next_taken, open_by}
use Rattle.outside.specs.Polls.{open_place, seat_at, seats_in, untold_seat, unused}
use Rattle.outside.specs.Posts.{Each}
use Rattle.outside.proofs.PollLemmas.{is_new, not_true, same_seats}

-- a place by its number
abbrev IsAt : (taken : Bool) → List SeatState → ℕ → Type 0
IsAt taken places k = (k < length places) × ((seat_at places k).taken ≡ taken)

-- where no place is open, none is free, unless the quota is reached
open_at : (b : Bool) (places : List SeatState) (k : ℕ) → open_by b places ≡ Some k → (b ≡ false) × IsAt false places k
open_at true places k e = absurd (none-some k e)
open_at false places k e =
    let found = position-Some (λ (s : SeatState). not s.taken) places k (unused 0) e in
    (refl, (found.0, not_true (seat_at places k).taken found.1))

taken_at : (places : List SeatState) (k : ℕ) → first_taken places ≡ Some k → IsAt true places k
taken_at places k e = let found = position-Some (λ (s : SeatState). s.taken) places k (unused 0) e in (found.0, found.1)

some_same : (a b : ℕ) → Some a ≡ Some b → a ≡ b
some_same a b e = cc

turn_at : (places : List SeatState) (turn k : ℕ) (after : Option ℕ) → first_taken (drop turn places) ≡ after → from_turn turn after (first_taken places) ≡ Some k
    → IsAt true places k
turn_at places turn k None none e = taken_at places k e
turn_at places turn k (Some n) found e =
    let here : turn + n ≡ k = some_same (turn + n) k e in
    let at : IsAt true (drop turn places) n = taken_at (drop turn places) n found in
    subst (λ j. IsAt true places j) here
    (omega (arith, at.0, length-drop turn places), sym (ap (λ (s : SeatState). s.taken) (get_or-drop turn places n (unused 0))) ∙ at.1)

pub open_there : (v : CleanPollerState) (k : ℕ) → open_place v ≡ Some k → k < length v.places
open_there v k e = (open_at (reached v.quota v.links) v.places k e).1.0

pub turn_there : (v : CleanPollerState) (k : ℕ) → next_taken v ≡ Some k → k < length v.places
turn_there v k e = (turn_at v.places v.turn k (first_taken (drop v.turn v.places)) refl e).0

-- where a test passes at no place, it fails at each
nothing : (b : Bool) (k : ℕ) → cond b (Some k) None ≡ None → b ≡ false
nothing true k e = absurd (none-some k (sym e))
nothing false k e = refl

nowhere : (p : SeatState → Bool) (places : List SeatState) (j : ℕ) (d : SeatState) → position p places ≡ None → j < length places → p (get_or places j d) ≡ false
nowhere p places j d e less =
    let all = ltb-false (position_or_len p places) (length places) (nothing (nat_lt (position_or_len p places) (length places)) (position_or_len p places) e) in
    fails_before_first p places j d (omega (arith, all, less))

no_turn : (turn : ℕ) (after first : Option ℕ) → from_turn turn after first ≡ None → first ≡ None
no_turn turn (Some n) first e = absurd (none-some (turn + n) (sym e))
no_turn turn None first e = e

none_taken : (v : CleanPollerState) (j : ℕ) → next_taken v ≡ None → j < length v.places → (seat_at v.places j).taken ≡ false
none_taken v j e less =
    nowhere (λ (s : SeatState). s.taken) v.places j (unused 0) (no_turn v.turn (first_taken (drop v.turn v.places)) (first_taken v.places) e) less

-- where there is no place for a link and none is taken, the quota is reached
is_reached : (b : Bool) (v : CleanPollerState) → open_by b v.places ≡ None → next_taken v ≡ None → (b || nat_lt 0 (length v.places)) ≡ true → b ≡ true
is_reached true v none e can = refl
is_reached false v none e can =
    let some = ltb-true 0 (length v.places) can in
    let free : not (seat_at v.places 0).taken ≡ false = nowhere (λ (s : SeatState). not s.taken) v.places 0 (unused 0) none some in
    let taken : (seat_at v.places 0).taken ≡ false = none_taken v 0 e some in
    absurd (let both : not false ≡ false = sym (ap not taken) ∙ free in let f : true ≡ false = both in cc)

abbrev RingsAt : CleanPollerState → CleanPollerState → Ring CleanLinkState → Type 0
RingsAt v w result = Rings CleanLinkState (length v.places) v.quota (seats_in v.places v.links) (seats_in w.places w.links) result

pub new_rings : (v w : CleanPollerState) (result : Ring CleanLinkState) (k : ℕ) → open_place v ≡ Some k → CleanRings (Some k) None v w result → RingsAt v w result
new_rings v w result k o p =
    let at = open_at (reached v.quota v.links) v.places k o in
    subst (λ r. RingsAt v w r) (sym p.0)
    (subst (λ (x : CleanPollerState). IsNew (length v.places) v.quota k (seats_in v.places v.links) (seats_in x.places x.links)) (sym p.1)
    (is_new v.places v.quota v.links _ _ k at.1.0 at.0 at.1.1 refl refl))

pub ready_rings : (v w : CleanPollerState) (result : Ring CleanLinkState) (k : ℕ) → next_taken v ≡ Some k → CleanRings None (Some k) v w result → RingsAt v w result
ready_rings v w result k t p =
    let at = turn_at v.places v.turn k (first_taken (drop v.turn v.places)) refl t in
    subst (λ r. RingsAt v w r) (sym p.0)
    (at.0, at.1, same_seats v.places v.links w.places w.links (ap (λ (x : CleanPollerState). x.places) p.1) (ap (λ (x : CleanPollerState). x.links) p.1))

pub shut_rings : (v : CleanPollerState) → open_place v ≡ None → next_taken v ≡ None → can_ring v ≡ true → RingsAt v v ring.Shut
shut_rings v o t can =
    (is_reached (reached v.quota v.links) v o t can, λ j less. none_taken v j t less, same_seats v.places v.links v.places v.links refl refl)

-- places to which no link came
pub fresh_untold : (n : ℕ) → Each SeatState IsFresh (replicate n untold_seat)
fresh_untold zero = tt
fresh_untold (suc n) = ((refl, refl, tt), fresh_untold n)

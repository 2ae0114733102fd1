-- What stands at the places of a poller in memory.
use Rattle.std.proofs.Common.{◌≡◌, ◌<◌, ◌&&◌, ℕ, zero, suc, List, [], ◌∷◌, Bool, true, false, not, nat_lt, arith, get_or, length, set}
use Rattle.std.proofs.Common.{ltb-true, replicate, refl, ap, sym, subst, ◌∙◌}
use Rattle.std.proofs.lemmas.List.{get_or-set_same, get_or-set_other, length-set}
use Rattle.std.proofs.Math.ListN.{get_or-map}
use Rattle.std.proofs.Math.Seq.{map-set_same}
use Rattle.std.specs.Prelude.{Option, Some}
use Rattle.outside.specs.declared.poller.Ring.{Ring}
use Rattle.outside.specs.declared.poller.Rung.{Rung}
use Rattle.outside.specs.declared.poller.Rung.TheVariants as rung
use Rattle.outside.specs.Doors.{reached}
use Rattle.outside.specs.Links.{LinkState}
use Rattle.outside.specs.Plans.{Plan, called, failed, fails_next, raised}
use Rattle.outside.specs.Polls.{AreSame, HandsTo, IsFresh, IsNew, Plays, PollerState, SeatState, Waits, all_free, is_done, is_free_at, is_taken_at}
use Rattle.outside.specs.Polls.{may_come, seat_at, seats_in, took_up, unused}
use Rattle.outside.specs.Posts.{Each}
use Rattle.outside.specs.Tapes.{Mark}

pub both : (a b : Bool) → (a && b) ≡ true → (a ≡ true) × (b ≡ true)
both true b e = (refl, e)
both false b e = absurd (let f : false ≡ true = e in cc)

pub not_true : (a : Bool) → not a ≡ true → a ≡ false
not_true true e = absurd (let f : false ≡ true = e in cc)
not_true false e = refl

-- a proof for each value of a test
pub either : {X : Type 0} (b : Bool) → (b ≡ true → X) → (b ≡ false → X) → X
either true p q = p refl
either false p q = q refl

-- where all are free none is taken
pub none_taken : (places : List SeatState) (j : ℕ) → all_free places ≡ true → (seat_at places j).taken ≡ false
none_taken [] j e = refl
none_taken (s ∷ more) zero e = not_true s.taken (both (not s.taken) (all_free more) e).0
none_taken (s ∷ more) (suc j) e = none_taken more j (both (not s.taken) (all_free more) e).1

-- a free place is there
pub free_there : (places : List SeatState) (k : ℕ) → is_free_at places k ≡ true → (k < length places) × ((seat_at places k).taken ≡ false)
free_there places k e =
    let parts : (nat_lt k (length places) ≡ true) × (not (seat_at places k).taken ≡ true) = both (nat_lt k (length places)) (not (seat_at places k).taken) e in
    (ltb-true k (length places) parts.0, not_true (seat_at places k).taken parts.1)

-- a link came to a place
pub is_new : (places : List SeatState) (quota links : ℕ) (ps : List SeatState) (n k : ℕ) → k < length places → reached quota links ≡ false
    → (seat_at places k).taken ≡ false → ps ≡ set places k (took_up (seat_at places k)) → n ≡ raised links
    → IsNew (length places) quota k (seats_in places links) (seats_in ps n)
is_new places quota links ps n k less more free is counted =
    let here : SeatState = took_up (seat_at places k) in
    record {
      place = less;
      more = more;
      free = free;
      takes = ap (λ (l : List SeatState). (seat_at l k).taken) is ∙ ap (λ (s : SeatState). s.taken) (get_or-set_same places k here (unused 0) less);
      counted = ap (λ (l : List SeatState). (seat_at l k).came) is ∙ ap (λ (s : SeatState). s.came) (get_or-set_same places k here (unused 0) less);
      links = counted;
      others = λ j apart.
          ap (λ (l : List SeatState). (seat_at l j).taken) is ∙ ap (λ (s : SeatState). s.taken) (get_or-set_other places k j here (unused 0) apart);
      others_came = λ j apart.
          ap (λ (l : List SeatState). (seat_at l j).came) is ∙ ap (λ (s : SeatState). s.came) (get_or-set_other places k j here (unused 0) apart);
    }

-- a place by its number, whatever stands for one that isn't there
pub there_same : (places : List SeatState) (k : ℕ) (s d : SeatState) → k < length places → get_or places k s ≡ get_or places k d
there_same [] k s d less = absurd (omega (arith, less))
there_same (x ∷ more) zero s d less = refl
there_same (x ∷ more) (suc k) s d less = there_same more k s d (omega (arith, less))

pub changed : (ps places : List SeatState) (k : ℕ) (s s' : SeatState) → ps ≡ places → k < length places → s ≡ get_or ps k s → s' ≡ took_up s
    → set ps k s' ≡ set places k (took_up (seat_at places k))
changed ps places k s s' same less value is =
    let here : s ≡ seat_at places k = value ∙ (ap (λ (l : List SeatState). get_or l k s) same ∙ there_same places k s (unused 0) less) in
    ap (λ (l : List SeatState). set l k s') same ∙ ap (λ (x : SeatState). set places k x) (is ∙ ap took_up here)

pub same_seats : (places : List SeatState) (links : ℕ) (ps : List SeatState) (n : ℕ) → ps ≡ places → n ≡ links
    → AreSame (seats_in places links) (seats_in ps n)
same_seats places links ps n same counted = record {
  taken = λ j. ap (λ (l : List SeatState). (seat_at l j).taken) same;
  came = λ j. ap (λ (l : List SeatState). (seat_at l j).came) same;
  links = counted;
}

-- what a wait leaves as it is, before it is told
pub record IsKept (v w : PollerState) : Type 0 where
  pub places : length w.places ≡ length v.places
  pub quota : w.quota ≡ v.quota
  pub rung : w.rung ≡ v.rung
  pub tapes : (j : ℕ) → (seat_at w.places j).tapes ≡ (seat_at v.places j).tapes

kept_all : (v w : PollerState) (plan : Plan) (script : List Rung) → w ≡ record v { plan = plan; script = script } → IsKept v w
kept_all v w plan script is =
    subst (λ (x : PollerState). IsKept v x) (sym is) (record { places = refl; quota = refl; rung = refl; tapes = λ j. refl })

abbrev tapes_of : SeatState → Option (List (List Mark))
tapes_of s = s.tapes

-- a place that is taken keeps its tapes
tapes_taken : (places : List SeatState) (k j : ℕ) → (seat_at (set places k (took_up (seat_at places k))) j).tapes ≡ (seat_at places j).tapes
tapes_taken places k j =
    sym (get_or-map tapes_of (set places k (took_up (seat_at places k))) j (unused 0))
    ∙ ap (λ (ts : List (Option (List (List Mark)))). get_or ts j (Some [])) (map-set_same tapes_of places k (took_up (seat_at places k)) (unused 0) refl)
    ∙ get_or-map tapes_of places j (unused 0)

kept_taken : (v w : PollerState) (plan : Plan) (script : List Rung) (left : List LinkState) (k : ℕ)
    → w ≡ record v { plan = plan; script = script; left = left; places = set v.places k (took_up (seat_at v.places k)); links = raised v.links } → IsKept v w
kept_taken v w plan script left k is =
    subst (λ (x : PollerState). IsKept v x) (sym is)
    (record { places = length-set v.places k (took_up (seat_at v.places k)); quota = refl; rung = refl; tapes = λ j. tapes_taken v.places k j })

hands_keep : (left : List LinkState) (k : ℕ) (v w : PollerState) (script : List Rung) (result : Ring LinkState)
    → HandsTo left k (record v { script = script }) w result → IsKept v w
hands_keep [] k v w script result p = kept_all v w (failed v.plan) script p.1
hands_keep (l ∷ ls) k v w script result p = kept_taken v w (called v.plan) script ls k p.1

plays_keep : (script : List Rung) (v w : PollerState) (result : Ring LinkState) → Plays script v w result → IsKept v w
plays_keep [] v w result p = kept_all v w (failed v.plan) v.script p.1
plays_keep (rung.New k ∷ more) v w result p =
    either (may_come v k) (λ e. hands_keep v.left k v w more result (p.0 e)) (λ e. kept_all v w (failed v.plan) more (p.1 e).1)
plays_keep (rung.Ready k ∷ more) v w result p =
    either (is_taken_at v.places k) (λ e. kept_all v w (called v.plan) more (p.0 e).1) (λ e. kept_all v w (failed v.plan) more (p.1 e).1)
plays_keep (rung.Shut ∷ more) v w result p = kept_all v w (failed v.plan) more p.1
plays_keep (rung.Failed ∷ more) v w result p = kept_all v w (failed v.plan) more p.1

pub waits_keep : (v w : PollerState) (result : Ring LinkState) → Waits v w result → IsKept v w
waits_keep v w result p =
    either (is_done v) (λ e. kept_all v w (called v.plan) v.script (p.0 e).1)
    (λ e. either (fails_next v.plan) (λ f. kept_all v w (failed v.plan) v.script (p.1 e f).1) (λ f. plays_keep v.script v w result (p.2 e f)))

-- places to which no link came
pub fresh_places : (n room : ℕ) → Each SeatState IsFresh (replicate n (unused room))
fresh_places zero room = tt
fresh_places (suc n) room = ((refl, refl, refl), fresh_places n room)

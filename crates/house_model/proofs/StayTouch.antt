-- What an operation on a session leaves of its stays: one that queues no item, and the push of an item.
use Rattle.std.proofs.Common.{◌≡◌, ℕ, ◌&&◌, not, List, [], ◌∷◌, ◌++◌, length, sym, refl, ap, ◌∙◌, subst, inl, inr, Bool, true, false, Option, Some}
use Rattle.std.proofs.lemmas.Bool.{cases_eq, ne_eqb}
use Rattle.jid_core.specs.Addresses.{Address}
use Rattle.stanza_tree.specs.declared.frame.Entry.{Entry}
use Rattle.stanza_tree.specs.declared.frame.Origin.{Origin}
use Rattle.stanza_tree.specs.declared.frame.Origin.TheVariants.{Direct, Opening, Live}
use Rattle.house_model.specs.Numbered.{put}
use Rattle.house_model.specs.Sessions.{Hold, Held, Away, Ended, Gone, Rest, Session, Op, Push, step_if, session_step, pushed}
use Rattle.house_model.specs.Traffic.{Traffic, whole}
use Rattle.house_model.specs.Casts.{IsNotLive}
use Rattle.house_model.specs.Stays.{Item, Stay, Logs, closed, closes, takes_entries, stops, is_of, live_of, view_of, own}
use Rattle.house_model.proofs.StayLemmas.{Fine, no_growth, Grows, grows_all, stay_moves, stay_rests, stay_hears, live_else, own_closed}
use Rattle.house_model.proofs.SeatLemmas.{seat, two}
use Rattle.house_model.proofs.QueueSteps.{Tells, session_tells}
use Rattle.house_model.proofs.StayGood.{Hall, AllFine, AllPlaced, GoodBy, ending, ending_here, own_spared, other_good}

goes_on : (b c : Bool) → (b && not c) ≡ false → b ≡ true → c ≡ true
goes_on true true h e = refl
goes_on true false h e = absurd (let z : true ≡ false = h in cc)
goes_on false c h e = absurd (let z : false ≡ true = e in cc)

-- the same stay in other words
refine : (order : ℕ → List Item) (seats : ℕ → Option ℕ) (s : ℕ) (a a' : Address) (live live' : Bool) (q q' : List Entry) (i : ℕ) (t t' : Stay)
    → a' ≡ a → live' ≡ live → q' ≡ q → t' ≡ t → Fine order seats s a live q i t → Fine order seats s a' live' q' i t'
refine order seats s a a' live live' q q' i t t' ea el eq et fine =
    subst (λ (z : Address). Fine order seats s z live' q' i t') (sym ea)
    (subst (λ (z : Bool). Fine order seats s a z q' i t') (sym el)
    (subst (λ (z : List Entry). Fine order seats s a live z i t') (sym eq)
    (subst (λ (z : Stay). Fine order seats s a live q i z) (sym et) fine)))

-- a session that queues no item: its open stays go on, or end
pub quiet_fine : (order : ℕ → List Item) (hall : Hall) (s : ℕ) (x y : Session Traffic) (all : ℕ → Stay)
    → y.rest.address ≡ x.rest.address → ((i : ℕ) → live_of i y.traffic.queued ≡ live_of i x.traffic.queued)
    → AllFine order hall s x all → AllFine order hall s y (λ i. closed (ending s x y) order (all i))
quiet_fine order hall s x y all address same fine i =
    let seats : ℕ → Option ℕ = λ r. seat s (hall.seats r) in
    refine order seats s x.rest.address y.rest.address (takes_entries y) (takes_entries y) y.traffic.queued y.traffic.queued i
    (closed (ending s x y) order (own s (all i))) (own s (closed (ending s x y) order (all i)))
    address refl refl (own_closed s (ending s x y) order (all i))
    (stay_moves order order order seats seats s x.rest.address (takes_entries x) (takes_entries y) x.traffic.queued y.traffic.queued i (ending s x y)
    (no_growth order) (λ r. refl) (same i) (own s (all i))
    (λ r a is apart seated alive. (refl, seated, goes_on (takes_entries x) (takes_entries y) (sym (ending_here s x y r) ∙ apart) alive))
    (fine i))

push_if : (has b : Bool) (m : Hold) (t : Traffic) (r : Rest) (e : Entry)
    → takes_entries (pushed whole has b m t r e) ≡ true → (pushed whole has b m t r e).traffic.queued ≡ t.queued ++ e ∷ []
push_if true b m t r e h = refl
push_if false b m t r e h = absurd (let z : false ≡ true = h in cc)

push_step : (b : Bool) (m : Hold) (t : Traffic) (r : Rest) (e : Entry)
    → takes_entries (step_if whole b m t r (Push e)) ≡ true → (step_if whole b m t r (Push e)).traffic.queued ≡ t.queued ++ e ∷ []
push_step b (Held v d) t r e h = push_if (whole.has_room t e) b (Held v d) t r e h
push_step true Away t r e h = push_if (whole.has_room t e) true Away t r e h
push_step false Away t r e h = absurd (let z : false ≡ true = h in cc)
push_step b (Ended cause) t r e h = absurd (let z : false ≡ true = h in cc)
push_step b Gone t r e h = absurd (let z : false ≡ true = h in cc)

-- a session that takes entries still has the entry that is pushed
push_kept : (x : Session Traffic) (e : Entry) → takes_entries (session_step whole x (Push e)) ≡ true
    → (session_step whole x (Push e)).traffic.queued ≡ x.traffic.queued ++ e ∷ []
push_kept x e = push_step x.counts x.hold x.traffic x.rest e

-- and one that doesn't has none
push_lost : (x : Session Traffic) (e : Entry) → takes_entries (session_step whole x (Push e)) ≡ false
    → (session_step whole x (Push e)).traffic.queued ≡ x.traffic.queued
push_lost x e over = elim (session_tells x (Push e)).queue as (λ _. (session_step whole x (Push e)).traffic.queued ≡ x.traffic.queued) [
  | inl same ↦ same
  | inr k ↦ absurd (let z : true ≡ false = sym k.2 ∙ over in cc)
]

-- a session that has a seat in the room is given the item's view: it takes it, or ends, or is over already
pub push_fine : (order order' : ℕ → List Item) (hall : Hall) (s n i : ℕ) (item : Item) (x : Session Traffic) (all : ℕ → Stay)
    → Grows n item order order' → seat s (hall.seats n) ≡ Some i → AllPlaced hall s x all → AllFine order hall s x all
    → AllFine order' hall s (session_step whole x (Push (view_of n i s x.rest.address (length (order n)) item)))
    (λ j. closed (ending s x (session_step whole x (Push (view_of n i s x.rest.address (length (order n)) item)))) order (all j))
push_fine order order' hall s n i item x all grows seated placed fine j =
    let e : Entry = view_of n i s x.rest.address (length (order n)) item in
    let y : Session Traffic = session_step whole x (Push e) in
    let seats : ℕ → Option ℕ = λ r. seat s (hall.seats r) in
    let tells : Tells x.counts x.hold x.traffic x.rest (Push e) y = session_tells x (Push e) in
    elim (two (takes_entries y)) as (λ _. Fine order' seats s y.rest.address (takes_entries y) y.traffic.queued j (own s (closed (ending s x y) order (all j)))) [
      | inl alive ↦ (
          let was : takes_entries x ≡ true = tells.stops alive in
          let goes : stops x y ≡ false = rw (was, alive) refl in
          let stay : own s (closed (ending s x y) order (all j)) ≡ own s (all j) = own_spared s (ending s x y) order (all j) (λ r. ending_here s x y r
          ∙ goes) in
          refine order' seats s x.rest.address y.rest.address (takes_entries x) (takes_entries y) (x.traffic.queued ++ e ∷ []) y.traffic.queued j
          (own s (all j)) (own s (closed (ending s x y) order (all j)))
          tells.address (alive ∙ sym was) (push_kept x e alive) stay
          (elim (cases_eq i j) as (λ _. Fine order' seats s x.rest.address (takes_entries x) (x.traffic.queued ++ e ∷ []) j (own s (all j))) [
            | inl same ↦ subst (λ (k : ℕ). Fine order' seats s x.rest.address (takes_entries x) (x.traffic.queued ++ e ∷ []) k (own s (all k))) same
                (stay_hears order order' seats s n (length (order n)) item x.rest.address (takes_entries x) x.traffic.queued i (own s (all i)) grows refl
                (placed n i seated ∙ was) (fine i))
            | inr ne ↦ stay_rests order order' seats seats s x.rest.address (takes_entries x) (takes_entries x) x.traffic.queued (x.traffic.queued ++ e ∷ []) j
                (own s (all j)) (grows_all n item order order' grows)
                (live_else j x.traffic.queued e (ne_eqb i j ne))
                (λ r a is seated' alive'. (
                  grows.1 r (λ (q : r ≡ n). ne (let z : seat s (hall.seats n) ≡ Some j = subst (λ (k : ℕ). seat s (hall.seats k) ≡ Some j) q seated' in cc)),
                  seated',
                  alive',
                ))
                (fine j)
          ]))
      | inr over ↦
          refine order' seats s x.rest.address y.rest.address (takes_entries y) (takes_entries y) y.traffic.queued y.traffic.queued j
          (closed (ending s x y) order (own s (all j))) (own s (closed (ending s x y) order (all j)))
          tells.address refl refl (own_closed s (ending s x y) order (all j))
          (stay_moves order order order' seats seats s x.rest.address (takes_entries x) (takes_entries y) x.traffic.queued y.traffic.queued j (ending s x y)
          (grows_all n item order order' grows) (λ r. refl) (ap (live_of j) (push_lost x e over)) (own s (all j))
          (λ r a is apart seated' alive. absurd (
          let bad : stops x y ≡ true = rw (alive, over) refl in
          let z : true ≡ false = sym bad ∙ (sym (ending_here s x y r) ∙ apart) in cc))
          (fine j))
    ]

not_of : (i : ℕ) (origin : Origin) → IsNotLive origin → is_of i origin ≡ false
not_of i Direct h = refl
not_of i (Opening r j) h = refl
not_of i (Live r j k) h = absurd h

-- an operation that pushes no item
abbrev pub PushesNoItem : Op → Type 0
PushesNoItem op = (e : Entry) → op ≡ Push e → IsNotLive e.origin

pub same_live : (x : Session Traffic) (op : Op) → PushesNoItem op → (i : ℕ) → live_of i (session_step whole x op).traffic.queued ≡ live_of i x.traffic.queued
same_live x op none i = elim (session_tells x op).queue as (λ _. live_of i (session_step whole x op).traffic.queued ≡ live_of i x.traffic.queued) [
  | inl same ↦ ap (live_of i) same
  | inr k ↦ ap (live_of i) k.3 ∙ live_else i x.traffic.queued k.0 (not_of i k.0.origin (none k.0 k.1))
]

pub quiet_good : (made : ℕ) (sessions : ℕ → Session Traffic) (hall : Hall) (logs : Logs) (s : ℕ) (op : Op) → PushesNoItem op
    → GoodBy (λ _. logs.order) made sessions hall logs
    → GoodBy (λ _. logs.order) made (put s (session_step whole (sessions s) op) sessions) hall
    (closes (ending s (sessions s) (session_step whole (sessions s) op)) logs)
quiet_good made sessions hall logs s op none good =
    let x : Session Traffic = sessions s in
    let y : Session Traffic = session_step whole x op in
    let tells : Tells x.counts x.hold x.traffic x.rest op y = session_tells x op in
    other_good (λ _. logs.order) (λ _. logs.order) made sessions hall logs s y tells.address tells.stops tells.quiet
    (quiet_fine logs.order hall s x y logs.stays tells.address (same_live x op none) (good.fine s))
    (λ j ne r. refl) good

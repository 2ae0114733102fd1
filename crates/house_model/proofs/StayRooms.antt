-- What becomes of a room keeps what holds of all stays: an item, a session that enters, some that leave, and a new room.
use Rattle.std.proofs.Common.{◌≡◌, ◌⊎◌, ℕ, ◌+◌, ◌-◌, ◌≤◌, ◌==◌, List, [], ◌∷◌, ◌++◌, length, take, drop, sym, refl, ap, ◌∙◌, subst, inl, inr, arith}
use Rattle.std.proofs.Common.{Bool, true, false, Option, Some, None}
use Rattle.std.proofs.lemmas.Bool.{cases_eq, eqb-true, eq-eqb, ne_eqb}
use Rattle.std.proofs.lemmas.List.{length-append, drop_all}
use Rattle.jid_core.specs.Addresses.{Address}
use Rattle.stanza_tree.specs.declared.frame.Entry.{Entry}
use Rattle.stanza_model.specs.declared.room.Seat.{Seat}
use Rattle.house_model.specs.Numbered.{put}
use Rattle.house_model.specs.Sessions.{Session}
use Rattle.house_model.specs.Traffic.{Traffic}
use Rattle.house_model.specs.Stays.{Item, Stay, Unmade, Open, Ended, Logs, closed, closes, begins, takes_entries, live_of, views, own}
use Rattle.house_model.proofs.StayLemmas.{choose, put_same, put_other, put_both, Fine, no_growth, stay_moves, stay_rests, is_open_in, own_closed}
use Rattle.house_model.proofs.SeatLemmas.{seat, AreDistinct, EachSeat, each_by, each_insert, seat_insert_other, seat_insert_here, distinct_insert}
use Rattle.house_model.proofs.HallLemmas.{IsInserted}
use Rattle.house_model.proofs.StayGood.{Hall, AllFine, IsSeated, IsCounted, GoodBy}

-- an item more in a room's order, when each session has heard it

abbrev pub longer : ℕ → Item → (ℕ → List Item) → ℕ → List Item
longer n x order = put n (order n ++ x ∷ []) order

pub item_good : (made : ℕ) (sessions : ℕ → Session Traffic) (hall : Hall) (logs : Logs) (n k : ℕ) (x : Item) → hall.items n ≡ Some k
    → GoodBy (λ _. longer n x logs.order) made sessions hall logs
    → GoodBy (λ _. longer n x logs.order) made sessions (record hall { items = put n (Some (k + 1)) hall.items })
    (record logs { order = longer n x logs.order })
item_good made sessions hall logs n k x is good =
    let grown : longer n x logs.order n ≡ logs.order n ++ x ∷ [] = put_same n (logs.order n ++ x ∷ []) logs.order in
    let count : k ≡ length (logs.order n) = subst (IsCounted (length (logs.order n))) is (good.counted n) in
    record {
      fine = good.fine;
      placed = good.placed;
      seated = good.seated;
      distinct = good.distinct;
      counted = put_both (λ r (v : Option ℕ). IsCounted (length (longer n x logs.order r)) v) n (Some (k + 1)) hall.items
          (let len : length (longer n x logs.order n) ≡ length (logs.order n) + 1 = ap length grown ∙ length-append (logs.order n) (x ∷ []) in omega arith)
          (λ r ne. subst (λ (l : List Item). IsCounted (length l) (hall.items r)) (sym (put_other n (logs.order n ++ x ∷ []) logs.order r ne))
          (good.counted r));
      later = good.later;
      fresh = λ r above.
          let old : (hall.items r ≡ None) × (logs.order r ≡ []) = good.fresh r above in
          let ne : r ≡ n → ⊥ = λ (e : r ≡ n). (let z : Some k ≡ None = sym is ∙ (ap hall.items (sym e) ∙ old.0) in cc) in
          (put_other n (Some (k + 1)) hall.items r ne ∙ old.0, put_other n (logs.order n ++ x ∷ []) logs.order r ne ∙ old.1);
      unmade = good.unmade;
    }

-- some sessions leave a room, or the room is there no more

open_spared : (j r : ℕ) (among : ℕ → ℕ → Bool) (order : ℕ → List Item) (t : Stay) → among j r ≡ false
    → is_open_in r (own j (closed among order t)) ≡ is_open_in r (own j t)
open_spared j r among order t spared = ap (is_open_in r) (own_closed j among order t) ∙ same t where
  same : (t : Stay) → is_open_in r (closed among order (own j t)) ≡ is_open_in r (own j t)
  same Unmade = refl
  same (Ended p k a e) = choose (λ (t : Stay). is_open_in r (closed among order t) ≡ is_open_in r t) (p == j) (Ended p k a e) Unmade (λ (_ : _). refl)
      (λ (_ : _). refl)
  same (Open p k a) =
      choose (λ (t : Stay). is_open_in r (closed among order t) ≡ is_open_in r t) (p == j) (Open p k a) Unmade
      (λ (e : _).
      choose (λ (t : Stay). is_open_in r t ≡ (k == r)) (among p k) (Ended p k a (length (order k))) (Open p k a)
      (λ (f : among p k ≡ true). sym (ne_eqb k r (λ (q : k ≡ r).
      let g : among p k ≡ false = ap (λ (z : ℕ). among z k) (eqb-true p j e) ∙ (ap (among j) q ∙ spared) in
      (let z : true ≡ false = sym f ∙ g in cc))))
      (λ (_ : _). refl))
      (λ (_ : _). refl)

module _ (made : ℕ) (sessions : ℕ → Session Traffic) (hall : Hall) (logs : Logs) (n : ℕ) (left : List Seat) (items : ℕ → Option ℕ) (among : ℕ → ℕ → Bool)
    (were : (j i : ℕ) → seat j left ≡ Some i → (seat j (hall.seats n) ≡ Some i) × (among j n ≡ false))
    (are : (j i : ℕ) → seat j (hall.seats n) ≡ Some i → among j n ≡ false → seat j left ≡ Some i)
    (spared : (j r : ℕ) → (r ≡ n → ⊥) → among j r ≡ false)
    (each : EachSeat (IsSeated made sessions hall.stays) left)
    (apart : AreDistinct left)
    (fewer : (r : ℕ) → (items r ≡ hall.items r) ⊎ (items r ≡ None)) where
  seat_was : (r j i : ℕ) → seat j (put n left hall.seats r) ≡ Some i → (seat j (hall.seats r) ≡ Some i) × (among j r ≡ false)
  seat_was = put_both (λ r (l : List Seat). (j i : ℕ) → seat j l ≡ Some i → (seat j (hall.seats r) ≡ Some i) × (among j r ≡ false)) n left hall.seats were
      (λ r ne j i at. (at, spared j r ne))

  seat_is : (r j i : ℕ) → seat j (hall.seats r) ≡ Some i → among j r ≡ false → seat j (put n left hall.seats r) ≡ Some i
  seat_is = put_both (λ r (l : List Seat). (j i : ℕ) → seat j (hall.seats r) ≡ Some i → among j r ≡ false → seat j l ≡ Some i) n left hall.seats are
      (λ r ne j i at _. at)

  pub fewer_good : GoodBy (λ _. logs.order) made sessions hall logs
      → GoodBy (λ _. logs.order) made sessions (record hall { seats = put n left hall.seats; items = items }) (closes among logs)
  fewer_good good = record {
    fine = λ j i.
        subst (Fine logs.order (λ r. seat j (put n left hall.seats r)) j (sessions j).rest.address (takes_entries (sessions j)) (sessions j).traffic.queued i)
        (sym (own_closed j among logs.order (logs.stays i)))
        (stay_moves logs.order logs.order logs.order (λ r. seat j (hall.seats r)) (λ r. seat j (put n left hall.seats r)) j (sessions j).rest.address
        (takes_entries (sessions j)) (takes_entries (sessions j))
        (sessions j).traffic.queued (sessions j).traffic.queued i among (no_growth logs.order) (λ r. refl) refl (own j (logs.stays i))
        (λ r a is outside seated alive. (refl, seat_is r j i seated outside, alive))
        (good.fine j i));
    placed = λ j r i at. open_spared j r among logs.order (logs.stays i) (seat_was r j i at).1 ∙ good.placed j r i (seat_was r j i at).0;
    seated = put_both (λ r (l : List Seat). EachSeat (IsSeated made sessions hall.stays) l) n left hall.seats each (λ r _. good.seated r);
    distinct = put_both (λ r (l : List Seat). AreDistinct l) n left hall.seats apart (λ r _. good.distinct r);
    counted = λ r. elim (fewer r) as (λ _. IsCounted (length (logs.order r)) (items r)) [
      | inl same ↦ subst (IsCounted (length (logs.order r))) (sym same) (good.counted r)
      | inr none ↦ subst (IsCounted (length (logs.order r))) (sym none) tt
    ];
    later = λ i above. ap (closed among logs.order) (good.later i above);
    fresh = λ r above.
        let old : (hall.items r ≡ None) × (logs.order r ≡ []) = good.fresh r above in
        ((elim (fewer r) as (λ _. items r ≡ None) [ inl same ↦ same ∙ old.0 | inr none ↦ none ]), old.1);
    unmade = good.unmade;
  }

-- a room more, which has broadcast nothing
pub made_good : (made : ℕ) (sessions : ℕ → Session Traffic) (hall : Hall) (logs : Logs)
    → GoodBy (λ _. logs.order) made sessions hall logs
    → GoodBy (λ _. logs.order) made sessions (record hall { items = put (hall.made + 1) (Some 0) hall.items; made = hall.made + 1 }) logs
made_good made sessions hall logs good = record {
  fine = good.fine;
  placed = good.placed;
  seated = good.seated;
  distinct = good.distinct;
  counted = put_both (λ r (v : Option ℕ). IsCounted (length (logs.order r)) v) (hall.made + 1) (Some 0) hall.items
      (sym (ap length (good.fresh (hall.made + 1) (omega arith)).1)) (λ r _. good.counted r);
  later = good.later;
  fresh = λ r above.
      let old : (hall.items r ≡ None) × (logs.order r ≡ []) = good.fresh r (omega arith) in
      (put_other (hall.made + 1) (Some 0) hall.items r (λ (e : r ≡ hall.made + 1). absurd (omega arith)) ∙ old.0, old.1);
  unmade = good.unmade;
}

-- a session enters

pub seat_each : (P : Seat → Type 0) (s i : ℕ) (os : List Seat) → EachSeat P os → seat s os ≡ Some i → (o : Seat) × (P o) × (o.session ≡ s) × (o.stay ≡ i)
seat_each P s i [] h at = absurd (let z : None ≡ Some i = at in cc)
seat_each P s i (o ∷ os) h at =
    elim (cases_eq o.session s) as (λ _. (o : Seat) × (P o) × (o.session ≡ s) × (o.stay ≡ i)) [
      | inl e ↦ (let t : (o.session == s) ≡ true = eq-eqb o.session s e in let z : Some o.stay ≡ Some i =
          rw t at at in (o, h.0, e, (let w : o.stay ≡ i = cc in w)))
      | inr ne ↦ (let t : (o.session == s) ≡ false = ne_eqb o.session s ne in seat_each P s i os h.1 (rw t at at))
    ]

own_begins_else : (j s : ℕ) (live : Bool) (n a : ℕ) → (j ≡ s → ⊥) → own j (begins live s n a) ≡ Unmade
own_begins_else j s true n a ne = let t : (s == j) ≡ false = ne_eqb s j (λ q. ne (sym q)) in rw t refl
own_begins_else j s false n a ne = let t : (s == j) ≡ false = ne_eqb s j (λ q. ne (sym q)) in rw t refl

own_begins : (s : ℕ) (live : Bool) (n a : ℕ) → own s (begins live s n a) ≡ begins live s n a
own_begins s true n a = let t : (s == s) ≡ true = eq-eqb s s refl in rw t refl
own_begins s false n a = let t : (s == s) ≡ true = eq-eqb s s refl in rw t refl

begins_open : (live : Bool) (s n a : ℕ) → is_open_in n (begins live s n a) ≡ live
begins_open true s n a = eq-eqb n n refl
begins_open false s n a = refl

new_fine : (order : ℕ → List Item) (seats : ℕ → Option ℕ) (s n i : ℕ) (address : Address) (live : Bool) (q : List Entry)
    → seats n ≡ Some i → live_of i q ≡ [] → Fine order seats s address live q i (begins live s n (length (order n)))
new_fine order seats s n i address true q is none =
    (refl, omega arith, none ∙ sym (ap (views n i s address (length (order n))) (drop_all (length (order n)) (order n) (omega arith))), is, refl)
new_fine order seats s n i address false q is none =
    let a : ℕ = length (order n) in
    (omega arith, omega arith, none ∙ sym (let z : a - a ≡ 0 = omega arith in ap (λ (k : ℕ). views n i s address a (take k (drop a (order n)))) z))

module _ (made : ℕ) (sessions : ℕ → Session Traffic) (hall : Hall) (logs : Logs) (n s : ℕ) (x : Seat) (room : List Seat)
    (here : x.session ≡ s) (stay : x.stay ≡ hall.stays + 1) (address : x.address ≡ (sessions s).rest.address)
    (below : s ≤ made)
    (out : seat s (hall.seats n) ≡ None)
    (joins : IsInserted x (hall.seats n) room) where
  abbrev pub k : ℕ
  k = hall.stays + 1

  abbrev pub t : Stay
  t = begins (takes_entries (sessions s)) s n (length (logs.order n))

  out' : seat x.session (joins.before ++ joins.after) ≡ None
  out' = subst (λ (j : ℕ). seat j (joins.before ++ joins.after) ≡ None) (sym here) (sym (ap (seat s) joins.old) ∙ out)

  sits : seat s room ≡ Some k
  sits =
      ap (seat s) joins.new
      ∙ (subst (λ (j : ℕ). seat j (joins.before ++ x ∷ joins.after) ≡ Some x.stay) here (seat_insert_here joins.before joins.after x out')
      ∙ ap (λ (z : ℕ). Some z) stay)

  other : (j : ℕ) → (j ≡ s → ⊥) → seat j room ≡ seat j (hall.seats n)
  other j ne = ap (seat j) joins.new ∙ (seat_insert_other j joins.before joins.after x (λ q. ne (q ∙ here)) ∙ sym (ap (seat j) joins.old))

  -- a seat that there was is there
  seat_stays : (j r i : ℕ) → seat j (hall.seats r) ≡ Some i → seat j (put n room hall.seats r) ≡ Some i
  seat_stays j = put_both (λ r (l : List Seat). (i : ℕ) → seat j (hall.seats r) ≡ Some i → seat j l ≡ Some i) n room hall.seats
      (λ i at. other j (λ (e : j ≡ s). let z : None ≡ Some i = sym out ∙ (ap (λ (m : ℕ). seat m (hall.seats n)) (sym e) ∙ at) in cc) ∙ at)
      (λ r ne i at. at)

  -- a seat is the new one, or there was one
  seat_came : (r j i : ℕ) → seat j (put n room hall.seats r) ≡ Some i → ((r ≡ n) × (j ≡ s) × (i ≡ k)) ⊎ (seat j (hall.seats r) ≡ Some i)
  seat_came = put_both (λ r (l : List Seat). (j i : ℕ) → seat j l ≡ Some i → ((r ≡ n) × (j ≡ s) × (i ≡ k)) ⊎ (seat j (hall.seats r) ≡ Some i)) n room hall.seats
      (λ j i at. elim (cases_eq j s) as (λ _. ((n ≡ n) × (j ≡ s) × (i ≡ k)) ⊎ (seat j (hall.seats n) ≡ Some i)) [
        | inl e ↦ (let at' : Some k ≡ Some i = sym sits ∙ (ap (λ (m : ℕ). seat m room) (sym e) ∙ at) in inl (refl, e, (let w : k ≡ i = cc in sym w)))
        | inr ne ↦ inr (sym (other j ne) ∙ at)
      ])
      (λ r _ j i at. inr at)

  module _ (good : GoodBy (λ _. logs.order) made sessions hall logs) where
    unmade_yet : logs.stays k ≡ Unmade
    unmade_yet = good.later k (omega arith)

    none_of_it : (j : ℕ) → live_of k (sessions j).traffic.queued ≡ []
    none_of_it j = subst (λ (z : Stay). Fine logs.order (λ r. seat j (hall.seats r)) j (sessions j).rest.address (takes_entries (sessions j))
        (sessions j).traffic.queued k (own j z)) unmade_yet (good.fine j k)

    old_stay : (r j i : ℕ) → seat j (hall.seats r) ≡ Some i → i ≡ k → ⊥
    old_stay r j i at e =
        let f = seat_each (IsSeated made sessions hall.stays) j i (hall.seats r) (good.seated r) at in
        let low : f.0.stay ≤ hall.stays = f.1.1 in
        let same : f.0.stay ≡ i = f.3 in
        let big : i ≡ hall.stays + 1 = e in
        absurd (omega arith)

    fine_new : (j : ℕ) → Fine logs.order (λ r. seat j (put n room hall.seats r)) j (sessions j).rest.address (takes_entries (sessions j))
        (sessions j).traffic.queued k (own j t)
    fine_new j = elim (cases_eq j s) as
        (λ _. Fine logs.order (λ r. seat j (put n room hall.seats r)) j (sessions j).rest.address (takes_entries (sessions j)) (sessions j).traffic.queued k
        (own j t)) [
          | inl e ↦ subst (λ (m : ℕ). Fine logs.order (λ r. seat m (put n room hall.seats r)) m (sessions m).rest.address (takes_entries (sessions m))
              (sessions m).traffic.queued k (own m t)) (sym e)
              (subst (Fine logs.order (λ r. seat s (put n room hall.seats r)) s (sessions s).rest.address (takes_entries (sessions s))
              (sessions s).traffic.queued
              k) (sym (own_begins s (takes_entries (sessions s)) n (length (logs.order n))))
              (new_fine logs.order (λ r. seat s (put n room hall.seats r)) s n k (sessions s).rest.address (takes_entries (sessions s))
              (sessions s).traffic.queued
              (ap (seat s) (put_same n room hall.seats) ∙ sits) (none_of_it s)))
          | inr ne ↦ subst (Fine logs.order (λ r. seat j (put n room hall.seats r)) j (sessions j).rest.address (takes_entries (sessions j))
              (sessions j).traffic.queued k) (sym (own_begins_else j s (takes_entries (sessions s)) n (length (logs.order n)) ne))
              (none_of_it j)
        ]

    fine_all : (j : ℕ) → AllFine logs.order (record hall { seats = put n room hall.seats; stays = hall.stays + 1 }) j (sessions j)
        (put (hall.stays + 1) t logs.stays)
    fine_all j = put_both (λ i (z : Stay). Fine logs.order (λ r. seat j (put n room hall.seats r)) j (sessions j).rest.address (takes_entries (sessions j))
        (sessions j).traffic.queued i (own j z)) (hall.stays + 1) t logs.stays
        (fine_new j)
        (λ i _. stay_rests logs.order logs.order (λ r. seat j (hall.seats r)) (λ r. seat j (put n room hall.seats r)) j (sessions j).rest.address
        (takes_entries (sessions j)) (takes_entries (sessions j))
        (sessions j).traffic.queued (sessions j).traffic.queued i (own j (logs.stays i)) (no_growth logs.order) refl
        (λ r a is seated alive. (refl, seat_stays j r i seated, alive)) (good.fine j i))

    placed_all : (j r i : ℕ) → seat j (put n room hall.seats r) ≡ Some i
        → is_open_in r (own j (put (hall.stays + 1) t logs.stays i)) ≡ takes_entries (sessions j)
    placed_all j r i at = elim (seat_came r j i at) as (λ _. is_open_in r (own j (put (hall.stays + 1) t logs.stays i)) ≡ takes_entries (sessions j)) [
      | inl e ↦
          ap (λ (z : ℕ). is_open_in z (own j (put (hall.stays + 1) t logs.stays i))) e.0
          ∙ (ap (λ (z : ℕ). is_open_in n (own j (put (hall.stays + 1) t logs.stays z))) e.2
          ∙ (ap (λ (z : Stay). is_open_in n (own j z)) (put_same (hall.stays + 1) t logs.stays)
          ∙ subst (λ (m : ℕ). is_open_in n (own m t) ≡ takes_entries (sessions m)) (sym e.1)
          (ap (is_open_in n) (own_begins s (takes_entries (sessions s)) n (length (logs.order n)))
          ∙ begins_open (takes_entries (sessions s)) s n (length (logs.order n)))))
      | inr was ↦ ap (λ (z : Stay). is_open_in r (own j z)) (put_other (hall.stays + 1) t logs.stays i (old_stay r j i was)) ∙ good.placed j r i was
    ]

    raised : (r : ℕ) → EachSeat (IsSeated made sessions (hall.stays + 1)) (hall.seats r)
    raised r = each_by (IsSeated made sessions hall.stays) (IsSeated made sessions (hall.stays + 1)) (hall.seats r)
        (λ o h. (h.0, (let w : o.stay ≤ hall.stays = h.1 in omega arith), h.2)) (good.seated r)

    seated_room : EachSeat (IsSeated made sessions (hall.stays + 1)) room
    seated_room = subst (EachSeat (IsSeated made sessions (hall.stays + 1))) (sym joins.new)
        (each_insert (IsSeated made sessions (hall.stays + 1)) joins.before joins.after x (
          (let e : x.session ≡ s = here in omega arith),
          (let e : x.stay ≡ hall.stays + 1 = stay in omega arith),
          address
              ∙ ap (λ (m : ℕ). (sessions m).rest.address) (sym here),
        )
        (subst (EachSeat (IsSeated made sessions (hall.stays + 1))) joins.old (raised n)))

    pub enter_good : GoodBy (λ _. logs.order) made sessions (record hall { seats = put n room hall.seats; stays = hall.stays + 1 })
        (record logs { stays = put (hall.stays + 1) t logs.stays })
    enter_good = record {
      fine = fine_all;
      placed = placed_all;
      seated = put_both (λ r (l : List Seat). EachSeat (IsSeated made sessions (hall.stays + 1)) l) n room hall.seats seated_room (λ r _. raised r);
      distinct = put_both (λ r (l : List Seat). AreDistinct l) n room hall.seats
          (subst AreDistinct (sym joins.new) (distinct_insert joins.before joins.after x (subst AreDistinct joins.old (good.distinct n)) out'))
          (λ r _. good.distinct r);
      counted = good.counted;
      later = λ i above. put_other (hall.stays + 1) t logs.stays i (λ (e : i ≡ hall.stays + 1). absurd (omega arith)) ∙ good.later i (omega arith);
      fresh = good.fresh;
      unmade = good.unmade;
    }

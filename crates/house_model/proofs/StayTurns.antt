-- Every effect that suits keeps what holds of all stays, and so it holds after each history.
use Rattle.std.proofs.Common.{◌≡◌, ℕ, ◌+◌, ◌≤◌, List, [], ◌∷◌, sym, refl, ap, ◌∙◌, subst, arith, Bool, true, false, Option}
use Rattle.jid_core.specs.Addresses.{Address}
use Rattle.stanza_tree.specs.declared.frame.Entry.{Entry}
use Rattle.stanza_model.specs.declared.room.Seat.{Seat}
use Rattle.house_model.specs.Numbered.{put}
use Rattle.house_model.specs.Sessions.{Session, Op, Push, Pull, Request, Enable, Ack, Tell, Act, Drop, Resume, End, Marks, begun}
use Rattle.house_model.specs.Sessions as sessions
use Rattle.house_model.specs.Traffic.{Traffic, whole}
use Rattle.house_model.specs.declared.limits.Limits.{Limits}
use Rattle.house_model.specs.States.{World, State, opening_with}
use Rattle.house_model.specs.Effects as effects
use Rattle.house_model.specs.Effects.{Effect, On, Note, Hosts, Files, apply, apply_all}
use Rattle.house_model.specs.Histories.{Outcome, Made, Short, Turn, next, next_by, after, IsOpening}
use Rattle.house_model.specs.Stays.{IsWithin, Item, Stay, Unmade, Open, Ended, Logs, no_logs, Gapless, takes_entries, views, between, own, log_step}
use Rattle.house_model.specs.Stays.{logs_through, turn_logs, logs_from, logs_of}
use Rattle.house_model.specs.Casts.{Part, Alone, Cast, part_effects, parts_effects, QueuesNoItem, IsPlain, IsNotLive, PartSuits, PartsSuit, TurnSuits}
use Rattle.house_model.specs.Casts.{HistorySuits}
use Rattle.house_model.proofs.StayLemmas.{put_both, put_other, Fine}
use Rattle.house_model.proofs.SeatLemmas.{seat, each_by}
use Rattle.house_model.proofs.StayGood.{Hall, hall_of, AllFine, AllPlaced, Good, IsSeated, IsUnmade}
use Rattle.house_model.proofs.StayTouch.{PushesNoItem}
use Rattle.house_model.proofs.StayRooms.{seat_each}
use Rattle.muc_service.specs.Numbering.{Numbered}
use Rattle.house_model.proofs.StayApart.{Apart, Sure, SureAfter}
use Rattle.house_model.proofs.StayWhole.{on_good, sure_then, cast_good, good_gapless, good_within}

-- the next session

views_none : (r i s k : ℕ) (a b : Address) (xs : List Item) → views r i s a k xs ≡ [] → views r i s b k xs ≡ []
views_none r i s k a b [] h = refl
views_none r i s k a b (x ∷ xs) h = absurd (cc)

-- one that had no entry and took none
fresh_fine : (order : ℕ → List Item) (seats : ℕ → Option ℕ) (s : ℕ) (a b : Address) (live live' : Bool) (i : ℕ) (t : Stay) → live ≡ false
    → Fine order seats s a live [] i t → Fine order seats s b live' [] i t
fresh_fine order seats s a b live live' i Unmade over fine = fine
fresh_fine order seats s a b live live' i (Open p r k) over fine = absurd (let z : true ≡ false = sym fine.4 ∙ over in cc)
fresh_fine order seats s a b live live' i (Ended p r k e) over fine =
    (fine.0, fine.1, sym (views_none r i s k a b (between k e (order r)) (sym fine.2)))

begin_good : (world : World Traffic) (logs : Logs) (w c : ℕ) (address : Address) → Good world logs → Good (apply whole world (effects.Begin w c address)) logs
begin_good world logs w c address good =
    let s : ℕ = world.made + 1 in
    let hall : Hall = hall_of world.rooms in
    let new : Session Traffic = begun whole w c address in
    let old : IsUnmade (world.sessions s) = good.unmade s (omega arith) in
    record {
      fine = put_both (λ j (x : Session Traffic). AllFine logs.order hall j x logs.stays) s new world.sessions
          (λ i. fresh_fine logs.order (λ r. seat s (hall.seats r)) s (world.sessions s).rest.address address (takes_entries (world.sessions s)) true i
          (own s (logs.stays i)) old.0
          (subst (λ (q : List Entry). Fine logs.order (λ r. seat s (hall.seats r)) s (world.sessions s).rest.address (takes_entries (world.sessions s)) q i
          (own s (logs.stays i))) old.1 (good.fine s i)))
          (λ j _. good.fine j);
      placed = put_both (λ j (x : Session Traffic). AllPlaced hall j x logs.stays) s new world.sessions
          (λ r i at.
          let f = seat_each (IsSeated world.made world.sessions hall.stays) s i (hall.seats r) (good.seated r) at in
          let low : f.0.session ≤ world.made = f.1.0 in
          let same : f.0.session ≡ world.made + 1 = f.2 in
          absurd (omega arith))
          (λ j _. good.placed j);
      seated = λ r. each_by (IsSeated world.made world.sessions hall.stays) (IsSeated (world.made + 1) (put s new world.sessions) hall.stays) (hall.seats r)
          (λ (o : Seat) h.
          let low : o.session ≤ world.made = h.0 in (
            omega arith,
            h.1,
            h.2 ∙ ap (λ (x : Session Traffic). x.rest.address)
                (sym (put_other s new world.sessions o.session (λ (e : o.session ≡ world.made + 1). absurd (omega arith)))),
          ))
          (good.seated r);
      distinct = good.distinct;
      counted = good.counted;
      later = good.later;
      fresh = good.fresh;
      unmade = λ j above. subst IsUnmade (sym (put_other s new world.sessions j (λ (e : j ≡ world.made + 1). absurd (omega arith))))
          (good.unmade j (omega arith));
    }

-- an effect on lines, sessions and users

no_item : (op : Op) → QueuesNoItem op → PushesNoItem op
no_item (Push entry) none e is = subst (λ (x : Entry). IsNotLive x.origin) (let same : entry ≡ e = cc in same) none
no_item Pull none e is = absurd (cc)
no_item Request none e is = absurd (cc)
no_item (Enable id) none e is = absurd (cc)
no_item (Ack count) none e is = absurd (cc)
no_item Tell none e is = absurd (cc)
no_item (Act stanza) none e is = absurd (cc)
no_item (Drop deadline) none e is = absurd (cc)
no_item (Resume w c h) none e is = absurd (cc)
no_item (End cause) none e is = absurd (cc)
no_item (Marks mark) none e is = absurd (cc)
no_item sessions.Part none e is = absurd (cc)

pub plain_good : (world : World Traffic) (logs : Logs) (e : Effect) → IsPlain e → Good world logs → Good (apply whole world e) (log_step world e logs)
plain_good world logs (effects.Open w) plain good = good
plain_good world logs (effects.At w op) plain good = good
plain_good world logs (effects.Begin w c address) plain good = begin_good world logs w c address good
plain_good world logs (On s op) plain good = on_good world logs s op (no_item op plain) good
plain_good world logs (Note change) plain good = good
plain_good world logs (Hosts e) plain good = absurd plain
plain_good world logs (Files filing) plain good = absurd plain

plain_rooms : (world : World Traffic) (e : Effect) → IsPlain e → (apply whole world e).rooms ≡ world.rooms
plain_rooms world (effects.Open w) plain = refl
plain_rooms world (effects.At w op) plain = refl
plain_rooms world (effects.Begin w c address) plain = refl
plain_rooms world (On s op) plain = refl
plain_rooms world (Note change) plain = refl
plain_rooms world (Hosts e) plain = absurd plain
plain_rooms world (Files filing) plain = absurd plain

plain_sure : (world : World Traffic) (logs : Logs) (e : Effect) → IsPlain e → Sure world logs → Sure (apply whole world e) (log_step world e logs)
plain_sure world logs e plain sure = record {
  good = plain_good world logs e plain sure.good;
  apart = subst Apart (sym (plain_rooms world e plain)) sure.apart;
  numbered = subst Numbered (sym (plain_rooms world e plain)) sure.numbered;
}

-- the parts of an event, and a history

part_good : (world : World Traffic) (logs : Logs) (p : Part) → PartSuits world p → Sure world logs → SureAfter world logs (part_effects world p)
part_good world logs (Alone e) suits sure = plain_sure world logs e suits sure
part_good world logs (Cast es) suits sure = cast_good es world logs suits sure

pub parts_good : (ps : List Part) (world : World Traffic) (logs : Logs) → PartsSuit world ps → Sure world logs → SureAfter world logs (parts_effects world ps)
parts_good [] world logs suits sure = sure
parts_good (p ∷ more) world logs suits sure =
    let first : List Effect = part_effects world p in
    sure_then first (parts_effects (apply_all whole world first) more) world logs
    (parts_good more (apply_all whole world first) (logs_through world first logs) suits.1 (part_good world logs p suits.0 sure))

pub turn_good : (st : State) (x : Turn) (logs : Logs) (o : Outcome) → x.outcome ≡ o → TurnSuits st x.event o → Sure st.world logs
    → Sure (next st x).world (turn_logs st x.event x.outcome logs)
turn_good st x logs Short is suits sure = subst (λ (o : Outcome). Sure (next_by st x.event o).world (turn_logs st x.event o logs)) (sym is) sure
turn_good st x logs (Made reply text) is suits sure =
    subst (λ (o : Outcome). Sure (next_by st x.event o).world (turn_logs st x.event o logs)) (sym is)
    (subst (SureAfter st.world logs) (sym suits.1) (parts_good suits.0 st.world logs suits.2 sure))

pub after_good : (h : List Turn) (st : State) (logs : Logs) → HistorySuits st h → Sure st.world logs → Sure (after st h).world (logs_from st h logs)
after_good [] st logs suits sure = sure
after_good (x ∷ more) st logs suits sure =
    after_good more (next st x) (turn_logs st x.event x.outcome logs) suits.1 (turn_good st x logs x.outcome refl suits.0 sure)

-- before any event
pub opening_good : (limits : Limits) (domain : Address) (users : List (List ℕ)) (workers : ℕ) → Sure (opening_with limits domain users workers).world no_logs
opening_good limits domain users workers = record {
  good = record {
    fine = λ s i. refl;
    placed = λ s r i at. absurd (cc);
    seated = λ r. tt;
    distinct = λ r. tt;
    counted = λ r. tt;
    later = λ i above. refl;
    fresh = λ r above. (refl, refl);
    unmade = λ s above. (refl, refl);
  };
  apart = λ r. tt;
  numbered = tt;
}

-- after each history whose turns suit, each stay shows a run of its room's order
pub gapless_after : (o : State) (h : List Turn) → IsOpening o → HistorySuits o h → Gapless (after o h).world (logs_of o h)
gapless_after o h (limits, domain, users, workers, is) suits =
    good_gapless (after o h).world (logs_of o h)
    (after_good h o no_logs suits (subst (λ (z : State). Sure z.world no_logs) (sym is) (opening_good limits domain users workers))).good

pub within_after : (o : State) (h : List Turn) → IsOpening o → HistorySuits o h → (i : ℕ) → IsWithin (logs_of o h).order ((logs_of o h).stays i)
within_after o h (limits, domain, users, workers, is) suits =
    good_within (after o h).world (logs_of o h)
    (after_good h o no_logs suits (subst (λ (z : State). Sure z.world no_logs) (sym is) (opening_good limits domain users workers))).good

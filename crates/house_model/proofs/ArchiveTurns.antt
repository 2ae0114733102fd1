-- After every history each archive has what was kept for its user, and of its room's order the messages with a body.
use Rattle.std.proofs.Common.{◌≡◌, ℕ, List, [], ◌∷◌, ◌++◌, append_assoc, refl, sym, ap, ◌∙◌, subst}
use Rattle.std.proofs.lemmas.List.{append-nil}
use Rattle.stanza_model.specs.declared.effect.Effect as stanza
use Rattle.muc_service.specs.Casting.{after}
use Rattle.muc_service.specs.Rooms.{Rooms}
use Rattle.archive_table.proofs.GrowLemmas.{grow}
use Rattle.archive_table.specs.Archives.{Archives, Said, archive_of}
use Rattle.house_model.specs.declared.event.Event.{Event}
use Rattle.house_model.specs.Archiving.{AreArchives, KeepsMessages, keeps_from, kept_by, rows_of_room, rows_of_user, spoken_in, turn_keeps}
use Rattle.house_model.specs.Effects.{Effect, apply_all}
use Rattle.house_model.specs.Histories as histories
use Rattle.house_model.specs.Histories.{IsOpening, Made, Outcome, Short, Turn, next, next_by}
use Rattle.house_model.specs.RoomFits.{AreOf}
use Rattle.house_model.specs.States.{State, World, keep, keep_world}
use Rattle.house_model.specs.Stays.{Item, Logs, logs_from, logs_of, logs_through, no_logs, turn_logs}
use Rattle.house_model.specs.Steps.{turn, verdict}
use Rattle.house_model.specs.Traffic.{Traffic, whole}
use Rattle.house_model.proofs.CastVerdicts.{IsCast, archives_are, keeps_are, order_is, rooms_are, verdict_cast}
use Rattle.house_model.proofs.FiledRows.{all_in, grown, user_rows}
use Rattle.house_model.proofs.GoneRooms.{IsGone, NoneAbove, after_gone, numbered_none, room_rows, there_not_gone}
use Rattle.house_model.proofs.HouseRooms.{departure_is_of, stanza_is_of}
use Rattle.house_model.proofs.KeptRows.{keeps, quiet_messages}
use Rattle.house_model.proofs.StayVerdicts.{known_after}
use Rattle.house_model.proofs.TurnLaws.{after_push}

-- one message after another
archive_grown : (ys xs : List Said) → grown ys (archive_of xs) ≡ archive_of (xs ++ ys)
archive_grown [] xs = ap archive_of (sym (append-nil xs))
archive_grown (y ∷ ys) xs =
    ap (grown ys) (sym (grow xs y)) ∙ (archive_grown ys (xs ++ y ∷ []) ∙ ap archive_of (append_assoc xs (y ∷ []) ys))

-- The archives of users, and of the rooms that aren't gone.
record Agrees (world : World Traffic) (order : ℕ → List Item) (kept : List ℕ → List Said) : Type 0 where
  users : (user : List ℕ) → world.archives.users user ≡ archive_of (kept user)
  rooms : (n : ℕ) → (IsGone world.rooms n → ⊥) → world.archives.rooms n ≡ archive_of (spoken_in (order n))

-- effects that name rooms that are there, and keep what these broadcast
record IsBalanced (rooms : Rooms) (es : List stanza.Effect) : Type 0 where
  of : AreOf rooms es
  keeps : KeepsMessages es

module _ (world : World Traffic) (es : List Effect) (is : IsCast (IsBalanced world.rooms) world es) (none : NoneAbove world.rooms)
    (logs : Logs) (kept : List ℕ → List Said) (agrees : Agrees world logs.order kept) where
  abbrev new : World Traffic
  new = apply_all whole world es

  abbrev then : Logs
  then = logs_through world es logs

  rooms_same : new.rooms ≡ after world.rooms is.told
  rooms_same = rooms_are (IsBalanced world.rooms) world es is

  archives_same : new.archives ≡ all_in is.told world.archives
  archives_same = archives_are (IsBalanced world.rooms) world es is

  user_agrees : (user : List ℕ) → new.archives.users user ≡ archive_of (kept user ++ kept_by user es)
  user_agrees user =
      ap (λ (a : Archives). a.users user) archives_same
      ∙ (user_rows is.told world.archives user
      ∙ (ap (grown (rows_of_user user is.told)) (agrees.users user)
      ∙ (archive_grown (rows_of_user user is.told) (kept user)
      ∙ ap (λ (l : List Said). archive_of (kept user ++ l)) (sym (keeps_are (IsBalanced world.rooms) world es is user)))))

  room_agrees : (n : ℕ) → (IsGone new.rooms n → ⊥) → new.archives.rooms n ≡ archive_of (spoken_in (then.order n))
  room_agrees n stays =
      let told : List stanza.Effect = is.told in
      let later : IsGone (after world.rooms told) n → ⊥ =
      λ gone. stays (subst (λ (r : Rooms). IsGone r n) (sym rooms_same) gone) in
      let now : IsGone world.rooms n → ⊥ = λ gone. later (after_gone told world.rooms n is.holds.of gone) in
      ap (λ (a : Archives). a.rooms n) archives_same
      ∙ (room_rows told world.rooms world.archives n is.holds.of none later
      ∙ (ap (grown (rows_of_room n told)) (agrees.rooms n now)
      ∙ (archive_grown (rows_of_room n told) (spoken_in (logs.order n))
      ∙ (ap (λ (l : List Said). archive_of (spoken_in (logs.order n) ++ l)) (is.holds.keeps n)
      ∙ ap archive_of (sym (order_is (IsBalanced world.rooms) world es is logs n is.holds.of))))))

  cast_agrees : Agrees new then.order (λ user. kept user ++ kept_by user es)
  cast_agrees = record { users = user_agrees; rooms = room_agrees }

-- a turn more

logs_push : (st : State) (h : List Turn) (x : Turn) (logs : Logs)
    → logs_from st (h ++ x ∷ []) logs ≡ turn_logs (histories.after st h) x.event x.outcome (logs_from st h logs)
logs_push st [] x logs = refl
logs_push st (y ∷ more) x logs = logs_push (next st y) more x (turn_logs st y.event y.outcome logs)

keeps_push : (st : State) (h : List Turn) (x : Turn) (user : List ℕ)
    → keeps_from st (h ++ x ∷ []) user ≡ keeps_from st h user ++ turn_keeps (histories.after st h) x.event x.outcome user
keeps_push st [] x user = append-nil (turn_keeps st x.event x.outcome user)
keeps_push st (y ∷ more) x user =
    ap (λ (l : List Said). turn_keeps st y.event y.outcome user ++ l) (keeps_push (next st y) more x user)
    ∙ sym (append_assoc (turn_keeps st y.event y.outcome user) (keeps_from (next st y) more user)
    (turn_keeps (histories.after (next st y) more) x.event x.outcome user))

abbrev AgreesAfter : State → List Turn → Type 0
AgreesAfter o h = Agrees (histories.after o h).world (logs_of o h).order (keeps_from o h)

module _ (o : State) (starts : IsOpening o) where
  event_cast : (h : List Turn) (e : Event)
      → IsCast (IsBalanced (histories.after o h).world.rooms) (histories.after o h).world (verdict (keep (turn e (histories.after o h))) e).effects
  event_cast h e =
      let st : State = histories.after o h in
      verdict_cast st e (IsBalanced st.world.rooms) (record { of = tt; keeps = λ n. refl })
      (λ s. record { of = departure_is_of o h s starts; keeps = quiet_messages (keep_world st.world) s })
      (λ w c s t x is bound. record { of = stanza_is_of o h w s t x starts; keeps = (keeps o h w s t x starts).rooms })

  turn_agrees : (h : List Turn) (e : Event) (outcome : Outcome) → AgreesAfter o h
      → Agrees (next_by (histories.after o h) e outcome).world (turn_logs (histories.after o h) e outcome (logs_of o h)).order
      (λ user. keeps_from o h user ++ turn_keeps (histories.after o h) e outcome user)
  turn_agrees h e (Made reply text) agrees =
      let st : State = histories.after o h in
      cast_agrees st.world (verdict (keep (turn e st)) e).effects (event_cast h e)
      (numbered_none st.world.rooms (known_after o h starts).numbered) (logs_of o h) (keeps_from o h) agrees
  turn_agrees h e Short agrees = record {
    users = λ user. agrees.users user ∙ ap archive_of (sym (append-nil (keeps_from o h user)));
    rooms = agrees.rooms;
  }

  push_agrees : (h : List Turn) (x : Turn) → AgreesAfter o h → AgreesAfter o (h ++ x ∷ [])
  push_agrees h x agrees =
      let later = turn_agrees h x.event x.outcome agrees in
      let same : (next (histories.after o h) x).world ≡ (histories.after o (h ++ x ∷ [])).world =
      ap (λ (st : State). st.world) (sym (after_push o h x)) in
      let moved = subst (λ (w : World Traffic). Agrees w (turn_logs (histories.after o h) x.event x.outcome (logs_of o h)).order
      (λ user. keeps_from o h user ++ turn_keeps (histories.after o h) x.event x.outcome user)) same later in
      record {
        users = λ user. moved.users user ∙ ap archive_of (sym (keeps_push o h x user));
        rooms = λ n stays. moved.rooms n stays ∙ ap (λ (l : Logs). archive_of (spoken_in (l.order n))) (sym (logs_push o h x no_logs));
      }

  all_agree : (h more : List Turn) → AgreesAfter o h → AgreesAfter o (h ++ more)
  all_agree h [] agrees = subst (AgreesAfter o) (sym (append-nil h)) agrees
  all_agree h (x ∷ more) agrees =
      subst (AgreesAfter o) (append_assoc h (x ∷ []) more) (all_agree (h ++ x ∷ []) more (push_agrees h x agrees))

  first_agrees : AgreesAfter o []
  first_agrees =
      subst (λ (st : State). Agrees st.world no_logs.order (λ user. [])) (sym starts.4) (record { users = λ user. refl; rooms = λ n stays. refl })

pub archives_are_kept : (o : State) (h : List Turn) → IsOpening o
    → AreArchives (histories.after o h).world (logs_of o h).order (keeps_from o h)
archives_are_kept o h starts =
    let agrees : AgreesAfter o h = all_agree o starts [] h (first_agrees o starts) in
    record { users = agrees.users; rooms = λ n there. agrees.rooms n (there_not_gone (histories.after o h).world.rooms n there) }

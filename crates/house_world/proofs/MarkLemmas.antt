-- What is kept of a session is set.
use Rattle.std.proofs.Common.{◌≡◌, ℕ, ◌<◌, ◌≤◌, ◌^◌, Bool, true, false, [], ◌∷◌, length, Option, Some, None, refl, sym, ap, subst, ◌∙◌, arith}
use Rattle.std.specs.Prelude.{IfSome}
use Rattle.std.proofs.lemmas.Option.{same_Some}
use Rattle.stanza_model.specs.declared.effect.Change.{Change}
use Rattle.stanza_model.specs.declared.effect.Change.TheVariants as change
use Rattle.stanza_model.specs.declared.effect.Effect.TheVariants.{Set}
use Rattle.sm_resume.specs.declared.decision.Cause.{Cause}
use Rattle.sm_queue.specs.Queues.{Queue, spare}
use Rattle.session_table.specs.declared.life.Life.{Life}
use Rattle.session_table.specs.declared.life.Life.TheVariants.{Live, Over}
use Rattle.session_table.specs.Sessions.{OwnRecord, SessionRecord, own_of, with_own}
use Rattle.session_table.specs.Tables.{TableRecord, conn_of, line_of, session_of, with_session}
use Rattle.house_model.specs.Fitting.{IsSmall}
use Rattle.house_model.specs.Sessions.{Held, Away, Ended, Mark, Marks, Shown, Hidden, Directs, WantsRoster, Pushed}
use Rattle.house_model.specs.Sessions.{Manner, Rest, marked, session, step_if, with_mark}
use Rattle.house_model.specs.Steps.{set}
use Rattle.house_model.specs.Traffic.{KeptTraffic, brief}
use Rattle.house_model.specs.Effects.{On}
use Rattle.house_world.specs.declared.world.World as code
use Rattle.house_world.specs.Views.{traffic_of, rest_of}
use Rattle.house_world.specs.Keeping.{IsShortChange}
use Rattle.house_world.specs.Marks.{named_by, set_by}
use Rattle.house_world.specs.Wholes.{HasSpare, IsSession, IsTied}
use Rattle.house_world.specs.Worlds.{Did}
use Rattle.house_world.proofs.PartLemmas.{gone_same, live_did, over_is}
use Rattle.house_world.proofs.ReadLemmas.{away_is, held_is}
use Rattle.house_world.proofs.ReadyLemmas.{spare_changed}
use Rattle.house_world.proofs.WorldLemmas.{moved_same}

mark_held : (b : Bool) (v d : ℕ) (k : KeptTraffic) (r : Rest) (mark : Mark)
    → session b (Held v d) k (with_mark mark r) ≡ step_if brief b (Held v d) k r (Marks mark)
mark_held true v d k r mark = refl
mark_held false v d k r mark = refl

mark_away : (b : Bool) (k : KeptTraffic) (r : Rest) (mark : Mark) → b ≡ true
    → session b Away k (with_mark mark r) ≡ step_if brief b Away k r (Marks mark)
mark_away true k r mark counts = refl
mark_away false k r mark counts = absurd (cc)

mark_over : (b : Bool) (cause : Cause) (k : KeptTraffic) (r : Rest) (mark : Mark)
    → session b (Ended cause) k (with_mark mark r) ≡ step_if brief b (Ended cause) k r (Marks mark)
mark_over true cause k r mark = refl
mark_over false cause k r mark = refl

module _ (a : code.World) (s : ℕ) (x : SessionRecord) (tied : IsTied a.table) (at : session_of s a.table ≡ Some x) where
  abbrev ready : IsSession x
  ready = tied.each s x at

  abbrev k : KeptTraffic
  k = traffic_of x

  abbrev r : Rest
  r = rest_of x

  abbrev with_manner : Manner → SessionRecord
  with_manner m = record x {
    presence = m.presence;
    priority = m.priority;
    directed = m.directed;
    wants_roster = m.wants_roster;
    pushes = m.pushes;
  }

  manner_ready : (m : Manner) → IfSome m.presence (λ p. length p ≤ 16384) → m.pushes < 2 ^ 64 → IsSession (with_manner m)
  manner_ready m short counted = record {
    given = ready.given;
    asked = ready.asked;
    base_in = ready.base_in;
    short = ready.short;
    away = ready.away;
    known = ready.known;
    shown = short;
    pushes = counted;
    address = ready.address;
  }

  mark_by : (l : Life) (h : Option ℕ) (mark : Mark) → x.state ≡ l → x.holder ≡ h
      → IfSome (marked mark r.manner).presence (λ p. length p ≤ 16384) → (marked mark r.manner).pushes < 2 ^ 64
      → Did (On s (Marks mark) ∷ []) 0 a (record a { table = with_session s a.table (with_manner (marked mark r.manner)) })
  mark_by (Over cause) h mark over held short counted =
      live_did a s x (with_manner (marked mark r.manner)) (Ended cause) (Marks mark) at (over_is x.state x.holder a.table.lines cause over)
      refl refl (λ ls. refl) (mark_over x.counts cause k r mark) 0 tied (manner_ready (marked mark r.manner) short counted)
      (λ turns few. (let sent = few.sent s x at in let acted = few.acted s x at in (omega (arith, sent), omega (arith, acted))))
  mark_by Live None mark live none short counted =
      live_did a s x (with_manner (marked mark r.manner)) Away (Marks mark) at (away_is x.state x.holder a.table.lines live none)
      refl refl (λ ls. refl) (mark_away x.counts k r mark (ready.away live none)) 0 tied (manner_ready (marked mark r.manner) short counted)
      (λ turns few. (let sent = few.sent s x at in let acted = few.acted s x at in (omega (arith, sent), omega (arith, acted))))
  mark_by Live (Some w) mark live held short counted =
      let c = conn_of (line_of w a.table) in
      live_did a s x (with_manner (marked mark r.manner)) (Held w c) (Marks mark) at (held_is x.state x.holder a.table.lines w live held)
      refl refl (moved_same s w c) (mark_held x.counts w c k r mark) 0 tied (manner_ready (marked mark r.manner) short counted)
      (λ turns few. (let sent = few.sent s x at in let acted = few.acted s x at in (omega (arith, sent), omega (arith, acted))))

  mark_did : (n : ℕ) (mark : Mark) → Some n ≡ Some s → IfSome (marked mark r.manner).presence (λ p. length p ≤ 16384)
      → (marked mark r.manner).pushes < 2 ^ 64
      → Did (On n (Marks mark) ∷ []) 0 a (record a { table = with_session s a.table (with_manner (marked mark r.manner)) })
  mark_did n mark is short counted =
      subst (λ (i : ℕ). Did (On i (Marks mark) ∷ []) 0 a (record a { table = with_session s a.table (with_manner (marked mark r.manner)) }))
      (sym (same_Some n s is)) (mark_by x.state x.holder mark refl refl short counted)

  set_is : (c : Change) → named_by c ≡ Some s → IsSmall (Set c) → IsShortChange c
      → Did (set c ∷ []) 0 a (record a { table = with_session s a.table (with_own (set_by c (own_of x)) x) })
  set_is (change.WantsRoster n) is short few = mark_did n WantsRoster is ready.shown ready.pushes
  set_is (change.Pushed n pushes) is short few = mark_did n (Pushed pushes) is ready.shown few
  set_is (change.Available n stanza priority) is short few = mark_did n (Shown stanza priority) is short ready.pushes
  set_is (change.Unavailable n) is short few = mark_did n Hidden is tt ready.pushes
  set_is (change.Directed n addresses) is short few = mark_did n (Directs addresses) is ready.shown ready.pushes
  set_is (change.Contact user address name groups) is short few = absurd (cc)
  set_is (change.NoContact user address) is short few = absurd (cc)
  set_is (change.Sees one other now) is short few = absurd (cc)
  set_is (change.Asked one other now) is short few = absurd (cc)
  set_is (change.RoomMade n address owner) is short few = absurd (cc)
  set_is (change.RoomGone n) is short few = absurd (cc)
  set_is (change.Unlocked n) is short few = absurd (cc)
  set_is (change.Configured n config) is short few = absurd (cc)
  set_is (change.Affiliated n address a) is short few = absurd (cc)
  set_is (change.RoleSet n m role) is short few = absurd (cc)
  set_is (change.Renamed n m nick) is short few = absurd (cc)
  set_is (change.OccupantShown n m presence) is short few = absurd (cc)
  set_is (change.Subject n text stamp) is short few = absurd (cc)
  set_is (change.RoomRow n peer text moment) is short few = absurd (cc)

  -- a change of a session that is there
  pub set_did : (y : SessionRecord) (c : Change) → named_by c ≡ Some s → IsSmall (Set c) → IsShortChange c → y ≡ with_own (set_by c (own_of x)) x
      → Did (set c ∷ []) 0 a (record a { table = with_session s a.table y })
  set_did y c named short few is =
      subst (λ (z : SessionRecord). Did (set c ∷ []) 0 a (record a { table = with_session s a.table z })) (sym is) (set_is c named short few)

-- of one that is not there
gone_mark : (a : code.World) (s n : ℕ) (mark : Mark) → IsTied a.table → Some n ≡ Some s → session_of s a.table ≡ None
    → Did (On n (Marks mark) ∷ []) 0 a a
gone_mark a s n mark tied is none =
    subst (λ (i : ℕ). Did (On i (Marks mark) ∷ []) 0 a a) (sym (same_Some n s is)) (gone_same a s (Marks mark) tied none refl)

pub set_gone : (a : code.World) (s : ℕ) (c : Change) → IsTied a.table → named_by c ≡ Some s → session_of s a.table ≡ None
    → Did (set c ∷ []) 0 a a
set_gone a s (change.WantsRoster n) tied is none = gone_mark a s n WantsRoster tied is none
set_gone a s (change.Pushed n pushes) tied is none = gone_mark a s n (Pushed pushes) tied is none
set_gone a s (change.Available n stanza priority) tied is none = gone_mark a s n (Shown stanza priority) tied is none
set_gone a s (change.Unavailable n) tied is none = gone_mark a s n Hidden tied is none
set_gone a s (change.Directed n addresses) tied is none = gone_mark a s n (Directs addresses) tied is none
set_gone a s (change.Contact user address name groups) tied is none = absurd (cc)
set_gone a s (change.NoContact user address) tied is none = absurd (cc)
set_gone a s (change.Sees one other now) tied is none = absurd (cc)
set_gone a s (change.Asked one other now) tied is none = absurd (cc)
set_gone a s (change.RoomMade n address owner) tied is none = absurd (cc)
set_gone a s (change.RoomGone n) tied is none = absurd (cc)
set_gone a s (change.Unlocked n) tied is none = absurd (cc)
set_gone a s (change.Configured n config) tied is none = absurd (cc)
set_gone a s (change.Affiliated n address b) tied is none = absurd (cc)
set_gone a s (change.RoleSet n m role) tied is none = absurd (cc)
set_gone a s (change.Renamed n m nick) tied is none = absurd (cc)
set_gone a s (change.OccupantShown n m presence) tied is none = absurd (cc)
set_gone a s (change.Subject n text stamp) tied is none = absurd (cc)
set_gone a s (change.RoomRow n peer text moment) tied is none = absurd (cc)

-- what it queues has as much room
set_queue : (c : Change) (own : OwnRecord) → (set_by c own).queue ≡ own.queue
set_queue (change.WantsRoster n) own = refl
set_queue (change.Pushed n pushes) own = refl
set_queue (change.Available n stanza priority) own = refl
set_queue (change.Unavailable n) own = refl
set_queue (change.Directed n addresses) own = refl
set_queue c own = refl

pub spare_set : (s n r : ℕ) (t : TableRecord) (x y : SessionRecord) (c : Change) → session_of s t ≡ Some x → y ≡ with_own (set_by c (own_of x)) x
    → HasSpare n r t → HasSpare n r (with_session s t y)
spare_set s n r t x y c at is has =
    spare_changed s n n r (λ _. y) t x at (omega arith)
    (λ _ had. subst (λ (q : Queue). n ≤ spare q) (sym (ap (λ (z : SessionRecord). z.queue) is ∙ set_queue c (own_of x))) had) has

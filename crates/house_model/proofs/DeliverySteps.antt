-- What the effects of a stanza do to a session's queue: all that they have for it is queued, or it is over for want of room.
use Rattle.std.proofs.Common.{◌≡◌, ◌⊎◌, inl, inr, ℕ, List, [], ◌∷◌, ◌++◌, append_assoc, append-nil, map, length, Bool, true, false, ◌==◌}
use Rattle.std.proofs.Common.{refl, sym, ap, ◌∙◌, subst, true≢false, if◌then◌else◌}
use Rattle.std.specs.Prelude.{⊤}
use Rattle.std.specs.List.{AllByRecursion}
use Rattle.std.proofs.lemmas.Bool.{eq-eqb, ne_eqb}
use Rattle.stanza_tree.specs.declared.frame.Entry.{Entry}
use Rattle.stanza_model.specs.declared.effect.Effect as stanza
use Rattle.stanza_model.specs.declared.effect.Effect.TheVariants.{Queue, Set}
use Rattle.stanza_model.specs.declared.effect.Effect.TheVariants as effect
use Rattle.stanza_model.specs.declared.effect.Change.TheVariants as change
use Rattle.sm_queue.specs.Queues.{has_room}
use Rattle.sm_resume.specs.declared.decision.Cause.{Cause}
use Rattle.sm_resume.specs.declared.decision.Cause.TheVariants.{Overfull}
use Rattle.house_model.specs.Sessions.{Hold, Held, Away, Ended, Gone, Rest, Session, Op, Push, Act, Marks, session, pushed, step_if, session_step}
use Rattle.house_model.specs.Traffic.{Traffic, whole, waiting}
use Rattle.house_model.specs.States.{World}
use Rattle.house_model.specs.Effects.{Effect, Open, At, Begin, On, Note, Hosts, Files, apply, apply_all}
use Rattle.house_model.specs.Steps.{effect_of}
use Rattle.house_model.specs.Stays.{takes_entries}
use Rattle.house_model.specs.Queueing.{entry_for}
use Rattle.house_model.specs.Deliveries.{entries_for, Gets}
use Rattle.house_model.proofs.StayLemmas.{put_both}

-- what a stanza does to sessions

abbrev pub IsMildOp : Op → Type 0
IsMildOp (Push e) = ⊤
IsMildOp (Act x) = ⊤
IsMildOp (Marks mark) = ⊤
IsMildOp op = ⊥

abbrev pub IsMild : Effect → Type 0
IsMild (On s op) = IsMildOp op
IsMild (Note change) = ⊤
IsMild (Hosts x) = ⊤
IsMild (Files filing) = ⊤
IsMild e = ⊥

abbrev pub AreMild : List Effect → Type 0
AreMild es = AllByRecursion IsMild es

pub stanza_mild : (es : List stanza.Effect) → AreMild (map effect_of es)
stanza_mild [] = tt
stanza_mild (Queue s to rest origin ∷ more) = (tt, stanza_mild more)
stanza_mild (effect.Broadcast n item ∷ more) = (tt, stanza_mild more)
stanza_mild (effect.Enter n s address nick role ∷ more) = (tt, stanza_mild more)
stanza_mild (effect.Leave n s ∷ more) = (tt, stanza_mild more)
stanza_mild (effect.Keep user peer text moment ∷ more) = (tt, stanza_mild more)
stanza_mild (Set (change.WantsRoster s) ∷ more) = (tt, stanza_mild more)
stanza_mild (Set (change.Pushed s pushes) ∷ more) = (tt, stanza_mild more)
stanza_mild (Set (change.Contact user address name groups) ∷ more) = (tt, stanza_mild more)
stanza_mild (Set (change.NoContact user address) ∷ more) = (tt, stanza_mild more)
stanza_mild (Set (change.Sees a b now) ∷ more) = (tt, stanza_mild more)
stanza_mild (Set (change.Asked a b now) ∷ more) = (tt, stanza_mild more)
stanza_mild (Set (change.Available s stanza priority) ∷ more) = (tt, stanza_mild more)
stanza_mild (Set (change.Unavailable s) ∷ more) = (tt, stanza_mild more)
stanza_mild (Set (change.Directed s addresses) ∷ more) = (tt, stanza_mild more)
stanza_mild (Set (change.RoomMade n address owner) ∷ more) = (tt, stanza_mild more)
stanza_mild (Set (change.RoomGone n) ∷ more) = (tt, stanza_mild more)
stanza_mild (Set (change.Unlocked n) ∷ more) = (tt, stanza_mild more)
stanza_mild (Set (change.Configured n config) ∷ more) = (tt, stanza_mild more)
stanza_mild (Set (change.Affiliated n address a) ∷ more) = (tt, stanza_mild more)
stanza_mild (Set (change.RoleSet n s role) ∷ more) = (tt, stanza_mild more)
stanza_mild (Set (change.Renamed n s nick) ∷ more) = (tt, stanza_mild more)
stanza_mild (Set (change.OccupantShown n s presence) ∷ more) = (tt, stanza_mild more)
stanza_mild (Set (change.Subject n text stamp) ∷ more) = (tt, stanza_mild more)
stanza_mild (Set (change.RoomRow n peer text moment) ∷ more) = (tt, stanza_mild more)

-- One operation: the session goes on with what is pushed, or is over for it.

pub record Stops (x y : Session Traffic) (entries : List Entry) : Type 0 where
  pub refused : Entry
  pub are : entries ≡ refused ∷ []
  pub same : y.traffic ≡ x.traffic
  pub full : has_room (waiting x.traffic) refused ≡ false
  pub over : y.hold ≡ Ended (Overfull x.traffic.kept (length x.traffic.queued))

pub record GoesOn (x y : Session Traffic) (entries : List Entry) : Type 0 where
  pub goes : takes_entries y ≡ true
  pub queued : y.traffic.queued ≡ x.traffic.queued ++ entries

abbrev pub Takes : Session Traffic → Session Traffic → List Entry → Type 0
Takes x y entries = takes_entries x ≡ true → GoesOn x y entries ⊎ Stops x y entries

pushed_takes : (has b : Bool) (m : Hold) (t : Traffic) (r : Rest) (e : Entry) → has_room (waiting t) e ≡ has
    → Takes (session b m t r) (pushed whole has b m t r e) (e ∷ [])
pushed_takes true b m t r e is takes' = inl (record { goes = takes'; queued = refl })
pushed_takes false b m t r e is takes' = inr (record { refused = e; are = refl; same = refl; full = is; over = refl })

push_takes : (b : Bool) (m : Hold) (t : Traffic) (r : Rest) (e : Entry) → Takes (session b m t r) (step_if whole b m t r (Push e)) (e ∷ [])
push_takes true (Held v d) t r e = pushed_takes (has_room (waiting t) e) true (Held v d) t r e refl
push_takes false (Held v d) t r e = pushed_takes (has_room (waiting t) e) false (Held v d) t r e refl
push_takes true Away t r e = pushed_takes (has_room (waiting t) e) true Away t r e refl
push_takes false Away t r e = λ (is : false ≡ true). absurd (true≢false (sym is))
push_takes true (Ended cause) t r e = λ (is : false ≡ true). absurd (true≢false (sym is))
push_takes false (Ended cause) t r e = λ (is : false ≡ true). absurd (true≢false (sym is))
push_takes true Gone t r e = λ (is : false ≡ true). absurd (true≢false (sym is))
push_takes false Gone t r e = λ (is : false ≡ true). absurd (true≢false (sym is))

plain_takes : (x y : Session Traffic) → takes_entries y ≡ takes_entries x → y.traffic.queued ≡ x.traffic.queued → Takes x y []
plain_takes x y goes same takes' = inl (record { goes = goes ∙ takes'; queued = same ∙ sym (append-nil x.traffic.queued) })

act_takes : (b : Bool) (m : Hold) (t : Traffic) (r : Rest) (a : _) → Takes (session b m t r) (step_if whole b m t r (Act a)) []
act_takes true (Held v d) t r a = plain_takes (session true (Held v d) t r) (step_if whole true (Held v d) t r (Act a)) refl refl
act_takes false (Held v d) t r a = plain_takes (session false (Held v d) t r) (step_if whole false (Held v d) t r (Act a)) refl refl
act_takes true Away t r a = plain_takes (session true Away t r) (step_if whole true Away t r (Act a)) refl refl
act_takes false Away t r a = plain_takes (session false Away t r) (step_if whole false Away t r (Act a)) refl refl
act_takes true (Ended cause) t r a = plain_takes (session true (Ended cause) t r) (step_if whole true (Ended cause) t r (Act a)) refl refl
act_takes false (Ended cause) t r a = plain_takes (session false (Ended cause) t r) (step_if whole false (Ended cause) t r (Act a)) refl refl
act_takes true Gone t r a = plain_takes (session true Gone t r) (step_if whole true Gone t r (Act a)) refl refl
act_takes false Gone t r a = plain_takes (session false Gone t r) (step_if whole false Gone t r (Act a)) refl refl

marks_takes : (b : Bool) (m : Hold) (t : Traffic) (r : Rest) (k : _) → Takes (session b m t r) (step_if whole b m t r (Marks k)) []
marks_takes true (Held v d) t r k = plain_takes (session true (Held v d) t r) (step_if whole true (Held v d) t r (Marks k)) refl refl
marks_takes false (Held v d) t r k = plain_takes (session false (Held v d) t r) (step_if whole false (Held v d) t r (Marks k)) refl refl
marks_takes true Away t r k = plain_takes (session true Away t r) (step_if whole true Away t r (Marks k)) refl refl
marks_takes false Away t r k = plain_takes (session false Away t r) (step_if whole false Away t r (Marks k)) refl refl
marks_takes true (Ended cause) t r k = plain_takes (session true (Ended cause) t r) (step_if whole true (Ended cause) t r (Marks k)) refl refl
marks_takes false (Ended cause) t r k = plain_takes (session false (Ended cause) t r) (step_if whole false (Ended cause) t r (Marks k)) refl refl
marks_takes true Gone t r k = plain_takes (session true Gone t r) (step_if whole true Gone t r (Marks k)) refl refl
marks_takes false Gone t r k = plain_takes (session false Gone t r) (step_if whole false Gone t r (Marks k)) refl refl

-- one that is over stays so, with its traffic
pub record IsStill (x y : Session Traffic) (cause : Cause) : Type 0 where
  pub over : y.hold ≡ Ended cause
  pub same : y.traffic ≡ x.traffic

abbrev pub Stays : Session Traffic → Session Traffic → Type 0
Stays x y = (cause : Cause) → x.hold ≡ Ended cause → IsStill x y cause

over_stays : (b : Bool) (m : Hold) (t : Traffic) (r : Rest) (op : Op) → IsMildOp op → Stays (session b m t r) (step_if whole b m t r op)
over_stays b (Held v d) t r op mild cause is = absurd (cc)
over_stays b Away t r op mild cause is = absurd (cc)
over_stays b Gone t r op mild cause is = absurd (cc)
over_stays true (Ended c) t r (Push e) mild cause is = record { over = is; same = refl }
over_stays true (Ended c) t r (Act x) mild cause is = record { over = is; same = refl }
over_stays true (Ended c) t r (Marks k) mild cause is = record { over = is; same = refl }
over_stays false (Ended c) t r (Push e) mild cause is = record { over = is; same = refl }
over_stays false (Ended c) t r (Act x) mild cause is = record { over = is; same = refl }
over_stays false (Ended c) t r (Marks k) mild cause is = record { over = is; same = refl }
over_stays true (Ended c) t r op mild cause is = absurd mild
over_stays false (Ended c) t r op mild cause is = absurd mild

-- One effect.

push_on : (r i : ℕ) (world : World Traffic) (e : Entry)
    → Takes (world.sessions r) ((apply whole world (On i (Push e))).sessions r) (entry_for r (On i (Push e)))
push_on r i world e =
    put_both (λ j (y : Session Traffic). Takes (world.sessions j) y (if j == i then e ∷ [] else []))
    i (session_step whole (world.sessions i) (Push e)) world.sessions
    (let x : Session Traffic = world.sessions i in
    λ is. subst_entries x (session_step whole x (Push e)) (e ∷ []) (if i == i then e ∷ [] else [])
    (ap (λ (b : Bool). if b then e ∷ [] else []) (sym (eq-eqb i i refl)))
    (push_takes x.counts x.hold x.traffic x.rest e) is)
    (λ j other is.
    let x : Session Traffic = world.sessions j in
    subst_entries x x [] (if j == i then e ∷ [] else [])
    (ap (λ (b : Bool). if b then e ∷ [] else []) (sym (ne_eqb j i other)))
    (plain_takes x x refl refl) is)
    r
  where
    subst_entries : (x y : Session Traffic) (a b : List Entry) → a ≡ b → Takes x y a → Takes x y b
    subst_entries x y a b same takes' = subst (Takes x y) same takes'

plain_on : (r i : ℕ) (world : World Traffic) (op : Op) → Takes (world.sessions i) (session_step whole (world.sessions i) op) []
    → Takes (world.sessions r) ((apply whole world (On i op)).sessions r) []
plain_on r i world op here =
    put_both (λ j (y : Session Traffic). Takes (world.sessions j) y [])
    i (session_step whole (world.sessions i) op) world.sessions here (λ j other. plain_takes (world.sessions j) (world.sessions j) refl refl) r

effect_takes : (r : ℕ) (world : World Traffic) (e : Effect) → IsMild e
    → Takes (world.sessions r) ((apply whole world e).sessions r) (entry_for r e)
effect_takes r world (Open w) mild = absurd mild
effect_takes r world (At w op) mild = absurd mild
effect_takes r world (Begin w c a) mild = absurd mild
effect_takes r world (Note change) mild = plain_takes (world.sessions r) (world.sessions r) refl refl
effect_takes r world (Hosts x) mild = plain_takes (world.sessions r) (world.sessions r) refl refl
effect_takes r world (Files filing) mild = plain_takes (world.sessions r) (world.sessions r) refl refl
effect_takes r world (On i (Push e)) mild = push_on r i world e
effect_takes r world (On i (Act a)) mild =
    plain_on r i world (Act a)
    (act_takes (world.sessions i).counts (world.sessions i).hold (world.sessions i).traffic (world.sessions i).rest a)
effect_takes r world (On i (Marks k)) mild =
    plain_on r i world (Marks k)
    (marks_takes (world.sessions i).counts (world.sessions i).hold (world.sessions i).traffic (world.sessions i).rest k)
effect_takes r world (On i op) mild = absurd mild

effect_stays : (r : ℕ) (world : World Traffic) (e : Effect) → IsMild e → Stays (world.sessions r) ((apply whole world e).sessions r)
effect_stays r world (Open w) mild = absurd mild
effect_stays r world (At w op) mild = absurd mild
effect_stays r world (Begin w c a) mild = absurd mild
effect_stays r world (Note change) mild = λ cause is. record { over = is; same = refl }
effect_stays r world (Hosts x) mild = λ cause is. record { over = is; same = refl }
effect_stays r world (Files filing) mild = λ cause is. record { over = is; same = refl }
effect_stays r world (On i op) mild =
    put_both (λ j (y : Session Traffic). Stays (world.sessions j) y)
    i (session_step whole (world.sessions i) op) world.sessions
    (over_stays (world.sessions i).counts (world.sessions i).hold (world.sessions i).traffic (world.sessions i).rest op mild)
    (λ j other cause is. record { over = is; same = refl }) r

-- All of them.

pub all_stay : (es : List Effect) (world : World Traffic) (r : ℕ) → AreMild es → Stays (world.sessions r) ((apply_all whole world es).sessions r)
all_stay [] world r mild cause is = record { over = is; same = refl }
all_stay (e ∷ es) world r mild cause is =
    let first : IsStill (world.sessions r) ((apply whole world e).sessions r) cause = effect_stays r world e mild.0 cause is in
    let rest : IsStill ((apply whole world e).sessions r) ((apply_all whole world (e ∷ es)).sessions r) cause =
    all_stay es (apply whole world e) r mild.1 cause first.over in
    record { over = rest.over; same = rest.same ∙ first.same }

-- it went on with the first, and gets the others
then_gets : (x y z : Session Traffic) (a b : List Entry) → GoesOn x y a → Gets y z b → Gets x z (a ++ b)
then_gets x y z a b first rest = elim rest [
  | inl is ↦ inl (is ∙ (ap (λ (l : List Entry). l ++ b) first.queued ∙ append_assoc x.traffic.queued a b))
  | inr full ↦ inr (record {
    took = a ++ full.took;
    refused = full.refused;
    more = full.more;
    are = ap (λ (l : List Entry). a ++ l) full.are ∙ sym (append_assoc a full.took (full.refused ∷ full.more));
    queued = full.queued ∙ (ap (λ (l : List Entry). l ++ full.took) first.queued ∙ append_assoc x.traffic.queued a full.took);
    full = full.full;
    over = full.over;
  })
]

-- it was over with the first, and stays so
then_over : (x y z : Session Traffic) (a b : List Entry) → Stops x y a → Stays y z → Gets x z (a ++ b)
then_over x y z a b first stays =
    let still : IsStill y z (Overfull x.traffic.kept (length x.traffic.queued)) = stays _ first.over in
    let same : z.traffic ≡ x.traffic = still.same ∙ first.same in
    inr (record {
      took = [];
      refused = first.refused;
      more = b;
      are = ap (λ (l : List Entry). l ++ b) first.are;
      queued = ap (λ (t : Traffic). t.queued) same ∙ sym (append-nil x.traffic.queued);
      full = ap (λ (t : Traffic). has_room (waiting t) first.refused) same ∙ first.full;
      over = still.over ∙ ap (λ (t : Traffic). Ended (Overfull t.kept (length t.queued))) (sym same);
    })

pub all_get : (es : List Effect) (world : World Traffic) (r : ℕ) → AreMild es → takes_entries (world.sessions r) ≡ true
    → Gets (world.sessions r) ((apply_all whole world es).sessions r) (entries_for r es)
all_get [] world r mild is = inl (sym (append-nil (world.sessions r).traffic.queued))
all_get (e ∷ es) world r mild is = elim (effect_takes r world e mild.0 is) [
  | inl on ↦ then_gets (world.sessions r) ((apply whole world e).sessions r) ((apply_all whole world (e ∷ es)).sessions r) (entry_for r e) (entries_for r es)
      on (all_get es (apply whole world e) r mild.1 on.goes)
  | inr stop ↦ then_over (world.sessions r) ((apply whole world e).sessions r) ((apply_all whole world (e ∷ es)).sessions r) (entry_for r e) (entries_for r es)
      stop (all_stay es (apply whole world e) r mild.1)
]

-- A session's queue is what the history says was queued for it.
use Rattle.std.proofs.Common.{◌≡◌, inl, inr, ℕ, ◌+◌, List, [], ◌∷◌, ◌++◌, append_assoc, append-nil, Bool, true, false, ◌==◌, refl, sym, ap, ◌∙◌}
use Rattle.std.proofs.Common.{arith, if◌then◌else◌}
use Rattle.std.proofs.lemmas.Bool.{eq-eqb, ne_eqb}
use Rattle.stanza_tree.specs.declared.frame.Entry.{Entry}
use Rattle.house_model.specs.declared.event.Event.{Event}
use Rattle.house_model.specs.Sessions.{Hold, Held, Away, Ended, Gone, Rest, Session, Op, Push, Pull, Request, Enable, Ack, Tell, Act, Drop, Resume}
use Rattle.house_model.specs.Sessions.{End, Part, Marks, pushed, step_if, begun, session_step}
use Rattle.house_model.specs.Traffic.{Traffic, whole}
use Rattle.house_model.specs.States.{World, State, keep}
use Rattle.house_model.specs.Effects.{Effect, Open, At, Begin, On, Note, Hosts, Files, apply, apply_all}
use Rattle.house_model.specs.Steps.{verdict, turn}
use Rattle.house_model.specs.Histories.{Outcome, Made, Short, Turn, next, next_by, after, IsOpening}
use Rattle.house_model.specs.Lines.{told}
use Rattle.house_model.specs.Sound.{Sound}
use Rattle.house_model.specs.Stays.{takes, takes_entries}
use Rattle.house_model.specs.Queueing.{entry_for, if_taken, queued_by, queued_in, queued_for}
use Rattle.house_model.proofs.QueueSteps.{session_tells}
use Rattle.house_model.proofs.SoundLemmas.{apply_sound}
use Rattle.house_model.proofs.StayLemmas.{put_both}
use Rattle.house_model.proofs.TurnLaws.{next_sound, starts_sound}

-- one operation

either_way : (b : Bool) (l : List Entry) → (if b then l else l) ≡ l
either_way true l = refl
either_way false l = refl

-- the queue is as before where nothing is queued
same_grows : (q p : List Entry) (x : Session Traffic) → p ≡ q → p ≡ q ++ if_taken x []
same_grows q p x same = same ∙ (sym (append-nil q) ∙ ap (λ (l : List Entry). q ++ l) (sym (either_way (takes_entries x) [])))

pushed_grows : (has b : Bool) (m : Hold) (t : Traffic) (r : Rest) (e : Entry) → takes b m ≡ true
    → (pushed whole has b m t r e).traffic.queued ≡ t.queued ++ if_taken (pushed whole has b m t r e) (e ∷ [])
pushed_grows true b m t r e takes' = ap (λ (c : Bool). t.queued ++ (if c then e ∷ [] else [])) (sym takes')
pushed_grows false b m t r e takes' = sym (append-nil t.queued)

push_grows : (b : Bool) (m : Hold) (t : Traffic) (r : Rest) (e : Entry)
    → (step_if whole b m t r (Push e)).traffic.queued ≡ t.queued ++ if_taken (step_if whole b m t r (Push e)) (e ∷ [])
push_grows true (Held v d) t r e = pushed_grows (whole.has_room t e) true (Held v d) t r e refl
push_grows false (Held v d) t r e = pushed_grows (whole.has_room t e) false (Held v d) t r e refl
push_grows true Away t r e = pushed_grows (whole.has_room t e) true Away t r e refl
push_grows false Away t r e = sym (append-nil t.queued)
push_grows true (Ended cause) t r e = sym (append-nil t.queued)
push_grows false (Ended cause) t r e = sym (append-nil t.queued)
push_grows true Gone t r e = sym (append-nil t.queued)
push_grows false Gone t r e = sym (append-nil t.queued)

abbrev IsNoPush : Op → Type 0
IsNoPush op = (e : Entry) → op ≡ Push e → ⊥

stays_queued : (x : Session Traffic) (op : Op) → IsNoPush op → (session_step whole x op).traffic.queued ≡ x.traffic.queued
stays_queued x op none = elim (session_tells x op).queue [
  | inl same ↦ same
  | inr p ↦ absurd (none p.0 p.1)
]

-- one effect

abbrev Grows : ℕ → World Traffic → Effect → Type 0
Grows s world e =
    ((apply whole world e).sessions s).traffic.queued
    ≡ (world.sessions s).traffic.queued ++ if_taken ((apply whole world e).sessions s) (entry_for s e)

push_here : (s i : ℕ) (world : World Traffic) (e : Entry) → Grows s world (On i (Push e))
push_here s i world e =
    put_both (λ j (y : Session Traffic). y.traffic.queued ≡ (world.sessions j).traffic.queued ++ if_taken y (if j == i then e ∷ [] else []))
    i (session_step whole (world.sessions i) (Push e)) world.sessions
    (let x : Session Traffic = world.sessions i in
    push_grows x.counts x.hold x.traffic x.rest e
    ∙ ap (λ (b : Bool). x.traffic.queued ++ if_taken (session_step whole x (Push e)) (if b then e ∷ [] else [])) (sym (eq-eqb i i refl)))
    (λ j other.
    let x : Session Traffic = world.sessions j in
    same_grows x.traffic.queued x.traffic.queued x refl
    ∙ ap (λ (b : Bool). x.traffic.queued ++ if_taken x (if b then e ∷ [] else [])) (sym (ne_eqb j i other)))
    s

plain_here : (s i : ℕ) (world : World Traffic) (op : Op) → IsNoPush op
    → ((apply whole world (On i op)).sessions s).traffic.queued
    ≡ (world.sessions s).traffic.queued ++ if_taken ((apply whole world (On i op)).sessions s) []
plain_here s i world op none =
    put_both (λ j (y : Session Traffic). y.traffic.queued ≡ (world.sessions j).traffic.queued ++ if_taken y [])
    i (session_step whole (world.sessions i) op) world.sessions
    (same_grows (world.sessions i).traffic.queued (session_step whole (world.sessions i) op).traffic.queued (session_step whole (world.sessions i) op)
    (stays_queued (world.sessions i) op none))
    (λ j other. same_grows (world.sessions j).traffic.queued (world.sessions j).traffic.queued (world.sessions j) refl)
    s

-- a session that is made had nothing queued
begin_here : (s w c : ℕ) (a : _) (world : World Traffic) → Sound world → Grows s world (Begin w c a)
begin_here s w c a world o =
    put_both (λ j (y : Session Traffic). y.traffic.queued ≡ (world.sessions j).traffic.queued ++ if_taken y [])
    (world.made + 1) (begun whole w c a) world.sessions
    (same_grows (world.sessions (world.made + 1)).traffic.queued [] (begun whole w c a)
    (sym (ap (λ (y : Session Traffic). y.traffic.queued) (o.later (world.made + 1) (omega arith)))))
    (λ j other. same_grows (world.sessions j).traffic.queued (world.sessions j).traffic.queued (world.sessions j) refl)
    s

idle_here : (s : ℕ) (world : World Traffic)
    → (world.sessions s).traffic.queued ≡ (world.sessions s).traffic.queued ++ if_taken (world.sessions s) []
idle_here s world = same_grows (world.sessions s).traffic.queued (world.sessions s).traffic.queued (world.sessions s) refl

on_grows : (s i : ℕ) (world : World Traffic) (op : Op) → Grows s world (On i op)
on_grows s i world (Push e) = push_here s i world e
on_grows s i world Pull = plain_here s i world Pull (λ e is. cc)
on_grows s i world Request = plain_here s i world Request (λ e is. cc)
on_grows s i world (Enable id) = plain_here s i world (Enable id) (λ e is. cc)
on_grows s i world (Ack count) = plain_here s i world (Ack count) (λ e is. cc)
on_grows s i world Tell = plain_here s i world Tell (λ e is. cc)
on_grows s i world (Act x) = plain_here s i world (Act x) (λ e is. cc)
on_grows s i world (Drop deadline) = plain_here s i world (Drop deadline) (λ e is. cc)
on_grows s i world (Resume w c count) = plain_here s i world (Resume w c count) (λ e is. cc)
on_grows s i world (End cause) = plain_here s i world (End cause) (λ e is. cc)
on_grows s i world (Marks mark) = plain_here s i world (Marks mark) (λ e is. cc)
on_grows s i world Part = plain_here s i world Part (λ e is. cc)

effect_grows : (s : ℕ) (world : World Traffic) (e : Effect) → Sound world → Grows s world e
effect_grows s world (Open w) o = idle_here s world
effect_grows s world (At w op) o = idle_here s world
effect_grows s world (Note change) o = idle_here s world
effect_grows s world (Hosts x) o = idle_here s world
effect_grows s world (Files filing) o = idle_here s world
effect_grows s world (Begin w c a) o = begin_here s w c a world o
effect_grows s world (On i op) o = on_grows s i world op

-- the effects of a turn, and a history

then_grows : (q a b p r : List Entry) → p ≡ q ++ a → r ≡ p ++ b → r ≡ q ++ (a ++ b)
then_grows q a b p r first rest = rest ∙ (ap (λ (l : List Entry). l ++ b) first ∙ append_assoc q a b)

all_grow : (s : ℕ) (world : World Traffic) (es : List Effect) → Sound world
    → ((apply_all whole world es).sessions s).traffic.queued ≡ (world.sessions s).traffic.queued ++ queued_by s world es
all_grow s world [] o = sym (append-nil _)
all_grow s world (e ∷ es) o =
    then_grows (world.sessions s).traffic.queued (if_taken ((apply whole world e).sessions s) (entry_for s e)) (queued_by s (apply whole world e) es)
    ((apply whole world e).sessions s).traffic.queued ((apply_all whole world (e ∷ es)).sessions s).traffic.queued
    (effect_grows s world e o) (all_grow s (apply whole world e) es (apply_sound world e o))

turn_grows : (s : ℕ) (st : State) (e : Event) (o : Outcome) → Sound st.world
    → ((next_by st e o).world.sessions s).traffic.queued ≡ (st.world.sessions s).traffic.queued ++ queued_in s st e o
turn_grows s st e (Made reply text) o = all_grow s st.world (verdict (keep (turn e st)) e).effects o
turn_grows s st e Short o = sym (append-nil _)

after_grows : (s : ℕ) (st : State) (h : List Turn) → Sound st.world
    → ((after st h).world.sessions s).traffic.queued ≡ (st.world.sessions s).traffic.queued ++ told (queued_in s) st h
after_grows s st [] o = sym (append-nil _)
after_grows s st (x ∷ more) o =
    then_grows (st.world.sessions s).traffic.queued (queued_in s st x.event x.outcome) (told (queued_in s) (next st x) more)
    ((next st x).world.sessions s).traffic.queued ((after st (x ∷ more)).world.sessions s).traffic.queued
    (turn_grows s st x.event x.outcome o) (after_grows s (next st x) more (next_sound st x o))

pub queueing : (o : State) (h : List Turn) → IsOpening o → (s : ℕ) → ((after o h).world.sessions s).traffic.queued ≡ queued_for o h s
queueing o h starts s =
    after_grows s o h (starts_sound o starts)
    ∙ ap (λ (st : State). (st.world.sessions s).traffic.queued ++ queued_for o h s) starts.4

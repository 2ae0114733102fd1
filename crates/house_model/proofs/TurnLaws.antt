-- What the code keeps follows by itself: where it stands for a history, its own step leads to where it stands for that
-- history and one turn more.
use Rattle.std.proofs.Common.{◌≡◌, ℕ, ◌<◌, List, [], ◌∷◌, ◌++◌, Result, Ok, Err, refl, sym, ◌∙◌, ap, subst}
use Rattle.std.specs.Prelude.{OnOk, IfOk, OnErr}
use Rattle.jid_core.specs.Addresses.{Address}
use Rattle.house_model.specs.declared.event.Event.{Event}
use Rattle.house_model.specs.declared.reply.Reply.{Reply}
use Rattle.house_model.specs.Traffic.{Traffic, whole, brief}
use Rattle.house_model.specs.declared.limits.Limits.{Limits}
use Rattle.house_model.specs.States.{World, Head, State, Kept, keep, keep_world, opening_with}
use Rattle.house_model.specs.Effects.{Effect, apply_all}
use Rattle.house_model.specs.Steps.{verdict, turn}
use Rattle.house_model.specs.Histories.{Outcome, Made, Short, Turn, step, kept_step, line_of, Meets, MayBeShort, IsOutcome, passed, next_by}
use Rattle.house_model.specs.Histories.{next, after, kept_next_by, Allowed, Legal, IsOpening, StandsFor, made, short, ended}
use Rattle.house_model.specs.Sound.{Sound}
use Rattle.house_model.proofs.KeepLemmas.{all_kept}
use Rattle.house_model.proofs.SoundLemmas.{all_sound, opening_sound}

pub effects_kept : (world : World Traffic) (es : List Effect) → Sound world
    → keep_world (apply_all whole world es) ≡ apply_all brief (keep_world world) es
effects_kept world es o = all_kept world es o.ordered

pub step_kept : (st : State) (e : Event) → Sound st.world → keep (step st e).state ≡ (kept_step (keep st) e).state
step_kept st e o =
    λ i. record { head = (turn e st).head; world = effects_kept st.world (verdict (keep (turn e st)) e).effects o i }

pub reply_kept : (st : State) (e : Event) → (step st e).reply ≡ (kept_step (keep st) e).reply
reply_kept st e = refl

pub text_kept : (st : State) (e : Event) → (step st e).text ≡ (kept_step (keep st) e).text
text_kept st e = refl

next_kept : (st : State) (e : Event) (o : Outcome) → Sound st.world → kept_next_by (keep st) e o ≡ keep (next_by st e o)
next_kept st e (Made reply text) o = sym (step_kept st e o)
next_kept st e Short o = refl

-- each state that is reached is sound
next_by_sound : (st : State) (e : Event) (o : Outcome) → Sound st.world → Sound (next_by st e o).world
next_by_sound st e (Made reply text) o = all_sound st.world (verdict (keep (turn e st)) e).effects o
next_by_sound st e Short o = o

pub next_sound : (st : State) (x : Turn) → Sound st.world → Sound (next st x).world
next_sound st x o = next_by_sound st x.event x.outcome o

pub after_sound : (st : State) (h : List Turn) → Sound st.world → Sound (after st h).world
after_sound st [] o = o
after_sound st (x ∷ more) o = after_sound (next st x) more (next_sound st x o)

pub starts_sound : (o : State) → IsOpening o → Sound o.world
starts_sound o starts = subst (λ (st : State). Sound st.world) (sym starts.4) (opening_sound starts.0 starts.1 starts.2 starts.3)

pub always_sound : (o : State) (h : List Turn) → IsOpening o → Sound (after o h).world
always_sound o h starts = after_sound o h (starts_sound o starts)

-- one turn more
pub after_push : (st : State) (h : List Turn) (x : Turn) → after st (h ++ x ∷ []) ≡ next (after st h) x
after_push st [] x = refl
after_push st (y ∷ more) x = after_push (next st y) more x

pub legal_push : (st : State) (h : List Turn) (x : Turn) → Legal st h → Allowed (after st h) x → Legal st (h ++ x ∷ [])
legal_push st [] x legal allowed = (allowed, tt)
legal_push st (y ∷ more) x legal allowed = (legal.0, legal_push (next st y) more x legal.1 allowed)

pub stands_on : (o : State) (h : List Turn) (k : Kept) (x : Turn) → StandsFor o h k → Allowed (after o h) x
    → StandsFor o (h ++ x ∷ []) (kept_next_by k x.event x.outcome)
stands_on o h k x stands allowed = record {
  starts = stands.starts;
  legal = legal_push o h x stands.legal allowed;
  kept =
      ap (λ (j : Kept). kept_next_by j x.event x.outcome) stands.kept
      ∙ (next_kept (after o h) x.event x.outcome (always_sound o h stands.starts)
      ∙ ap keep (sym (after_push o h x)));
}

-- the head of the state is what the code has
pub head_kept : (o : State) (h : List Turn) (k : Kept) → StandsFor o h k → k.head ≡ (after o h).head
head_kept o h k stands = ap (λ (x : Kept). x.head) stands.kept

line_there : (o : State) (h : List Turn) (k : Kept) (e : Event) → StandsFor o h k → line_of e < k.head.workers
    → line_of e < (after o h).head.workers
line_there o h k e stands low = subst (λ (x : Head). line_of e < x.workers) (head_kept o h k stands) low

outcome_made : (o : State) (h : List Turn) (k : Kept) (e : Event) (reply : Reply) (text : List ℕ) → StandsFor o h k
    → reply ≡ (kept_step k e).reply → text ≡ (kept_step k e).text → IsOutcome (after o h) e (Made reply text)
outcome_made o h k e reply text stands same_reply same_text = (
  same_reply ∙ ap (λ (x : Kept). (kept_step x e).reply) stands.kept,
  same_text ∙ ap (λ (x : Kept). (kept_step x e).text) stands.kept,
)

-- the same for a state, a reply and a text that are the step's
pub stands-made : (o : State) (h : List Turn) (k k' : Kept) (e : Event) (reply : Reply) (text : List ℕ)
    → StandsFor o h k → line_of e < k.head.workers → Meets e
    → k' ≡ (kept_step k e).state → reply ≡ (kept_step k e).reply → text ≡ (kept_step k e).text
    → StandsFor o (h ++ made e reply text ∷ []) k'
stands-made o h k k' e reply text stands low meets same_state same_reply same_text =
    subst (StandsFor o (h ++ made e reply text ∷ [])) (sym same_state)
    (stands_on o h k (made e reply text) stands (record {
      line = line_there o h k e stands low;
      meets = meets;
      outcome = outcome_made o h k e reply text stands same_reply same_text;
    }))

pub stands-short : (o : State) (h : List Turn) (k k' : Kept) (e : Event) → StandsFor o h k → line_of e < k.head.workers
    → Meets e → MayBeShort e
    → k' ≡ passed k → StandsFor o (h ++ short e ∷ []) k'
stands-short o h k k' e stands low meets may same =
    subst (StandsFor o (h ++ short e ∷ [])) (sym same)
    (stands_on o h k (short e) stands (record { line = line_there o h k e stands low; meets = meets; outcome = may }))

-- the same for a call that may find no memory
pub stands-ended : {E : Type 0} (o : State) (h : List Turn) (k k' : Kept) (e : Event) (r : Result Reply E)
    → StandsFor o h k → line_of e < k.head.workers → Meets e
    → MayBeShort e → (kept_step k e).text ≡ [] → OnOk r (k' ≡ (kept_step k e).state)
    → IfOk r (λ reply. reply ≡ (kept_step k e).reply) → OnErr r (k' ≡ passed k)
    → StandsFor o (h ++ ended e r ∷ []) k'
stands-ended o h k k' e (Ok reply) stands low meets may text state same passed =
    stands-made o h k k' e reply [] stands low meets state same (sym text)
stands-ended o h k k' e (Err fault) stands low meets may text state same passed =
    stands-short o h k k' e stands low meets may passed

pub starts : (limits : Limits) (domain : Address) (users : List (List ℕ)) (workers : ℕ)
    → StandsFor (opening_with limits domain users workers) [] (keep (opening_with limits domain users workers))
starts limits domain users workers = record { starts = (limits, domain, users, workers, refl); legal = tt; kept = refl }

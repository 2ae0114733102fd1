-- What an operation does to a session, as far as its stays see it.
use Rattle.std.proofs.Common.{◌≡◌, ◌⊎◌, inl, inr, ℕ, List, [], ◌∷◌, ◌++◌, Option, Some, None, Bool, true, false, not, ◌&&◌, refl, sym, ◌∙◌, slice_get}
use Rattle.stanza_tree.specs.declared.frame.Entry.{Entry}
use Rattle.house_model.specs.Sessions.{Hold, Held, Away, Ended, Rest, Session, Op, Push, Pull, Request, Enable, Ack, Drop, Resume}
use Rattle.house_model.specs.Sessions.{End, Part, Marks, session, over, pushed, acked, resumed, step_if, session_step}
use Rattle.house_model.specs.Traffic.{Traffic, whole, give, give_up, ack, resume, handled}
use Rattle.house_model.specs.Stays.{takes, takes_entries}

-- its queue is as before, or the entry that is pushed stands at its end
abbrev pub IsQueued : List Entry → Op → Session Traffic → Type 0
IsQueued q op y = (y.traffic.queued ≡ q) ⊎ ((e : Entry) × (op ≡ Push e) × (takes_entries y ≡ true) × (y.traffic.queued ≡ q ++ e ∷ []))

pub record Tells (b : Bool) (m : Hold) (t : Traffic) (r : Rest) (op : Op) (y : Session Traffic) : Type 0 where
  pub address : y.rest.address ≡ r.address
  pub stops : takes_entries y ≡ true → takes b m ≡ true
  pub quiet : takes b m ≡ false → y.traffic.queued ≡ t.queued
  pub queue : IsQueued t.queued op y

-- nothing is queued
plain : (b : Bool) (m : Hold) (t : Traffic) (r : Rest) (op : Op) (y : Session Traffic)
    → y.rest.address ≡ r.address → (takes_entries y ≡ true → takes b m ≡ true) → y.traffic.queued ≡ t.queued → Tells b m t r op y
plain b m t r op y address stops same = record { address = address; stops = stops; quiet = λ _. same; queue = inl same }

pushed_tells : (has b : Bool) (m : Hold) (t : Traffic) (r : Rest) (e : Entry) → takes b m ≡ true
    → Tells b m t r (Push e) (pushed whole has b m t r e)
pushed_tells true b m t r e takes' = record {
  address = refl;
  stops = λ _. takes';
  quiet = λ (f : takes b m ≡ false). absurd (let z : true ≡ false = sym takes' ∙ f in cc);
  queue = inr (e, refl, takes', refl);
}
pushed_tells false b m t r e takes' = plain b m t r (Push e) (pushed whole false b m t r e) refl (λ (h : false ≡ true). absurd (let z : false ≡ true = h in cc))
    refl

give_queued : (t : Traffic) (o : Option Entry) → (give t o).queued ≡ t.queued
give_queued t None = refl
give_queued t (Some e) = refl

give_up_queued : (t : Traffic) (o : Option Entry) → (give_up t o).queued ≡ t.queued
give_up_queued t None = refl
give_up_queued t (Some e) = refl

acked_tells : (o : Option ℕ) (v d : ℕ) (t : Traffic) (r : Rest) (h : ℕ) → Tells true (Held v d) t r (Ack h) (acked whole (ack t o) (Held v d) t r h)
acked_tells None v d t r h = plain true (Held v d) t r (Ack h) (acked whole None (Held v d) t r h) refl (λ _. refl) refl
acked_tells (Some n) v d t r h = plain true (Held v d) t r (Ack h) (acked whole (ack t (Some n)) (Held v d) t r h) refl (λ _. refl) refl

resumed_tells : (o : Option ℕ) (m : Hold) (t : Traffic) (r : Rest) (w c h : ℕ) → takes true m ≡ true
    → Tells true m t r (Resume w c h) (resumed (resume t o) m t r w c)
resumed_tells None m t r w c h is = plain true m t r (Resume w c h) (resumed (resume t None) m t r w c) refl (λ _. is) refl
resumed_tells (Some n) m t r w c h is = plain true m t r (Resume w c h) (resumed (resume t (Some n)) m t r w c) refl (λ _. is) refl

step_tells : (b : Bool) (m : Hold) (t : Traffic) (r : Rest) (op : Op) → Tells b m t r op (step_if whole b m t r op)
step_tells b (Held v d) t r (Push e) = pushed_tells (whole.has_room t e) b (Held v d) t r e refl
step_tells true Away t r (Push e) = pushed_tells (whole.has_room t e) true Away t r e refl
step_tells b (Held v d) t r (End cause) = plain b (Held v d) t r (End cause) (over b t r cause) refl (λ _. refl) refl
step_tells true Away t r (End cause) = plain true Away t r (End cause) (over true t r cause) refl (λ _. refl) refl
step_tells false (Held v d) t r Pull =
    plain false (Held v d) t r Pull (session false (Held v d) (whole.give_up t) r) refl (λ _. refl) (give_up_queued t (slice_get t.queued t.sent))
step_tells true (Held v d) t r Pull =
    plain true (Held v d) t r Pull (session true (Held v d) (whole.give t) r) refl (λ _. refl) (give_queued t (slice_get t.queued t.sent))
step_tells true (Held v d) t r (Ack h) = acked_tells (handled t h) v d t r h
step_tells true (Held v d) t r (Resume w c h) = resumed_tells (handled t h) (Held v d) t r w c h refl
step_tells true Away t r (Resume w c h) = resumed_tells (handled t h) Away t r w c h refl
step_tells true (Held v d) t r Request = plain true (Held v d) t r Request (step_if whole true (Held v d) t r Request) refl (λ _. refl) refl
step_tells false (Held v d) t r Request = plain false (Held v d) t r Request (step_if whole false (Held v d) t r Request) refl (λ _. refl) refl
step_tells true (Held v d) t r (Enable id) = plain true (Held v d) t r (Enable id) (step_if whole true (Held v d) t r (Enable id)) refl (λ _. refl) refl
step_tells false (Held v d) t r (Enable id) = plain false (Held v d) t r (Enable id) (step_if whole false (Held v d) t r (Enable id)) refl (λ _. refl) refl
step_tells false (Held v d) t r (Ack h) = plain false (Held v d) t r (Ack h) (step_if whole false (Held v d) t r (Ack h)) refl (λ _. refl) refl
step_tells true (Held v d) t r (Drop deadline) = plain true (Held v d) t r (Drop deadline) (step_if whole true (Held v d) t r (Drop deadline)) refl (λ _. refl)
    refl
step_tells false (Held v d) t r (Drop deadline) = plain false (Held v d) t r (Drop deadline) (step_if whole false (Held v d) t r (Drop deadline)) refl
    (λ _. refl) refl
step_tells false (Held v d) t r (Resume w c h) = plain false (Held v d) t r (Resume w c h) (step_if whole false (Held v d) t r (Resume w c h)) refl (λ _. refl)
    refl
step_tells true Away t r (Marks mark) = plain true Away t r (Marks mark) (step_if whole true Away t r (Marks mark)) refl (λ _. refl) refl
step_tells false Away t r op = plain false Away t r op (step_if whole false Away t r op) refl (λ h. h) refl
step_tells b (Ended cause) t r Part =
    plain b (Ended cause) t r Part (step_if whole b (Ended cause) t r Part) refl (λ (h : false ≡ true). absurd (let z : false ≡ true = h in cc)) refl
step_tells b m t r op = plain b m t r op (step_if whole b m t r op) refl (λ h. h) refl

pub session_tells : (x : Session Traffic) (op : Op) → Tells x.counts x.hold x.traffic x.rest op (session_step whole x op)
session_tells x op = step_tells x.counts x.hold x.traffic x.rest op

-- whether a session stops is told by whether it takes entries before and after
pub stops_or_not : (b c : Bool) → (c ≡ true → b ≡ true) → (((b && not c) ≡ true) × (c ≡ false)) ⊎ (((b && not c) ≡ false) × (c ≡ b))
stops_or_not true true h = inr (refl, refl)
stops_or_not true false h = inl (refl, refl)
stops_or_not false true h = absurd (let z : false ≡ true = h refl in cc)
stops_or_not false false h = inr (refl, refl)

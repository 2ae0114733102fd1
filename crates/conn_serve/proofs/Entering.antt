-- What an event, and random bytes, make of a connection.
use Rattle.std.proofs.Common.{◌≡◌, ℕ, ◌≤◌, List, [], ◌∷◌, ◌++◌, true, false, length, drop, refl, sym, ap, subst, arith, ◌∙◌}
use Rattle.std.specs.Prelude.{Option, Result}
use Rattle.std.proofs.lemmas.List.{append-nil, drop-append-le}
use Rattle.outside.specs.Devices.{Rose}
use Rattle.outside.specs.Tapes.{Mark, Tells}
use Rattle.house_model.specs.Histories.{MayBeShort, Turn, made, short}
use Rattle.house_model.specs.declared.event.Event.{Event}
use Rattle.house_model.specs.declared.reply.Reply.{Reply}
use Rattle.hall.specs.Desks.{Served}
use Rattle.hall.specs.declared.desk.DeskFault.{DeskFault}
use Rattle.conn_asks.specs.declared.ended.Ended.{Ended}
use Rattle.conn_asks.specs.declared.ended.Ended.TheVariants as ended
use Rattle.conn_flow.specs.Moves.{Draws, Enters, Stops}
use Rattle.conn_flow.specs.Duties.{Site, Duty, Leaves, Left}
use Rattle.conn_flow.specs.Following.{GoesOn, draws_next, enters_next}
use Rattle.conn_flow.specs.Flows.{State, ToDraw, ToFinish, ToSubmit, gave_at, short_at, told, wish_of}
use Rattle.flow_laws.specs.Standing.{IsServed, Place, duty}
use Rattle.flow_laws.specs.Steps.{enters_at, gives_at, shorts_at, wishes_at}
use Rattle.conn_serve.specs.Entering.{Gives}
use Rattle.conn_serve.specs.Serving.{Exhausted, Finished, Moved, Tale, tale}
use Rattle.conn_serve.proofs.Growing.{tells_nothing}
use Rattle.conn_serve.proofs.Laws as L
use Rattle.conn_serve.proofs.Listening.{one, stops}
use Rattle.conn_serve.proofs.Sending.{calm, same}
use Rattle.conn_serve.proofs.Standing.{duty_moment, wished_moment}

-- What an event gives comes last.

pub gives_none : (w : ℕ) (e : Event) (owed : List ℕ) (result : Result Reply DeskFault) (old new : List Turn) → Served w e [] result old new
    → Gives w e owed owed result old new
gives_none w e owed result old new served = ([], sym (append-nil _), served)

-- of what is owed some may have been sent
pub gives_rest : (w : ℕ) (e : Event) (bytes bytes' owed : List ℕ) (sent : ℕ) (result : Result Reply DeskFault) (old new : List Turn)
    → sent ≤ length bytes → drop sent bytes ≡ owed → Gives w e bytes bytes' result old new → Gives w e owed (drop sent bytes') result old new
gives_rest w e bytes bytes' owed sent result old new within is (text, next, served) =
    (text, ap (drop sent) next ∙ drop-append-le sent bytes text within ∙ ap (λ (x : List ℕ). x ++ text) is, served)

-- The house answered, and the text of a frame is owed.

pub submitted :
    (o : Site) (p : Place) (e : Event) (r : Reply) (text owed owed' : List ℕ) (flow flow' : State) (ahead : List ℕ)
    (tape : Option (List Mark)) (turns turns' : List Turn) (told0 : Option (List ℕ)) (drawn : Option (List (List ℕ))) (f e0 d : ℕ)
    → IsServed o p → p.ahead ≡ ahead → p.owed ≡ owed → wish_of p.flow ≡ ToSubmit e → flow ≡ wishes_at p.flow → flow' ≡ told flow r
    → owed' ≡ owed ++ text → turns' ≡ turns ++ made e r text ∷ []
    → Moved 1 o (tale tape turns told0 drawn f e0 d) (duty o p) (tale tape turns' told0 drawn f e0 d) flow' ahead owed'
submitted o p e r text owed owed' flow flow' ahead tape turns turns' told0 drawn f e0 d h ahead_is owes w was is grown gained =
    let q : Place = enters_at p r text in
    let law : GoesOn o (duty o p) (Enters (made e r text)) (duty o q) × IsServed o q = L.enters o p e r text h w in
    record {
      came = record {
        to = q;
        at = record {
          flow_is = sym (is ∙ ap (λ (s : State). told s r) was);
          ahead_is = ahead_is;
          owed_is = ap (λ (x : List ℕ). x ++ text) owes ∙ sym grown;
          served = law.1;
        };
        grew = one o (tale tape turns told0 drawn f e0 d) (tale tape turns' told0 drawn f e0 d) (duty o p) (duty o q) (Enters (made e r text)) law.0
            (tells_nothing Mark tape) gained (tells_nothing ℕ told0) (tells_nothing (List ℕ) drawn)
            (calm (Enters (made e r text) ∷ []) _ _ refl refl refl (same f) (same e0) (same d));
      };
      enough = omega arith;
    }

-- The house found no memory.

pub shorted :
    (o : Site) (p : Place) (e : Event) (text owed owed' : List ℕ) (flow flow' : State) (ahead : List ℕ)
    (tape : Option (List Mark)) (turns turns' : List Turn) (told0 : Option (List ℕ)) (drawn : Option (List (List ℕ))) (f e0 d : ℕ)
    → IsServed o p → p.ahead ≡ ahead → p.owed ≡ owed → MayBeShort e → wish_of p.flow ≡ ToSubmit e → flow ≡ wishes_at p.flow
    → flow' ≡ record flow { talk = short_at flow.talk flow.talk.phase } → owed' ≡ owed ++ text → text ≡ [] → turns' ≡ turns ++ short e ∷ []
    → Moved 1 o (tale tape turns told0 drawn f e0 d) (duty o p) (tale tape turns' told0 drawn f e0 d) flow' ahead owed'
shorted o p e text owed owed' flow flow' ahead tape turns turns' told0 drawn f e0 d h ahead_is owes may w was is grown none gained =
    let q : Place = shorts_at p in
    let law : GoesOn o (duty o p) (Enters (short e)) (duty o q) × IsServed o q = L.shorts o p e h may w in
    record {
      came = record {
        to = q;
        at = record {
          flow_is = sym (is ∙ ap (λ (s : State). record s { talk = short_at s.talk s.talk.phase }) was);
          ahead_is = ahead_is;
          owed_is = owes ∙ sym (append-nil owed) ∙ ap (λ (x : List ℕ). owed ++ x) (sym none) ∙ sym grown;
          served = law.1;
        };
        grew = one o (tale tape turns told0 drawn f e0 d) (tale tape turns' told0 drawn f e0 d) (duty o p) (duty o q) (Enters (short e)) law.0
            (tells_nothing Mark tape) gained (tells_nothing ℕ told0) (tells_nothing (List ℕ) drawn)
            (calm (Enters (short e) ∷ []) _ _ refl refl refl (same f) (same e0) (same d));
      };
      enough = omega arith;
    }

-- There was no memory for a frame.

no_end : {e : Event} {x : Ended} → ToSubmit e ≡ ToFinish x → ⊥
no_end e = cc

pub no_frame : (o : Site) (p : Place) (e : Event) (flow : State) (t : ℕ) (tape : Option (List Mark)) (turns turns' : List Turn) (told0 : Option (List ℕ))
    (drawn : Option (List (List ℕ))) (f e0 d : ℕ)
    → wish_of p.flow ≡ ToSubmit e → flow ≡ wishes_at p.flow → t ≡ flow.talk.moment → turns' ≡ turns
    → Finished o (tale tape turns told0 drawn f e0 d) (duty o p) (tale tape turns' told0 drawn f e0 d) ended.NoMemory t
no_frame o p e flow t tape turns turns' told0 drawn f e0 d w was now none =
    subst (λ (x : List Turn). Finished o (tale tape turns told0 drawn f e0 d) (duty o p) (tale tape x told0 drawn f e0 d) ended.NoMemory t) (sym none)
    (stops o (tale tape turns told0 drawn f e0 d) (duty o p) t (L.wants_on o p (λ x end. no_end (sym w ∙ end)))
    (duty_moment o p ∙ sym (wished_moment p.flow.talk p.flow.talk.phase) ∙ ap (λ (s : State). s.talk.moment) (sym was) ∙ sym now))

-- No turn was left.

pub spent : (o : Site) (a : Tale) (v : Duty) → enters_next v.due ≡ true → Exhausted o a v a
spent o a v due = record {
  last = record v { due = Left ended.Spent ∷ []; owed = [] };
  grew = one o a a v (record v { due = Left ended.Spent ∷ []; owed = [] }) (Stops ended.Spent) (due, refl)
      (tells_nothing Mark a.told.tape) (sym (append-nil _)) (tells_nothing ℕ a.told.moments) (tells_nothing (List ℕ) a.told.drawn)
      (calm (Stops ended.Spent ∷ []) a.counts a.counts refl refl refl (same a.counts.faults) (same a.counts.ends) (same a.counts.dice));
  left = refl;
  sent = refl;
}

pub is_spent : (o : Site) (p : Place) (e : Event) (tape : Option (List Mark)) (turns turns' : List Turn) (told0 : Option (List ℕ))
    (drawn : Option (List (List ℕ))) (f e0 d : ℕ)
    → wish_of p.flow ≡ ToSubmit e → turns' ≡ turns
    → Exhausted o (tale tape turns told0 drawn f e0 d) (duty o p) (tale tape turns' told0 drawn f e0 d)
is_spent o p e tape turns turns' told0 drawn f e0 d w none =
    subst (λ (x : List Turn). Exhausted o (tale tape turns told0 drawn f e0 d) (duty o p) (tale tape x told0 drawn f e0 d)) (sym none)
    (spent o (tale tape turns told0 drawn f e0 d) (duty o p) (L.enters_due o p e w))

-- Random bytes were drawn, or were not to be had.

pub drew : (o : Site) (p : Place) (dice : List ℕ) (flow flow' : State) (ahead owed : List ℕ)
    (tape : Option (List Mark)) (turns : List Turn) (told0 : Option (List ℕ)) (drawn drawn' : Option (List (List ℕ))) (f e d d' : ℕ)
    → IsServed o p → p.ahead ≡ ahead → p.owed ≡ owed → length dice ≡ 18 → wish_of p.flow ≡ ToDraw → flow ≡ p.flow
    → flow' ≡ record flow { talk = gave_at flow.talk dice } → Tells (List ℕ) drawn drawn' (dice ∷ []) → d ≤ d'
    → Moved 1 o (tale tape turns told0 drawn f e d) (duty o p) (tale tape turns told0 drawn' f e d') flow' ahead owed
drew o p dice flow flow' ahead owed tape turns told0 drawn drawn' f e d d' h ahead_is owes long w was is tells kept =
    let law : GoesOn o (duty o p) (Draws dice) (duty o (gives_at p dice)) × IsServed o (gives_at p dice) = L.draws o p dice h long w in
    record {
      came = record {
        to = gives_at p dice;
        at = record {
          flow_is = sym (is ∙ ap (λ (s : State). record s { talk = gave_at s.talk dice }) was);
          ahead_is = ahead_is;
          owed_is = owes;
          served = law.1;
        };
        grew = one o (tale tape turns told0 drawn f e d) (tale tape turns told0 drawn' f e d') (duty o p) (duty o (gives_at p dice)) (Draws dice) law.0
            (tells_nothing Mark tape) (sym (append-nil _)) (tells_nothing ℕ told0) tells
            (calm (Draws dice ∷ []) _ _ refl refl refl (same f) (same e) kept);
      };
      enough = omega arith;
    }

pub no_dice : (o : Site) (v : Duty) (t : ℕ)
    (tape : Option (List Mark)) (turns : List Turn) (told0 : Option (List ℕ)) (drawn drawn' : Option (List (List ℕ))) (f e d d' : ℕ)
    → draws_next v.due ≡ true → v.moment ≡ t → Tells (List ℕ) drawn drawn' [] → d ≤ d' → Rose d d'
    → Finished o (tale tape turns told0 drawn f e d) v (tale tape turns told0 drawn' f e d') ended.DiceFault t
no_dice o v t tape turns told0 drawn drawn' f e d d' due at tells kept rose = record {
  last = record v { due = Leaves ended.DiceFault ∷ []; owed = [] };
  grew = one o (tale tape turns told0 drawn f e d) (tale tape turns told0 drawn' f e d') v (record v { due = Leaves ended.DiceFault ∷ []; owed = [] })
      (Stops ended.DiceFault) (due, refl) (tells_nothing Mark tape) (sym (append-nil _)) (tells_nothing ℕ told0) tells
      (record {
        faults_kept = same f;
        ends_kept = same e;
        dice_kept = kept;
        failed = λ x. absurd (let y : false ≡ true = x in cc);
        hung = λ x. absurd (let y : false ≡ true = x in cc);
        dice_failed = λ x. rose;
      });
  leaves = refl;
  sent = refl;
  at = at;
}

pub is_no_dice : (o : Site) (p : Place) (flow : State) (t : ℕ)
    (tape : Option (List Mark)) (turns : List Turn) (told0 : Option (List ℕ)) (drawn drawn' : Option (List (List ℕ))) (f e d d' : ℕ)
    → IsServed o p → wish_of p.flow ≡ ToDraw → flow ≡ p.flow → t ≡ flow.talk.moment
    → Tells (List ℕ) drawn drawn' [] → d ≤ d' → Rose d d'
    → Finished o (tale tape turns told0 drawn f e d) (duty o p) (tale tape turns told0 drawn' f e d') ended.DiceFault t
is_no_dice o p flow t tape turns told0 drawn drawn' f e d d' h w was now tells kept rose =
    no_dice o (duty o p) t tape turns told0 drawn drawn' f e d d' (L.draws_due o p h w)
    (duty_moment o p ∙ sym (now ∙ ap (λ (s : State). s.talk.moment) was)) tells kept rose

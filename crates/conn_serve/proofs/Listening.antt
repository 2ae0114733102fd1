-- What a reading makes of a connection.
use Rattle.std.proofs.Common.{◌≡◌, ◌≢◌, ◌⊎◌, inl, inr, ℕ, ◌≤◌, ◌+◌, List, [], ◌∷◌, ◌++◌, drop, true, false, refl, sym, ap, subst, arith, ◌∙◌}
use Rattle.std.specs.Prelude.{Option}
use Rattle.std.proofs.lemmas.List.{append-nil}
use Rattle.outside.specs.Devices.{Rose}
use Rattle.outside.specs.Tapes.{Mark, Tells}
use Rattle.outside.specs.Tapes as mark
use Rattle.house_model.specs.Histories.{Turn}
use Rattle.conn_asks.specs.declared.ended.Ended.TheVariants as ended
use Rattle.conn_flow.specs.declared.phase.Phase.TheVariants.{Resting}
use Rattle.conn_flow.specs.Moves.{Move, Hears, Waits, Hangs, Stops, marks, turns, moments, draws}
use Rattle.conn_flow.specs.Duties.{Site, Duty, Leaves}
use Rattle.conn_flow.specs.Following.{GoesOn, goes_on}
use Rattle.conn_flow.specs.Flows.{State, hears, hung_at, is_late, late_at, taken_of, waited}
use Rattle.flow_laws.specs.Standing.{IsServed, Place, duty}
use Rattle.flow_laws.specs.Steps.{handling, hangs_at, hears_at, lates_at, waits_at}
use Rattle.conn_serve.specs.Serving.{Came, Counted, Finished, Grew, HearsOn, IsAt, Moved, Tale, tale}
use Rattle.conn_serve.proofs.Growing.{counted_nothing, finished_after, tells_nothing}
use Rattle.conn_serve.proofs.Laws as L
use Rattle.conn_serve.proofs.Sending.{calm, fails, same}
use Rattle.conn_serve.proofs.Standing.{duty_moment, rests_goes, rests_none}

-- memory was wanting where the connection goes on
stops_so : (o : Site) (a : Tale) (v : Duty) (t : ℕ) → (goes_on v.due ≡ true) ⊎ (v.owed ≢ []) → v.moment ≡ t → Finished o a v a ended.NoMemory t
stops_so o a v t may at = record {
  last = record v { due = Leaves ended.NoMemory ∷ []; owed = [] };
  grew = record {
    moves = Stops ended.NoMemory ∷ [];
    through = (record v { due = Leaves ended.NoMemory ∷ []; owed = [] }, (may, refl), refl);
    tape = tells_nothing Mark a.told.tape;
    turns_are = sym (append-nil _);
    moments_are = tells_nothing ℕ a.told.moments;
    drawn = tells_nothing (List ℕ) a.told.drawn;
    counted = calm (Stops ended.NoMemory ∷ []) a.counts a.counts refl refl refl (same a.counts.faults) (same a.counts.ends) (same a.counts.dice);
  };
  leaves = refl;
  sent = refl;
  at = at;
}

pub stops : (o : Site) (a : Tale) (v : Duty) (t : ℕ) → goes_on v.due ≡ true → v.moment ≡ t → Finished o a v a ended.NoMemory t
stops o a v t goes at = stops_so o a v t (inl goes) at

-- or where something is to be sent
pub stops_owing : (o : Site) (a : Tale) (v : Duty) (t : ℕ) → v.owed ≢ [] → v.moment ≡ t → Finished o a v a ended.NoMemory t
stops_owing o a v t some at = stops_so o a v t (inr some) at

-- one move, of which each tells its part
abbrev pub one : (o : Site) (a b : Tale) (v w : Duty) (m : Move) → GoesOn o v m w → Tells Mark a.told.tape b.told.tape (marks (m ∷ []))
    → b.told.turns ≡ a.told.turns ++ turns (m ∷ []) → Tells ℕ a.told.moments b.told.moments (moments (m ∷ []))
    → Tells (List ℕ) a.told.drawn b.told.drawn (draws (m ∷ [])) → Counted (m ∷ []) a.counts b.counts → Grew o a v b w
one o a b v w m goes tape turns_are moments_are drawn counted = record {
  moves = m ∷ [];
  through = (w, goes, refl);
  tape = tape;
  turns_are = turns_are;
  moments_are = moments_are;
  drawn = drawn;
  counted = counted;
}

-- no move leads to the same duty under another name
abbrev pub grew_same : (o : Site) (a : Tale) (v w : Duty) → v ≡ w → Grew o a w a v
grew_same o a v w is = record {
  moves = [];
  through = is;
  tape = tells_nothing Mark a.told.tape;
  turns_are = sym (append-nil _);
  moments_are = tells_nothing ℕ a.told.moments;
  drawn = tells_nothing (List ℕ) a.told.drawn;
  counted = counted_nothing a.counts;
}

-- What is left of a reading is heard on.

more_heard : (o : Site) (p : Place) (flow' : State) (ahead' : List ℕ) (a : Tale)
    → IsServed o p → p.flow.talk.phase ≡ Resting → p.ahead ≢ [] → HearsOn p.flow p.ahead p.flow.talk.moment flow' ahead'
    → Moved 1 o a (duty o p) a flow' ahead' p.owed
more_heard o p flow' ahead' a h at some heard =
    let q : Place = hears_at p p.flow.talk.moment p.ahead in
    let law : (duty o q ≡ duty o p) × IsServed o q = L.hears_on o p h at some in
    record {
      came = record {
        to = q;
        at = record { flow_is = sym heard.0; ahead_is = sym heard.1; owed_is = refl; served = law.1 };
        grew = grew_same o a (duty o q) (duty o p) law.0;
      };
      enough = subst (λ (s : State). 1 ≤ 0 + handling s.talk.phase) (sym heard.0) (omega arith);
    }

-- Bytes came.

bytes_heard : (o : Site) (p : Place) (t : ℕ) (bytes : List ℕ) (flow' : State) (ahead' : List ℕ)
    (tape tape' : Option (List Mark)) (turns : List Turn) (told told' : Option (List ℕ)) (drawn : Option (List (List ℕ))) (f f' e e' d : ℕ)
    → IsServed o p → p.owed ≡ [] → p.flow.talk.phase ≡ Resting → p.ahead ≡ [] → bytes ≢ [] → is_late p.flow.talk t ≡ false
    → HearsOn p.flow bytes t flow' ahead' → Tells Mark tape tape' (mark.Heard bytes ∷ []) → Tells ℕ told told' (t ∷ []) → f ≤ f' → e ≤ e'
    → Came o (tale tape turns told drawn f e d) (duty o p) (tale tape' turns told' drawn f' e' d) flow' ahead' []
bytes_heard o p t bytes flow' ahead' tape tape' turns told told' drawn f f' e e' d h owes at none some early heard tells clock faults ends =
    let law : GoesOn o (duty o p) (Hears bytes t) (duty o (hears_at p t bytes)) × IsServed o (hears_at p t bytes) =
    L.hears o p t bytes h at none owes some early in
    record {
      to = hears_at p t bytes;
      at = record { flow_is = sym heard.0; ahead_is = sym heard.1; owed_is = owes; served = law.1 };
      grew = one o (tale tape turns told drawn f e d) (tale tape' turns told' drawn f' e' d) (duty o p) (duty o (hears_at p t bytes)) (Hears bytes t)
          law.0 tells (sym (append-nil _)) clock (tells_nothing (List ℕ) drawn) (calm (Hears bytes t ∷ []) _ _ refl refl refl faults ends (same d));
    }

-- there was no memory for them
bytes_lost : (o : Site) (p : Place) (t : ℕ) (bytes : List ℕ)
    (tape tape' : Option (List Mark)) (turns : List Turn) (told told' : Option (List ℕ)) (drawn : Option (List (List ℕ))) (f f' e e' d : ℕ)
    → IsServed o p → p.owed ≡ [] → p.flow.talk.phase ≡ Resting → p.ahead ≡ [] → bytes ≢ [] → is_late p.flow.talk t ≡ false
    → Tells Mark tape tape' (mark.Heard bytes ∷ []) → Tells ℕ told told' (t ∷ []) → f ≤ f' → e ≤ e'
    → Finished o (tale tape turns told drawn f e d) (duty o p) (tale tape' turns told' drawn f' e' d) ended.NoMemory t
unfolding bytes_heard
bytes_lost o p t bytes tape tape' turns told told' drawn f f' e e' d h owes at none some early tells clock faults ends =
    let came : Came o (tale tape turns told drawn f e d) (duty o p) (tale tape' turns told' drawn f' e' d) (hears p.flow t bytes)
    (drop (taken_of p.flow bytes) bytes) [] =
    bytes_heard o p t bytes (hears p.flow t bytes) (drop (taken_of p.flow bytes) bytes) tape tape' turns told told' drawn f f' e e' d h owes at none some early
    (refl, refl) tells clock faults ends in
    finished_after came.grew
    (stops o (tale tape' turns told' drawn f' e' d) (duty o (hears_at p t bytes)) t refl (duty_moment o (hears_at p t bytes)))

-- or they came too late
bytes_late : (o : Site) (p : Place) (t : ℕ) (bytes : List ℕ) (flow' : State)
    (tape tape' : Option (List Mark)) (turns : List Turn) (told told' : Option (List ℕ)) (drawn : Option (List (List ℕ))) (f f' e e' d : ℕ)
    → IsServed o p → p.owed ≡ [] → p.flow.talk.phase ≡ Resting → p.ahead ≡ [] → bytes ≢ [] → is_late p.flow.talk t ≡ true
    → flow' ≡ record p.flow { talk = late_at p.flow.talk t } → Tells Mark tape tape' (mark.Heard bytes ∷ []) → Tells ℕ told told' (t ∷ [])
    → f ≤ f' → e ≤ e' → Came o (tale tape turns told drawn f e d) (duty o p) (tale tape' turns told' drawn f' e' d) flow' [] []
bytes_late o p t bytes flow' tape tape' turns told told' drawn f f' e e' d h owes at none some late is tells clock faults ends =
    let law : GoesOn o (duty o p) (Hears bytes t) (duty o (lates_at p t)) × IsServed o (lates_at p t) = L.lates o p t bytes h at none owes some late in
    record {
      to = lates_at p t;
      at = record { flow_is = sym is; ahead_is = none; owed_is = owes; served = law.1 };
      grew = one o (tale tape turns told drawn f e d) (tale tape' turns told' drawn f' e' d) (duty o p) (duty o (lates_at p t)) (Hears bytes t)
          law.0 tells (sym (append-nil _)) clock (tells_nothing (List ℕ) drawn) (calm (Hears bytes t ∷ []) _ _ refl refl refl faults ends (same d));
    }

-- nothing came
pub quiet : (o : Site) (p : Place) (t : ℕ) (flow' : State)
    (tape tape' : Option (List Mark)) (turns : List Turn) (told told' : Option (List ℕ)) (drawn : Option (List (List ℕ))) (f f' e e' d : ℕ)
    → IsServed o p → p.owed ≡ [] → p.flow.talk.phase ≡ Resting → p.ahead ≡ [] → flow' ≡ record p.flow { talk = waited p.flow.talk t }
    → Tells Mark tape tape' (mark.Quiet ∷ []) → Tells ℕ told told' (t ∷ []) → f ≤ f' → e ≤ e'
    → Came o (tale tape turns told drawn f e d) (duty o p) (tale tape' turns told' drawn f' e' d) flow' [] []
quiet o p t flow' tape tape' turns told told' drawn f f' e e' d h owes at none is tells clock faults ends =
    let law : GoesOn o (duty o p) (Waits t) (duty o (waits_at p t)) × IsServed o (waits_at p t) = L.waits o p t h at none owes in
    record {
      to = waits_at p t;
      at = record { flow_is = sym is; ahead_is = none; owed_is = owes; served = law.1 };
      grew = one o (tale tape turns told drawn f e d) (tale tape' turns told' drawn f' e' d) (duty o p) (duty o (waits_at p t)) (Waits t)
          law.0 tells (sym (append-nil _)) clock (tells_nothing (List ℕ) drawn) (calm (Waits t ∷ []) _ _ refl refl refl faults ends (same d));
    }

-- the link was at its end
pub hung : (o : Site) (p : Place) (t : ℕ) (flow' : State)
    (tape tape' : Option (List Mark)) (turns : List Turn) (told told' : Option (List ℕ)) (drawn : Option (List (List ℕ))) (f f' e e' d : ℕ)
    → IsServed o p → p.owed ≡ [] → p.flow.talk.phase ≡ Resting → p.ahead ≡ [] → flow' ≡ record p.flow { talk = hung_at p.flow.talk t }
    → Tells Mark tape tape' (mark.End ∷ []) → Tells ℕ told told' (t ∷ []) → f ≤ f' → e ≤ e' → Rose e e'
    → Came o (tale tape turns told drawn f e d) (duty o p) (tale tape' turns told' drawn f' e' d) flow' [] []
hung o p t flow' tape tape' turns told told' drawn f f' e e' d h owes at none is tells clock faults ends rose =
    let law : GoesOn o (duty o p) (Hangs t) (duty o (hangs_at p t)) × IsServed o (hangs_at p t) = L.hangs o p t h at none owes in
    record {
      to = hangs_at p t;
      at = record { flow_is = sym is; ahead_is = none; owed_is = owes; served = law.1 };
      grew = one o (tale tape turns told drawn f e d) (tale tape' turns told' drawn f' e' d) (duty o p) (duty o (hangs_at p t)) (Hangs t)
          law.0 tells (sym (append-nil _)) clock (tells_nothing (List ℕ) drawn)
          (record {
            faults_kept = faults;
            ends_kept = ends;
            dice_kept = same d;
            failed = λ x. absurd (let y : false ≡ true = x in cc);
            hung = λ x. rose;
            dice_failed = λ x. absurd (let y : false ≡ true = x in cc);
          });
    }

-- What is shown where the code has this flow, and nothing is owed.

pub hears_more : (o : Site) (p : Place) (flow : State) (ahead owed : List ℕ) (t : ℕ) (flow' : State) (ahead' : List ℕ) (a : Tale)
    → IsAt o p flow ahead owed → flow.talk.phase ≡ Resting → ahead ≢ [] → t ≡ flow.talk.moment → HearsOn flow ahead t flow' ahead'
    → Moved 1 o a (duty o p) a flow' ahead' owed
hears_more o p flow ahead owed t flow' ahead' a at rest some now heard =
    subst (λ (x : List ℕ). Moved 1 o a (duty o p) a flow' ahead' x) at.owed_is
    (more_heard o p flow' ahead' a at.served (ap (λ (s : State). s.talk.phase) at.flow_is ∙ rest) (λ none. some (sym at.ahead_is ∙ none))
    (subst (λ (u : ℕ). HearsOn p.flow p.ahead u flow' ahead') (now ∙ ap (λ (s : State). s.talk.moment) (sym at.flow_is))
    (subst (λ (x : List ℕ). HearsOn p.flow x t flow' ahead') (sym at.ahead_is)
    (subst (λ (s : State). HearsOn s ahead t flow' ahead') (sym at.flow_is) heard))))

-- there was no memory to hear on
pub hears_no_more : (o : Site) (p : Place) (flow : State) (ahead owed : List ℕ) (t : ℕ) (a : Tale) → IsAt o p flow ahead owed → flow.talk.phase ≡ Resting
    → t ≡ flow.talk.moment → Finished o a (duty o p) a ended.NoMemory t
hears_no_more o p flow ahead owed t a at rest now =
    stops o a (duty o p) t (rests_goes o p (ap (λ (s : State). s.talk.phase) at.flow_is ∙ rest))
    (duty_moment o p ∙ ap (λ (s : State). s.talk.moment) at.flow_is ∙ sym now)

pub hears_bytes : (o : Site) (p : Place) (flow : State) (ahead bytes : List ℕ) (t : ℕ) (flow' : State) (ahead' : List ℕ)
    (tape tape' : Option (List Mark)) (turns : List Turn) (told told' : Option (List ℕ)) (drawn : Option (List (List ℕ))) (f f' e e' d : ℕ)
    → IsAt o p flow ahead [] → flow.talk.phase ≡ Resting → ahead ≡ [] → bytes ≢ [] → false ≡ is_late flow.talk t → HearsOn flow bytes t flow' ahead'
    → Tells Mark tape tape' (mark.Heard bytes ∷ []) → Tells ℕ told told' (t ∷ []) → f ≤ f' → e ≤ e'
    → Came o (tale tape turns told drawn f e d) (duty o p) (tale tape' turns told' drawn f' e' d) flow' ahead' []
hears_bytes o p flow ahead bytes t flow' ahead' tape tape' turns told told' drawn f f' e e' d at rest none some early heard tells clock faults ends =
    bytes_heard o p t bytes flow' ahead' tape tape' turns told told' drawn f f' e e' d at.served at.owed_is
    (ap (λ (s : State). s.talk.phase) at.flow_is ∙ rest) (at.ahead_is ∙ none) some (ap (λ (s : State). is_late s.talk t) at.flow_is ∙ sym early)
    (subst (λ (s : State). HearsOn s bytes t flow' ahead') (sym at.flow_is) heard) tells clock faults ends

pub loses_bytes : (o : Site) (p : Place) (flow : State) (ahead bytes : List ℕ) (t : ℕ)
    (tape tape' : Option (List Mark)) (turns : List Turn) (told told' : Option (List ℕ)) (drawn : Option (List (List ℕ))) (f f' e e' d : ℕ)
    → IsAt o p flow ahead [] → flow.talk.phase ≡ Resting → ahead ≡ [] → bytes ≢ [] → false ≡ is_late flow.talk t
    → Tells Mark tape tape' (mark.Heard bytes ∷ []) → Tells ℕ told told' (t ∷ []) → f ≤ f' → e ≤ e'
    → Finished o (tale tape turns told drawn f e d) (duty o p) (tale tape' turns told' drawn f' e' d) ended.NoMemory t
loses_bytes o p flow ahead bytes t tape tape' turns told told' drawn f f' e e' d at rest none some early tells clock faults ends =
    bytes_lost o p t bytes tape tape' turns told told' drawn f f' e e' d at.served at.owed_is
    (ap (λ (s : State). s.talk.phase) at.flow_is ∙ rest) (at.ahead_is ∙ none) some (ap (λ (s : State). is_late s.talk t) at.flow_is ∙ sym early)
    tells clock faults ends

pub comes_late : (o : Site) (p : Place) (flow : State) (ahead bytes : List ℕ) (t : ℕ) (flow' : State) (ahead' : List ℕ)
    (tape tape' : Option (List Mark)) (turns : List Turn) (told told' : Option (List ℕ)) (drawn : Option (List (List ℕ))) (f f' e e' d : ℕ)
    → IsAt o p flow ahead [] → flow.talk.phase ≡ Resting → ahead ≡ [] → bytes ≢ [] → true ≡ is_late flow.talk t
    → flow' ≡ record flow { talk = late_at flow.talk t } → ahead' ≡ []
    → Tells Mark tape tape' (mark.Heard bytes ∷ []) → Tells ℕ told told' (t ∷ []) → f ≤ f' → e ≤ e'
    → Came o (tale tape turns told drawn f e d) (duty o p) (tale tape' turns told' drawn f' e' d) flow' ahead' []
comes_late o p flow ahead bytes t flow' ahead' tape tape' turns told told' drawn f f' e e' d at rest none some late is left tells clock faults ends =
    subst (λ (x : List ℕ). Came o (tale tape turns told drawn f e d) (duty o p) (tale tape' turns told' drawn f' e' d) flow' x []) (sym left)
    (bytes_late o p t bytes flow' tape tape' turns told told' drawn f f' e e' d at.served at.owed_is
    (ap (λ (s : State). s.talk.phase) at.flow_is ∙ rest) (at.ahead_is ∙ none) some (ap (λ (s : State). is_late s.talk t) at.flow_is ∙ sym late)
    (is ∙ ap (λ (s : State). record s { talk = late_at s.talk t }) (sym at.flow_is)) tells clock faults ends)

pub is_quiet : (o : Site) (p : Place) (flow : State) (ahead : List ℕ) (t : ℕ) (flow' : State) (ahead' : List ℕ)
    (tape tape' : Option (List Mark)) (turns : List Turn) (told told' : Option (List ℕ)) (drawn : Option (List (List ℕ))) (f f' e e' d : ℕ)
    → IsAt o p flow ahead [] → flow.talk.phase ≡ Resting → ahead ≡ [] → ahead' ≡ [] → flow' ≡ record flow { talk = waited flow.talk t }
    → Tells Mark tape tape' (mark.Quiet ∷ []) → Tells ℕ told told' (t ∷ []) → f ≤ f' → e ≤ e'
    → Came o (tale tape turns told drawn f e d) (duty o p) (tale tape' turns told' drawn f' e' d) flow' ahead' []
is_quiet o p flow ahead t flow' ahead' tape tape' turns told told' drawn f f' e e' d at rest none left is tells clock faults ends =
    subst (λ (x : List ℕ). Came o (tale tape turns told drawn f e d) (duty o p) (tale tape' turns told' drawn f' e' d) flow' x []) (sym left)
    (quiet o p t flow' tape tape' turns told told' drawn f f' e e' d at.served at.owed_is (ap (λ (s : State). s.talk.phase) at.flow_is ∙ rest)
    (at.ahead_is ∙ none) (is ∙ ap (λ (s : State). record s { talk = waited s.talk t }) (sym at.flow_is)) tells clock faults ends)

pub is_hung : (o : Site) (p : Place) (flow : State) (ahead : List ℕ) (t : ℕ) (flow' : State) (ahead' : List ℕ)
    (tape tape' : Option (List Mark)) (turns : List Turn) (told told' : Option (List ℕ)) (drawn : Option (List (List ℕ))) (f f' e e' d : ℕ)
    → IsAt o p flow ahead [] → flow.talk.phase ≡ Resting → ahead ≡ [] → ahead' ≡ [] → flow' ≡ record flow { talk = hung_at flow.talk t }
    → Tells Mark tape tape' (mark.End ∷ []) → Tells ℕ told told' (t ∷ []) → f ≤ f' → e ≤ e' → Rose e e'
    → Came o (tale tape turns told drawn f e d) (duty o p) (tale tape' turns told' drawn f' e' d) flow' ahead' []
is_hung o p flow ahead t flow' ahead' tape tape' turns told told' drawn f f' e e' d at rest none left is tells clock faults ends rose =
    subst (λ (x : List ℕ). Came o (tale tape turns told drawn f e d) (duty o p) (tale tape' turns told' drawn f' e' d) flow' x []) (sym left)
    (hung o p t flow' tape tape' turns told told' drawn f f' e e' d at.served at.owed_is (ap (λ (s : State). s.talk.phase) at.flow_is ∙ rest)
    (at.ahead_is ∙ none) (is ∙ ap (λ (s : State). record s { talk = hung_at s.talk t }) (sym at.flow_is)) tells clock faults ends rose)

-- the link failed where it was read
pub is_failed : (o : Site) (p : Place) (flow : State) (ahead : List ℕ) (t : ℕ)
    (tape tape' : Option (List Mark)) (turns : List Turn) (told told' : Option (List ℕ)) (drawn : Option (List (List ℕ))) (f f' e e' d : ℕ)
    → IsAt o p flow ahead [] → flow.talk.phase ≡ Resting → ahead ≡ []
    → Tells Mark tape tape' (mark.Failed ∷ []) → Tells ℕ told told' (t ∷ []) → f ≤ f' → e ≤ e' → Rose f f'
    → Finished o (tale tape turns told drawn f e d) (duty o p) (tale tape' turns told' drawn f' e' d) ended.LinkFault t
is_failed o p flow ahead t tape tape' turns told told' drawn f f' e e' d at rest none tells clock faults ends rose =
    fails o (duty o p) t tape tape' turns told told' drawn f f' e e' d
    (inl (rests_none o p (ap (λ (s : State). s.talk.phase) at.flow_is ∙ rest) (at.ahead_is ∙ none))) tells clock faults ends rose

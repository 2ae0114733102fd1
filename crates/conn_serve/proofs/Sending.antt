-- What is sent of what is owed, piece by piece.
use Rattle.std.proofs.Common.{◌≡◌, ◌≢◌, ◌⊎◌, ℕ, ◌≤◌, ◌<◌, List, [], ◌∷◌, ◌++◌, true, false, length, take, drop, refl}
use Rattle.std.proofs.Common.{sym, ap, subst, arith, length-drop, take-append-drop, ◌∙◌}
use Rattle.std.specs.Prelude.{Option}
use Rattle.std.proofs.lemmas.List.{append-nil}
use Rattle.std.proofs.lemmas.Grind.{common_steps}
use Rattle.outside.specs.Devices.{Rose}
use Rattle.outside.specs.Tapes.{Mark, Tells}
use Rattle.outside.specs.Tapes as mark
use Rattle.house_model.specs.Histories.{Turn}
use Rattle.conn_asks.specs.declared.ended.Ended.TheVariants as ended
use Rattle.conn_flow.specs.Moves.{Move, Sends, Fails}
use Rattle.conn_flow.specs.Duties.{Site, Duty, Leaves}
use Rattle.conn_serve.specs.Connections.{Counts}
use Rattle.conn_serve.specs.Serving.{Counted, Finished, Grew, Tale, has, is_fail, is_hang, is_no_dice, tale}
use Rattle.conn_serve.proofs.Growing.{grew_nothing, tells_nothing}

-- moves that need no count to rise
pub calm : (ms : List Move) (a b : Counts) → has is_fail ms ≡ false → has is_hang ms ≡ false → has is_no_dice ms ≡ false
    → a.faults ≤ b.faults → a.ends ≤ b.ends → a.dice ≤ b.dice → Counted ms a b
calm ms a b f h d faults ends dice = record {
  faults_kept = faults;
  ends_kept = ends;
  dice_kept = dice;
  failed = λ e. absurd (let x : false ≡ true = sym f ∙ e in cc);
  hung = λ e. absurd (let x : false ≡ true = sym h ∙ e in cc);
  dice_failed = λ e. absurd (let x : false ≡ true = sym d ∙ e in cc);
}

pub same : (n : ℕ) → n ≤ n
same n = omega arith

-- nothing was sent yet
pub begins : (o : Site) (v : Duty) (owed : List ℕ) (tape tape' : Option (List Mark)) (turns : List Turn) (told : Option (List ℕ))
    (drawn : Option (List (List ℕ))) (f f' e e' d : ℕ) → v.owed ≡ owed → tape' ≡ tape → f' ≡ f → e' ≡ e
    → Grew o (tale tape turns told drawn f e d) v (tale tape' turns told drawn f' e' d) (record v { owed = owed })
begins o v owed tape tape' turns told drawn f f' e e' d is t f1 e1 =
    subst (λ (x : List ℕ). Grew o (tale tape turns told drawn f e d) v (tale tape' turns told drawn f' e' d) (record v { owed = x })) is
    (subst (λ (x : Option (List Mark)). Grew o (tale tape turns told drawn f e d) v (tale x turns told drawn f' e' d) v) (sym t)
    (subst (λ (x : ℕ). Grew o (tale tape turns told drawn f e d) v (tale tape turns told drawn x e' d) v) (sym f1)
    (subst (λ (x : ℕ). Grew o (tale tape turns told drawn f e d) v (tale tape turns told drawn f x d) v) (sym e1)
    (grew_nothing o (tale tape turns told drawn f e d) v))))

pub sends :
    (o : Site) (v : Duty) (left bytes rest : List ℕ) (tape tape' : Option (List Mark)) (turns : List Turn) (told : Option (List ℕ))
    (drawn : Option (List (List ℕ))) (f f' e e' d : ℕ)
    → bytes ≢ [] → left ≡ bytes ++ rest → Tells Mark tape tape' (mark.Said bytes ∷ []) → f ≤ f' → e ≤ e'
    → Grew o (tale tape turns told drawn f e d) (record v { owed = left }) (tale tape' turns told drawn f' e' d) (record v { owed = rest })
sends o v left bytes rest tape tape' turns told drawn f f' e e' d some split tells faults ends = record {
  moves = Sends bytes ∷ [];
  through = (record v { owed = rest }, (some, split, refl), refl);
  tape = tells;
  turns_are = sym (append-nil _);
  moments_are = tells_nothing ℕ told;
  drawn = tells_nothing (List ℕ) drawn;
  counted = calm (Sends bytes ∷ []) _ _ refl refl refl faults ends (same d);
}

-- the link failed where it was read, or where something was to be sent
pub fails :
    (o : Site) (v : Duty) (t : ℕ) (tape tape' : Option (List Mark)) (turns : List Turn) (told told' : Option (List ℕ))
    (drawn : Option (List (List ℕ))) (f f' e e' d : ℕ)
    → (v.due ≡ []) ⊎ (v.owed ≢ []) → Tells Mark tape tape' (mark.Failed ∷ []) → Tells ℕ told told' (t ∷ [])
    → f ≤ f' → e ≤ e' → Rose f f'
    → Finished o (tale tape turns told drawn f e d) v (tale tape' turns told' drawn f' e' d) ended.LinkFault t
fails o v t tape tape' turns told told' drawn f f' e e' d may tells clock faults ends rose = record {
  last = record v { moment = t; due = Leaves ended.LinkFault ∷ []; owed = [] };
  grew = record {
    moves = Fails t ∷ [];
    through = (record v { moment = t; due = Leaves ended.LinkFault ∷ []; owed = [] }, (may, refl), refl);
    tape = tells;
    turns_are = sym (append-nil _);
    moments_are = clock;
    drawn = tells_nothing (List ℕ) drawn;
    counted = record {
      faults_kept = faults;
      ends_kept = ends;
      dice_kept = same d;
      failed = λ h. rose;
      hung = λ h. absurd (let x : false ≡ true = h in cc);
      dice_failed = λ h. absurd (let x : false ≡ true = h in cc);
    };
  };
  leaves = refl;
  sent = refl;
  at = refl;
}

-- Pieces.

some_taken : (xs : List ℕ) (n : ℕ) → 0 < n → n ≤ length xs → take n xs ≢ []
some_taken xs n some fits e = grind (arith, common_steps, ap length e)

pub sends_on :
    (o : Site) (v : Duty) (owed rest owed' : List ℕ) (n : ℕ) (tape tape' : Option (List Mark)) (turns : List Turn) (told : Option (List ℕ))
    (drawn : Option (List (List ℕ))) (f f' e e' d : ℕ)
    → rest ≡ owed → 0 < n → n ≤ length rest → owed' ≡ drop n owed → Tells Mark tape tape' (mark.Said (take n rest) ∷ []) → f ≤ f' → e ≤ e'
    → Grew o (tale tape turns told drawn f e d) (record v { owed = owed }) (tale tape' turns told drawn f' e' d) (record v { owed = owed' })
sends_on o v owed rest owed' n tape tape' turns told drawn f f' e e' d same_rest some fits next tells faults ends =
    sends o v owed (take n rest) owed' tape tape' turns told drawn f f' e e' d (some_taken rest n some fits)
    (sym same_rest ∙ sym (take-append-drop n rest) ∙ ap (λ (x : List ℕ). take n rest ++ x) (ap (drop n) same_rest ∙ sym next))
    tells faults ends

-- no byte was taken
pub sends_none : (o : Site) (v : Duty) (tape tape' : Option (List Mark)) (turns : List Turn) (told : Option (List ℕ))
    (drawn : Option (List (List ℕ))) (f f' e e' d : ℕ) → Tells Mark tape tape' [] → f ≤ f' → e ≤ e'
    → Grew o (tale tape turns told drawn f e d) v (tale tape' turns told drawn f' e' d) v
sends_none o v tape tape' turns told drawn f f' e e' d tells faults ends = record {
  moves = [];
  through = refl;
  tape = tells;
  turns_are = sym (append-nil _);
  moments_are = tells_nothing ℕ told;
  drawn = tells_nothing (List ℕ) drawn;
  counted = calm [] _ _ refl refl refl faults ends (same d);
}

pub none_left : (o : Site) (a b : Tale) (v w : Duty) (rest owed : List ℕ) → rest ≡ [] → owed ≡ [] → Grew o a v b (record w { owed = rest })
    → Grew o a v b (record w { owed = owed }) × (owed ≡ [])
none_left o a b v w rest owed is none grew = (subst (λ (x : List ℕ). Grew o a v b (record w { owed = x })) (is ∙ sym none) grew, none)

-- What is left of a list of bytes, of which some were sent.

pub left_over : (xs : List ℕ) (i : ℕ) → i < length xs → drop i xs ≢ []
left_over xs i h e = omega (arith, length-drop i xs, ap length e)

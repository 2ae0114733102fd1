-- Where bytes lead, from the start of a text.
use Rattle.std.proofs.Common.{◌≡◌, ℕ, zero, suc, ◌+◌, ◌<◌, List, [], ◌∷◌, ◌++◌, length, take, drop, get_or, refl, sym, ap, ◌∙◌, subst}
use Rattle.std.proofs.Common.{arith, append_assoc, append-nil, length-append, take_all, drop-cons, add-one, true, false}
use Rattle.std.proofs.lemmas.List.{length-take-le, take-append-drop}
use Rattle.std.proofs.Math.Seq.{take-append_seam}
use Rattle.std.specs.declared.option.Option.{Option}
use Rattle.std.specs.declared.option.Option.TheVariants.{None, Some}
use Rattle.scram_core.specs.declared.stage.Message.{Message}
use Rattle.scram_core.specs.declared.stage.Message.TheVariants.{First, Last}
use Rattle.scram_core.specs.declared.stage.Stage.{Stage}
use Rattle.scram_core.specs.Expressions.{IsText}
use Rattle.scram_core.specs.Grammar.{client_message}
use Rattle.scram_core.specs.Machine.{next, is_end, start}
use Rattle.scram_core.specs.Places.{Begins, IsPlace}
use Rattle.scram_core.proofs.Lists.{true-false}
use Rattle.scram_core.proofs.Derivative.{nullable-to, nullable-from, derivative-to, derivative-from}
use Rattle.scram_core.proofs.Rests.{rest_at, left}
use Rattle.scram_core.proofs.Keeping.{keeps}
use Rattle.scram_core.proofs.Living.{sample, sample-text, lives, ends}

-- The bytes lead to the stage: what makes them a text is what may still come there.
pub record Leads (m : Message) (bs : List ℕ) (s : Stage) : Type 0 where
  pub rest : (more : List ℕ) → IsText (client_message m) (bs ++ more) → IsText (rest_at s) more
  pub text : (more : List ℕ) → IsText (rest_at s) more → IsText (client_message m) (bs ++ more)

pub leads-start : (m : Message) → Leads m [] (start m)
leads-start First = record { rest = λ more x. x; text = λ more x. x }
leads-start Last = record { rest = λ more x. x; text = λ more x. x }

step-to : (s : Stage) (b : ℕ) (o : Option Stage) (bs : List ℕ) → b < 256 → next s b ≡ o → IsText (rest_at s) (b ∷ bs) → IsText (left o) bs
step-to s b o bs l e x =
    subst (λ (p : Option Stage). IsText (left p) bs) e ((keeps s b l).0 bs (derivative-to (rest_at s) b bs x))

step-from : (s : Stage) (b : ℕ) (o : Option Stage) (bs : List ℕ) → b < 256 → next s b ≡ o → IsText (left o) bs → IsText (rest_at s) (b ∷ bs)
step-from s b o bs l e x =
    derivative-from (rest_at s) b bs ((keeps s b l).1 bs (subst (λ (p : Option Stage). IsText (left p) bs) (sym e) x))

pub leads-next : (m : Message) (bs : List ℕ) (s t : Stage) (b : ℕ) → Leads m bs s → b < 256 → next s b ≡ Some t → Leads m (bs ++ b ∷ []) t
leads-next m bs s t b h l e = record {
  rest = λ more x. step-to s b (Some t) more l e (h.rest (b ∷ more) (subst (IsText (client_message m)) (append_assoc bs (b ∷ []) more) x));
  text = λ more x. subst (IsText (client_message m)) (sym (append_assoc bs (b ∷ []) more)) (h.text (b ∷ more) (step-from s b (Some t) more l e x));
}

none-void : (bs : List ℕ) {A : Type 0} → IsText (left None) bs → A
unfolding IsText
none-void bs x = absurd x

-- no text goes on with a byte that leads nowhere
stops : (m : Message) (bs : List ℕ) (s : Stage) (b : ℕ) (more : List ℕ) → Leads m bs s → b < 256 → next s b ≡ None
    → IsText (client_message m) (bs ++ b ∷ more) → ⊥
stops m bs s b more h l e x = none-void more (step-to s b None more l e (h.rest (b ∷ more) x))

-- a front that reaches past the first part, and what it has of the second
past : (xs : List ℕ) (b : ℕ) (ys : List ℕ) (j : ℕ) → length xs < j → (zs : List ℕ) × (take j (xs ++ b ∷ ys) ≡ xs ++ b ∷ zs)
past xs b ys zero l = absurd (omega arith)
past [] b ys (suc j) l = (take j ys, refl)
past (x ∷ xs) b ys (suc j) l = let (zs, e) = past xs b ys j (omega arith) in (zs, ap (λ (k : List ℕ). x ∷ k) e)

begins : (m : Message) (bs : List ℕ) (s : Stage) → Leads m bs s → Begins (client_message m) bs
begins m bs s h = (sample (rest_at s), h.text (sample (rest_at s)) (sample-text (rest_at s) (lives s)))

too_long : (m : Message) (xs : List ℕ) (b : ℕ) (ys : List ℕ) (s : Stage) → Leads m xs s → b < 256 → next s b ≡ None
    → (j : ℕ) → length xs < j → Begins (client_message m) (take j (xs ++ b ∷ ys)) → ⊥
too_long m xs b ys s h l e j k (more, x) =
    let (zs, f) = past xs b ys j k in
    stops m xs s b (zs ++ more) h l e
    (subst (IsText (client_message m)) (ap (λ (w : List ℕ). w ++ more) f ∙ append_assoc xs (b ∷ zs) more) x)

stopped : (m : Message) (xs : List ℕ) (b : ℕ) (ys : List ℕ) (s : Stage) → Leads m xs s → b < 256 → next s b ≡ None
    → IsPlace (client_message m) (xs ++ b ∷ ys) (length xs)
stopped m xs b ys s h l e = record {
  no_text = stops m xs s b ys h l e;
  within = omega (arith, length-append xs (b ∷ ys));
  begins = subst (Begins (client_message m)) (sym (take-append_seam xs (b ∷ ys))) (begins m xs s h);
  longest = λ j k w x. too_long m xs b ys s h l e j k x;
}

rejoined : (bs : List ℕ) (i : ℕ) → i < length bs → take i bs ++ get_or bs i 0 ∷ drop (i + 1) bs ≡ bs
rejoined bs i l =
    ap (λ (zs : List ℕ). take i bs ++ zs) (sym (drop-cons bs i 0 l ∙ ap (λ (k : ℕ). get_or bs i 0 ∷ drop k bs) (sym (add-one i))))
    ∙ take-append-drop i bs

-- the place at which a byte leads nowhere
pub place-stopped : (m : Message) (bs : List ℕ) (i : ℕ) (s : Stage) → Leads m (take i bs) s → i < length bs → get_or bs i 0 < 256
    → next s (get_or bs i 0) ≡ None → IsPlace (client_message m) bs i
place-stopped m bs i s h l w e =
    let cut : take i bs ++ get_or bs i 0 ∷ drop (i + 1) bs ≡ bs = rejoined bs i l in
    let len : length (take i bs) ≡ i = length-take-le i bs (omega arith) in
    let P : List ℕ → ℕ → Type 0 = λ xs k. IsPlace (client_message m) xs k in
    subst (λ (k : ℕ). P bs k) len
    (subst (λ (xs : List ℕ). P xs (length (take i bs))) cut (stopped m (take i bs) (get_or bs i 0) (drop (i + 1) bs) s h w e))

-- all bytes lead to where a text may end
pub text-ended : (m : Message) (bs : List ℕ) (s : Stage) → Leads m bs s → is_end s ≡ true → IsText (client_message m) bs
text-ended m bs s h e = subst (IsText (client_message m)) (append-nil bs) (h.text [] (nullable-from (rest_at s) (sym (ends s) ∙ e)))

no_more : (m : Message) (bs : List ℕ) (s : Stage) → Leads m bs s → is_end s ≡ false → IsText (client_message m) bs → ⊥
no_more m bs s h e x =
    true-false (sym (nullable-to (rest_at s) (h.rest [] (subst (IsText (client_message m)) (sym (append-nil bs)) x))) ∙ (sym (ends s) ∙ e))

-- all bytes lead to where more must come
pub place-ended : (m : Message) (bs : List ℕ) (s : Stage) → Leads m bs s → is_end s ≡ false → IsPlace (client_message m) bs (length bs)
place-ended m bs s h e = record {
  no_text = no_more m bs s h e;
  within = omega arith;
  begins = subst (Begins (client_message m)) (sym (take_all (length bs) bs (omega arith))) (begins m bs s h);
  longest = λ j k w x. absurd (omega arith);
}

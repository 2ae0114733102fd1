-- What one character does to what is left, in both directions.
use Rattle.std.proofs.Common.{◌≡◌, ℕ, List, [], ◌∷◌, ◌++◌, inl, inr, refl, sym, ap, ◌∙◌, subst, true}
use Rattle.stream_lex.specs.declared.LexFault.TheVariants.{NotWellFormed}
use Rattle.stream_lex.specs.declared.stages.Stage.{Stage}
use Rattle.stream_lex.specs.declared.stages.Stage.TheVariants as stage
use Rattle.stream_lex.specs.grammar.Kinds.{kind}
use Rattle.stream_lex.specs.grammar.Expressions.{Sign, refuses, all_said, Expression, yields, concat, union, IsText}
use Rattle.stream_lex.specs.machine.Machine.{Turn, goes, stops, next}
use Rattle.stream_lex.specs.machine.Machine.{yields as tells_and_goes}
use Rattle.stream_lex.specs.machine.Live.{is_live_stage}
use Rattle.stream_lex.specs.machine.Rests.{rest_of_bracketed, bracketed_end, rest_at, beyond_refusal}
use Rattle.stream_lex.proofs.Derivative.{derivative-to, derivative-from}
use Rattle.stream_lex.proofs.Keeping.{shown, given, keeps}

-- what is told before other signs
abbrev pub Told : List Sign → Expression → List ℕ → List Sign → Type 0
Told us p cs ms = (ns : List Sign) × (ms ≡ us ++ ns) × IsText p cs ns

concat-told : (us : List Sign) (p : Expression) (cs : List ℕ) (ms : List Sign) → IsText (concat (yields us) p) cs ms → Told us p cs ms
unfolding IsText
concat-told us p cs ms (xs, ws, ys, vs, k, n, e, f) =
    (vs, f ∙ ap (λ (l : List Sign). l ++ vs) k.1, subst (λ (l : List ℕ). IsText p l vs) (sym (e ∙ ap (λ (l : List ℕ). l ++ ys) k.0)) n)

told-concat : (us : List Sign) (p : Expression) (cs : List ℕ) (ms : List Sign) → Told us p cs ms → IsText (concat (yields us) p) cs ms
unfolding IsText
told-concat us p cs ms (ns, e, m) = ([], us, cs, ns, (refl, refl), m, refl, e)

bracketed-told : (us : List Sign) (p q : Expression) (cs : List ℕ) (ms : List Sign) → IsText (union (concat (yields us) p) (concat (yields us) q)) cs ms
    → Told us (union p q) cs ms
unfolding IsText
bracketed-told us p q cs ms (inl m) = let r = concat-told us p cs ms m in (r.0, r.1, inl r.2)
bracketed-told us p q cs ms (inr m) = let r = concat-told us q cs ms m in (r.0, r.1, inr r.2)

told-bracketed : (us : List Sign) (p q : Expression) (cs : List ℕ) (ms : List Sign) → Told us (union p q) cs ms
    → IsText (union (concat (yields us) p) (concat (yields us) q)) cs ms
unfolding IsText
told-bracketed us p q cs ms (ns, e, inl m) = inl (told-concat us p cs ms (ns, e, m))
told-bracketed us p q cs ms (ns, e, inr m) = inr (told-concat us q cs ms (ns, e, m))

given-told : (us : List Sign) (s : Stage) (cs : List ℕ) (ms : List Sign) → IsText (given us s) cs ms → Told us (rest_at s) cs ms
unfolding rest_at
given-told us (stage.Bracketed b) cs ms m = bracketed-told us (rest_of_bracketed b) bracketed_end cs ms m
given-told us s cs ms m = concat-told us (rest_at s) cs ms m

told-given : (us : List Sign) (s : Stage) (cs : List ℕ) (ms : List Sign) → Told us (rest_at s) cs ms → IsText (given us s) cs ms
unfolding rest_at
told-given us (stage.Bracketed b) cs ms m = told-bracketed us (rest_of_bracketed b) bracketed_end cs ms m
told-given us s cs ms m = told-concat us (rest_at s) cs ms m

-- what a turn leaves
abbrev pub Leaves : Stage → Turn → List ℕ → List Sign → Type 0
Leaves s (goes t) cs ms = Told [] (rest_at t) cs ms
Leaves s (tells_and_goes us t) cs ms = Told (all_said us) (rest_at t) cs ms
Leaves s (stops NotWellFormed) cs ms = ⊥
Leaves s (stops f) cs ms = Told (refuses f ∷ []) (beyond_refusal s) cs ms

shown-leaves : (s : Stage) (t : Turn) (cs : List ℕ) (ms : List Sign) → IsText (shown s t) cs ms → Leaves s t cs ms
unfolding IsText
shown-leaves s (goes t) cs ms m = (ms, refl, m)
shown-leaves s (tells_and_goes us t) cs ms m = given-told (all_said us) t cs ms m
shown-leaves s (stops NotWellFormed) cs ms m = m
shown-leaves s (stops f) cs ms m = concat-told (refuses f ∷ []) (beyond_refusal s) cs ms m

leaves-shown : (s : Stage) (t : Turn) (cs : List ℕ) (ms : List Sign) → Leaves s t cs ms → IsText (shown s t) cs ms
unfolding IsText
leaves-shown s (goes t) cs ms (ns, e, m) = subst (λ (l : List Sign). IsText (rest_at t) cs l) (sym e) m
leaves-shown s (tells_and_goes us t) cs ms m = told-given (all_said us) t cs ms m
leaves-shown s (stops NotWellFormed) cs ms m = m
leaves-shown s (stops f) cs ms m = told-concat (refuses f ∷ []) (beyond_refusal s) cs ms m

-- a text that begins with a character
pub step-to : (s : Stage) (c : ℕ) (cs : List ℕ) (ms : List Sign) → is_live_stage s ≡ true → IsText (rest_at s) (c ∷ cs) ms → Leaves s (next s (kind c) c) cs ms
step-to s c cs ms live m =
    shown-leaves s (next s (kind c) c) cs ms (subst (λ (p : Expression). IsText p cs ms) (keeps s (kind c) c live) (derivative-to (rest_at s) c cs ms m))

pub step-from : (s : Stage) (c : ℕ) (cs : List ℕ) (ms : List Sign) → is_live_stage s ≡ true → Leaves s (next s (kind c) c) cs ms
    → IsText (rest_at s) (c ∷ cs) ms
step-from s c cs ms live m =
    derivative-from (rest_at s) c cs ms
    (subst (λ (p : Expression). IsText p cs ms) (sym (keeps s (kind c) c live)) (leaves-shown s (next s (kind c) c) cs ms m))

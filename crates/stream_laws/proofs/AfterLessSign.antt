-- What a `<` does between tags and before the first, and the byte after it.
use Rattle.std.proofs.Common.{◌≡◌, ℕ, ◌<◌, ◌≤◌, inl, inr, refl, sym, Bool, true, false, not, ◌&&◌, ◌==◌, nat_lt, arith}
use Rattle.std.proofs.lemmas.Bool.{cond_both, and_parts, cases_lt, ltb-true}
use Rattle.std.proofs.lemmas.Bool.Decides.{nat_tests}
use Rattle.stream_lex.specs.declared.stages.Stage.{Stage}
use Rattle.stream_lex.specs.declared.stages.Stage.TheVariants as stage
use Rattle.stream_lex.specs.declared.stages.State.{State}
use Rattle.stream_lex.specs.declared.characters.Pending.{Pending}
use Rattle.stream_lex.specs.declared.characters.Pending.TheVariants as pending
use Rattle.stream_lex.specs.declared.characters.Reach.{Reach}
use Rattle.stream_lex.specs.declared.characters.Reach.TheVariants.{Whole, Begun, Broken}
use Rattle.stream_lex.specs.grammar.Classes.{has_between, class_of}
use Rattle.stream_lex.specs.grammar.Kinds.{ascii_kind}
use Rattle.stream_lex.specs.machine.Characters.{reach}
use Rattle.stream_lex.specs.machine.Machine.{Turn, goes, stops, ascii, in_tag, allowed_at, voice}
use Rattle.stream_lex.specs.machine.Machine.{yields as tells_and_goes}
use Rattle.stream_lex.specs.machine.Turns.{Outcome, leads, fails, at, settled, turn_ascii, turn_wide, turn}
use Rattle.stream_lex.proofs.Lists.{false-true}
use Rattle.stream_grammar.specs.grammar.Extents.{begins_tag}
use Rattle.stream_grammar.proofs.Sorts.{is_less, opens, may_return}
use Rattle.stream_grammar.proofs.Moving.{calm, calm-was}
use Rattle.stream_laws.proofs.RoundTripNames.{all_under, under}
use Rattle.stream_laws.proofs.Opens.{after_less}

-- The byte after a `<`: it opens a tag where it may begin a name, and there alone.

abbrev pub OpensBy : ℕ → Outcome → Type 0
OpensBy b (leads to us) = opens us ≡ begins_tag b
OpensBy b (fails f) = Unit {0}

same : Bool → Bool → Bool
same true t = t
same false t = not t

same-is : (s t : Bool) → same s t ≡ true → s ≡ t
unfolding same
same-is true t h = sym h
same-is false true h = false-true h
same-is false false h = refl

turn_fits : Turn → ℕ → Bool
turn_fits (goes t) b = same false (begins_tag b)
turn_fits (tells_and_goes us t) b = same (opens us) (begins_tag b)
turn_fits (stops f) b = true

settled-fits : (t : Turn) (r : Bool) (b : ℕ) → turn_fits t b ≡ true → OpensBy b (settled r t)
unfolding turn_fits
settled-fits (goes t) r b h = same-is false (begins_tag b) h
settled-fits (tells_and_goes us t) r b h = same-is (opens us) (begins_tag b) h
settled-fits (stops f) r b h = tt

low_fits : Stage → ℕ → Bool
low_fits s b = turn_fits (ascii s (ascii_kind b) b) b

start-fits : all_under 128 (low_fits stage.StartLess) ≡ true
unfolding low_fits turn_fits same ascii_kind ascii in_tag
start-fits = refl

prolog-fits : all_under 128 (low_fits stage.PrologLess) ≡ true
unfolding low_fits turn_fits same ascii_kind ascii in_tag
prolog-fits = refl

content-fits : all_under 128 (low_fits stage.Less) ≡ true
unfolding low_fits turn_fits same ascii_kind ascii in_tag
content-fits = refl

less-fits : (s : Stage) → is_less s ≡ true → all_under 128 (low_fits s) ≡ true
less-fits stage.StartLess h = start-fits
less-fits stage.PrologLess h = prolog-fits
less-fits stage.Less h = content-fits
less-fits s h = false-true h

return-fits : (s : Stage) (b : ℕ) → is_less s ≡ true → OpensBy b (settled true (ascii s (ascii_kind 10) 10))
unfolding ascii_kind ascii in_tag
return-fits stage.StartLess b h = tt
return-fits stage.PrologLess b h = tt
return-fits stage.Less b h = tt
return-fits s b h = false-true h

less-returns : (s : Stage) → is_less s ≡ true → may_return s ≡ true → ⊥
less-returns stage.StartLess h k = false-true k
less-returns stage.PrologLess h k = false-true k
less-returns stage.Less h k = false-true k
less-returns s h k = false-true h

low-opens : (s : Stage) (r : Bool) (b : ℕ) → b < 128 → is_less s ≡ true → calm (at s pending.Nothing r) ≡ true
    → OpensBy b (turn_ascii (at s pending.Nothing r) b)
unfolding turn_ascii low_fits
low-opens s r b low h c =
    cond_both (r && b == 10) _ _ (OpensBy b)
    (λ e. absurd (less-returns s h (calm-was r s c (and_parts r (b == 10) e).0)))
    (λ f. cond_both (b == 13) _ _ (OpensBy b) (λ e. return-fits s b h)
    (λ e. settled-fits (ascii s (ascii_kind b) b) false b (under 128 (low_fits s) (less-fits s h) b low)))

high-begins : (b : ℕ) → 128 ≤ b → begins_tag b ≡ true
high-begins b h = grind (arith, nat_tests, h)

high-opens : (s : Stage) (r : Bool) (b : ℕ) (x : Reach) → 128 ≤ b → is_less s ≡ true → OpensBy b (turn_wide (at s pending.Nothing r) b x)
unfolding turn_wide voice
high-opens s r b Broken high h = tt
high-opens stage.StartLess r b (Begun q i j) high h =
    cond_both (has_between (class_of (allowed_at stage.StartLess)) i j) _ _ (OpensBy b) (λ e. sym (high-begins b high)) (λ e. tt)
high-opens stage.PrologLess r b (Begun q i j) high h =
    cond_both (has_between (class_of (allowed_at stage.PrologLess)) i j) _ _ (OpensBy b) (λ e. sym (high-begins b high)) (λ e. tt)
high-opens stage.Less r b (Begun q i j) high h = cond_both (has_between (class_of (allowed_at stage.Less)) i j) _ _ (OpensBy b) (λ e. sym (high-begins b high))
    (λ e. tt)
high-opens stage.StartLess r b (Whole n) high h =
    cond_both (has_between (class_of (allowed_at stage.StartLess)) n n) _ _ (OpensBy b) (λ e. sym (high-begins b high)) (λ e. tt)
high-opens stage.PrologLess r b (Whole n) high h =
    cond_both (has_between (class_of (allowed_at stage.PrologLess)) n n) _ _ (OpensBy b) (λ e. sym (high-begins b high)) (λ e. tt)
high-opens stage.Less r b (Whole n) high h = cond_both (has_between (class_of (allowed_at stage.Less)) n n) _ _ (OpensBy b) (λ e. sym (high-begins b high))
    (λ e. tt)
high-opens s r b x high h = false-true h

pub less-opens : (st : State) (b : ℕ) → calm st ≡ true → after_less st ≡ true → OpensBy b (turn st b)
less-opens st b c h = by st.stage st.pending st.returned c h
  where
    by : (s : Stage) (p : Pending) (r : Bool) → calm (at s p r) ≡ true → after_less (at s p r) ≡ true → OpensBy b (turn (at s p r) b)
    by s pending.Nothing r c h = elim (cases_lt b 128) [
      | inl low ↦ cond_both (nat_lt b 128) (turn_ascii (at s pending.Nothing r) b) (turn_wide (at s pending.Nothing r) b (reach pending.Nothing b)) (OpensBy b)
          (λ e. low-opens s r b low h c) (λ e. absurd (let bad : 128 ≤ b = grind (arith, nat_tests, e) in omega arith))
      | inr high ↦ cond_both (nat_lt b 128) (turn_ascii (at s pending.Nothing r) b) (turn_wide (at s pending.Nothing r) b (reach pending.Nothing b)) (OpensBy b)
          (λ e. absurd (let k : b < 128 = ltb-true b 128 e in omega arith)) (λ e. high-opens s r b (reach pending.Nothing b) high h)
    ]
    by s (pending.One x) r c h = false-true h
    by s (pending.Two x y) r c h = false-true h
    by s (pending.Three x y z) r c h = false-true h

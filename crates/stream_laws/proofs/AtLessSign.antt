-- What a `<` does before the first tag, and where it comes from that leads to a tag.
use Rattle.std.proofs.Common.{◌≡◌, ℕ, zero, suc, ◌<◌, ◌≤◌, ◌⊎◌, inl, inr, List, [], ◌∷◌, refl, sym, ◌∙◌, Bool, true, false, not, ◌&&◌, ◌||◌, ◌==◌, arith}
use Rattle.std.proofs.lemmas.Bool.{cond_both, and_parts}
use Rattle.std.proofs.lemmas.Bool.Decides.{nat_tests}
use Rattle.std.specs.Prelude.{get_or}
use Rattle.stream_lex.specs.declared.stages.Context.TheVariants.{Words, Value}
use Rattle.stream_lex.specs.declared.stages.NameOwner.TheVariants.{StartTag, EndTag, Attribute}
use Rattle.stream_lex.specs.declared.stages.Half.TheVariants.{Prefix, Local}
use Rattle.stream_lex.specs.declared.stages.Brackets.TheVariants.{One, Many}
use Rattle.stream_lex.specs.declared.stages.Quote.TheVariants.{Double, Single}
use Rattle.stream_lex.specs.declared.stages.Base.TheVariants.{Decimal, Hexadecimal}
use Rattle.stream_lex.specs.declared.stages.Info.TheVariants.{Version, Encoding, Standalone}
use Rattle.stream_lex.specs.declared.stages.EntityName.TheVariants as entity_name
use Rattle.stream_lex.specs.declared.stages.Literal.{Literal}
use Rattle.stream_lex.specs.declared.stages.Literal.TheVariants as literal
use Rattle.stream_lex.specs.declared.stages.Stage.{Stage}
use Rattle.stream_lex.specs.declared.stages.Stage.TheVariants as stage
use Rattle.stream_lex.specs.declared.stages.State.{State}
use Rattle.stream_lex.specs.declared.kinds.Kind.TheVariants as kinds
use Rattle.stream_lex.specs.declared.characters.Pending.{Pending}
use Rattle.stream_lex.specs.declared.characters.Pending.TheVariants as pending
use Rattle.stream_lex.specs.declared.characters.Reach.{Reach}
use Rattle.stream_lex.specs.declared.characters.Reach.TheVariants.{Whole, Begun, Broken}
use Rattle.stream_lex.specs.grammar.Kinds.{ascii_kind}
use Rattle.stream_lex.specs.machine.Characters.{is_nothing, is_second, is_continuation, reach, reach_second, reach_third, reach_fourth}
use Rattle.stream_lex.specs.machine.Machine.{Turn, goes, stops, letters, fixed_fault, is_fixed, ascii, in_fixed}
use Rattle.stream_lex.specs.machine.Machine.{in_declaration, in_reference, in_number, in_name, in_tag}
use Rattle.stream_lex.specs.machine.Machine.{yields as tells_and_goes}
use Rattle.stream_lex.specs.machine.Turns.{Outcome, leads, fails, at, settled, turn_ascii, turn_wide, turn}
use Rattle.stream_lex.proofs.Lists.{false-true}
use Rattle.stream_grammar.specs.machine.Sorts.{Sort, at_begin, at_prolog, sort}
use Rattle.stream_grammar.proofs.Sorts.{is_less}
use Rattle.stream_grammar.specs.machine.Sorts.{sort_of}
use Rattle.stream_laws.proofs.RoundTripNames.{implied}
use Rattle.stream_laws.proofs.RoundTripText.{plain, bracketed}
use Rattle.stream_laws.proofs.RoundTripStreams.{EndsGap}
use Rattle.stream_laws.proofs.Opens.{after_less}

-- before the first tag
abbrev pub is_first : Sort → Bool
is_first at_begin = true
is_first at_prolog = true
is_first x = false

is_gap : Stage → Bool
is_gap (stage.Text Words) = true
is_gap (stage.Bracketed b) = true
is_gap s = false

-- Before the first tag a `<` leads to one, where it is allowed; and what leads to a tag stands there, or between tags.
leads_to : Stage → Stage → Bool
leads_to s t = (not (is_first (sort s)) || is_less t) && (not (is_less t) || (is_first (sort s) || is_gap s))

tells_at : Stage → Stage → Bool
tells_at s t = not (is_first (sort s)) && not (is_less t)

sixty_fits : Stage → Turn → Bool
sixty_fits s (goes t) = leads_to s t
sixty_fits s (tells_and_goes us t) = tells_at s t
sixty_fits s (stops f) = true

-- A fixed word has none.

has_none : List ℕ → Bool
has_none [] = true
has_none (x ∷ xs) = not (60 == x) && has_none xs

not-is : (t : Bool) → not t ≡ true → t ≡ false
not-is true h = false-true h
not-is false h = refl

none-at : (xs : List ℕ) (i : ℕ) → has_none xs ≡ true → (60 == get_or xs i 0) ≡ false
unfolding has_none
none-at [] i h = refl
none-at (x ∷ xs) zero h = not-is (60 == x) (and_parts (not (60 == x)) (has_none xs) h).0
none-at (x ∷ xs) (suc i) h = none-at xs i (and_parts (not (60 == x)) (has_none xs) h).1

letters-none : (w : Literal) → has_none (letters w) ≡ true
unfolding has_none
letters-none literal.Xml = refl
letters-none (literal.Name Version) = refl
letters-none (literal.Name Encoding) = refl
letters-none (literal.Name Standalone) = refl
letters-none (literal.Major q) = refl
letters-none (literal.Charset q) = refl
letters-none (literal.Yes q) = refl
letters-none (literal.No q) = refl
letters-none literal.Cdata = refl

fixed-none : (w : Literal) (i : ℕ) → is_fixed w (get_or (letters w) i 0) 60 ≡ false
fixed-none (literal.Charset q) i = none-at (letters (literal.Charset q)) i (letters-none (literal.Charset q))
fixed-none w i = none-at (letters w) i (letters-none w)

sixty-Fixed : (w : Literal) (i : ℕ) → sixty_fits (stage.Fixed w i) (ascii (stage.Fixed w i) kinds.Less 60) ≡ true
unfolding ascii in_fixed sixty_fits
sixty-Fixed w i = cond_both (is_fixed w (get_or (letters w) i 0) 60) _ (stops (fixed_fault w)) (λ (t : Turn). sixty_fits (stage.Fixed w i) t ≡ true)
    (λ e. absurd (let bad : false ≡ true = sym (fixed-none w i) ∙ e in cc)) (λ e. refl)

sixty-stage : (s : Stage) → sixty_fits s (ascii s kinds.Less 60) ≡ true
unfolding sixty_fits leads_to tells_at is_gap ascii in_declaration in_reference in_number in_name in_tag
sixty-stage (stage.Fixed w i) = sixty-Fixed w i
sixty-stage (stage.InfoName Version) = refl
sixty-stage (stage.InfoName Encoding) = refl
sixty-stage (stage.InfoName Standalone) = refl
sixty-stage (stage.InfoEquals Version) = refl
sixty-stage (stage.InfoEquals Encoding) = refl
sixty-stage (stage.InfoEquals Standalone) = refl
sixty-stage (stage.InfoEnds Version) = refl
sixty-stage (stage.InfoEnds Encoding) = refl
sixty-stage (stage.InfoEnds Standalone) = refl
sixty-stage (stage.InfoSpace Version) = refl
sixty-stage (stage.InfoSpace Encoding) = refl
sixty-stage (stage.InfoSpace Standalone) = refl
sixty-stage (stage.MinorFirst Double) = refl
sixty-stage (stage.MinorFirst Single) = refl
sixty-stage (stage.Minor Double) = refl
sixty-stage (stage.Minor Single) = refl
sixty-stage (stage.CharsetSeen Double) = refl
sixty-stage (stage.CharsetSeen Single) = refl
sixty-stage (stage.Choice Double) = refl
sixty-stage (stage.Choice Single) = refl
sixty-stage (stage.Chosen Double) = refl
sixty-stage (stage.Chosen Single) = refl
sixty-stage (stage.Text Words) = refl
sixty-stage (stage.Text (Value Double)) = refl
sixty-stage (stage.Text (Value Single)) = refl
sixty-stage (stage.Bracketed One) = refl
sixty-stage (stage.Bracketed Many) = refl
sixty-stage (stage.CdataBracketed One) = refl
sixty-stage (stage.CdataBracketed Many) = refl
sixty-stage (stage.Reference Words entity_name.Empty) = refl
sixty-stage (stage.Reference Words entity_name.A) = refl
sixty-stage (stage.Reference Words entity_name.Am) = refl
sixty-stage (stage.Reference Words entity_name.Amp) = refl
sixty-stage (stage.Reference Words entity_name.Ap) = refl
sixty-stage (stage.Reference Words entity_name.Apo) = refl
sixty-stage (stage.Reference Words entity_name.Apos) = refl
sixty-stage (stage.Reference Words entity_name.L) = refl
sixty-stage (stage.Reference Words entity_name.Lt) = refl
sixty-stage (stage.Reference Words entity_name.G) = refl
sixty-stage (stage.Reference Words entity_name.Gt) = refl
sixty-stage (stage.Reference Words entity_name.Q) = refl
sixty-stage (stage.Reference Words entity_name.Qu) = refl
sixty-stage (stage.Reference Words entity_name.Quo) = refl
sixty-stage (stage.Reference Words entity_name.Quot) = refl
sixty-stage (stage.Reference (Value q) entity_name.Empty) = refl
sixty-stage (stage.Reference (Value q) entity_name.A) = refl
sixty-stage (stage.Reference (Value q) entity_name.Am) = refl
sixty-stage (stage.Reference (Value q) entity_name.Amp) = refl
sixty-stage (stage.Reference (Value q) entity_name.Ap) = refl
sixty-stage (stage.Reference (Value q) entity_name.Apo) = refl
sixty-stage (stage.Reference (Value q) entity_name.Apos) = refl
sixty-stage (stage.Reference (Value q) entity_name.L) = refl
sixty-stage (stage.Reference (Value q) entity_name.Lt) = refl
sixty-stage (stage.Reference (Value q) entity_name.G) = refl
sixty-stage (stage.Reference (Value q) entity_name.Gt) = refl
sixty-stage (stage.Reference (Value q) entity_name.Q) = refl
sixty-stage (stage.Reference (Value q) entity_name.Qu) = refl
sixty-stage (stage.Reference (Value q) entity_name.Quo) = refl
sixty-stage (stage.Reference (Value q) entity_name.Quot) = refl
sixty-stage (stage.Name StartTag Prefix) = refl
sixty-stage (stage.Name StartTag Local) = refl
sixty-stage (stage.Name EndTag Prefix) = refl
sixty-stage (stage.Name EndTag Local) = refl
sixty-stage (stage.Name Attribute Prefix) = refl
sixty-stage (stage.Name Attribute Local) = refl
sixty-stage (stage.Colon StartTag) = refl
sixty-stage (stage.Colon EndTag) = refl
sixty-stage (stage.Colon Attribute) = refl
sixty-stage (stage.Hash Words) = refl
sixty-stage (stage.Hash (Value q)) = refl
sixty-stage (stage.HashX Words) = refl
sixty-stage (stage.HashX (Value q)) = refl
sixty-stage (stage.Number p Decimal v) = refl
sixty-stage (stage.Number p Hexadecimal v) = refl
sixty-stage stage.Start = refl
sixty-stage stage.StartLess = refl
sixty-stage stage.Prolog = refl
sixty-stage stage.PrologLess = refl
sixty-stage stage.XmlSeen = refl
sixty-stage stage.XmlSpace = refl
sixty-stage stage.DeclarationMark = refl
sixty-stage stage.Less = refl
sixty-stage stage.Bang = refl
sixty-stage stage.Cdata = refl
sixty-stage stage.EndTagMark = refl
sixty-stage stage.InTag = refl
sixty-stage stage.ValueEnded = refl
sixty-stage stage.EmptyTagMark = refl
sixty-stage stage.AttrNamed = refl
sixty-stage stage.ValueAwaited = refl
sixty-stage stage.EndTagNamed = refl

-- The byte.

abbrev pub BySixty : State → Outcome → Type 0
BySixty st (leads to us) = (is_first (sort_of st) ≡ true → (after_less to ≡ true) × (us ≡ []))
    × (after_less to ≡ true → (us ≡ []) × ((is_first (sort_of st) ≡ true) ⊎ EndsGap st))
BySixty st (fails f) = Unit {0}

or-either : (s t : Bool) → (s || t) ≡ true → (s ≡ true) ⊎ (t ≡ true)
or-either true t e = inl refl
or-either false t e = inr e

gap-of : (s : Stage) (r : Bool) → is_gap s ≡ true → EndsGap (at s pending.Nothing r)
unfolding is_gap
gap-of (stage.Text Words) r h = (plain, r, refl)
gap-of (stage.Bracketed b) r h = (bracketed b, r, refl)
gap-of (stage.Text (Value q)) r h = false-true h
gap-of s r h = false-true h

settled-sixty : (s : Stage) (r : Bool) (t : Turn) → sixty_fits s t ≡ true → BySixty (at s pending.Nothing r) (settled false t)
unfolding sixty_fits leads_to tells_at
settled-sixty s r (goes t) h =
    let (a, b) = and_parts (not (is_first (sort s)) || is_less t) (not (is_less t) || (is_first (sort s) || is_gap s)) h in (
      λ e. (implied (is_first (sort s)) (is_less t) a e, refl),
      λ e. (refl, elim (or-either (is_first (sort s)) (is_gap s) (implied (is_less t) _ b e)) [ inl k ↦ inl k | inr k ↦ inr (gap-of s r k) ]),
    )
settled-sixty s r (tells_and_goes us t) h =
    let (a, b) = and_parts (not (is_first (sort s))) (not (is_less t)) h in (
      λ e. false-true (sym (not-is (is_first (sort s)) a) ∙ e),
      λ e. false-true (sym (not-is (is_less t) b) ∙ e),
    )
settled-sixty s r (stops f) h = tt

IsBroken : Reach → Type 0
IsBroken Broken = Unit {0}
IsBroken x = ⊥

low-second : (a b : ℕ) → b < 128 → not (is_second a b) ≡ false → ⊥
low-second a b h e = let k : 128 ≤ b = grind (arith, nat_tests) in omega arith

low-further : (b : ℕ) → b < 128 → is_continuation b ≡ true → ⊥
low-further b h e = let k : 128 ≤ b = grind (arith, nat_tests) in omega arith

not-not : (t : Bool) → not t ≡ false → t ≡ true
not-not true e = refl
not-not false e = absurd (let bad : true ≡ false = e in cc)

low-broken : (p : Pending) (b : ℕ) → b < 128 → is_nothing p ≡ false → IsBroken (reach p b)
unfolding IsBroken reach_second reach_third reach_fourth
low-broken pending.Nothing b h k = false-true (sym k)
low-broken (pending.One a) b h k = cond_both (not (is_second a b)) _ _ IsBroken (λ e. tt) (λ e. absurd (low-second a b h e))
low-broken (pending.Two a c) b h k = cond_both (not (is_continuation b)) _ _ IsBroken (λ e. tt) (λ e. absurd (low-further b h (not-not (is_continuation b) e)))
low-broken (pending.Three a c d) b h k = cond_both (is_continuation b) _ _ IsBroken (λ e. absurd (low-further b h e)) (λ e. tt)

broken-sixty : (st : State) (x : Reach) → IsBroken x → BySixty st (turn_wide st 60 x)
unfolding IsBroken turn_wide
broken-sixty st Broken h = tt
broken-sixty st (Whole n) h = absurd h
broken-sixty st (Begun q i j) h = absurd h

plain-sixty : (s : Stage) (r : Bool) → BySixty (at s pending.Nothing r) (turn_ascii (at s pending.Nothing r) 60)
unfolding turn_ascii ascii_kind
plain-sixty s true = settled-sixty s true (ascii s kinds.Less 60) (sixty-stage s)
plain-sixty s false = settled-sixty s false (ascii s kinds.Less 60) (sixty-stage s)

pub by-sixty : (st : State) → BySixty st (turn st 60)
by-sixty st = by st.stage st.pending st.returned
  where
    by : (s : Stage) (p : Pending) (r : Bool) → BySixty (at s p r) (turn (at s p r) 60)
    by s pending.Nothing r = plain-sixty s r
    by s (pending.One x) r = broken-sixty (at s (pending.One x) r) (reach (pending.One x) 60) (low-broken (pending.One x) 60 (omega arith) refl)
    by s (pending.Two x y) r = broken-sixty (at s (pending.Two x y) r) (reach (pending.Two x y) 60) (low-broken (pending.Two x y) 60 (omega arith) refl)
    by s (pending.Three x y z) r =
        broken-sixty (at s (pending.Three x y z) r) (reach (pending.Three x y z) 60) (low-broken (pending.Three x y z) 60 (omega arith) refl)

-- The text of a proper element among the top elements of a stream.
use Rattle.std.proofs.Common.{◌≡◌, ℕ, ◌+◌, ◌/◌, ◌%◌, List, [], ◌∷◌, ◌++◌, drop, length, get_or, refl, sym, ap, ◌∙◌, subst, append-nil, Bool, true, false, arith}
use Rattle.std.proofs.lemmas.Bool.{ltb-true, and_parts}
use Rattle.std.proofs.lemmas.List.{drop_more}
use Rattle.std.specs.Prelude.{encode_utf8, encode_utf8_all}
use Rattle.stream_lex.specs.declared.Token.{Token}
use Rattle.stream_lex.specs.declared.stages.Context.TheVariants.{Words, Value}
use Rattle.stream_lex.specs.declared.stages.NameOwner.TheVariants.{StartTag, EndTag, Attribute}
use Rattle.stream_lex.specs.declared.stages.Half.TheVariants.{Prefix, Local}
use Rattle.stream_lex.specs.declared.stages.Brackets.TheVariants.{One, Many}
use Rattle.stream_lex.specs.declared.stages.EntityName.TheVariants as entity_name
use Rattle.stream_lex.specs.declared.stages.Info.TheVariants.{Version, Encoding, Standalone}
use Rattle.stream_lex.specs.declared.stages.Literal.{Literal}
use Rattle.stream_lex.specs.declared.stages.Literal.TheVariants as literal
use Rattle.stream_lex.specs.declared.stages.Stage.{Stage}
use Rattle.stream_lex.specs.declared.stages.Stage.TheVariants as stage
use Rattle.stream_lex.specs.declared.stages.State.{State}
use Rattle.stream_lex.specs.declared.characters.Pending.{Pending}
use Rattle.stream_lex.specs.declared.characters.Pending.TheVariants as pending
use Rattle.stream_lex.specs.machine.Characters.{bytes_of, is_begun, is_between}
use Rattle.stream_lex.specs.grammar.Expressions.{all_said, IsText}
use Rattle.stream_lex.specs.machine.Derivatives.{empty_part}
use Rattle.stream_lex.specs.machine.Machine.{letters}
use Rattle.stream_lex.specs.machine.Turns.{Outcome, leads, fails, at, turn}
use Rattle.stream_lex.specs.machine.Live.{is_live_stage, is_live}
use Rattle.stream_lex.specs.machine.Leading.{Left}
use Rattle.stream_lex.specs.machine.Rests.{rest_of_fixed, rest_at}
use Rattle.stream_lex.proofs.Lists.{same_head, same_tail, cons_not_nil, said-same}
use Rattle.stream_lex.proofs.Derivative.{empty_part-to}
use Rattle.stream_lex.proofs.Spans.{Width, width1, width2, width3, width4, width_of, between-parts}
use Rattle.stream_lex.proofs.Living.{LeadsLive, live-parts}
use Rattle.stream_lex.proofs.Ended.{left-done}
use Rattle.stream_lex.specs.grammar.Reading.{lines, Reads}
use Rattle.stream_lex.proofs.ByteSteps.{left-plain}
use Rattle.stream_grammar.specs.grammar.Streams.{IsShortest}
use Rattle.stream_grammar.proofs.Nested.{no_token}
use Rattle.stream_grammar.proofs.Finishing.{carried}
use Rattle.stream_grammar.proofs.Running.{then_run, run_on, run}
use Rattle.stream_grammar.proofs.Whole.{first-left, left-first}
use Rattle.stream_laws.proofs.RoundTripNames.{first-byte}
use Rattle.stream_laws.proofs.RoundTripTags.{gap_state}
use Rattle.stream_grammar.proofs.Following.{left-to, left-from, left-fails, any-live, Tight, tight-from, words-left}
use Rattle.stream_laws.proofs.RoundTripRuns.{Runs, RunsLast, runs-none, runs-step, between}
use Rattle.stream_laws.proofs.RoundTripText.{Gap, plain, bracketed, gap_stage}

-- What is read is what the machine tells.

abbrev pub ReadRuns : State → List ℕ → List Token → Type 0
ReadRuns st bytes ts = (to : State) × Runs st bytes to ts × (is_live to ≡ true) × Left to [] []

pub read-runs : (bytes : List ℕ) (st : State) (ts : List Token) → is_live st ≡ true → Left st bytes (all_said ts) → ReadRuns st bytes ts
read-runs [] st ts live l =
    let none : ts ≡ [] = said-same ts [] (left-done st (all_said ts) live l) in
    subst (ReadRuns st []) (sym none) (st, runs-none, live, subst (λ (x : List Token). Left st [] (all_said x)) none l)
read-runs (b ∷ bs) st ts live l = by (turn st b) refl (λ s vs h k. read-runs bs s vs h k)
  where
    by : (o : Outcome) → turn st b ≡ o → ((s : State) (vs : List Token) → is_live s ≡ true → Left s bs (all_said vs) → ReadRuns s bs vs)
        → ReadRuns st (b ∷ bs) ts
    by (leads s us) e go =
        let (vs, same, k) = left-to st s b us bs ts live e l in
        let (to, r, alive, done) = go s vs (subst LeadsLive e (any-live st b live)) k in
        subst (ReadRuns st (b ∷ bs)) (sym same) (to, runs-step e r, alive, done)
    by (fails f) e go = absurd (left-fails st b f bs ts live e l)

-- Where a text may end, nothing but words may be open.

-- no character begins and does not end
pending-none : (p : Pending) (cs : List ℕ) → is_begun p ≡ true → encode_utf8_all cs ≡ bytes_of p → bytes_of p ≡ []
pending-none p [] h e = sym e
pending-none p (n ∷ es) h e = absurd (by p (encode_utf8_all es) h e (width_of n))
  where
    by : (p : Pending) (more : List ℕ) → is_begun p ≡ true → encode_utf8 n ++ more ≡ bytes_of p → Width n → ⊥
    by p more h e (width1 k w) = one p h (ap (λ (l : List ℕ). l ++ more) (sym w) ∙ e)
      where
        one : (p : Pending) → is_begun p ≡ true → n ∷ more ≡ bytes_of p → ⊥
        one pending.Nothing h e = cons_not_nil n more e
        one (pending.One a) h e = let f = same_head n a more [] e in let (x, y) = between-parts 194 244 a h in omega arith
        one (pending.Two a b) h e = let f = same_head n a more (b ∷ []) e in let (x, y) =
            between-parts 224 244 a (and_parts (is_between 224 244 a) _ h).0 in omega arith
        one (pending.Three a b c) h e = let f = same_head n a more (b ∷ c ∷ []) e in let (x, y) =
            between-parts 240 244 a (and_parts (is_between 240 244 a) _ h).0 in omega arith
    by p more h e (width2 k j w) = two p h (ap (λ (l : List ℕ). l ++ more) (sym w) ∙ e)
      where
        two : (p : Pending) → is_begun p ≡ true → (192 + n / 64) ∷ (128 + n % 64) ∷ more ≡ bytes_of p → ⊥
        two pending.Nothing h e = cons_not_nil _ _ e
        two (pending.One a) h e = cons_not_nil _ more (same_tail _ a _ [] e)
        two (pending.Two a b) h e = let f = same_head _ a _ (b ∷ []) e in let (x, y) =
            between-parts 224 244 a (and_parts (is_between 224 244 a) _ h).0 in omega arith
        two (pending.Three a b c) h e = let f = same_head _ a _ (b ∷ c ∷ []) e in let (x, y) =
            between-parts 240 244 a (and_parts (is_between 240 244 a) _ h).0 in omega arith
    by p more h e (width3 k j w) = three p h (ap (λ (l : List ℕ). l ++ more) (sym w) ∙ e)
      where
        three : (p : Pending) → is_begun p ≡ true → (224 + n / 4096) ∷ (128 + (n / 64) % 64) ∷ (128 + n % 64) ∷ more ≡ bytes_of p → ⊥
        three pending.Nothing h e = cons_not_nil _ _ e
        three (pending.One a) h e = cons_not_nil _ _ (same_tail _ a _ [] e)
        three (pending.Two a b) h e = cons_not_nil _ more (same_tail _ b _ [] (same_tail _ a _ (b ∷ []) e))
        three (pending.Three a b c) h e = let f = same_head _ a _ (b ∷ c ∷ []) e in let (x, y) =
            between-parts 240 244 a (and_parts (is_between 240 244 a) _ h).0 in omega arith
    by p more h e (width4 k w) = four p h (ap (λ (l : List ℕ). l ++ more) (sym w) ∙ e)
      where
        four : (p : Pending) → is_begun p ≡ true → (240 + n / 262144) ∷ (128 + (n / 4096) % 64) ∷ (128 + (n / 64) % 64) ∷ (128 + n % 64) ∷ more ≡ bytes_of p → ⊥
        four pending.Nothing h e = cons_not_nil _ _ e
        four (pending.One a) h e = cons_not_nil _ _ (same_tail _ a _ [] e)
        four (pending.Two a b) h e = cons_not_nil _ _ (same_tail _ b _ [] (same_tail _ a _ (b ∷ []) e))
        four (pending.Three a b c) h e = cons_not_nil _ more (same_tail _ c _ [] (same_tail _ b _ (c ∷ []) (same_tail _ a _ (b ∷ c ∷ []) e)))

nothing-pending : (p : Pending) → bytes_of p ≡ [] → p ≡ pending.Nothing
nothing-pending pending.Nothing e = refl
nothing-pending (pending.One a) e = absurd (cons_not_nil a [] e)
nothing-pending (pending.Two a b) e = absurd (cons_not_nil a (b ∷ []) e)
nothing-pending (pending.Three a b c) e = absurd (cons_not_nil a (b ∷ c ∷ []) e)

abbrev InGap : Stage → Type 0
InGap s = (g : Gap) × (s ≡ gap_stage g)

fixed-void : (w : Literal) (d : ℕ) (ds : List ℕ) → IsText (empty_part (rest_of_fixed w (d ∷ ds))) [] [] → ⊥
unfolding IsText
fixed-void literal.Xml d ds m = m
fixed-void w d ds m = m

stage-gap : (s : Stage) → is_live_stage s ≡ true → IsText (empty_part (rest_at s)) [] [] → InGap s
unfolding IsText rest_at
stage-gap (stage.Text Words) live m = (plain, refl)
stage-gap (stage.Bracketed One) live m = (bracketed One, refl)
stage-gap (stage.Bracketed Many) live m = (bracketed Many, refl)
stage-gap (stage.Fixed w i) live m =
    absurd (fixed-void w (get_or (letters w) i 0) (drop (i + 1) (letters w))
    (subst (λ (l : List ℕ). IsText (empty_part (rest_of_fixed w l)) [] []) (drop_more (letters w) i 0 (ltb-true i (length (letters w)) live)) m))
stage-gap (stage.Text (Value q)) live m = absurd m
stage-gap (stage.CdataBracketed One) live m = absurd m
stage-gap (stage.CdataBracketed Many) live m = absurd m
stage-gap (stage.InfoEnds Version) live m = absurd m
stage-gap (stage.InfoEnds Encoding) live m = absurd m
stage-gap (stage.InfoEnds Standalone) live m = absurd m
stage-gap (stage.InfoSpace Version) live m = absurd m
stage-gap (stage.InfoSpace Encoding) live m = absurd m
stage-gap (stage.InfoSpace Standalone) live m = absurd m
stage-gap (stage.InfoName i) live m = absurd m
stage-gap (stage.InfoEquals i) live m = absurd m
stage-gap (stage.MinorFirst q) live m = absurd m
stage-gap (stage.Minor q) live m = absurd m
stage-gap (stage.CharsetSeen q) live m = absurd m
stage-gap (stage.Choice q) live m = absurd m
stage-gap (stage.Chosen q) live m = absurd m
stage-gap (stage.Reference p entity_name.Empty) live m = absurd m
stage-gap (stage.Reference p entity_name.A) live m = absurd m
stage-gap (stage.Reference p entity_name.Am) live m = absurd m
stage-gap (stage.Reference p entity_name.Amp) live m = absurd m
stage-gap (stage.Reference p entity_name.Ap) live m = absurd m
stage-gap (stage.Reference p entity_name.Apo) live m = absurd m
stage-gap (stage.Reference p entity_name.Apos) live m = absurd m
stage-gap (stage.Reference p entity_name.L) live m = absurd m
stage-gap (stage.Reference p entity_name.Lt) live m = absurd m
stage-gap (stage.Reference p entity_name.G) live m = absurd m
stage-gap (stage.Reference p entity_name.Gt) live m = absurd m
stage-gap (stage.Reference p entity_name.Q) live m = absurd m
stage-gap (stage.Reference p entity_name.Qu) live m = absurd m
stage-gap (stage.Reference p entity_name.Quo) live m = absurd m
stage-gap (stage.Reference p entity_name.Quot) live m = absurd m
stage-gap (stage.Hash p) live m = absurd m
stage-gap (stage.HashX p) live m = absurd m
stage-gap (stage.Number p base v) live m = absurd m
stage-gap (stage.Name StartTag Prefix) live m = absurd m
stage-gap (stage.Name StartTag Local) live m = absurd m
stage-gap (stage.Name EndTag Prefix) live m = absurd m
stage-gap (stage.Name EndTag Local) live m = absurd m
stage-gap (stage.Name Attribute Prefix) live m = absurd m
stage-gap (stage.Name Attribute Local) live m = absurd m
stage-gap (stage.Colon r) live m = absurd m
stage-gap stage.Start live m = absurd m
stage-gap stage.StartLess live m = absurd m
stage-gap stage.Prolog live m = absurd m
stage-gap stage.PrologLess live m = absurd m
stage-gap stage.XmlSeen live m = absurd m
stage-gap stage.XmlSpace live m = absurd m
stage-gap stage.DeclarationMark live m = absurd m
stage-gap stage.Less live m = absurd m
stage-gap stage.Bang live m = absurd m
stage-gap stage.Cdata live m = absurd m
stage-gap stage.EndTagMark live m = absurd m
stage-gap stage.InTag live m = absurd m
stage-gap stage.ValueEnded live m = absurd m
stage-gap stage.EmptyTagMark live m = absurd m
stage-gap stage.AttrNamed live m = absurd m
stage-gap stage.ValueAwaited live m = absurd m
stage-gap stage.EndTagNamed live m = absurd m

plain-ends : (s : Stage) (r : Bool) → is_live_stage s ≡ true → Left (at s pending.Nothing r) [] [] → InGap s
plain-ends s r live l = let (cs, sc, e, m) = left-plain s r [] [] l in by cs e m
  where
    by : (cs : List ℕ) → encode_utf8_all cs ≡ [] → IsText (rest_at s) (lines r cs) [] → InGap s
    by [] e m = stage-gap s live (empty_part-to (rest_at s) [] [] refl m)
    by (n ∷ es) e m = let (b, zs, f) =
        first-byte n in absurd (cons_not_nil b (zs ++ encode_utf8_all es) (ap (λ (l : List ℕ). l ++ encode_utf8_all es) (sym f) ∙ e))

abbrev pub EndsGap : State → Type 0
EndsGap st = (g : Gap) × (r : Bool) × (st ≡ gap_state g r)

pub ends-gap : (st : State) → is_live st ≡ true → Left st [] [] → EndsGap st
ends-gap st live l = let h = live-parts st live in by st.stage st.pending st.returned h.0 h.1 l
  where
    by : (s : Stage) (p : Pending) (r : Bool) → (is_live_stage s ≡ true) → (is_begun p ≡ true) → Left (at s p r) [] [] → EndsGap (at s p r)
    by s p r live begun (cs, sc, e, m) =
        let none : p ≡ pending.Nothing = nothing-pending p (pending-none p cs begun (e ∙ append-nil (bytes_of p))) in
        let (g, is) = plain-ends s r live (subst (λ (q : Pending). Left (at s q r) [] []) none (cs, sc, e, m)) in
        (g, r, ap (λ (q : Pending). at s q r) none ∙ ap (λ (t : Stage). at t pending.Nothing r) is)

live-runs : (bs : List ℕ) (st : State) → is_live st ≡ true → LeadsLive (run st bs)
live-runs [] st live = live
live-runs (b ∷ bs) st live = by (turn st b) (any-live st b live) (λ s h. live-runs bs s h)
  where
    after : (us : List Token) (o : Outcome) → LeadsLive o → LeadsLive (then_run us o)
    after us (leads to vs) h = h
    after us (fails f) h = tt

    by : (o : Outcome) → LeadsLive o → ((s : State) → is_live s ≡ true → LeadsLive (run s bs)) → LeadsLive (run_on o (λ s. run s bs))
    by (leads s us) h go = after us (run s bs) (go s h)
    by (fails f) h go = tt

-- What leads to between tags, and tells something last, is read.

nil-back : (xs ys : List ℕ) → xs ++ ys ≡ [] → ys ≡ []
nil-back [] ys e = e
nil-back (x ∷ xs) ys e = absurd (cons_not_nil x (xs ++ ys) e)

abbrev pub first_state : State
first_state = at stage.Start pending.Nothing false

pub last-read : (bytes : List ℕ) (ts : List Token) → is_live first_state ≡ true → RunsLast first_state bytes (between (gap_stage plain)) ts
    → Reads bytes ts × IsShortest bytes ts
last-read bytes ts live l =
    let alive : is_live l.state ≡ true = subst LeadsLive l.way.leads_so (live-runs l.front first_state live) in
    let last : Left l.state (l.byte ∷ []) (all_said (l.last ∷ [])) =
    left-from l.state (between (gap_stage plain)) l.byte (l.last ∷ []) [] [] alive l.step words-left in
    let tight : Tight l.state (l.byte ∷ []) (l.last ∷ []) =
    tight-from l.state (between (gap_stage plain)) l.byte (l.last ∷ []) [] [] alive l.step (no_token l.last []) (λ xs ys p k. nil-back xs ys (sym p)) in
    let (m, k) = carried l.front first_state l.state l.told live l.way.leads_so (l.byte ∷ []) (l.last ∷ []) (no_token l.last []) last tight in (
      subst (λ (x : List ℕ). Reads x ts) l.text
          (subst (Reads (l.front ++ l.byte ∷ [])) l.tokens (left-first (l.front ++ l.byte ∷ []) (l.told ++ l.last ∷ []) m)),
      λ xs ys p q. k xs ys (l.text ∙ p) (subst (λ (x : List Token). Left first_state xs (all_said x)) (sym l.tokens) (first-left xs ts q)),
    )

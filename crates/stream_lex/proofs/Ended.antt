-- Where a text is whole, nothing is left to tell.
use Rattle.std.proofs.Common.{◌≡◌, ℕ, ◌+◌, ◌<◌, ◌≤◌, arith, List, [], ◌∷◌, ◌++◌, drop, length, get_or, refl, sym, ap, ◌∙◌}
use Rattle.std.proofs.Common.{subst, append_assoc, Bool, true, false, encode_utf8, encode_utf8_all}
use Rattle.std.proofs.lemmas.Bool.{ltb-true}
use Rattle.std.proofs.lemmas.List.{drop_more}
use Rattle.std.specs.Str.{all_scalars}
use Rattle.stream_lex.specs.declared.stages.Context.TheVariants.{Words, Value}
use Rattle.stream_lex.specs.declared.stages.NameOwner.TheVariants.{StartTag, EndTag, Attribute}
use Rattle.stream_lex.specs.declared.stages.Half.TheVariants.{Prefix, Local}
use Rattle.stream_lex.specs.declared.stages.Brackets.TheVariants.{One, Many}
use Rattle.stream_lex.specs.declared.stages.EntityName.TheVariants as entity_name
use Rattle.stream_lex.specs.declared.stages.Info.TheVariants.{Version, Encoding, Standalone}
use Rattle.stream_lex.specs.declared.stages.Literal.{Literal}
use Rattle.stream_lex.specs.declared.stages.Literal.TheVariants as literal
use Rattle.stream_lex.specs.declared.stages.Stage.{Stage}
use Rattle.stream_lex.specs.declared.stages.Stage.TheVariants as stage
use Rattle.stream_lex.specs.declared.stages.State.{State}
use Rattle.stream_lex.specs.declared.characters.Pending.{Pending}
use Rattle.stream_lex.specs.declared.characters.Pending.TheVariants as pending
use Rattle.stream_lex.specs.declared.characters.Reach.{Reach}
use Rattle.stream_lex.specs.declared.characters.Reach.TheVariants.{Whole, Begun, Broken}
use Rattle.stream_lex.specs.grammar.Classes.{class_of}
use Rattle.stream_lex.specs.machine.Characters.{bytes_of, is_begun, reach, reach_first, reach_second, reach_third}
use Rattle.stream_lex.specs.grammar.Expressions.{Sign, Expression, void, empty, IsText}
use Rattle.stream_lex.specs.machine.Derivatives.{empty_part}
use Rattle.stream_lex.specs.machine.Machine.{letters, allowed_at}
use Rattle.stream_lex.specs.machine.Turns.{at}
use Rattle.stream_lex.specs.machine.Live.{is_live_stage, is_met, is_awaited, is_live}
use Rattle.stream_lex.specs.grammar.Reading.{lines}
use Rattle.stream_lex.specs.machine.Leading.{Left}
use Rattle.stream_lex.specs.machine.Rests.{rest_of_fixed, rest_at}
use Rattle.stream_lex.proofs.Lists.{false-true, cons_not_nil, nil_parts, same_tail}
use Rattle.stream_lex.proofs.Derivative.{empty_part-to}
use Rattle.stream_lex.proofs.Spans.{IsRest, Width, width1, width2, width3, width4, width_of, reach-starts, between-parts}
use Rattle.stream_lex.proofs.ByteSteps.{left-plain, first_character-in}
use Rattle.stream_lex.proofs.Living.{begun-symbol, begun-two, live-parts}

-- no text, or the one that tells nothing
abbrev is_still : Expression → Bool
is_still void = true
is_still empty = true
is_still p = false

still-nothing : (p : Expression) (ms : List Sign) → is_still p ≡ true → IsText p [] ms → ms ≡ []
unfolding IsText
still-nothing void ms h m = absurd m
still-nothing empty ms h m = m.1
still-nothing p ms h m = false-true h

fixed-still : (w : Literal) (d : ℕ) (ds : List ℕ) → is_still (empty_part (rest_of_fixed w (d ∷ ds))) ≡ true
fixed-still literal.Xml d ds = refl
fixed-still w d ds = refl

still-Fixed : (w : Literal) (at : ℕ) → at < length (letters w) → is_still (empty_part (rest_at (stage.Fixed w at))) ≡ true
unfolding rest_at
still-Fixed w at h = ap (λ (l : List ℕ). is_still (empty_part (rest_of_fixed w l))) (drop_more (letters w) at 0 h)
    ∙ fixed-still w (get_or (letters w) at 0) (drop (at + 1) (letters w))

still : (s : Stage) → is_live_stage s ≡ true → is_still (empty_part (rest_at s)) ≡ true
unfolding rest_at
still (stage.Fixed w at) live = still-Fixed w at (ltb-true at (length (letters w)) live)
still (stage.Text Words) live = refl
still (stage.Text (Value q)) live = refl
still (stage.Bracketed One) live = refl
still (stage.Bracketed Many) live = refl
still (stage.CdataBracketed One) live = refl
still (stage.CdataBracketed Many) live = refl
still (stage.InfoEnds Version) live = refl
still (stage.InfoEnds Encoding) live = refl
still (stage.InfoEnds Standalone) live = refl
still (stage.InfoSpace Version) live = refl
still (stage.InfoSpace Encoding) live = refl
still (stage.InfoSpace Standalone) live = refl
still (stage.InfoName i) live = refl
still (stage.InfoEquals i) live = refl
still (stage.MinorFirst q) live = refl
still (stage.Minor q) live = refl
still (stage.CharsetSeen q) live = refl
still (stage.Choice q) live = refl
still (stage.Chosen q) live = refl
still (stage.Reference p entity_name.Empty) live = refl
still (stage.Reference p entity_name.A) live = refl
still (stage.Reference p entity_name.Am) live = refl
still (stage.Reference p entity_name.Amp) live = refl
still (stage.Reference p entity_name.Ap) live = refl
still (stage.Reference p entity_name.Apo) live = refl
still (stage.Reference p entity_name.Apos) live = refl
still (stage.Reference p entity_name.L) live = refl
still (stage.Reference p entity_name.Lt) live = refl
still (stage.Reference p entity_name.G) live = refl
still (stage.Reference p entity_name.Gt) live = refl
still (stage.Reference p entity_name.Q) live = refl
still (stage.Reference p entity_name.Qu) live = refl
still (stage.Reference p entity_name.Quo) live = refl
still (stage.Reference p entity_name.Quot) live = refl
still (stage.Hash p) live = refl
still (stage.HashX p) live = refl
still (stage.Number p base v) live = refl
still (stage.Name StartTag Prefix) live = refl
still (stage.Name StartTag Local) live = refl
still (stage.Name EndTag Prefix) live = refl
still (stage.Name EndTag Local) live = refl
still (stage.Name Attribute Prefix) live = refl
still (stage.Name Attribute Local) live = refl
still (stage.Colon r) live = refl
still stage.Start live = refl
still stage.StartLess live = refl
still stage.Prolog live = refl
still stage.PrologLess live = refl
still stage.XmlSeen live = refl
still stage.XmlSpace live = refl
still stage.DeclarationMark live = refl
still stage.Less live = refl
still stage.Bang live = refl
still stage.Cdata live = refl
still stage.EndTagMark live = refl
still stage.InTag live = refl
still stage.ValueEnded live = refl
still stage.EmptyTagMark live = refl
still stage.AttrNamed live = refl
still stage.ValueAwaited live = refl
still stage.EndTagNamed live = refl

has-bytes : (n : ℕ) (more : List ℕ) → encode_utf8 n ++ more ≡ [] → Width n → ⊥
has-bytes n more e (width1 h w) = cons_not_nil _ _ (ap (λ (l : List ℕ). l ++ more) (sym w) ∙ e)
has-bytes n more e (width2 h k w) = cons_not_nil _ _ (ap (λ (l : List ℕ). l ++ more) (sym w) ∙ e)
has-bytes n more e (width3 h k w) = cons_not_nil _ _ (ap (λ (l : List ℕ). l ++ more) (sym w) ∙ e)
has-bytes n more e (width4 h w) = cons_not_nil _ _ (ap (λ (l : List ℕ). l ++ more) (sym w) ∙ e)

plain-done : (s : Stage) (r : Bool) (cs : List ℕ) (ms : List Sign) → is_live_stage s ≡ true → encode_utf8_all cs ≡ [] → IsText (rest_at s) (lines r cs) ms
    → ms ≡ []
plain-done s r [] ms live e m = still-nothing (empty_part (rest_at s)) ms (still s live) (empty_part-to (rest_at s) [] ms refl m)
plain-done s r (n ∷ es) ms live e m = absurd (has-bytes n (encode_utf8_all es) e (width_of n))

nil-from-same : (xs ys : List ℕ) → xs ++ ys ≡ xs → ys ≡ []
nil-from-same [] ys e = e
nil-from-same (x ∷ xs) ys e = nil-from-same xs ys (same_tail x x (xs ++ ys) xs e)

first_character-high : (a : ℕ) → is_begun (pending.One a) ≡ true → 128 ≤ a
first_character-high a h = let (low, high) = between-parts 194 244 a h in omega arith

-- no text ends within a character
cut-done : (s : Stage) (p : Pending) (b : ℕ) (x : Reach) (cs : List ℕ) → reach p b ≡ x → is_begun p ≡ true → (bytes_of p ≡ [] → 128 ≤ b)
    → is_met (class_of (allowed_at s)) x ≡ true
    → all_scalars cs ≡ true → encode_utf8_all cs ≡ bytes_of p ++ b ∷ [] → ⊥
cut-done s p b (Whole n) cs e begun k met sc enc = false-true met
cut-done s p b Broken cs e begun k met sc enc = false-true met
cut-done s p b (Begun q low high) cs e begun k met sc enc =
    let f = first_character-in p b [] cs begun k sc enc in
    let (rest, spelt, left) = reach-starts p b f.n begun f.within in
    let (d, ds, some) = let y : IsRest (Begun q low high) rest = subst (λ (z : Reach). IsRest z rest) e left in y in
    let all : (bytes_of p ++ b ∷ []) ++ (rest ++ encode_utf8_all f.es) ≡ bytes_of p ++ b ∷ [] =
    sym (append_assoc (bytes_of p ++ b ∷ []) rest (encode_utf8_all f.es)) ∙ (ap (λ (l : List ℕ). l ++ encode_utf8_all f.es) (sym spelt) ∙ f.bytes) in
    cons_not_nil d ds (sym some ∙ (nil_parts rest (encode_utf8_all f.es) (nil-from-same (bytes_of p ++ b ∷ []) (rest ++ encode_utf8_all f.es) all)).0)

done-at : (s : Stage) (p : Pending) (r : Bool) (ms : List Sign) → is_live_stage s ≡ true → is_begun p ≡ true → is_awaited (class_of (allowed_at s)) p ≡ true
    → Left (at s p r) [] ms → ms ≡ []
done-at s pending.Nothing r ms live begun waits l = let (cs, sc, e, m) = left-plain s r [] ms l in plain-done s r cs ms live e m
done-at s (pending.One a) r ms live begun waits (cs, sc, e, m) =
    absurd (cut-done s pending.Nothing a (reach_first a) cs refl refl (λ f. first_character-high a begun) waits sc e)
done-at s (pending.Two a b) r ms live begun waits (cs, sc, e, m) =
    absurd (cut-done s (pending.One a) b (reach_second a b) cs refl (begun-symbol a b begun) (λ f. absurd (cons_not_nil a [] f)) waits sc e)
done-at s (pending.Three a b c) r ms live begun waits (cs, sc, e, m) =
    absurd (cut-done s (pending.Two a b) c (reach_third a b c) cs refl (begun-two a b c begun) (λ f. absurd (cons_not_nil a (b ∷ []) f)) waits sc e)

pub left-done : (st : State) (ms : List Sign) → is_live st ≡ true → Left st [] ms → ms ≡ []
left-done st ms live l = let p = live-parts st live in done-at st.stage st.pending st.returned ms p.0 p.1 p.2 l

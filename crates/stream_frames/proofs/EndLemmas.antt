-- Markup that ends a tag in an item that goes on.
use Rattle.std.proofs.Common.{◌≡◌, ℕ, List, [], ◌∷◌, length, refl, sym, ap, ◌∙◌, subst, Bool, true, false, not, ◌&&◌, ◌==◌, nat_lt, arith}
use Rattle.std.specs.Prelude.{None, if◌then◌else◌}
use Rattle.std.proofs.lemmas.Bool.{and_parts, and_right, eqb-true, not-true, lt-ltb}
use Rattle.stanza_tree.specs.declared.node.Element.{Element}
use Rattle.stream_lex.specs.declared.Token.TheVariants as token
use Rattle.stream_lex.specs.declared.stages.Context.TheVariants.{Words}
use Rattle.stream_lex.specs.declared.stages.Half.TheVariants.{Prefix, Local}
use Rattle.stream_lex.specs.declared.stages.NameOwner.TheVariants.{StartTag, EndTag}
use Rattle.stream_lex.specs.declared.stages.Stage.{Stage}
use Rattle.stream_lex.specs.declared.stages.Stage.TheVariants as stage
use Rattle.stream_lex.specs.declared.stages.State.{State}
use Rattle.stream_lex.specs.grammar.Kinds.{ascii_kind}
use Rattle.stream_lex.specs.machine.Machine.{ascii, in_name}
use Rattle.stream_lex.specs.machine.Machine.{in_tag as in_tag_turn}
use Rattle.stream_lex.specs.machine.Turns.{Outcome, leads, turn, turn_ascii}
use Rattle.stream_grammar.specs.declared.rules.Rules.{Rules}
use Rattle.stream_grammar.specs.grammar.Trees.{RawName}
use Rattle.stream_grammar.specs.machine.Nesting.{Nest, inside, naming, in_tag, closing, nest}
use Rattle.stream_grammar.specs.machine.Framing.{Frame, open_at, is_empty_mark}
use Rattle.stream_grammar.specs.grammar.Tags.{Gathered}
use Rattle.stream_grammar.specs.machine.Ends.{tokens_told}
use Rattle.stream_grammar.specs.machine.Texts.{IsTextTag, HasTexts, AreNamed}
use Rattle.stream_grammar.proofs.NameTexts.{told_named}
use Rattle.stream_grammar.specs.grammar.Elements.{inside_of}
use Rattle.stream_grammar.specs.machine.Gathering.{nothing_gathered}
use Rattle.stream_grammar.specs.machine.Building.{Building, Opened, headed, begun, ended_in, closed_in, build, tag_judged}
use Rattle.stream_frames.specs.Markup.{LeadsBy, ends_start, enters_by, now_entered, hollows_by, now_hollow, leaves_by, now_left, has_parent}
use Rattle.stream_frames.specs.Moves.{is_none}
use Rattle.stream_frames.specs.Stacks.{outer}
use Rattle.stream_frames.specs.Runs.{is_between_characters, is_end_stage, has_opened}
use Rattle.stream_frames.proofs.MarkupLemmas.{stage_at, state_at, told_led}

-- How many names are open.

pub three-long : (st : List RawName) → nat_lt 2 (length st) ≡ nat_lt 1 (length (outer st))
three-long [] = refl
three-long (m ∷ []) = refl
three-long (m ∷ x ∷ []) = refl
three-long (m ∷ x ∷ y ∷ st) = lt-ltb 2 (length (m ∷ x ∷ y ∷ st)) (omega arith) ∙ sym (lt-ltb 1 (length (x ∷ y ∷ st)) (omega arith))

-- No item comes of them.

begun-same : (b : Building) → not (length b.layers == 0) ≡ true → (build b (token.TagEnds false)).item ≡ b.item
begun-same b h = ap (λ (t : Bool). (if t then headed (inside_of b.layers b.tag) b else begun (inside_of b.layers b.tag) b).item)
    (not-true (length b.layers == 0) h)

ended-same : (e : Element) (words : List ℕ) (os : List Opened) (b : Building) → has_opened os ≡ true → (ended_in e words os b).item ≡ b.item
ended-same e words [] b h = absurd (let bad : false ≡ true = h in cc)
ended-same e words (o ∷ os) b h = refl

closed-same : (os : List Opened) (b : Building) → has_parent os ≡ true → (closed_in os b).item ≡ b.item
closed-same [] b h = absurd (let bad : false ≡ true = h in cc)
closed-same (o ∷ []) b h = absurd (let bad : false ≡ true = h in cc)
closed-same (o ∷ x ∷ os) b h = refl

-- Names are texts where a tag ends.

ending-named : (s : Stage) (n : Nest) (e : Bool) (g : Gathered) → turn (stage_at s) 62 ≡ leads (stage_at (stage.Text Words)) (token.TagEnds e ∷ [])
    → HasTexts (open_at (stage_at s) n) g → IsTextTag g
ending-named s n e g turned h = subst (λ (o : Outcome). AreNamed g (tokens_told o)) turned (told_named (open_at (stage_at s) n) 62 g h)

-- A start tag.

start-ends : (h : _) → turn (stage_at (stage.Name StartTag h)) 62 ≡ leads (stage_at (stage.Text Words)) (token.TagEnds false ∷ [])
unfolding turn_ascii ascii_kind ascii in_name
start-ends Prefix = refl
start-ends Local = refl

tag-ends : turn (stage_at stage.InTag) 62 ≡ leads (stage_at (stage.Text Words)) (token.TagEnds false ∷ [])
unfolding turn_ascii ascii_kind ascii in_tag_turn
tag-ends = refl

value-ends : turn (stage_at stage.ValueEnded) 62 ≡ leads (stage_at (stage.Text Words)) (token.TagEnds false ∷ [])
unfolding turn_ascii ascii_kind ascii in_tag_turn
value-ends = refl

enters-turn : (s : Stage) → ends_start s ≡ true → turn (stage_at s) 62 ≡ leads (stage_at (stage.Text Words)) (token.TagEnds false ∷ [])
enters-turn (stage.Name StartTag i) h = start-ends i
enters-turn stage.InTag h = tag-ends
enters-turn stage.ValueEnded h = value-ends
enters-turn s h = absurd (let bad : false ≡ true = h in cc)

enters-named : (st : State) (n : Nest) (t : Bool) (g : Gathered) → ((ends_start st.stage && is_between_characters st) && t) ≡ true → HasTexts (open_at st n) g
    → IsTextTag g
enters-named st n t g h texts =
    let q = and_parts (ends_start st.stage) (is_between_characters st) (and_parts (ends_start st.stage && is_between_characters st) t h).0 in
    ending-named st.stage n false g (enters-turn st.stage q.0) (subst (λ (y : State). HasTexts (open_at y n) g) (state_at st st.stage q.1 refl) texts)

pub entered_named : (f : Frame) (byte : ℕ) (g : Gathered) → enters_by f byte ≡ true → HasTexts f g → IsTextTag g
entered_named (open_at st (naming ms m)) byte g h texts = enters-named st (naming ms m) (not (is_none ms) && (byte == 62)) g h texts
entered_named (open_at st (in_tag ms m i)) byte g h texts = enters-named st (in_tag ms m i) (not (is_none ms) && (byte == 62)) g h texts
entered_named f byte g h texts = absurd (let bad : false ≡ true = h in cc)

naming-enters : (r : Rules) (ms : List RawName) (m : RawName) → nest r (naming ms m) (token.TagEnds false) ≡ inside (m ∷ ms)
unfolding nest
naming-enters r ms m = refl

tag-enters : (r : Rules) (ms : List RawName) (m : RawName) (i : ℕ) → nest r (in_tag ms m i) (token.TagEnds false) ≡ inside (m ∷ ms)
unfolding nest
tag-enters r ms m i = refl

entered-in : (r : Rules) (st : State) (n : Nest) (m x : RawName) (ms : List RawName) (byte : ℕ) (b : Building)
    → ((ends_start st.stage && is_between_characters st) && (byte == 62)) ≡ true → nest r n (token.TagEnds false) ≡ inside (m ∷ x ∷ ms)
    → not (length b.layers == 0) ≡ true → tag_judged b (token.TagEnds false) ≡ None
    → LeadsBy r (open_at st n) b (byte ∷ []) (open_at (stage_at (stage.Text Words)) (inside (m ∷ x ∷ ms))) (build b (token.TagEnds false))
entered-in r st n m x ms byte b h nests has judged =
    let p = and_parts (ends_start st.stage && is_between_characters st) (byte == 62) h in
    let q = and_parts (ends_start st.stage) (is_between_characters st) p.0 in
    subst (λ (i : ℕ). LeadsBy r (open_at st n) b (i ∷ []) (open_at (stage_at (stage.Text Words)) (inside (m ∷ x ∷ ms))) (build b (token.TagEnds false)))
    (sym (eqb-true byte 62 p.1))
    (subst (λ (y : State). LeadsBy r (open_at y n) b (62 ∷ []) (open_at (stage_at (stage.Text Words)) (inside (m ∷ x ∷ ms))) (build b (token.TagEnds false)))
    (sym (state_at st st.stage q.1 refl))
    (told_led r (stage_at st.stage) (stage_at (stage.Text Words)) n (inside (m ∷ x ∷ ms)) 62 (token.TagEnds false) b (build b (token.TagEnds false))
    (enters-turn st.stage q.0) nests refl refl refl judged (begun-same b has)))

entered-at : (r : Rules) (f : Frame) (byte : ℕ) (b : Building) → enters_by f byte ≡ true → not (length b.layers == 0) ≡ true
    → tag_judged b (token.TagEnds false) ≡ None → LeadsBy r f b (byte ∷ []) (now_entered f) (build b (token.TagEnds false))
entered-at r (open_at st (naming (x ∷ ms) m)) byte b h has judged = entered-in r st (naming (x ∷ ms) m) m x ms byte b h (naming-enters r (x ∷ ms) m) has judged
entered-at r (open_at st (in_tag (x ∷ ms) m i)) byte b h has judged =
    entered-in r st (in_tag (x ∷ ms) m i) m x ms byte b h (tag-enters r (x ∷ ms) m i) has judged
entered-at r (open_at st (naming [] m)) byte b h has judged =
    absurd (let bad : false ≡ true = sym (and_right (ends_start st.stage && is_between_characters st) false refl) ∙ h in cc)
entered-at r (open_at st (in_tag [] m i)) byte b h has judged =
    absurd (let bad : false ≡ true = sym (and_right (ends_start st.stage && is_between_characters st) false refl) ∙ h in cc)
entered-at r f byte b h has judged = absurd (let bad : false ≡ true = h in cc)

pub entered_led : (r : Rules) (f g : Frame) (byte : ℕ) (b c : Building) → enters_by f byte ≡ true → not (length b.layers == 0) ≡ true
    → tag_judged b (token.TagEnds false) ≡ None
    → g ≡ now_entered f → c ≡ build b (token.TagEnds false) → LeadsBy r f b (byte ∷ []) g c
entered_led r f g byte b c h has judged is made =
    subst (λ (x : Building). LeadsBy r f b (byte ∷ []) g x) (sym made)
    (subst (λ (x : Frame). LeadsBy r f b (byte ∷ []) x (build b (token.TagEnds false))) (sym is) (entered-at r f byte b h has judged))

-- An empty-element tag.

mark-ends : turn (stage_at stage.EmptyTagMark) 62 ≡ leads (stage_at (stage.Text Words)) (token.TagEnds true ∷ [])
unfolding turn_ascii ascii_kind ascii in_tag_turn
mark-ends = refl

empty-mark-is : (s : Stage) → is_empty_mark s ≡ true → s ≡ stage.EmptyTagMark
empty-mark-is stage.EmptyTagMark h = refl
empty-mark-is s h = absurd (let bad : false ≡ true = h in cc)

hollows-named : (st : State) (n : Nest) (t : Bool) (g : Gathered) → ((is_empty_mark st.stage && is_between_characters st) && t) ≡ true
    → HasTexts (open_at st n) g → IsTextTag g
hollows-named st n t g h texts =
    let q = and_parts (is_empty_mark st.stage) (is_between_characters st) (and_parts (is_empty_mark st.stage && is_between_characters st) t h).0 in
    ending-named stage.EmptyTagMark n true g mark-ends
    (subst (λ (y : State). HasTexts (open_at y n) g) (state_at st stage.EmptyTagMark q.1 (empty-mark-is st.stage q.0)) texts)

pub hollow_named : (f : Frame) (byte : ℕ) (g : Gathered) → hollows_by f byte ≡ true → HasTexts f g → IsTextTag g
hollow_named (open_at st (naming ms m)) byte g h texts = hollows-named st (naming ms m) (nat_lt 1 (length ms) && (byte == 62)) g h texts
hollow_named (open_at st (in_tag ms m i)) byte g h texts = hollows-named st (in_tag ms m i) (nat_lt 1 (length ms) && (byte == 62)) g h texts
hollow_named f byte g h texts = absurd (let bad : false ≡ true = h in cc)

naming-hollow : (r : Rules) (x : RawName) (ms : List RawName) (m : RawName) → nest r (naming (x ∷ ms) m) (token.TagEnds true) ≡ inside (x ∷ ms)
unfolding nest
naming-hollow r x ms m = refl

tag-hollow : (r : Rules) (x : RawName) (ms : List RawName) (m : RawName) (i : ℕ) → nest r (in_tag (x ∷ ms) m i) (token.TagEnds true) ≡ inside (x ∷ ms)
unfolding nest
tag-hollow r x ms m i = refl

hollow-in : (r : Rules) (st : State) (n : Nest) (x y : RawName) (ms : List RawName) (byte : ℕ) (b : Building)
    → ((is_empty_mark st.stage && is_between_characters st) && (nat_lt 1 (length (x ∷ y ∷ ms)) && (byte == 62))) ≡ true
    → nest r n (token.TagEnds true) ≡ inside (x ∷ y ∷ ms)
    → has_opened b.opened ≡ true → tag_judged b (token.TagEnds true) ≡ None
    → LeadsBy r (open_at st n) b (byte ∷ []) (open_at (stage_at (stage.Text Words)) (inside (x ∷ y ∷ ms))) (build b (token.TagEnds true))
hollow-in r st n x y ms byte b h nests has judged =
    let p = and_parts (is_empty_mark st.stage && is_between_characters st) (nat_lt 1 (length (x ∷ y ∷ ms)) && (byte == 62)) h in
    let q = and_parts (is_empty_mark st.stage) (is_between_characters st) p.0 in
    let u = and_parts (nat_lt 1 (length (x ∷ y ∷ ms))) (byte == 62) p.1 in
    subst (λ (i : ℕ). LeadsBy r (open_at st n) b (i ∷ []) (open_at (stage_at (stage.Text Words)) (inside (x ∷ y ∷ ms))) (build b (token.TagEnds true)))
    (sym (eqb-true byte 62 u.1))
    (subst (λ (z : State). LeadsBy r (open_at z n) b (62 ∷ []) (open_at (stage_at (stage.Text Words)) (inside (x ∷ y ∷ ms))) (build b (token.TagEnds true)))
    (sym (state_at st stage.EmptyTagMark q.1 (empty-mark-is st.stage q.0)))
    (told_led r (stage_at stage.EmptyTagMark) (stage_at (stage.Text Words)) n (inside (x ∷ y ∷ ms)) 62 (token.TagEnds true) b (build b (token.TagEnds true))
    mark-ends nests refl refl refl judged
    (ended-same _ b.words b.opened (record b { tag = nothing_gathered }) has)))

hollow-at : (r : Rules) (f : Frame) (byte : ℕ) (b : Building) → hollows_by f byte ≡ true → has_opened b.opened ≡ true → tag_judged b (token.TagEnds true) ≡ None
    → LeadsBy r f b (byte ∷ []) (now_hollow f) (build b (token.TagEnds true))
hollow-at r (open_at st (naming (x ∷ y ∷ ms) m)) byte b h has judged =
    hollow-in r st (naming (x ∷ y ∷ ms) m) x y ms byte b h (naming-hollow r x (y ∷ ms) m) has judged
hollow-at r (open_at st (in_tag (x ∷ y ∷ ms) m i)) byte b h has judged =
    hollow-in r st (in_tag (x ∷ y ∷ ms) m i) x y ms byte b h (tag-hollow r x (y ∷ ms) m i) has judged
hollow-at r (open_at st (naming [] m)) byte b h has judged =
    absurd (let bad : false ≡ true = sym (and_right (is_empty_mark st.stage && is_between_characters st) false refl) ∙ h in cc)
hollow-at r (open_at st (naming (x ∷ []) m)) byte b h has judged =
    absurd (let bad : false ≡ true = sym (and_right (is_empty_mark st.stage && is_between_characters st) false refl) ∙ h in cc)
hollow-at r (open_at st (in_tag [] m i)) byte b h has judged =
    absurd (let bad : false ≡ true = sym (and_right (is_empty_mark st.stage && is_between_characters st) false refl) ∙ h in cc)
hollow-at r (open_at st (in_tag (x ∷ []) m i)) byte b h has judged =
    absurd (let bad : false ≡ true = sym (and_right (is_empty_mark st.stage && is_between_characters st) false refl) ∙ h in cc)
hollow-at r f byte b h has judged = absurd (let bad : false ≡ true = h in cc)

pub hollow_led : (r : Rules) (f g : Frame) (byte : ℕ) (b c : Building) → hollows_by f byte ≡ true → has_opened b.opened ≡ true
    → tag_judged b (token.TagEnds true) ≡ None
    → g ≡ now_hollow f → c ≡ build b (token.TagEnds true) → LeadsBy r f b (byte ∷ []) g c
hollow_led r f g byte b c h has judged is made =
    subst (λ (x : Building). LeadsBy r f b (byte ∷ []) g x) (sym made)
    (subst (λ (x : Frame). LeadsBy r f b (byte ∷ []) x (build b (token.TagEnds true))) (sym is) (hollow-at r f byte b h has judged))

-- An end tag.

end-ends : (h : _) → turn (stage_at (stage.Name EndTag h)) 62 ≡ leads (stage_at (stage.Text Words)) (token.CloseEnds ∷ [])
unfolding turn_ascii ascii_kind ascii in_name
end-ends Prefix = refl
end-ends Local = refl

leaves-turn : (s : Stage) → is_end_stage s ≡ true → turn (stage_at s) 62 ≡ leads (stage_at (stage.Text Words)) (token.CloseEnds ∷ [])
leaves-turn (stage.Name EndTag i) h = end-ends i
leaves-turn s h = absurd (let bad : false ≡ true = h in cc)

closing-leaves : (r : Rules) (ms : List RawName) → nest r (closing ms []) token.CloseEnds ≡ inside ms
unfolding nest
closing-leaves r ms = refl

left-at : (r : Rules) (f : Frame) (byte : ℕ) (b : Building) → leaves_by f byte ≡ true → has_parent b.opened ≡ true
    → LeadsBy r f b (byte ∷ []) (now_left f) (build b token.CloseEnds)
left-at r (open_at st (closing (x ∷ y ∷ ms) [])) byte b h has =
    let p = and_parts (is_end_stage st.stage && is_between_characters st) (nat_lt 1 (length (x ∷ y ∷ ms)) && (byte == 62)) h in
    let q = and_parts (is_end_stage st.stage) (is_between_characters st) p.0 in
    let u = and_parts (nat_lt 1 (length (x ∷ y ∷ ms))) (byte == 62) p.1 in
    subst (λ (i : ℕ). LeadsBy r (open_at st (closing (x ∷ y ∷ ms) [])) b (i ∷ []) (open_at (stage_at (stage.Text Words)) (inside (x ∷ y ∷ ms)))
    (build b token.CloseEnds)) (sym (eqb-true byte 62 u.1))
    (subst (λ (z : State). LeadsBy r (open_at z (closing (x ∷ y ∷ ms) [])) b (62 ∷ []) (open_at (stage_at (stage.Text Words)) (inside (x ∷ y ∷ ms)))
    (build b token.CloseEnds)) (sym (state_at st st.stage q.1 refl))
    (told_led r (stage_at st.stage) (stage_at (stage.Text Words)) (closing (x ∷ y ∷ ms) []) (inside (x ∷ y ∷ ms)) 62 token.CloseEnds b (build b token.CloseEnds)
    (leaves-turn st.stage q.0) (closing-leaves r (x ∷ y ∷ ms)) refl refl refl refl
    (closed-same b.opened (record b { tag = nothing_gathered }) has)))
left-at r (open_at st (closing [] left)) byte b h has =
    absurd (let bad : false ≡ true = sym (and_right (is_end_stage st.stage && is_between_characters st) false refl) ∙ h in cc)
left-at r (open_at st (closing (x ∷ []) left)) byte b h has =
    absurd (let bad : false ≡ true = sym (and_right (is_end_stage st.stage && is_between_characters st) false refl) ∙ h in cc)
left-at r (open_at st (closing (x ∷ y ∷ ms) (c ∷ left))) byte b h has =
    let p = and_parts (is_end_stage st.stage && is_between_characters st) (nat_lt 1 (length (x ∷ y ∷ ms)) && false) h in absurd
    (let bad : false ≡ true = (and_parts (nat_lt 1 (length (x ∷ y ∷ ms))) false p.1).1 in cc)
left-at r f byte b h has = absurd (let bad : false ≡ true = h in cc)

pub left_led : (r : Rules) (f g : Frame) (byte : ℕ) (b c : Building) → leaves_by f byte ≡ true → has_parent b.opened ≡ true → g ≡ now_left f
    → c ≡ build b token.CloseEnds → LeadsBy r f b (byte ∷ []) g c
left_led r f g byte b c h has is made =
    subst (λ (x : Building). LeadsBy r f b (byte ∷ []) g x) (sym made)
    (subst (λ (x : Frame). LeadsBy r f b (byte ∷ []) x (build b token.CloseEnds)) (sym is) (left-at r f byte b h has))

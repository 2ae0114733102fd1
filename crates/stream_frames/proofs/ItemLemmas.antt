-- The `<` of a tag between top elements.
use Rattle.std.proofs.Common.{◌≡◌, ℕ, ◌+◌, [], ◌∷◌, List, refl, sym, ap, ◌∙◌, subst, Bool, true, false, ◌||◌, ◌&&◌, ◌==◌, nat_le}
use Rattle.std.specs.Prelude.{Option, None, Some, if◌then◌else◌}
use Rattle.std.proofs.lemmas.Bool.{and_parts, eqb-true}
use Rattle.stream_lex.specs.declared.Token.{Token}
use Rattle.stream_lex.specs.declared.stages.Context.TheVariants.{Words}
use Rattle.stream_lex.specs.declared.stages.Stage.{Stage}
use Rattle.stream_lex.specs.declared.stages.Stage.TheVariants as stage
use Rattle.stream_lex.specs.declared.stages.State.{State}
use Rattle.stream_grammar.specs.declared.FrameFault.{FrameFault}
use Rattle.stream_grammar.specs.declared.item.Limits.{Limits}
use Rattle.stream_grammar.specs.declared.rules.Rules.{Rules}
use Rattle.stream_grammar.specs.grammar.Bounds.{is_large_item, told_number, rules_of}
use Rattle.stream_grammar.specs.machine.Building.{Building, build_all, told_judged}
use Rattle.stream_grammar.specs.machine.Ends.{told_at, tokens_told, in_item}
use Rattle.stream_grammar.specs.machine.Framing.{Frame, open_at, frame_next, is_broken}
use Rattle.stream_grammar.specs.machine.Framing.{settled as framed}
use Rattle.stream_grammar.specs.machine.Nesting.{inside}
use Rattle.stream_grammar.specs.machine.Reading.{Reading, reads, concluded, is_past, is_done, extent_after, byte_judged, reading_next}
use Rattle.stream_grammar.specs.machine.Telling.{fault_told}
use Rattle.stream_grammar.specs.machine.Texts.{HasTexts}
use Rattle.stream_grammar.proofs.NameTexts.{next_texts}
use Rattle.stream_frames.specs.Fed.{reading_of}
use Rattle.stream_frames.specs.Markup.{begins_item, now_begun}
use Rattle.stream_frames.specs.Runs.{is_between_characters, is_words_stage}
use Rattle.stream_frames.proofs.MarkupLemmas.{stage_at, state_at, words-less}
use Rattle.stream_frames.proofs.RunLemmas.{judged-none, untold}
use Rattle.stream_frames.proofs.WaitLemmas.{none_waits}

-- a byte between top elements that tells nothing
between-next : (l : Limits) (f g : Frame) (b : Building) (byte n k : ℕ) → frame_next (rules_of l) f byte ≡ g → told_at f byte ≡ []
    → is_broken f ≡ false → is_broken g ≡ false → in_item f ≡ false → in_item g ≡ false → b.item ≡ None
    → reading_next l (reads f b n k) byte ≡ reads g b 1 (told_number (k + 1))
between-next l f g b byte n k goes told unbroken still before after none =
    let unpast : is_past l f (frame_next (rules_of l) f byte) n ≡ false =
    ap (λ (x : Frame). (in_item f || in_item x) && nat_le l.bytes n) goes
    ∙ (ap (λ (x : Bool). (x || in_item g) && nat_le l.bytes n) before ∙ ap (λ (x : Bool). (false || x) && nat_le l.bytes n) after) in
    let none_judged : byte_judged l f b n byte ≡ None =
    judged-none (is_past l f (frame_next (rules_of l) f byte) n) (fault_told (rules_of l) f byte) (told_judged b (told_at f byte))
    (is_large_item l (build_all b (told_at f byte)).item) unpast
    (untold (rules_of l) f byte unbroken (ap is_broken goes ∙ still)) (ap (told_judged b) told)
    (ap (λ (x : List Token). is_large_item l (build_all b x).item) told ∙ ap (is_large_item l) none) in
    ap (λ (o : Option FrameFault). concluded o
    (reads (frame_next (rules_of l) f byte) (build_all b (told_at f byte)) (extent_after (frame_next (rules_of l) f byte) n) (told_number (k + 1)))
    (told_number (k + 1))) none_judged
    ∙ (ap (λ (x : Frame). reads x (build_all b (told_at f byte)) (extent_after x n) (told_number (k + 1))) goes
    ∙ (ap (λ (x : List Token). reads g (build_all b x) (extent_after g n) (told_number (k + 1))) told
    ∙ ap (λ (t : Bool). reads g b (if t then n + 1 else 1) (told_number (k + 1))) after))

words-is : (s : Stage) → is_words_stage s ≡ true → s ≡ stage.Text Words
words-is (stage.Text Words) h = refl
words-is s h = absurd (let bad : false ≡ true = h in cc)

pub item_begun : (l : Limits) (f g : Frame) (b : Building) (byte n k : ℕ) → begins_item f byte ≡ true → g ≡ now_begun f → b.item ≡ None
    → reading_next l (reads f b n k) byte ≡ reads g b 1 (told_number (k + 1))
item_begun l (open_at st (inside (m ∷ []))) g b byte n k h is none =
    let p = and_parts (byte == 60) (is_words_stage st.stage && is_between_characters st) h in
    let q = and_parts (is_words_stage st.stage) (is_between_characters st) p.1 in
    subst (λ (x : Frame). reading_next l (reads (open_at st (inside (m ∷ []))) b n k) byte ≡ reads x b 1 (told_number (k + 1))) (sym is)
    (subst (λ (i : ℕ). reading_next l (reads (open_at st (inside (m ∷ []))) b n k) i ≡ reads (open_at (stage_at stage.Less) (inside (m ∷ []))) b 1 (told_number (k + 1)))
    (sym (eqb-true byte 60 p.0))
    (subst (λ (y : State). reading_next l (reads (open_at y (inside (m ∷ []))) b n k) 60
    ≡ reads (open_at (stage_at stage.Less) (inside (m ∷ []))) b 1 (told_number (k + 1))) (sym (state_at st (stage.Text Words) q.1 (words-is st.stage q.0)))
    (between-next l (open_at (stage_at (stage.Text Words)) (inside (m ∷ []))) (open_at (stage_at stage.Less) (inside (m ∷ []))) b 60 n k
    (ap (framed (rules_of l) (inside (m ∷ []))) words-less) (ap tokens_told words-less) refl refl refl refl none)))
item_begun l f g b byte n k h is none = absurd (let bad : false ≡ true = h in cc)

-- and a framer in which nothing waits reads it so
pub begun_reading : (o : Option FrameFault) (l : Limits) (r : Reading) (f g : Frame) (b : Building) (n k byte next : ℕ) → r ≡ reading_of o f b n k
    → is_done r ≡ false → begins_item f byte ≡ true → g ≡ now_begun f → next ≡ told_number (k + 1) → reading_of o g b 1 next ≡ reading_next l r byte
begun_reading (Some x) l r f g b n k byte next is going h to told = absurd (let bad : true ≡ false = ap is_done (sym is) ∙ going in cc)
begun_reading None l r f g b n k byte next is going h to told =
    ap (reads g b 1) told
    ∙ (sym (item_begun l f g b byte n k h to (sym (none_waits (reads f b n k) (ap is_done (sym is) ∙ going))))
    ∙ ap (λ (x : Reading). reading_next l x byte) (sym is))

any-rules : Rules
any-rules = record { depth = 0; attributes = 0; loose = false }

-- what was gathered of names stays UTF-8
pub begun_texts : (f g : Frame) (b : Building) (byte : ℕ) → begins_item f byte ≡ true → g ≡ now_begun f → HasTexts f b.tag → HasTexts g b.tag
begun_texts (open_at st (inside (m ∷ []))) g b byte h is texts =
    let p = and_parts (byte == 60) (is_words_stage st.stage && is_between_characters st) h in
    let q = and_parts (is_words_stage st.stage) (is_between_characters st) p.1 in
    let here : HasTexts (open_at (stage_at (stage.Text Words)) (inside (m ∷ []))) b.tag =
    subst (λ (y : State). HasTexts (open_at y (inside (m ∷ []))) b.tag) (state_at st (stage.Text Words) q.1 (words-is st.stage q.0)) texts in
    subst (λ (x : Frame). HasTexts x b.tag) (sym is)
    (subst (λ (x : Frame). HasTexts x b.tag) (ap (framed any-rules (inside (m ∷ []))) words-less)
    (subst (λ (us : List Token). HasTexts (frame_next any-rules (open_at (stage_at (stage.Text Words)) (inside (m ∷ []))) 60) (build_all b us).tag)
    (ap tokens_told words-less) (next_texts any-rules (open_at (stage_at (stage.Text Words)) (inside (m ∷ []))) 60 b here)))
begun_texts f g b byte h is texts = absurd (let bad : false ≡ true = h in cc)

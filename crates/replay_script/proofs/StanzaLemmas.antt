-- What waits after the bytes of a stanza.
use Rattle.std.proofs.Common.{inl, ◌++◌, ◌≡◌, ℕ, ◌+◌, ◌<◌, ◌≤◌, ◌^◌, ◌-◌, ◌==◌, take, List, [], ◌∷◌, length, Bool}
use Rattle.std.proofs.Common.{true, false, Option, Some, None, arith, refl, sym, ap, ◌∙◌}
use Rattle.std.proofs.lemmas.Bool.{ltb-false, eqb-true}
use Rattle.std.specs.Prelude.{if◌then◌else◌}
use Rattle.std.proofs.lemmas.List.{take_all}
use Rattle.stanza_tree.specs.Spelling.{text}
use Rattle.stanza_tree.specs.declared.node.Element.{Element}
use Rattle.stream_grammar.specs.machine.Building.{Building, build_all, told_judged}
use Rattle.stream_grammar.specs.machine.Framing.{Frame, frame_next}
use Rattle.stream_grammar.specs.machine.Ends.{told_at}
use Rattle.stream_grammar.specs.machine.Telling.{fault_told}
use Rattle.stream_grammar.specs.declared.FrameFault.{FrameFault}
use Rattle.stream_grammar.specs.declared.FrameFault.TheVariants as fault
use Rattle.stream_grammar.specs.declared.item.Item.{Item}
use Rattle.stream_grammar.specs.declared.item.Item.TheVariants as item
use Rattle.stream_grammar.specs.declared.item.Limits.{Limits}
use Rattle.stanza_model.specs.Stanzas.{stanza_of}
use Rattle.stanza_model.specs.declared.stanza.Stanza.{Stanza}
use Rattle.stream_grammar.specs.grammar.Proper.{IsProper}
use Rattle.stream_grammar.proofs.FeedLemmas.{piece_went}
use Rattle.stream_laws.proofs.Handing.{went-more}
use Rattle.stream_laws.proofs.ProperItems.{top_proper}
use Rattle.house_model.specs.Histories.{StanzaFits}
use Rattle.stream_frames.specs.Limits.{limits}
use Rattle.replay_script.specs.Stanzas.{fed, client_header, in_client_stream, begins_with_tag, item_of}
use Rattle.stream_grammar.specs.machine.Reading.{Reading, first_reading, went, taken, reads, stopped, is_ready, handed, reading_next, reading_after}
use Rattle.stream_grammar.specs.machine.Reading.{waiting, concluded, or_else, fault_if, is_past, extent_after, byte_judged}
use Rattle.stream_grammar.specs.grammar.Bounds.{rules_of, is_large, is_large_item, told_number}

pub handed_is_ready : (s : Reading) → is_ready (handed s) ≡ true
handed_is_ready (reads f b n k) = refl
handed_is_ready (stopped f k) = refl

-- no fault at the end of a chain of tests
last-none : (a b c : Option FrameFault) (large : Bool) → or_else a (or_else b (or_else c (fault_if large fault.TooLong))) ≡ None → large ≡ false
last-none (Some f) b c large h = absurd (cc)
last-none None (Some f) c large h = absurd (cc)
last-none None None (Some f) large h = absurd (cc)
last-none None None None true h = absurd (cc)
last-none None None None false h = refl

-- the item that waits where a byte was judged so
top-of : (l : Limits) (judged : Option FrameFault) (f : Frame) (b : Building) (n k m : ℕ) (e : Element)
    → (judged ≡ None → is_large_item l b.item ≡ false) → waiting (concluded judged (reads f b n k) m) ≡ Some (item.Top e) → is_large l e ≡ false
top-of l (Some g) f b n k m e small h = absurd (cc)
top-of l None f b n k m e small h = ap (is_large_item l) (sym h) ∙ small refl

top-next : (l : Limits) (s : Reading) (byte : ℕ) (e : Element) → waiting (reading_next l s byte) ≡ Some (item.Top e) → is_large l e ≡ false
top-next l (stopped f k) byte e h = absurd (cc)
top-next l (reads f b n k) byte e h =
    top-of l (byte_judged l f b n byte) (frame_next (rules_of l) f byte) (build_all b (told_at f byte)) (extent_after (frame_next (rules_of l) f byte) n)
    (told_number (k + 1)) (told_number (k + 1)) e
    (last-none (fault_if (is_past l f (frame_next (rules_of l) f byte) n) fault.TooLong) (fault_told (rules_of l) f byte) (told_judged b (told_at f byte))
    (is_large_item l (build_all b (told_at f byte)).item)) h

top-after : (l : Limits) (s : Reading) (b : ℕ) (bs : List ℕ) (e : Element) → waiting (reading_after l s (b ∷ bs)) ≡ Some (item.Top e) → is_large l e ≡ false
top-after l s b [] e h = top-next l s b e h
top-after l s b (c ∷ bs) e h = top-after l (reading_next l s b) c bs e h

-- a top element that waits is within the limit on its canonical spelling
pub top_fits : (l : Limits) (s : Reading) (bs : List ℕ) (e : Element) → 0 < length bs → l.canonical < 2 ^ 64 - 1
    → waiting (reading_after l s bs) ≡ Some (item.Top e) → length (text e) ≤ l.canonical
top_fits l s [] e some low h = absurd (omega arith)
top_fits l s (b ∷ bs) e some low h =
    let within = ltb-false l.canonical (told_number (length (text e))) (top-after l s b bs e h) in
    omega arith

pub take_whole : (n : ℕ) (xml : List ℕ) → n ≡ length xml → take n xml ≡ xml
take_whole n xml h = take_all n xml (omega (arith, h))

pub element_fits : (xml : List ℕ) (e : Element) → begins_with_tag xml ≡ true → item_of xml ≡ Some (item.Top e) → length (text e) ≤ 196608
element_fits [] e begins h = absurd (cc)
element_fits (b ∷ bs) e begins h =
    top_fits limits in_client_stream (b ∷ bs) e (omega arith) (omega arith)
    (cond_is (taken limits in_client_stream (b ∷ bs) == length (b ∷ bs)) (waiting (reading_after limits in_client_stream (b ∷ bs))) e h)
  where
    cond_is : (c : Bool) (o : Option Item) (e : Element) → (if c then o else None) ≡ Some (item.Top e) → o ≡ Some (item.Top e)
    cond_is true o e h = h
    cond_is false o e h = absurd (cc)

-- What waits in that stream is handed out of the whole stream's bytes.

again : (s : Reading) (b : ℕ) (bs : List ℕ) → went limits (handed s) (b ∷ bs) ≡ went limits s (b ∷ bs)
again (stopped f k) b bs = refl
again (reads f c n k) b bs = refl

client_bytes : List ℕ
client_bytes = take (taken limits first_reading client_header) client_header

in-stream : in_client_stream ≡ handed (went limits first_reading client_bytes)
unfolding client_bytes
in-stream = ap handed (piece_went limits first_reading client_header refl)

whole : (xml : List ℕ) → taken limits in_client_stream xml ≡ length xml → reading_after limits in_client_stream xml ≡ went limits in_client_stream xml
whole xml same =
    let all : take (taken limits in_client_stream xml) xml ≡ xml = take_all (taken limits in_client_stream xml) xml (omega (arith, same)) in
    ap (λ (x : List ℕ). reading_after limits in_client_stream x) (sym all)
    ∙ piece_went limits in_client_stream xml (handed_is_ready (fed first_reading client_header))
    ∙ ap (λ (x : List ℕ). went limits in_client_stream x) all

of-stream : (b : ℕ) (bs : List ℕ) → taken limits in_client_stream (b ∷ bs) ≡ length (b ∷ bs)
    → reading_after limits in_client_stream (b ∷ bs) ≡ went limits first_reading (client_bytes ++ (b ∷ bs))
of-stream b bs same =
    whole (b ∷ bs) same
    ∙ ap (λ (s : Reading). went limits s (b ∷ bs)) in-stream
    ∙ again (went limits first_reading client_bytes) b bs
    ∙ sym (went-more limits first_reading client_bytes (b ∷ bs))

item-whole : (c : Bool) (o : Option Item) (i : Item) → (if c then o else None) ≡ Some i → (c ≡ true) × (o ≡ Some i)
item-whole true o i h = (refl, h)
item-whole false o i h = absurd (cc)

pub element_proper : (xml : List ℕ) (e : Element) → begins_with_tag xml ≡ true → item_of xml ≡ Some (item.Top e) → IsProper e
element_proper [] e begins h = absurd (cc)
element_proper (b ∷ bs) e begins h =
    let parts = item-whole (taken limits in_client_stream (b ∷ bs) == length (b ∷ bs)) (waiting (reading_after limits in_client_stream (b ∷ bs))) (item.Top e) h
    in
    top_proper limits (client_bytes ++ (b ∷ bs)) e
    (ap waiting (sym (of-stream b bs (eqb-true (taken limits in_client_stream (b ∷ bs)) (length (b ∷ bs)) parts.0))) ∙ parts.1)

-- what a proper element is that is not too large
pub stanza_fits : (e : Element) (st : Stanza) → IsProper e → length (text e) ≤ 196608 → stanza_of e ≡ Some st → StanzaFits st
stanza_fits e st proper small read = inl (record { element = e; proper = proper; small = small; read = read })

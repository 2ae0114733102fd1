-- Which texts are stanzas, in the words of the grammar.
use Rattle.std.proofs.Common.{◌≡◌, ℕ, suc, ◌+◌, ◌≤◌, ◌==◌, List, [], ◌∷◌, ◌++◌, length, length-append, arith}
use Rattle.std.proofs.Common.{Bool, true, false, ◌&&◌, Option, Some, None, refl, sym, ap, ◌∙◌}
use Rattle.std.proofs.lemmas.Bool.{leb-true, le-leb, eqb-true, eq-eqb}
use Rattle.std.specs.Prelude.{codes, nat_le, if◌then◌else◌}
use Rattle.stanza_tree.specs.declared.node.Element.{Element}
use Rattle.stream_lex.specs.grammar.Kinds.{ascii_kind}
use Rattle.stream_lex.specs.machine.Machine.{ascii, in_tag, in_name}
use Rattle.stream_lex.specs.machine.Turns.{turn_ascii}
use Rattle.stream_grammar.specs.machine.Nesting.{nest}
use Rattle.stream_grammar.specs.declared.item.Item.{Item}
use Rattle.stream_grammar.specs.declared.item.Item.TheVariants as item
use Rattle.stream_grammar.specs.declared.item.Limits.{Limits}
use Rattle.stream_grammar.specs.machine.Reading.{Reading, first_reading, reading_next, reading_after, handed, is_done, taken, taken_reading, waiting, went}
use Rattle.stream_grammar.proofs.FeedLemmas.{piece_went}
use Rattle.stream_laws.proofs.OneItem.{one_read, one_taken}
use Rattle.stream_frames.specs.Limits.{limits}
use Rattle.replay_script.specs.Stanzas.{client_header, in_client_stream, begins_with_tag, top_in, item_of, element_of, IsStanzaText}
use Rattle.replay_script.proofs.StanzaLemmas.{take_whole}

-- The header is taken whole: no byte before its last ends an item or has a fault.

all-go : Limits → Reading → List ℕ → Bool
all-go l s [] = true
all-go l s (b ∷ bs) = if is_done (reading_next l s b) then false else all-go l (reading_next l s b) bs

last-taken : (front : List ℕ) (l : Limits) (s : Reading) (b : ℕ) → all-go l s front ≡ true → taken_reading l s (front ++ b ∷ []) ≡ suc (length front)
unfolding all-go
last-taken [] l s b h = by (is_done (reading_next l s b))
  where
    by : (d : Bool) → (if d then 1 else 1 + 0) ≡ 1
    by true = refl
    by false = refl
last-taken (c ∷ front) l s b h = by (is_done (reading_next l s c)) h (λ k. last-taken front l (reading_next l s c) b k)
  where
    by : (d : Bool) → (if d then false else all-go l (reading_next l s c) front) ≡ true
        → (all-go l (reading_next l s c) front ≡ true → taken_reading l (reading_next l s c) (front ++ b ∷ []) ≡ suc (length front))
        → (if d then 1 else 1 + taken_reading l (reading_next l s c) (front ++ b ∷ [])) ≡ suc (suc (length front))
    by true k go = absurd (let bad : false ≡ true = k in cc)
    by false k go = let more = go k in omega (arith, more)

header-front : List ℕ
header-front = codes "<stream xmlns='jabber:client'"

header-split : client_header ≡ header-front ++ 62 ∷ []
unfolding client_header header-front
header-split = refl

front-goes : all-go limits first_reading header-front ≡ true
unfolding all-go header-front turn_ascii ascii in_tag in_name ascii_kind nest
front-goes = refl

header-whole : taken limits first_reading client_header ≡ length client_header
header-whole =
    ap (taken limits first_reading) header-split
    ∙ (last-taken header-front limits first_reading 62 front-goes
    ∙ (let long : suc (length header-front) ≡ length (header-front ++ 62 ∷ []) = omega (arith, length-append header-front (62 ∷ [])) in long
    ∙ ap length (sym header-split)))

in-stream : in_client_stream ≡ handed (went limits first_reading client_header)
in-stream =
    ap handed (piece_went limits first_reading client_header refl)
    ∙ ap (λ (x : List ℕ). handed (went limits first_reading x)) (take_whole (taken limits first_reading client_header) client_header header-whole)

-- Tests.

both-true : (a b : Bool) → (a && b) ≡ true → (a ≡ true) × (b ≡ true)
both-true true b h = (refl, h)
both-true false b h = absurd (cc)

chosen : {X : Type 0} (c : Bool) (o : Option X) (x : X) → (if c then o else None) ≡ Some x → (c ≡ true) × (o ≡ Some x)
chosen true o x h = (refl, h)
chosen false o x h = absurd (none-some x h)
  where
    none-some : {X : Type 0} (x : X) → None ≡ Some x → ⊥
    none-some x h = cc

top-item : Option Element → Option Item
top-item None = None
top-item (Some e) = Some (item.Top e)

top-is : (o : Option Item) (e : Element) → top_in o ≡ Some e → o ≡ Some (item.Top e)
unfolding top-item
top-is (Some (item.Top x)) e h = ap top-item h
top-is (Some (item.Header x space)) e h = absurd (cc)
top-is (Some item.CloseTag) e h = absurd (cc)
top-is (Some (item.Broken f k)) e h = absurd (cc)
top-is None e h = absurd (cc)

-- Both ways.

read-one : (xml : List ℕ) (e : Element) → length xml ≤ 65536 → begins_with_tag xml ≡ true → item_of xml ≡ Some (item.Top e) → IsStanzaText xml e
read-one [] e few begins h = absurd (cc)
read-one (b ∷ bs) e few begins h =
    let (same, waits) = chosen (taken limits in_client_stream (b ∷ bs) == length (b ∷ bs)) (waiting (reading_after limits in_client_stream (b ∷ bs)))
    (item.Top e) h in
    let count : taken limits in_client_stream (b ∷ bs) ≡ length (b ∷ bs) = eqb-true (taken limits in_client_stream (b ∷ bs)) (length (b ∷ bs)) same in (
      few,
      begins,
      one_read limits client_header b bs e (ap (λ (s : Reading). taken limits s (b ∷ bs)) (sym in-stream) ∙ count)
          (ap (λ (s : Reading). waiting (reading_after limits s (b ∷ bs))) (sym in-stream) ∙ waits),
    )

pub text_read : (xml : List ℕ) (e : Element) → element_of xml ≡ Some e → IsStanzaText xml e
text_read xml e h =
    let (tests, top) = chosen (nat_le (length xml) 65536 && begins_with_tag xml) (top_in (item_of xml)) e h in
    let (few, begins) = both-true (nat_le (length xml) 65536) (begins_with_tag xml) tests in
    read-one xml e (leb-true (length xml) 65536 few) begins (top-is (item_of xml) e top)

pub text_taken : (xml : List ℕ) (e : Element) → IsStanzaText xml e → element_of xml ≡ Some e
text_taken [] e (few, begins, one) = absurd (let bad : false ≡ true = begins in cc)
text_taken (b ∷ bs) e (few, begins, (next, is)) =
    let (count, waits) = one_taken limits client_header b bs e next is in
    let whole : (taken limits in_client_stream (b ∷ bs) == length (b ∷ bs)) ≡ true =
    eq-eqb (taken limits in_client_stream (b ∷ bs)) (length (b ∷ bs)) (ap (λ (s : Reading). taken limits s (b ∷ bs)) in-stream ∙ count) in
    let there : waiting (reading_after limits in_client_stream (b ∷ bs)) ≡ Some (item.Top e) =
    ap (λ (s : Reading). waiting (reading_after limits s (b ∷ bs))) in-stream ∙ waits in
    ap (λ (c : Bool). if c && begins_with_tag (b ∷ bs) then top_in (item_of (b ∷ bs)) else None) (le-leb (length (b ∷ bs)) 65536 few)
    ∙ (ap (λ (c : Bool). if c then top_in (item_of (b ∷ bs)) else None) begins
    ∙ (ap (λ (c : Bool). top_in (if c then waiting (reading_after limits in_client_stream (b ∷ bs)) else None)) whole ∙ ap top_in there))

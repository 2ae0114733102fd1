-- Each item of the grammar waits after the byte that ends it.
use Rattle.std.proofs.Common.{◌≡◌, ℕ, ◌+◌, List, [], ◌∷◌, ◌++◌, map, length, refl, sym, ap, ◌∙◌, subst, append_assoc, Bool, true, false, ◌==◌}
use Rattle.std.specs.Prelude.{Option, Some, None, if◌then◌else◌}
use Rattle.stream_lex.specs.declared.Token.{Token}
use Rattle.stream_lex.specs.declared.Token.TheVariants as token
use Rattle.stream_lex.specs.machine.Turns.{Outcome}
use Rattle.stream_lex.specs.grammar.Reading.{Reads}
use Rattle.stanza_tree.specs.declared.node.Element.{Element}
use Rattle.stream_grammar.specs.declared.FrameFault.{FrameFault}
use Rattle.stream_grammar.specs.declared.namespaces.Binding.{Binding}
use Rattle.stream_grammar.specs.declared.item.Item.{Item}
use Rattle.stream_grammar.specs.declared.item.Item.TheVariants as item
use Rattle.stream_grammar.specs.declared.item.Limits.{Limits}
use Rattle.stream_grammar.specs.declared.rules.Rules.{Rules}
use Rattle.stream_grammar.specs.grammar.Trees.{RawTag, Content, nothing, Stream, tag_tokens, content_tokens, end_tokens, declaration_tokens, stream_tokens}
use Rattle.stream_grammar.specs.grammar.Streams.{IsShortest, IsStream}
use Rattle.stream_grammar.specs.machine.Nesting.{start}
use Rattle.stream_grammar.specs.machine.Framing.{Frame, frame_next, frame_after, first_frame, is_broken}
use Rattle.stream_grammar.specs.grammar.Items.{head_tokens, ends_so, HasCome}
use Rattle.stream_grammar.specs.machine.Ends.{told_at, tokens_told}
use Rattle.stream_grammar.specs.machine.Gathering.{nothing_gathered}
use Rattle.stream_grammar.specs.grammar.Tags.{whole_tag}
use Rattle.stream_grammar.specs.grammar.Elements.{inside_of, outside_all, header_of, default_of, tops_of, IsNamed}
use Rattle.stream_grammar.specs.machine.Building.{Opened, Building, nothing_built, ended_in, closed_in, build, build_all}
use Rattle.stream_grammar.specs.grammar.Parts.{IsItem}
use Rattle.stream_grammar.specs.machine.Reading.{Reading, reads, stopped, first_reading, reading_next, concluded}
use Rattle.stream_grammar.specs.machine.Reading.{byte_judged, waiting, handed, is_stopped, went, extent_after}
use Rattle.stream_grammar.specs.grammar.Bounds.{rules_of, told_number}
use Rattle.stream_laws.proofs.Ending.{ends_element, last_in, last-nothing, head-last, last-ends, regroup-stream}
use Rattle.stream_laws.proofs.Coming.{told_all}
use Rattle.stream_laws.proofs.Made.{made, last_item, head-made, end-made}
use Rattle.stream_laws.proofs.Handing.{clear, build-more, HasRead, went-read, went-more}
use Rattle.stream_laws.proofs.Judged.{named_at, AreJudged, judged-back}
use Rattle.stream_laws.proofs.NamedJudged.{head-judged, stream-judged}
use Rattle.stream_laws.proofs.LastTold.{ends_tag, LastTold, ends-at}
use Rattle.stream_laws.proofs.StandingWhole.{IsWhole, whole}
use Rattle.stream_laws.proofs.RoundTripStreams.{first_state}

no-more : {X : Type 0} (x : X) (xs : List X) → x ∷ xs ≡ [] → ⊥
no-more x xs e = cc

-- An item that ends a tag, after which no element is open below the stream, is set by it.

if-same : (t : Bool) (a b c d : Building) → (if t then a else b).opened ≡ [] → a.item ≡ c.item → (b.opened ≡ [] → ⊥)
    → (if t then c else d).item ≡ (if t then a else b).item
if-same true a b c d h k n = sym k
if-same false a b c d h k n = absurd (n h)

hollow-same : (e : Element) (ws : List ℕ) (os : List Opened) (b : Building) → (ended_in e ws os b).opened ≡ []
    → (ended_in e ws os (clear b)).item ≡ (ended_in e ws os b).item
hollow-same e ws [] b h = refl
hollow-same e ws (o ∷ os) b h = absurd (no-more _ os h)

close-same : (os : List Opened) (b : Building) → (closed_in os b).opened ≡ [] → (closed_in os (clear b)).item ≡ (closed_in os b).item
close-same [] b h = refl
close-same (o ∷ []) b h = refl
close-same (o ∷ p ∷ os) b h = absurd (no-more _ os h)

item-same : (b : Building) (t : Token) → ends_tag t ≡ true → (build b t).opened ≡ [] → (build (clear b) t).item ≡ (build b t).item
item-same b (token.TagEnds false) h o = if-same (length b.layers == 0) _ _ _ _ o refl (λ k. no-more _ _ k)
item-same b (token.TagEnds true) h o = hollow-same _ b.words b.opened (record b { tag = nothing_gathered }) o
item-same b token.CloseEnds h o = close-same b.opened (record b { tag = nothing_gathered }) o
item-same b t h o = absurd (let bad : false ≡ true = h in cc)

-- What is built of the item's tokens.

abbrev IsBuilt : List Token → Item → Type 0
IsBuilt ts x = ((build_all nothing_built ts).opened ≡ []) × ((build_all nothing_built ts).item ≡ Some x)

abbrev IsLast : Rules → List ℕ → Item → Type 0
IsLast r bytes x = (front : List Token) × (t : Token) × (ends_tag t ≡ true) × Reads bytes (front ++ t ∷ []) × IsShortest bytes (front ++ t ∷ [])
    × IsBuilt (front ++ t ∷ []) x × AreJudged nothing_built (front ++ t ∷ [])

head-built : (d : Bool) (root : RawTag) (f : Content) (x : Item) → last_item (tops_of root f) (Some (item.Header (header_of root) (default_of root))) ≡ Some x
    → IsBuilt (head_tokens d root f) x
head-built d root f x h = let (g, ws, is) = head-made d root f in (ap (λ (b : Building). b.opened) is, ap (λ (b : Building). b.item) is ∙ h)

stream-built : (s : Stream) → IsBuilt (stream_tokens s) item.CloseTag
stream-built s =
    let head : List Token = head_tokens s.declared s.root s.content in
    let (g, ws, is) = head-made s.declared s.root s.content in
    let (g1, more) = end-made (build_all nothing_built head) s.root.name in
    let layers : List (List Binding) = inside_of outside_all (whole_tag s.root) in
    let all : build_all nothing_built (stream_tokens s)
    ≡ build (made g1 layers [] ws (last_item (tops_of s.root s.content) (Some (item.Header (header_of s.root) (default_of s.root))))) token.CloseEnds =
    ap (build_all nothing_built) (regroup-stream (declaration_tokens s.declared) (tag_tokens s.root false) (content_tokens s.content) (end_tokens s.root.name))
    ∙ (build-more nothing_built head (end_tokens s.root.name) ∙ (more ∙ ap (λ (b : Building). build (record b { tag = g1 }) token.CloseEnds) is)) in
    (ap (λ (b : Building). b.opened) all, ap (λ (b : Building). b.item) all)

-- the last token of a list
snoc : (x : Token) (xs : List Token) → (front : List Token) × (t : Token) × (x ∷ xs ≡ front ++ t ∷ [])
snoc x [] = ([], x, refl)
snoc x (y ∷ xs) = let (front, t, e) = snoc y xs in (x ∷ front, t, ap (λ (l : List Token). x ∷ l) e)

pub head-snoc : (d : Bool) (root : RawTag) (f : Content) → (front : List Token) × (t : Token) × (head_tokens d root f ≡ front ++ t ∷ [])
head-snoc true root f = snoc token.Declaration _
head-snoc false root f = snoc (token.TagOpens root.name.0) _

pub element-tag : (t : Token) → ends_element t ≡ true → ends_tag t ≡ true
element-tag token.CloseEnds h = refl
element-tag (token.TagEnds e) h = refl
element-tag t h = h

last-of : (r : Rules) (bytes : List ℕ) (x : Item) (ts front : List Token) (t : Token) → ts ≡ front ++ t ∷ [] → ends_tag t ≡ true → Reads bytes ts
    → IsShortest bytes ts → IsBuilt ts x → AreJudged nothing_built ts → IsLast r bytes x
last-of r bytes x ts front t e h told short built judged = (
  front,
  t,
  h,
  subst (Reads bytes) e told,
  subst (IsShortest bytes) e short,
  subst (λ (l : List Token). IsBuilt l x) e built,
  subst (AreJudged nothing_built)
      e judged,
)

header-last : (r : Rules) (bytes : List ℕ) (root : RawTag) → HasCome r bytes root nothing → IsNamed root nothing
    → IsLast r bytes (item.Header (header_of root) (default_of root))
header-last r bytes root (d, told, short, keeps) named =
    let (front, t, e) = head-snoc d root nothing in
    let is : token.TagEnds false ≡ t = sym (last-nothing (token.TagEnds false)) ∙ head-last d root nothing front t e in
    last-of r bytes _ (head_tokens d root nothing) front t e (ap ends_tag (sym is)) told short (head-built d root nothing _ refl)
    (head-judged d root nothing named)

last-top : (es : List Element) (e : Element) (i : Option Item) → last_item (es ++ e ∷ []) i ≡ Some (item.Top e)
last-top [] e i = refl
last-top (x ∷ es) e i = last-top es e (Some (item.Top x))

top-last : (r : Rules) (bytes : List ℕ) (root : RawTag) (f : Content) (e : Element) (es : List Element) → HasCome r bytes root f → IsNamed root f
    → ends_so false f ≡ true → tops_of root f ≡ es ++ e ∷ [] → IsLast r bytes (item.Top e)
top-last r bytes root f e es (d, told, short, keeps) named h is =
    let (front, t, g) = head-snoc d root f in
    let last : last_in f (token.TagEnds false) ≡ t = head-last d root f front t g in
    last-of r bytes _ (head_tokens d root f) front t g (element-tag t (ap ends_element (sym last) ∙ (last-ends f (token.TagEnds false) ∙ h))) told short
    (head-built d root f _ (ap (λ (l : List Element). last_item l (Some (item.Header (header_of root) (default_of root)))) is ∙ last-top es e _))
    (head-judged d root f named)

regroup-last : (d t f n : List Token) (o c : Token) → d ++ (t ++ (f ++ (o ∷ (n ++ c ∷ [])))) ≡ (d ++ (t ++ (f ++ (o ∷ n)))) ++ c ∷ []
regroup-last d t f n o c = simp append_assoc

close-last : (r : Rules) (bytes : List ℕ) (s : Stream) → IsStream r bytes s → IsNamed s.root s.content → IsLast r bytes item.CloseTag
close-last r bytes s (told, short, keeps) named =
    last-of r bytes _ (stream_tokens s) _ token.CloseEnds
    (regroup-last (declaration_tokens s.declared) (tag_tokens s.root false) (content_tokens s.content) (map token.NameByte s.root.name.1)
    (token.CloseOpens s.root.name.0) token.CloseEnds) refl told short (stream-built s) (stream-judged s named)

item-last : (r : Rules) (bytes : List ℕ) (x : Item) → IsItem r bytes x → IsLast r bytes x
item-last r bytes (item.Header e space) (root, come, named, is, default) =
    subst (IsLast r bytes) (ap (λ (y : Element). item.Header y (default_of root)) (sym is) ∙ ap (λ (y : List ℕ). item.Header e y) (sym default))
    (header-last r bytes root come named)
item-last r bytes (item.Top e) (root, f, come, named, end, (es, is)) = top-last r bytes root f e es come named end is
item-last r bytes item.CloseTag (s, is, named) = close-last r bytes s is named
item-last r bytes (item.Broken f k) h = absurd h

-- By the reading.

set-by : (r : Rules) (bytes : List ℕ) (byte : ℕ) (front : List Token) (t : Token) (b : Building) (x : Item)
    → clear b ≡ clear (build_all nothing_built (told_all r first_frame bytes)) → ends_tag t ≡ true → IsBuilt (front ++ t ∷ []) x
    → LastTold r first_state start bytes byte front t → (build_all (clear b) (told_at (frame_after r first_frame bytes) byte)).item ≡ Some x
set-by r bytes byte front t b x c h (open_none, set) (to, m, s, f, g, told) =
    let all : Building = build_all nothing_built front in
    let same : clear b ≡ clear all = c ∙ ap (λ (l : List Token). clear (build_all nothing_built l)) told in
    let step : build_all nothing_built (front ++ t ∷ []) ≡ build all t = build-more nothing_built front (t ∷ []) in
    ap (λ (y : Frame). (build_all (clear b) (told_at y byte)).item) f
    ∙ (ap (λ (o : Outcome). (build_all (clear b) (tokens_told o)).item) g
    ∙ (ap (λ (y : Building). (build y t).item) same
    ∙ (item-same all t h (ap (λ (y : Building). y.opened) (sym step) ∙ open_none) ∙ (ap (λ (y : Building). y.item) (sym step) ∙ set))))

-- the last byte of an item of the grammar ends a tag that has no fault by its names, or an end tag
pub item-named : (r : Rules) (bytes : List ℕ) (byte : ℕ) (x : Item) → is_broken (frame_after r first_frame (bytes ++ byte ∷ [])) ≡ false
    → IsItem r (bytes ++ byte ∷ []) x
    → (t : Token) × (told_at (frame_after r first_frame bytes) byte ≡ t ∷ []) × (named_at (build_all nothing_built (told_all r first_frame bytes)) t ≡ None)
item-named r bytes byte x w i =
    let (front, t, h, told, short, built, judged) = item-last r (bytes ++ byte ∷ []) x i in
    let (to, m, s, f, g, same) = ends-at r bytes byte front t h told short w in (
      t,
      ap (λ (y : Frame). told_at y byte) f ∙ ap tokens_told g,
      ap (λ (l : List Token). named_at (build_all nothing_built l) t) same
          ∙ (judged-back front (t ∷ []) nothing_built judged).0,
    )

-- the item of the grammar that ends with the byte
pub item-set-by : (r : Rules) (bytes : List ℕ) (byte : ℕ) (b : Building) (x : Item) → clear b ≡ clear (build_all nothing_built (told_all r first_frame bytes))
    → is_broken (frame_after r first_frame (bytes ++ byte ∷ [])) ≡ false → IsItem r (bytes ++ byte ∷ []) x
    → (build_all (clear b) (told_at (frame_after r first_frame bytes) byte)).item ≡ Some x
item-set-by r bytes byte b x c w i =
    let (front, t, h, told, short, built, judged) = item-last r (bytes ++ byte ∷ []) x i in
    set-by r bytes byte front t b x c h built (ends-at r bytes byte front t h told short w)

still-open : (r : Rules) (bytes : List ℕ) (byte : ℕ) (s : Reading) → HasRead r first_frame nothing_built (bytes ++ byte ∷ []) s
    → IsWhole s (length (bytes ++ byte ∷ [])) → is_stopped s ≡ false → is_broken (frame_after r first_frame (bytes ++ byte ∷ [])) ≡ false
still-open r bytes byte (stopped f k) h w o = absurd (let bad : true ≡ false = o in cc)
still-open r bytes byte (reads f b n k) (p, q) (w, e) o = ap is_broken (sym p) ∙ w

reading-gives : (l : Limits) (bytes : List ℕ) (byte : ℕ) (s : Reading) (x : Item) → HasRead (rules_of l) first_frame nothing_built bytes s
    → is_stopped (reading_next l (handed s) byte) ≡ false
    → is_broken (frame_after (rules_of l) first_frame (bytes ++ byte ∷ [])) ≡ false → IsItem (rules_of l) (bytes ++ byte ∷ []) x
    → waiting (reading_next l (handed s) byte) ≡ Some x
reading-gives l bytes byte (stopped f k) x h w o i = absurd (let bad : true ≡ false = w in cc)
reading-gives l bytes byte (reads f b n k) x (p, q) w o i = by (byte_judged l f (clear b) n byte) w
  where
    by : (o : Option FrameFault)
        → is_stopped (concluded o
        (reads (frame_next (rules_of l) f byte) (build_all (clear b) (told_at f byte)) (extent_after (frame_next (rules_of l) f byte) n)
        (told_number (k + 1))) (told_number (k + 1))) ≡ false
        → waiting (concluded o (reads (frame_next (rules_of l) f byte) (build_all (clear b) (told_at f byte)) (extent_after (frame_next (rules_of l) f byte) n)
        (told_number (k + 1))) (told_number (k + 1))) ≡ Some x
    by None w = ap (λ (y : Frame). (build_all (clear b) (told_at y byte)).item) p ∙ item-set-by (rules_of l) bytes byte b x q o i
    by (Some y) w = absurd (let bad : true ≡ false = w in cc)

pub item_given : (l : Limits) (bytes : List ℕ) (byte : ℕ) (x : Item) → is_stopped (went l first_reading (bytes ++ byte ∷ [])) ≡ false
    → IsItem (rules_of l) (bytes ++ byte ∷ []) x → waiting (went l first_reading (bytes ++ byte ∷ [])) ≡ Some x
item_given l bytes byte x w i =
    let all : List ℕ = bytes ++ byte ∷ [] in
    let open_so : is_broken (frame_after (rules_of l) first_frame all) ≡ false =
    still-open (rules_of l) bytes byte (went l first_reading all) (went-read all l first_frame nothing_built 0 0) (whole l all) w in
    let same : went l first_reading all ≡ reading_next l (handed (went l first_reading bytes)) byte = went-more l first_reading bytes (byte ∷ []) in
    ap waiting same ∙ reading-gives l bytes byte (went l first_reading bytes) x (went-read bytes l first_frame nothing_built 0 0) (ap is_stopped (sym same)
    ∙ w) open_so i

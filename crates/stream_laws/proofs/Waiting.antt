-- The item that waits after a byte, by the token that the byte told.
use Rattle.std.proofs.Common.{◌≡◌, ℕ, zero, suc, inl, inr, append_assoc, append-nil, List, [], ◌∷◌, ◌++◌, ◌+◌}
use Rattle.std.proofs.Common.{length, refl, sym, ap, ◌∙◌, subst, Bool, true, false, cond, ◌==◌}
use Rattle.std.specs.Prelude.{Option, Some, None, if◌then◌else◌}
use Rattle.stream_lex.specs.declared.Token.{Token}
use Rattle.stream_lex.specs.declared.Token.TheVariants as token
use Rattle.stream_lex.specs.declared.stages.State.{State}
use Rattle.stream_lex.specs.machine.Turns.{Outcome, leads, fails, turn}
use Rattle.stanza_tree.specs.declared.node.Element.{Element}
use Rattle.stream_grammar.specs.declared.namespaces.Binding.{Binding}
use Rattle.stream_grammar.specs.declared.item.Item.{Item}
use Rattle.stream_grammar.specs.declared.item.Item.TheVariants as item
use Rattle.stream_grammar.specs.declared.rules.Rules.{Rules}
use Rattle.stream_grammar.specs.grammar.Trees.{RawTag, Content, nothing, word, element, hollow, tag_tokens}
use Rattle.stream_grammar.specs.grammar.Trees.{content_tokens, end_tokens, declaration_tokens, stream_tokens}
use Rattle.stream_grammar.specs.machine.Nesting.{Nest, nest, nest_all, start, declared, inside, naming, in_tag, naming_attribute, in_value, closing, lost}
use Rattle.stream_grammar.specs.machine.Framing.{Frame, open_at, ended, broken, placed, settled, frame_next, frame_after, first_frame, is_broken, has_ended}
use Rattle.stream_grammar.specs.machine.Ends.{is_between_tops, told_at, tokens_told}
use Rattle.stream_grammar.specs.grammar.Items.{head_tokens, ends_so, HasCome}
use Rattle.stream_grammar.specs.machine.Gathering.{nothing_gathered}
use Rattle.stream_grammar.specs.grammar.Tags.{whole_tag}
use Rattle.stream_grammar.specs.grammar.Elements.{inside_of, element_with, elements_on, outside_all, header_of, default_of, IsNamed}
use Rattle.stream_grammar.specs.machine.Building.{Opened, Building, nothing_built, ended_in, closed_in, worded_in, build, build_all}
use Rattle.stream_grammar.specs.declared.FrameFault.{FrameFault}
use Rattle.stream_grammar.specs.declared.item.Limits.{Limits}
use Rattle.stream_grammar.specs.grammar.Parts.{IsItem}
use Rattle.stream_grammar.specs.machine.Telling.{are_words, fault_told}
use Rattle.stream_grammar.specs.machine.Reading.{Reading, reads, stopped, first_reading, reading_next, concluded, byte_judged}
use Rattle.stream_grammar.specs.machine.Reading.{or_else, waiting, handed, is_stopped, went, extent_after}
use Rattle.stream_grammar.specs.grammar.Bounds.{rules_of, told_number}
use Rattle.stream_grammar.proofs.Few.{turn-few}
use Rattle.stream_grammar.proofs.Whole.{first-sound}
use Rattle.stream_laws.proofs.Ending.{ends_element, head-ends, head-empty, regroup-stream}
use Rattle.stream_laws.proofs.Coming.{told_all, came, Come, told-come, EndCome, end-come, tag-words, close-words}
use Rattle.stream_laws.proofs.Judged.{AreJudged, judged-front, reading-judged, head-named}
use Rattle.stream_laws.proofs.LastTold.{Placed, placed-cases}
use Rattle.stream_laws.proofs.Made.{last_item, head-made}
use Rattle.stream_laws.proofs.Levels.{Levels, IsLevel, level-from}
use Rattle.stream_laws.proofs.Handing.{clear, build-more, HasRead, went-read, went-more, header-frame, hollow-frame, close-frame, end-frame}
use Rattle.stream_grammar.proofs.Twins.{words}

none-some : {X : Type 0} (x : X) → None ≡ Some x → ⊥
none-some x e = cc

some-same : {X : Type 0} (x y : X) → Some x ≡ Some y → x ≡ y
some-same x y e = cc

-- an item that a token sets is set whatever waited
if-item : (t : Bool) (a b c d : Building) (x : Item) → a.item ≡ c.item → b.item ≡ None → (if t then a else b).item ≡ Some x → (if t then c else d).item ≡ Some x
if-item true a b c d x h k e = sym h ∙ e
if-item false a b c d x h k e = absurd (none-some x (sym k ∙ e))

hollow-item : (e : Element) (ws : List ℕ) (os : List Opened) (b : Building) (x : Item) → (ended_in e ws os (clear b)).item ≡ Some x
    → (ended_in e ws os b).item ≡ Some x
hollow-item e ws [] b x h = h
hollow-item e ws (o ∷ os) b x h = absurd (none-some x h)

close-item : (os : List Opened) (b : Building) (x : Item) → (closed_in os (clear b)).item ≡ Some x → (closed_in os b).item ≡ Some x
close-item [] b x h = h
close-item (o ∷ []) b x h = h
close-item (o ∷ p ∷ os) b x h = absurd (none-some x h)

word-item : (os : List Opened) (c : ℕ) (b : Building) (x : Item) → (worded_in os c (clear b)).item ≡ Some x → (worded_in os c b).item ≡ Some x
word-item [] c b x h = absurd (none-some x h)
word-item (o ∷ os) c b x h = absurd (none-some x h)

item-set : (b : Building) (t : Token) (x : Item) → (build (clear b) t).item ≡ Some x → (build b t).item ≡ Some x
item-set b (token.TagEnds false) x h = if-item (length b.layers == 0) _ _ _ _ x refl refl h
item-set b (token.TagEnds true) x h = hollow-item _ b.words b.opened (record b { tag = nothing_gathered }) x h
item-set b token.CloseEnds x h = close-item b.opened (record b { tag = nothing_gathered }) x h
item-set b (token.Word c) x h = word-item b.opened c b x h
item-set b t x h = absurd (none-some x h)

-- the last of the elements
last-some : (e : Element) (es : List Element) (i : Option Item)
    → (fs : List Element) × (f : Element) × (e ∷ es ≡ fs ++ f ∷ []) × (last_item (e ∷ es) i ≡ Some (item.Top f))
last-some e [] i = ([], e, refl, refl)
last-some e (f ∷ es) i = let (fs, g, h, k) = last-some f es (Some (item.Top e)) in (e ∷ fs, g, ap (λ (l : List Element). e ∷ l) h, k)

elements-some : (f : Content) (layers : List (List Binding)) → ends_so false f ≡ true → (e : Element) × (es : List Element) × (elements_on layers f ≡ e ∷ es)
elements-some nothing layers h = absurd (let bad : false ≡ true = h in cc)
elements-some (word c f) layers h = elements-some f layers h
elements-some (element t g f) layers h = (_, _, refl)
elements-some (hollow t f) layers h = (_, _, refl)

-- what is built of the tokens of the head is what waits
head-item : (r : Rules) (bytes : List ℕ) (t : Token) (b : Building) (x : Item) (d : Bool) (root : RawTag) (f : Content)
    → clear b ≡ clear (build_all nothing_built (told_all r first_frame bytes)) → (build (clear b) t).item ≡ Some x
    → head_tokens d root f ≡ told_all r first_frame bytes ++ t ∷ []
    → last_item (elements_on (inside_of outside_all (whole_tag root)) f) (Some (item.Header (header_of root) (default_of root))) ≡ Some x
head-item r bytes t b x d root f c e h =
    let (g, ws, is) = head-made d root f in
    let all : Building = build_all nothing_built (told_all r first_frame bytes) in
    sym (ap (λ (y : Building). y.item) is)
    ∙ (ap (λ (ts : List Token). (build_all nothing_built ts).item) h
    ∙ (ap (λ (y : Building). y.item) (build-more nothing_built (told_all r first_frame bytes) (t ∷ []))
    ∙ item-set all t x (ap (λ (y : Building). (build y t).item) (sym c) ∙ e)))

header-waits : (r : Rules) (bytes : List ℕ) (byte : ℕ) (b : Building) (x : Item) → clear b ≡ clear (build_all nothing_built (told_all r first_frame bytes))
    → (build (clear b) (token.TagEnds false)).item ≡ Some x → Come r bytes byte (token.TagEnds false)
    → AreJudged nothing_built (told_all r first_frame bytes ++ token.TagEnds false ∷ []) → IsItem r (bytes ++ byte ∷ []) x
header-waits r bytes byte b x c e (d, root, f, h, told, short, keeps) j =
    let none : f ≡ nothing = head-empty d root f (told_all r first_frame bytes) h in
    let last = head-item r bytes (token.TagEnds false) b x d root f c e h in
    let is : item.Header (header_of root) (default_of root) ≡ x =
    some-same _ x (ap (λ (g : Content). last_item (elements_on (inside_of outside_all (whole_tag root)) g)
    (Some (item.Header (header_of root) (default_of root)))) (sym none) ∙ last) in
    let come : HasCome r (bytes ++ byte ∷ []) root nothing = subst (HasCome r (bytes ++ byte ∷ []) root) none (d, told, short, keeps) in
    let named : IsNamed root nothing = subst (IsNamed root) none (head-named d root f (subst (AreJudged nothing_built) (sym h) j)) in
    subst (IsItem r (bytes ++ byte ∷ [])) is (root, come, named, refl, refl)

top-waits : (r : Rules) (bytes : List ℕ) (byte : ℕ) (t : Token) (b : Building) (x : Item)
    → clear b ≡ clear (build_all nothing_built (told_all r first_frame bytes)) → (build (clear b) t).item ≡ Some x → ends_element t ≡ true
    → Come r bytes byte t → AreJudged nothing_built (told_all r first_frame bytes ++ t ∷ []) → IsItem r (bytes ++ byte ∷ []) x
top-waits r bytes byte t b x c e ends (d, root, f, h, told, short, keeps) j =
    let layers : List (List Binding) = inside_of outside_all (whole_tag root) in
    let end : ends_so false f ≡ true = head-ends d root f (told_all r first_frame bytes) t h ends in
    let (e1, es, some) = elements-some f layers end in
    let (fs, g, split, last) = last-some e1 es (Some (item.Header (header_of root) (default_of root))) in
    let is : item.Top g ≡ x =
    some-same _ x (sym last ∙ (ap (λ (l : List Element). last_item l (Some (item.Header (header_of root) (default_of root)))) (sym some)
    ∙ head-item r bytes t b x d root f c e h)) in
    let named : IsNamed root f = head-named d root f (subst (AreJudged nothing_built) (sym h) j) in
    subst (IsItem r (bytes ++ byte ∷ [])) is (root, f, (d, told, short, keeps), named, end, (fs, some ∙ split))

-- the end tag of the stream
placed-ended : (r : Rules) (to : State) (k : Nest) → has_ended (placed r to k) ≡ true → k ≡ inside []
placed-ended r to k h = by (placed-cases r to k)
  where
    no-end : (f : Frame) → placed r to k ≡ f → has_ended f ≡ false → ⊥
    no-end f e g = let bad : false ≡ true = sym g ∙ (ap has_ended (sym e) ∙ h) in cc

    by : Placed r to k → k ≡ inside []
    by (inl o) = absurd (no-end (open_at to k) o refl)
    by (inr (inl (o, is))) = is
    by (inr (inr o)) = absurd (no-end broken o refl)

end-waits : (r : Rules) (bytes : List ℕ) (byte : ℕ) → EndCome r bytes byte → AreJudged nothing_built (told_all r first_frame bytes ++ token.CloseEnds ∷ [])
    → IsItem r (bytes ++ byte ∷ []) item.CloseTag
end-waits r bytes byte (s, h, is) j =
    let whole : AreJudged nothing_built (stream_tokens s) = subst (AreJudged nothing_built) (sym h) j in
    let head : List Token = head_tokens s.declared s.root s.content in
    let split : stream_tokens s ≡ head ++ end_tokens s.root.name =
    regroup-stream (declaration_tokens s.declared) (tag_tokens s.root false) (content_tokens s.content) (end_tokens s.root.name) in
    (s, is, head-named s.declared s.root s.content (judged-front head (end_tokens s.root.name) nothing_built (subst (AreJudged nothing_built) split whole)))

-- By the token.

abbrev pub Told : Rules → List ℕ → ℕ → State → State → Nest → Token → Type 0
Told r bytes byte st to n t = (frame_after r first_frame bytes ≡ open_at st n) × (turn st byte ≡ leads to (t ∷ []))

come-by : (r : Rules) (bytes : List ℕ) (byte : ℕ) (st to : State) (n : Nest) (t : Token) → Told r bytes byte st to n t
    → (turn st byte ≡ leads to (t ∷ []) → to ≡ words) → is_between_tops (placed r to (nest r n t)) ≡ true → Come r bytes byte t
come-by r bytes byte st to n t (e, f) w h = told-come r bytes byte st to n (t ∷ []) t e f refl w h

if-header : (t : Bool) (a b : Building) (x : Item) → b.item ≡ None → (if t then a else b).item ≡ Some x → t ≡ true
if-header true a b x h e = refl
if-header false a b x h e = absurd (none-some x (sym h ∙ e))

abbrev pub Waits : Rules → List ℕ → ℕ → State → State → Nest → Token → Type 0
Waits r bytes byte st to n t = (b : Building) (x : Item) → Told r bytes byte st to n t → is_broken (placed r to (nest r n t)) ≡ false → Levels n b
    → clear b ≡ clear (build_all nothing_built (told_all r first_frame bytes)) → (build (clear b) t).item ≡ Some x
    → AreJudged nothing_built (told_all r first_frame bytes ++ t ∷ []) → IsItem r (bytes ++ byte ∷ []) x

hollow-waits : (r : Rules) (bytes : List ℕ) (byte : ℕ) (st to : State) (n : Nest) (b : Building) (x : Item) (os : List Opened) → b.opened ≡ os
    → Told r bytes byte st to n (token.TagEnds true) → is_broken (placed r to (nest r n (token.TagEnds true))) ≡ false → Levels n b
    → clear b ≡ clear (build_all nothing_built (told_all r first_frame bytes)) → (build (clear b) (token.TagEnds true)).item ≡ Some x
    → AreJudged nothing_built (told_all r first_frame bytes ++ token.TagEnds true ∷ []) → IsItem r (bytes ++ byte ∷ []) x
hollow-waits r bytes byte st to n b x [] o told whole levels c e j =
    top-waits r bytes byte (token.TagEnds true) b x c e refl
    (come-by r bytes byte st to n (token.TagEnds true) told (tag-words st to byte true) (hollow-frame r to n b levels o whole)) j
hollow-waits r bytes byte st to n b x (y ∷ ys) o told whole levels c e j =
    absurd (none-some x (ap (λ (os : List Opened).
    (ended_in (element_with (inside_of b.layers b.tag) b.tag []) b.words os (record (clear b) { tag = nothing_gathered })).item) (sym o) ∙ e))

close-waits : (r : Rules) (bytes : List ℕ) (byte : ℕ) (st to : State) (n : Nest) (b : Building) (x : Item) (os : List Opened) → b.opened ≡ os
    → Told r bytes byte st to n token.CloseEnds → is_broken (placed r to (nest r n token.CloseEnds)) ≡ false → Levels n b
    → clear b ≡ clear (build_all nothing_built (told_all r first_frame bytes)) → (build (clear b) token.CloseEnds).item ≡ Some x
    → AreJudged nothing_built (told_all r first_frame bytes ++ token.CloseEnds ∷ []) → IsItem r (bytes ++ byte ∷ []) x
close-waits r bytes byte st to n b x [] o told whole levels c e j =
    let is : item.CloseTag ≡ x = some-same _ x (ap (λ (os : List Opened). (closed_in os (record (clear b) { tag = nothing_gathered })).item) (sym o) ∙ e) in
    let (at_it, told_so) = told in
    let end : nest r n token.CloseEnds ≡ inside [] = placed-ended r to (nest r n token.CloseEnds) (end-frame r to n b levels o whole) in
    subst (IsItem r (bytes ++ byte ∷ [])) is (end-waits r bytes byte (end-come r bytes byte st to n at_it told_so (close-words st to byte told_so) end) j)
close-waits r bytes byte st to n b x (y ∷ []) o told whole levels c e j =
    top-waits r bytes byte token.CloseEnds b x c e refl
    (come-by r bytes byte st to n token.CloseEnds told (close-words st to byte) (close-frame r to n b y levels o whole)) j
close-waits r bytes byte st to n b x (y ∷ z ∷ ys) o told whole levels c e j =
    absurd (none-some x (ap (λ (os : List Opened). (closed_in os (record (clear b) { tag = nothing_gathered })).item) (sym o) ∙ e))

word-none : (os : List Opened) (c : ℕ) (b : Building) → (worded_in os c (clear b)).item ≡ None
word-none [] c b = refl
word-none (o ∷ os) c b = refl

pub waits-one : (r : Rules) (bytes : List ℕ) (byte : ℕ) (st to : State) (n : Nest) (t : Token) → Waits r bytes byte st to n t
waits-one r bytes byte st to n (token.TagEnds false) b x told whole levels c e j =
    header-waits r bytes byte b x c e
    (come-by r bytes byte st to n (token.TagEnds false) told (tag-words st to byte false)
    (header-frame r to n b levels (if-header (length b.layers == 0) _ _ x refl e) whole)) j
waits-one r bytes byte st to n (token.TagEnds true) b x told whole levels c e j = hollow-waits r bytes byte st to n b x b.opened refl told whole levels c e j
waits-one r bytes byte st to n token.CloseEnds b x told whole levels c e j = close-waits r bytes byte st to n b x b.opened refl told whole levels c e j
waits-one r bytes byte st to n (token.Word w) b x told whole levels c e j = absurd (none-some x (sym (word-none b.opened w b) ∙ e))
waits-one r bytes byte st to n t b x told whole levels c e j = absurd (none-some x e)

-- By the reading.

words-none : (ts : List Token) (b : Building) → b.item ≡ None → are_words ts ≡ true → (build_all b ts).item ≡ None
words-none [] b h e = h
words-none (token.Word w ∷ ts) b h e = words-none ts (build b (token.Word w)) (one b.opened) e
  where
    one : (os : List Opened) → (worded_in os w b).item ≡ None
    one [] = h
    one (o ∷ os) = h
words-none (t ∷ ts) b h e = absurd (let bad : false ≡ true = e in cc)

or-none : {X : Type 0} (a b : Option X) → or_else a b ≡ None → (a ≡ None) × (b ≡ None)
or-none {X = X} None b e = (refl, e)
or-none {X = X} (Some y) b e = absurd (none-some y (sym e))

cond-none : {X : Type 0} (t : Bool) (x : X) → cond t (Some x) None ≡ None → t ≡ false
cond-none true x e = absurd (none-some x (sym e))
cond-none false x e = refl

not-fault : (r : Rules) (st : State) (n : Nest) (byte : ℕ) → fault_told r (open_at st n) byte ≡ None → is_broken (frame_next r (open_at st n) byte) ≡ false
not-fault r st n byte e = cond-none (is_broken (frame_next r (open_at st n) byte)) _ e

tokens-wait : (r : Rules) (bytes : List ℕ) (byte : ℕ) (st to : State) (n : Nest) (us : List Token) (b : Building) (x : Item)
    → frame_after r first_frame bytes ≡ open_at st n → turn st byte ≡ leads to us → is_broken (placed r to (nest_all r n us)) ≡ false
    → Levels n b → clear b ≡ clear (build_all nothing_built (told_all r first_frame bytes)) → (build_all (clear b) us).item ≡ Some x
    → AreJudged nothing_built (told_all r first_frame bytes ++ us) → IsItem r (bytes ++ byte ∷ []) x
tokens-wait r bytes byte st to n [] b x e f whole levels c h j = absurd (none-some x h)
tokens-wait r bytes byte st to n (t ∷ []) b x e f whole levels c h j = waits-one r bytes byte st to n t b x (e, f) whole levels c h j
tokens-wait r bytes byte st to n (t ∷ u ∷ us) b x e f whole levels c h j =
    absurd (none-some x (sym (words-none (t ∷ u ∷ us) (clear b) refl (turn-few st to byte (t ∷ u ∷ us) f)) ∙ h))

level-clear : (k : ℕ) (b : Building) → IsLevel b k → IsLevel (clear b) k
level-clear zero b h = h
level-clear (suc k) b h = h

levels-clear : (n : Nest) (b : Building) → Levels n b → Levels n (clear b)
levels-clear start b h = level-clear 0 b h
levels-clear declared b h = level-clear 0 b h
levels-clear (inside []) b h = tt
levels-clear (inside (m ∷ st)) b h = h
levels-clear (naming st m) b h = level-clear (length st) b h
levels-clear (in_tag st m k) b h = level-clear (length st) b h
levels-clear (naming_attribute st m k) b h = level-clear (length st) b h
levels-clear (in_value st m k) b h = level-clear (length st) b h
levels-clear (closing st m) b h = h
levels-clear lost b h = tt

pub byte-waits : (l : Limits) (bytes : List ℕ) (byte : ℕ) (f : Frame) (b : Building) (x : Item) → f ≡ frame_after (rules_of l) first_frame bytes
    → clear b ≡ clear (build_all nothing_built (told_all (rules_of l) first_frame bytes))
    → fault_told (rules_of l) f byte ≡ None → (build_all (clear b) (told_at f byte)).item ≡ Some x
    → AreJudged nothing_built (told_all (rules_of l) first_frame bytes ++ told_at f byte) → IsItem (rules_of l) (bytes ++ byte ∷ []) x
byte-waits l bytes byte ended b x e c j h g = absurd (none-some x h)
byte-waits l bytes byte broken b x e c j h g = absurd (none-some x h)
byte-waits l bytes byte (open_at st m) b x e c j h g = by (turn st byte) refl
  where
    by : (o : Outcome) → turn st byte ≡ o → IsItem (rules_of l) (bytes ++ byte ∷ []) x
    by (fails g) k = absurd (none-some x (ap (λ (o : Outcome). (build_all (clear b) (tokens_told o)).item) (sym k) ∙ h))
    by (leads to us) k =
        let r : Rules = rules_of l in
        let (same, carried) = came bytes r _ st start m (first-sound r).live (sym e) in
        let levels : Levels m (clear b) =
        subst (λ (y : Building). Levels m y) (sym c)
        (levels-clear m (build_all nothing_built (told_all r first_frame bytes))
        (subst (λ (y : Nest). Levels y (build_all nothing_built (told_all r first_frame bytes))) same (level-from r (told_all r first_frame bytes)))) in
        tokens-wait r bytes byte st to m us (clear b) x (sym e) k (ap (λ (o : Outcome). is_broken (settled r m o)) (sym k) ∙ not-fault r st m byte j) levels c
        (ap (λ (o : Outcome). (build_all (clear b) (tokens_told o)).item) (sym k) ∙ h)
        (subst (λ (o : Outcome). AreJudged nothing_built (told_all r first_frame bytes ++ tokens_told o)) k g)

reading-waits : (l : Limits) (bytes : List ℕ) (byte : ℕ) (s : Reading) (x : Item) → HasRead (rules_of l) first_frame nothing_built bytes s
    → is_stopped (reading_next l (handed s) byte) ≡ false → waiting (reading_next l (handed s) byte) ≡ Some x
    → AreJudged nothing_built (told_all (rules_of l) first_frame bytes ++ told_at (frame_after (rules_of l) first_frame bytes) byte)
    → IsItem (rules_of l) (bytes ++ byte ∷ []) x
reading-waits l bytes byte (stopped f k) x h w e g = absurd (let bad : true ≡ false = w in cc)
reading-waits l bytes byte (reads f b n k) x (p, q) w e g = by (byte_judged l f (clear b) n byte) refl w e
  where
    by : (o : Option FrameFault) → byte_judged l f (clear b) n byte ≡ o
        → is_stopped (concluded o
        (reads (frame_next (rules_of l) f byte) (build_all (clear b) (told_at f byte)) (extent_after (frame_next (rules_of l) f byte) n)
        (told_number (k + 1))) (told_number (k + 1))) ≡ false
        → waiting (concluded o (reads (frame_next (rules_of l) f byte) (build_all (clear b) (told_at f byte)) (extent_after (frame_next (rules_of l) f byte) n)
        (told_number (k + 1))) (told_number (k + 1))) ≡ Some x → IsItem (rules_of l) (bytes ++ byte ∷ []) x
    by None j w e = byte-waits l bytes byte f b x p q (or-none _ _ (or-none _ _ j).1).0 e
        (subst (λ (y : Frame). AreJudged nothing_built (told_all (rules_of l) first_frame bytes ++ told_at y byte)) (sym p) g)
    by (Some y) j w e = absurd (let bad : true ≡ false = w in cc)

pub told-more : (r : Rules) (f : Frame) (xs ys : List ℕ) → told_all r f (xs ++ ys) ≡ told_all r f xs ++ told_all r (frame_after r f xs) ys
told-more r f [] ys = refl
told-more r f (x ∷ xs) ys = ap (λ (l : List Token). told_at f x ++ l) (told-more r (frame_next r f x) xs ys)
    ∙ sym (append_assoc (told_at f x) (told_all r (frame_next r f x) xs) (told_all r (frame_after r (frame_next r f x) xs) ys))

-- what the bytes tell, with the last of them
pub told-last : (r : Rules) (bytes : List ℕ) (byte : ℕ)
    → told_all r first_frame (bytes ++ byte ∷ []) ≡ told_all r first_frame bytes ++ told_at (frame_after r first_frame bytes) byte
told-last r bytes byte = told-more r first_frame bytes (byte ∷ [])
    ∙ ap (λ (l : List Token). told_all r first_frame bytes ++ l) (append-nil (told_at (frame_after r first_frame bytes) byte))

pub item_waits : (l : Limits) (bytes : List ℕ) (byte : ℕ) (x : Item) → is_stopped (went l first_reading (bytes ++ byte ∷ [])) ≡ false
    → waiting (went l first_reading (bytes ++ byte ∷ [])) ≡ Some x → IsItem (rules_of l) (bytes ++ byte ∷ []) x
item_waits l bytes byte x w e =
    let s : Reading = went l first_reading bytes in
    let same : went l first_reading (bytes ++ byte ∷ []) ≡ reading_next l (handed s) byte = went-more l first_reading bytes (byte ∷ []) in
    reading-waits l bytes byte s x (went-read bytes l first_frame nothing_built 0 0) (ap is_stopped (sym same) ∙ w) (ap waiting (sym same) ∙ e)
    (subst (AreJudged nothing_built) (told-last (rules_of l) bytes byte) (reading-judged l (bytes ++ byte ∷ []) w))

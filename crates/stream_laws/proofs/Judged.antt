-- Where a reading is not stopped, no tag that came has a fault by its names.
use Rattle.std.proofs.Common.{◌≡◌, ℕ, ◌+◌, List, [], ◌∷◌, ◌++◌, length, refl, sym, ap, ◌∙◌, subst, append-nil, Bool, true, false, ◌==◌, encode_utf8}
use Rattle.std.specs.Prelude.{Option, Some, None}
use Rattle.stream_lex.specs.declared.Token.{Token}
use Rattle.stream_lex.specs.declared.Token.TheVariants as token
use Rattle.stream_lex.specs.machine.Turns.{Outcome, leads, fails, turn}
use Rattle.stream_grammar.specs.declared.FrameFault.{FrameFault}
use Rattle.stream_grammar.specs.declared.namespaces.Binding.{Binding}
use Rattle.stream_grammar.specs.declared.namespaces.NameFault.{NameFault}
use Rattle.stream_grammar.specs.declared.namespaces.NameFault.TheVariants as name
use Rattle.stream_grammar.specs.declared.item.Item.{Item}
use Rattle.stream_grammar.specs.declared.item.Item.TheVariants as item
use Rattle.stream_grammar.specs.declared.item.Limits.{Limits}
use Rattle.stream_grammar.specs.declared.rules.Rules.{Rules}
use Rattle.stream_grammar.specs.grammar.Trees.{RawTag, Content, nothing, word, element, hollow, tag_tokens, end_tokens, content_tokens, declaration_tokens}
use Rattle.stream_grammar.specs.machine.Framing.{Frame, open_at, ended, broken, frame_next, first_frame}
use Rattle.stream_grammar.specs.grammar.Items.{head_tokens}
use Rattle.stream_grammar.specs.machine.Ends.{told_at, tokens_told}
use Rattle.stream_grammar.specs.machine.Telling.{are_words, is_few}
use Rattle.stream_grammar.specs.grammar.Namespaces.{own}
use Rattle.stream_grammar.specs.grammar.Resolving.{name_on, attrs_on}
use Rattle.stream_grammar.specs.grammar.Tags.{Gathered, whole_tag}
use Rattle.stream_grammar.specs.machine.Gathering.{nothing_gathered}
use Rattle.stream_grammar.specs.grammar.Elements.{inside_of, outside_all, header_of, default_of, fault_of_tag, AreNamed, IsNamed}
use Rattle.stream_grammar.specs.machine.Building.{Opened, Building, nothing_built, settled_words, build, build_all, named_fault, tag_judged, told_judged}
use Rattle.stream_grammar.specs.machine.Reading.{Reading, reads, stopped, first_reading, concluded, byte_judged, or_else, is_stopped, went, extent_after}
use Rattle.stream_grammar.specs.grammar.Bounds.{rules_of, told_number}
use Rattle.stream_grammar.proofs.Few.{turn-few}
use Rattle.stream_laws.proofs.Coming.{told_all}
use Rattle.stream_laws.proofs.Made.{made, tag-body, body-then, body-made, tag-made, not-empty, start-if, regroup, content-made, tops-made, declared-made}
use Rattle.stream_laws.proofs.Handing.{clear, clear-one, stopped-went}

-- a tag is judged by its names as it ends
abbrev pub named_at : Building → Token → Option NameFault
named_at b (token.TagEnds e) = fault_of_tag b.layers b.tag
named_at b t = None

-- the tokens end no tag that has a fault
abbrev pub AreJudged : Building → List Token → Type 0
AreJudged b [] = Unit {0}
AreJudged b (t ∷ ts) = (named_at b t ≡ None) × AreJudged (build b t) ts

named-clear : (b : Building) (t : Token) → named_at (clear b) t ≡ named_at b t
named-clear b (token.TagEnds e) = refl
named-clear b t = refl

pub judged-like : (ts : List Token) (b c : Building) → clear b ≡ clear c → AreJudged b ts → AreJudged c ts
judged-like [] b c e j = tt
judged-like (t ∷ ts) b c e (one, more) = (
  sym (named-clear c t) ∙ (ap (λ (x : Building). named_at x t) (sym e) ∙ (named-clear b t ∙ one)),
  judged-like ts (build b t) (build c t) (sym (clear-one b t) ∙ (ap (λ (x : Building). clear (build x t)) e ∙ clear-one c t)) more,
)

pub judged-more : (xs ys : List Token) (b : Building) → AreJudged b xs → AreJudged (build_all b xs) ys → AreJudged b (xs ++ ys)
judged-more [] ys b j k = k
judged-more (x ∷ xs) ys b (one, more) k = (one, judged-more xs ys (build b x) more k)

pub judged-front : (xs ys : List Token) (b : Building) → AreJudged b (xs ++ ys) → AreJudged b xs
judged-front [] ys b j = tt
judged-front (x ∷ xs) ys b (one, more) = (one, judged-front xs ys (build b x) more)

pub judged-back : (xs ys : List Token) (b : Building) → AreJudged b (xs ++ ys) → AreJudged (build_all b xs) ys
judged-back [] ys b j = j
judged-back (x ∷ xs) ys b (one, more) = judged-back xs ys (build b x) more

-- Of a reading.

pub none-some : {X : Type 0} (x : X) → None ≡ Some x → ⊥
none-some x e = cc

names-judged : (o : Option NameFault) → named_fault o ≡ None → o ≡ None
names-judged None e = refl
names-judged (Some name.BadPrefix) e = absurd (none-some _ (sym e))
names-judged (Some name.NotWellFormed) e = absurd (none-some _ (sym e))

token-judged : (b : Building) (t : Token) → tag_judged b t ≡ None → named_at b t ≡ None
token-judged b (token.TagEnds e) h = names-judged _ h
token-judged b t h = refl

words-judged : (ts : List Token) (b : Building) → are_words ts ≡ true → AreJudged b ts
words-judged [] b h = tt
words-judged (token.Word c ∷ ts) b h = (refl, words-judged ts (build b (token.Word c)) h)
words-judged (t ∷ ts) b h = absurd (let bad : false ≡ true = h in cc)

told-judged : (us : List Token) (b : Building) → is_few us ≡ true → told_judged b us ≡ None → AreJudged b us
told-judged [] b f h = tt
told-judged (t ∷ []) b f h = (token-judged b t h, tt)
told-judged (t ∷ u ∷ us) b f h = words-judged (t ∷ u ∷ us) b f

pub frame-judged : (f : Frame) (byte : ℕ) (b : Building) → told_judged b (told_at f byte) ≡ None → AreJudged b (told_at f byte)
frame-judged ended byte b h = tt
frame-judged broken byte b h = tt
frame-judged (open_at st n) byte b h = by (turn st byte) refl h
  where
    by : (o : Outcome) → turn st byte ≡ o → told_judged b (tokens_told o) ≡ None → AreJudged b (tokens_told o)
    by (leads to us) e h = told-judged us b (turn-few st to byte us e) h
    by (fails x) e h = tt

or-none : {X : Type 0} (a b : Option X) → or_else a b ≡ None → (a ≡ None) × (b ≡ None)
or-none {X = X} None b e = (refl, e)
or-none {X = X} (Some y) b e = absurd (none-some y (sym e))

byte-judged : (l : Limits) (f : Frame) (b : Building) (n byte : ℕ) → byte_judged l f b n byte ≡ None → AreJudged b (told_at f byte)
byte-judged l f b n byte j =
    let (past, later) = or-none _ _ j in
    let (told, more) = or-none _ _ later in
    let (names, large) = or-none _ _ more in
    frame-judged f byte b names

abbrev IsJudged : Rules → Frame → Building → List ℕ → Reading → Type 0
IsJudged r f0 b0 bytes (stopped f k) = Unit {0}
IsJudged r f0 b0 bytes (reads f b n k) = AreJudged b0 (told_all r f0 bytes)

judged-step : (r : Rules) (f0 : Frame) (b0 : Building) (b : ℕ) (bs : List ℕ) → AreJudged (clear b0) (told_at f0 b) → (s : Reading)
    → IsJudged r (frame_next r f0 b) (build_all (clear b0) (told_at f0 b)) bs s → IsJudged r f0 b0 (b ∷ bs) s
judged-step r f0 b0 b bs j (stopped f k) h = tt
judged-step r f0 b0 b bs j (reads f c n k) h =
    judged-like (told_all r f0 (b ∷ bs)) (clear b0) b0 refl (judged-more (told_at f0 b) (told_all r (frame_next r f0 b) bs) (clear b0) j h)

went-judged : (bytes : List ℕ) (l : Limits) (f0 : Frame) (b0 : Building) (n0 k0 : ℕ) → IsJudged (rules_of l) f0 b0 bytes (went l (reads f0 b0 n0 k0) bytes)
went-judged [] l f0 b0 n0 k0 = tt
went-judged (b ∷ bs) l f0 b0 n0 k0 = by (byte_judged l f0 (clear b0) n0 b) refl (λ f1 b1 n k. went-judged bs l f1 b1 n k)
  where
    by : (o : Option FrameFault) → byte_judged l f0 (clear b0) n0 b ≡ o
        → ((f1 : Frame) (b1 : Building) (n k : ℕ) → IsJudged (rules_of l) f1 b1 bs (went l (reads f1 b1 n k) bs))
        → IsJudged (rules_of l) f0 b0 (b ∷ bs)
        (went l (concluded o (reads (frame_next (rules_of l) f0 b) (build_all (clear b0) (told_at f0 b)) (extent_after (frame_next (rules_of l) f0 b) n0)
        (told_number (k0 + 1))) (told_number (k0 + 1))) bs)
    by None e go =
        judged-step (rules_of l) f0 b0 b bs (byte-judged l f0 (clear b0) n0 b e) _
        (go (frame_next (rules_of l) f0 b) (build_all (clear b0) (told_at f0 b)) (extent_after (frame_next (rules_of l) f0 b) n0) (told_number (k0 + 1)))
    by (Some f) e go = subst (IsJudged (rules_of l) f0 b0 (b ∷ bs)) (sym (stopped-went l f (told_number (k0 + 1)) bs)) tt

pub reading-judged : (l : Limits) (bytes : List ℕ) → is_stopped (went l first_reading bytes) ≡ false
    → AreJudged nothing_built (told_all (rules_of l) first_frame bytes)
reading-judged l bytes w = by (went l first_reading bytes) w (went-judged bytes l first_frame nothing_built 0 0)
  where
    by : (s : Reading) → is_stopped s ≡ false → IsJudged (rules_of l) first_frame nothing_built bytes s
        → AreJudged nothing_built (told_all (rules_of l) first_frame bytes)
    by (stopped f k) h j = absurd (let bad : true ≡ false = h in cc)
    by (reads f b n k) h j = j

-- Of a tag, and of content.

pub tag-judged : (b : Building) (t : RawTag) (e : Bool) → AreJudged b (tag_tokens t e) → fault_of_tag b.layers (whole_tag t) ≡ None
tag-judged b t e j =
    let k : AreJudged (build_all b (tag-body t)) (token.TagEnds e ∷ []) =
    judged-back (tag-body t) (token.TagEnds e ∷ []) b (subst (AreJudged b) (body-then t e) j) in
    ap (λ (x : Building). named_at x (token.TagEnds e)) (sym (body-made b t)) ∙ k.0

-- a building with these bindings
abbrev pub IsOn : Building → List (List Binding) → Type 0
IsOn b layers = (g : Gathered) × (os : List Opened) × (words : List ℕ) × (i : Option Item) × (b ≡ made g layers os words i)

pub leaves-on : (f : Content) (g : Gathered) (layers : List (List Binding)) (os : List Opened) (words : List ℕ) (i : Option Item) → (length layers == 0) ≡ false
    → IsOn (build_all (made g layers os words i) (content_tokens f)) layers
leaves-on f g layers [] words i deep = let (g1, w1, is) = tops-made f g layers words i deep in (g1, [], w1, _, is)
leaves-on f g layers (x ∷ xs) words i deep = let (g1, is) = content-made f g layers x xs words i deep in (g1, _, _, i, is)

abbrev NamedOn : Content → Type 0
NamedOn f = (g : Gathered) (layers : List (List Binding)) (os : List Opened) (words : List ℕ) (i : Option Item) → (length layers == 0) ≡ false
    → AreJudged (made g layers os words i) (content_tokens f) → AreNamed layers f

on-named : (f : Content) → NamedOn f → (b : Building) (layers : List (List Binding)) → (length layers == 0) ≡ false → IsOn b layers
    → AreJudged b (content_tokens f) → AreNamed layers f
on-named f rule b layers deep (g, os, words, i, is) j = rule g layers os words i deep (subst (λ (x : Building). AreJudged x (content_tokens f)) is j)

element-named : (t : RawTag) (h f : Content) → NamedOn h → NamedOn f → NamedOn (element t h f)
element-named t h f inner later g layers os words i deep j =
    let b : Building = made g layers os words i in
    let into : List (List Binding) = inside_of layers (whole_tag t) in
    let new : Opened = record { name = name_on into (whole_tag t).name; attrs = attrs_on into (whole_tag t).attributes; children = [] } in
    let one : fault_of_tag layers (whole_tag t) ≡ None =
    tag-judged b t false (judged-front (tag_tokens t false) (content_tokens h ++ (end_tokens t.name ++ content_tokens f)) b j) in
    let begun : build_all b (tag_tokens t false) ≡ made nothing_gathered into (new ∷ settled_words words os) [] i = tag-made b t false
    ∙ start-if (length layers == 0) _ (made nothing_gathered into (new ∷ settled_words words os) [] i) deep in
    let rest : AreJudged (build_all b (tag_tokens t false)) (content_tokens h ++ (end_tokens t.name ++ content_tokens f)) =
    judged-back (tag_tokens t false) (content_tokens h ++ (end_tokens t.name ++ content_tokens f)) b j in
    let within : AreNamed into h =
    on-named h inner (build_all b (tag_tokens t false)) into (not-empty layers (own (whole_tag t).attributes))
    (nothing_gathered, new ∷ settled_words words os, [], i, begun)
    (judged-front (content_tokens h) (end_tokens t.name ++ content_tokens f) (build_all b (tag_tokens t false)) rest) in
    let whole : List Token = tag_tokens t false ++ (content_tokens h ++ end_tokens t.name) in
    let after : AreJudged (build_all b whole) (content_tokens f) =
    judged-back whole (content_tokens f) b (subst (AreJudged b) (regroup (tag_tokens t false) (content_tokens h) (end_tokens t.name) (content_tokens f)) j)
    in
    let same : content_tokens (element t h nothing) ≡ whole =
    ap (λ (l : List Token). tag_tokens t false ++ (content_tokens h ++ l)) (append-nil (end_tokens t.name)) in (
      one,
      (
        within,
        on-named f later (build_all b whole) layers deep
            (subst (λ (l : List Token). IsOn (build_all b l) layers) same (leaves-on (element t h nothing) g layers os words i deep)) after,
      ),
    )

hollow-named : (t : RawTag) (f : Content) → NamedOn f → NamedOn (hollow t f)
hollow-named t f later g layers os words i deep j =
    let b : Building = made g layers os words i in
    let one : fault_of_tag layers (whole_tag t) ≡ None = tag-judged b t true (judged-front (tag_tokens t true) (content_tokens f) b j) in (
      one,
      on-named f later (build_all b (tag_tokens t true)) layers deep
          (subst (λ (l : List Token). IsOn (build_all b l) layers) (append-nil (tag_tokens t true)) (leaves-on (hollow t nothing) g layers os words i deep))
          (judged-back (tag_tokens t true) (content_tokens f) b j),
    )

word-named : (c : ℕ) (f : Content) → NamedOn f → NamedOn (word c f)
word-named c f later g layers [] words i deep (one, more) = later g layers [] words i deep more
word-named c f later g layers (x ∷ xs) words i deep (one, more) = later g layers (x ∷ xs) (words ++ encode_utf8 c) i deep more

pub content-named : (f : Content) → NamedOn f
content-named nothing = λ g layers os words i deep j. tt
content-named (word c f) = word-named c f (content-named f)
content-named (element t h f) = element-named t h f (content-named h) (content-named f)
content-named (hollow t f) = hollow-named t f (content-named f)

-- the start of a stream
pub head-named : (d : Bool) (root : RawTag) (f : Content) → AreJudged nothing_built (head_tokens d root f) → IsNamed root f
head-named d root f j =
    let k : AreJudged nothing_built (tag_tokens root false ++ content_tokens f) =
    subst (λ (b : Building). AreJudged b (tag_tokens root false ++ content_tokens f)) (declared-made d)
    (judged-back (declaration_tokens d) (tag_tokens root false ++ content_tokens f) nothing_built j) in
    let layers : List (List Binding) = inside_of outside_all (whole_tag root) in (
      tag-judged nothing_built root false (judged-front (tag_tokens root false) (content_tokens f) nothing_built k),
      content-named f nothing_gathered layers [] [] (Some (item.Header (header_of root) (default_of root))) (not-empty [] (own (whole_tag root).attributes))
          (subst (λ (b : Building). AreJudged b (content_tokens f)) (tag-made nothing_built root false)
          (judged-back (tag_tokens root false) (content_tokens f) nothing_built k)),
    )

-- Tokens of tags that have no fault by their names are judged so.
use Rattle.std.proofs.Common.{◌≡◌, ℕ, List, [], ◌∷◌, ◌++◌, map, length, refl, sym, ap, ◌∙◌, subst, append-nil, Bool, true, false, ◌==◌, encode_utf8}
use Rattle.std.specs.Prelude.{Option, Some, None}
use Rattle.stream_lex.specs.declared.Token.{Token}
use Rattle.stream_lex.specs.declared.Token.TheVariants as token
use Rattle.stream_grammar.specs.declared.namespaces.Binding.{Binding}
use Rattle.stream_grammar.specs.declared.item.Item.{Item}
use Rattle.stream_grammar.specs.declared.item.Item.TheVariants as item
use Rattle.stream_grammar.specs.grammar.Trees.{RawName, RawTag, Content, nothing, word, element, hollow, Stream, tag_tokens}
use Rattle.stream_grammar.specs.grammar.Trees.{end_tokens, content_tokens, declaration_tokens, stream_tokens}
use Rattle.stream_grammar.specs.grammar.Items.{head_tokens}
use Rattle.stream_grammar.specs.grammar.Namespaces.{own}
use Rattle.stream_grammar.specs.grammar.Resolving.{name_on, attrs_on}
use Rattle.stream_grammar.specs.grammar.Tags.{Gathered, whole_tag}
use Rattle.stream_grammar.specs.machine.Gathering.{nothing_gathered}
use Rattle.stream_grammar.specs.grammar.Elements.{inside_of, outside_all, header_of, default_of, fault_of_tag, AreNamed, IsNamed}
use Rattle.stream_grammar.specs.machine.Building.{Opened, Building, nothing_built, settled_words, build, build_all}
use Rattle.stream_laws.proofs.Ending.{regroup-stream}
use Rattle.stream_laws.proofs.Made.{made, gathering, all-gathering, gathering-name, gathering-body, both, tag-body, body-then}
use Rattle.stream_laws.proofs.Made.{body-made, tag-made, not-empty, start-if, regroup, declared-made}
use Rattle.stream_laws.proofs.Judged.{named_at, AreJudged, judged-more, IsOn, leaves-on}

gathering-none : (b : Building) (t : Token) → gathering t ≡ true → named_at b t ≡ None
gathering-none b (token.TagEnds e) h = absurd (let bad : false ≡ true = h in cc)
gathering-none b t h = refl

gathering-judged : (ts : List Token) (b : Building) → all-gathering ts ≡ true → AreJudged b ts
gathering-judged [] b h = tt
gathering-judged (t ∷ ts) b h = let (one, more) = both (gathering t) (all-gathering ts) h in (gathering-none b t one, gathering-judged ts (build b t) more)

named-tag : (b : Building) (t : RawTag) (e : Bool) → fault_of_tag b.layers (whole_tag t) ≡ None → AreJudged b (tag_tokens t e)
named-tag b t e h =
    subst (AreJudged b) (sym (body-then t e))
    (judged-more (tag-body t) (token.TagEnds e ∷ []) b (gathering-judged (tag-body t) b (gathering-body t))
    (ap (λ (x : Building). named_at x (token.TagEnds e)) (body-made b t) ∙ h, tt))

end-judged : (b : Building) (n : RawName) → AreJudged b (end_tokens n)
end-judged b n =
    let ts : List Token = token.CloseOpens n.0 ∷ map token.NameByte n.1 in
    judged-more ts (token.CloseEnds ∷ []) b (gathering-judged ts b (gathering-name n.1)) (refl, tt)

abbrev JudgedOn : Content → Type 0
JudgedOn f = (g : Gathered) (layers : List (List Binding)) (os : List Opened) (words : List ℕ) (i : Option Item) → (length layers == 0) ≡ false
    → AreNamed layers f → AreJudged (made g layers os words i) (content_tokens f)

on-judged : (f : Content) → JudgedOn f → (b : Building) (layers : List (List Binding)) → (length layers == 0) ≡ false → IsOn b layers → AreNamed layers f
    → AreJudged b (content_tokens f)
on-judged f rule b layers deep (g, os, words, i, is) n = subst (λ (x : Building). AreJudged x (content_tokens f)) (sym is) (rule g layers os words i deep n)

element-judged : (t : RawTag) (h f : Content) → JudgedOn h → JudgedOn f → JudgedOn (element t h f)
element-judged t h f inner later g layers os words i deep (one, (within, after)) =
    let b : Building = made g layers os words i in
    let into : List (List Binding) = inside_of layers (whole_tag t) in
    let new : Opened = record { name = name_on into (whole_tag t).name; attrs = attrs_on into (whole_tag t).attributes; children = [] } in
    let begun : build_all b (tag_tokens t false) ≡ made nothing_gathered into (new ∷ settled_words words os) [] i = tag-made b t false
    ∙ start-if (length layers == 0) _ (made nothing_gathered into (new ∷ settled_words words os) [] i) deep in
    let mid : AreJudged (build_all b (tag_tokens t false)) (content_tokens h) =
    on-judged h inner (build_all b (tag_tokens t false)) into (not-empty layers (own (whole_tag t).attributes))
    (nothing_gathered, new ∷ settled_words words os, [], i, begun) within in
    let whole : List Token = tag_tokens t false ++ (content_tokens h ++ end_tokens t.name) in
    let same : content_tokens (element t h nothing) ≡ whole =
    ap (λ (l : List Token). tag_tokens t false ++ (content_tokens h ++ l)) (append-nil (end_tokens t.name)) in
    let last : AreJudged (build_all b whole) (content_tokens f) =
    on-judged f later (build_all b whole) layers deep
    (subst (λ (l : List Token). IsOn (build_all b l) layers) same (leaves-on (element t h nothing) g layers os words i deep)) after in
    let front : AreJudged b whole =
    judged-more (tag_tokens t false) (content_tokens h ++ end_tokens t.name) b (named-tag b t false one)
    (judged-more (content_tokens h) (end_tokens t.name) (build_all b (tag_tokens t false)) mid
    (end-judged (build_all (build_all b (tag_tokens t false)) (content_tokens h)) t.name)) in
    subst (AreJudged b) (sym (regroup (tag_tokens t false) (content_tokens h) (end_tokens t.name) (content_tokens f)))
    (judged-more whole (content_tokens f) b front last)

hollow-judged : (t : RawTag) (f : Content) → JudgedOn f → JudgedOn (hollow t f)
hollow-judged t f later g layers os words i deep (one, after) =
    let b : Building = made g layers os words i in
    judged-more (tag_tokens t true) (content_tokens f) b (named-tag b t true one)
    (on-judged f later (build_all b (tag_tokens t true)) layers deep
    (subst (λ (l : List Token). IsOn (build_all b l) layers) (append-nil (tag_tokens t true)) (leaves-on (hollow t nothing) g layers os words i deep))
    after)

word-judged : (c : ℕ) (f : Content) → JudgedOn f → JudgedOn (word c f)
word-judged c f later g layers [] words i deep n = (refl, later g layers [] words i deep n)
word-judged c f later g layers (x ∷ xs) words i deep n = (refl, later g layers (x ∷ xs) (words ++ encode_utf8 c) i deep n)

content-judged : (f : Content) → JudgedOn f
content-judged nothing = λ g layers os words i deep n. tt
content-judged (word c f) = word-judged c f (content-judged f)
content-judged (element t h f) = element-judged t h f (content-judged h) (content-judged f)
content-judged (hollow t f) = hollow-judged t f (content-judged f)

declared-judged : (d : Bool) → AreJudged nothing_built (declaration_tokens d)
declared-judged true = (refl, tt)
declared-judged false = tt

pub head-judged : (d : Bool) (root : RawTag) (f : Content) → IsNamed root f → AreJudged nothing_built (head_tokens d root f)
head-judged d root f (one, more) =
    let layers : List (List Binding) = inside_of outside_all (whole_tag root) in
    let content : AreJudged (build_all nothing_built (tag_tokens root false)) (content_tokens f) =
    subst (λ (b : Building). AreJudged b (content_tokens f)) (sym (tag-made nothing_built root false))
    (content-judged f nothing_gathered layers [] [] (Some (item.Header (header_of root) (default_of root))) (not-empty [] (own (whole_tag root).attributes))
    more) in
    judged-more (declaration_tokens d) (tag_tokens root false ++ content_tokens f) nothing_built (declared-judged d)
    (subst (λ (b : Building). AreJudged b (tag_tokens root false ++ content_tokens f)) (sym (declared-made d))
    (judged-more (tag_tokens root false) (content_tokens f) nothing_built (named-tag nothing_built root false one) content))

pub stream-judged : (s : Stream) → IsNamed s.root s.content → AreJudged nothing_built (stream_tokens s)
stream-judged s n =
    let head : List Token = head_tokens s.declared s.root s.content in
    subst (AreJudged nothing_built)
    (sym (regroup-stream (declaration_tokens s.declared) (tag_tokens s.root false) (content_tokens s.content) (end_tokens s.root.name)))
    (judged-more head (end_tokens s.root.name) nothing_built (head-judged s.declared s.root s.content n)
    (end-judged (build_all nothing_built head) s.root.name))

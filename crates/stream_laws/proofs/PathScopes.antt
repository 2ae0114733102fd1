-- What is built where a tag ends: the bindings are those of the open elements round it.
use Rattle.std.proofs.Common.{◌≡◌, List, [], ◌∷◌, ◌++◌, length, refl, sym, ap, ◌∙◌, subst, append_assoc, append-nil, Bool, true, false, ◌==◌}
use Rattle.std.specs.Prelude.{None, if◌then◌else◌}
use Rattle.stream_lex.specs.declared.Token.{Token}
use Rattle.stream_grammar.specs.declared.namespaces.Binding.{Binding}
use Rattle.stream_grammar.specs.grammar.Trees.{RawTag, Content, nothing, tag_tokens, content_tokens, declaration_tokens}
use Rattle.stream_grammar.specs.grammar.Namespaces.{own}
use Rattle.stream_grammar.specs.machine.Gathering.{nothing_gathered}
use Rattle.stream_grammar.specs.grammar.Tags.{whole_tag}
use Rattle.stream_grammar.specs.grammar.Elements.{inside_of}
use Rattle.stream_grammar.specs.machine.Building.{Building, nothing_built, build_all}
use Rattle.stream_grammar.specs.grammar.Paths.{Step, path_tokens, scope_of, IsRooted}
use Rattle.stream_laws.proofs.Made.{made, tag-body, body-made, tag-made, not-empty, declared-made}
use Rattle.stream_laws.proofs.Handing.{build-more}
use Rattle.stream_laws.proofs.Judged.{IsOn, leaves-on}
use Rattle.stream_laws.proofs.PathTokens.{tokens_in}

-- The bindings.

if-on : (t : Bool) (a b : Building) (layers : List (List Binding)) → IsOn a layers → IsOn b layers → IsOn (if t then a else b) layers
if-on true a b layers h k = h
if-on false a b layers h k = k

start-on : (t : RawTag) (b : Building) (layers : List (List Binding)) → IsOn b layers → IsOn (build_all b (tag_tokens t false)) (inside_of layers (whole_tag t))
start-on t b layers (g, os, words, i, is) =
    subst (λ (x : Building). IsOn (build_all x (tag_tokens t false)) (inside_of layers (whole_tag t))) (sym is)
    (subst (λ (x : Building). IsOn x (inside_of layers (whole_tag t))) (sym (tag-made (made g layers os words i) t false))
    (if-on (length layers == 0) _ _ (inside_of layers (whole_tag t)) (_, _, _, _, refl) (_, _, _, _, refl)))

content-on : (f : Content) (b : Building) (layers : List (List Binding)) → (length layers == 0) ≡ false → IsOn b layers
    → IsOn (build_all b (content_tokens f)) layers
content-on f b layers deep (g, os, words, i, is) =
    subst (λ (x : Building). IsOn (build_all x (content_tokens f)) layers) (sym is) (leaves-on f g layers os words i deep)

regroup-step : (d p b t f : List Token) → d ++ ((p ++ (b ++ t)) ++ f) ≡ ((d ++ (p ++ b)) ++ t) ++ f
regroup-step d p b t f = simp append_assoc

pub step-tokens : (d : Bool) (x : Step) (path : List Step) (f : Content)
    → tokens_in d (x ∷ path) f ≡ (tokens_in d path x.before ++ tag_tokens x.tag false) ++ content_tokens f
step-tokens d x path f = regroup-step (declaration_tokens d) (path_tokens path) (content_tokens x.before) (tag_tokens x.tag false) (content_tokens f)

none-tokens : (d : Bool) → build_all nothing_built (tokens_in d [] nothing) ≡ nothing_built
none-tokens d = ap (build_all nothing_built) (append-nil (declaration_tokens d)) ∙ declared-made d

pub path-on : (d : Bool) (path : List Step) (f : Content) → IsRooted path f → IsOn (build_all nothing_built (tokens_in d path f)) (scope_of path)
path-on d [] f h =
    subst (λ (g : Content). IsOn (build_all nothing_built (tokens_in d [] g)) []) (sym h)
    (subst (λ (b : Building). IsOn b []) (sym (none-tokens d)) (nothing_gathered, [], [], None, refl))
path-on d (x ∷ path) f h =
    let front : List Token = tokens_in d path x.before ++ tag_tokens x.tag false in
    let opened : IsOn (build_all nothing_built front) (scope_of (x ∷ path)) =
    subst (λ (b : Building). IsOn b (scope_of (x ∷ path))) (sym (build-more nothing_built (tokens_in d path x.before) (tag_tokens x.tag false)))
    (start-on x.tag (build_all nothing_built (tokens_in d path x.before)) (scope_of path) (path-on d path x.before h)) in
    subst (λ (l : List Token). IsOn (build_all nothing_built l) (scope_of (x ∷ path))) (sym (step-tokens d x path f))
    (subst (λ (b : Building). IsOn b (scope_of (x ∷ path))) (sym (build-more nothing_built front (content_tokens f)))
    (content-on f (build_all nothing_built front) (scope_of (x ∷ path)) (not-empty (scope_of path) (own (whole_tag x.tag).attributes)) opened))

-- the tag up to its `>`
abbrev pub IsTagAt : Building → List (List Binding) → RawTag → Type 0
IsTagAt b layers t = (b.layers ≡ layers) × (b.tag ≡ whole_tag t)

pub tag-at : (d : Bool) (path : List Step) (f : Content) (t : RawTag) → IsRooted path f
    → IsTagAt (build_all nothing_built (tokens_in d path f ++ tag-body t)) (scope_of path) t
tag-at d path f t h =
    let b : Building = build_all nothing_built (tokens_in d path f) in
    let (g, os, words, i, is) = path-on d path f h in
    let all : build_all nothing_built (tokens_in d path f ++ tag-body t) ≡ record b { tag = whole_tag t } =
    build-more nothing_built (tokens_in d path f) (tag-body t) ∙ body-made b t in
    (ap (λ (x : Building). x.layers) all ∙ ap (λ (x : Building). x.layers) is, ap (λ (x : Building). x.tag) all)

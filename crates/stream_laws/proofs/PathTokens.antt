-- Where tokens lead to: the elements that are open, what has come in the innermost of them, and what has come of a tag.
use Rattle.std.proofs.Common.{◌≡◌, ℕ, ◌+◌, List, [], ◌∷◌, ◌++◌, map, length, refl, sym, ap, ◌∙◌, subst}
use Rattle.std.proofs.Common.{append_assoc, append-nil, Bool, true, false, cond, ◌==◌, nat_lt}
use Rattle.std.proofs.lemmas.Bool.{eqb-true}
use Rattle.std.proofs.lemmas.List.{map-append}
use Rattle.stream_lex.specs.declared.Token.{Token}
use Rattle.stream_lex.specs.declared.Token.TheVariants as token
use Rattle.stream_grammar.specs.declared.rules.Rules.{Rules}
use Rattle.stream_grammar.specs.grammar.Trees.{RawName, RawAttribute, RawTag, Content, nothing, word, element, hollow, attribute_tokens}
use Rattle.stream_grammar.specs.grammar.Trees.{attributes_tokens, tag_tokens, content_tokens, end_tokens, declaration_tokens}
use Rattle.stream_grammar.specs.machine.Nesting.{Nest, start, declared, inside, naming, in_tag, naming_attribute, in_value, closing, lost}
use Rattle.stream_grammar.specs.machine.Nesting.{may_stand, before_root, in_content, after_name, nest, nest_all}
use Rattle.stream_grammar.specs.grammar.Paths.{Step, path_tokens, IsRooted, tokens_to}
use Rattle.stream_laws.proofs.Made.{tag-body, body-then}
use Rattle.stream_laws.proofs.RoundTripInsert.{then_content, then-tokens}

abbrev pub names_of : List Step → List RawName
names_of [] = []
names_of (x ∷ path) = x.tag.name ∷ names_of path

-- the tokens of the open elements, and of what has come in the innermost
abbrev pub tokens_in : Bool → List Step → Content → List Token
tokens_in d path f = declaration_tokens d ++ (path_tokens path ++ content_tokens f)

abbrev pub InContent : List RawName → List Token → Type 0
InContent st ts = (d : Bool) × (path : List Step) × (f : Content) × (names_of path ≡ st) × IsRooted path f × (ts ≡ tokens_in d path f)

abbrev raw-tag : RawName → List RawAttribute → RawTag
raw-tag n xs = record { name = n; attributes = xs }

-- and of a tag up to its name, or an attribute
abbrev pub InTag : List RawName → RawName → List RawAttribute → List Token → Type 0
InTag st n xs ts = (us : List Token) × InContent st us × (ts ≡ us ++ tag-body (raw-tag n xs))

abbrev pub Before : Nest → List Token → Type 0
Before start ts = ts ≡ []
Before declared ts = ts ≡ token.Declaration ∷ []
Before (inside []) ts = Unit {0}
Before (inside (m ∷ st)) ts = InContent (m ∷ st) ts
Before (naming st n) ts = InTag st n [] ts
Before (in_tag st n k) ts = (xs : List RawAttribute) × InTag st n xs ts
Before (naming_attribute st n k) ts = (us : List Token) × (xs : List RawAttribute) × (a : ℕ) × (bs : List ℕ) × InTag st n xs us
    × (ts ≡ us ++ (token.AttrOpens a ∷ map token.AttrByte bs))
Before (in_value st n k) ts =
    (us : List Token) × (xs : List RawAttribute) × (a : ℕ) × (bs : List ℕ) × (v : List ℕ) × InTag st n xs us
    × (ts ≡ us ++ (token.AttrOpens a ∷ (map token.AttrByte bs ++ (token.ValueOpens ∷ map token.Value v))))
Before (closing st m) ts = (us : List Token) × (p : RawName) × (done : List ℕ) × InContent (p ∷ st) us × (p.1 ≡ done ++ m)
    × (ts ≡ us ++ (token.CloseOpens p.0 ∷ map token.NameByte done))
Before lost ts = Unit {0}

cond-before : (t : Bool) (n : Nest) (ts : List Token) → (t ≡ true → Before n ts) → Before (cond t n lost) ts
cond-before true n ts h = h refl
cond-before false n ts h = tt

-- Words and tags in an element.

regroup-in : (d p f x : List Token) → (d ++ (p ++ f)) ++ x ≡ d ++ (p ++ (f ++ x))
regroup-in d p f x = simp append_assoc

-- content and then more, in the innermost element
more-in : (d : Bool) (path : List Step) (f g : Content) (x : List Token) → content_tokens g ≡ x → tokens_in d path f ++ x ≡ tokens_in d path (then_content f g)
more-in d path f g x e =
    regroup-in (declaration_tokens d) (path_tokens path) (content_tokens f) x
    ∙ ap (λ (l : List Token). declaration_tokens d ++ (path_tokens path ++ l)) (ap (λ (l : List Token). content_tokens f ++ l) (sym e) ∙ sym (then-tokens f g))

-- of an element below the stream
some-rooted : (path : List Step) (f g : Content) (m : RawName) (st : List RawName) → names_of path ≡ m ∷ st → IsRooted path f → IsRooted path g
some-rooted [] f g m st e h = absurd (cc)
some-rooted (x ∷ path) f g m st e h = h

content-grown : (m : RawName) (st : List RawName) (ts x : List Token) (g : Content) → content_tokens g ≡ x → InContent (m ∷ st) ts
    → InContent (m ∷ st) (ts ++ x)
content-grown m st ts x g e (d, path, f, names, rooted, is) =
    (d, path, then_content f g, names, some-rooted path f (then_content f g) m st names rooted, ap (λ (l : List Token). l ++ x) is ∙ more-in d path f g x e)

-- A tag.

opens-tag : (st : List RawName) (ts : List Token) (b : ℕ) → InContent st ts → InTag st (b, []) [] (ts ++ token.TagOpens b ∷ [])
opens-tag st ts b h = (ts, h, refl)

name-longer : (n : RawName) (x : ℕ) → tag-body (raw-tag n []) ++ token.NameByte x ∷ [] ≡ tag-body (raw-tag (n.0, n.1 ++ x ∷ []) [])
name-longer n x =
    ap (λ (l : List Token). token.TagOpens n.0 ∷ (l ++ token.NameByte x ∷ [])) (append-nil (map token.NameByte n.1))
    ∙ ap (λ (l : List Token). token.TagOpens n.0 ∷ l) (sym (map-append token.NameByte n.1 (x ∷ [])) ∙ sym (append-nil (map token.NameByte (n.1 ++ x ∷ []))))

name-more : (st : List RawName) (n : RawName) (ts : List Token) (x : ℕ) → InTag st n [] ts → InTag st (n.0, n.1 ++ x ∷ []) [] (ts ++ token.NameByte x ∷ [])
name-more st n ts x (us, h, is) = (
  us,
  h,
  ap (λ (l : List Token). l ++ token.NameByte x ∷ []) is
      ∙ (append_assoc us (tag-body (raw-tag n [])) (token.NameByte x ∷ []) ∙ ap (λ (l : List Token). us ++ l) (name-longer n x)),
)

attributes-more : (xs ys : List RawAttribute) → attributes_tokens (xs ++ ys) ≡ attributes_tokens xs ++ attributes_tokens ys
attributes-more [] ys = refl
attributes-more (x ∷ xs) ys = ap (λ (l : List Token). attribute_tokens x ++ l) (attributes-more xs ys)
    ∙ sym (append_assoc (attribute_tokens x) (attributes_tokens xs) (attributes_tokens ys))

regroup-attribute : (us n xs bs v : List Token) (o a p e : Token)
    → ((us ++ (o ∷ (n ++ xs))) ++ (a ∷ (bs ++ (p ∷ v)))) ++ e ∷ [] ≡ us ++ (o ∷ (n ++ (xs ++ ((a ∷ (bs ++ (p ∷ (v ++ e ∷ [])))) ++ []))))
regroup-attribute us n xs bs v o a p e = simp (append_assoc, append-nil)

attribute-more : (st : List RawName) (n : RawName) (xs : List RawAttribute) (ts us : List Token) (a : ℕ) (bs v : List ℕ) → InTag st n xs us
    → ts ≡ us ++ (token.AttrOpens a ∷ (map token.AttrByte bs ++ (token.ValueOpens ∷ map token.Value v)))
    → InTag st n (xs ++ (record { name = (a, bs); value = v }) ∷ []) (ts ++ token.ValueEnds ∷ [])
attribute-more st n xs ts us a bs v (ws, h, is) e =
    let new : RawAttribute = record { name = (a, bs); value = v } in
    let all : List Token = token.AttrOpens a ∷ (map token.AttrByte bs ++ (token.ValueOpens ∷ map token.Value v)) in (
      ws,
      h,
      ap (λ (l : List Token). l ++ token.ValueEnds ∷ []) (e ∙ ap (λ (l : List Token). l ++ all) is)
          ∙ (regroup-attribute ws (map token.NameByte n.1) (attributes_tokens xs) (map token.AttrByte bs) (map token.Value v) (token.TagOpens n.0)
          (token.AttrOpens a) token.ValueOpens token.ValueEnds
          ∙ ap (λ (l : List Token). ws ++ (token.TagOpens n.0 ∷ (map token.NameByte n.1 ++ l))) (sym (attributes-more xs (new ∷ [])))),
    )

-- the whole tag, in its element
tag-ends : (ts us : List Token) (t : RawTag) (e : Bool) → ts ≡ us ++ tag-body t → ts ++ token.TagEnds e ∷ [] ≡ us ++ tag_tokens t e
tag-ends ts us t e is = ap (λ (l : List Token). l ++ token.TagEnds e ∷ []) is
    ∙ (append_assoc us (tag-body t) (token.TagEnds e ∷ []) ∙ ap (λ (l : List Token). us ++ l) (sym (body-then t e)))

hollow-in : (m : RawName) (st : List RawName) (n : RawName) (xs : List RawAttribute) (ts : List Token) → InTag (m ∷ st) n xs ts
    → InContent (m ∷ st) (ts ++ token.TagEnds true ∷ [])
hollow-in m st n xs ts (us, h, is) =
    let t : RawTag = raw-tag n xs in
    subst (InContent (m ∷ st)) (sym (tag-ends ts us t true is))
    (content-grown m st us (tag_tokens t true) (hollow t nothing) (append-nil (tag_tokens t true)) h)

regroup-path : (d p f t : List Token) → (d ++ (p ++ f)) ++ t ≡ d ++ ((p ++ (f ++ t)) ++ [])
regroup-path d p f t = simp (append_assoc, append-nil)

start-in : (st : List RawName) (n : RawName) (xs : List RawAttribute) (ts : List Token) → InTag st n xs ts → InContent (n ∷ st) (ts ++ token.TagEnds false ∷ [])
start-in st n xs ts (us, (d, path, f, names, rooted, same), is) =
    let t : RawTag = raw-tag n xs in (
      d,
      (record { before = f; tag = t }) ∷ path,
      nothing,
      ap (λ (l : List RawName). n ∷ l) names,
      rooted,
      tag-ends ts us t false is
          ∙ (ap (λ (l : List Token). l ++ tag_tokens t false) same
          ∙ regroup-path (declaration_tokens d) (path_tokens path) (content_tokens f) (tag_tokens t false)),
    )

-- An end tag.

first-name : (x : Step) (path : List Step) (p : RawName) (st : List RawName) → names_of (x ∷ path) ≡ p ∷ st → x.tag.name ≡ p
first-name x path p st e = cc

later-names : (x : Step) (path : List Step) (p : RawName) (st : List RawName) → names_of (x ∷ path) ≡ p ∷ st → names_of path ≡ st
later-names x path p st e = cc

regroup-close : (d q b t f c : List Token) → (d ++ ((q ++ (b ++ t)) ++ f)) ++ c ≡ (d ++ (q ++ b)) ++ (t ++ (f ++ (c ++ [])))
regroup-close d q b t f c = simp (append_assoc, append-nil)

regroup-name : (us m : List Token) (o c : Token) → (us ++ (o ∷ m)) ++ c ∷ [] ≡ us ++ (o ∷ (m ++ c ∷ []))
regroup-name us m o c = simp append_assoc

end-in : (m : RawName) (st : List RawName) (p : RawName) (us ts : List Token) (done : List ℕ) → InContent (p ∷ m ∷ st) us → p.1 ≡ done ++ []
    → ts ≡ us ++ (token.CloseOpens p.0 ∷ map token.NameByte done) → InContent (m ∷ st) (ts ++ token.CloseEnds ∷ [])
end-in m st p us ts done (d, [], f, names, rooted, is) e g = absurd (cc)
end-in m st p us ts done (d, x ∷ path, f, names, rooted, is) e g =
    let name : x.tag.name ≡ p = first-name x path p (m ∷ st) names in
    let rest : names_of path ≡ m ∷ st = later-names x path p (m ∷ st) names in
    let h : InContent (m ∷ st) (tokens_in d path x.before) = (d, path, x.before, rest, rooted, refl) in
    let bytes : done ≡ p.1 = sym (append-nil done) ∙ sym e in
    let same : ts ++ token.CloseEnds ∷ [] ≡ tokens_in d path x.before ++ content_tokens (element x.tag f nothing) =
    ap (λ (l : List Token). l ++ token.CloseEnds ∷ []) g
    ∙ (regroup-name us (map token.NameByte done) (token.CloseOpens p.0) token.CloseEnds
    ∙ (ap (λ (l : List ℕ). us ++ (token.CloseOpens p.0 ∷ (map token.NameByte l ++ token.CloseEnds ∷ []))) bytes
    ∙ (ap (λ (q : RawName). us ++ end_tokens q) (sym name)
    ∙ (ap (λ (l : List Token). l ++ end_tokens x.tag.name) is
    ∙ regroup-close (declaration_tokens d) (path_tokens path) (content_tokens x.before) (tag_tokens x.tag false) (content_tokens f) (end_tokens x.tag.name)))))
    in
    subst (InContent (m ∷ st)) (sym same)
    (content-grown m st (tokens_in d path x.before) (content_tokens (element x.tag f nothing)) (element x.tag f nothing) refl h)

-- Each token.

root-before : (b : List Token) (t : Token) → InContent [] b → Before (before_root t) (b ++ t ∷ [])
root-before b (token.TagOpens x) h = opens-tag [] b x h
root-before b t h = tt

content-before : (r : Rules) (m : RawName) (st : List RawName) (ts : List Token) (t : Token) → InContent (m ∷ st) ts
    → Before (in_content r m st t) (ts ++ t ∷ [])
content-before r m st ts (token.Word c) h =
    cond-before (may_stand r st c) (inside (m ∷ st)) _ (λ e. content-grown m st ts (token.Word c ∷ []) (word c nothing) refl h)
content-before r m st ts (token.TagOpens b) h = cond-before (nat_lt (length st) r.depth) (naming (m ∷ st) (b, [])) _ (λ e. opens-tag (m ∷ st) ts b h)
content-before r m st ts (token.CloseOpens b) h =
    cond-before (b == m.0) (closing st m.1) _ (λ e. (ts, m, [], h, refl, ap (λ (x : ℕ). ts ++ token.CloseOpens x ∷ []) (eqb-true b m.0 e)))
content-before r m st ts t h = tt

name-before : (r : Rules) (st : List RawName) (n : RawName) (k : ℕ) (xs : List RawAttribute) (ts : List Token) (t : Token) → InTag st n xs ts
    → Before (after_name r st n k t) (ts ++ t ∷ [])
name-before r st n k xs ts (token.AttrOpens b) h = cond-before (nat_lt k r.attributes) (naming_attribute st n (k + 1)) _ (λ e. (ts, xs, b, [], h, refl))
name-before r [] n k xs ts (token.TagEnds true) h = tt
name-before r (m ∷ st) n k xs ts (token.TagEnds true) h = hollow-in m st n xs ts h
name-before r st n k xs ts (token.TagEnds false) h = start-in st n xs ts h
name-before r st n k xs ts t h = tt

regroup-one : (us xs : List Token) (o x : Token) → (us ++ (o ∷ xs)) ++ x ∷ [] ≡ us ++ (o ∷ (xs ++ x ∷ []))
regroup-one us xs o x = simp append_assoc

regroup-two : (us xs ys : List Token) (o p x : Token) → (us ++ (o ∷ (xs ++ (p ∷ ys)))) ++ x ∷ [] ≡ us ++ (o ∷ (xs ++ (p ∷ (ys ++ x ∷ []))))
regroup-two us xs ys o p x = simp append_assoc

end-before : (st : List RawName) (ts : List Token) → Before (closing st []) ts → Before (inside st) (ts ++ token.CloseEnds ∷ [])
end-before [] ts h = tt
end-before (m ∷ st) ts (us, p, done, h, e, is) = end-in m st p us ts done h e is

pub before-next : (r : Rules) (n : Nest) (ts : List Token) (t : Token) → Before n ts → Before (nest r n t) (ts ++ t ∷ [])
unfolding nest
before-next r start ts token.Declaration h = ap (λ (l : List Token). l ++ token.Declaration ∷ []) h
before-next r start ts t h = root-before ts t (false, [], nothing, refl, refl, h)
before-next r declared ts t h = root-before ts t (true, [], nothing, refl, refl, h)
before-next r (inside []) ts t h = tt
before-next r (inside (m ∷ st)) ts t h = content-before r m st ts t h
before-next r (naming st n) ts (token.NameByte x) h = name-more st n ts x h
before-next r (naming st n) ts t h = name-before r st n 0 [] ts t h
before-next r (in_tag st n k) ts t (xs, h) = name-before r st n k xs ts t h
before-next r (naming_attribute st n k) ts (token.AttrByte x) (us, xs, a, bs, h, is) = (
  us,
  xs,
  a,
  bs ++ x ∷ [],
  h,
  ap (λ (l : List Token). l ++ token.AttrByte x ∷ []) is
      ∙ (regroup-one us (map token.AttrByte bs) (token.AttrOpens a) (token.AttrByte x)
      ∙ ap (λ (l : List Token). us ++ (token.AttrOpens a ∷ l)) (sym (map-append token.AttrByte bs (x ∷ [])))),
)
before-next r (naming_attribute st n k) ts token.ValueOpens (us, xs, a, bs, h, is) =
    (us, xs, a, bs, [], h, ap (λ (l : List Token). l ++ token.ValueOpens ∷ []) is ∙ regroup-one us (map token.AttrByte bs) (token.AttrOpens a) token.ValueOpens)
before-next r (naming_attribute st n k) ts t h = tt
before-next r (in_value st n k) ts (token.Value c) (us, xs, a, bs, v, h, is) = (
  us,
  xs,
  a,
  bs,
  v ++ c ∷ [],
  h,
  ap (λ (l : List Token). l ++ token.Value c ∷ []) is
      ∙ (regroup-two us (map token.AttrByte bs) (map token.Value v) (token.AttrOpens a) token.ValueOpens (token.Value c)
      ∙ ap (λ (l : List Token). us ++ (token.AttrOpens a ∷ (map token.AttrByte bs ++ (token.ValueOpens ∷ l)))) (sym (map-append token.Value v (c ∷ [])))),
)
before-next r (in_value st n k) ts token.ValueEnds (us, xs, a, bs, v, h, is) = (_, attribute-more st n xs ts us a bs v h is)
before-next r (in_value st n k) ts t h = tt
before-next r (closing st (x ∷ m)) ts (token.NameByte y) (us, p, done, h, e, is) =
    cond-before (y == x) (closing st m) _
    (λ f. (
      us,
      p,
      done ++ y ∷ [],
      h,
      e ∙ (ap (λ (z : ℕ). done ++ (z ∷ m)) (sym (eqb-true y x f)) ∙ sym (append_assoc done (y ∷ []) m)),
      ap (λ (l : List Token). l ++ token.NameByte y ∷ []) is
          ∙ (regroup-one us (map token.NameByte done) (token.CloseOpens p.0) (token.NameByte y)
          ∙ ap (λ (l : List Token). us ++ (token.CloseOpens p.0 ∷ l)) (sym (map-append token.NameByte done (y ∷ [])))),
    ))
before-next r (closing st (x ∷ m)) ts t h = tt
before-next r (closing st []) ts token.CloseEnds h = end-before st ts h
before-next r (closing st []) ts t h = tt
before-next r lost ts t h = tt

before-all : (r : Rules) (us : List Token) (n : Nest) (ts : List Token) → Before n ts → Before (nest_all r n us) (ts ++ us)
before-all r [] n ts h = subst (Before n) (sym (append-nil ts)) h
before-all r (u ∷ us) n ts h =
    subst (Before (nest_all r (nest r n u) us)) (append_assoc ts (u ∷ []) us) (before-all r us (nest r n u) (ts ++ u ∷ []) (before-next r n ts u h))

pub before-from : (r : Rules) (ts : List Token) → Before (nest_all r start ts) ts
before-from r ts = before-all r ts start [] refl

-- A tag that ends.

abbrev pub TagTokens : List Token → Bool → Type 0
TagTokens ts e = (d : Bool) × (path : List Step) × (f : Content) × (t : RawTag) × IsRooted path f × (ts ++ token.TagEnds e ∷ [] ≡ tokens_to d path f t e)

in-tag-ends : (st : List RawName) (n : RawName) (xs : List RawAttribute) (ts : List Token) (e : Bool) → InTag st n xs ts → TagTokens ts e
in-tag-ends st n xs ts e (us, (d, path, f, names, rooted, same), is) =
    let t : RawTag = raw-tag n xs in (
      d,
      path,
      f,
      t,
      rooted,
      tag-ends ts us t e is
          ∙ (ap (λ (l : List Token). l ++ tag_tokens t e) same ∙ regroup-in (declaration_tokens d) (path_tokens path) (content_tokens f) (tag_tokens t e)),
    )

pub tag-tokens : (r : Rules) (n : Nest) (ts : List Token) (e : Bool) → Before n ts → (nest r n (token.TagEnds e) ≡ lost → ⊥) → TagTokens ts e
unfolding nest
tag-tokens r (naming st n) ts e h w = in-tag-ends st n [] ts e h
tag-tokens r (in_tag st n k) ts e (xs, h) w = in-tag-ends st n xs ts e h
tag-tokens r start ts e h w = absurd (w refl)
tag-tokens r declared ts e h w = absurd (w refl)
tag-tokens r (inside []) ts e h w = absurd (w refl)
tag-tokens r (inside (m ∷ st)) ts e h w = absurd (w refl)
tag-tokens r (naming_attribute st n k) ts e h w = absurd (w refl)
tag-tokens r (in_value st n k) ts e h w = absurd (w refl)
tag-tokens r (closing st []) ts e h w = absurd (w refl)
tag-tokens r (closing st (x ∷ m)) ts e h w = absurd (w refl)
tag-tokens r lost ts e h w = absurd (w refl)

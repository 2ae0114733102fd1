-- A token leads to what it leaves, in both directions.
use Rattle.std.proofs.Common.{◌≡◌, ℕ, ◌+◌, ◌<◌, ◌≤◌, List, [], ◌∷◌, ◌++◌, map, length, Bool, true, false, cond, refl, sym}
use Rattle.std.proofs.Common.{ap, ◌∙◌, subst, append_assoc, append-nil, arith, eq-eqb, nat_lt, ◌==◌}
use Rattle.std.proofs.lemmas.Bool.{lt-ltb, ltb-true, eqb-true}
use Rattle.stream_lex.specs.declared.Token.{Token}
use Rattle.stream_lex.specs.declared.Token.TheVariants as token
use Rattle.stream_grammar.specs.grammar.Trees.{RawName, RawAttribute, RawTag, Content, nothing, word, element, hollow, Stream, attributes_tokens}
use Rattle.stream_grammar.specs.grammar.Trees.{content_tokens, end_tokens, root_tokens, stream_tokens, levels, Keeps, KeepsRoot}
use Rattle.stream_grammar.specs.declared.rules.Rules.{Rules}
use Rattle.stream_grammar.specs.machine.Nesting.{Nest, start, declared, inside, naming, in_tag, naming_attribute, in_value}
use Rattle.stream_grammar.specs.machine.Nesting.{closing, lost, is_root, may_stand, before_root, in_content, after_hollow}
use Rattle.stream_grammar.specs.machine.Nesting.{after_name, nest, nest_all, Closes, AfterTag, Tail, Leaves}

-- Lists of tokens.

pub token_head : (t u : Token) (ts us : List Token) → t ∷ ts ≡ u ∷ us → t ≡ u
token_head t u ts us e = cc

pub token_tail : (t u : Token) (ts us : List Token) → t ∷ ts ≡ u ∷ us → ts ≡ us
token_tail t u ts us e = cc

pub no_token : (t : Token) (ts : List Token) → t ∷ ts ≡ [] → ⊥
no_token t ts e = cc

regroup-element : (n us g c f x : List Token) (e : Token) → ((n ++ (us ++ e ∷ [])) ++ (g ++ (c ++ f))) ++ x ≡ n ++ (us ++ (e ∷ (g ++ (c ++ (f ++ x)))))
regroup-element n us g c f x e = simp append_assoc

regroup-hollow : (n us f x : List Token) (e : Token) → ((n ++ (us ++ e ∷ [])) ++ f) ++ x ≡ n ++ (us ++ (e ∷ (f ++ x)))
regroup-hollow n us f x e = simp append_assoc

regroup-attribute : (n v us x : List Token) (b c : Token) → ((n ++ (b ∷ (v ++ c ∷ []))) ++ us) ++ x ≡ n ++ (b ∷ (v ++ (c ∷ (us ++ x))))
regroup-attribute n v us x b c = simp append_assoc

regroup-end : (n x : List Token) (e : Token) → (n ++ e ∷ []) ++ x ≡ n ++ (e ∷ x)
regroup-end n x e = append_assoc n (e ∷ []) x

regroup-root : (n us g c : List Token) (e : Token) → (n ++ (us ++ e ∷ [])) ++ (g ++ c) ≡ n ++ (us ++ (e ∷ (g ++ (c ++ []))))
regroup-root n us g c e = simp (append_assoc, append-nil)

-- A test before a place.

cond-leaves : (r : Rules) (c : Bool) (s : Nest) (ts : List Token) → c ≡ true → Leaves r s ts → Leaves r (cond c s lost) ts
cond-leaves r true s ts e m = m
cond-leaves r false s ts e m = absurd (let bad : false ≡ true = e in cc)

cond-was : (r : Rules) (c : Bool) (s : Nest) (ts : List Token) → Leaves r (cond c s lost) ts → (c ≡ true) × Leaves r s ts
cond-was r true s ts m = (refl, m)
cond-was r false s ts m = absurd m

-- In a tag.

hollow-to : (r : Rules) (st : List RawName) (n : RawName) (ts : List Token) → AfterTag r st n true ts → Leaves r (after_hollow st) ts
hollow-to r [] n ts m = absurd m
hollow-to r (x ∷ st) n ts m = m

hollow-from : (r : Rules) (st : List RawName) (n : RawName) (ts : List Token) → Leaves r (after_hollow st) ts → AfterTag r st n true ts
hollow-from r [] n ts m = absurd m
hollow-from r (x ∷ st) n ts m = m

ends-to : (r : Rules) (st : List RawName) (n : RawName) (k : ℕ) (e : Bool) (ts : List Token) → AfterTag r st n e ts
    → Leaves r (after_name r st n k (token.TagEnds e)) ts
ends-to r st n k true ts m = hollow-to r st n ts m
ends-to r st n k false ts m = m

attribute-to : (r : Rules) (st : List RawName) (n : RawName) (k : ℕ) (x : RawAttribute) (xs : List RawAttribute) (e : Bool) (ts rest : List Token)
    → k + length (x ∷ xs) ≤ r.attributes
    → ts ≡ map token.AttrByte x.name.1
    ++ (token.ValueOpens ∷ (map token.Value x.value ++ (token.ValueEnds ∷ (attributes_tokens xs ++ (token.TagEnds e ∷ rest)))))
    → AfterTag r st n e rest → Leaves r (after_name r st n k (token.AttrOpens x.name.0)) ts
attribute-to r st n k x xs e ts rest few is m =
    cond-leaves r (nat_lt k r.attributes) (naming_attribute st n (k + 1)) ts (lt-ltb k r.attributes (omega arith))
    (x.name.1, x.value, attributes_tokens xs ++ (token.TagEnds e ∷ rest), is, (xs, e, rest, omega arith, refl, m))

-- by a step F that is that of a tag
tail-to : (r : Rules) (st : List RawName) (n : RawName) (k : ℕ) (F : Token → Nest) → ((b : ℕ) → F (token.AttrOpens b) ≡ after_name r st n k (token.AttrOpens b))
    → ((e : Bool) → F (token.TagEnds e) ≡ after_name r st n k (token.TagEnds e)) → (t : Token) (ts : List Token) → Tail r st n k (t ∷ ts) → Leaves r (F t) ts
tail-to r st n k F g h t ts ([], e, rest, few, is, m) =
    subst (λ (u : Token). Leaves r (F u) ts) (sym (token_head t _ ts _ is))
    (subst (λ (x : Nest). Leaves r x ts) (sym (h e))
    (subst (Leaves r (after_name r st n k (token.TagEnds e))) (sym (token_tail t _ ts _ is)) (ends-to r st n k e rest m)))
tail-to r st n k F g h t ts (x ∷ xs, e, rest, few, is, m) =
    subst (λ (u : Token). Leaves r (F u) ts) (sym (token_head t (token.AttrOpens x.name.0) ts _ is)) (subst (λ (y : Nest). Leaves r y ts) (sym (g x.name.0))
    (attribute-to r st n k x xs e ts rest few
    (token_tail t (token.AttrOpens x.name.0) ts _ is
    ∙ regroup-attribute (map token.AttrByte x.name.1) (map token.Value x.value) (attributes_tokens xs) (token.TagEnds e ∷ rest) token.ValueOpens
    token.ValueEnds) m))

tail-from : (r : Rules) (st : List RawName) (n : RawName) (k : ℕ) (t : Token) (ts : List Token) → k ≤ r.attributes → Leaves r (after_name r st n k t) ts
    → Tail r st n k (t ∷ ts)
tail-from r st n k (token.TagEnds true) ts room m = ([], true, ts, omega arith, refl, hollow-from r st n ts m)
tail-from r st n k (token.TagEnds false) ts room m = ([], false, ts, omega arith, refl, m)
tail-from r st n k (token.AttrOpens b) ts room m =
    let (few, (name, value, rest, is, (xs, e, rest2, low, is2, after))) = cond-was r (nat_lt k r.attributes) (naming_attribute st n (k + 1)) ts m in (
      (record { name = (b, name); value = value }) ∷ xs,
      e,
      rest2,
      omega arith,
      ap (λ (l : List Token). token.AttrOpens b ∷ l)
          (is ∙ (ap (λ (l : List Token). map token.AttrByte name ++ (token.ValueOpens ∷ (map token.Value value ++ (token.ValueEnds ∷ l)))) is2
          ∙ sym (regroup-attribute (map token.AttrByte name) (map token.Value value) (attributes_tokens xs) (token.TagEnds e ∷ rest2) token.ValueOpens
          token.ValueEnds))),
      after,
    )
tail-from r st n k t ts room m = absurd m

-- In the name of a tag.

name-to : (r : Rules) (st : List RawName) (n : RawName) (t : Token) (ts rest : List Token) (k : List ℕ) → t ∷ ts ≡ map token.NameByte k ++ rest
    → Tail r st (n.0, n.1 ++ k) 0 rest
    → Leaves r (nest r (naming st n) t) ts
unfolding nest
name-to r st n t ts rest [] is m =
    tail-to r st n 0 (nest r (naming st n)) (λ b. refl) (λ e. refl) t ts
    (subst (Tail r st n 0) (sym is) (subst (λ (l : List ℕ). Tail r st (n.0, l) 0 rest) (append-nil n.1) m))
name-to r st n t ts rest (y ∷ k) is m =
    subst (λ (u : Token). Leaves r (nest r (naming st n) u) ts) (sym (token_head t _ ts _ is))
    (k, rest, token_tail t _ ts _ is, subst (λ (l : List ℕ). Tail r st (n.0, l) 0 rest) (sym (append_assoc n.1 (y ∷ []) k)) m)

name-from : (r : Rules) (st : List RawName) (n : RawName) (t : Token) (ts : List Token) → Leaves r (nest r (naming st n) t) ts → Leaves r (naming st n) (t ∷ ts)
unfolding nest
name-from r st n (token.NameByte x) ts (k, rest, is, m) =
    (x ∷ k, rest, ap (λ (l : List Token). token.NameByte x ∷ l) is, subst (λ (l : List ℕ). Tail r st (n.0, l) 0 rest) (append_assoc n.1 (x ∷ []) k) m)
name-from r st n t ts k =
    ([], t ∷ ts, refl, subst (λ (l : List ℕ). Tail r st (n.0, l) 0 (t ∷ ts)) (sym (append-nil n.1)) (tail-from r st n 0 t ts (omega arith) k))

in_tag-to : (r : Rules) (st : List RawName) (n : RawName) (k : ℕ) (t : Token) (ts : List Token) → Tail r st n k (t ∷ ts)
    → Leaves r (nest r (in_tag st n k) t) ts
unfolding nest
in_tag-to r st n k t ts m = tail-to r st n k (nest r (in_tag st n k)) (λ b. refl) (λ e. refl) t ts m

in_tag-from : (r : Rules) (st : List RawName) (n : RawName) (k : ℕ) (t : Token) (ts : List Token) → k ≤ r.attributes → Leaves r (nest r (in_tag st n k) t) ts
    → Tail r st n k (t ∷ ts)
unfolding nest
in_tag-from r st n k t ts room m = tail-from r st n k t ts room m

-- In an attribute.

value-to : (r : Rules) (st : List RawName) (n : RawName) (k : ℕ) (t : Token) (ts rest : List Token) (v : List ℕ)
    → t ∷ ts ≡ map token.Value v ++ (token.ValueEnds ∷ rest) → Tail r st n k rest
    → Leaves r (nest r (in_value st n k) t) ts
unfolding nest
value-to r st n k t ts rest [] is m =
    subst (λ (u : Token). Leaves r (nest r (in_value st n k) u) ts) (sym (token_head t _ ts _ is)) (subst (Tail r st n k) (sym (token_tail t _ ts _ is)) m)
value-to r st n k t ts rest (c ∷ v) is m =
    subst (λ (u : Token). Leaves r (nest r (in_value st n k) u) ts) (sym (token_head t _ ts _ is)) (v, rest, token_tail t _ ts _ is, m)

value-from : (r : Rules) (st : List RawName) (n : RawName) (k : ℕ) (t : Token) (ts : List Token) → Leaves r (nest r (in_value st n k) t) ts
    → Leaves r (in_value st n k) (t ∷ ts)
unfolding nest
value-from r st n k (token.Value c) ts (v, rest, is, m) = (c ∷ v, rest, ap (λ (l : List Token). token.Value c ∷ l) is, m)
value-from r st n k token.ValueEnds ts m = ([], ts, refl, m)
value-from r st n k t ts m = absurd m

attribute_name-to : (r : Rules) (st : List RawName) (n : RawName) (k : ℕ) (t : Token) (ts rest : List Token) (m v : List ℕ)
    → t ∷ ts ≡ map token.AttrByte m ++ (token.ValueOpens ∷ (map token.Value v ++ (token.ValueEnds ∷ rest))) → Tail r st n k rest
    → Leaves r (nest r (naming_attribute st n k) t) ts
unfolding nest
attribute_name-to r st n k t ts rest [] v is m = subst (λ (u : Token). Leaves r (nest r (naming_attribute st n k) u) ts) (sym (token_head t _ ts _ is))
    (v, rest, token_tail t _ ts _ is, m)
attribute_name-to r st n k t ts rest (y ∷ x) v is m = subst (λ (u : Token). Leaves r (nest r (naming_attribute st n k) u) ts) (sym (token_head t _ ts _ is))
    (x, v, rest, token_tail t _ ts _ is, m)

attribute_name-from : (r : Rules) (st : List RawName) (n : RawName) (k : ℕ) (t : Token) (ts : List Token) → Leaves r (nest r (naming_attribute st n k) t) ts
    → Leaves r (naming_attribute st n k) (t ∷ ts)
unfolding nest
attribute_name-from r st n k (token.AttrByte y) ts (m, v, rest, is, x) = (y ∷ m, v, rest, ap (λ (l : List Token). token.AttrByte y ∷ l) is, x)
attribute_name-from r st n k token.ValueOpens ts (v, rest, is, x) = ([], v, rest, ap (λ (l : List Token). token.ValueOpens ∷ l) is, x)
attribute_name-from r st n k t ts m = absurd m

-- In the name of an end tag.

closing-to : (r : Rules) (st : List RawName) (m : List ℕ) (t : Token) (ts rest : List Token) → t ∷ ts ≡ map token.NameByte m ++ (token.CloseEnds ∷ rest)
    → Closes r st rest
    → Leaves r (nest r (closing st m) t) ts
unfolding nest
closing-to r st [] t ts rest is c =
    subst (λ (u : Token). Leaves r (nest r (closing st []) u) ts) (sym (token_head t _ ts _ is)) (subst (Closes r st) (sym (token_tail t _ ts _ is)) c)
closing-to r st (x ∷ m) t ts rest is c =
    subst (λ (u : Token). Leaves r (nest r (closing st (x ∷ m)) u) ts) (sym (token_head t _ ts _ is))
    (cond-leaves r (x == x) (closing st m) ts (eq-eqb x x refl) (rest, token_tail t _ ts _ is, c))

closing-from : (r : Rules) (st : List RawName) (m : List ℕ) (t : Token) (ts : List Token) → Leaves r (nest r (closing st m) t) ts
    → Leaves r (closing st m) (t ∷ ts)
unfolding nest
closing-from r st (x ∷ m) (token.NameByte y) ts k =
    let (e, (rest, is, c)) = cond-was r (y == x) (closing st m) ts k in
    (rest, ap (λ (n : ℕ). token.NameByte n ∷ ts) (eqb-true y x e) ∙ ap (λ (l : List Token). token.NameByte x ∷ l) is, c)
closing-from r st [] token.CloseEnds ts k = (ts, refl, k)
closing-from r st m t ts k = absurd k

-- Between tags.

content-to : (r : Rules) (m : RawName) (st : List RawName) (t : Token) (ts rest : List Token) (f : Content) → Keeps r (is_root st) f
    → levels f + length st ≤ r.depth
    → t ∷ ts ≡ content_tokens f ++ (end_tokens m ++ rest) → Closes r st rest → Leaves r (nest r (inside (m ∷ st)) t) ts
unfolding nest
content-to r m st t ts rest nothing g low is c =
    subst (λ (u : Token). Leaves r (nest r (inside (m ∷ st)) u) ts) (sym (token_head t (token.CloseOpens m.0) ts _ is))
    (cond-leaves r (m.0 == m.0) (closing st m.1) ts (eq-eqb m.0 m.0 refl) (
      rest,
      token_tail t (token.CloseOpens m.0) ts _ is
          ∙ regroup-end (map token.NameByte m.1) rest token.CloseEnds,
      c,
    ))
content-to r m st t ts rest (word x f) g low is c =
    subst (λ (u : Token). Leaves r (nest r (inside (m ∷ st)) u) ts) (sym (token_head t (token.Word x) ts _ is))
    (cond-leaves r (may_stand r st x) (inside (m ∷ st)) ts g.0 (f, rest, g.1, low, token_tail t (token.Word x) ts _ is, c))
content-to r m st t ts rest (element n h f) g low is c =
    let x : List Token = end_tokens m ++ rest in
    subst (λ (u : Token). Leaves r (nest r (inside (m ∷ st)) u) ts) (sym (token_head t (token.TagOpens n.name.0) ts _ is))
    (cond-leaves r (nat_lt (length st) r.depth) (naming (m ∷ st) (n.name.0, [])) ts (lt-ltb (length st) r.depth (omega arith)) (
      n.name.1,
      attributes_tokens n.attributes ++ (token.TagEnds false ∷ (content_tokens h ++ (end_tokens n.name ++ (content_tokens f ++ x)))),
      token_tail t (token.TagOpens n.name.0) ts _ is
          ∙ regroup-element (map token.NameByte n.name.1) (attributes_tokens n.attributes) (content_tokens h) (end_tokens n.name) (content_tokens f) x
          (token.TagEnds false),
      (
        n.attributes,
        false,
        content_tokens h ++ (end_tokens n.name ++ (content_tokens f ++ x)),
        (let few = g.0 in omega arith),
        refl,
        (h, content_tokens f ++ x, g.1, omega arith, refl, (f, rest, g.2, omega arith, refl, c)),
      ),
    ))
content-to r m st t ts rest (hollow n f) g low is c =
    let x : List Token = end_tokens m ++ rest in
    subst (λ (u : Token). Leaves r (nest r (inside (m ∷ st)) u) ts) (sym (token_head t (token.TagOpens n.name.0) ts _ is))
    (cond-leaves r (nat_lt (length st) r.depth) (naming (m ∷ st) (n.name.0, [])) ts (lt-ltb (length st) r.depth (omega arith)) (
      n.name.1,
      attributes_tokens n.attributes ++ (token.TagEnds true ∷ (content_tokens f ++ x)),
      token_tail t (token.TagOpens n.name.0) ts _ is
          ∙ regroup-hollow (map token.NameByte n.name.1) (attributes_tokens n.attributes) (content_tokens f) x (token.TagEnds true),
      (n.attributes, true, content_tokens f ++ x, (let few = g.0 in omega arith), refl, (f, rest, g.1, omega arith, refl, c)),
    ))

opened : (r : Rules) (m : RawName) (st : List RawName) (b : ℕ) (ts : List Token) → length st < r.depth → Leaves r (naming (m ∷ st) (b, [])) ts
    → Closes r (m ∷ st) (token.TagOpens b ∷ ts)
opened r m st b ts room (k, rest, is, (xs, true, rest2, few, is2, (f, r4, g, low, is4, c))) =
    let x : List Token = end_tokens m ++ r4 in (
      hollow (record { name = (b, k); attributes = xs }) f,
      r4,
      (omega arith, g),
      omega arith,
      ap (λ (l : List Token). token.TagOpens b ∷ l)
          (is ∙ (ap (λ (l : List Token). map token.NameByte k ++ l) (is2 ∙ ap (λ (l : List Token). attributes_tokens xs ++ (token.TagEnds true ∷ l)) is4)
          ∙ sym (regroup-hollow (map token.NameByte k) (attributes_tokens xs) (content_tokens f) x (token.TagEnds true)))),
      c,
    )
opened r m st b ts room (k, rest, is, (xs, false, rest2, few, is2, (h, r3, g3, low3, is3, (f, r4, g, low4, is4, c)))) =
    let x : List Token = end_tokens m ++ r4 in (
      element (record { name = (b, k); attributes = xs }) h f,
      r4,
      (omega arith, g3, g),
      omega arith,
      ap (λ (l : List Token). token.TagOpens b ∷ l)
          (is ∙ (ap (λ (l : List Token). map token.NameByte k ++ l)
          (is2 ∙ ap (λ (l : List Token). attributes_tokens xs ++ (token.TagEnds false ∷ l)) (is3
          ∙ ap (λ (l : List Token). content_tokens h ++ (end_tokens (b, k) ++ l)) is4))
          ∙ sym (regroup-element (map token.NameByte k) (attributes_tokens xs) (content_tokens h) (end_tokens (b, k)) (content_tokens f) x
          (token.TagEnds false)))),
      c,
    )

content-from : (r : Rules) (m : RawName) (st : List RawName) (t : Token) (ts : List Token) → length st ≤ r.depth → Leaves r (nest r (inside (m ∷ st)) t) ts
    → Closes r (m ∷ st) (t ∷ ts)
unfolding nest
content-from r m st (token.Word x) ts room k =
    let (e, (f, rest, g, low, is, c)) = cond-was r (may_stand r st x) (inside (m ∷ st)) ts k in
    (word x f, rest, (e, g), low, ap (λ (l : List Token). token.Word x ∷ l) is, c)
content-from r m st (token.TagOpens b) ts room k =
    let (e, l) = cond-was r (nat_lt (length st) r.depth) (naming (m ∷ st) (b, [])) ts k in opened r m st b ts (ltb-true (length st) r.depth e) l
content-from r m st (token.CloseOpens b) ts room k =
    let (e, (rest, is, c)) = cond-was r (b == m.0) (closing st m.1) ts k in (
      nothing,
      rest,
      tt,
      omega arith,
      ap (λ (n : ℕ). token.CloseOpens n ∷ ts) (eqb-true b m.0 e)
          ∙ ap (λ (l : List Token). token.CloseOpens m.0 ∷ l) (is ∙ sym (regroup-end (map token.NameByte m.1) rest token.CloseEnds)),
      c,
    )
content-from r m st t ts room k = absurd k

-- Before the stream's own tag.

root-to : (r : Rules) (root : RawTag) (f : Content) (ts : List Token) → KeepsRoot r root f
    → ts ≡ (map token.NameByte root.name.1 ++ (attributes_tokens root.attributes ++ token.TagEnds false ∷ [])) ++ (content_tokens f ++ end_tokens root.name)
    → Leaves r (naming [] (root.name.0, [])) ts
root-to r root f ts keeps is =
    let few = keeps.0 in let low = keeps.1 in (
      root.name.1,
      attributes_tokens root.attributes ++ (token.TagEnds false ∷ (content_tokens f ++ (end_tokens root.name ++ []))),
      is ∙ regroup-root (map token.NameByte root.name.1) (attributes_tokens root.attributes) (content_tokens f) (end_tokens root.name) (token.TagEnds false),
      (root.attributes, false, content_tokens f ++ (end_tokens root.name ++ []), omega arith, refl, (f, [], keeps.2, omega arith, refl, refl)),
    )

root-from : (r : Rules) (b : ℕ) (ts : List Token) → Leaves r (naming [] (b, [])) ts → Leaves r declared (token.TagOpens b ∷ ts)
root-from r b ts (k, rest, is, (xs, true, rest2, few, is2, bad)) = absurd bad
root-from r b ts (k, rest, is, (xs, false, rest2, few, is2, (f, r3, g, low, is3, c))) = (
  record { name = (b, k); attributes = xs },
  f,
  (omega arith, omega arith, g),
  ap (λ (l : List Token). token.TagOpens b ∷ l)
      (is ∙ (ap (λ (l : List Token). map token.NameByte k ++ l) (is2
      ∙ ap (λ (l : List Token). attributes_tokens xs ++ (token.TagEnds false ∷ l)) (is3
      ∙ ap (λ (l : List Token). content_tokens f ++ (end_tokens (b, k) ++ l)) c))
      ∙ sym (regroup-root (map token.NameByte k) (attributes_tokens xs) (content_tokens f) (end_tokens (b, k)) (token.TagEnds false)))),
)

declared-to : (r : Rules) (t : Token) (ts : List Token) → Leaves r declared (t ∷ ts) → Leaves r (before_root t) ts
declared-to r t ts (root, f, keeps, is) =
    subst (λ (u : Token). Leaves r (before_root u) ts) (sym (token_head t (token.TagOpens root.name.0) ts _ is))
    (root-to r root f ts keeps (token_tail t (token.TagOpens root.name.0) ts _ is))

declared-from : (r : Rules) (t : Token) (ts : List Token) → Leaves r (before_root t) ts → Leaves r declared (t ∷ ts)
declared-from r (token.TagOpens b) ts m = root-from r b ts m
declared-from r t ts m = absurd m

start-to : (r : Rules) (t : Token) (ts : List Token) (s : Stream) (d : Bool) → s.declared ≡ d → KeepsRoot r s.root s.content → t ∷ ts ≡ stream_tokens s
    → Leaves r (nest r start t) ts
unfolding nest
start-to r t ts s true e keeps is =
    let is1 : t ∷ ts ≡ token.Declaration ∷ root_tokens s.root s.content = is ∙ ap (λ (d : Bool). stream_tokens (record s { declared = d })) e in
    subst (λ (u : Token). Leaves r (nest r start u) ts) (sym (token_head t token.Declaration ts (root_tokens s.root s.content) is1))
    (s.root, s.content, keeps, token_tail t token.Declaration ts (root_tokens s.root s.content) is1)
start-to r t ts s false e keeps is =
    let is1 : t ∷ ts ≡ root_tokens s.root s.content = is ∙ ap (λ (d : Bool). stream_tokens (record s { declared = d })) e in
    subst (λ (u : Token). Leaves r (nest r start u) ts) (sym (token_head t (token.TagOpens s.root.name.0) ts _ is1))
    (root-to r s.root s.content ts keeps (token_tail t (token.TagOpens s.root.name.0) ts _ is1))

start-from : (r : Rules) (t : Token) (ts : List Token) → Leaves r (nest r start t) ts → Leaves r start (t ∷ ts)
unfolding nest
start-from r token.Declaration ts (root, f, keeps, is) =
    (record { declared = true; root = root; content = f }, keeps, ap (λ (l : List Token). token.Declaration ∷ l) is)
start-from r t ts m = let (root, f, keeps, is) = declared-from r t ts m in (record { declared = false; root = root; content = f }, keeps, is)

-- Each token.

none-from : (r : Rules) (t : Token) (ts : List Token) → Leaves r (nest r (inside []) t) ts → ⊥
unfolding nest
none-from r t ts k = k

declared-nest : (r : Rules) (t : Token) → nest r declared t ≡ before_root t
unfolding nest
declared-nest r t = refl

lost-nest : (r : Rules) (t : Token) → nest r lost t ≡ lost
unfolding nest
lost-nest r t = refl

pub leaves-to : (r : Rules) (n : Nest) (t : Token) (ts : List Token) → Leaves r n (t ∷ ts) → Leaves r (nest r n t) ts
leaves-to r start t ts (s, keeps, is) = start-to r t ts s s.declared refl keeps is
leaves-to r declared t ts m = subst (λ (x : Nest). Leaves r x ts) (sym (declared-nest r t)) (declared-to r t ts m)
leaves-to r (inside []) t ts m = absurd (no_token t ts m)
leaves-to r (inside (m ∷ st)) t ts (f, rest, g, low, is, c) = content-to r m st t ts rest f g low is c
leaves-to r (naming st n) t ts (k, rest, is, m) = name-to r st n t ts rest k is m
leaves-to r (in_tag st n k) t ts m = in_tag-to r st n k t ts m
leaves-to r (naming_attribute st n k) t ts (m, v, rest, is, x) = attribute_name-to r st n k t ts rest m v is x
leaves-to r (in_value st n k) t ts (v, rest, is, x) = value-to r st n k t ts rest v is x
leaves-to r (closing st m) t ts (rest, is, c) = closing-to r st m t ts rest is c
leaves-to r lost t ts m = absurd m

-- the place is within the rules
abbrev pub Room : Rules → Nest → Type 0
Room r (inside (m ∷ st)) = length st ≤ r.depth
Room r (naming st n) = length st ≤ r.depth
Room r (in_tag st n k) = (length st ≤ r.depth) × (k ≤ r.attributes)
Room r (naming_attribute st n k) = (length st ≤ r.depth) × (k ≤ r.attributes)
Room r (in_value st n k) = (length st ≤ r.depth) × (k ≤ r.attributes)
Room r (closing st m) = length st ≤ r.depth
Room r n = Unit {0}

pub leaves-from : (r : Rules) (n : Nest) (t : Token) (ts : List Token) → Room r n → Leaves r (nest r n t) ts → Leaves r n (t ∷ ts)
leaves-from r start t ts room m = start-from r t ts m
leaves-from r declared t ts room m = declared-from r t ts (subst (λ (x : Nest). Leaves r x ts) (declared-nest r t) m)
leaves-from r (inside []) t ts room m = absurd (none-from r t ts m)
leaves-from r (inside (m ∷ st)) t ts room k = content-from r m st t ts room k
leaves-from r (naming st n) t ts room m = name-from r st n t ts m
leaves-from r (in_tag st n k) t ts room m = in_tag-from r st n k t ts room.1 m
leaves-from r (naming_attribute st n k) t ts room m = attribute_name-from r st n k t ts m
leaves-from r (in_value st n k) t ts room m = value-from r st n k t ts m
leaves-from r (closing st m) t ts room k = closing-from r st m t ts k
leaves-from r lost t ts room m = absurd (let bad : Leaves r lost ts = subst (λ (x : Nest). Leaves r x ts) (lost-nest r t) m in bad)

-- The room stays.

cond-room : (r : Rules) (c : Bool) (n : Nest) → (c ≡ true → Room r n) → Room r (cond c n lost)
cond-room r true n h = h refl
cond-room r false n h = tt

room-inside : (r : Rules) (st : List RawName) → length st ≤ r.depth → Room r (inside st)
room-inside r [] h = tt
room-inside r (m ∷ st) h = omega arith

room-hollow : (r : Rules) (st : List RawName) → length st ≤ r.depth → Room r (after_hollow st)
room-hollow r [] h = tt
room-hollow r (m ∷ st) h = omega arith

room-name : (r : Rules) (st : List RawName) (n : RawName) (k : ℕ) (t : Token) → length st ≤ r.depth → Room r (after_name r st n k t)
room-name r st n k (token.AttrOpens b) h =
    cond-room r (nat_lt k r.attributes) (naming_attribute st n (k + 1)) (λ e. (h, let low : k < r.attributes = ltb-true k r.attributes e in omega arith))
room-name r st n k (token.TagEnds true) h = room-hollow r st h
room-name r st n k (token.TagEnds false) h = h
room-name r st n k t h = tt

room-root : (r : Rules) (t : Token) → Room r (before_root t)
room-root r (token.TagOpens b) = omega arith
room-root r t = tt

room-content : (r : Rules) (m : RawName) (st : List RawName) (t : Token) → length st ≤ r.depth → Room r (in_content r m st t)
room-content r m st (token.Word c) h = cond-room r (may_stand r st c) (inside (m ∷ st)) (λ e. h)
room-content r m st (token.TagOpens b) h =
    cond-room r (nat_lt (length st) r.depth) (naming (m ∷ st) (b, [])) (λ e. let low : length st < r.depth = ltb-true (length st) r.depth e in omega arith)
room-content r m st (token.CloseOpens b) h = cond-room r (b == m.0) (closing st m.1) (λ e. h)
room-content r m st t h = tt

pub nest-room : (r : Rules) (n : Nest) (t : Token) → Room r n → Room r (nest r n t)
unfolding nest
nest-room r start token.Declaration h = tt
nest-room r start t h = room-root r t
nest-room r declared t h = room-root r t
nest-room r (inside (m ∷ st)) t h = room-content r m st t h
nest-room r (naming st n) (token.NameByte x) h = h
nest-room r (naming st n) t h = room-name r st n 0 t h
nest-room r (in_tag st n k) t h = room-name r st n k t h.0
nest-room r (naming_attribute st n k) (token.AttrByte x) h = h
nest-room r (naming_attribute st n k) token.ValueOpens h = h
nest-room r (in_value st n k) (token.Value c) h = h
nest-room r (in_value st n k) token.ValueEnds h = h
nest-room r (closing st (x ∷ m)) (token.NameByte y) h = cond-room r (y == x) (closing st m) (λ e. h)
nest-room r (closing st []) token.CloseEnds h = room-inside r st h
nest-room r n t h = tt

-- Several tokens.

pub all-room : (r : Rules) (n : Nest) (us : List Token) → Room r n → Room r (nest_all r n us)
all-room r n [] h = h
all-room r n (u ∷ us) h = all-room r (nest r n u) us (nest-room r n u h)

pub all-to : (r : Rules) (n : Nest) (us ts : List Token) → Leaves r n (us ++ ts) → Leaves r (nest_all r n us) ts
all-to r n [] ts m = m
all-to r n (u ∷ us) ts m = all-to r (nest r n u) us ts (leaves-to r n u (us ++ ts) m)

pub all-from : (r : Rules) (n : Nest) (us ts : List Token) → Room r n → Leaves r (nest_all r n us) ts → Leaves r n (us ++ ts)
all-from r n [] ts room m = m
all-from r n (u ∷ us) ts room m = leaves-from r n u (us ++ ts) room (all-from r (nest r n u) us ts (nest-room r n u room) m)

pub all-more : (r : Rules) (n : Nest) (us vs : List Token) → nest_all r n (us ++ vs) ≡ nest_all r (nest_all r n us) vs
all-more r n [] vs = refl
all-more r n (u ∷ us) vs = all-more r (nest r n u) us vs

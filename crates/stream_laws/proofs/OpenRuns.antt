-- An element is open from the first token of its start tag to the one before its last.
use Rattle.std.proofs.Common.{◌≡◌, ℕ, ◌+◌, ◌⊎◌, inl, inr, List, [], ◌∷◌, ◌++◌, map, length, refl, sym, ap, ◌∙◌}
use Rattle.std.proofs.Common.{subst, append_assoc, Bool, true, false, cond, ◌&&◌, ◌==◌, nat_lt}
use Rattle.std.specs.Prelude.{Option, Some, None}
use Rattle.stream_lex.specs.declared.Token.{Token}
use Rattle.stream_lex.specs.declared.Token.TheVariants as token
use Rattle.stream_lex.proofs.Lists.{false-true}
use Rattle.stream_grammar.specs.declared.rules.Rules.{Rules}
use Rattle.stream_grammar.specs.grammar.Trees.{RawName, RawTag, Content, nothing, word, element, hollow, tag_tokens}
use Rattle.stream_grammar.specs.grammar.Trees.{end_tokens, content_tokens, declaration_tokens}
use Rattle.stream_grammar.specs.machine.Nesting.{Nest, start, declared, inside, naming, in_tag, naming_attribute, in_value, closing}
use Rattle.stream_grammar.specs.machine.Nesting.{lost, may_stand, after_hollow, after_name, nest, nest_all}
use Rattle.stream_grammar.specs.machine.Ends.{in_item_nest}
use Rattle.stream_grammar.proofs.Nested.{all-more}
use Rattle.stream_laws.proofs.Ending.{ends_element}
use Rattle.stream_laws.proofs.Made.{gathering, all-gathering, tag-body, body-then, gathering-body}
use Rattle.stream_laws.proofs.RoundTripElements.{front_tokens}

pub lost-all : (r : Rules) (us : List Token) → nest_all r lost us ≡ lost
unfolding nest
lost-all r [] = refl
lost-all r (u ∷ us) = lost-all r us

-- Where tokens lead, unless none goes on.

abbrev pub OrLost : Nest → Nest → Type 0
OrLost n m = (n ≡ m) ⊎ (n ≡ lost)

abbrev pub Leads : Rules → Nest → List Token → Nest → Type 0
Leads r n ts m = OrLost (nest_all r n ts) m

pub leads-more : (r : Rules) (n m k : Nest) (xs ys : List Token) → Leads r n xs m → Leads r m ys k → Leads r n (xs ++ ys) k
leads-more r n m k xs ys (inl e) (inl f) = inl (all-more r n xs ys ∙ (ap (λ (x : Nest). nest_all r x ys) e ∙ f))
leads-more r n m k xs ys (inl e) (inr f) = inr (all-more r n xs ys ∙ (ap (λ (x : Nest). nest_all r x ys) e ∙ f))
leads-more r n m k xs ys (inr e) l = inr (all-more r n xs ys ∙ (ap (λ (x : Nest). nest_all r x ys) e ∙ lost-all r ys))

-- after each of the tokens something is open below the stream, unless none goes on
abbrev pub IsDeep : Nest → Type 0
IsDeep n = (in_item_nest n ≡ true) ⊎ (n ≡ lost)

abbrev pub Stays : Rules → Nest → List Token → Type 0
Stays r n [] = Unit {0}
Stays r n (t ∷ ts) = IsDeep (nest r n t) × Stays r (nest r n t) ts

stays-lost : (r : Rules) (ts : List Token) → Stays r lost ts
unfolding nest
stays-lost r [] = tt
stays-lost r (t ∷ ts) = (inr refl, stays-lost r ts)

stays-more : (r : Rules) (xs ys : List Token) (n : Nest) → Stays r n xs → Stays r (nest_all r n xs) ys → Stays r n (xs ++ ys)
stays-more r [] ys n s k = k
stays-more r (x ∷ xs) ys n (one, more) k = (one, stays-more r xs ys (nest r n x) more k)

-- one part, and then another from where it leads
stays-then : (r : Rules) (n m : Nest) (xs ys : List Token) → Leads r n xs m → Stays r n xs → Stays r m ys → Stays r n (xs ++ ys)
stays-then r n m xs ys (inl e) s k = stays-more r xs ys n s (subst (λ (x : Nest). Stays r x ys) (sym e) k)
stays-then r n m xs ys (inr e) s k = stays-more r xs ys n s (subst (λ (x : Nest). Stays r x ys) (sym e) (stays-lost r ys))

pub stays-front : (r : Rules) (xs ys : List Token) (n : Nest) → Stays r n (xs ++ ys) → Stays r n xs
stays-front r [] ys n s = tt
stays-front r (x ∷ xs) ys n (one, more) = (one, stays-front r xs ys (nest r n x) more)

-- the last of them
pub stays-last : (r : Rules) (t : Token) (ts : List Token) (n : Nest) → Stays r n (t ∷ ts) → IsDeep (nest_all r n (t ∷ ts))
stays-last r t [] n (one, more) = one
stays-last r t (u ∷ us) n (one, more) = stays-last r u us (nest r n t) more

-- Inside a start tag.

abbrev InTag : List RawName → Nest → Type 0
InTag st (naming s n) = s ≡ st
InTag st (in_tag s n k) = s ≡ st
InTag st (naming_attribute s n k) = s ≡ st
InTag st (in_value s n k) = s ≡ st
InTag st lost = Unit {0}
InTag st n = ⊥

in-tag-deep : (st : List RawName) (n : Nest) → InTag st n → IsDeep n
in-tag-deep st (naming s n) h = inl refl
in-tag-deep st (in_tag s n k) h = inl refl
in-tag-deep st (naming_attribute s n k) h = inl refl
in-tag-deep st (in_value s n k) h = inl refl
in-tag-deep st lost h = inr refl
in-tag-deep st n h = absurd h

cond-tag : (c : Bool) (st : List RawName) (n : Nest) → InTag st n → InTag st (cond c n lost)
cond-tag true st n h = h
cond-tag false st n h = tt

after-name-tag : (r : Rules) (st s : List RawName) (n : RawName) (k : ℕ) (t : Token) → gathering t ≡ true → s ≡ st → InTag st (after_name r s n k t)
after-name-tag r st s n k (token.AttrOpens b) g h = cond-tag (nat_lt k r.attributes) st (naming_attribute s n (k + 1)) h
after-name-tag r st s n k (token.TagEnds e) g h = false-true g
after-name-tag r st s n k t g h = tt

tag-next : (r : Rules) (st : List RawName) (n : Nest) (t : Token) → gathering t ≡ true → InTag st n → InTag st (nest r n t)
unfolding nest
tag-next r st (naming s n) (token.NameByte x) g h = h
tag-next r st (naming s n) t g h = after-name-tag r st s n 0 t g h
tag-next r st (in_tag s n k) t g h = after-name-tag r st s n k t g h
tag-next r st (naming_attribute s n k) (token.AttrByte x) g h = h
tag-next r st (naming_attribute s n k) token.ValueOpens g h = h
tag-next r st (naming_attribute s n k) t g h = tt
tag-next r st (in_value s n k) (token.Value c) g h = h
tag-next r st (in_value s n k) token.ValueEnds g h = h
tag-next r st (in_value s n k) t g h = tt
tag-next r st lost t g h = tt
tag-next r st n t g h = absurd h

both : (s t : Bool) → (s && t) ≡ true → (s ≡ true) × (t ≡ true)
both true t h = (refl, h)
both false t h = false-true h

tag-stays : (r : Rules) (st : List RawName) (ts : List Token) (n : Nest) → all-gathering ts ≡ true → InTag st n → Stays r n ts × InTag st (nest_all r n ts)
tag-stays r st [] n g h = (tt, h)
tag-stays r st (t ∷ ts) n g h =
    let (one, more) = both (gathering t) (all-gathering ts) g in
    let next : InTag st (nest r n t) = tag-next r st n t one h in
    let (stays, last) = tag-stays r st ts (nest r n t) more next in
    ((in-tag-deep st (nest r n t) next, stays), last)

-- what is opened in the content of an element, or as the stream
abbrev Opening : Rules → Nest → List RawName → Type 0
Opening r n st = (b : ℕ) → InTag st (nest r n (token.TagOpens b))

opening-in : (r : Rules) (x : RawName) (st : List RawName) → Opening r (inside (x ∷ st)) (x ∷ st)
unfolding nest
opening-in r x st b = cond-tag (nat_lt (length st) r.depth) (x ∷ st) (naming (x ∷ st) (b, [])) refl

opening-start : (r : Rules) → Opening r start []
unfolding nest
opening-start r b = refl

opening-declared : (r : Rules) → Opening r declared []
unfolding nest
opening-declared r b = refl

body-stays : (r : Rules) (n : Nest) (st : List RawName) (t : RawTag) → Opening r n st → Stays r n (tag-body t) × InTag st (nest_all r n (tag-body t))
body-stays r n st t o =
    let first : InTag st (nest r n (token.TagOpens t.name.0)) = o t.name.0 in
    let (stays, last) = tag-stays r st _ (nest r n (token.TagOpens t.name.0)) (gathering-body t) first in
    ((in-tag-deep st (nest r n (token.TagOpens t.name.0)) first, stays), last)

-- The end of a start tag.

abbrev OpenedIn : List RawName → Nest → Type 0
OpenedIn st n = ((k : RawName) × (n ≡ inside (k ∷ st))) ⊎ (n ≡ lost)

tag-opened : (r : Rules) (st : List RawName) (n : Nest) → InTag st n → OpenedIn st (nest r n (token.TagEnds false))
unfolding nest
tag-opened r st (naming s n) h = inl (n, ap (λ (x : List RawName). inside (n ∷ x)) h)
tag-opened r st (in_tag s n k) h = inl (n, ap (λ (x : List RawName). inside (n ∷ x)) h)
tag-opened r st (naming_attribute s n k) h = inr refl
tag-opened r st (in_value s n k) h = inr refl
tag-opened r st lost h = inr refl
tag-opened r st n h = absurd h

tag-hollow : (r : Rules) (x : RawName) (st : List RawName) (n : Nest) → InTag (x ∷ st) n → OrLost (nest r n (token.TagEnds true)) (inside (x ∷ st))
unfolding nest
tag-hollow r x st (naming s n) h = inl (ap after_hollow h)
tag-hollow r x st (in_tag s n k) h = inl (ap after_hollow h)
tag-hollow r x st (naming_attribute s n k) h = inr refl
tag-hollow r x st (in_value s n k) h = inr refl
tag-hollow r x st lost h = inr refl
tag-hollow r x st n h = absurd h

tag-all : (r : Rules) (n : Nest) (t : RawTag) (e : Bool) → nest_all r n (tag_tokens t e) ≡ nest r (nest_all r n (tag-body t)) (token.TagEnds e)
tag-all r n t e = ap (nest_all r n) (body-then t e) ∙ all-more r n (tag-body t) (token.TagEnds e ∷ [])

start-tag-leads : (r : Rules) (n : Nest) (st : List RawName) (t : RawTag) → Opening r n st → OpenedIn st (nest_all r n (tag_tokens t false))
start-tag-leads r n st t o = subst (OpenedIn st) (sym (tag-all r n t false)) (tag-opened r st (nest_all r n (tag-body t)) (body-stays r n st t o).1)

hollow-tag-leads : (r : Rules) (x : RawName) (st : List RawName) (t : RawTag) → Leads r (inside (x ∷ st)) (tag_tokens t true) (inside (x ∷ st))
hollow-tag-leads r x st t =
    subst (λ (n : Nest). OrLost n (inside (x ∷ st))) (sym (tag-all r (inside (x ∷ st)) t true))
    (tag-hollow r x st (nest_all r (inside (x ∷ st)) (tag-body t)) (body-stays r (inside (x ∷ st)) (x ∷ st) t (opening-in r x st)).1)

-- End tags.

abbrev InClose : List RawName → Nest → Type 0
InClose st (closing s m) = s ≡ st
InClose st lost = Unit {0}
InClose st n = ⊥

close-deep : (x : RawName) (st : List RawName) (n : Nest) → InClose (x ∷ st) n → IsDeep n
close-deep x st (closing s m) h = inl (ap (λ (z : List RawName). in_item_nest (closing z m)) h)
close-deep x st lost h = inr refl
close-deep x st n h = absurd h

cond-close : (c : Bool) (st : List RawName) (n : Nest) → InClose st n → InClose st (cond c n lost)
cond-close true st n h = h
cond-close false st n h = tt

close-next : (r : Rules) (st : List RawName) (n : Nest) (z : ℕ) → InClose st n → InClose st (nest r n (token.NameByte z))
unfolding nest
close-next r st (closing s []) z h = tt
close-next r st (closing s (y ∷ m)) z h = cond-close (z == y) st (closing s m) h
close-next r st lost z h = tt
close-next r st n z h = absurd h

close-name : (r : Rules) (x : RawName) (st : List RawName) (bs : List ℕ) (n : Nest) → InClose (x ∷ st) n
    → Stays r n (map token.NameByte bs) × InClose (x ∷ st) (nest_all r n (map token.NameByte bs))
close-name r x st [] n h = (tt, h)
close-name r x st (b ∷ bs) n h =
    let next : InClose (x ∷ st) (nest r n (token.NameByte b)) = close-next r (x ∷ st) n b h in
    let (stays, last) = close-name r x st bs (nest r n (token.NameByte b)) next in
    ((close-deep x st (nest r n (token.NameByte b)) next, stays), last)

-- an end tag up to its `>`
abbrev pub end-body : RawName → List Token
end-body n = token.CloseOpens n.0 ∷ map token.NameByte n.1

close-opens : (r : Rules) (k : RawName) (st : List RawName) (b : ℕ) → InClose st (nest r (inside (k ∷ st)) (token.CloseOpens b))
unfolding nest
close-opens r k st b = cond-close (b == k.0) st (closing st k.1) refl

end-stays : (r : Rules) (k x : RawName) (st : List RawName) (n : RawName)
    → Stays r (inside (k ∷ x ∷ st)) (end-body n) × InClose (x ∷ st) (nest_all r (inside (k ∷ x ∷ st)) (end-body n))
end-stays r k x st n =
    let first : InClose (x ∷ st) (nest r (inside (k ∷ x ∷ st)) (token.CloseOpens n.0)) = close-opens r k (x ∷ st) n.0 in
    let (stays, last) = close-name r x st n.1 (nest r (inside (k ∷ x ∷ st)) (token.CloseOpens n.0)) first in
    ((close-deep x st (nest r (inside (k ∷ x ∷ st)) (token.CloseOpens n.0)) first, stays), last)

close-ends : (r : Rules) (st : List RawName) (n : Nest) → InClose st n → OrLost (nest r n token.CloseEnds) (inside st)
unfolding nest
close-ends r st (closing s []) h = inl (ap inside h)
close-ends r st (closing s (y ∷ m)) h = inr refl
close-ends r st lost h = inr refl
close-ends r st n h = absurd h

end-leads : (r : Rules) (k x : RawName) (st : List RawName) (n : RawName) → Leads r (inside (k ∷ x ∷ st)) (end_tokens n) (inside (x ∷ st))
end-leads r k x st n =
    subst (λ (m : Nest). OrLost m (inside (x ∷ st))) (sym (all-more r (inside (k ∷ x ∷ st)) (end-body n) (token.CloseEnds ∷ [])))
    (close-ends r (x ∷ st) (nest_all r (inside (k ∷ x ∷ st)) (end-body n)) (end-stays r k x st n).1)

-- Content leads back to where it began.

cond-lost : (c : Bool) (n : Nest) → OrLost (cond c n lost) n
cond-lost true n = inl refl
cond-lost false n = inr refl

word-leads : (r : Rules) (x : RawName) (st : List RawName) (c : ℕ) → OrLost (nest r (inside (x ∷ st)) (token.Word c)) (inside (x ∷ st))
unfolding nest
word-leads r x st c = cond-lost (may_stand r st c) (inside (x ∷ st))

-- an element's tags and what is between them
abbrev pub round_tokens : RawTag → Content → List Token
round_tokens t g = tag_tokens t false ++ (content_tokens g ++ end_tokens t.name)

regroup-round : (t g e f : List Token) → t ++ (g ++ (e ++ f)) ≡ (t ++ (g ++ e)) ++ f
regroup-round t g e f = simp append_assoc

round-leads : (r : Rules) (x : RawName) (st : List RawName) (t : RawTag) (g : Content)
    → ((k : RawName) → Leads r (inside (k ∷ x ∷ st)) (content_tokens g) (inside (k ∷ x ∷ st))) → Leads r (inside (x ∷ st)) (round_tokens t g) (inside (x ∷ st))
round-leads r x st t g inner = elim (start-tag-leads r (inside (x ∷ st)) (x ∷ st) t (opening-in r x st)) [
  | inl p ↦ leads-more r (inside (x ∷ st)) (inside (p.0 ∷ x ∷ st)) (inside (x ∷ st)) (tag_tokens t false) (content_tokens g ++ end_tokens t.name) (inl p.1)
      (leads-more r (inside (p.0 ∷ x ∷ st)) (inside (p.0 ∷ x ∷ st)) (inside (x ∷ st)) (content_tokens g) (end_tokens t.name) (inner p.0)
      (end-leads r p.0 x st t.name))
  | inr e ↦ inr (all-more r (inside (x ∷ st)) (tag_tokens t false) (content_tokens g ++ end_tokens t.name)
      ∙ (ap (λ (n : Nest). nest_all r n (content_tokens g ++ end_tokens t.name)) e ∙ lost-all r (content_tokens g ++ end_tokens t.name)))
]

pub content-leads : (f : Content) (r : Rules) (x : RawName) (st : List RawName) → Leads r (inside (x ∷ st)) (content_tokens f) (inside (x ∷ st))
content-leads nothing r x st = inl refl
content-leads (word c f) r x st = leads-more r (inside (x ∷ st)) (inside (x ∷ st)) (inside (x ∷ st)) (token.Word c ∷ []) (content_tokens f)
    (word-leads r x st c) (content-leads f r x st)
content-leads (element t g f) r x st =
    subst (λ (l : List Token). Leads r (inside (x ∷ st)) l (inside (x ∷ st)))
    (sym (regroup-round (tag_tokens t false) (content_tokens g) (end_tokens t.name) (content_tokens f)))
    (leads-more r (inside (x ∷ st)) (inside (x ∷ st)) (inside (x ∷ st)) (round_tokens t g) (content_tokens f)
    (round-leads r x st t g (λ k. content-leads g r k (x ∷ st))) (content-leads f r x st))
content-leads (hollow t f) r x st = leads-more r (inside (x ∷ st)) (inside (x ∷ st)) (inside (x ∷ st)) (tag_tokens t true) (content_tokens f)
    (hollow-tag-leads r x st t) (content-leads f r x st)

-- Content of an element below the stream is deep.

deep-of : (n m : Nest) → OrLost n m → in_item_nest m ≡ true → IsDeep n
deep-of n m (inl e) h = inl (ap in_item_nest e ∙ h)
deep-of n m (inr e) h = inr e

one-deep : (r : Rules) (n : Nest) (xs : List Token) (t : Token) → Stays r n xs → IsDeep (nest r (nest_all r n xs) t) → Stays r n (xs ++ t ∷ [])
one-deep r n xs t s d = stays-more r xs (t ∷ []) n s (d, tt)

start-tag-stays : (r : Rules) (x : RawName) (st : List RawName) (t : RawTag) → Stays r (inside (x ∷ st)) (tag_tokens t false)
start-tag-stays r x st t =
    let (stays, last) = body-stays r (inside (x ∷ st)) (x ∷ st) t (opening-in r x st) in
    subst (Stays r (inside (x ∷ st))) (sym (body-then t false))
    (one-deep r (inside (x ∷ st)) (tag-body t) (token.TagEnds false) stays
    (deep (nest r (nest_all r (inside (x ∷ st)) (tag-body t)) (token.TagEnds false))
    (tag-opened r (x ∷ st) (nest_all r (inside (x ∷ st)) (tag-body t)) last)))
  where
    deep : (n : Nest) → OpenedIn (x ∷ st) n → IsDeep n
    deep n (inl (k, e)) = inl (ap in_item_nest e)
    deep n (inr e) = inr e

hollow-tag-stays : (r : Rules) (x y : RawName) (st : List RawName) (t : RawTag) → Stays r (inside (x ∷ y ∷ st)) (tag_tokens t true)
hollow-tag-stays r x y st t =
    let (stays, last) = body-stays r (inside (x ∷ y ∷ st)) (x ∷ y ∷ st) t (opening-in r x (y ∷ st)) in
    subst (Stays r (inside (x ∷ y ∷ st))) (sym (body-then t true))
    (one-deep r (inside (x ∷ y ∷ st)) (tag-body t) (token.TagEnds true) stays
    (deep-of _ (inside (x ∷ y ∷ st)) (tag-hollow r x (y ∷ st) (nest_all r (inside (x ∷ y ∷ st)) (tag-body t)) last) refl))

-- an element without its last token
abbrev pub round_body : RawTag → Content → List Token
round_body t g = tag_tokens t false ++ (content_tokens g ++ end-body t.name)

round-stays : (r : Rules) (x : RawName) (st : List RawName) (t : RawTag) (g : Content) → ((k : RawName) → Stays r (inside (k ∷ x ∷ st)) (content_tokens g))
    → Stays r (inside (x ∷ st)) (round_body t g)
round-stays r x st t g inner = stays-more r (tag_tokens t false) (content_tokens g ++ end-body t.name) (inside (x ∷ st)) (start-tag-stays r x st t)
    (by (nest_all r (inside (x ∷ st)) (tag_tokens t false)) (start-tag-leads r (inside (x ∷ st)) (x ∷ st) t (opening-in r x st)))
  where
    by : (n : Nest) → OpenedIn (x ∷ st) n → Stays r n (content_tokens g ++ end-body t.name)
    by n (inl (k, e)) =
        subst (λ (m : Nest). Stays r m (content_tokens g ++ end-body t.name)) (sym e)
        (stays-then r (inside (k ∷ x ∷ st)) (inside (k ∷ x ∷ st)) (content_tokens g) (end-body t.name) (content-leads g r k (x ∷ st)) (inner k)
        (end-stays r k x st t.name).0)
    by n (inr e) = subst (λ (m : Nest). Stays r m (content_tokens g ++ end-body t.name)) (sym e) (stays-lost r (content_tokens g ++ end-body t.name))

pub round-split : (t : RawTag) (g : Content) → round_tokens t g ≡ round_body t g ++ token.CloseEnds ∷ []
round-split t g = regroup (tag_tokens t false) (content_tokens g) (end-body t.name) token.CloseEnds
  where
    regroup : (a b c : List Token) (e : Token) → a ++ (b ++ (c ++ e ∷ [])) ≡ (a ++ (b ++ c)) ++ e ∷ []
    regroup a b c e = simp append_assoc

content-stays : (f : Content) (r : Rules) (x y : RawName) (st : List RawName) → Stays r (inside (x ∷ y ∷ st)) (content_tokens f)
content-stays nothing r x y st = tt
content-stays (word c f) r x y st =
    stays-then r (inside (x ∷ y ∷ st)) (inside (x ∷ y ∷ st)) (token.Word c ∷ []) (content_tokens f) (word-leads r x (y ∷ st) c)
    (deep-of _ (inside (x ∷ y ∷ st)) (word-leads r x (y ∷ st) c) refl, tt) (content-stays f r x y st)
content-stays (element t g f) r x y st =
    let here : Nest = inside (x ∷ y ∷ st) in
    let back : Leads r here (round_tokens t g) here = round-leads r x (y ∷ st) t g (λ k. content-leads g r k (x ∷ y ∷ st)) in
    let body : Stays r here (round_body t g) = round-stays r x (y ∷ st) t g (λ k. content-stays g r k x (y ∷ st)) in
    let last : IsDeep (nest r (nest_all r here (round_body t g)) token.CloseEnds) =
    subst IsDeep (ap (nest_all r here) (round-split t g) ∙ all-more r here (round_body t g) (token.CloseEnds ∷ [])) (deep-of _ here back refl) in
    let all : Stays r here (round_tokens t g) = subst (Stays r here) (sym (round-split t g)) (one-deep r here (round_body t g) token.CloseEnds body last) in
    subst (Stays r here) (sym (regroup-round (tag_tokens t false) (content_tokens g) (end_tokens t.name) (content_tokens f)))
    (stays-then r here here (round_tokens t g) (content_tokens f) back all (content-stays f r x y st))
content-stays (hollow t f) r x y st =
    stays-then r (inside (x ∷ y ∷ st)) (inside (x ∷ y ∷ st)) (tag_tokens t true) (content_tokens f) (hollow-tag-leads r x (y ∷ st) t)
    (hollow-tag-stays r x y st t) (content-stays f r x y st)

-- A top element: its tokens but the last.

abbrev pub TopInit : Rules → RawName → RawTag → Option Content → Type 0
TopInit r x t b = (us : List Token) × (u : Token) × (front_tokens t b ≡ us ++ u ∷ []) × (ends_element u ≡ true) × Stays r (inside (x ∷ [])) us
    × ((v : Token) × (vs : List Token) × (us ≡ v ∷ vs))

pub top-init : (r : Rules) (x : RawName) (t : RawTag) (b : Option Content) → TopInit r x t b
top-init r x t None = (tag-body t, token.TagEnds true, body-then t true, refl, (body-stays r (inside (x ∷ [])) (x ∷ []) t (opening-in r x [])).0, (_, _, refl))
top-init r x t (Some g) = (round_body t g, token.CloseEnds, round-split t g, refl, round-stays r x [] t g (λ k. content-stays g r k x []), (_, _, refl))

-- The start of a stream leads to where only the stream is open.

root-leads : (r : Rules) (n : Nest) (root : RawTag) (f : Content) → Opening r n [] → OpenedIn [] (nest_all r n (tag_tokens root false ++ content_tokens f))
root-leads r n root f o = by (start-tag-leads r n [] root o)
  where
    more : (k : RawName) → OrLost (nest_all r (inside (k ∷ [])) (content_tokens f)) (inside (k ∷ [])) → nest_all r n (tag_tokens root false) ≡ inside (k ∷ [])
        → OpenedIn [] (nest_all r n (tag_tokens root false ++ content_tokens f))
    more k (inl e) h = inl (k, all-more r n (tag_tokens root false) (content_tokens f) ∙ (ap (λ (x : Nest). nest_all r x (content_tokens f)) h ∙ e))
    more k (inr e) h = inr (all-more r n (tag_tokens root false) (content_tokens f) ∙ (ap (λ (x : Nest). nest_all r x (content_tokens f)) h ∙ e))

    by : OpenedIn [] (nest_all r n (tag_tokens root false)) → OpenedIn [] (nest_all r n (tag_tokens root false ++ content_tokens f))
    by (inl (k, e)) = more k (content-leads f r k []) e
    by (inr e) = inr (all-more r n (tag_tokens root false) (content_tokens f)
        ∙ (ap (λ (x : Nest). nest_all r x (content_tokens f)) e ∙ lost-all r (content_tokens f)))

pub head-leads : (r : Rules) (d : Bool) (root : RawTag) (f : Content)
    → ((k : RawName) × (nest_all r start (declaration_tokens d ++ (tag_tokens root false ++ content_tokens f)) ≡ inside (k ∷ [])))
    ⊎ (nest_all r start (declaration_tokens d ++ (tag_tokens root false ++ content_tokens f)) ≡ lost)
unfolding nest
head-leads r true root f = root-leads r declared root f (opening-declared r)
head-leads r false root f = root-leads r start root f (opening-start r)

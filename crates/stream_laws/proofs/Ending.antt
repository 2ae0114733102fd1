-- Where a tag closes what is open, a header or a top element ends.
use Rattle.std.proofs.Common.{◌≡◌, ℕ, List, [], ◌∷◌, ◌++◌, map, refl, sym, ap, ◌∙◌, append_assoc, Bool, true, false}
use Rattle.stream_lex.specs.declared.Token.{Token}
use Rattle.stream_lex.specs.declared.Token.TheVariants as token
use Rattle.stream_grammar.specs.grammar.Trees.{RawName, RawTag, Content, nothing, word, element, hollow, Stream, attributes_tokens}
use Rattle.stream_grammar.specs.grammar.Trees.{tag_tokens, content_tokens, end_tokens, declaration_tokens, stream_tokens}
use Rattle.stream_grammar.specs.grammar.Items.{head_tokens, ends_so}
use Rattle.stream_grammar.proofs.Nested.{token_head, token_tail, no_token}

-- The last token.

pub last-same : (xs ys : List Token) (x y : Token) → xs ++ x ∷ [] ≡ ys ++ y ∷ [] → x ≡ y
last-same [] [] x y e = token_head x y [] [] e
last-same [] (v ∷ ys) x y e = absurd (not-nil ys y (sym (token_tail x v [] (ys ++ y ∷ []) e)))
  where
    not-nil : (ys : List Token) (y : Token) → ys ++ y ∷ [] ≡ [] → ⊥
    not-nil [] y e = no_token y [] e
    not-nil (v ∷ ys) y e = no_token v (ys ++ y ∷ []) e
last-same (u ∷ xs) [] x y e = absurd (not-nil xs x (token_tail u y (xs ++ x ∷ []) [] e))
  where
    not-nil : (ys : List Token) (y : Token) → ys ++ y ∷ [] ≡ [] → ⊥
    not-nil [] y e = no_token y [] e
    not-nil (v ∷ ys) y e = no_token v (ys ++ y ∷ []) e
last-same (u ∷ xs) (v ∷ ys) x y e = last-same xs ys x y (token_tail u v (xs ++ x ∷ []) (ys ++ y ∷ []) e)

-- the last token of content, after another
pub last_in : Content → Token → Token
last_in nothing x = x
last_in (word c f) x = last_in f (token.Word c)
last_in (element t g f) x = last_in f token.CloseEnds
last_in (hollow t f) x = last_in f (token.TagEnds true)

pub last-nothing : (x : Token) → last_in nothing x ≡ x
unfolding last_in
last-nothing x = refl

regroup-word : (p f : List Token) (x w : Token) → p ++ (x ∷ (w ∷ f)) ≡ (p ++ x ∷ []) ++ (w ∷ f)
regroup-word p f x w = simp append_assoc

regroup-element : (p n us g m f : List Token) (x o e c k : Token)
    → p ++ (x ∷ ((o ∷ (n ++ (us ++ e ∷ []))) ++ (g ++ ((c ∷ (m ++ k ∷ [])) ++ f)))) ≡ (p ++ (x ∷ ((o ∷ (n ++ (us ++ e ∷ []))) ++ (g ++ (c ∷ m))))) ++ (k ∷ f)
regroup-element p n us g m f x o e c k = simp append_assoc

regroup-hollow : (p n us f : List Token) (x o e : Token) → p ++ (x ∷ ((o ∷ (n ++ (us ++ e ∷ []))) ++ f)) ≡ (p ++ (x ∷ (o ∷ (n ++ us)))) ++ (e ∷ f)
regroup-hollow p n us f x o e = simp append_assoc

last-is : (f : Content) (p ts : List Token) (x t : Token) → p ++ (x ∷ content_tokens f) ≡ ts ++ t ∷ [] → last_in f x ≡ t
unfolding last_in
last-is nothing p ts x t e = last-same p ts x t e
last-is (word c f) p ts x t e = last-is f (p ++ x ∷ []) ts (token.Word c) t (sym (regroup-word p (content_tokens f) x (token.Word c)) ∙ e)
last-is (element n g f) p ts x t e =
    last-is f (p ++ (x ∷ (tag_tokens n false ++ (content_tokens g ++ (token.CloseOpens n.name.0 ∷ map token.NameByte n.name.1))))) ts token.CloseEnds t
    (sym (regroup-element p (map token.NameByte n.name.1) (attributes_tokens n.attributes) (content_tokens g) (map token.NameByte n.name.1) (content_tokens f) x
    (token.TagOpens n.name.0) (token.TagEnds false) (token.CloseOpens n.name.0) token.CloseEnds) ∙ e)
last-is (hollow n f) p ts x t e =
    last-is f (p ++ (x ∷ (token.TagOpens n.name.0 ∷ (map token.NameByte n.name.1 ++ attributes_tokens n.attributes)))) ts (token.TagEnds true) t
    (sym (regroup-hollow p (map token.NameByte n.name.1) (attributes_tokens n.attributes) (content_tokens f) x (token.TagOpens n.name.0) (token.TagEnds true))
    ∙ e)

-- the end of an element
abbrev pub ends_element : Token → Bool
ends_element token.CloseEnds = true
ends_element (token.TagEnds e) = e
ends_element t = false

pub last-ends : (f : Content) (x : Token) → ends_element (last_in f x) ≡ ends_so (ends_element x) f
unfolding last_in
last-ends nothing x = refl
last-ends (word c f) x = last-ends f (token.Word c)
last-ends (element n g f) x = last-ends f token.CloseEnds
last-ends (hollow n f) x = last-ends f (token.TagEnds true)

abbrev pub is_tag_end : Token → Bool
is_tag_end (token.TagEnds false) = true
is_tag_end t = false

never-start : (f : Content) (x : Token) → is_tag_end x ≡ false → is_tag_end (last_in f x) ≡ false
unfolding last_in
never-start nothing x h = h
never-start (word c f) x h = never-start f (token.Word c) refl
never-start (element n g f) x h = never-start f token.CloseEnds refl
never-start (hollow n f) x h = never-start f (token.TagEnds true) refl

start-nothing : (f : Content) (x : Token) → last_in f x ≡ token.TagEnds false → f ≡ nothing
unfolding last_in
start-nothing nothing x e = refl
start-nothing (word c f) x e = absurd (let bad : false ≡ true = sym (never-start f (token.Word c) refl) ∙ ap is_tag_end e in cc)
start-nothing (element n g f) x e = absurd (let bad : false ≡ true = sym (never-start f token.CloseEnds refl) ∙ ap is_tag_end e in cc)
start-nothing (hollow n f) x e = absurd (let bad : false ≡ true = sym (never-start f (token.TagEnds true) refl) ∙ ap is_tag_end e in cc)

-- of a head
regroup-head : (d n us f : List Token) (o e : Token) → d ++ ((o ∷ (n ++ (us ++ e ∷ []))) ++ f) ≡ (d ++ (o ∷ (n ++ us))) ++ (e ∷ f)
regroup-head d n us f o e = simp append_assoc

pub head-last : (d : Bool) (root : RawTag) (f : Content) (ts : List Token) (t : Token) → head_tokens d root f ≡ ts ++ t ∷ []
    → last_in f (token.TagEnds false) ≡ t
head-last d root f ts t e =
    last-is f (declaration_tokens d ++ (token.TagOpens root.name.0 ∷ (map token.NameByte root.name.1 ++ attributes_tokens root.attributes))) ts
    (token.TagEnds false) t
    (sym (regroup-head (declaration_tokens d) (map token.NameByte root.name.1) (attributes_tokens root.attributes) (content_tokens f)
    (token.TagOpens root.name.0) (token.TagEnds false)) ∙ e)

pub head-ends : (d : Bool) (root : RawTag) (f : Content) (ts : List Token) (t : Token) → head_tokens d root f ≡ ts ++ t ∷ [] → ends_element t ≡ true
    → ends_so false f ≡ true
head-ends d root f ts t e h = sym (last-ends f (token.TagEnds false)) ∙ (ap ends_element (head-last d root f ts t e) ∙ h)

pub head-empty : (d : Bool) (root : RawTag) (f : Content) (ts : List Token) → head_tokens d root f ≡ ts ++ token.TagEnds false ∷ [] → f ≡ nothing
head-empty d root f ts e = start-nothing f (token.TagEnds false) (head-last d root f ts (token.TagEnds false) e)

-- Before an end tag.

no-open : (l : List ℕ) (xs : List Token) (b : ℕ) (ys : List Token) → map token.NameByte l ++ token.CloseEnds ∷ [] ≡ xs ++ (token.CloseOpens b ∷ ys) → ⊥
no-open [] [] b ys e = let bad : token.CloseEnds ≡ token.CloseOpens b = token_head _ _ [] ys e in cc
no-open [] (x ∷ xs) b ys e = not-nil xs (sym (token_tail token.CloseEnds x [] (xs ++ (token.CloseOpens b ∷ ys)) e))
  where
    not-nil : (xs : List Token) → xs ++ (token.CloseOpens b ∷ ys) ≡ [] → ⊥
    not-nil [] e = no_token _ _ e
    not-nil (x ∷ xs) e = no_token x _ e
no-open (y ∷ l) [] b ys e = let bad : token.NameByte y ≡ token.CloseOpens b = token_head _ _ (map token.NameByte l ++ token.CloseEnds ∷ []) ys e in cc
no-open (y ∷ l) (x ∷ xs) b ys e =
    no-open l xs b ys (token_tail (token.NameByte y) x (map token.NameByte l ++ token.CloseEnds ∷ []) (xs ++ (token.CloseOpens b ∷ ys)) e)

pub before-end : (xs ys : List Token) (n m : RawName) → xs ++ end_tokens n ≡ ys ++ end_tokens m → xs ≡ ys
before-end [] [] n m e = refl
before-end [] (y ∷ ys) n m e =
    absurd (no-open n.1 ys m.0 (map token.NameByte m.1 ++ token.CloseEnds ∷ []) (token_tail (token.CloseOpens n.0) y _ (ys ++ end_tokens m) e))
before-end (x ∷ xs) [] n m e =
    absurd (no-open m.1 xs n.0 (map token.NameByte n.1 ++ token.CloseEnds ∷ []) (sym (token_tail x (token.CloseOpens m.0) (xs ++ end_tokens n) _ e)))
before-end (x ∷ xs) (y ∷ ys) n m e =
    ap (λ (t : Token). t ∷ xs) (token_head x y (xs ++ end_tokens n) (ys ++ end_tokens m) e)
    ∙ ap (λ (l : List Token). y ∷ l) (before-end xs ys n m (token_tail x y (xs ++ end_tokens n) (ys ++ end_tokens m) e))

pub regroup-stream : (d t f e : List Token) → d ++ (t ++ (f ++ e)) ≡ (d ++ (t ++ f)) ++ e
regroup-stream d t f e = simp append_assoc

-- tokens that an end tag makes a stream are the head of one
pub head-of : (s : Stream) (ts : List Token) (m : RawName) → ts ++ end_tokens m ≡ stream_tokens s → ts ≡ head_tokens s.declared s.root s.content
head-of s ts m e =
    before-end ts (head_tokens s.declared s.root s.content) m s.root.name
    (e ∙ regroup-stream (declaration_tokens s.declared) (tag_tokens s.root false) (content_tokens s.content) (end_tokens s.root.name))

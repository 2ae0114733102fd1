-- Where one set of rules keeps a frame open, so does each that allows more, and the frame is the same.
use Rattle.std.proofs.Common.{◌≡◌, ℕ, ◌+◌, ◌<◌, ◌≤◌, List, [], ◌∷◌, ◌++◌, length, refl, sym, ap, ◌∙◌, Bool, true, false, cond, ◌||◌, nat_lt, arith}
use Rattle.std.proofs.lemmas.Bool.{cond-true, lt-ltb, ltb-true}
use Rattle.stream_lex.specs.declared.Token.{Token}
use Rattle.stream_lex.specs.declared.Token.TheVariants as token
use Rattle.stream_lex.specs.declared.stages.State.{State}
use Rattle.stream_lex.specs.machine.Turns.{Outcome, leads, fails, turn}
use Rattle.stream_grammar.specs.grammar.Trees.{RawName, is_space}
use Rattle.stream_grammar.specs.declared.rules.Rules.{Rules}
use Rattle.stream_grammar.specs.machine.Nesting.{Nest, start, declared, inside, naming, in_tag, naming_attribute, in_value, closing}
use Rattle.stream_grammar.specs.machine.Nesting.{lost, is_root, may_stand, in_content, after_name, nest, nest_all}
use Rattle.stream_grammar.specs.machine.Framing.{comes_to_space, goes_with, Frame, open_at, ended, broken, placed, settled, frame_next, frame_after, is_broken}

pub record Allows (r q : Rules) : Type 0 where
  pub depth : r.depth ≤ q.depth
  pub attributes : r.attributes ≤ q.attributes
  pub loose : r.loose ≡ true → q.loose ≡ true

is_lost : Nest → Bool
is_lost lost = true
is_lost n = false

cond-kept : (c d : Bool) (n : Nest) → (c ≡ true → d ≡ true) → is_lost (cond c n lost) ≡ false → cond c n lost ≡ cond d n lost
unfolding is_lost
cond-kept true d n h e = sym (cond-true d n lost (h refl))
cond-kept false d n h e = absurd (let bad : true ≡ false = e in cc)

lower : (n a b : ℕ) → a ≤ b → nat_lt n a ≡ true → nat_lt n b ≡ true
lower n a b h e = lt-ltb n b (let k : n < a = ltb-true n a e in omega arith)

or-more : (s t u : Bool) → (t ≡ true → u ≡ true) → (s || t) ≡ true → (s || u) ≡ true
or-more true t u h e = refl
or-more false t u h e = h e

root-more : (r q : Rules) (st : List RawName) → Allows r q → cond (is_root st) r.loose true ≡ true → cond (is_root st) q.loose true ≡ true
root-more r q [] a e = a.loose e
root-more r q (m ∷ st) a e = refl

name-kept : (r q : Rules) (st : List RawName) (n : RawName) (k : ℕ) (t : Token) → Allows r q → is_lost (after_name r st n k t) ≡ false
    → after_name r st n k t ≡ after_name q st n k t
unfolding is_lost
name-kept r q st n k (token.AttrOpens b) a e =
    cond-kept (nat_lt k r.attributes) (nat_lt k q.attributes) (naming_attribute st n (k + 1)) (lower k r.attributes q.attributes a.attributes) e
name-kept r q st n k (token.TagEnds true) a e = refl
name-kept r q st n k (token.TagEnds false) a e = refl
name-kept r q st n k t a e = refl

content-kept : (r q : Rules) (m : RawName) (st : List RawName) (t : Token) → Allows r q → is_lost (in_content r m st t) ≡ false
    → in_content r m st t ≡ in_content q m st t
unfolding is_lost
content-kept r q m st (token.Word c) a e =
    cond-kept (may_stand r st c) (may_stand q st c) (inside (m ∷ st))
    (or-more (is_space c) (cond (is_root st) r.loose true) (cond (is_root st) q.loose true) (root-more r q st a)) e
content-kept r q m st (token.TagOpens b) a e =
    cond-kept (nat_lt (length st) r.depth) (nat_lt (length st) q.depth) (naming (m ∷ st) (b, [])) (lower (length st) r.depth q.depth a.depth) e
content-kept r q m st t a e = refl

nest-kept : (r q : Rules) (n : Nest) (t : Token) → Allows r q → is_lost (nest r n t) ≡ false → nest r n t ≡ nest q n t
unfolding nest is_lost
nest-kept r q start token.Declaration a e = refl
nest-kept r q start t a e = refl
nest-kept r q declared t a e = refl
nest-kept r q (inside (m ∷ st)) t a e = content-kept r q m st t a e
nest-kept r q (naming st n) (token.NameByte x) a e = refl
nest-kept r q (naming st n) t a e = name-kept r q st n 0 t a e
nest-kept r q (in_tag st n k) t a e = name-kept r q st n k t a e
nest-kept r q (naming_attribute st n k) (token.AttrByte x) a e = refl
nest-kept r q (naming_attribute st n k) token.ValueOpens a e = refl
nest-kept r q (naming_attribute st n k) t a e = refl
nest-kept r q (in_value st n k) (token.Value c) a e = refl
nest-kept r q (in_value st n k) token.ValueEnds a e = refl
nest-kept r q (in_value st n k) t a e = refl
nest-kept r q (closing st (x ∷ m)) (token.NameByte y) a e = refl
nest-kept r q (closing st (x ∷ m)) t a e = refl
nest-kept r q (closing st []) token.CloseEnds a e = refl
nest-kept r q (closing st []) t a e = refl
nest-kept r q (inside []) t a e = refl
nest-kept r q lost t a e = refl

lost-stays : (r : Rules) (us : List Token) → nest_all r lost us ≡ lost
unfolding nest
lost-stays r [] = refl
lost-stays r (u ∷ us) = lost-stays r us

all-kept : (r q : Rules) (n : Nest) (us : List Token) → Allows r q → is_lost (nest_all r n us) ≡ false → nest_all r n us ≡ nest_all q n us
unfolding is_lost
all-kept r q n [] a e = refl
all-kept r q n (u ∷ us) a e =
    all-kept r q (nest r n u) us a e ∙ ap (λ (x : Nest). nest_all q x us) (nest-kept r q n u a (first (nest r n u) e))
  where
    first : (m : Nest) → is_lost (nest_all r m us) ≡ false → is_lost m ≡ false
    first lost f = absurd (let bad : true ≡ false = ap is_lost (sym (lost-stays r us)) ∙ f in cc)
    first start f = refl
    first m f = refl

goes-kept : (r q : Rules) (st : State) (n : Nest) → Allows r q → goes_with r st n ≡ true → goes_with q st n ≡ true
goes-kept r q st (inside (m ∷ [])) a e = or-more (comes_to_space st) r.loose q.loose a.loose e
goes-kept r q st (inside []) a e = refl
goes-kept r q st (inside (m ∷ x ∷ s)) a e = refl
goes-kept r q st (naming [] n) a e = e
goes-kept r q st (naming (m ∷ s) n) a e = refl
goes-kept r q st (in_tag [] n k) a e = e
goes-kept r q st (in_tag (m ∷ s) n k) a e = refl
goes-kept r q st (closing s (x ∷ m)) a e = e
goes-kept r q st (closing s []) a e = refl
goes-kept r q st n a e = refl

cond-open : (r q : Rules) (st : State) (n : Nest) (c d : Bool) → (c ≡ true → d ≡ true) → is_broken (cond c (open_at st n) broken) ≡ false
    → cond c (open_at st n) broken ≡ cond d (open_at st n) broken
cond-open r q st n true d h e = sym (cond-true d (open_at st n) broken (h refl))
cond-open r q st n false d h e = absurd (let bad : true ≡ false = e in cc)

placed-kept : (r q : Rules) (st : State) (n : Nest) → Allows r q → is_broken (placed r st n) ≡ false → placed r st n ≡ placed q st n
placed-kept r q st lost a e = refl
placed-kept r q st (inside []) a e = refl
placed-kept r q st (inside (m ∷ s)) a e = cond-open r q st (inside (m ∷ s)) (goes_with r st (inside (m ∷ s))) (goes_with q st (inside (m ∷ s)))
    (goes-kept r q st (inside (m ∷ s)) a) e
placed-kept r q st start a e = cond-open r q st start (goes_with r st start) (goes_with q st start) (goes-kept r q st start a) e
placed-kept r q st n a e = cond-open r q st n (goes_with r st n) (goes_with q st n) (goes-kept r q st n a) e

not-lost : (r : Rules) (st : State) (n : Nest) → is_broken (placed r st n) ≡ false → is_lost n ≡ false
unfolding is_lost
not-lost r st lost e = absurd (let bad : true ≡ false = e in cc)
not-lost r st start e = refl
not-lost r st n e = refl

settled-kept : (r q : Rules) (n : Nest) (o : Outcome) → Allows r q → is_broken (settled r n o) ≡ false → settled r n o ≡ settled q n o
settled-kept r q n (fails f) a e = refl
settled-kept r q n (leads st us) a e = placed-kept r q st (nest_all r n us) a e ∙ ap (placed q st) (all-kept r q n us a (not-lost r st (nest_all r n us) e))

pub next-kept : (r q : Rules) (f : Frame) (b : ℕ) → Allows r q → is_broken (frame_next r f b) ≡ false → frame_next r f b ≡ frame_next q f b
next-kept r q (open_at st n) b a e = settled-kept r q n (turn st b) a e
next-kept r q ended b a e = refl
next-kept r q broken b a e = refl

broken-stays : (r : Rules) (bs : List ℕ) → frame_after r broken bs ≡ broken
broken-stays r [] = refl
broken-stays r (b ∷ bs) = broken-stays r bs

pub after-kept : (r q : Rules) (f : Frame) (bs : List ℕ) → Allows r q → is_broken (frame_after r f bs) ≡ false → frame_after r f bs ≡ frame_after q f bs
after-kept r q f [] a e = refl
after-kept r q f (b ∷ bs) a e = after-kept r q (frame_next r f b) bs a e
    ∙ ap (λ (x : Frame). frame_after q x bs) (next-kept r q f b a (first (frame_next r f b) e))
  where
    first : (g : Frame) → is_broken (frame_after r g bs) ≡ false → is_broken g ≡ false
    first broken h = absurd (let bad : true ≡ false = ap is_broken (sym (broken-stays r bs)) ∙ h in cc)
    first ended h = refl
    first (open_at st n) h = refl

pub after-snoc : (r : Rules) (f : Frame) (bs : List ℕ) (b : ℕ) → frame_after r f (bs ++ b ∷ []) ≡ frame_next r (frame_after r f bs) b
after-snoc r f [] b = refl
after-snoc r f (c ∷ bs) b = after-snoc r (frame_next r f c) bs b

-- As many bindings are kept as elements are open, and one open element fewer is made.
use Rattle.std.proofs.Common.{◌≡◌, ℕ, zero, suc, ◌+◌, List, [], ◌∷◌, ◌++◌, length, refl, sym, ap, ◌∙◌, subst, Bool, true, false, cond, ◌==◌, nat_lt, arith}
use Rattle.std.proofs.lemmas.List.{length-append}
use Rattle.std.proofs.lemmas.Bool.{eqb-true, false_from_ne_true}
use Rattle.std.specs.Prelude.{Option, if◌then◌else◌}
use Rattle.stream_lex.specs.declared.Token.{Token}
use Rattle.stream_lex.specs.declared.Token.TheVariants as token
use Rattle.stream_grammar.specs.declared.namespaces.Binding.{Binding}
use Rattle.stream_grammar.specs.declared.rules.Rules.{Rules}
use Rattle.stream_grammar.specs.declared.item.Item.{Item}
use Rattle.stream_grammar.specs.grammar.Trees.{RawName}
use Rattle.stream_grammar.specs.machine.Nesting.{Nest, start, declared, inside, naming, in_tag, naming_attribute, in_value, closing, lost}
use Rattle.stream_grammar.specs.machine.Nesting.{may_stand, before_root, in_content, after_name, nest, nest_all}
use Rattle.stream_grammar.specs.grammar.Tags.{Gathered}
use Rattle.stream_grammar.specs.machine.Building.{Opened, Building, but_last, settled_words, worded_in, build, build_all, nothing_built}
use Rattle.stream_laws.proofs.Made.{made}

-- how many bindings, and how many open elements below the stream's
abbrev pub IsLevel : Building → ℕ → Type 0
IsLevel b zero = (b.layers ≡ []) × (b.opened ≡ [])
IsLevel b (suc k) = (length b.layers ≡ suc k) × (length b.opened ≡ k)

abbrev pub Levels : Nest → Building → Type 0
Levels start b = IsLevel b 0
Levels declared b = IsLevel b 0
Levels (inside []) b = Unit {0}
Levels (inside (m ∷ st)) b = IsLevel b (suc (length st))
Levels (naming st n) b = IsLevel b (length st)
Levels (in_tag st n k) b = IsLevel b (length st)
Levels (naming_attribute st n k) b = IsLevel b (length st)
Levels (in_value st n k) b = IsLevel b (length st)
Levels (closing st m) b = IsLevel b (suc (length st))
Levels lost b = Unit {0}

level-word : (os : List Opened) (c : ℕ) (b : Building) (k : ℕ) → IsLevel b k → IsLevel (worded_in os c b) k
level-word [] c b zero h = h
level-word [] c b (suc k) h = h
level-word (x ∷ xs) c b zero h = h
level-word (x ∷ xs) c b (suc k) h = h

settled-long : (words : List ℕ) (os : List Opened) → length (settled_words words os) ≡ length os
settled-long words [] = refl
settled-long words (x ∷ xs) = refl

but-last-long : {X : Type 0} (ls : List X) (k : ℕ) → length ls ≡ suc k → length (but_last ls) ≡ k
but-last-long [] k e = absurd (omega (arith, e))
but-last-long (l ∷ []) k e = omega (arith, e)
but-last-long {X = X} (l ∷ m ∷ ls) zero e = absurd (let f : suc (suc (length ls)) ≡ 1 = e in omega (arith, f))
but-last-long {X = X} (l ∷ m ∷ ls) (suc k) e =
    ap suc (but-last-long (m ∷ ls) k (let f : suc (suc (length ls)) ≡ suc (suc k) = e in let g : suc (length ls) ≡ suc k = omega (arith, f) in g))

long-more : (ls : List (List Binding)) (l : List Binding) (k : ℕ) → length ls ≡ k → length (ls ++ l ∷ []) ≡ suc k
long-more ls l k e = length-append ls (l ∷ []) ∙ (let f : length ls + 1 ≡ suc k = omega (arith, e) in f)

not-none : (n k : ℕ) → n ≡ suc k → (n == 0) ≡ false
not-none n k e = false_from_ne_true (n == 0) (λ h. let f : n ≡ 0 = eqb-true n 0 h in omega (arith, e, f))

start-if : (t : Bool) (a b : Building) → t ≡ false → (if t then a else b) ≡ b
start-if true a b h = absurd (let bad : true ≡ false = h in cc)
start-if false a b h = refl

start-level : (k : ℕ) (b : Building) → IsLevel b k → IsLevel (build b (token.TagEnds false)) (suc k)
start-level zero b (p, q) =
    subst (λ (x : Building). IsLevel (build x (token.TagEnds false)) 1) (ap (λ (ls : List (List Binding)). made b.tag ls [] b.words b.item) (sym p)
    ∙ ap (λ (os : List Opened). made b.tag b.layers os b.words b.item) (sym q)) (refl, refl)
start-level (suc k) b (p, q) =
    subst (λ (x : Building). IsLevel x (suc (suc k))) (sym (start-if (length b.layers == 0) _ _ (not-none (length b.layers) k p)))
    (long-more b.layers _ (suc k) p, ap suc (settled-long b.words b.opened ∙ q))

hollow-level : (g : Gathered) (ls : List (List Binding)) (os : List Opened) (words : List ℕ) (i : Option Item) (k : ℕ) → IsLevel (made g ls os words i) (suc k)
    → IsLevel (build (made g ls os words i) (token.TagEnds true)) (suc k)
hollow-level g ls [] words i k h = h
hollow-level g ls (x ∷ xs) words i k h = h

close-level : (g : Gathered) (ls : List (List Binding)) (os : List Opened) (words : List ℕ) (i : Option Item) (k : ℕ)
    → IsLevel (made g ls os words i) (suc (suc k)) → IsLevel (build (made g ls os words i) token.CloseEnds) (suc k)
close-level g ls [] words i k (p, q) = absurd (let f : 0 ≡ suc k = q in omega (arith, f))
close-level g ls (x ∷ []) words i k (p, q) = (but-last-long ls (suc k) p, let f : 1 ≡ suc k = q in omega (arith, f))
close-level g ls (x ∷ y ∷ ys) words i k (p, q) =
    (but-last-long ls (suc k) p, let f : suc (suc (length ys)) ≡ suc k = q in let e : suc (length ys) ≡ k = omega (arith, f) in e)

cond-levels : (t : Bool) (n : Nest) (b : Building) → Levels n b → Levels (cond t n lost) b
cond-levels true n b h = h
cond-levels false n b h = tt

root-level : (r : Rules) (b : Building) (t : Token) → IsLevel b 0 → Levels (before_root t) (build b t)
root-level r b (token.TagOpens x) h = h
root-level r b t h = tt

content-level : (r : Rules) (m : RawName) (st : List RawName) (b : Building) (t : Token) → IsLevel b (suc (length st))
    → Levels (in_content r m st t) (build b t)
content-level r m st b (token.Word c) h =
    cond-levels (may_stand r st c) (inside (m ∷ st)) (worded_in b.opened c b) (level-word b.opened c b (suc (length st)) h)
content-level r m st b (token.TagOpens x) h = cond-levels (nat_lt (length st) r.depth) (naming (m ∷ st) (x, [])) (build b (token.TagOpens x)) h
content-level r m st b (token.CloseOpens x) h = cond-levels (x == m.0) (closing st m.1) (build b (token.CloseOpens x)) h
content-level r m st b t h = tt

name-level : (r : Rules) (st : List RawName) (n : RawName) (k : ℕ) (b : Building) (t : Token) → IsLevel b (length st)
    → Levels (after_name r st n k t) (build b t)
name-level r st n k b (token.AttrOpens x) h = cond-levels (nat_lt k r.attributes) (naming_attribute st n (k + 1)) (build b (token.AttrOpens x)) h
name-level r [] n k b (token.TagEnds true) h = tt
name-level r (m ∷ st) n k b (token.TagEnds true) h = hollow-level b.tag b.layers b.opened b.words b.item (length st) h
name-level r st n k b (token.TagEnds false) h = start-level (length st) b h
name-level r st n k b t h = tt

closed-level : (st : List RawName) (b : Building) → IsLevel b (suc (length st)) → Levels (inside st) (build b token.CloseEnds)
closed-level [] b h = tt
closed-level (m ∷ st) b h = close-level b.tag b.layers b.opened b.words b.item (length st) h

pub level-next : (r : Rules) (n : Nest) (b : Building) (t : Token) → Levels n b → Levels (nest r n t) (build b t)
unfolding nest
level-next r start b token.Declaration h = h
level-next r start b t h = root-level r b t h
level-next r declared b t h = root-level r b t h
level-next r (inside []) b t h = tt
level-next r (inside (m ∷ st)) b t h = content-level r m st b t h
level-next r (naming st n) b (token.NameByte x) h = h
level-next r (naming st n) b t h = name-level r st n 0 b t h
level-next r (in_tag st n k) b t h = name-level r st n k b t h
level-next r (naming_attribute st n k) b (token.AttrByte x) h = h
level-next r (naming_attribute st n k) b token.ValueOpens h = h
level-next r (naming_attribute st n k) b t h = tt
level-next r (in_value st n k) b (token.Value c) h = h
level-next r (in_value st n k) b token.ValueEnds h = h
level-next r (in_value st n k) b t h = tt
level-next r (closing st (x ∷ m)) b (token.NameByte y) h = cond-levels (y == x) (closing st m) (build b (token.NameByte y)) h
level-next r (closing st (x ∷ m)) b t h = tt
level-next r (closing st []) b token.CloseEnds h = closed-level st b h
level-next r (closing st []) b t h = tt
level-next r lost b t h = tt

pub level-all : (r : Rules) (ts : List Token) (n : Nest) (b : Building) → Levels n b → Levels (nest_all r n ts) (build_all b ts)
level-all r [] n b h = h
level-all r (t ∷ ts) n b h = level-all r ts (nest r n t) (build b t) (level-next r n b t h)

pub level-from : (r : Rules) (ts : List Token) → Levels (nest_all r start ts) (build_all nothing_built ts)
level-from r ts = level-all r ts start nothing_built (refl, refl)

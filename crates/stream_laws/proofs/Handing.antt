-- What waits after a byte is the item of the grammar that ends with it.
use Rattle.std.proofs.Common.{◌≡◌, ℕ, suc, ◌+◌, List, [], ◌∷◌, ◌++◌, length, refl, sym, ap, ◌∙◌, subst, Bool, true, false, cond, ◌==◌, arith}
use Rattle.std.proofs.lemmas.Bool.{eqb-true}
use Rattle.std.specs.Prelude.{Option, Some, None, if◌then◌else◌}
use Rattle.stream_lex.specs.declared.Token.{Token}
use Rattle.stream_lex.specs.declared.Token.TheVariants as token
use Rattle.stream_lex.specs.declared.stages.State.{State}
use Rattle.stanza_tree.specs.declared.node.Element.{Element}
use Rattle.stream_grammar.specs.machine.Gathering.{nothing_gathered}
use Rattle.stream_grammar.specs.declared.FrameFault.{FrameFault}
use Rattle.stream_grammar.specs.declared.item.Limits.{Limits}
use Rattle.stream_grammar.specs.declared.rules.Rules.{Rules}
use Rattle.stream_grammar.specs.grammar.Trees.{RawName}
use Rattle.stream_grammar.specs.machine.Nesting.{Nest, start, declared, inside, naming, in_tag, naming_attribute, in_value, closing, lost, nest}
use Rattle.stream_grammar.specs.machine.Framing.{Frame, open_at, broken, placed, goes_with, frame_next, frame_after, is_broken, has_ended}
use Rattle.stream_grammar.specs.machine.Ends.{is_between_tops, told_at}
use Rattle.stream_grammar.specs.machine.Building.{Opened, Building, ended_in, closed_in, worded_in, build, build_all}
use Rattle.stream_grammar.specs.machine.Reading.{Reading, reads, stopped, reading_next, concluded, byte_judged, went, handed, extent_after}
use Rattle.stream_grammar.specs.grammar.Bounds.{rules_of, told_number}
use Rattle.stream_laws.proofs.Coming.{told_all}
use Rattle.stream_laws.proofs.Levels.{IsLevel, Levels}

-- What is built but for its item.

abbrev pub clear : Building → Building
clear b = record b { item = None }

if-clear : (t : Bool) (a b c d : Building) → clear a ≡ clear c → clear b ≡ clear d → clear (if t then a else b) ≡ clear (if t then c else d)
if-clear true a b c d h k = h
if-clear false a b c d h k = k

clear-hollow : (e : Element) (words : List ℕ) (os : List Opened) (b : Building) → clear (ended_in e words os (clear b)) ≡ clear (ended_in e words os b)
clear-hollow e words [] b = refl
clear-hollow e words (x ∷ xs) b = refl

clear-close : (os : List Opened) (b : Building) → clear (closed_in os (clear b)) ≡ clear (closed_in os b)
clear-close [] b = refl
clear-close (x ∷ []) b = refl
clear-close (x ∷ y ∷ ys) b = refl

clear-word : (os : List Opened) (c : ℕ) (b : Building) → clear (worded_in os c (clear b)) ≡ clear (worded_in os c b)
clear-word [] c b = refl
clear-word (x ∷ xs) c b = refl

pub clear-one : (b : Building) (t : Token) → clear (build (clear b) t) ≡ clear (build b t)
clear-one b (token.TagEnds false) = if-clear (length b.layers == 0) _ _ _ _ refl refl
clear-one b (token.TagEnds true) = clear-hollow _ b.words b.opened (record b { tag = nothing_gathered })
clear-one b token.CloseEnds = clear-close b.opened (record b { tag = nothing_gathered })
clear-one b (token.Word c) = clear-word b.opened c b
clear-one b t = refl

pub clear-all : (ts : List Token) (b : Building) → clear (build_all (clear b) ts) ≡ clear (build_all b ts)
clear-all [] b = refl
clear-all (t ∷ ts) b = sym (clear-all ts (build (clear b) t)) ∙ (ap (λ (x : Building). clear (build_all x ts)) (clear-one b t) ∙ clear-all ts (build b t))

pub build-more : (b : Building) (xs ys : List Token) → build_all b (xs ++ ys) ≡ build_all (build_all b xs) ys
build-more b [] ys = refl
build-more b (x ∷ xs) ys = build-more (build b x) xs ys

-- Readings.

pub stopped-went : (l : Limits) (f : FrameFault) (k : ℕ) (bs : List ℕ) → went l (stopped f k) bs ≡ stopped f k
stopped-went l f k [] = refl
stopped-went l f k (b ∷ bs) = stopped-went l f k bs

pub went-more : (l : Limits) (s : Reading) (xs ys : List ℕ) → went l s (xs ++ ys) ≡ went l (went l s xs) ys
went-more l s [] ys = refl
went-more l s (x ∷ xs) ys = went-more l (reading_next l (handed s) x) xs ys

-- the frame of a reading, and what is built
abbrev pub HasRead : Rules → Frame → Building → List ℕ → Reading → Type 0
HasRead r f0 b0 bytes (stopped f k) = Unit {0}
HasRead r f0 b0 bytes (reads f b n k) = (f ≡ frame_after r f0 bytes) × (clear b ≡ clear (build_all b0 (told_all r f0 bytes)))

read-back : (r : Rules) (f0 f1 : Frame) (b0 b1 : Building) (b : ℕ) (bs : List ℕ) → f1 ≡ frame_next r f0 b → b1 ≡ build_all (clear b0) (told_at f0 b)
    → (s : Reading) → HasRead r f1 b1 bs s → HasRead r f0 b0 (b ∷ bs) s
read-back r f0 f1 b0 b1 b bs e g (stopped f k) h = tt
read-back r f0 f1 b0 b1 b bs e g (reads f c n k) (p, q) =
    let ts : List Token = told_all r (frame_next r f0 b) bs in (
      p ∙ ap (λ (x : Frame). frame_after r x bs) e,
      q
          ∙ (ap (λ (x : Frame). clear (build_all b1 (told_all r x bs))) e
          ∙ (sym (clear-all ts b1)
          ∙ (ap (λ (x : Building). clear (build_all (clear x) ts)) g
          ∙ (ap (λ (x : Building). clear (build_all x ts)) (clear-all (told_at f0 b) b0)
          ∙ (clear-all ts (build_all b0 (told_at f0 b)) ∙ ap clear (sym (build-more b0 (told_at f0 b) ts))))))),
    )

pub went-read : (bytes : List ℕ) (l : Limits) (f0 : Frame) (b0 : Building) (n0 k0 : ℕ) → HasRead (rules_of l) f0 b0 bytes (went l (reads f0 b0 n0 k0) bytes)
went-read [] l f0 b0 n0 k0 = (refl, refl)
went-read (b ∷ bs) l f0 b0 n0 k0 = by (byte_judged l f0 (clear b0) n0 b) (λ f1 b1 n k. went-read bs l f1 b1 n k)
  where
    by : (o : Option FrameFault) → ((f1 : Frame) (b1 : Building) (n k : ℕ) → HasRead (rules_of l) f1 b1 bs (went l (reads f1 b1 n k) bs))
        → HasRead (rules_of l) f0 b0 (b ∷ bs)
        (went l (concluded o (reads (frame_next (rules_of l) f0 b) (build_all (clear b0) (told_at f0 b)) (extent_after (frame_next (rules_of l) f0 b) n0)
        (told_number (k0 + 1))) (told_number (k0 + 1))) bs)
    by None go = read-back (rules_of l) f0 _ b0 _ b bs refl refl _
        (go (frame_next (rules_of l) f0 b) (build_all (clear b0) (told_at f0 b)) (extent_after (frame_next (rules_of l) f0 b) n0) (told_number (k0 + 1)))
    by (Some f) go = subst (HasRead (rules_of l) f0 b0 (b ∷ bs)) (sym (stopped-went l f (told_number (k0 + 1)) bs)) tt

-- By the token.

not-true : (t : Bool) → t ≡ false → t ≡ true → ⊥
not-true t e f = let bad : true ≡ false = sym f ∙ e in cc

cond-open : (t : Bool) (s : State) (n : Nest) → is_broken (cond t (open_at s n) broken) ≡ false → cond t (open_at s n) broken ≡ open_at s n
cond-open true s n h = refl
cond-open false s n h = absurd (let bad : true ≡ false = h in cc)

pub lost-broken : (r : Rules) (to : State) (n : Nest) → n ≡ lost → is_broken (placed r to n) ≡ false → ⊥
lost-broken r to n e h = not-true true (sym (ap (λ (x : Nest). is_broken (placed r to x)) e) ∙ h) refl

-- a tag that opens one element is that of the stream
one-open : (r : Rules) (to : State) (st : List RawName) (n : RawName) (b : Building) → IsLevel b (length st) → (length b.layers == 0) ≡ true
    → is_broken (placed r to (inside (n ∷ st))) ≡ false → is_between_tops (placed r to (inside (n ∷ st))) ≡ true
one-open r to [] n b h e o = ap is_between_tops (cond-open (goes_with r to (inside (n ∷ []))) to (inside (n ∷ [])) o)
one-open r to (m ∷ st) n b (p, q) e o = absurd (let f : length b.layers ≡ 0 = eqb-true (length b.layers) 0 e in omega (arith, p, f))

pub header-frame : (r : Rules) (to : State) (n : Nest) (b : Building) → Levels n b → (length b.layers == 0) ≡ true
    → is_broken (placed r to (nest r n (token.TagEnds false))) ≡ false → is_between_tops (placed r to (nest r n (token.TagEnds false))) ≡ true
unfolding nest
header-frame r to (naming st n) b h e o = one-open r to st n b h e o
header-frame r to (in_tag st n k) b h e o = one-open r to st n b h e o
header-frame r to start b h e o = absurd (lost-broken r to lost refl o)
header-frame r to declared b h e o = absurd (lost-broken r to lost refl o)
header-frame r to (inside []) b h e o = absurd (lost-broken r to lost refl o)
header-frame r to (inside (m ∷ st)) b h e o = absurd (lost-broken r to lost refl o)
header-frame r to (naming_attribute st n k) b h e o = absurd (lost-broken r to lost refl o)
header-frame r to (in_value st n k) b h e o = absurd (lost-broken r to lost refl o)
header-frame r to (closing st []) b h e o = absurd (lost-broken r to lost refl o)
header-frame r to (closing st (x ∷ m)) b h e o = absurd (lost-broken r to lost refl o)
header-frame r to lost b h e o = absurd (lost-broken r to lost refl o)

-- an empty-element tag where no element is open below the stream
one-hollow : (r : Rules) (to : State) (st : List RawName) (m : RawName) (b : Building) → IsLevel b (suc (length st)) → b.opened ≡ []
    → is_broken (placed r to (inside (m ∷ st))) ≡ false → is_between_tops (placed r to (inside (m ∷ st))) ≡ true
one-hollow r to [] m b h e o = ap is_between_tops (cond-open (goes_with r to (inside (m ∷ []))) to (inside (m ∷ [])) o)
one-hollow r to (x ∷ st) m b (p, q) e o = absurd (let f : length b.opened ≡ 0 = ap length e in omega (arith, q, f))

pub hollow-frame : (r : Rules) (to : State) (n : Nest) (b : Building) → Levels n b → b.opened ≡ []
    → is_broken (placed r to (nest r n (token.TagEnds true))) ≡ false → is_between_tops (placed r to (nest r n (token.TagEnds true))) ≡ true
unfolding nest
hollow-frame r to (naming [] n) b h e o = absurd (lost-broken r to lost refl o)
hollow-frame r to (naming (m ∷ st) n) b h e o = one-hollow r to st m b h e o
hollow-frame r to (in_tag [] n k) b h e o = absurd (lost-broken r to lost refl o)
hollow-frame r to (in_tag (m ∷ st) n k) b h e o = one-hollow r to st m b h e o
hollow-frame r to start b h e o = absurd (lost-broken r to lost refl o)
hollow-frame r to declared b h e o = absurd (lost-broken r to lost refl o)
hollow-frame r to (inside []) b h e o = absurd (lost-broken r to lost refl o)
hollow-frame r to (inside (m ∷ st)) b h e o = absurd (lost-broken r to lost refl o)
hollow-frame r to (naming_attribute st n k) b h e o = absurd (lost-broken r to lost refl o)
hollow-frame r to (in_value st n k) b h e o = absurd (lost-broken r to lost refl o)
hollow-frame r to (closing st []) b h e o = absurd (lost-broken r to lost refl o)
hollow-frame r to (closing st (x ∷ m)) b h e o = absurd (lost-broken r to lost refl o)
hollow-frame r to lost b h e o = absurd (lost-broken r to lost refl o)

-- an end tag: of the one element that is open below the stream, or of the stream
one-close : (r : Rules) (to : State) (st : List RawName) (b : Building) (y : Opened) → IsLevel b (suc (length st)) → b.opened ≡ y ∷ []
    → is_broken (placed r to (inside st)) ≡ false → is_between_tops (placed r to (inside st)) ≡ true
one-close r to [] b y (p, q) e o = absurd (let f : length b.opened ≡ 1 = ap length e in omega (arith, q, f))
one-close r to (m ∷ []) b y h e o = ap is_between_tops (cond-open (goes_with r to (inside (m ∷ []))) to (inside (m ∷ [])) o)
one-close r to (m ∷ x ∷ st) b y (p, q) e o = absurd (let f : length b.opened ≡ 1 = ap length e in omega (arith, q, f))

no-close : (r : Rules) (to : State) (st : List RawName) (b : Building) → IsLevel b (suc (length st)) → b.opened ≡ []
    → has_ended (placed r to (inside st)) ≡ true
no-close r to [] b h e = refl
no-close r to (m ∷ st) b (p, q) e = absurd (let f : length b.opened ≡ 0 = ap length e in omega (arith, q, f))

pub close-frame : (r : Rules) (to : State) (n : Nest) (b : Building) (y : Opened) → Levels n b → b.opened ≡ y ∷ []
    → is_broken (placed r to (nest r n token.CloseEnds)) ≡ false → is_between_tops (placed r to (nest r n token.CloseEnds)) ≡ true
unfolding nest
close-frame r to (closing st []) b y h e o = one-close r to st b y h e o
close-frame r to (closing st (x ∷ m)) b y h e o = absurd (lost-broken r to lost refl o)
close-frame r to (naming st n) b y h e o = absurd (lost-broken r to lost refl o)
close-frame r to (in_tag st n k) b y h e o = absurd (lost-broken r to lost refl o)
close-frame r to start b y h e o = absurd (lost-broken r to lost refl o)
close-frame r to declared b y h e o = absurd (lost-broken r to lost refl o)
close-frame r to (inside []) b y h e o = absurd (lost-broken r to lost refl o)
close-frame r to (inside (m ∷ st)) b y h e o = absurd (lost-broken r to lost refl o)
close-frame r to (naming_attribute st n k) b y h e o = absurd (lost-broken r to lost refl o)
close-frame r to (in_value st n k) b y h e o = absurd (lost-broken r to lost refl o)
close-frame r to lost b y h e o = absurd (lost-broken r to lost refl o)

pub end-frame : (r : Rules) (to : State) (n : Nest) (b : Building) → Levels n b → b.opened ≡ [] → is_broken (placed r to (nest r n token.CloseEnds)) ≡ false
    → has_ended (placed r to (nest r n token.CloseEnds)) ≡ true
unfolding nest
end-frame r to (closing st []) b h e o = no-close r to st b h e
end-frame r to (closing st (x ∷ m)) b h e o = absurd (lost-broken r to lost refl o)
end-frame r to (naming st n) b h e o = absurd (lost-broken r to lost refl o)
end-frame r to (in_tag st n k) b h e o = absurd (lost-broken r to lost refl o)
end-frame r to start b h e o = absurd (lost-broken r to lost refl o)
end-frame r to declared b h e o = absurd (lost-broken r to lost refl o)
end-frame r to (inside []) b h e o = absurd (lost-broken r to lost refl o)
end-frame r to (inside (m ∷ st)) b h e o = absurd (lost-broken r to lost refl o)
end-frame r to (naming_attribute st n k) b h e o = absurd (lost-broken r to lost refl o)
end-frame r to (in_value st n k) b h e o = absurd (lost-broken r to lost refl o)
end-frame r to lost b h e o = absurd (lost-broken r to lost refl o)

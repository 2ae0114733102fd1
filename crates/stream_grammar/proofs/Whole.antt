-- The frame that bytes lead to is open exactly where they begin a stream.
use Rattle.std.proofs.Common.{◌≡◌, ℕ, zero, suc, ◌+◌, ◌<◌, ◌≤◌, ◌⊎◌, inl, inr, List, [], ◌∷◌, ◌++◌, length, refl, sym, ap, ◌∙◌}
use Rattle.std.proofs.Common.{subst, append-nil, length-append, Bool, true, false, not, ◌||◌, arith, encode_utf8}
use Rattle.std.proofs.lemmas.Bool.{cond-true}
use Rattle.std.specs.Char.{IsScalar}
use lib.Utf8.{scalar_cases}
use Rattle.stream_lex.specs.declared.Token.{Token}
use Rattle.stream_lex.specs.declared.Token.TheVariants as token
use Rattle.stream_lex.specs.declared.stages.Context.TheVariants.{Words, Value}
use Rattle.stream_lex.specs.declared.stages.Half.{Half}
use Rattle.stream_lex.specs.declared.stages.Half.TheVariants.{Prefix, Local}
use Rattle.stream_lex.specs.declared.stages.NameOwner.TheVariants.{StartTag, EndTag, Attribute}
use Rattle.stream_lex.specs.declared.stages.Literal.TheVariants as literal
use Rattle.stream_lex.specs.declared.stages.Stage.{Stage}
use Rattle.stream_lex.specs.declared.stages.Stage.TheVariants as stage
use Rattle.stream_lex.specs.declared.stages.State.{State}
use Rattle.stream_lex.specs.declared.characters.Pending.{Pending}
use Rattle.stream_lex.specs.declared.characters.Pending.TheVariants as pending
use Rattle.stream_lex.specs.declared.characters.Reach.{Reach}
use Rattle.stream_lex.specs.declared.characters.Reach.TheVariants.{Whole, Begun, Broken}
use Rattle.stream_lex.specs.grammar.Classes.{has_between, class_of}
use Rattle.stream_lex.specs.machine.Characters.{bytes_of, is_nothing, is_begun, reach, reach_first, reach_second, reach_third}
use Rattle.stream_lex.specs.grammar.Expressions.{all_said}
use Rattle.stream_lex.specs.machine.Machine.{allowed_at, through, voice}
use Rattle.stream_lex.specs.machine.Turns.{leads, at, byte_told, end_told, turn_wide, turn}
use Rattle.stream_lex.specs.machine.Live.{is_met, is_awaited, is_live}
use Rattle.stream_lex.specs.machine.Rests.{rest_at}
use Rattle.stream_lex.specs.grammar.Reading.{Reads}
use Rattle.stream_lex.specs.machine.Leading.{Left}
use Rattle.stream_lex.proofs.Lists.{false-true, cons_not_nil}
use Rattle.stream_lex.proofs.Spans.{Within, IsRest, reach-within, reach-starts}
use Rattle.stream_lex.proofs.Classing.{has_between-of, has_between-has, proper-class, class-scalar}
use Rattle.stream_lex.proofs.ByteSteps.{Spelt, reach-spelt, left-plain, plain-left}
use Rattle.stream_lex.proofs.Living.{LeadsLive, begun-symbol, begun-two, live-parts}
use Rattle.stream_grammar.specs.grammar.Trees.{RawName, Stream, stream_tokens, declaration_tokens, is_space}
use Rattle.stream_grammar.specs.declared.rules.Rules.{Rules}
use Rattle.stream_grammar.specs.grammar.Streams.{IsShortest, Spells, Begins as BeginsStream}
use Rattle.stream_grammar.specs.machine.Nesting.{Nest, start, declared, inside, naming, in_tag, naming_attribute}
use Rattle.stream_grammar.specs.machine.Nesting.{in_value, closing, lost, may_stand, nest, nest_all}
use Rattle.stream_grammar.specs.machine.Framing.{comes_to_space, is_empty_mark, goes_with, Frame, open_at, ended, broken, frame_after, first_frame, is_broken}
use Rattle.stream_grammar.proofs.Nested.{Room, all-room}
use Rattle.stream_grammar.specs.machine.Sorts.{Sort, at_begin, at_prolog, at_content, at_name, at_tag, at_attribute, at_value, sort}
use Rattle.stream_grammar.proofs.Sorts.{may_move}
use Rattle.stream_grammar.specs.machine.Sorts.{sort_of}
use Rattle.stream_grammar.proofs.Moving.{calm, Led, turn-led}
use Rattle.stream_grammar.proofs.Twins.{words, is_named}
use Rattle.stream_grammar.proofs.Naming.{Closable, SoFar, so_far-closable, name-done}
use Rattle.stream_grammar.proofs.Fitting.{Fits, IsOpen, fits-next}
use Rattle.stream_grammar.proofs.Following.{any-live, Follows, IsSound, Sound, fitting, after-sound, after-to, after-from}
use Rattle.stream_grammar.proofs.Running.{tag_told}
use Rattle.stream_grammar.proofs.Ways.{is_begin, is_prolog, is_tag, is_attribute, begins-way, prolog-way}
use Rattle.stream_grammar.proofs.InnerWays.{name-way, name-turn, colon-way, attribute-way, a-named, a-ends}
use Rattle.stream_grammar.proofs.Finishing.{Done, step-to, run-to, closing-done, closings, content-done, value-done, attribute-done, tag-done, named-done}

-- A byte after which the frame is open.

sound-step : (r : Rules) (st to : State) (n : Nest) (b : ℕ) (us : List Token) → IsSound r st n → turn st b ≡ leads to us → IsOpen (nest_all r n us)
    → goes_with r to (nest_all r n us) ≡ true → IsSound r to (nest_all r n us)
sound-step r st to n b us s e o g =
    let l : Led st b (leads to us) = subst (Led st b) e (turn-led st b s.calm_is) in record {
      live = subst LeadsLive e (any-live st b s.live);
      calm_is = l.2;
      room = all-room r n us s.room;
      opens = o;
      fits = fitting r to (nest_all r n us) (fits-next r st to b n us e s.calm_is s.opens s.fits) g;
      goes = g;
    }

-- Between two characters.

named-closable : (h : Half) (ret : Bool) (n : RawName) → calm (at (stage.Name StartTag h) pending.Nothing ret) ≡ true
    → SoFar (at (stage.Name StartTag h) pending.Nothing ret) n → Closable n
named-closable h ret n c g =
    so_far-closable (at (stage.Name StartTag h) pending.Nothing ret) n g
    (name-done (at (stage.Name StartTag h) pending.Nothing ret) words 62 (token.TagEnds false ∷ []) (name-turn h ret) refl refl c)

nest-named : (r : Rules) (s : List RawName) (n : RawName) → nest_all r (naming s n) (token.TagEnds false ∷ []) ≡ inside (n ∷ s)
unfolding nest
nest-named r s n = refl

whole-name : (r : Rules) (h : Half) (ret : Bool) (s : List RawName) (n : RawName) → IsSound r (at (stage.Name StartTag h) pending.Nothing ret) (naming s n)
    → SoFar (at (stage.Name StartTag h) pending.Nothing ret) n
    → Done r (at (stage.Name StartTag h) pending.Nothing ret) (naming s n)
whole-name r h ret s n k g =
    run-to r (at (stage.Name StartTag h) pending.Nothing ret) words (naming s n) (inside (n ∷ s)) _ k.live (name-way h ret) (nest-named r s n) tt k.room
    (closings r (n ∷ s) (named-closable h ret n k.calm_is g, k.fits.1) k.room)

not-returned : (r : Bool) → (not r || false) ≡ true → r ≡ false
not-returned true h = sym h
not-returned false h = refl

nest-byte : (r : Rules) (s : List RawName) (n : RawName) (x : ℕ) → nest_all r (naming s n) (token.NameByte x ∷ []) ≡ naming s (n.0, n.1 ++ x ∷ [])
unfolding nest
nest-byte r s n x = refl

goes-name : (r : Rules) (s : List RawName) (n : RawName) (h : Half) → goes_with r (at (stage.Name StartTag h) pending.Nothing false) (naming s n) ≡ true
goes-name r [] n h = refl
goes-name r (m ∷ s) n h = refl

so_far-of : (r : Rules) (st : State) (s : List RawName) (n : RawName) → Fits st (naming s n) → sort_of st ≡ at_name → SoFar st n
so_far-of r st s n (inl (k, g), a) e = g
so_far-of r st s n (inr (k, g), a) e = absurd (let bad : true ≡ false = ap is_named (sym e ∙ k) in cc)

colon-done : (r : Rules) (ret : Bool) (s : List RawName) (n : RawName) → IsSound r (at (stage.Colon StartTag) pending.Nothing ret) (naming s n)
    → Done r (at (stage.Colon StartTag) pending.Nothing ret) (naming s n)
colon-done r ret s n k =
    let st : State = at (stage.Colon StartTag) pending.Nothing ret in
    let to : State = at (stage.Name StartTag Local) pending.Nothing false in
    let e : turn st 97 ≡ leads to (token.NameByte 97 ∷ []) = colon-way ret (not-returned ret k.calm_is) in
    let n1 : RawName = (n.0, n.1 ++ 97 ∷ []) in
    let f = nest-byte r s n 97 in
    let sound : IsSound r to (naming s n1) =
    subst (IsSound r to) f (sound-step r st to (naming s n) 97 (token.NameByte 97 ∷ []) k e (subst IsOpen (sym f) tt)
    (subst (λ (x : Nest). goes_with r to x ≡ true) (sym f) (goes-name r s n1 Local))) in
    step-to r st to (naming s n) (naming s n1) 97 (token.NameByte 97 ∷ []) k.live e f tt k.room
    (whole-name r Local false s n1 sound (so_far-of r to s n1 sound.fits refl))

name-stage : (s : Stage) (r : Rules) (ret : Bool) (st : List RawName) (n : RawName) → IsSound r (at s pending.Nothing ret) (naming st n) → sort s ≡ at_name
    → SoFar (at s pending.Nothing ret) n → Done r (at s pending.Nothing ret) (naming st n)
name-stage (stage.Name StartTag h) r ret st n k e g = whole-name r h ret st n k g
name-stage (stage.Colon StartTag) r ret st n k e g = colon-done r ret st n k
name-stage (stage.Text Words) r ret st n k e g = false-true (ap is_named e)
name-stage (stage.Text (Value q)) r ret st n k e g = false-true (ap is_named e)
name-stage (stage.Hash Words) r ret st n k e g = false-true (ap is_named e)
name-stage (stage.Hash (Value q)) r ret st n k e g = false-true (ap is_named e)
name-stage (stage.HashX Words) r ret st n k e g = false-true (ap is_named e)
name-stage (stage.HashX (Value q)) r ret st n k e g = false-true (ap is_named e)
name-stage (stage.Reference Words l) r ret st n k e g = false-true (ap is_named e)
name-stage (stage.Number Words base v) r ret st n k e g = false-true (ap is_named e)
name-stage (stage.Reference (Value q) l) r ret st n k e g = false-true (ap is_named e)
name-stage (stage.Number (Value q) base v) r ret st n k e g = false-true (ap is_named e)
name-stage (stage.Name EndTag u) r ret st n k e g = false-true (ap is_named e)
name-stage (stage.Colon EndTag) r ret st n k e g = false-true (ap is_named e)
name-stage (stage.Name Attribute u) r ret st n k e g = false-true (ap is_named e)
name-stage (stage.Colon Attribute) r ret st n k e g = false-true (ap is_named e)
name-stage (stage.Fixed literal.Xml i) r ret st n k e g = false-true (ap is_named e)
name-stage (stage.Fixed w i) r ret st n k e g = false-true (ap is_named e)
name-stage s r ret st n k e g = false-true (ap is_named e)

-- before the first tag
a-closable : Closable (97, [])
a-closable = (at (stage.Name EndTag Prefix) pending.Nothing false, a-named, (at (stage.Name EndTag Prefix) pending.Nothing false, refl, a-ends))

a-done : (r : Rules) → Done r words (inside ((97, []) ∷ []))
a-done r = closings r ((97, []) ∷ []) (a-closable, tt) (omega arith)

nest-begin : (r : Rules) (d : Bool) → nest_all r start (declaration_tokens d ++ tag_told) ≡ inside ((97, []) ∷ [])
unfolding nest
nest-begin r true = refl
nest-begin r false = refl

nest-prolog : (r : Rules) → nest_all r declared tag_told ≡ inside ((97, []) ∷ [])
unfolding nest
nest-prolog r = refl

start-done : (r : Rules) (s : Stage) (ret : Bool) → is_live (at s pending.Nothing ret) ≡ true → is_begin (sort s) ≡ true
    → Done r (at s pending.Nothing ret) start
start-done r s ret live k =
    let (d, w) = begins-way s k (live-parts (at s pending.Nothing ret) live).0 in
    run-to r (at s pending.Nothing ret) words start (inside ((97, []) ∷ [])) _ live (w ret) (nest-begin r d) tt tt (a-done r)

declared-done : (r : Rules) (s : Stage) (ret : Bool) → is_live (at s pending.Nothing ret) ≡ true → is_prolog (sort s) ≡ true
    → Done r (at s pending.Nothing ret) declared
declared-done r s ret live k = run-to r (at s pending.Nothing ret) words declared (inside ((97, []) ∷ [])) _ live (prolog-way s k ret) (nest-prolog r) tt tt
    (a-done r)

-- an end tag's name
ending-done : (r : Rules) (st : State) (s : List RawName) (m : List ℕ) → IsSound r st (closing s m) → Done r st (closing s m)
ending-done r st s m k =
    let ready = k.fits.1 in let around = k.fits.2 in closing-done r s m st ready.0 k.room k.live ready.1 ready.2 (closings r s around (outer s k.room))
  where
    outer : (s : List RawName) → length s ≤ r.depth → Room r (inside s)
    outer [] h = tt
    outer (m ∷ s) h = omega arith

between-done : (r : Rules) (s : Stage) (ret : Bool) (n : Nest) → IsSound r (at s pending.Nothing ret) n → Done r (at s pending.Nothing ret) n
between-done r s ret start k = start-done r s ret k.live (either k.fits)
  where
    either : (sort s ≡ at_begin) ⊎ (sort s ≡ at_prolog) → is_begin (sort s) ≡ true
    either (inl e) = ap is_begin e
    either (inr e) = ap is_begin e
between-done r s ret declared k = declared-done r s ret k.live (ap is_prolog k.fits)
between-done r s ret (inside []) k = absurd k.opens
between-done r s ret (inside (m ∷ st)) k = content-done r s ret m st k
between-done r s ret (naming st n) k = by k.fits
  where
    by : Fits (at s pending.Nothing ret) (naming st n) → Done r (at s pending.Nothing ret) (naming st n)
    by (inl (e, g), a) = name-stage s r ret st n k e g
    by (inr (e, g), a) = named-done r s ret st n k.live k.goes (ap is_tag e) g a k.room
between-done r s ret (in_tag st n i) k = tag-done r s ret st n i k
between-done r s ret (naming_attribute st n i) k = attribute-done r s ret st n i k (attribute-way s (ap is_attribute k.fits.0))
between-done r s ret (in_value st n i) k = value-done r s ret st n i k
between-done r s ret (closing st m) k = ending-done r (at s pending.Nothing ret) st m k
between-done r s ret lost k = absurd k.opens

-- Within a character: a further byte of one that may come.

abbrev Goes : Stage → Pending → Bool → Type 0
Goes s p ret = (b : ℕ) × (to : State) × (us : List Token) × (turn (at s p ret) b ≡ leads to us)
    × ((to ≡ at (through s) pending.Nothing false) ⊎ ((q : Pending) × (to ≡ at s q ret) × (bytes_of q ≡ bytes_of p ++ b ∷ [])))

scalar-top : (n : ℕ) → IsScalar n → n < 1114112
scalar-top n s = elim (scalar_cases n s) [ inl k ↦ omega arith | inr k ↦ k.1 ]

wide-turn : (s : Stage) (p : Pending) (ret : Bool) (b : ℕ) → is_nothing p ≡ false → turn (at s p ret) b ≡ turn_wide (at s p ret) b (reach p b)
wide-turn s pending.Nothing ret b e = absurd (let bad : true ≡ false = e in cc)
wide-turn s (pending.One x) ret b e = refl
wide-turn s (pending.Two x y) ret b e = refl
wide-turn s (pending.Three x y z) ret b e = refl

no-bytes : (p : Pending) → is_nothing p ≡ false → bytes_of p ≡ [] → ⊥
no-bytes pending.Nothing e f = let bad : true ≡ false = e in cc
no-bytes (pending.One x) e f = cons_not_nil x [] f
no-bytes (pending.Two x y) e f = cons_not_nil x (y ∷ []) f
no-bytes (pending.Three x y z) e f = cons_not_nil x (y ∷ z ∷ []) f

reached-goes : (s : Stage) (p : Pending) (ret : Bool) (d n : ℕ) (y : Reach) → reach p d ≡ y → is_nothing p ≡ false
    → has_between (class_of (allowed_at s)) n n ≡ true → Within y n → Goes s p ret
unfolding turn_wide
reached-goes s p ret d n (Whole m) e k is w = (
  d,
  at (through s) pending.Nothing false,
  byte_told (voice s) p d ++ end_told (voice s) m,
  wide-turn s p ret d k ∙ (ap (turn_wide (at s p ret) d) e ∙ cond-true _ _ _ (subst (λ (x : ℕ). has_between (class_of (allowed_at s)) x x ≡ true) w is)),
  inl refl,
)
reached-goes s p ret d n (Begun q low high) e k is w = (
  d,
  at s q ret,
  byte_told (voice s) p d,
  wide-turn s p ret d k ∙ (ap (turn_wide (at s p ret) d) e ∙ cond-true _ _ _ (has_between-of (class_of (allowed_at s)) n low high is w.0 w.1)),
  inr (q, refl, (let spelt : Spelt (bytes_of p ++ d ∷ []) (Begun q low high) = subst (Spelt (bytes_of p ++ d ∷ [])) e (reach-spelt p d) in spelt.0)),
)
reached-goes s p ret d n Broken e k is w = absurd w

met-goes : (s : Stage) (p0 p : Pending) (ret : Bool) (b : ℕ) (x : Reach) → reach p0 b ≡ x → is_begun p0 ≡ true → is_begun p ≡ true → is_nothing p ≡ false
    → bytes_of p ≡ bytes_of p0 ++ b ∷ [] → is_met (class_of (allowed_at s)) x ≡ true → Goes s p ret
met-goes s p0 p ret b (Whole n) e begun0 begun k longer met = false-true met
met-goes s p0 p ret b Broken e begun0 begun k longer met = false-true met
met-goes s p0 p ret b (Begun q low high) e begun0 begun k longer met =
    let spelt : Spelt (bytes_of p0 ++ b ∷ []) (Begun q low high) = subst (Spelt (bytes_of p0 ++ b ∷ [])) e (reach-spelt p0 b) in
    let (n, above, below, is) = has_between-has (class_of (allowed_at s)) low high (proper-class (allowed_at s)) spelt.1 met in
    let (rest, enc, left) = reach-starts p0 b n begun0 (subst (λ (y : Reach). Within y n) (sym e) (above, below)) in
    let (d, ds, f) = let y : IsRest (Begun q low high) rest = subst (λ (z : Reach). IsRest z rest) e left in y in
    let bytes : encode_utf8 n ++ [] ≡ bytes_of p ++ (d ∷ ds) = append-nil (encode_utf8 n)
    ∙ (enc ∙ (ap (λ (l : List ℕ). l ++ rest) (sym longer) ∙ ap (λ (l : List ℕ). bytes_of p ++ l) f)) in
    let within : Within (reach p d) n = reach-within p d n [] ds begun (λ z. absurd (no-bytes p k z)) (scalar-top n (class-scalar (allowed_at s) n is)) bytes in
    reached-goes s p ret d n (reach p d) refl k is within

character-goes : (s : Stage) (p : Pending) (ret : Bool) → is_begun p ≡ true → is_awaited (class_of (allowed_at s)) p ≡ true → is_nothing p ≡ false
    → Goes s p ret
character-goes s pending.Nothing ret begun waits k = absurd (let bad : true ≡ false = k in cc)
character-goes s (pending.One x) ret begun waits k = met-goes s pending.Nothing (pending.One x) ret x (reach_first x) refl refl begun k refl waits
character-goes s (pending.Two x y) ret begun waits k = met-goes s (pending.One x) (pending.Two x y) ret y (reach_second x y) refl (begun-symbol x y begun) begun
    k refl waits
character-goes s (pending.Three x y z) ret begun waits k =
    met-goes s (pending.Two x y) (pending.Three x y z) ret z (reach_third x y z) refl (begun-two x y z begun) begun k refl waits

-- The nesting stays as it is.

abbrev pub is_inner : Sort → Bool
is_inner at_begin = false
is_inner at_prolog = false
is_inner at_tag = false
is_inner x = true

no-met : (r : Reach) → is_met [] r ≡ true → ⊥
no-met (Begun q low high) e = let bad : false ≡ true = e in cc
no-met (Whole n) e = let bad : false ≡ true = e in cc
no-met Broken e = let bad : false ≡ true = e in cc

no-wait : (p : Pending) → is_awaited [] p ≡ true → is_nothing p ≡ false → ⊥
no-wait pending.Nothing e h = let bad : true ≡ false = h in cc
no-wait (pending.One x) e h = no-met (reach_first x) e
no-wait (pending.Two x y) e h = no-met (reach_second x y) e
no-wait (pending.Three x y z) e h = no-met (reach_third x y z) e

inner-sort : (s : Stage) (p : Pending) (ret : Bool) → is_awaited (class_of (allowed_at s)) p ≡ true → is_nothing p ≡ false
    → is_inner (sort_of (at s p ret)) ≡ true
unfolding allowed_at through
inner-sort s pending.Nothing ret w k = absurd (let bad : true ≡ false = k in cc)
inner-sort (stage.Text Words) p ret w k = refl
inner-sort (stage.Text (Value u)) p ret w k = refl
inner-sort (stage.Bracketed u) p ret w k = refl
inner-sort stage.Cdata p ret w k = refl
inner-sort (stage.CdataBracketed u) p ret w k = refl
inner-sort stage.StartLess p ret w k = refl
inner-sort stage.PrologLess p ret w k = refl
inner-sort stage.Less p ret w k = refl
inner-sort stage.EndTagMark p ret w k = refl
inner-sort stage.InTag p ret w k = refl
inner-sort (stage.Name StartTag u) p ret w k = refl
inner-sort (stage.Name EndTag u) p ret w k = refl
inner-sort (stage.Name Attribute u) p ret w k = refl
inner-sort (stage.Colon StartTag) p ret w k = refl
inner-sort (stage.Colon EndTag) p ret w k = refl
inner-sort (stage.Colon Attribute) p ret w k = refl
inner-sort s p ret w k = absurd (no-wait p w k)

-- the sort within a character
within-sort : (s : Stage) (p : Pending) (ret : Bool) → is_nothing p ≡ false → sort_of (at s p ret) ≡ sort (through s)
within-sort s pending.Nothing ret e = absurd (let bad : true ≡ false = e in cc)
within-sort s (pending.One x) ret e = refl
within-sort s (pending.Two x y) ret e = refl
within-sort s (pending.Three x y z) ret e = refl

words-stay : (r : Rules) (m : RawName) (s : List RawName) (us : List Token) → may_move at_content us at_content ≡ true → ((c : ℕ) → may_stand r s c ≡ true)
    → nest_all r (inside (m ∷ s)) us ≡ inside (m ∷ s)
unfolding nest
words-stay r m s [] h f = refl
words-stay r m s (token.Word c ∷ us) h f = ap (λ (n : Nest). nest_all r n us) (cond-true (may_stand r s c) (inside (m ∷ s)) lost (f c))
    ∙ words-stay r m s us h f
words-stay r m s (u ∷ []) h f = false-true h
words-stay r m s (u ∷ v ∷ us) h f = false-true h

or-true : (t : Bool) → (t || true) ≡ true
or-true true = refl
or-true false = refl

-- what stays
abbrev Stays : Rules → State → Nest → List Token → Type 0
Stays r to n us = (n1 : Nest) × (nest_all r n us ≡ n1) × IsOpen n1 × (goes_with r to n1 ≡ true)

loose-of : (r : Rules) (s : Stage) (p : Pending) (ret : Bool) (m : RawName) → is_nothing p ≡ false → goes_with r (at s p ret) (inside (m ∷ [])) ≡ true
    → r.loose ≡ true
loose-of r s pending.Nothing ret m k g = absurd (let bad : true ≡ false = k in cc)
loose-of r s (pending.One x) ret m k g = g
loose-of r s (pending.Two x y) ret m k g = g
loose-of r s (pending.Three x y z) ret m k g = g

content-stays : (r : Rules) (s : Stage) (p : Pending) (ret : Bool) (to : State) (m : RawName) (st : List RawName) (us : List Token) → is_nothing p ≡ false
    → goes_with r (at s p ret) (inside (m ∷ st)) ≡ true
    → may_move at_content us at_content ≡ true → Stays r to (inside (m ∷ st)) us
content-stays r s p ret to m [] us k g h =
    let loose = loose-of r s p ret m k g in (
      inside (m ∷ []),
      words-stay r m [] us h (λ c. subst (λ (t : Bool). (is_space c || t) ≡ true) (sym loose) (or-true (is_space c))),
      tt,
      subst (λ (t : Bool). (comes_to_space to || t) ≡ true) (sym loose) (or-true (comes_to_space to)),
    )
content-stays r s p ret to m (x ∷ st) us k g h = (inside (m ∷ x ∷ st), words-stay r m (x ∷ st) us h (λ c. or-true (is_space c)), tt, refl)

mark-sort : (s : Stage) (p : Pending) (ret : Bool) → is_named (sort_of (at s p ret)) ≡ true → not (is_empty_mark s) ≡ true
unfolding through
mark-sort stage.EmptyTagMark pending.Nothing ret h = false-true h
mark-sort stage.EmptyTagMark p ret h = false-true h
mark-sort s p ret h = refl

goes-named : (r : Rules) (to : State) (st : List RawName) (n : RawName) → sort_of to ≡ at_name → goes_with r to (naming st n) ≡ true
goes-named r to [] n e = mark-sort to.stage to.pending to.returned (ap is_named e)
goes-named r to (m ∷ st) n e = refl

name-stays : (r : Rules) (to : State) (st : List RawName) (n : RawName) (us : List Token) → sort_of to ≡ at_name → may_move at_name us at_name ≡ true
    → Stays r to (naming st n) us
unfolding nest
name-stays r to st n (token.NameByte x ∷ []) e h = (naming st (n.0, n.1 ++ x ∷ []), refl, tt, goes-named r to st (n.0, n.1 ++ x ∷ []) e)
name-stays r to st n [] e h = false-true h
name-stays r to st n (u ∷ []) e h = false-true h
name-stays r to st n (token.NameByte x ∷ v ∷ us) e h = false-true h
name-stays r to st n (u ∷ v ∷ us) e h = false-true h

attribute-stays : (r : Rules) (to : State) (st : List RawName) (n : RawName) (i : ℕ) (us : List Token) → may_move at_attribute us at_attribute ≡ true
    → Stays r to (naming_attribute st n i) us
unfolding nest
attribute-stays r to st n i [] h = (naming_attribute st n i, refl, tt, refl)
attribute-stays r to st n i (token.AttrByte x ∷ []) h = (naming_attribute st n i, refl, tt, refl)
attribute-stays r to st n i (u ∷ []) h = false-true h
attribute-stays r to st n i (token.AttrByte x ∷ v ∷ us) h = false-true h
attribute-stays r to st n i (u ∷ v ∷ us) h = false-true h

value-stays : (r : Rules) (to : State) (st : List RawName) (n : RawName) (i : ℕ) (us : List Token) → may_move at_value us at_value ≡ true
    → Stays r to (in_value st n i) us
unfolding nest
value-stays r to st n i [] h = (in_value st n i, refl, tt, refl)
value-stays r to st n i (token.Value x ∷ []) h = (in_value st n i, refl, tt, refl)
value-stays r to st n i (u ∷ []) h = false-true h
value-stays r to st n i (token.Value x ∷ v ∷ us) h = false-true h
value-stays r to st n i (u ∷ v ∷ us) h = false-true h

abbrev IsClosing : Nest → Type 0
IsClosing (closing s m) = Unit {0}
IsClosing n = ⊥

stays : (r : Rules) (s : Stage) (p : Pending) (ret : Bool) (to : State) (n : Nest) (us : List Token) → IsSound r (at s p ret) n → is_nothing p ≡ false
    → (IsClosing n → ⊥) → sort_of to ≡ sort_of (at s p ret)
    → may_move (sort_of (at s p ret)) us (sort_of to) ≡ true → is_inner (sort_of (at s p ret)) ≡ true → Stays r to n us
stays r s p ret to start us k e c same m i = absurd (outer k.fits)
  where
    outer : (sort_of (at s p ret) ≡ at_begin) ⊎ (sort_of (at s p ret) ≡ at_prolog) → ⊥
    outer (inl f) = let bad : false ≡ true = sym (ap is_inner f) ∙ i in cc
    outer (inr f) = let bad : false ≡ true = sym (ap is_inner f) ∙ i in cc
stays r s p ret to declared us k e c same m i = absurd (let bad : false ≡ true = sym (ap is_inner k.fits) ∙ i in cc)
stays r s p ret to (inside []) us k e c same m i = absurd k.opens
stays r s p ret to (inside (x ∷ st)) us k e c same m i =
    content-stays r s p ret to x st us e k.goes
    (subst (λ (y : Sort). may_move y us y ≡ true) k.fits.0 (subst (λ (y : Sort). may_move (sort_of (at s p ret)) us y ≡ true) same m))
stays r s p ret to (naming st n) us k e c same m i = by k.fits
  where
    by : Fits (at s p ret) (naming st n) → Stays r to (naming st n) us
    by (inl (f, g), a) = name-stays r to st n us (same
        ∙ f) (subst (λ (y : Sort). may_move y us y ≡ true) f (subst (λ (y : Sort). may_move (sort_of (at s p ret)) us y ≡ true) same m))
    by (inr (f, g), a) = absurd (let bad : false ≡ true = sym (ap is_inner f) ∙ i in cc)
stays r s p ret to (in_tag st n j) us k e c same m i = absurd (let bad : false ≡ true = sym (ap is_inner k.fits.0) ∙ i in cc)
stays r s p ret to (naming_attribute st n j) us k e c same m i =
    attribute-stays r to st n j us
    (subst (λ (y : Sort). may_move y us y ≡ true) k.fits.0 (subst (λ (y : Sort). may_move (sort_of (at s p ret)) us y ≡ true) same m))
stays r s p ret to (in_value st n j) us k e c same m i =
    value-stays r to st n j us
    (subst (λ (y : Sort). may_move y us y ≡ true) k.fits.0 (subst (λ (y : Sort). may_move (sort_of (at s p ret)) us y ≡ true) same m))
stays r s p ret to (closing st m1) us k e c same m i = absurd (c tt)
stays r s p ret to lost us k e c same m i = absurd k.opens

-- An end from every frame that is open.

not-nothing : (q p : Pending) (b : ℕ) → bytes_of q ≡ bytes_of p ++ b ∷ [] → is_nothing q ≡ false
not-nothing pending.Nothing p b e = absurd (some p b (sym e))
  where
    some : (p : Pending) (b : ℕ) → bytes_of p ++ b ∷ [] ≡ [] → ⊥
    some pending.Nothing b e = cons_not_nil b [] e
    some (pending.One x) b e = cons_not_nil x (b ∷ []) e
    some (pending.Two x y) b e = cons_not_nil x (y ∷ b ∷ []) e
    some (pending.Three x y z) b e = cons_not_nil x (y ∷ z ∷ b ∷ []) e
not-nothing (pending.One x) p b e = refl
not-nothing (pending.Two x y) p b e = refl
not-nothing (pending.Three x y z) p b e = refl

few-bytes : (p : Pending) → 4 ≤ length (bytes_of p) + 0 → ⊥
few-bytes pending.Nothing h = omega arith
few-bytes (pending.One x) h = omega arith
few-bytes (pending.Two x y) h = omega arith
few-bytes (pending.Three x y z) h = omega arith

character-step : (r : Rules) (s : Stage) (p : Pending) (ret : Bool) (n : Nest) (b : ℕ) (to : State) (us : List Token) → IsSound r (at s p ret) n
    → is_nothing p ≡ false → (IsClosing n → ⊥) → turn (at s p ret) b ≡ leads to us
    → sort_of to ≡ sort_of (at s p ret) → ((n1 : Nest) → IsSound r to n1 → Done r to n1) → Done r (at s p ret) n
character-step r s p ret n b to us k e c f same go =
    let parts = live-parts (at s p ret) k.live in
    let l : Led (at s p ret) b (leads to us) = subst (Led (at s p ret) b) f (turn-led (at s p ret) b k.calm_is) in
    let (n1, g, o, w) = stays r s p ret to n us k e c same l.0 (inner-sort s p ret parts.2 e) in
    let sound : IsSound r to n1 =
    subst (IsSound r to) g (sound-step r (at s p ret) to n b us k f (subst IsOpen (sym g) o) (subst (λ (x : Nest). goes_with r to x ≡ true) (sym g) w)) in
    step-to r (at s p ret) to n n1 b us k.live f g k.opens k.room (go n1 sound)

within-step : (r : Rules) (s : Stage) (p : Pending) (ret : Bool) (n : Nest) → IsSound r (at s p ret) n → is_nothing p ≡ false → (IsClosing n → ⊥) → Goes s p ret
    → ((b : ℕ) (q : Pending) → bytes_of q ≡ bytes_of p ++ b ∷ [] → (n1 : Nest) → IsSound r (at s q ret) n1 → Done r (at s q ret) n1) → Done r (at s p ret) n
within-step r s p ret n k e c (b, to, us, f, inl g) go =
    character-step r s p ret n b to us k e c f (ap sort_of g ∙ sym (within-sort s p ret e))
    (λ n1 sound. subst (λ (x : State). Done r x n1) (sym g) (between-done r (through s) false n1 (subst (λ (x : State). IsSound r x n1) g sound)))
within-step r s p ret n k e c (b, to, us, f, inr (q, g, l)) go =
    character-step r s p ret n b to us k e c f (ap sort_of g ∙ (within-sort s q ret (not-nothing q p b l) ∙ sym (within-sort s p ret e)))
    (λ n1 sound. subst (λ (x : State). Done r x n1) (sym g) (go b q l n1 (subst (λ (x : State). IsSound r x n1) g sound)))

longer : (p q : Pending) (b i : ℕ) → bytes_of q ≡ bytes_of p ++ b ∷ [] → 4 ≤ length (bytes_of p) + suc i → 4 ≤ length (bytes_of q) + i
longer p q b i e h = let f : length (bytes_of q) ≡ length (bytes_of p) + 1 = ap (length {A = ℕ}) e ∙ length-append (bytes_of p) (b ∷ []) in omega arith

within-done : (i : ℕ) (r : Rules) (s : Stage) (p : Pending) (ret : Bool) (n : Nest) → 4 ≤ length (bytes_of p) + i → is_nothing p ≡ false
    → IsSound r (at s p ret) n → Done r (at s p ret) n
within-done zero r s p ret n h e k = absurd (few-bytes p h)
within-done (suc i) r s p ret (closing st m) h e k = ending-done r (at s p ret) st m k
within-done (suc i) r s p ret n h e k =
    within-step r s p ret n k e (λ x. x) (character-goes s p ret (live-parts (at s p ret) k.live).1 (live-parts (at s p ret) k.live).2 e)
    (λ b q l n1 sound. within-done i r s q ret n1 (longer p q b i l h) (not-nothing q p b l) sound)

all-done : (r : Rules) (st : State) (n : Nest) → IsSound r st n → Done r st n
all-done r st n k = by st.stage st.pending st.returned k
  where
    by : (s : Stage) (p : Pending) (ret : Bool) → IsSound r (at s p ret) n → Done r (at s p ret) n
    by s pending.Nothing ret k = between-done r s ret n k
    by s (pending.One x) ret k = within-done 4 r s (pending.One x) ret n (omega arith) refl k
    by s (pending.Two x y) ret k = within-done 4 r s (pending.Two x y) ret n (omega arith) refl k
    by s (pending.Three x y z) ret k = within-done 4 r s (pending.Three x y z) ret n (omega arith) refl k

-- Whole texts.

pub first-left : (text : List ℕ) (ts : List Token) → Reads text ts → Left (at stage.Start pending.Nothing false) text (all_said ts)
unfolding rest_at
first-left text ts t = plain-left stage.Start false text (all_said ts) t

pub left-first : (text : List ℕ) (ts : List Token) → Left (at stage.Start pending.Nothing false) text (all_said ts) → Reads text ts
unfolding rest_at
left-first text ts l = left-plain stage.Start false text (all_said ts) l

pub first-sound : (r : Rules) → Sound r first_frame
unfolding is_live
first-sound r = record { live = refl; calm_is = refl; room = tt; opens = tt; fits = inl refl; goes = refl }

pub spells-follows : (r : Rules) (bytes : List ℕ) (s : Stream) → Spells r bytes s → Follows r first_frame bytes
spells-follows r bytes s (text, after, e, sp, (t, short, keeps)) =
    (text, after, stream_tokens s, e, sp, first-left text (stream_tokens s) t, (s, keeps, refl), λ xs ys f l. short xs ys f (left-first xs (stream_tokens s) l))

pub follows-spells : (r : Rules) (bytes : List ℕ) → Follows r first_frame bytes → (s : Stream) × Spells r bytes s
follows-spells r bytes (text, after, ts, e, sp, l, (s, keeps, is), t) =
    let short : IsShortest text (stream_tokens s) =
    λ xs ys f h. t xs ys f (subst (λ (x : List Token). Left (at stage.Start pending.Nothing false) xs (all_said x)) (sym is)
    (first-left xs (stream_tokens s) h)) in
    (s, (text, after, e, sp, (subst (Reads text) is (left-first text ts l), short, keeps)))

open-ends : (r : Rules) (f : Frame) → is_broken f ≡ false → Sound r f → (more : List ℕ) × Follows r f more
open-ends r (open_at st n) e k = let (text, ts, l, m, t) = all-done r st n k in (text, (text, [], ts, sym (append-nil text), tt, l, m, t))
open-ends r ended e k = ([], tt)
open-ends r broken e k = absurd (let bad : true ≡ false = e in cc)

broken-none : (r : Rules) (f : Frame) (more : List ℕ) → is_broken f ≡ true → Follows r f more → ⊥
broken-none r broken more e h = h
broken-none r (open_at st n) more e h = let bad : false ≡ true = e in cc
broken-none r ended more e h = let bad : false ≡ true = e in cc

pub open-begins : (r : Rules) (bytes : List ℕ) → is_broken (frame_after r first_frame bytes) ≡ false → BeginsStream r bytes
open-begins r bytes e =
    let (more, h) = open-ends r (frame_after r first_frame bytes) e (after-sound r first_frame bytes (first-sound r)) in
    let (s, t) = follows-spells r (bytes ++ more) (after-from r first_frame bytes more (first-sound r) h) in
    (more, s, t)

pub broken-begins : (r : Rules) (bytes : List ℕ) → is_broken (frame_after r first_frame bytes) ≡ true → BeginsStream r bytes → ⊥
broken-begins r bytes e (more, s, h) =
    broken-none r (frame_after r first_frame bytes) more e (after-to r first_frame bytes more (first-sound r) (spells-follows r (bytes ++ more) s h))

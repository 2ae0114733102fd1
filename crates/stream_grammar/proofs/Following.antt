-- A byte leads to what the frame leaves, in both directions.
use Rattle.std.proofs.Common.{◌≡◌, ℕ, ◌<◌, ◌≤◌, ◌⊎◌, inl, inr, List, [], ◌∷◌, ◌++◌, map, refl, sym, ap, ◌∙◌}
use Rattle.std.proofs.Common.{subst, Bool, true, false, not, cond, ◌||◌, nat_lt, arith}
use Rattle.std.proofs.lemmas.Bool.{cond_both, cases_lt, ltb-true}
use Rattle.std.proofs.lemmas.Bool.Decides.{nat_tests}
use Rattle.stream_lex.specs.declared.Token.{Token}
use Rattle.stream_lex.specs.declared.Token.TheVariants as token
use Rattle.stream_lex.specs.declared.LexFault.{LexFault}
use Rattle.stream_lex.specs.declared.LexFault.TheVariants.{NotWellFormed, Restricted, BadEncoding}
use Rattle.stream_lex.specs.declared.stages.Context.TheVariants.{Words}
use Rattle.stream_lex.specs.declared.stages.Stage.{Stage}
use Rattle.stream_lex.specs.declared.stages.Stage.TheVariants as stage
use Rattle.stream_lex.specs.declared.stages.State.{State}
use Rattle.stream_lex.specs.declared.characters.Pending.{Pending}
use Rattle.stream_lex.specs.declared.characters.Pending.TheVariants as pending
use Rattle.stream_lex.specs.declared.characters.Reach.{Reach}
use Rattle.stream_lex.specs.declared.characters.Reach.TheVariants.{Whole, Begun, Broken}
use Rattle.stream_lex.specs.machine.Characters.{is_between, is_continuation, is_second, reach, reach_first, reach_second, reach_third, reach_fourth}
use Rattle.stream_lex.specs.grammar.Expressions.{refuses, all_said, IsText}
use Rattle.stream_lex.specs.machine.Turns.{Outcome, leads, fails, at, turn_wide, turn}
use Rattle.stream_lex.specs.machine.Live.{is_live}
use Rattle.stream_lex.specs.machine.Rests.{rest_at}
use Rattle.stream_lex.specs.machine.Leading.{Left}
use Rattle.stream_lex.proofs.Lists.{same_head, same_tail, cons_not_nil, says-refuses, said-append, said-same}
use Rattle.stream_lex.proofs.ByteSteps.{Goes, IsRefused, Fails, refusing, undecodable, Does, does, plain-left}
use Rattle.stream_lex.proofs.Living.{LeadsLive, live-turn}
use Rattle.stream_lex.proofs.Ended.{left-done}
use Rattle.stream_grammar.specs.grammar.Trees.{RawName, attributes_tokens, content_tokens, stream_tokens, is_space}
use Rattle.stream_grammar.specs.declared.rules.Rules.{Rules}
use Rattle.stream_grammar.specs.grammar.Streams.{AreSpaces}
use Rattle.stream_grammar.specs.machine.Nesting.{Nest, start, declared, inside, naming, in_tag, naming_attribute}
use Rattle.stream_grammar.specs.machine.Nesting.{in_value, closing, lost, nest, nest_all, Leaves}
use Rattle.stream_grammar.specs.machine.Framing.{comes_to_space, is_empty_mark, is_after_end_name, goes_with, Frame, open_at}
use Rattle.stream_grammar.specs.machine.Framing.{ended, broken, placed, settled, frame_next, frame_after}
use Rattle.stream_grammar.proofs.Nested.{no_token, Room, leaves-to, all-room, all-to, all-from}
use Rattle.stream_grammar.proofs.Moving.{calm, Led, turn-led}
use Rattle.stream_grammar.proofs.Twins.{words}
use Rattle.stream_grammar.proofs.Fitting.{Fits, Strays, IsOpen, fits-next}
use Rattle.stream_grammar.proofs.Refusing.{said-split, mark-tells, named-tells, gap-tells}

-- One byte of the lexical layer.

pub left-to : (st to : State) (b : ℕ) (us : List Token) (more : List ℕ) (ts : List Token) → is_live st ≡ true → turn st b ≡ leads to us
    → Left st (b ∷ more) (all_said ts)
    → (vs : List Token) × (ts ≡ us ++ vs) × Left to more (all_said vs)
left-to st to b us more ts live e l =
    let g : Goes st b us to = subst (Does st b) e (does st b live) in
    let (ns, f, m) = g.rest more (all_said ts) l in
    let (vs, h, i) = said-split us ts ns f in
    (vs, h, subst (Left to more) i m)

pub left-from : (st to : State) (b : ℕ) (us : List Token) (more : List ℕ) (vs : List Token) → is_live st ≡ true → turn st b ≡ leads to us
    → Left to more (all_said vs) → Left st (b ∷ more) (all_said (us ++ vs))
left-from st to b us more vs live e l =
    let g : Goes st b us to = subst (Does st b) e (does st b live) in
    subst (Left st (b ∷ more)) (sym (said-append us vs)) (g.text more (all_said vs) l)

not-refused : (f : LexFault) (ts : List Token) → IsRefused f (all_said ts) → ⊥
not-refused NotWellFormed ts r = r
not-refused Restricted [] (ns, e) = let bad : [] ≡ refuses Restricted ∷ ns = e in cc
not-refused Restricted (t ∷ ts) (ns, e) = says-refuses t Restricted (all_said ts) ns e
not-refused BadEncoding [] (ns, e) = let bad : [] ≡ refuses BadEncoding ∷ ns = e in cc
not-refused BadEncoding (t ∷ ts) (ns, e) = says-refuses t BadEncoding (all_said ts) ns e

fails-left : (st : State) (b : ℕ) (f : LexFault) (more : List ℕ) (ts : List Token) → Fails st b f → Left st (b ∷ more) (all_said ts) → ⊥
fails-left st b f more ts (refusing r) l = not-refused f ts (r.refused more (all_said ts) l)
fails-left st b f more ts (undecodable e never) (cs, sc, enc, m) = never more (cs, (sc, enc))

pub left-fails : (st : State) (b : ℕ) (f : LexFault) (more : List ℕ) (ts : List Token) → is_live st ≡ true → turn st b ≡ fails f
    → Left st (b ∷ more) (all_said ts) → ⊥
left-fails st b f more ts live e l = fails-left st b f more ts (subst (Does st b) e (does st b live)) l

-- No byte passes 255.

IsBroken : Reach → Type 0
IsBroken Broken = Unit {0}
IsBroken r = ⊥

over-between : (low high b : ℕ) → high < b → is_between low high b ≡ true → ⊥
over-between low high b h e = let k : b ≤ high = grind (arith, nat_tests) in omega arith

big-broken : (p : Pending) (b : ℕ) → 256 ≤ b → IsBroken (reach p b)
unfolding IsBroken reach_first reach_second reach_third reach_fourth
big-broken pending.Nothing b h =
    cond_both (is_between 194 223 b) _ _ IsBroken (λ e. absurd (over-between 194 223 b (omega arith) e))
    (λ f. cond_both (is_between 224 239 b) _ _ IsBroken (λ e. absurd (over-between 224 239 b (omega arith) e))
    (λ g. cond_both (is_between 240 244 b) _ _ IsBroken (λ e. absurd (over-between 240 244 b (omega arith) e)) (λ i. tt)))
big-broken (pending.One a) b h = cond_both (not (is_second a b)) _ _ IsBroken (λ e. tt) (λ e. absurd (big-second a b h e))
  where
    big-second : (a b : ℕ) → 256 ≤ b → not (is_second a b) ≡ false → ⊥
    big-second a b h e = let k : b ≤ 191 = grind (arith, nat_tests) in omega arith
big-broken (pending.Two a c) b h = cond_both (not (is_continuation b)) _ _ IsBroken (λ e. tt) (λ e. absurd (big-tail b h e))
  where
    big-tail : (b : ℕ) → 256 ≤ b → not (is_continuation b) ≡ false → ⊥
    big-tail b h e = let k : b ≤ 191 = grind (arith, nat_tests) in omega arith
big-broken (pending.Three a c d) b h = cond_both (is_continuation b) _ _ IsBroken (λ e. absurd (over-between 128 191 b (omega arith) e)) (λ e. tt)

broken-live : (st : State) (b : ℕ) (x : Reach) → IsBroken x → LeadsLive (turn_wide st b x)
unfolding IsBroken turn_wide
broken-live st b Broken h = tt
broken-live st b (Whole n) h = absurd h
broken-live st b (Begun q low high) h = absurd h

big-live : (st : State) (b : ℕ) → 256 ≤ b → LeadsLive (turn st b)
big-live st b h = big st.stage st.pending st.returned b h
  where
    big : (s : Stage) (p : Pending) (r : Bool) (b : ℕ) → 256 ≤ b → LeadsLive (turn (at s p r) b)
    big s pending.Nothing r b h =
        cond_both (nat_lt b 128) _ _ LeadsLive (λ e. absurd (let k : b < 128 = ltb-true b 128 e in omega arith))
        (λ e. broken-live (at s pending.Nothing r) b (reach pending.Nothing b) (big-broken pending.Nothing b h))
    big s (pending.One x) r b h = broken-live (at s (pending.One x) r) b (reach (pending.One x) b) (big-broken (pending.One x) b h)
    big s (pending.Two x y) r b h = broken-live (at s (pending.Two x y) r) b (reach (pending.Two x y) b) (big-broken (pending.Two x y) b h)
    big s (pending.Three x y z) r b h = broken-live (at s (pending.Three x y z) r) b (reach (pending.Three x y z) b) (big-broken (pending.Three x y z) b h)

pub any-live : (st : State) (b : ℕ) → is_live st ≡ true → LeadsLive (turn st b)
any-live st b live = elim (cases_lt b 256) [ inl h ↦ live-turn st b live h | inr h ↦ big-live st b h ]

-- Where nothing more is told, the stream is at its end.

not-nil : (xs ys : List Token) (t : Token) → xs ++ (t ∷ ys) ≡ [] → ⊥
not-nil [] ys t e = no_token t ys e
not-nil (x ∷ xs) ys t e = no_token x (xs ++ (t ∷ ys)) e

pub leaves-nothing : (r : Rules) (n : Nest) (ts : List Token) → IsOpen n → Leaves r n ts → ts ≡ [] → ⊥
leaves-nothing r start ts o (s, keeps, is) e = stream-told s.declared (sym is ∙ e)
  where
    stream-told : (d : Bool) → stream_tokens (record s { declared = d }) ≡ [] → ⊥
    stream-told true f = no_token token.Declaration _ f
    stream-told false f = no_token (token.TagOpens s.root.name.0) _ f
leaves-nothing r declared ts o (root, f, keeps, is) e = no_token (token.TagOpens root.name.0) _ (sym is ∙ e)
leaves-nothing r (inside []) ts o m e = absurd o
leaves-nothing r (inside (m ∷ st)) ts o (f, rest, keeps, low, is, c) e = not-nil (content_tokens f) _ (token.CloseOpens m.0) (sym is ∙ e)
leaves-nothing r (naming st n) ts o (m, rest, is, (xs, empty, rest2, few, is2, after)) e =
    tag-told (map token.NameByte m) (sym (is ∙ ap (λ (l : List Token). map token.NameByte m ++ l) is2) ∙ e)
  where
    tag-told : (ys : List Token) → ys ++ (attributes_tokens xs ++ (token.TagEnds empty ∷ rest2)) ≡ [] → ⊥
    tag-told [] f = not-nil (attributes_tokens xs) rest2 (token.TagEnds empty) f
    tag-told (y ∷ ys) f = no_token y _ f
leaves-nothing r (in_tag st n k) ts o (xs, empty, rest2, few, is2, after) e = not-nil (attributes_tokens xs) rest2 (token.TagEnds empty) (sym is2 ∙ e)
leaves-nothing r (naming_attribute st n k) ts o (m, v, rest, is, t) e = not-nil (map token.AttrByte m) _ token.ValueOpens (sym is ∙ e)
leaves-nothing r (in_value st n k) ts o (v, rest, is, t) e = not-nil (map token.Value v) rest token.ValueEnds (sym is ∙ e)
leaves-nothing r (closing st m) ts o (rest, is, c) e = not-nil (map token.NameByte m) rest token.CloseEnds (sym is ∙ e)
leaves-nothing r lost ts o m e = absurd m

-- What may follow.

-- no fewer of these bytes tell the same
abbrev pub Tight : State → List ℕ → List Token → Type 0
Tight st text ts = (xs ys : List ℕ) → text ≡ xs ++ ys → Left st xs (all_said ts) → ys ≡ []

pub tight-to : (st to : State) (b : ℕ) (us : List Token) (text : List ℕ) (vs : List Token) → is_live st ≡ true → turn st b ≡ leads to us
    → Tight st (b ∷ text) (us ++ vs) → Tight to text vs
tight-to st to b us text vs live e t xs ys f l = t (b ∷ xs) ys (ap (λ (x : List ℕ). b ∷ x) f) (left-from st to b us xs vs live e l)

cancel : (us vs ws : List Token) → us ++ vs ≡ us ++ ws → vs ≡ ws
cancel [] vs ws e = e
cancel (u ∷ us) vs ws e = cancel us vs ws (let f : u ∷ (us ++ vs) ≡ u ∷ (us ++ ws) = e in cc)

pub tight-from : (st to : State) (b : ℕ) (us : List Token) (text : List ℕ) (vs : List Token) → is_live st ≡ true → turn st b ≡ leads to us → (us ++ vs ≡ [] → ⊥)
    → Tight to text vs → Tight st (b ∷ text) (us ++ vs)
tight-from st to b us text vs live e some t [] ys f l = absurd (some (said-same (us ++ vs) [] (left-done st (all_said (us ++ vs)) live l)))
tight-from st to b us text vs live e some t (x ∷ xs) ys f l =
    let same : b ≡ x = same_head b x text (xs ++ ys) f in
    let (ws, h, m) = left-to st to b us xs (us ++ vs) live e (subst (λ (y : ℕ). Left st (y ∷ xs) (all_said (us ++ vs))) (sym same) l) in
    t xs ys (same_tail b x text (xs ++ ys) f) (subst (λ (y : List Token). Left to xs (all_said y)) (sym (cancel us vs ws h)) m)

abbrev pub Over : Rules → State → Nest → List ℕ → Type 0
Over r st n more = (text : List ℕ) × (after : List ℕ) × (ts : List Token) × (more ≡ text ++ after) × AreSpaces after × Left st text (all_said ts)
    × Leaves r n ts × Tight st text ts

abbrev pub Follows : Rules → Frame → List ℕ → Type 0
Follows r (open_at st n) more = Over r st n more
Follows r ended more = AreSpaces more
Follows r broken more = ⊥

-- what holds of a frame that is reached
pub record IsSound (r : Rules) (st : State) (n : Nest) : Type 0 where
  pub live : is_live st ≡ true
  pub calm_is : calm st ≡ true
  pub room : Room r n
  pub opens : IsOpen n
  pub fits : Fits st n
  pub goes : goes_with r st n ≡ true

abbrev pub Sound : Rules → Frame → Type 0
Sound r (open_at st n) = IsSound r st n
Sound r f = Unit {0}

-- One byte.

over-to : (r : Rules) (st to : State) (n : Nest) (b : ℕ) (us : List Token) (more : List ℕ) → is_live st ≡ true → turn st b ≡ leads to us → IsOpen n
    → Over r st n (b ∷ more) → Over r to (nest_all r n us) more
over-to r st to n b us more live e o ([], after, ts, f, sp, l, m, t) = absurd (leaves-nothing r n ts o m (said-same ts [] (left-done st (all_said ts) live l)))
over-to r st to n b us more live e o (x ∷ text, after, ts, f, sp, l, m, t) =
    let same : x ≡ b = sym (same_head b x more (text ++ after) f) in
    let (vs, h, k) = left-to st to b us text ts live e (subst (λ (y : ℕ). Left st (y ∷ text) (all_said ts)) same l) in
    let t1 : Tight st (b ∷ text) (us ++ vs) = subst (λ (y : ℕ). Tight st (y ∷ text) (us ++ vs)) same (subst (Tight st (x ∷ text)) h t) in
    (text, after, vs, same_tail b x more (text ++ after) f, sp, k, all-to r n us vs (subst (Leaves r n) h m), tight-to st to b us text vs live e t1)

over-from : (r : Rules) (st to : State) (n : Nest) (b : ℕ) (us : List Token) (more : List ℕ) → is_live st ≡ true → turn st b ≡ leads to us → IsOpen n → Room r n
    → Over r to (nest_all r n us) more → Over r st n (b ∷ more)
over-from r st to n b us more live e o room (text, after, vs, f, sp, l, m, t) =
    let m1 : Leaves r n (us ++ vs) = all-from r n us vs room m in (
      b ∷ text,
      after,
      us ++ vs,
      ap (λ (x : List ℕ). b ∷ x) f,
      sp,
      left-from st to b us text vs live e l,
      m1,
      tight-from st to b us text vs live e (λ z. leaves-nothing r n (us ++ vs) o m1 z) t,
    )

fails-over : (r : Rules) (st : State) (n : Nest) (b : ℕ) (f : LexFault) (more : List ℕ) → is_live st ≡ true → turn st b ≡ fails f → IsOpen n
    → Over r st n (b ∷ more) → ⊥
fails-over r st n b f more live e o ([], after, ts, g, sp, l, m, t) = leaves-nothing r n ts o m (said-same ts [] (left-done st (all_said ts) live l))
fails-over r st n b f more live e o (x ∷ text, after, ts, g, sp, l, m, t) =
    left-fails st b f text ts live e (subst (λ (y : ℕ). Left st (y ∷ text) (all_said ts)) (sym (same_head b x more (text ++ after) g)) l)

pub words-left : Left words [] []
unfolding rest_at IsText
words-left = plain-left (stage.Text Words) false [] []
    ([], refl, refl, ([], [], [], [], (0, (refl, refl)), ([], [], [], [], (0, (refl, refl)), (0, (refl, refl)), refl, refl), refl, refl))

-- Where the nesting does not go with the state.

refused-next : (r : Rules) (n : Nest) (t : Token) (ts us : List Token) → Leaves r n ts → ts ≡ t ∷ us → nest r n t ≡ lost → ⊥
refused-next r n t ts us m e f = let bad : Leaves r lost us = subst (λ (x : Nest). Leaves r x us) f (leaves-to r n t us (subst (Leaves r n) e m)) in bad

not-not : (t : Bool) → not t ≡ false → t ≡ true
not-not true e = refl
not-not false e = absurd (let bad : true ≡ false = e in cc)

or-parts : (s t : Bool) → (s || t) ≡ false → (s ≡ false) × (t ≡ false)
or-parts true t e = absurd (let bad : true ≡ false = e in cc)
or-parts false t e = (refl, e)

word-lost : (r : Rules) (m : RawName) (c : ℕ) → is_space c ≡ false → r.loose ≡ false → nest r (inside (m ∷ [])) (token.Word c) ≡ lost
unfolding nest
word-lost r m c e f = subst (λ (t : Bool). cond (t || r.loose) (inside (m ∷ [])) lost ≡ lost) (sym e)
    (subst (λ (t : Bool). cond t (inside (m ∷ [])) lost ≡ lost) (sym f) refl)

hollow-lost : (r : Rules) (n : RawName) → nest r (naming [] n) (token.TagEnds true) ≡ lost
unfolding nest
hollow-lost r n = refl

hollow_tag-lost : (r : Rules) (n : RawName) (k : ℕ) → nest r (in_tag [] n k) (token.TagEnds true) ≡ lost
unfolding nest
hollow_tag-lost r n k = refl

early-lost : (r : Rules) (s : List RawName) (x : ℕ) (m : List ℕ) → nest r (closing s (x ∷ m)) token.CloseEnds ≡ lost
unfolding nest
early-lost r s x m = refl

stray-refused : (r : Rules) (to : State) (n : Nest) (more : List ℕ) → Strays to n → Over r to n more → ⊥
stray-refused r to (closing s (x ∷ m)) more h (text, after, ts, f, sp, l, k, t) =
    let (us, e) = named-tells to text ts h l in refused-next r (closing s (x ∷ m)) token.CloseEnds ts us k e (early-lost r s x m)
stray-refused r to n more h o = absurd h

pub refused-over : (r : Rules) (to : State) (n : Nest) (more : List ℕ) → is_live to ≡ true → (Fits to n) ⊎ (Strays to n) → goes_with r to n ≡ false
    → Over r to n more → ⊥
refused-over r to n more live (inr h) g o = stray-refused r to n more h o
refused-over r to (inside (m ∷ [])) more live (inl (k, a)) g (text, after, ts, f, sp, l, h, t) =
    let (quiet, loose) = or-parts (comes_to_space to) r.loose g in
    let (c, black, (us, e)) = gap-tells to text ts k live quiet l in
    refused-next r (inside (m ∷ [])) (token.Word c) ts us h e (word-lost r m c black loose)
refused-over r to (naming [] n) more live (inl k) g (text, after, ts, f, sp, l, h, t) =
    let (us, e) = mark-tells to text ts (not-not (is_empty_mark to.stage) g) l in refused-next r (naming [] n) (token.TagEnds true) ts us h e (hollow-lost r n)
refused-over r to (in_tag [] n i) more live (inl k) g (text, after, ts, f, sp, l, h, t) =
    let (us, e) = mark-tells to text ts (not-not (is_empty_mark to.stage) g) l in refused-next r (in_tag [] n i) (token.TagEnds true) ts us h e
    (hollow_tag-lost r n i)
refused-over r to (closing s (x ∷ m)) more live (inl k) g (text, after, ts, f, sp, l, h, t) =
    let (us, e) = named-tells to text ts (not-not (is_after_end_name to.stage) g) l in refused-next r (closing s (x ∷ m)) token.CloseEnds ts us h e
    (early-lost r s x m)
refused-over r to (inside []) more live h g o = absurd (let bad : true ≡ false = g in cc)
refused-over r to (inside (m ∷ x ∷ st)) more live h g o = absurd (let bad : true ≡ false = g in cc)
refused-over r to (naming (m ∷ st) n) more live h g o = absurd (let bad : true ≡ false = g in cc)
refused-over r to (in_tag (m ∷ st) n k) more live h g o = absurd (let bad : true ≡ false = g in cc)
refused-over r to (closing s []) more live h g o = absurd (let bad : true ≡ false = g in cc)
refused-over r to n more live h g o = absurd (let bad : true ≡ false = g in cc)

-- Placed.

cond-follows : (r : Rules) (to : State) (n : Nest) (more : List ℕ) → is_live to ≡ true → (Fits to n) ⊎ (Strays to n) → Over r to n more
    → Follows r (cond (goes_with r to n) (open_at to n) broken) more
cond-follows r to n more live h o =
    cond_both (goes_with r to n) (open_at to n) broken (λ (x : Frame). Follows r x more) (λ e. o) (λ e. refused-over r to n more live h e o)

cond-over : (r : Rules) (t : Bool) (to : State) (n : Nest) (more : List ℕ) → Follows r (cond t (open_at to n) broken) more → Over r to n more
cond-over r true to n more f = f
cond-over r false to n more f = absurd f

ended-follows : (r : Rules) (to : State) (more : List ℕ) → (Fits to (inside [])) ⊎ (Strays to (inside [])) → Over r to (inside []) more → AreSpaces more
ended-follows r to more (inr h) o = absurd h
ended-follows r to more (inl e) (text, after, ts, f, sp, l, m, t) =
    let none : text ≡ [] = t [] text refl (subst (λ (x : List Token). Left to [] (all_said x)) (sym m) (subst (λ (s : State). Left s [] []) (sym e) words-left))
    in
    subst AreSpaces (sym (f ∙ ap (λ (x : List ℕ). x ++ after) none)) sp

follows-ended : (r : Rules) (to : State) (more : List ℕ) → to ≡ words → AreSpaces more → Over r to (inside []) more
follows-ended r to more e sp = ([], more, [], refl, sp, subst (λ (s : State). Left s [] []) (sym e) words-left, refl, λ xs ys f l. nil-back xs ys (sym f))
  where
    nil-back : (xs ys : List ℕ) → xs ++ ys ≡ [] → ys ≡ []
    nil-back [] ys e = e
    nil-back (x ∷ xs) ys e = absurd (cons_not_nil x (xs ++ ys) e)

pub placed-to : (r : Rules) (to : State) (n : Nest) (more : List ℕ) → is_live to ≡ true → (Fits to n) ⊎ (Strays to n) → Over r to n more
    → Follows r (placed r to n) more
placed-to r to lost more live h (text, after, ts, f, sp, l, m, t) = absurd m
placed-to r to (inside []) more live h o = ended-follows r to more h o
placed-to r to (inside (m ∷ st)) more live h o = cond-follows r to (inside (m ∷ st)) more live h o
placed-to r to n more live h o = cond-follows r to n more live h o

pub placed-from : (r : Rules) (to : State) (n : Nest) (more : List ℕ) → (Fits to n) ⊎ (Strays to n) → Follows r (placed r to n) more → Over r to n more
placed-from r to lost more h f = absurd f
placed-from r to (inside []) more (inl e) f = follows-ended r to more e f
placed-from r to (inside []) more (inr e) f = absurd e
placed-from r to (inside (m ∷ st)) more h f = cond-over r (goes_with r to (inside (m ∷ st))) to (inside (m ∷ st)) more f
placed-from r to n more h f = cond-over r (goes_with r to n) to n more f

pub fitting : (r : Rules) (to : State) (n : Nest) → (Fits to n) ⊎ (Strays to n) → goes_with r to n ≡ true → Fits to n
fitting r to n (inl f) e = f
fitting r to (closing s (x ∷ m)) (inr f) e = absurd (let bad : false ≡ true = ap not (sym f) ∙ e in cc)
fitting r to n (inr f) e = absurd f

cond-sound : (r : Rules) (to : State) (n : Nest) → is_live to ≡ true → calm to ≡ true → Room r n → IsOpen n → (Fits to n) ⊎ (Strays to n)
    → Sound r (cond (goes_with r to n) (open_at to n) broken)
cond-sound r to n live c room o h =
    cond_both (goes_with r to n) (open_at to n) broken (Sound r)
    (λ e. record { live = live; calm_is = c; room = room; opens = o; fits = fitting r to n h e; goes = e }) (λ e. tt)

pub placed-sound : (r : Rules) (to : State) (n : Nest) → is_live to ≡ true → calm to ≡ true → Room r n → (Fits to n) ⊎ (Strays to n) → Sound r (placed r to n)
placed-sound r to lost live c room h = tt
placed-sound r to (inside []) live c room h = tt
placed-sound r to (inside (m ∷ st)) live c room h = cond-sound r to (inside (m ∷ st)) live c room tt h
placed-sound r to start live c room h = cond-sound r to start live c room tt h
placed-sound r to n live c room h = cond-sound r to n live c room tt h

-- A byte.

settled-to : (r : Rules) (st : State) (n : Nest) (b : ℕ) (more : List ℕ) (o : Outcome) → turn st b ≡ o → IsSound r st n → Over r st n (b ∷ more)
    → Follows r (settled r n o) more
settled-to r st n b more (leads to us) e s x =
    placed-to r to (nest_all r n us) more (subst LeadsLive e (any-live st b s.live)) (fits-next r st to b n us e s.calm_is s.opens s.fits)
    (over-to r st to n b us more s.live e s.opens x)
settled-to r st n b more (fails f) e s x = fails-over r st n b f more s.live e s.opens x

settled-from : (r : Rules) (st : State) (n : Nest) (b : ℕ) (more : List ℕ) (o : Outcome) → turn st b ≡ o → IsSound r st n → Follows r (settled r n o) more
    → Over r st n (b ∷ more)
settled-from r st n b more (leads to us) e s f =
    over-from r st to n b us more s.live e s.opens s.room (placed-from r to (nest_all r n us) more (fits-next r st to b n us e s.calm_is s.opens s.fits) f)
settled-from r st n b more (fails f) e s x = absurd x

settled-sound : (r : Rules) (st : State) (n : Nest) (b : ℕ) (o : Outcome) → turn st b ≡ o → IsSound r st n → Sound r (settled r n o)
settled-sound r st n b (leads to us) e s =
    let l : Led st b (leads to us) = subst (Led st b) e (turn-led st b s.calm_is) in
    placed-sound r to (nest_all r n us) (subst LeadsLive e (any-live st b s.live)) l.2 (all-room r n us s.room)
    (fits-next r st to b n us e s.calm_is s.opens s.fits)
settled-sound r st n b (fails f) e s = tt

pub next-sound : (r : Rules) (f : Frame) (b : ℕ) → Sound r f → Sound r (frame_next r f b)
next-sound r (open_at st n) b s = settled-sound r st n b (turn st b) refl s
next-sound r ended b s = cond_both (is_space b) ended broken (Sound r) (λ e. tt) (λ e. tt)
next-sound r broken b s = tt

pub next-to : (r : Rules) (f : Frame) (b : ℕ) (more : List ℕ) → Sound r f → Follows r f (b ∷ more) → Follows r (frame_next r f b) more
next-to r (open_at st n) b more s x = settled-to r st n b more (turn st b) refl s x
next-to r ended b more s x = subst (λ (t : Bool). Follows r (cond t ended broken) more) (sym x.0) x.1
next-to r broken b more s x = x

pub next-from : (r : Rules) (f : Frame) (b : ℕ) (more : List ℕ) → Sound r f → Follows r (frame_next r f b) more → Follows r f (b ∷ more)
next-from r (open_at st n) b more s x = settled-from r st n b more (turn st b) refl s x
next-from r ended b more s x = ended-from (is_space b) refl x
  where
    ended-from : (t : Bool) → is_space b ≡ t → Follows r (cond t ended broken) more → AreSpaces (b ∷ more)
    ended-from true e f = (e, f)
    ended-from false e f = absurd f
next-from r broken b more s x = x

-- Many bytes.

pub after-sound : (r : Rules) (f : Frame) (bytes : List ℕ) → Sound r f → Sound r (frame_after r f bytes)
after-sound r f [] s = s
after-sound r f (b ∷ bs) s = after-sound r (frame_next r f b) bs (next-sound r f b s)

pub after-to : (r : Rules) (f : Frame) (bytes more : List ℕ) → Sound r f → Follows r f (bytes ++ more) → Follows r (frame_after r f bytes) more
after-to r f [] more s x = x
after-to r f (b ∷ bs) more s x = after-to r (frame_next r f b) bs more (next-sound r f b s) (next-to r f b (bs ++ more) s x)

pub after-from : (r : Rules) (f : Frame) (bytes more : List ℕ) → Sound r f → Follows r (frame_after r f bytes) more → Follows r f (bytes ++ more)
after-from r f [] more s x = x
after-from r f (b ∷ bs) more s x = next-from r f b (bs ++ more) s (after-from r (frame_next r f b) bs more (next-sound r f b s) x)

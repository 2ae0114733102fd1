-- The frames before the first tag, and where a tag opens a header or a top element.
use Rattle.std.proofs.Common.{◌≡◌, ℕ, ◌+◌, ◌⊎◌, inl, inr, List, [], ◌∷◌, length, refl, sym, ap, ◌∙◌, subst, Bool, true, false, cond, ◌==◌, nat_lt}
use Rattle.std.proofs.lemmas.Bool.{cond_both}
use Rattle.stream_lex.specs.declared.Token.{Token}
use Rattle.stream_lex.specs.declared.Token.TheVariants as token
use Rattle.stream_lex.specs.declared.stages.State.{State}
use Rattle.stream_lex.specs.machine.Turns.{Outcome, leads, fails, turn}
use Rattle.stream_lex.proofs.Lists.{false-true}
use Rattle.stream_grammar.specs.declared.rules.Rules.{Rules}
use Rattle.stream_grammar.specs.grammar.Extents.{begins_tag}
use Rattle.stream_grammar.specs.grammar.Trees.{RawName}
use Rattle.stream_grammar.specs.machine.Nesting.{Nest, start, declared, inside, naming, in_tag, naming_attribute, in_value, closing, lost}
use Rattle.stream_grammar.specs.machine.Nesting.{may_stand, before_root, in_content, after_hollow, after_name, nest, nest_all}
use Rattle.stream_grammar.specs.machine.Framing.{Frame, open_at, ended, broken, placed, frame_next, frame_after, is_broken}
use Rattle.stream_grammar.specs.machine.Framing.{settled as frame_settled}
use Rattle.stream_grammar.specs.machine.Ends.{in_item_nest, in_item}
use Rattle.stream_grammar.specs.machine.Telling.{is_few}
use Rattle.stream_grammar.proofs.Sorts.{opens}
use Rattle.stream_grammar.specs.machine.Sorts.{sort_of}
use Rattle.stream_grammar.proofs.Few.{turn-few}
use Rattle.stream_grammar.proofs.Fitting.{Fits}
use Rattle.stream_grammar.proofs.Following.{Sound}
use Rattle.stream_laws.proofs.LastTold.{Placed, placed-cases}
use Rattle.stream_laws.proofs.Opens.{after_less, AfterLess, IsOpening, turn-opening, few-opens, placed-item}
use Rattle.stream_laws.proofs.OpenRuns.{lost-all}
use Rattle.stream_laws.proofs.AfterLessSign.{OpensBy, less-opens}
use Rattle.stream_laws.proofs.AtLessSign.{is_first, BySixty, by-sixty}

-- Nothing is open.

abbrev pub is_outside : Nest → Bool
is_outside start = true
is_outside declared = true
is_outside n = false

abbrev pub stands_outside : Frame → Bool
stands_outside (open_at st n) = is_outside n
stands_outside f = false

-- nothing but the stream is open, or nothing
abbrev pub is_level : Nest → Bool
is_level (inside (m ∷ [])) = true
is_level n = is_outside n

abbrev pub stands_level : Frame → Bool
stands_level (open_at st n) = is_level n
stands_level f = false

not-both : (t : Bool) → t ≡ true → t ≡ false → ⊥
not-both t e f = false-true (sym f ∙ e)

-- It never comes again.

cond-within : (c : Bool) (n : Nest) → is_outside n ≡ false → is_outside (cond c n lost) ≡ false
cond-within true n h = h
cond-within false n h = refl

content-within : (r : Rules) (m : RawName) (st : List RawName) (t : Token) → is_outside (in_content r m st t) ≡ false
content-within r m st (token.Word c) = cond-within (may_stand r st c) (inside (m ∷ st)) refl
content-within r m st (token.TagOpens b) = cond-within (nat_lt (length st) r.depth) (naming (m ∷ st) (b, [])) refl
content-within r m st (token.CloseOpens b) = cond-within (b == m.0) (closing st m.1) refl
content-within r m st t = refl

hollow-within : (st : List RawName) → is_outside (after_hollow st) ≡ false
hollow-within [] = refl
hollow-within (m ∷ st) = refl

name-within : (r : Rules) (st : List RawName) (n : RawName) (i : ℕ) (t : Token) → is_outside (after_name r st n i t) ≡ false
name-within r st n i (token.AttrOpens b) = cond-within (nat_lt i r.attributes) (naming_attribute st n (i + 1)) refl
name-within r st n i (token.TagEnds true) = hollow-within st
name-within r st n i (token.TagEnds false) = refl
name-within r st n i t = refl

one-within : (r : Rules) (n : Nest) (t : Token) → is_outside n ≡ false → is_outside (nest r n t) ≡ false
unfolding nest
one-within r start t h = false-true (sym h)
one-within r declared t h = false-true (sym h)
one-within r (inside []) t h = refl
one-within r (inside (m ∷ st)) t h = content-within r m st t
one-within r (naming st n) (token.NameByte x) h = refl
one-within r (naming st n) t h = name-within r st n 0 t
one-within r (in_tag st n i) t h = name-within r st n i t
one-within r (naming_attribute st n i) (token.AttrByte x) h = refl
one-within r (naming_attribute st n i) token.ValueOpens h = refl
one-within r (naming_attribute st n i) t h = refl
one-within r (in_value st n i) (token.Value c) h = refl
one-within r (in_value st n i) token.ValueEnds h = refl
one-within r (in_value st n i) t h = refl
one-within r (closing st []) token.CloseEnds h = refl
one-within r (closing st []) t h = refl
one-within r (closing st (y ∷ m)) (token.NameByte z) h = cond-within (z == y) (closing st m) refl
one-within r (closing st (y ∷ m)) t h = refl
one-within r lost t h = refl

all-within : (r : Rules) (us : List Token) (n : Nest) → is_outside n ≡ false → is_outside (nest_all r n us) ≡ false
all-within r [] n h = h
all-within r (u ∷ us) n h = all-within r us (nest r n u) (one-within r n u h)

placed-outside : (r : Rules) (s : State) (k : Nest) → stands_outside (placed r s k) ≡ true → is_outside k ≡ true
placed-outside r s k h = by (placed-cases r s k)
  where
    same : (f : Frame) → placed r s k ≡ f → stands_outside f ≡ true
    same f e = ap stands_outside (sym e) ∙ h

    by : Placed r s k → is_outside k ≡ true
    by (inl o) = same (open_at s k) o
    by (inr (inl (o, is))) = false-true (same ended o)
    by (inr (inr o)) = false-true (same broken o)

pub outside-before : (r : Rules) (f : Frame) (b : ℕ) → stands_outside (frame_next r f b) ≡ true → stands_outside f ≡ true
outside-before r (open_at st n) b h = by (turn st b) h
  where
    was : (us : List Token) → is_outside (nest_all r n us) ≡ true → (t : Bool) → is_outside n ≡ t → t ≡ true
    was us k true e = refl
    was us k false e = absurd (not-both _ k (all-within r us n e))

    by : (o : Outcome) → stands_outside (frame_settled r n o) ≡ true → is_outside n ≡ true
    by (leads to us) k = was us (placed-outside r to (nest_all r n us) k) (is_outside n) refl
    by (fails f) k = false-true k
outside-before r ended b h = absurd (cond_both _ ended broken (λ (f : Frame). stands_outside f ≡ true → ⊥) (λ e x. false-true x) (λ e x. false-true x) h)
outside-before r broken b h = false-true h

pub outside-all : (r : Rules) (bs : List ℕ) (f : Frame) → stands_outside (frame_after r f bs) ≡ true → stands_outside f ≡ true
outside-all r [] f h = h
outside-all r (b ∷ bs) f h = outside-before r f b (outside-all r bs (frame_next r f b) h)

-- A frame that is not broken is where it was placed.

placed-there : (r : Rules) (s : State) (k : Nest) → is_broken (placed r s k) ≡ false → (k ≡ inside [] → ⊥) → placed r s k ≡ open_at s k
placed-there r s k w o = by (placed-cases r s k)
  where
    by : Placed r s k → placed r s k ≡ open_at s k
    by (inl e) = e
    by (inr (inl (e, is))) = absurd (o is)
    by (inr (inr e)) = absurd (not-both _ (ap is_broken e) w)

outside-open : (n : Nest) → is_outside n ≡ true → n ≡ inside [] → ⊥
outside-open n h e = not-both _ h (ap is_outside e)

item-open : (n : Nest) → in_item_nest n ≡ true → n ≡ inside [] → ⊥
item-open n h e = not-both _ h (ap in_item_nest e)

never-lost : (r : Rules) (to : State) (n : Nest) → n ≡ lost → is_broken (placed r to n) ≡ false → ⊥
never-lost r to n e w = not-both true refl (ap (λ (x : Nest). is_broken (placed r to x)) (sym e) ∙ w)

-- Before the first tag a byte leaves all closed, or opens a tag.

OutsideNext : Nest → List Token → Type 0
OutsideNext n us = (is_outside n ≡ true) ⊎ ((opens us ≡ true) ⊎ (n ≡ lost))

root-next : (t : Token) (us : List Token) → OutsideNext (before_root t) (t ∷ us)
unfolding OutsideNext
root-next (token.TagOpens b) us = inr (inl refl)
root-next t us = inr (inr refl)

one-next : (r : Rules) (n : Nest) (t : Token) (us : List Token) → is_outside n ≡ true → OutsideNext (nest r n t) (t ∷ us)
unfolding nest OutsideNext
one-next r start token.Declaration us h = inl refl
one-next r start t us h = root-next t us
one-next r declared t us h = root-next t us
one-next r n t us h = false-true h

few-next : (r : Rules) (n : Nest) (us : List Token) → is_few us ≡ true → is_outside n ≡ true → OutsideNext (nest_all r n us) us
unfolding nest OutsideNext
few-next r n [] f h = inl h
few-next r n (t ∷ []) f h = one-next r n t [] h
few-next r start (token.Word c ∷ u ∷ us) f h = inr (inr (lost-all r (u ∷ us)))
few-next r declared (token.Word c ∷ u ∷ us) f h = inr (inr (lost-all r (u ∷ us)))
few-next r n (token.Word c ∷ u ∷ us) f h = false-true h
few-next r n (t ∷ u ∷ us) f h = false-true f

pub outside-next : (r : Rules) (f : Frame) (b : ℕ) → Sound r f → stands_outside f ≡ true → is_broken (frame_next r f b) ≡ false
    → (stands_outside (frame_next r f b) ≡ true) ⊎ (AfterLess f × (begins_tag b ≡ true))
unfolding OutsideNext
outside-next r (open_at st n) b s h w = by (turn st b) refl w (turn-opening st b s.calm_is) (λ l. less-opens st b s.calm_is l)
  where
    next : (to : State) (us : List Token) → is_broken (placed r to (nest_all r n us)) ≡ false → IsOpening st b (leads to us)
        → (after_less st ≡ true → OpensBy b (leads to us)) → OutsideNext (nest_all r n us) us
        → (stands_outside (placed r to (nest_all r n us)) ≡ true) ⊎ ((after_less st ≡ true) × (begins_tag b ≡ true))
    next to us w l k (inl e) = inl (ap stands_outside (placed-there r to (nest_all r n us) w (outside-open (nest_all r n us) e)) ∙ e)
    next to us w l k (inr (inl e)) = let less : after_less st ≡ true = l.1 e in inr (less, sym (k less) ∙ e)
    next to us w l k (inr (inr e)) = absurd (never-lost r to (nest_all r n us) e w)

    by : (o : Outcome) → turn st b ≡ o → is_broken (frame_settled r n o) ≡ false → IsOpening st b o → (after_less st ≡ true → OpensBy b o)
        → (stands_outside (frame_settled r n o) ≡ true) ⊎ ((after_less st ≡ true) × (begins_tag b ≡ true))
    by (leads to us) e w l k = next to us w l k (few-next r n us (turn-few st to b us e) h)
    by (fails x) e w l k = absurd (not-both true refl w)
outside-next r ended b s h w = false-true h
outside-next r broken b s h w = false-true h

-- Before the first tag a `<` is the byte before one.

first-sort : (st : State) (n : Nest) → is_outside n ≡ true → Fits st n → is_first (sort_of st) ≡ true
first-sort st start h (inl e) = ap is_first e
first-sort st start h (inr e) = ap is_first e
first-sort st declared h e = ap is_first e
first-sort st n h e = false-true h

pub less-first : (r : Rules) (f : Frame) → Sound r f → stands_outside f ≡ true → is_broken (frame_next r f 60) ≡ false
    → AfterLess (frame_next r f 60) × (stands_outside (frame_next r f 60) ≡ true)
less-first r (open_at st n) s h w = by (turn st 60) w (by-sixty st)
  where
    by : (o : Outcome) → is_broken (frame_settled r n o) ≡ false → BySixty st o
        → AfterLess (frame_settled r n o) × (stands_outside (frame_settled r n o) ≡ true)
    by (leads to us) w k =
        let (less, none) = k.0 (first-sort st n h s.fits) in
        let still : is_outside (nest_all r n us) ≡ true = ap (λ (l : List Token). is_outside (nest_all r n l)) none ∙ h in
        let there : placed r to (nest_all r n us) ≡ open_at to (nest_all r n us) =
        placed-there r to (nest_all r n us) w (outside-open (nest_all r n us) still) in
        (subst AfterLess (sym there) less, ap stands_outside there ∙ still)
    by (fails x) w k = absurd (not-both true refl w)
less-first r ended s h w = false-true h
less-first r broken s h w = false-true h

-- After a `<` the first byte of a name opens a header or a top element, where nothing but the stream is open.

opening-token : (us : List Token) → is_few us ≡ true → opens us ≡ true → (x : ℕ) × (us ≡ token.TagOpens x ∷ [])
opening-token (token.TagOpens x ∷ []) f h = (x, refl)
opening-token (token.TagOpens x ∷ u ∷ us) f h = false-true f
opening-token [] f h = false-true h
opening-token (t ∷ us) f h = false-true h

cond-opened : (c : Bool) (n : Nest) → in_item_nest n ≡ true → (in_item_nest (cond c n lost) ≡ true) ⊎ (cond c n lost ≡ lost)
cond-opened true n h = inl h
cond-opened false n h = inr refl

level-opened : (r : Rules) (n : Nest) (x : ℕ) → is_level n ≡ true → (in_item_nest (nest r n (token.TagOpens x)) ≡ true) ⊎ (nest r n (token.TagOpens x) ≡ lost)
unfolding nest
level-opened r start x h = inl refl
level-opened r declared x h = inl refl
level-opened r (inside (m ∷ [])) x h = cond-opened (nat_lt (length {A = RawName} []) r.depth) (naming (m ∷ []) (x, [])) refl
level-opened r (inside (m ∷ y ∷ st)) x h = false-true h
level-opened r (inside []) x h = false-true h
level-opened r n x h = false-true h

pub opened-next : (r : Rules) (f : Frame) (b : ℕ) → Sound r f → stands_level f ≡ true → AfterLess f → begins_tag b ≡ true → is_broken (frame_next r f b) ≡ false
    → in_item (frame_next r f b) ≡ true
opened-next r (open_at st n) b s h l k w = by (turn st b) refl w (less-opens st b s.calm_is l)
  where
    by : (o : Outcome) → turn st b ≡ o → is_broken (frame_settled r n o) ≡ false → OpensBy b o → in_item (frame_settled r n o) ≡ true
    by (leads to us) e w o =
        let (x, is) = opening-token us (turn-few st to b us e) (o ∙ k) in
        subst (λ (l : List Token). is_broken (placed r to (nest_all r n l)) ≡ false → in_item (placed r to (nest_all r n l)) ≡ true) (sym is)
        (λ v. elim (level-opened r n x h) [
          | inl p ↦ ap in_item (placed-there r to (nest r n (token.TagOpens x)) v (item-open (nest r n (token.TagOpens x)) p)) ∙ p
          | inr p ↦ absurd (never-lost r to (nest r n (token.TagOpens x)) p v)
        ]) w
    by (fails x) e w o = absurd (not-both true refl w)
opened-next r ended b s h l k w = absurd l
opened-next r broken b s h l k w = absurd l

-- And what is opened is opened so.

level-before : (r : Rules) (n : Nest) (x : ℕ) → in_item_nest n ≡ false → in_item_nest (nest r n (token.TagOpens x)) ≡ true → is_level n ≡ true
unfolding nest
level-before r start x h k = refl
level-before r declared x h k = refl
level-before r (inside []) x h k = false-true k
level-before r (inside (m ∷ [])) x h k = refl
level-before r (inside (m ∷ y ∷ st)) x h k = false-true (sym h)
level-before r (naming st n) x h k = false-true (sym h)
level-before r (in_tag st n i) x h k = false-true (sym h)
level-before r (naming_attribute st n i) x h k = false-true (sym h)
level-before r (in_value st n i) x h k = false-true (sym h)
level-before r (closing (y ∷ st) m) x h k = false-true (sym h)
level-before r (closing [] []) x h k = false-true k
level-before r (closing [] (y ∷ m)) x h k = false-true k
level-before r lost x h k = false-true k

pub opened-so : (r : Rules) (f : Frame) (b : ℕ) → Sound r f → in_item f ≡ false → in_item (frame_next r f b) ≡ true
    → AfterLess f × (begins_tag b ≡ true) × (stands_level f ≡ true)
opened-so r (open_at st n) b s h k = by (turn st b) refl k (turn-opening st b s.calm_is) (λ l. less-opens st b s.calm_is l)
  where
    by : (o : Outcome) → turn st b ≡ o → in_item (frame_settled r n o) ≡ true → IsOpening st b o → (after_less st ≡ true → OpensBy b o)
        → (after_less st ≡ true) × (begins_tag b ≡ true) × (is_level n ≡ true)
    by (leads to us) e k l o =
        let opened : in_item_nest (nest_all r n us) ≡ true = placed-item r to (nest_all r n us) k in
        let tells : opens us ≡ true = few-opens r n us (turn-few st to b us e) h opened in
        let (x, is) = opening-token us (turn-few st to b us e) tells in
        let less : after_less st ≡ true = l.1 tells in
        (less, sym (o less) ∙ tells, level-before r n x h (ap (λ (l : List Token). in_item_nest (nest_all r n l)) (sym is) ∙ opened))
    by (fails x) e k l o = false-true k
opened-so r ended b s h k = absurd (cond_both _ ended broken (λ (f : Frame). in_item f ≡ true → ⊥) (λ e x. false-true x) (λ e x. false-true x) k)
opened-so r broken b s h k = false-true k

-- The name of a tag may be that of an end tag: what reads as the one reads as the other, byte by byte.
use Rattle.std.proofs.Common.{◌≡◌, ℕ, ◌⊎◌, inl, inr, [], ◌∷◌, ◌++◌, refl, sym, ap, ◌∙◌, subst, Bool, true, false, not, cond, ◌&&◌, ◌||◌, ◌==◌, nat_lt}
use Rattle.std.proofs.lemmas.Bool.{cond_both, and_parts, cond-true, cond-false}
use Rattle.stream_lex.specs.declared.Token.{Token}
use Rattle.stream_lex.specs.declared.Token.TheVariants as token
use Rattle.stream_lex.specs.declared.LexFault.{LexFault}
use Rattle.stream_lex.specs.declared.LexFault.TheVariants.{NotWellFormed}
use Rattle.stream_lex.specs.declared.kinds.Kind.{Kind}
use Rattle.stream_lex.specs.declared.kinds.Kind.TheVariants as kinds
use Rattle.stream_lex.specs.declared.stages.Context.TheVariants.{Words, Value}
use Rattle.stream_lex.specs.declared.stages.Half.TheVariants.{Prefix, Local}
use Rattle.stream_lex.specs.declared.stages.NameOwner.TheVariants.{StartTag, EndTag, Attribute}
use Rattle.stream_lex.specs.declared.stages.Brackets.TheVariants.{One, Many}
use Rattle.stream_lex.specs.declared.stages.Literal.TheVariants as literal
use Rattle.stream_lex.specs.declared.stages.Stage.{Stage}
use Rattle.stream_lex.specs.declared.stages.Stage.TheVariants as stage
use Rattle.stream_lex.specs.declared.stages.State.{State}
use Rattle.stream_lex.specs.declared.characters.Pending.{Pending}
use Rattle.stream_lex.specs.declared.characters.Pending.TheVariants as pending
use Rattle.stream_lex.specs.declared.characters.Reach.{Reach}
use Rattle.stream_lex.specs.declared.characters.Reach.TheVariants.{Whole, Begun, Broken}
use Rattle.stream_lex.specs.grammar.Classes.{has_between, class_of}
use Rattle.stream_lex.specs.grammar.Kinds.{ascii_kind}
use Rattle.stream_lex.specs.machine.Characters.{is_nothing, reach}
use Rattle.stream_lex.specs.machine.Machine.{Turn, goes, stops, ascii, in_name, allowed_at, voice, through}
use Rattle.stream_lex.specs.machine.Machine.{yields as tells_and_goes}
use Rattle.stream_lex.specs.machine.Turns.{Outcome, leads, fails, at, byte_told, end_told, settled, turn_ascii, turn_wide, turn}
use Rattle.stream_lex.proofs.Lists.{false-true}
use Rattle.stream_grammar.specs.machine.Sorts.{Sort, at_name, sort}
use Rattle.stream_grammar.proofs.Sorts.{twin_stage, twin_turn, where_opens, where_ends, to_words}
use Rattle.stream_grammar.proofs.Sorts.{moves-ascii, may_return, turn_returns, returns-space}
use Rattle.stream_grammar.specs.machine.Sorts.{sort_of}
use Rattle.stream_grammar.proofs.Moving.{calm}

abbrev pub twin : State → State
twin st = at (twin_stage st.stage) st.pending st.returned

-- after `</`
abbrev pub end_mark : State
end_mark = at stage.EndTagMark pending.Nothing false

abbrev pub words : State
words = at (stage.Text Words) pending.Nothing false

not-returned : (r : Bool) → (not r || false) ≡ true → r ≡ false
not-returned true h = sym h
not-returned false h = refl

-- The first byte.

abbrev pub Twinned : Outcome → Outcome → Type 0
Twinned (leads to (token.TagOpens x ∷ ts)) o = o ≡ leads (twin to) (token.CloseOpens x ∷ ts)
Twinned (leads to (token.CloseOpens x ∷ ts)) o = o ≡ leads (twin to) (token.CloseOpens x ∷ ts)
Twinned p o = Unit {0}

no-opening : (r : Bool) (t : Turn) (o : Outcome) → turn_returns t ≡ true → Twinned (settled r t) o
no-opening r (goes t) o h = tt
no-opening r (tells_and_goes (token.TagOpens x ∷ ts) t) o h = absurd (let bad : false ≡ true = (and_parts (may_return t) false h).1 in cc)
no-opening r (tells_and_goes (token.CloseOpens x ∷ ts) t) o h = absurd (let bad : false ≡ true = (and_parts (may_return t) false h).1 in cc)
no-opening r (tells_and_goes ts t) o h = tt
no-opening r (stops f) o h = tt

twinned-turn : (t u : Turn) → where_opens t u ≡ where_opens t (twin_turn t) → Twinned (settled false t) (settled false u)
twinned-turn (tells_and_goes (token.TagOpens x ∷ ts) t) u h = ap (settled false) h
twinned-turn (tells_and_goes (token.CloseOpens x ∷ ts) t) u h = ap (settled false) h
twinned-turn (tells_and_goes ts t) u h = tt
twinned-turn (goes t) u h = tt
twinned-turn (stops f) u h = tt

ascii-first : (s : Stage) (r : Bool) (b : ℕ) → Twinned (turn_ascii (at s pending.Nothing r) b) (turn_ascii end_mark b)
unfolding turn_ascii ascii_kind
ascii-first s r b =
    cond_both (r && b == 10) _ _ (λ (o : Outcome). Twinned o (turn_ascii end_mark b)) (λ e. tt)
    (λ f. cond_both (b == 13) _ _ (λ (o : Outcome). Twinned o (turn_ascii end_mark b))
    (λ e. no-opening true (ascii s kinds.Space 10) _ (returns-space s))
    (λ g. subst (Twinned (settled false (ascii s (ascii_kind b) b))) (sym (cond-false _ _ _ g))
    (twinned-turn (ascii s (ascii_kind b) b) (ascii stage.EndTagMark (ascii_kind b) b) (moves-ascii s (ascii_kind b) b).2)))

-- what a byte of a character from 128 on tells, and where it leads, beside an end tag's
abbrev IsFirst : Stage → Pending → Type 0
IsFirst s p = (r : Bool) (b low high n : ℕ) (q : Pending) (o : Outcome) → calm (at s p r) ≡ true → has_between (class_of (allowed_at s)) low high ≡ true
    → Twinned (leads (at s q r) (byte_told (voice s) p b)) o
    × Twinned (leads (at (through s) pending.Nothing false) (byte_told (voice s) p b ++ end_told (voice s) n)) o

abbrev begun_twin : Stage → Pending → Reach → ℕ → Outcome → Type 0
begun_twin s p x b o = (r : Bool) → calm (at s p r) ≡ true → Twinned (turn_wide (at s p r) b x) o

both-first : (s : Stage) (p : Pending) (x : Reach) (b : ℕ) (o : Outcome) → IsFirst s p → begun_twin s p x b o
unfolding turn_wide
both-first s p (Begun q low high) b o f = λ r h. cond_both (has_between (class_of (allowed_at s)) low high) _ _ (λ (y : Outcome). Twinned y o)
    (λ e. (f r b low high 0 q o h e).0) (λ e. tt)
both-first s p (Whole n) b o f =
    λ r h. cond_both (has_between (class_of (allowed_at s)) n n) _ _ (λ (y : Outcome). Twinned y o) (λ e. (f r b n n n pending.Nothing o h e).1) (λ e. tt)
both-first s p Broken b o f = λ r h. tt

is-first-more : (s : Stage) (p : Pending) → is_nothing p ≡ false → IsFirst s p
unfolding allowed_at voice through
is-first-more s pending.Nothing e = absurd (let bad : true ≡ false = e in cc)
is-first-more (stage.Text Words) p e = λ r b low high n q o h f. (tt, tt)
is-first-more (stage.Text (Value q)) p e = λ r b low high n q o h f. (tt, tt)
is-first-more (stage.Bracketed One) p e = λ r b low high n q o h f. (tt, tt)
is-first-more (stage.Bracketed Many) p e = λ r b low high n q o h f. (tt, tt)
is-first-more stage.Cdata p e = λ r b low high n q o h f. (tt, tt)
is-first-more (stage.CdataBracketed One) p e = λ r b low high n q o h f. (tt, tt)
is-first-more (stage.CdataBracketed Many) p e = λ r b low high n q o h f. (tt, tt)
is-first-more stage.StartLess p e = λ r b low high n q o h f. (tt, tt)
is-first-more stage.PrologLess p e = λ r b low high n q o h f. (tt, tt)
is-first-more stage.Less p e = λ r b low high n q o h f. (tt, tt)
is-first-more stage.EndTagMark p e = λ r b low high n q o h f. (tt, tt)
is-first-more stage.InTag p e = λ r b low high n q o h f. (tt, tt)
is-first-more (stage.Name StartTag Prefix) p e = λ r b low high n q o h f. (tt, tt)
is-first-more (stage.Name StartTag Local) p e = λ r b low high n q o h f. (tt, tt)
is-first-more (stage.Name EndTag Prefix) p e = λ r b low high n q o h f. (tt, tt)
is-first-more (stage.Name EndTag Local) p e = λ r b low high n q o h f. (tt, tt)
is-first-more (stage.Name Attribute Prefix) p e = λ r b low high n q o h f. (tt, tt)
is-first-more (stage.Name Attribute Local) p e = λ r b low high n q o h f. (tt, tt)
is-first-more (stage.Colon StartTag) p e = λ r b low high n q o h f. (tt, tt)
is-first-more (stage.Colon EndTag) p e = λ r b low high n q o h f. (tt, tt)
is-first-more (stage.Colon Attribute) p e = λ r b low high n q o h f. (tt, tt)
is-first-more s p e = λ r b low high n q o h f. false-true f

begun-first : (s : Stage) (r : Bool) (b : ℕ) (q : Pending) (t : Bool) (f g : LexFault) (u : Token) → u ≡ token.TagOpens b ⊎ (u ≡ token.CloseOpens b)
    → twin_stage s ≡ stage.EndTagMark → (not r || false) ≡ true
    → Twinned (cond t (leads (at s q r) (u ∷ [])) (fails f)) (cond t (leads (at stage.EndTagMark q false) (token.CloseOpens b ∷ [])) (fails g))
begun-first s r b q true f g u k e h =
    let same : leads (at stage.EndTagMark q false) (token.CloseOpens b ∷ []) ≡ leads (twin (at s q r)) (token.CloseOpens b ∷ []) =
    ap (λ (x : Bool). leads (at stage.EndTagMark q x) (token.CloseOpens b ∷ [])) (sym (not-returned r h))
    ∙ ap (λ (x : Stage). leads (at x q r) (token.CloseOpens b ∷ [])) (sym e) in
    elim k [
      | inl i ↦ subst (λ (v : Token). Twinned (leads (at s q r) (v ∷ [])) (leads (at stage.EndTagMark q false) (token.CloseOpens b ∷ []))) (sym i) same
      | inr i ↦ subst (λ (v : Token). Twinned (leads (at s q r) (v ∷ [])) (leads (at stage.EndTagMark q false) (token.CloseOpens b ∷ []))) (sym i) same
    ]
begun-first s r b q false f g u k e h = tt

whole-first : (s : Stage) (b : ℕ) (t : Bool) (f g : LexFault) (u : Token) → u ≡ token.TagOpens b ⊎ (u ≡ token.CloseOpens b)
    → twin_stage s ≡ stage.Name EndTag Prefix
    → Twinned (cond t (leads (at s pending.Nothing false) (u ∷ [])) (fails f))
    (cond t (leads (at (stage.Name EndTag Prefix) pending.Nothing false) (token.CloseOpens b ∷ [])) (fails g))
whole-first s b true f g u k e =
    let same : leads (at (stage.Name EndTag Prefix) pending.Nothing false) (token.CloseOpens b ∷ [])
    ≡ leads (twin (at s pending.Nothing false)) (token.CloseOpens b ∷ []) =
    ap (λ (x : Stage). leads (at x pending.Nothing false) (token.CloseOpens b ∷ [])) (sym e) in
    elim k [
      | inl i ↦ subst (λ (v : Token). Twinned (leads (at s pending.Nothing false) (v ∷ []))
          (leads (at (stage.Name EndTag Prefix) pending.Nothing false) (token.CloseOpens b ∷ []))) (sym i) same
      | inr i ↦ subst (λ (v : Token). Twinned (leads (at s pending.Nothing false) (v ∷ []))
          (leads (at (stage.Name EndTag Prefix) pending.Nothing false) (token.CloseOpens b ∷ []))) (sym i) same
    ]
whole-first s b false f g u k e = tt

-- before any byte of it, at a stage that a tag's name may come from
mark-first : (s : Stage) (r : Bool) (b : ℕ) (x : Reach) → may_return s ≡ false → calm (at s pending.Nothing r) ≡ true
    → Twinned (turn_wide (at s pending.Nothing r) b x) (turn_wide end_mark b x)
unfolding turn_wide allowed_at voice through
mark-first stage.StartLess r b (Begun q low high) e h = begun-first stage.StartLess r b q (has_between (class_of (allowed_at stage.StartLess)) low high) _ _
    (token.TagOpens b) (inl refl) refl h
mark-first stage.StartLess r b (Whole n) e h = whole-first (through stage.StartLess) b (has_between (class_of (allowed_at stage.StartLess)) n n) _ _
    (token.TagOpens b) (inl refl) refl
mark-first stage.StartLess r b Broken e h = tt
mark-first stage.PrologLess r b (Begun q low high) e h = begun-first stage.PrologLess r b q (has_between (class_of (allowed_at stage.PrologLess)) low high) _ _
    (token.TagOpens b) (inl refl) refl h
mark-first stage.PrologLess r b (Whole n) e h = whole-first (through stage.PrologLess) b (has_between (class_of (allowed_at stage.PrologLess)) n n) _ _
    (token.TagOpens b) (inl refl) refl
mark-first stage.PrologLess r b Broken e h = tt
mark-first stage.Less r b (Begun q low high) e h = begun-first stage.Less r b q (has_between (class_of (allowed_at stage.Less)) low high) _ _ (token.TagOpens b)
    (inl refl) refl h
mark-first stage.Less r b (Whole n) e h = whole-first (through stage.Less) b (has_between (class_of (allowed_at stage.Less)) n n) _ _ (token.TagOpens b)
    (inl refl) refl
mark-first stage.Less r b Broken e h = tt
mark-first stage.EndTagMark r b (Begun q low high) e h = begun-first stage.EndTagMark r b q (has_between (class_of (allowed_at stage.EndTagMark)) low high) _ _
    (token.CloseOpens b) (inr refl) refl h
mark-first stage.EndTagMark r b (Whole n) e h = whole-first (through stage.EndTagMark) b (has_between (class_of (allowed_at stage.EndTagMark)) n n) _ _
    (token.CloseOpens b) (inr refl) refl
mark-first stage.EndTagMark r b Broken e h = tt
mark-first (stage.Name StartTag Prefix) r b (Begun q low high) e h =
    both-first (stage.Name StartTag Prefix) pending.Nothing (Begun q low high) b _ (λ r b low high n q o h f. (tt, tt)) r h
mark-first (stage.Name StartTag Prefix) r b (Whole n) e h =
    both-first (stage.Name StartTag Prefix) pending.Nothing (Whole n) b _ (λ r b low high n q o h f. (tt, tt)) r h
mark-first (stage.Name StartTag Prefix) r b Broken e h = tt
mark-first (stage.Name StartTag Local) r b (Begun q low high) e h =
    both-first (stage.Name StartTag Local) pending.Nothing (Begun q low high) b _ (λ r b low high n q o h f. (tt, tt)) r h
mark-first (stage.Name StartTag Local) r b (Whole n) e h =
    both-first (stage.Name StartTag Local) pending.Nothing (Whole n) b _ (λ r b low high n q o h f. (tt, tt)) r h
mark-first (stage.Name StartTag Local) r b Broken e h = tt
mark-first (stage.Name EndTag Prefix) r b (Begun q low high) e h =
    both-first (stage.Name EndTag Prefix) pending.Nothing (Begun q low high) b _ (λ r b low high n q o h f. (tt, tt)) r h
mark-first (stage.Name EndTag Prefix) r b (Whole n) e h =
    both-first (stage.Name EndTag Prefix) pending.Nothing (Whole n) b _ (λ r b low high n q o h f. (tt, tt)) r h
mark-first (stage.Name EndTag Prefix) r b Broken e h = tt
mark-first (stage.Name EndTag Local) r b (Begun q low high) e h =
    both-first (stage.Name EndTag Local) pending.Nothing (Begun q low high) b _ (λ r b low high n q o h f. (tt, tt)) r h
mark-first (stage.Name EndTag Local) r b (Whole n) e h = both-first (stage.Name EndTag Local) pending.Nothing (Whole n) b _ (λ r b low high n q o h f. (tt, tt))
    r h
mark-first (stage.Name EndTag Local) r b Broken e h = tt
mark-first (stage.Name Attribute Prefix) r b (Begun q low high) e h =
    both-first (stage.Name Attribute Prefix) pending.Nothing (Begun q low high) b _ (λ r b low high n q o h f. (tt, tt)) r h
mark-first (stage.Name Attribute Prefix) r b (Whole n) e h =
    both-first (stage.Name Attribute Prefix) pending.Nothing (Whole n) b _ (λ r b low high n q o h f. (tt, tt)) r h
mark-first (stage.Name Attribute Prefix) r b Broken e h = tt
mark-first (stage.Name Attribute Local) r b (Begun q low high) e h =
    both-first (stage.Name Attribute Local) pending.Nothing (Begun q low high) b _ (λ r b low high n q o h f. (tt, tt)) r h
mark-first (stage.Name Attribute Local) r b (Whole n) e h =
    both-first (stage.Name Attribute Local) pending.Nothing (Whole n) b _ (λ r b low high n q o h f. (tt, tt)) r h
mark-first (stage.Name Attribute Local) r b Broken e h = tt
mark-first (stage.Colon StartTag) r b (Begun q low high) e h =
    both-first (stage.Colon StartTag) pending.Nothing (Begun q low high) b _ (λ r b low high n q o h f. (tt, tt)) r h
mark-first (stage.Colon StartTag) r b (Whole n) e h = both-first (stage.Colon StartTag) pending.Nothing (Whole n) b _ (λ r b low high n q o h f. (tt, tt)) r h
mark-first (stage.Colon StartTag) r b Broken e h = tt
mark-first (stage.Colon EndTag) r b (Begun q low high) e h =
    both-first (stage.Colon EndTag) pending.Nothing (Begun q low high) b _ (λ r b low high n q o h f. (tt, tt)) r h
mark-first (stage.Colon EndTag) r b (Whole n) e h = both-first (stage.Colon EndTag) pending.Nothing (Whole n) b _ (λ r b low high n q o h f. (tt, tt)) r h
mark-first (stage.Colon EndTag) r b Broken e h = tt
mark-first (stage.Colon Attribute) r b (Begun q low high) e h =
    both-first (stage.Colon Attribute) pending.Nothing (Begun q low high) b _ (λ r b low high n q o h f. (tt, tt)) r h
mark-first (stage.Colon Attribute) r b (Whole n) e h = both-first (stage.Colon Attribute) pending.Nothing (Whole n) b _ (λ r b low high n q o h f. (tt, tt)) r h
mark-first (stage.Colon Attribute) r b Broken e h = tt
mark-first s r b x e h = absurd (let bad : true ≡ false = e in cc)

is-first-none : (s : Stage) → may_return s ≡ true → IsFirst s pending.Nothing
unfolding allowed_at voice through
is-first-none (stage.Text Words) e = λ r b low high n q o h f. (tt, tt)
is-first-none (stage.Text (Value q)) e = λ r b low high n q o h f. (tt, tt)
is-first-none (stage.Bracketed One) e = λ r b low high n q o h f. (tt, tt)
is-first-none (stage.Bracketed Many) e = λ r b low high n q o h f. (tt, tt)
is-first-none stage.Cdata e = λ r b low high n q o h f. (tt, tt)
is-first-none (stage.CdataBracketed One) e = λ r b low high n q o h f. (tt, tt)
is-first-none (stage.CdataBracketed Many) e = λ r b low high n q o h f. (tt, tt)
is-first-none stage.InTag e = λ r b low high n q o h f. (tt, tt)
is-first-none stage.StartLess e = λ r b low high n q o h f. false-true e
is-first-none stage.PrologLess e = λ r b low high n q o h f. false-true e
is-first-none stage.Less e = λ r b low high n q o h f. false-true e
is-first-none stage.EndTagMark e = λ r b low high n q o h f. false-true e
is-first-none (stage.Name StartTag Prefix) e = λ r b low high n q o h f. false-true e
is-first-none (stage.Name StartTag Local) e = λ r b low high n q o h f. false-true e
is-first-none (stage.Name EndTag Prefix) e = λ r b low high n q o h f. false-true e
is-first-none (stage.Name EndTag Local) e = λ r b low high n q o h f. false-true e
is-first-none (stage.Name Attribute Prefix) e = λ r b low high n q o h f. false-true e
is-first-none (stage.Name Attribute Local) e = λ r b low high n q o h f. false-true e
is-first-none (stage.Colon StartTag) e = λ r b low high n q o h f. false-true e
is-first-none (stage.Colon EndTag) e = λ r b low high n q o h f. false-true e
is-first-none (stage.Colon Attribute) e = λ r b low high n q o h f. false-true e
is-first-none s e = λ r b low high n q o h f. false-true f

wide-first : (s : Stage) (r : Bool) (b : ℕ) (x : Reach) (t : Bool) → may_return s ≡ t → calm (at s pending.Nothing r) ≡ true
    → Twinned (turn_wide (at s pending.Nothing r) b x) (turn_wide end_mark b x)
wide-first s r b x true e h = both-first s pending.Nothing x b (turn_wide end_mark b x) (is-first-none s e) r h
wide-first s r b x false e h = mark-first s r b x e h

pub first-twin : (st : State) (b : ℕ) → calm st ≡ true → Twinned (turn st b) (turn end_mark b)
first-twin st b h = led st.stage st.pending st.returned b h
  where
    led : (s : Stage) (p : Pending) (r : Bool) (b : ℕ) → calm (at s p r) ≡ true → Twinned (turn (at s p r) b) (turn end_mark b)
    led s pending.Nothing r b h =
        cond_both (nat_lt b 128) (turn_ascii (at s pending.Nothing r) b) (turn_wide (at s pending.Nothing r) b (reach pending.Nothing b))
        (λ (o : Outcome). Twinned o (turn end_mark b))
        (λ e. subst (Twinned (turn_ascii (at s pending.Nothing r) b)) (sym (cond-true _ _ _ e)) (ascii-first s r b))
        (λ e. subst (Twinned (turn_wide (at s pending.Nothing r) b (reach pending.Nothing b))) (sym (cond-false _ _ _ e))
        (wide-first s r b (reach pending.Nothing b) (may_return s) refl h))
    led s (pending.One x) r b h = both-first s (pending.One x) (reach (pending.One x) b) b (turn end_mark b) (is-first-more s (pending.One x) refl) r h
    led s (pending.Two x y) r b h = both-first s (pending.Two x y) (reach (pending.Two x y) b) b (turn end_mark b) (is-first-more s (pending.Two x y) refl) r h
    led s (pending.Three x y z) r b h =
        both-first s (pending.Three x y z) (reach (pending.Three x y z) b) b (turn end_mark b) (is-first-more s (pending.Three x y z) refl) r h

-- The further bytes.

abbrev pub is_named : Sort → Bool
is_named at_name = true
is_named x = false

abbrev pub TwinnedNext : Outcome → Outcome → Type 0
TwinnedNext (leads to (token.NameByte x ∷ ts)) o = o ≡ leads (twin to) (token.NameByte x ∷ ts)
TwinnedNext p o = Unit {0}

no-next : (r : Bool) (t : Turn) (o : Outcome) → turn_returns t ≡ true → TwinnedNext (settled r t) o
no-next r (goes t) o h = tt
no-next r (tells_and_goes (token.NameByte x ∷ ts) t) o h = absurd (let bad : false ≡ true = (and_parts (may_return t) false h).1 in cc)
no-next r (tells_and_goes ts t) o h = tt
no-next r (stops f) o h = tt

abbrev turn_names : Turn → Bool
turn_names (tells_and_goes (token.NameByte x ∷ ts) t) = true
turn_names t = false

-- u, where t names on
abbrev where_names : Turn → Turn → Turn
where_names t u = cond (turn_names t) u (stops NotWellFormed)

turn-next : (t u : Turn) → where_names t u ≡ where_names t (twin_turn t) → TwinnedNext (settled false t) (settled false u)
turn-next (tells_and_goes (token.NameByte x ∷ ts) t) u h = ap (settled false) h
turn-next (tells_and_goes ts t) u h = tt
turn-next (goes t) u h = tt
turn-next (stops f) u h = tt

name-next : (s : Stage) (k : Kind) (c : ℕ) → is_named (sort s) ≡ true
    → where_names (ascii s k c) (ascii (twin_stage s) k c) ≡ where_names (ascii s k c) (twin_turn (ascii s k c))
unfolding ascii in_name
name-next (stage.Name StartTag Prefix) kinds.Space c h = refl
name-next (stage.Name StartTag Prefix) k c h = refl
name-next (stage.Name StartTag Local) kinds.Space c h = refl
name-next (stage.Name StartTag Local) k c h = refl
name-next (stage.Colon StartTag) kinds.Space c h = refl
name-next (stage.Colon StartTag) k c h = refl
name-next (stage.Text Words) k c h = false-true h
name-next (stage.Text (Value q)) k c h = false-true h
name-next (stage.Hash Words) k c h = false-true h
name-next (stage.Hash (Value q)) k c h = false-true h
name-next (stage.HashX Words) k c h = false-true h
name-next (stage.HashX (Value q)) k c h = false-true h
name-next (stage.Reference Words l) k c h = false-true h
name-next (stage.Number Words base v) k c h = false-true h
name-next (stage.Reference (Value q) l) k c h = false-true h
name-next (stage.Number (Value q) base v) k c h = false-true h
name-next (stage.Fixed literal.Xml at) k c h = false-true h
name-next (stage.Fixed w at) k c h = false-true h
name-next (stage.Name EndTag p) k c h = false-true h
name-next (stage.Colon EndTag) k c h = false-true h
name-next (stage.Name Attribute p) k c h = false-true h
name-next (stage.Colon Attribute) k c h = false-true h
name-next s k c h = false-true h

ascii-next : (s : Stage) (r : Bool) (b : ℕ) → is_named (sort s) ≡ true
    → TwinnedNext (turn_ascii (at s pending.Nothing r) b) (turn_ascii (at (twin_stage s) pending.Nothing r) b)
unfolding turn_ascii ascii_kind
ascii-next s r b h =
    let u : Outcome = turn_ascii (at (twin_stage s) pending.Nothing r) b in
    cond_both (r && b == 10) _ _ (λ (o : Outcome). TwinnedNext o u) (λ e. tt)
    (λ f. cond_both (b == 13) _ _ (λ (o : Outcome). TwinnedNext o u)
    (λ e. no-next true (ascii s kinds.Space 10) u (returns-space s))
    (λ g. subst (TwinnedNext (settled false (ascii s (ascii_kind b) b))) (sym (cond-false _ _ _ f ∙ cond-false _ _ _ g))
    (turn-next (ascii s (ascii_kind b) b) (ascii (twin_stage s) (ascii_kind b) b) (name-next s (ascii_kind b) b h))))

-- a name's byte of a character from 128 on
both-next : (t : Bool) (to to1 : State) (b : ℕ) (f g : LexFault) → to1 ≡ twin to
    → TwinnedNext (cond t (leads to (token.NameByte b ∷ [])) (fails f)) (cond t (leads to1 (token.NameByte b ∷ [])) (fails g))
both-next true to to1 b f g e = ap (λ (x : State). leads x (token.NameByte b ∷ [])) e
both-next false to to1 b f g e = tt

wide-next : (s : Stage) (p : Pending) (r : Bool) (b : ℕ) (x : Reach) → is_named (sort_of (at s p r)) ≡ true
    → TwinnedNext (turn_wide (at s p r) b x) (turn_wide (at (twin_stage s) p r) b x)
unfolding turn_wide allowed_at voice through
wide-next (stage.Name StartTag Prefix) pending.Nothing r b (Begun q low high) h =
    both-next (has_between (class_of (allowed_at (stage.Name StartTag Prefix))) low high) (at (stage.Name StartTag Prefix) q r) _ b _ _ refl
wide-next (stage.Name StartTag Prefix) pending.Nothing r b (Whole n) h =
    both-next (has_between (class_of (allowed_at (stage.Name StartTag Prefix))) n n) (at (through (stage.Name StartTag Prefix)) pending.Nothing false) _ b _ _
    refl
wide-next (stage.Name StartTag Prefix) pending.Nothing r b Broken h = tt
wide-next (stage.Name StartTag Prefix) p r b (Begun q low high) h =
    both-next (has_between (class_of (allowed_at (stage.Name StartTag Prefix))) low high) (at (stage.Name StartTag Prefix) q r) _ b _ _ refl
wide-next (stage.Name StartTag Prefix) p r b (Whole n) h =
    both-next (has_between (class_of (allowed_at (stage.Name StartTag Prefix))) n n) (at (through (stage.Name StartTag Prefix)) pending.Nothing false) _ b _ _
    refl
wide-next (stage.Name StartTag Prefix) p r b Broken h = tt
wide-next (stage.Name StartTag Local) pending.Nothing r b (Begun q low high) h =
    both-next (has_between (class_of (allowed_at (stage.Name StartTag Local))) low high) (at (stage.Name StartTag Local) q r) _ b _ _ refl
wide-next (stage.Name StartTag Local) pending.Nothing r b (Whole n) h =
    both-next (has_between (class_of (allowed_at (stage.Name StartTag Local))) n n) (at (through (stage.Name StartTag Local)) pending.Nothing false) _ b _ _
    refl
wide-next (stage.Name StartTag Local) pending.Nothing r b Broken h = tt
wide-next (stage.Name StartTag Local) p r b (Begun q low high) h =
    both-next (has_between (class_of (allowed_at (stage.Name StartTag Local))) low high) (at (stage.Name StartTag Local) q r) _ b _ _ refl
wide-next (stage.Name StartTag Local) p r b (Whole n) h =
    both-next (has_between (class_of (allowed_at (stage.Name StartTag Local))) n n) (at (through (stage.Name StartTag Local)) pending.Nothing false) _ b _ _
    refl
wide-next (stage.Name StartTag Local) p r b Broken h = tt
wide-next (stage.Colon StartTag) pending.Nothing r b (Begun q low high) h =
    both-next (has_between (class_of (allowed_at (stage.Colon StartTag))) low high) (at (stage.Colon StartTag) q r) _ b _ _ refl
wide-next (stage.Colon StartTag) pending.Nothing r b (Whole n) h =
    both-next (has_between (class_of (allowed_at (stage.Colon StartTag))) n n) (at (through (stage.Colon StartTag)) pending.Nothing false) _ b _ _ refl
wide-next (stage.Colon StartTag) pending.Nothing r b Broken h = tt
wide-next (stage.Colon StartTag) p r b (Begun q low high) h =
    both-next (has_between (class_of (allowed_at (stage.Colon StartTag))) low high) (at (stage.Colon StartTag) q r) _ b _ _ refl
wide-next (stage.Colon StartTag) p r b (Whole n) h =
    both-next (has_between (class_of (allowed_at (stage.Colon StartTag))) n n) (at (through (stage.Colon StartTag)) pending.Nothing false) _ b _ _ refl
wide-next (stage.Colon StartTag) p r b Broken h = tt
wide-next stage.StartLess pending.Nothing r b x h = false-true h
wide-next stage.StartLess p r b (Begun q low high) h = both-next (has_between (class_of (allowed_at stage.StartLess)) low high) (at stage.StartLess q r) _ b _ _
    refl
wide-next stage.StartLess p r b (Whole n) h =
    both-next (has_between (class_of (allowed_at stage.StartLess)) n n) (at (through stage.StartLess) pending.Nothing false) _ b _ _ refl
wide-next stage.StartLess p r b Broken h = tt
wide-next stage.PrologLess pending.Nothing r b x h = false-true h
wide-next stage.PrologLess p r b (Begun q low high) h = both-next (has_between (class_of (allowed_at stage.PrologLess)) low high) (at stage.PrologLess q r) _ b
    _ _ refl
wide-next stage.PrologLess p r b (Whole n) h =
    both-next (has_between (class_of (allowed_at stage.PrologLess)) n n) (at (through stage.PrologLess) pending.Nothing false) _ b _ _ refl
wide-next stage.PrologLess p r b Broken h = tt
wide-next stage.Less pending.Nothing r b x h = false-true h
wide-next stage.Less p r b (Begun q low high) h = both-next (has_between (class_of (allowed_at stage.Less)) low high) (at stage.Less q r) _ b _ _ refl
wide-next stage.Less p r b (Whole n) h = both-next (has_between (class_of (allowed_at stage.Less)) n n) (at (through stage.Less) pending.Nothing false) _ b _ _
    refl
wide-next stage.Less p r b Broken h = tt
wide-next (stage.Text Words) pending.Nothing r b x h = false-true h
wide-next (stage.Text Words) p r b x h = false-true h
wide-next (stage.Text (Value q)) pending.Nothing r b x h = false-true h
wide-next (stage.Text (Value q)) p r b x h = false-true h
wide-next (stage.Bracketed One) pending.Nothing r b x h = false-true h
wide-next (stage.Bracketed One) p r b x h = false-true h
wide-next (stage.Bracketed Many) pending.Nothing r b x h = false-true h
wide-next (stage.Bracketed Many) p r b x h = false-true h
wide-next stage.Cdata pending.Nothing r b x h = false-true h
wide-next stage.Cdata p r b x h = false-true h
wide-next (stage.CdataBracketed One) pending.Nothing r b x h = false-true h
wide-next (stage.CdataBracketed One) p r b x h = false-true h
wide-next (stage.CdataBracketed Many) pending.Nothing r b x h = false-true h
wide-next (stage.CdataBracketed Many) p r b x h = false-true h
wide-next stage.EndTagMark pending.Nothing r b x h = false-true h
wide-next stage.EndTagMark p r b x h = false-true h
wide-next stage.InTag pending.Nothing r b x h = false-true h
wide-next stage.InTag p r b x h = false-true h
wide-next (stage.Name EndTag Prefix) pending.Nothing r b x h = false-true h
wide-next (stage.Name EndTag Prefix) p r b x h = false-true h
wide-next (stage.Name EndTag Local) pending.Nothing r b x h = false-true h
wide-next (stage.Name EndTag Local) p r b x h = false-true h
wide-next (stage.Name Attribute Prefix) pending.Nothing r b x h = false-true h
wide-next (stage.Name Attribute Prefix) p r b x h = false-true h
wide-next (stage.Name Attribute Local) pending.Nothing r b x h = false-true h
wide-next (stage.Name Attribute Local) p r b x h = false-true h
wide-next (stage.Colon EndTag) pending.Nothing r b x h = false-true h
wide-next (stage.Colon EndTag) p r b x h = false-true h
wide-next (stage.Colon Attribute) pending.Nothing r b x h = false-true h
wide-next (stage.Colon Attribute) p r b x h = false-true h
wide-next (stage.Hash Words) pending.Nothing r b x h = false-true h
wide-next (stage.Hash Words) p r b x h = false-true h
wide-next (stage.Hash (Value q)) pending.Nothing r b x h = false-true h
wide-next (stage.Hash (Value q)) p r b x h = false-true h
wide-next (stage.HashX Words) pending.Nothing r b x h = false-true h
wide-next (stage.HashX Words) p r b x h = false-true h
wide-next (stage.HashX (Value q)) pending.Nothing r b x h = false-true h
wide-next (stage.HashX (Value q)) p r b x h = false-true h
wide-next (stage.Reference Words l) pending.Nothing r b x h = false-true h
wide-next (stage.Number Words base v) pending.Nothing r b x h = false-true h
wide-next (stage.Reference Words l) p r b x h = false-true h
wide-next (stage.Number Words base v) p r b x h = false-true h
wide-next (stage.Reference (Value q) l) pending.Nothing r b x h = false-true h
wide-next (stage.Number (Value q) base v) pending.Nothing r b x h = false-true h
wide-next (stage.Reference (Value q) l) p r b x h = false-true h
wide-next (stage.Number (Value q) base v) p r b x h = false-true h
wide-next (stage.Fixed literal.Xml at) pending.Nothing r b x h = false-true h
wide-next (stage.Fixed w at) pending.Nothing r b x h = false-true h
wide-next s pending.Nothing r b x h = false-true h
wide-next (stage.Fixed literal.Xml at) p r b x h = false-true h
wide-next (stage.Fixed w at) p r b x h = false-true h
wide-next s p r b x h = false-true h

pub next-twin : (st : State) (b : ℕ) → is_named (sort_of st) ≡ true → TwinnedNext (turn st b) (turn (twin st) b)
next-twin st b h = led st.stage st.pending st.returned b h
  where
    led : (s : Stage) (p : Pending) (r : Bool) (b : ℕ) → is_named (sort_of (at s p r)) ≡ true → TwinnedNext (turn (at s p r) b) (turn (at (twin_stage s) p r) b)
    led s pending.Nothing r b h =
        let u : Outcome = turn (at (twin_stage s) pending.Nothing r) b in
        cond_both (nat_lt b 128) (turn_ascii (at s pending.Nothing r) b) (turn_wide (at s pending.Nothing r) b (reach pending.Nothing b))
        (λ (o : Outcome). TwinnedNext o u)
        (λ e. subst (TwinnedNext (turn_ascii (at s pending.Nothing r) b)) (sym (cond-true _ _ _ e)) (ascii-next s r b h))
        (λ e. subst (TwinnedNext (turn_wide (at s pending.Nothing r) b (reach pending.Nothing b))) (sym (cond-false _ _ _ e))
        (wide-next s pending.Nothing r b (reach pending.Nothing b) h))
    led s (pending.One x) r b h = wide-next s (pending.One x) r b (reach (pending.One x) b) h
    led s (pending.Two x y) r b h = wide-next s (pending.Two x y) r b (reach (pending.Two x y) b) h
    led s (pending.Three x y z) r b h = wide-next s (pending.Three x y z) r b (reach (pending.Three x y z) b) h

-- The end of an end tag.

abbrev pub EndsSo : Outcome → Type 0
EndsSo (leads to (token.CloseEnds ∷ ts)) = to ≡ words
EndsSo (leads to (token.TagEnds e ∷ ts)) = to ≡ words
EndsSo o = Unit {0}

no-end : (r : Bool) (t : Turn) → turn_returns t ≡ true → EndsSo (settled r t)
no-end r (goes t) h = tt
no-end r (tells_and_goes (token.CloseEnds ∷ ts) t) h = absurd (let bad : false ≡ true = (and_parts (may_return t) false h).1 in cc)
no-end r (tells_and_goes (token.TagEnds e ∷ ts) t) h = absurd (let bad : false ≡ true = (and_parts (may_return t) false h).1 in cc)
no-end r (tells_and_goes ts t) h = tt
no-end r (stops f) h = tt

-- where a turn leads, between two characters
turn_state : Turn → State
turn_state (goes t) = at t pending.Nothing false
turn_state (tells_and_goes ts t) = at t pending.Nothing false
turn_state (stops f) = words

turn-ends : (t : Turn) → where_ends t (to_words t) ≡ where_ends t t → EndsSo (settled false t)
unfolding turn_state
turn-ends (tells_and_goes (token.CloseEnds ∷ ts) t) h = ap turn_state (sym h)
turn-ends (tells_and_goes (token.TagEnds e ∷ ts) t) h = ap turn_state (sym h)
turn-ends (tells_and_goes ts t) h = tt
turn-ends (goes t) h = tt
turn-ends (stops f) h = tt

ascii-ends : (s : Stage) (r : Bool) (b : ℕ) → EndsSo (turn_ascii (at s pending.Nothing r) b)
unfolding turn_ascii ascii_kind
ascii-ends s r b =
    cond_both (r && b == 10) _ _ EndsSo (λ e. tt)
    (λ f. cond_both (b == 13) _ _ EndsSo (λ e. no-end true (ascii s kinds.Space 10) (returns-space s))
    (λ g. turn-ends (ascii s (ascii_kind b) b) (moves-ascii s (ascii_kind b) b).3))

abbrev IsEnd : Stage → Pending → Type 0
IsEnd s p = (r : Bool) (b low high n : ℕ) (q : Pending) → has_between (class_of (allowed_at s)) low high ≡ true
    → EndsSo (leads (at s q r) (byte_told (voice s) p b))
    × EndsSo (leads (at (through s) pending.Nothing false) (byte_told (voice s) p b ++ end_told (voice s) n))

is-end : (s : Stage) (p : Pending) → IsEnd s p
unfolding allowed_at voice through
is-end (stage.Text Words) pending.Nothing = λ r b low high n q f. (tt, tt)
is-end (stage.Text Words) p = λ r b low high n q f. (tt, tt)
is-end (stage.Text (Value q)) pending.Nothing = λ r b low high n q f. (tt, tt)
is-end (stage.Text (Value q)) p = λ r b low high n q f. (tt, tt)
is-end (stage.Bracketed One) pending.Nothing = λ r b low high n q f. (tt, tt)
is-end (stage.Bracketed One) p = λ r b low high n q f. (tt, tt)
is-end (stage.Bracketed Many) pending.Nothing = λ r b low high n q f. (tt, tt)
is-end (stage.Bracketed Many) p = λ r b low high n q f. (tt, tt)
is-end stage.Cdata pending.Nothing = λ r b low high n q f. (tt, tt)
is-end stage.Cdata p = λ r b low high n q f. (tt, tt)
is-end (stage.CdataBracketed One) pending.Nothing = λ r b low high n q f. (tt, tt)
is-end (stage.CdataBracketed One) p = λ r b low high n q f. (tt, tt)
is-end (stage.CdataBracketed Many) pending.Nothing = λ r b low high n q f. (tt, tt)
is-end (stage.CdataBracketed Many) p = λ r b low high n q f. (tt, tt)
is-end stage.StartLess pending.Nothing = λ r b low high n q f. (tt, tt)
is-end stage.StartLess p = λ r b low high n q f. (tt, tt)
is-end stage.PrologLess pending.Nothing = λ r b low high n q f. (tt, tt)
is-end stage.PrologLess p = λ r b low high n q f. (tt, tt)
is-end stage.Less pending.Nothing = λ r b low high n q f. (tt, tt)
is-end stage.Less p = λ r b low high n q f. (tt, tt)
is-end stage.EndTagMark pending.Nothing = λ r b low high n q f. (tt, tt)
is-end stage.EndTagMark p = λ r b low high n q f. (tt, tt)
is-end stage.InTag pending.Nothing = λ r b low high n q f. (tt, tt)
is-end stage.InTag p = λ r b low high n q f. (tt, tt)
is-end (stage.Name StartTag Prefix) pending.Nothing = λ r b low high n q f. (tt, tt)
is-end (stage.Name StartTag Prefix) p = λ r b low high n q f. (tt, tt)
is-end (stage.Name StartTag Local) pending.Nothing = λ r b low high n q f. (tt, tt)
is-end (stage.Name StartTag Local) p = λ r b low high n q f. (tt, tt)
is-end (stage.Name EndTag Prefix) pending.Nothing = λ r b low high n q f. (tt, tt)
is-end (stage.Name EndTag Prefix) p = λ r b low high n q f. (tt, tt)
is-end (stage.Name EndTag Local) pending.Nothing = λ r b low high n q f. (tt, tt)
is-end (stage.Name EndTag Local) p = λ r b low high n q f. (tt, tt)
is-end (stage.Name Attribute Prefix) pending.Nothing = λ r b low high n q f. (tt, tt)
is-end (stage.Name Attribute Prefix) p = λ r b low high n q f. (tt, tt)
is-end (stage.Name Attribute Local) pending.Nothing = λ r b low high n q f. (tt, tt)
is-end (stage.Name Attribute Local) p = λ r b low high n q f. (tt, tt)
is-end (stage.Colon StartTag) pending.Nothing = λ r b low high n q f. (tt, tt)
is-end (stage.Colon StartTag) p = λ r b low high n q f. (tt, tt)
is-end (stage.Colon EndTag) pending.Nothing = λ r b low high n q f. (tt, tt)
is-end (stage.Colon EndTag) p = λ r b low high n q f. (tt, tt)
is-end (stage.Colon Attribute) pending.Nothing = λ r b low high n q f. (tt, tt)
is-end (stage.Colon Attribute) p = λ r b low high n q f. (tt, tt)
is-end s p = λ r b low high n q f. false-true f

wide-ends : (s : Stage) (p : Pending) (r : Bool) (b : ℕ) (x : Reach) → EndsSo (turn_wide (at s p r) b x)
unfolding turn_wide
wide-ends s p r b (Begun q low high) = cond_both (has_between (class_of (allowed_at s)) low high) _ _ EndsSo (λ e. (is-end s p r b low high 0 q e).0) (λ e. tt)
wide-ends s p r b (Whole n) = cond_both (has_between (class_of (allowed_at s)) n n) _ _ EndsSo (λ e. (is-end s p r b n n n p e).1) (λ e. tt)
wide-ends s p r b Broken = tt

pub ends-so : (st : State) (b : ℕ) → EndsSo (turn st b)
ends-so st b =
    cond_both (is_nothing st.pending && nat_lt b 128) (turn_ascii st b) (turn_wide st b (reach st.pending b)) EndsSo
    (λ e. ends st.stage st.pending st.returned b e) (λ e. wide-ends st.stage st.pending st.returned b (reach st.pending b))
  where
    ends : (s : Stage) (p : Pending) (r : Bool) (b : ℕ) → (is_nothing p && nat_lt b 128) ≡ true → EndsSo (turn_ascii (at s p r) b)
    ends s pending.Nothing r b e = ascii-ends s r b
    ends s (pending.One x) r b e = false-true e
    ends s (pending.Two x y) r b e = false-true e
    ends s (pending.Three x y z) r b e = false-true e

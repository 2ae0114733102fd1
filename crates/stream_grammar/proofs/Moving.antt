-- What a byte tells and where it leads, by the sorts of stages.
use Rattle.std.proofs.Common.{◌≡◌, ℕ, List, [], ◌∷◌, ◌++◌, refl, sym, subst, Bool, true, false, not, ◌&&◌, ◌||◌, ◌==◌, nat_lt}
use Rattle.std.proofs.lemmas.Bool.{cond_both, and_parts}
use Rattle.stream_lex.specs.declared.Token.{Token}
use Rattle.stream_lex.specs.declared.Token.TheVariants as token
use Rattle.stream_lex.specs.declared.kinds.Kind.TheVariants as kinds
use Rattle.stream_lex.specs.declared.stages.Context.TheVariants.{Words, Value}
use Rattle.stream_lex.specs.declared.stages.NameOwner.TheVariants.{StartTag, EndTag, Attribute}
use Rattle.stream_lex.specs.declared.stages.Half.TheVariants.{Prefix, Local}
use Rattle.stream_lex.specs.declared.stages.Brackets.TheVariants.{One, Many}
use Rattle.stream_lex.specs.declared.stages.Literal.TheVariants as literal
use Rattle.stream_lex.specs.declared.stages.Stage.{Stage}
use Rattle.stream_lex.specs.declared.stages.Stage.TheVariants as stage
use Rattle.stream_lex.specs.declared.stages.State.{State}
use Rattle.stream_lex.specs.declared.characters.Pending.{Pending}
use Rattle.stream_lex.specs.declared.characters.Pending.TheVariants as pending
use Rattle.stream_lex.specs.declared.characters.Reach.{Reach}
use Rattle.stream_lex.specs.declared.characters.Reach.TheVariants.{Whole, Begun, Broken}
use Rattle.stream_lex.specs.grammar.Classes.{has_between, class_of}
use Rattle.stream_lex.specs.grammar.Kinds.{ascii_kind}
use Rattle.stream_lex.specs.machine.Characters.{bytes_of, reach}
use Rattle.stream_lex.specs.machine.Machine.{Turn, goes, stops, ascii, allowed_at, voice, through}
use Rattle.stream_lex.specs.machine.Machine.{yields as tells_and_goes}
use Rattle.stream_lex.specs.machine.Turns.{Outcome, leads, fails, at, byte_told, end_told, settled, turn_ascii, turn_wide, turn}
use Rattle.stream_lex.proofs.Lists.{false-true, cons_not_nil}
use Rattle.stream_lex.proofs.ByteSteps.{Spelt, reach-spelt}
use Rattle.stream_grammar.specs.machine.Sorts.{Sort, sort, sort_of}
use Rattle.stream_grammar.proofs.Sorts.{may_move, own_byte, has_name, is_end, turn_own, turn_moves}
use Rattle.stream_grammar.proofs.Sorts.{moves-ascii, may_return, turn_returns, returns-space}

abbrev pub calm : State → Bool
calm st = not st.returned || may_return st.stage

-- what is known of where a byte c leads
abbrev pub Led : State → ℕ → Outcome → Type 0
Led st c (leads to us) = (may_move (sort_of st) us (sort_of to) ≡ true) × (own_byte c us ≡ c) × (calm to ≡ true)
Led st c (fails f) = Unit {0}

-- A character below 128.

still-sort : (s : Stage) → may_return s ≡ true → may_move (sort s) [] (sort s) ≡ true
still-sort stage.StartLess h = false-true h
still-sort stage.PrologLess h = false-true h
still-sort stage.Less h = false-true h
still-sort stage.EndTagMark h = false-true h
still-sort (stage.Name StartTag p) h = false-true h
still-sort (stage.Name EndTag p) h = false-true h
still-sort (stage.Name Attribute p) h = false-true h
still-sort (stage.Colon StartTag) h = false-true h
still-sort (stage.Colon EndTag) h = false-true h
still-sort (stage.Colon Attribute) h = false-true h
still-sort (stage.Text Words) h = refl
still-sort (stage.Text (Value q)) h = refl
still-sort (stage.Reference Words l) h = refl
still-sort (stage.Reference (Value q) l) h = refl
still-sort (stage.Hash Words) h = refl
still-sort (stage.Hash (Value q)) h = refl
still-sort (stage.HashX Words) h = refl
still-sort (stage.HashX (Value q)) h = refl
still-sort (stage.Number Words base v) h = refl
still-sort (stage.Number (Value q) base v) h = refl
still-sort (stage.Fixed literal.Xml at) h = refl
still-sort (stage.Fixed w at) h = refl
still-sort s h = refl

pub calm-was : (r : Bool) (s : Stage) → (not r || may_return s) ≡ true → r ≡ true → may_return s ≡ true
calm-was true s h e = h
calm-was false s h e = false-true e

no-name : (b : ℕ) (ts : List Token) → has_name ts ≡ false → own_byte b ts ≡ b
no-name b [] h = refl
no-name b (token.TagOpens x ∷ ts) h = absurd (let bad : true ≡ false = h in cc)
no-name b (token.CloseOpens x ∷ ts) h = absurd (let bad : true ≡ false = h in cc)
no-name b (token.NameByte x ∷ ts) h = absurd (let bad : true ≡ false = h in cc)
no-name b (token.CloseEnds ∷ ts) h = refl
no-name b (t ∷ ts) h = refl

not-true : (t : Bool) → not t ≡ true → t ≡ false
not-true true h = sym h
not-true false h = refl

not-either : (s t : Bool) → (s || t) ≡ false → s ≡ false
not-either true t h = h
not-either false t h = refl

plain-led : (s : Stage) (r : Bool) (b : ℕ) (t : Turn) → turn_moves (sort s) t ≡ true → turn_own b t ≡ b → Led (at s pending.Nothing r) b (settled false t)
plain-led s r b (goes t) h o = (h, refl, refl)
plain-led s r b (tells_and_goes ts t) h o = (h, o, refl)
plain-led s r b (stops f) h o = tt

return-led : (s : Stage) (r : Bool) (b : ℕ) (t : Turn) → turn_moves (sort s) t ≡ true → turn_returns t ≡ true → Led (at s pending.Nothing r) b (settled true t)
return-led s r b (goes t) h k = (h, refl, k)
return-led s r b (tells_and_goes ts t) h k = let (a, n) =
    and_parts (may_return t) (not (has_name ts || is_end ts)) k
    in (h, no-name b ts (not-either (has_name ts) (is_end ts) (not-true (has_name ts || is_end ts) n)), a)
return-led s r b (stops f) h k = tt

ascii-led : (s : Stage) (r : Bool) (b : ℕ) → calm (at s pending.Nothing r) ≡ true → Led (at s pending.Nothing r) b (turn_ascii (at s pending.Nothing r) b)
unfolding turn_ascii ascii_kind
ascii-led s r b h =
    cond_both (r && b == 10) _ _ (Led (at s pending.Nothing r) b)
    (λ e. (still-sort s (calm-was r s h (and_parts r (b == 10) e).0), refl, refl))
    (λ f. cond_both (b == 13) _ _ (Led (at s pending.Nothing r) b)
    (λ e. return-led s r b (ascii s kinds.Space 10) (moves-ascii s kinds.Space 10).0 (returns-space s))
    (λ g. let known = moves-ascii s (ascii_kind b) b in plain-led s r b (ascii s (ascii_kind b) b) known.0 known.1))

-- A character from 128 on.

pub begun-sort : (s : Stage) (q : Pending) (r : Bool) (b : ℕ) (bs : List ℕ) → bytes_of q ≡ bs ++ b ∷ [] → sort_of (at s q r) ≡ sort (through s)
begun-sort s pending.Nothing r b bs e = absurd (no-end bs b (sym e))
  where
    no-end : (bs : List ℕ) (b : ℕ) → bs ++ b ∷ [] ≡ [] → ⊥
    no-end [] b e = cons_not_nil b [] e
    no-end (x ∷ bs) b e = cons_not_nil x (bs ++ b ∷ []) e
begun-sort s (pending.One x) r b bs e = refl
begun-sort s (pending.Two x y) r b bs e = refl
begun-sort s (pending.Three x y z) r b bs e = refl

-- what a byte of a character tells, by its place in it
abbrev pub IsVoiced : Stage → Pending → Type 0
IsVoiced s p = (r : Bool) (b low high n : ℕ) → has_between (class_of (allowed_at s)) low high ≡ true
    → ((may_move (sort_of (at s p r)) (byte_told (voice s) p b) (sort (through s)) ≡ true) × (own_byte b (byte_told (voice s) p b) ≡ b))
    × ((may_move (sort_of (at s p r)) (byte_told (voice s) p b ++ end_told (voice s) n) (sort (through s)) ≡ true)
    × (own_byte b (byte_told (voice s) p b ++ end_told (voice s) n) ≡ b))

pub voiced : (s : Stage) (p : Pending) → IsVoiced s p
unfolding allowed_at voice through
voiced (stage.Text Words) pending.Nothing = λ r b low high n e. ((refl, refl), (refl, refl))
voiced (stage.Text Words) p = λ r b low high n e. ((refl, refl), (refl, refl))
voiced (stage.Text (Value q)) pending.Nothing = λ r b low high n e. ((refl, refl), (refl, refl))
voiced (stage.Text (Value q)) p = λ r b low high n e. ((refl, refl), (refl, refl))
voiced (stage.Bracketed One) pending.Nothing = λ r b low high n e. ((refl, refl), (refl, refl))
voiced (stage.Bracketed One) p = λ r b low high n e. ((refl, refl), (refl, refl))
voiced (stage.Bracketed Many) pending.Nothing = λ r b low high n e. ((refl, refl), (refl, refl))
voiced (stage.Bracketed Many) p = λ r b low high n e. ((refl, refl), (refl, refl))
voiced stage.Cdata pending.Nothing = λ r b low high n e. ((refl, refl), (refl, refl))
voiced stage.Cdata p = λ r b low high n e. ((refl, refl), (refl, refl))
voiced (stage.CdataBracketed One) pending.Nothing = λ r b low high n e. ((refl, refl), (refl, refl))
voiced (stage.CdataBracketed One) p = λ r b low high n e. ((refl, refl), (refl, refl))
voiced (stage.CdataBracketed Many) pending.Nothing = λ r b low high n e. ((refl, refl), (refl, refl))
voiced (stage.CdataBracketed Many) p = λ r b low high n e. ((refl, refl), (refl, refl))
voiced stage.StartLess pending.Nothing = λ r b low high n e. ((refl, refl), (refl, refl))
voiced stage.StartLess p = λ r b low high n e. ((refl, refl), (refl, refl))
voiced stage.PrologLess pending.Nothing = λ r b low high n e. ((refl, refl), (refl, refl))
voiced stage.PrologLess p = λ r b low high n e. ((refl, refl), (refl, refl))
voiced stage.Less pending.Nothing = λ r b low high n e. ((refl, refl), (refl, refl))
voiced stage.Less p = λ r b low high n e. ((refl, refl), (refl, refl))
voiced stage.EndTagMark pending.Nothing = λ r b low high n e. ((refl, refl), (refl, refl))
voiced stage.EndTagMark p = λ r b low high n e. ((refl, refl), (refl, refl))
voiced stage.InTag pending.Nothing = λ r b low high n e. ((refl, refl), (refl, refl))
voiced stage.InTag p = λ r b low high n e. ((refl, refl), (refl, refl))
voiced (stage.Name StartTag Prefix) pending.Nothing = λ r b low high n e. ((refl, refl), (refl, refl))
voiced (stage.Name StartTag Prefix) p = λ r b low high n e. ((refl, refl), (refl, refl))
voiced (stage.Name StartTag Local) pending.Nothing = λ r b low high n e. ((refl, refl), (refl, refl))
voiced (stage.Name StartTag Local) p = λ r b low high n e. ((refl, refl), (refl, refl))
voiced (stage.Name EndTag Prefix) pending.Nothing = λ r b low high n e. ((refl, refl), (refl, refl))
voiced (stage.Name EndTag Prefix) p = λ r b low high n e. ((refl, refl), (refl, refl))
voiced (stage.Name EndTag Local) pending.Nothing = λ r b low high n e. ((refl, refl), (refl, refl))
voiced (stage.Name EndTag Local) p = λ r b low high n e. ((refl, refl), (refl, refl))
voiced (stage.Name Attribute Prefix) pending.Nothing = λ r b low high n e. ((refl, refl), (refl, refl))
voiced (stage.Name Attribute Prefix) p = λ r b low high n e. ((refl, refl), (refl, refl))
voiced (stage.Name Attribute Local) pending.Nothing = λ r b low high n e. ((refl, refl), (refl, refl))
voiced (stage.Name Attribute Local) p = λ r b low high n e. ((refl, refl), (refl, refl))
voiced (stage.Colon StartTag) pending.Nothing = λ r b low high n e. ((refl, refl), (refl, refl))
voiced (stage.Colon StartTag) p = λ r b low high n e. ((refl, refl), (refl, refl))
voiced (stage.Colon EndTag) pending.Nothing = λ r b low high n e. ((refl, refl), (refl, refl))
voiced (stage.Colon EndTag) p = λ r b low high n e. ((refl, refl), (refl, refl))
voiced (stage.Colon Attribute) pending.Nothing = λ r b low high n e. ((refl, refl), (refl, refl))
voiced (stage.Colon Attribute) p = λ r b low high n e. ((refl, refl), (refl, refl))
voiced s p = λ r b low high n e. false-true e

wide-led : (s : Stage) (p : Pending) (r : Bool) (b : ℕ) (x : Reach) → calm (at s p r) ≡ true → Spelt (bytes_of p ++ b ∷ []) x
    → Led (at s p r) b (turn_wide (at s p r) b x)
unfolding turn_wide
wide-led s p r b (Begun q low high) h spelt =
    cond_both (has_between (class_of (allowed_at s)) low high) _ _ (Led (at s p r) b)
    (λ e. let v = (voiced s p r b low high 0 e).0
    in (subst (λ (y : Sort). may_move (sort_of (at s p r)) (byte_told (voice s) p b) y ≡ true) (sym (begun-sort s q r b (bytes_of p) spelt.0)) v.0, v.1, h))
    (λ e. tt)
wide-led s p r b (Whole n) h spelt =
    cond_both (has_between (class_of (allowed_at s)) n n) _ _ (Led (at s p r) b)
    (λ e. let v = (voiced s p r b n n n e).1 in (v.0, v.1, refl))
    (λ e. tt)
wide-led s p r b Broken h spelt = tt

pub turn-led : (st : State) (b : ℕ) → calm st ≡ true → Led st b (turn st b)
turn-led st b h = led st.stage st.pending st.returned b h
  where
    led : (s : Stage) (p : Pending) (r : Bool) (b : ℕ) → calm (at s p r) ≡ true → Led (at s p r) b (turn (at s p r) b)
    led s pending.Nothing r b h =
        cond_both (nat_lt b 128) (turn_ascii (at s pending.Nothing r) b) (turn_wide (at s pending.Nothing r) b (reach pending.Nothing b))
        (Led (at s pending.Nothing r) b)
        (λ e. ascii-led s r b h) (λ e. wide-led s pending.Nothing r b (reach pending.Nothing b) h (reach-spelt pending.Nothing b))
    led s p r b h = wide-led s p r b (reach p b) h (reach-spelt p b)

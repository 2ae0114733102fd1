-- Where bytes lead, over whole lists.
use Rattle.std.proofs.Common.{◌≡◌, ℕ, ◌+◌, ◌-◌, ◌<◌, List, [], ◌∷◌, ◌++◌, inl, inr, take, drop, length, refl, sym, ap, ◌∙◌, subst}
use Rattle.std.proofs.Common.{append_assoc, Bool, true, false, arith, IsUtf8, encode_utf8_all, length-append}
use Rattle.std.proofs.lemmas.Bool.{and_from}
use Rattle.std.proofs.lemmas.List.{append-nil, take_all, take_at, take-append-le, take-append-drop}
use Rattle.std.specs.declared.option.Option.{Option}
use Rattle.std.specs.declared.option.Option.TheVariants.{None, Some}
use Rattle.stream_lex.specs.declared.Token.{Token}
use Rattle.stream_lex.specs.declared.Lexed.{Lexed}
use Rattle.stream_lex.specs.declared.LexFault.{LexFault}
use Rattle.stream_lex.specs.declared.LexFault.TheVariants.{NotWellFormed, Restricted, BadEncoding}
use Rattle.stream_lex.specs.declared.stages.Stage.{Stage}
use Rattle.stream_lex.specs.declared.stages.Stage.TheVariants as stage
use Rattle.stream_lex.specs.declared.stages.State.{State}
use Rattle.stream_lex.specs.declared.characters.Pending.{Pending}
use Rattle.stream_lex.specs.declared.characters.Pending.TheVariants as pending
use Rattle.stream_lex.specs.declared.characters.Reach.{Reach}
use Rattle.stream_lex.specs.declared.characters.Reach.TheVariants.{Whole, Begun, Broken}
use Rattle.stream_lex.specs.grammar.Classes.{class_of}
use Rattle.stream_lex.specs.machine.Characters.{bytes_of, is_begun, reach, reach_first, reach_second, reach_third}
use Rattle.stream_lex.specs.grammar.Expressions.{Sign, refuses, all_said, IsText}
use Rattle.stream_lex.specs.machine.Machine.{allowed_at, voice, voiced, through}
use Rattle.stream_lex.specs.machine.Turns.{Outcome, leads, fails, at, byte_told, turn}
use Rattle.stream_lex.specs.machine.Live.{is_live_stage, is_met, is_awaited, is_live}
use Rattle.stream_lex.specs.machine.Rests.{rest_at}
use Rattle.stream_lex.specs.grammar.Reading.{Tells, Reads, BeginsReading, BeginsUtf8, BeginsRefused, IsKind, IsFault}
use Rattle.stream_lex.specs.machine.Leading.{heard, Left, Leads, Stands, tokens_of, IsTurned}
use Rattle.stream_lex.proofs.Lists.{false-true, says-refuses, says-tail, said-append, said-same}
use Rattle.stream_lex.proofs.Spans.{Within, reach-starts}
use Rattle.stream_lex.proofs.Classing.{has_between-has, proper-class, class-low, class-scalar}
use Rattle.stream_lex.proofs.Ending.{has-text, clean-lines, clean-scalars}
use Rattle.stream_lex.proofs.ByteSteps.{Goes, IsRefused, Refuses, Fails, refusing, undecodable, Does, does, left-plain, plain-left, wide-text}
use Rattle.stream_lex.proofs.ByteSteps.{voiced-split, voiced-more, high-line, heard_on, said-two, Spelt, reach-spelt}
use Rattle.stream_lex.proofs.Living.{begun-symbol, begun-two, live-parts, live-through, live-turn, LeadsLive}
use Rattle.stream_lex.proofs.Ended.{left-done}

-- A live state has a text.

abbrev HasLeft : State → Type 0
HasLeft st = (more : List ℕ) × (ts : List Token) × Left st more (all_said ts)

plain-has : (s : Stage) (r : Bool) → is_live_stage s ≡ true → HasLeft (at s pending.Nothing r)
plain-has s r live =
    let (cs, ts, clean, m) = has-text s live in (
      encode_utf8_all cs,
      ts,
      plain-left s r (encode_utf8_all cs) (all_said ts)
          (cs, clean-scalars cs clean, refl, subst (λ (l : List ℕ). IsText (rest_at s) l (all_said ts)) (sym (clean-lines r cs clean)) m),
    )

-- after the byte b of a character that may come
met-has : (s : Stage) (p q : Pending) (r0 : Bool) (b : ℕ) (x : Reach) → reach p b ≡ x → is_live_stage s ≡ true → is_begun p ≡ true
    → bytes_of q ≡ bytes_of p ++ b ∷ []
    → is_met (class_of (allowed_at s)) x ≡ true → HasLeft (at s q r0)
met-has s p q r0 b (Whole n) e live begun longer met = false-true met
met-has s p q r0 b Broken e live begun longer met = false-true met
met-has s p q r0 b (Begun q1 low high) e live begun longer met =
    let spelt : Spelt (bytes_of p ++ b ∷ []) (Begun q1 low high) = subst (Spelt (bytes_of p ++ b ∷ [])) e (reach-spelt p b) in
    let (n, above, below, is) = has_between-has (class_of (allowed_at s)) low high (proper-class (allowed_at s)) spelt.1 met in
    let (rest, enc, left) = reach-starts p b n begun (subst (λ (y : Reach). Within y n) (sym e) (above, below)) in
    let (es, ts, clean, m) = has-text (through s) (live-through s live) in
    let us : List Token = heard_on (voice s) n rest in
    let hs : List Token = heard (voice s) (bytes_of q) in
    let told : voiced (voice s) n ≡ hs ++ us =
    voiced-split (voice s) p b n rest enc ∙ (sym (append_assoc (heard (voice s) (bytes_of p)) (byte_told (voice s) p b) us)
    ∙ ap (λ (l : List Token). l ++ us) (sym (voiced-more (voice s) p b) ∙ ap (heard (voice s)) (sym longer))) in (
      rest ++ encode_utf8_all es,
      us ++ ts,
      (
        n ∷ es,
        and_from _ _ (class-scalar (allowed_at s) n is) (clean-scalars es clean),
        ap (λ (l : List ℕ). l ++ encode_utf8_all es) enc
            ∙ (append_assoc (bytes_of p ++ b ∷ []) rest (encode_utf8_all es) ∙ ap (λ (l : List ℕ). l ++ (rest ++ encode_utf8_all es)) (sym longer)),
        subst (λ (l : List ℕ). IsText (rest_at s) l (all_said hs ++ all_said (us ++ ts)))
            (sym (high-line r0 n es (class-low (allowed_at s) n is) ∙ ap (λ (l : List ℕ). n ∷ l) (clean-lines false es clean)))
            (wide-text s n es (all_said hs ++ all_said (us ++ ts)) live (class-low (allowed_at s) n is) is (
              all_said ts,
              ap (λ (l : List Sign). all_said hs ++ l) (said-append us ts)
                  ∙ (sym (said-two hs us (all_said ts)) ∙ ap (λ (l : List Token). all_said l ++ all_said ts) (sym told)),
              m,
            )),
      ),
    )

has-at : (s : Stage) (p : Pending) (r : Bool) → is_live_stage s ≡ true → is_begun p ≡ true → is_awaited (class_of (allowed_at s)) p ≡ true → HasLeft (at s p r)
has-at s pending.Nothing r live begun waits = plain-has s r live
has-at s (pending.One a) r live begun waits = met-has s pending.Nothing (pending.One a) r a (reach_first a) refl live refl refl waits
has-at s (pending.Two a b) r live begun waits = met-has s (pending.One a) (pending.Two a b) r b (reach_second a b) refl live (begun-symbol a b begun) refl waits
has-at s (pending.Three a b c) r live begun waits = met-has s (pending.Two a b) (pending.Three a b c) r c (reach_third a b c) refl live (begun-two a b c begun)
    refl waits

pub has-left : (st : State) → is_live st ≡ true → HasLeft st
has-left st live = let p = live-parts st live in has-at st.stage st.pending st.returned p.0 p.1 p.2

-- Bytes that lead to a state.

snoc : (bytes more : List ℕ) (b : ℕ) → (bytes ++ b ∷ []) ++ more ≡ bytes ++ (b ∷ more)
snoc bytes more b = append_assoc bytes (b ∷ []) more

begins-from : (bytes : List ℕ) (ts : List Token) (st : State) → is_live st ≡ true
    → ((more : List ℕ) (ns : List Sign) → Left st more ns → Tells (bytes ++ more) (all_said ts ++ ns)) → BeginsReading bytes
begins-from bytes ts st live text =
    let (more, us, l) = has-left st live in
    (more, ts ++ us, subst (Tells (bytes ++ more)) (sym (said-append ts us)) (text more (all_said us) l))

whole-from : (bytes : List ℕ) (ts : List Token) (st : State) → is_live st ≡ true
    → ((more : List ℕ) (ms : List Sign) → Tells (bytes ++ more) ms → (ns : List Sign) × (ms ≡ all_said ts ++ ns) × Left st more ns)
    → (us : List Token) → Reads bytes us → us ≡ ts
whole-from bytes ts st live rest us t =
    let (ns, e, l) = rest [] (all_said us) (subst (λ (x : List ℕ). Reads x us) (sym (append-nil bytes)) t) in
    said-same us ts (e ∙ (ap (λ (x : List Sign). all_said ts ++ x) (left-done st ns live l) ∙ append-nil (all_said ts)))

pub leads-first_character : (st : State) → is_live st ≡ true → st ≡ at stage.Start pending.Nothing false → Leads [] [] st
unfolding rest_at
leads-first_character st live e =
    let back : (more : List ℕ) (ns : List Sign) → Left st more ns
    → Tells more ns = λ more ns l. left-plain stage.Start false more ns (subst (λ (x : State). Left x more ns) e l) in
    let rest : (more : List ℕ) (ms : List Sign) → Tells more ms → (ns : List Sign) × (ms ≡ ns) × Left st more ns =
    λ more ms t. (ms, refl, subst (λ (x : State). Left x more ms) (sym e) (plain-left stage.Start false more ms t)) in record {
      begins = begins-from [] [] st live back;
      whole = whole-from [] [] st live rest;
      rest = rest;
      text = back;
      utf8 = λ more h. subst (λ (x : State). IsUtf8 (bytes_of x.pending ++ more)) (sym e) h;
      utf8_text = λ more h. subst (λ (x : State). IsUtf8 (bytes_of x.pending ++ more)) e h;
    }

pub leads-step : (bytes : List ℕ) (ts us : List Token) (st to : State) (b : ℕ) → is_live to ≡ true → Goes st b us to → Leads bytes ts st
    → Leads (bytes ++ b ∷ []) (ts ++ us) to
leads-step bytes ts us st to b live g k =
    let text : (more : List ℕ) (ns : List Sign) → Left to more ns → Tells ((bytes ++ b ∷ []) ++ more) (all_said (ts ++ us) ++ ns) =
    λ more ns l. subst (λ (x : List ℕ). Tells x (all_said (ts ++ us) ++ ns)) (sym (snoc bytes more b))
    (subst (Tells (bytes ++ (b ∷ more))) (sym (said-two ts us ns)) (k.text (b ∷ more) (all_said us ++ ns) (g.text more ns l))) in
    let rest : (more : List ℕ) (ms : List Sign) → Tells ((bytes ++ b ∷ []) ++ more) ms → (ns : List Sign) × (ms ≡ all_said (ts ++ us) ++ ns) × Left to more ns =
    λ more ms t.
    let (ns, e, l) = k.rest (b ∷ more) ms (subst (λ (x : List ℕ). Tells x ms) (snoc bytes more b) t) in
    let (os, f, m) = g.rest more ns l in
    (os, e ∙ (ap (λ (x : List Sign). all_said ts ++ x) f ∙ sym (said-two ts us os)), m) in record {
      begins = begins-from (bytes ++ b ∷ []) (ts ++ us) to live text;
      whole = whole-from (bytes ++ b ∷ []) (ts ++ us) to live rest;
      rest = rest;
      text = text;
      utf8 = λ more h. g.utf8 more (k.utf8 (b ∷ more) (subst IsUtf8 (snoc bytes more b) h));
      utf8_text = λ more h. subst IsUtf8 (sym (snoc bytes more b)) (k.utf8_text (b ∷ more) (g.utf8_text more h));
    }

-- Faults.

refuses-same : (f g : LexFault) (xs ys : List Sign) → refuses f ∷ xs ≡ refuses g ∷ ys → f ≡ g
refuses-same f g xs ys e = cc

-- the first refusal of signs
first_character-refused : (ts us : List Token) (f g : LexFault) (xs ys : List Sign) → all_said ts ++ (refuses f ∷ xs) ≡ all_said us ++ (refuses g ∷ ys) → f ≡ g
first_character-refused [] [] f g xs ys e = refuses-same f g xs ys e
first_character-refused [] (u ∷ us) f g xs ys e = absurd (says-refuses u f (all_said us ++ (refuses g ∷ ys)) xs (sym e))
first_character-refused (t ∷ ts) [] f g xs ys e = absurd (says-refuses t g (all_said ts ++ (refuses f ∷ xs)) ys e)
first_character-refused (t ∷ ts) (u ∷ us) f g xs ys e = first_character-refused ts us f g xs ys (says-tail t u _ _ e)

void-refused : (ts us : List Token) (f : LexFault) (xs : List Sign) → all_said ts ≡ all_said us ++ (refuses f ∷ xs) → ⊥
void-refused [] [] f xs e = cc
void-refused [] (u ∷ us) f xs e = cc
void-refused (t ∷ ts) [] f xs e = says-refuses t f (all_said ts) xs e
void-refused (t ∷ ts) (u ∷ us) f xs e = void-refused ts us f xs (says-tail t u _ _ e)

is-refused-not-said : (f : LexFault) (ts us : List Token) (ns : List Sign) → IsRefused f ns → all_said ts ≡ all_said us ++ ns → ⊥
is-refused-not-said NotWellFormed ts us ns r e = r
is-refused-not-said Restricted ts us ns (os, g) e = void-refused ts us Restricted os (e ∙ ap (λ (x : List Sign). all_said us ++ x) g)
is-refused-not-said BadEncoding ts us ns (os, g) e = void-refused ts us BadEncoding os (e ∙ ap (λ (x : List Sign). all_said us ++ x) g)

tells-utf8 : (bytes : List ℕ) (ms : List Sign) → Tells bytes ms → IsUtf8 bytes
tells-utf8 bytes ms (cs, sc, e, m) = (cs, (sc, e))

pub not-begun : (bytes : List ℕ) (ts : List Token) (st : State) (b : ℕ) (f : LexFault) → Leads bytes ts st → Fails st b f → BeginsReading (bytes ++ b ∷ []) → ⊥
not-begun bytes ts st b f k (refusing r) (more, us, t) =
    let (ns, e, l) = k.rest (b ∷ more) (all_said us) (subst (λ (x : List ℕ). Tells x (all_said us)) (snoc bytes more b) t) in
    is-refused-not-said f us ts ns (r.refused more ns l) e
not-begun bytes ts st b f k (undecodable g never) (more, us, t) =
    never more (k.utf8 (b ∷ more) (subst IsUtf8 (snoc bytes more b) (tells-utf8 ((bytes ++ b ∷ []) ++ more) (all_said us) t)))

refused-utf8 : (bytes : List ℕ) (ts : List Token) (st : State) (b : ℕ) (f : LexFault) → Leads bytes ts st → Refuses st b f → BeginsUtf8 (bytes ++ b ∷ [])
refused-utf8 bytes ts st b f k r = let (more, h) = r.utf8 in (more, subst IsUtf8 (sym (snoc bytes more b)) (k.utf8_text (b ∷ more) h))

-- a text that begins so has its first refusal there
begins-refused : (bytes : List ℕ) (ts : List Token) (st : State) (b : ℕ) (g : LexFault) (more : List ℕ) (ns : List Sign) → Leads bytes ts st
    → Left st (b ∷ more) (refuses g ∷ ns) → BeginsRefused (bytes ++ b ∷ []) g
begins-refused bytes ts st b g more ns k l =
    (more, ts, ns, subst (λ (x : List ℕ). Tells x (all_said ts ++ (refuses g ∷ ns))) (sym (snoc bytes more b)) (k.text (b ∷ more) (refuses g ∷ ns) l))

no-other : (bytes : List ℕ) (ts : List Token) (st : State) (b : ℕ) (g : LexFault) → Leads bytes ts st → Refuses st b NotWellFormed
    → BeginsRefused (bytes ++ b ∷ []) g → ⊥
no-other bytes ts st b g k r (more, us, ms, t) =
    let (ns, e, l) = k.rest (b ∷ more) (all_said us ++ (refuses g ∷ ms))
    (subst (λ (x : List ℕ). Tells x (all_said us ++ (refuses g ∷ ms))) (snoc bytes more b) t) in
    r.refused more ns l

restricted-alone : (bytes : List ℕ) (ts : List Token) (st : State) (b : ℕ) → Leads bytes ts st → Refuses st b Restricted
    → BeginsRefused (bytes ++ b ∷ []) BadEncoding → ⊥
restricted-alone bytes ts st b k r (more, us, ms, t) =
    let (ns, e, l) = k.rest (b ∷ more) (all_said us ++ (refuses BadEncoding ∷ ms))
    (subst (λ (x : List ℕ). Tells x (all_said us ++ (refuses BadEncoding ∷ ms))) (snoc bytes more b) t) in
    let (os, g) = r.refused more ns l in
    let same : BadEncoding ≡ Restricted = first_character-refused us ts BadEncoding Restricted ms os (e ∙ ap (λ (x : List Sign). all_said ts ++ x) g) in cc

kind-refused : (bytes : List ℕ) (ts : List Token) (st : State) (b : ℕ) (f : LexFault) → Leads bytes ts st → Refuses st b f → IsKind (bytes ++ b ∷ []) f
kind-refused bytes ts st b NotWellFormed k r = (refused-utf8 bytes ts st b NotWellFormed k r, λ g h. no-other bytes ts st b g k r h)
kind-refused bytes ts st b Restricted k r =
    let (more, ns, l) = r.shown in
    (refused-utf8 bytes ts st b Restricted k r, restricted-alone bytes ts st b k r, begins-refused bytes ts st b Restricted more ns k l)
kind-refused bytes ts st b BadEncoding k r = let (more, ns, l) = r.shown in inr (begins-refused bytes ts st b BadEncoding more ns k l)

pub kind-of-fault : (bytes : List ℕ) (ts : List Token) (st : State) (b : ℕ) (f : LexFault) → Leads bytes ts st → Fails st b f → IsKind (bytes ++ b ∷ []) f
kind-of-fault bytes ts st b f k (refusing r) = kind-refused bytes ts st b f k r
kind-of-fault bytes ts st b f k (undecodable e never) =
    subst (IsKind (bytes ++ b ∷ [])) (sym e) (inl (λ (more, h). never more (k.utf8 (b ∷ more) (subst IsUtf8 (snoc bytes more b) h))))

-- what begins a text has only beginnings of texts
pub begins-fewer : (bytes : List ℕ) (j : ℕ) → BeginsReading bytes → BeginsReading (take j bytes)
begins-fewer bytes j (more, ts, t) = (
  drop j bytes ++ more,
  ts,
  subst (λ (x : List ℕ). Reads x ts) (ap (λ (x : List ℕ). x ++ more) (sym (take-append-drop j bytes))
      ∙ append_assoc (take j bytes) (drop j bytes) more) t,
)

length-snoc : (bytes : List ℕ) (b : ℕ) → length (bytes ++ b ∷ []) ≡ length bytes + 1
length-snoc bytes b = length-append bytes (b ∷ [])

fault-at : (bytes : List ℕ) (ts : List Token) (st : State) (b : ℕ) (f : LexFault) → Leads bytes ts st → Fails st b f
    → IsFault (bytes ++ b ∷ []) (length bytes + 1) f
fault-at bytes ts st b f k r =
    let len = length-snoc bytes b in
    let all : take (length bytes + 1) (bytes ++ b ∷ []) ≡ bytes ++ b ∷ [] = take_all (length bytes + 1) (bytes ++ b ∷ []) (omega (arith, len)) in record {
      within = omega (arith, len);
      void = λ h. not-begun bytes ts st b f k r (subst BeginsReading all h);
      least = λ j h. subst BeginsReading (sym (take-append-le j bytes (b ∷ []) (omega arith))) (begins-fewer bytes j k.begins);
      kind = subst (λ (x : List ℕ). IsKind x f) (sym all) (kind-of-fault bytes ts st b f k r);
    }

fault-stays : (bytes : List ℕ) (b k : ℕ) (f : LexFault) → IsFault bytes k f → IsFault (bytes ++ b ∷ []) k f
fault-stays bytes b k f h =
    let len = length-snoc bytes b in
    let within = h.within in
    let same : take k (bytes ++ b ∷ []) ≡ take k bytes = take-append-le k bytes (b ∷ []) within in record {
      within = omega (arith, len, within);
      void = λ x. h.void (subst BeginsReading same x);
      least = λ j x. subst BeginsReading (sym (take-append-le j bytes (b ∷ []) (omega (arith, within)))) (h.least j x);
      kind = subst (λ (x : List ℕ). IsKind x f) (sym same) h.kind;
    }

-- What a step makes of what stands.

stands-leads : (bytes : List ℕ) (ts us : List Token) (st to st1 : State) (b : ℕ) (l : Lexed) → is_live to ≡ true → Goes st b us to → Leads bytes ts st
    → IsTurned st (leads to us) st1 l → Stands (bytes ++ b ∷ []) (ts ++ tokens_of l) st1 l.fault
stands-leads bytes ts us st to st1 b l live g k (e, f, h) =
    subst (λ (x : Option LexFault). Stands (bytes ++ b ∷ []) (ts ++ tokens_of l) st1 x) (sym h)
    (subst (λ (x : State). Leads (bytes ++ b ∷ []) (ts ++ tokens_of l) x) (sym e)
    (subst (λ (x : List Token). Leads (bytes ++ b ∷ []) (ts ++ x) to) (sym f) (leads-step bytes ts us st to b live g k)))

stands-fails : (bytes : List ℕ) (ts : List Token) (st st1 : State) (b : ℕ) (f : LexFault) (l : Lexed) → Fails st b f → Leads bytes ts st
    → IsTurned st (fails f) st1 l → Stands (bytes ++ b ∷ []) (ts ++ tokens_of l) st1 l.fault
stands-fails bytes ts st st1 b f l r k (e, t, h) =
    let before : take ((length bytes + 1) - 1) (bytes ++ b ∷ []) ≡ bytes = take_at bytes (b ∷ []) ((length bytes + 1) - 1) (omega arith) in
    let tokens : ts ++ tokens_of l ≡ ts = ap (λ (x : List Token). ts ++ x) t ∙ append-nil ts in
    subst (λ (x : Option LexFault). Stands (bytes ++ b ∷ []) (ts ++ tokens_of l) st1 x) (sym h) (
      length bytes + 1,
      fault-at bytes ts st b f k r,
      subst (λ (x : State). Leads (take ((length bytes + 1) - 1) (bytes ++ b ∷ [])) (ts ++ tokens_of l) x) (sym e)
          (subst (λ (x : List Token). Leads (take ((length bytes + 1) - 1) (bytes ++ b ∷ [])) x st) (sym tokens)
          (subst (λ (x : List ℕ). Leads x ts st) (sym before) k)),
    )

stands-outcome : (bytes : List ℕ) (ts : List Token) (st st1 : State) (b : ℕ) (o : Outcome) (l : Lexed) → Does st b o → LeadsLive o → Leads bytes ts st
    → IsTurned st o st1 l → Stands (bytes ++ b ∷ []) (ts ++ tokens_of l) st1 l.fault
stands-outcome bytes ts st st1 b (leads to us) l d live k t = stands-leads bytes ts us st to st1 b l live d k t
stands-outcome bytes ts st st1 b (fails f) l d live k t = stands-fails bytes ts st st1 b f l d k t

-- a step before any fault
pub stands-turn : (bytes : List ℕ) (ts : List Token) (st st1 : State) (o : Option LexFault) (b : ℕ) (l : Lexed) → b < 256 → is_live st ≡ true → o ≡ None
    → IsTurned st (turn st b) st1 l → Stands bytes ts st o → Stands (bytes ++ b ∷ []) (ts ++ tokens_of l) st1 l.fault
stands-turn bytes ts st st1 o b l small live e t k =
    stands-outcome bytes ts st st1 b (turn st b) l (does st b live) (live-turn st b live small) (subst (Stands bytes ts st) e k) t

-- a step after a fault
pub stands-still : (bytes : List ℕ) (ts us : List Token) (st : State) (o : Option LexFault) (f : LexFault) (b : ℕ) → o ≡ Some f → us ≡ []
    → Stands bytes ts st o → Stands (bytes ++ b ∷ []) (ts ++ us) st o
stands-still bytes ts us st o f b e void k =
    let tokens : ts ++ us ≡ ts = ap (λ (x : List Token). ts ++ x) void ∙ append-nil ts in
    let (n, h, m) = let x : Stands bytes ts st (Some f) = subst (Stands bytes ts st) e k in x in
    let within = h.within in
    subst (λ (x : Option LexFault). Stands (bytes ++ b ∷ []) (ts ++ us) st x) (sym e) (
      n,
      fault-stays bytes b n f h,
      subst (λ (x : List Token). Leads (take (n - 1) (bytes ++ b ∷ [])) x st) (sym tokens)
          (subst (λ (x : List ℕ). Leads x ts st) (sym (take-append-le (n - 1) bytes (b ∷ []) (omega (arith, within)))) m),
    )

-- the first state
pub stands-first_character : (st : State) → is_live st ≡ true → st ≡ at stage.Start pending.Nothing false → Stands [] [] st None
stands-first_character st live e = leads-first_character st live e

-- a state that a turn leads to is live
pub turned-live : (st st1 : State) (b : ℕ) (o : Outcome) (l : Lexed) → is_live st ≡ true → LeadsLive o → IsTurned st o st1 l → is_live st1 ≡ true
turned-live st st1 b (leads to us) l live h t = subst (λ (x : State). is_live x ≡ true) (sym t.0) h
turned-live st st1 b (fails f) l live h t = subst (λ (x : State). is_live x ≡ true) (sym t.0) live

pub start-live : (st : State) → st ≡ at stage.Start pending.Nothing false → is_live st ≡ true
unfolding is_live
start-live st e = subst (λ (x : State). is_live x ≡ true) (sym e) refl

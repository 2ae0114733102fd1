-- A framer that reads the text of a proper element has it waiting after the last byte, and nothing before.
use Rattle.std.proofs.Common.{◌≡◌, ℕ, suc, ◌+◌, ◌≤◌, ◌⊎◌, inl, inr, List, [], ◌∷◌, ◌++◌, length, refl, sym, ap}
use Rattle.std.proofs.Common.{◌∙◌, subst, append_assoc, append-nil, Bool, true, false, arith}
use Rattle.std.proofs.lemmas.List.{length-append}
use Rattle.std.specs.Prelude.{None}
use Rattle.stanza_tree.specs.declared.node.Element.{Element}
use Rattle.stanza_tree.specs.Spelling.{text, client_space}
use Rattle.stream_lex.specs.declared.Token.{Token}
use Rattle.stream_lex.specs.declared.Token.TheVariants as token
use Rattle.stream_lex.specs.declared.stages.State.{State}
use Rattle.stream_lex.specs.machine.Turns.{Outcome, leads, fails, turn}
use Rattle.stream_lex.proofs.Lists.{same_head, same_tail, cons_not_nil, false-true}
use Rattle.stream_grammar.specs.declared.FrameFault.{FrameFault}
use Rattle.stream_grammar.specs.declared.item.Item.{Item}
use Rattle.stream_grammar.specs.declared.item.Item.TheVariants as item
use Rattle.stream_grammar.specs.declared.item.Limits.{Limits}
use Rattle.stream_grammar.specs.declared.namespaces.Binding.{Binding}
use Rattle.stream_grammar.specs.declared.rules.Rules.{Rules}
use Rattle.stream_grammar.specs.machine.Building.{Building, nothing_built, build_all}
use Rattle.stream_grammar.specs.grammar.Elements.{inside_of, outside_all, default_of, tops_of, fault_of_tag, IsNamed}
use Rattle.stream_grammar.specs.machine.Framing.{Frame, open_at, frame_after, first_frame, is_broken}
use Rattle.stream_grammar.specs.grammar.Tags.{whole_tag}
use Rattle.stream_grammar.specs.grammar.Items.{head_tokens, HasCome, EndsHeader, EndsTop}
use Rattle.stream_grammar.specs.machine.Ends.{in_item, told_at, tokens_told}
use Rattle.stream_grammar.specs.machine.Nesting.{Nest, inside, nest_all}
use Rattle.stream_grammar.specs.grammar.Parts.{IsItem}
use Rattle.stream_grammar.specs.grammar.Paths.{scope_of, tokens_to, IsNameFault}
use Rattle.stream_grammar.specs.grammar.Bounds.{rules_of}
use Rattle.stream_grammar.specs.grammar.RoundTrips.{IsWritable, end_tag_of}
use Rattle.stream_grammar.specs.grammar.Streams.{Begins, IsShortest, Spells}
use Rattle.stream_lex.specs.grammar.Reading.{Reads}
use Rattle.stream_grammar.specs.grammar.Trees.{RawName, RawTag, Content}
use Rattle.stream_grammar.proofs.Following.{Sound}
use Rattle.stream_grammar.proofs.Running.{then_run, run_on, run}
use Rattle.stream_laws.proofs.Closing.{spells-ended}
use Rattle.stream_laws.proofs.Coming.{told_all}
use Rattle.stream_laws.proofs.Ending.{last-same, ends_element, head-ends}
use Rattle.stream_laws.proofs.Extents.{IsOpenAt, IsPastAt, after-last, sound-at}
use Rattle.stream_laws.proofs.Faulting.{some-same}
use Rattle.stream_laws.proofs.Faultless.{cons-after}
use Rattle.stream_laws.proofs.HandedOut.{item-set-by}
use Rattle.stream_laws.proofs.Judged.{named_at, AreJudged, judged-front, judged-back, none-some}
use Rattle.stream_laws.proofs.LastTold.{ends-at}
use Rattle.stream_laws.proofs.NamedJudged.{head-judged}
use Rattle.stream_laws.proofs.NameFaults.{init-same, tokens-split}
use Rattle.stream_laws.proofs.OpenFrames.{GoesOn, went-on, frame-runs, come-on, come-after}
use Rattle.stream_laws.proofs.OpenItems.{goes-whole, item_was_open}
use Rattle.stream_laws.proofs.OpenRuns.{Stays, IsDeep, stays-front, stays-last, top-init}
use Rattle.stream_laws.proofs.Opens.{after_less, AfterLess, opens-after}
use Rattle.stream_laws.proofs.PathScopes.{tag-at}
use Rattle.stream_laws.proofs.PathTokens.{tokens_in}
use Rattle.stream_laws.proofs.Made.{tag-body}
use Rattle.stream_laws.proofs.RoundTripElements.{IsSpelt, proper-spelt}
use Rattle.stream_laws.proofs.RoundTripInsert.{root-under, written-comes, come-ends}
use Rattle.stream_laws.proofs.RoundTripRuns.{run-append}
use Rattle.stream_laws.proofs.RoundTripTags.{gap_state}
use Rattle.stream_laws.proofs.RoundTripText.{Gap, plain, bracketed}
use Rattle.stream_laws.proofs.StandingWhole.{frames-more}
use Rattle.stream_laws.proofs.Waiting.{told-more, told-last}

-- A run over the front of a list.

lead-state : (s t : State) (us vs : List Token) → leads s us ≡ leads t vs → s ≡ t
lead-state s t us vs e = cc

lead-told : (s t : State) (us vs : List Token) → leads s us ≡ leads t vs → us ≡ vs
lead-told s t us vs e = cc

abbrev CutRun : State → List ℕ → List Token → Type 0
CutRun st xs ts = (s : State) × (us : List Token) × (vs : List Token) × (run st xs ≡ leads s us) × (ts ≡ us ++ vs)

cut-run : (xs zs : List ℕ) (st to : State) (ts : List Token) → run st (xs ++ zs) ≡ leads to ts → CutRun st xs ts
cut-run xs zs st to ts e = first (run st xs) refl (sym (run-append xs zs st) ∙ e)
  where
    second : (s : State) (us : List Token) → run st xs ≡ leads s us → (o : Outcome) → then_run us o ≡ leads to ts → CutRun st xs ts
    second s us h (leads t vs) q = (s, us, vs, h, sym (lead-told t to (us ++ vs) ts q))
    second s us h (fails f) q = absurd (let bad : fails f ≡ leads to ts = q in cc)

    first : (o : Outcome) → run st xs ≡ o → run_on o (λ s. run s zs) ≡ leads to ts → CutRun st xs ts
    first (leads s us) h q = second s us h (run s zs) q
    first (fails f) h q = absurd (let bad : fails f ≡ leads to ts = q in cc)

-- The text of an element after these bytes.

pub record IsAdding (r : Rules) (bytes : List ℕ) (e : Element) : Type 0 where
  pub gap : Gap
  pub returned : Bool
  pub name : RawName
  pub frame : frame_after r first_frame bytes ≡ open_at (gap_state gap returned) (inside (name ∷ []))
  pub front : List ℕ
  pub byte : ℕ
  pub state : State
  pub told : List Token
  pub last : Token
  pub text_is : front ++ byte ∷ [] ≡ text e
  pub way : run (gap_state gap returned) front ≡ leads state told
  pub some : (v : Token) × (vs : List Token) × (told ≡ v ∷ vs)
  pub stays : Stays r (inside (name ∷ [])) told
  pub on : GoesOn (frame_after r first_frame (bytes ++ text e))
  pub whole : (us vs : List ℕ) → bytes ++ text e ≡ us ++ vs → Begins r us
  pub judged : AreJudged nothing_built (told_all r first_frame (bytes ++ text e))
  pub step : (to : State) × (turn state byte ≡ leads to (last ∷ []))
  pub ends : ends_element last ≡ true
  pub root : RawTag
  pub content : Content
  pub come : HasCome r (bytes ++ text e) root content
  pub named : IsNamed root content
  pub tops : (es : List Element) × (tops_of root content ≡ es ++ e ∷ [])
  pub head : (d : Bool) × (told_all r first_frame (bytes ++ text e) ≡ head_tokens d root content)

whole-front : (r : Rules) (bytes : List ℕ) (root : RawTag) (g : Content) (us vs : List ℕ) → HasCome r bytes root g → bytes ≡ us ++ vs → Begins r us
whole-front r bytes root g us vs come e =
    let (d, spells) = come-ends r bytes root g come in
    let s : _ = record { declared = d; root = root; content = g } in
    (vs ++ end_tag_of root, s, subst (λ (x : List ℕ). Spells r x s) (ap (λ (x : List ℕ). x ++ end_tag_of root) e ∙ append_assoc us vs (end_tag_of root)) spells)

pub adding : (r : Rules) (bytes : List ℕ) (root : RawTag) (f : Content) (e : Element) → HasCome r bytes root f → IsNamed root f → default_of root ≡ client_space
    → IsWritable r e → IsAdding r bytes e
adding r bytes root f e come named default (proper, fits, deep, wide) =
    let (d, after) = come-after r bytes root f come in
    let (g, more, is, tops) = written-comes r bytes root f e come named default (proper, fits, deep, wide) in
    let (d2, whole) = come-after r (bytes ++ text e) root g more in
    let spelt : IsSpelt (inside_of outside_all (whole_tag root)) client_space e =
    proper-spelt e proper (inside_of outside_all (whole_tag root)) client_space (root-under root client_space named.0 default) fits in
    let l = spelt.runs after.gap after.returned in
    let (us, u, split, end, stays, some) = top-init r after.name spelt.tag spelt.body in
    let same : l.told ≡ us = init-same l.told us l.last u (l.tokens ∙ split) in
    record {
      gap = after.gap;
      returned = after.returned;
      name = after.name;
      frame = after.frame;
      front = l.front;
      byte = l.byte;
      state = l.state;
      told = l.told;
      last = l.last;
      text_is = l.text;
      way = l.way.leads_so;
      some = (some.0, some.1, same ∙ some.2);
      stays = subst (Stays r (inside (after.name ∷ []))) (sym same) stays;
      on = come-on r (bytes ++ text e) root g more;
      whole = λ xs ys p. whole-front r (bytes ++ text e) root g xs ys more p;
      judged = subst (AreJudged nothing_built) (sym whole.told) (head-judged d2 root g is);
      step = (_, l.step);
      ends = ap ends_element (last-same l.told us l.last u (l.tokens ∙ split)) ∙ end;
      root = root;
      content = g;
      come = more;
      named = is;
      tops = (tops_of root f, tops);
      head = (d2, whole.told);
    }

-- The frames before the last byte.

-- the rest of the text
rest-of : (bytes front xs zs : List ℕ) (byte : ℕ) (whole : List ℕ) → front ++ byte ∷ [] ≡ whole → front ≡ xs ++ zs
    → bytes ++ whole ≡ (bytes ++ xs) ++ (zs ++ byte ∷ [])
rest-of bytes front xs zs byte whole e h = ap (λ (x : List ℕ). bytes ++ x) (sym e)
    ∙ (ap (λ (x : List ℕ). bytes ++ (x ++ byte ∷ [])) h ∙ regroup bytes xs zs (byte ∷ []))
  where
    regroup : (a b c d : List ℕ) → a ++ ((b ++ c) ++ d) ≡ (a ++ b) ++ (c ++ d)
    regroup a b c d = simp append_assoc

pub record IsFront (r : Rules) (bytes xs : List ℕ) (name : RawName) (told : List Token) : Type 0 where
  pub us : List Token
  pub vs : List Token
  pub state : State
  pub cut : told ≡ us ++ vs
  pub frame : frame_after r first_frame (bytes ++ xs) ≡ open_at state (nest_all r (inside (name ∷ [])) us)
  pub all : told_all r first_frame (bytes ++ xs) ≡ told_all r first_frame bytes ++ us

open-whole : (r : Rules) (bytes : List ℕ) (e : Element) (a : IsAdding r bytes e) (us vs : List ℕ) → bytes ++ text e ≡ us ++ vs
    → is_broken (frame_after r first_frame us) ≡ false
open-whole r bytes e a us vs p = goes-whole r us (a.whole us vs p)

front-on : (r : Rules) (bytes : List ℕ) (e : Element) (a : IsAdding r bytes e) (us vs : List ℕ) → bytes ++ text e ≡ us ++ vs
    → GoesOn (frame_after r first_frame us)
front-on r bytes e a us vs p = (
  open-whole r bytes e a us vs p,
  went-on r (frame_after r first_frame us) vs
      (subst GoesOn (ap (frame_after r first_frame) p ∙ frames-more r first_frame us vs) a.on),
)

front-at : (r : Rules) (bytes : List ℕ) (e : Element) (a : IsAdding r bytes e) (xs zs : List ℕ) → a.front ≡ xs ++ zs → IsFront r bytes xs a.name a.told
front-at r bytes e a xs zs p =
    let st : State = gap_state a.gap a.returned in
    let here : frame_after r first_frame (bytes ++ xs) ≡ frame_after r (open_at st (inside (a.name ∷ []))) xs = frames-more r first_frame bytes xs
    ∙ ap (λ (f : Frame). frame_after r f xs) a.frame in
    let on : GoesOn (frame_after r (open_at st (inside (a.name ∷ []))) xs) =
    subst GoesOn here (front-on r bytes e a (bytes ++ xs) (zs ++ a.byte ∷ []) (rest-of bytes a.front xs zs a.byte (text e) a.text_is p)) in
    let (s, us, vs, way, cut) = cut-run xs zs st a.state a.told (ap (run st) (sym p) ∙ a.way) in
    let (frame, told) = frame-runs xs r st s (inside (a.name ∷ [])) us way on in
    record {
      us = us;
      vs = vs;
      state = s;
      cut = cut;
      frame = here ∙ frame;
      all = told-more r first_frame bytes xs ∙ ap (λ (l : List Token). told_all r first_frame bytes ++ l) (ap (λ (f : Frame). told_all r f xs) a.frame ∙ told);
    }

-- after a token of the element it is open
token-open : (r : Rules) (bytes xs : List ℕ) (name : RawName) (told : List Token) (i : IsFront r bytes xs name told) → Stays r (inside (name ∷ [])) told
    → (i.us ≡ [] → ⊥) → IsOpenAt r (bytes ++ xs)
token-open r bytes xs name told i stays some = by i.us i.frame (subst (Stays r (inside (name ∷ []))) i.cut stays) some
  where
    deep : (us : List Token) → frame_after r first_frame (bytes ++ xs) ≡ open_at i.state (nest_all r (inside (name ∷ [])) us)
        → IsDeep (nest_all r (inside (name ∷ [])) us) → IsOpenAt r (bytes ++ xs)
    deep us e (inl h) = ap in_item e ∙ h
    deep us e (inr h) = absurd (subst (Sound r) (e ∙ ap (open_at i.state) h) (sound-at r (bytes ++ xs))).opens

    by : (us : List Token) → frame_after r first_frame (bytes ++ xs) ≡ open_at i.state (nest_all r (inside (name ∷ [])) us)
        → Stays r (inside (name ∷ [])) (us ++ i.vs) → (us ≡ [] → ⊥) → IsOpenAt r (bytes ++ xs)
    by [] e s some = absurd (some refl)
    by (u ∷ us) e s some = deep (u ∷ us) e (stays-last r u us (inside (name ∷ [])) (stays-front r (u ∷ us) i.vs (inside (name ∷ [])) s))

none-open : (r : Rules) (bytes xs : List ℕ) (name : RawName) (told : List Token) (i : IsFront r bytes xs name told) → i.us ≡ [] → IsOpenAt r (bytes ++ xs) → ⊥
none-open r bytes xs name told i none h = let bad : false ≡ true =
    sym (ap in_item (i.frame ∙ ap (λ (us : List Token). open_at i.state (nest_all r (inside (name ∷ [])) us)) none)) ∙ h in false-true bad

-- No item ends before the last byte.

fewer : (hs us vs ts : List Token) → hs ++ vs ≡ (hs ++ us) ++ ts → vs ≡ [] → us ≡ []
fewer hs [] vs ts e none = refl
fewer hs (u ∷ us) vs ts e none =
    let long : length hs + length vs ≡ (length hs + suc (length us)) + length ts = sym (length-append hs vs)
    ∙ (ap length e ∙ (length-append (hs ++ (u ∷ us)) ts ∙ ap (λ (n : ℕ). n + length ts) (length-append hs (u ∷ us)))) in
    let zero_so : length vs ≡ 0 = ap length none in
    absurd (omega (arith, long, zero_so))

nothing-ends : (r : Rules) (bytes : List ℕ) (e : Element) (a : IsAdding r bytes e) (xs zs : List ℕ) (b : ℕ) → a.front ≡ xs ++ (b ∷ zs)
    → EndsHeader r ((bytes ++ xs) ++ b ∷ []) ⊎ EndsTop r ((bytes ++ xs) ++ b ∷ []) → ⊥
nothing-ends r bytes e a xs zs b p ends =
    let (was, never) = item_was_open r (bytes ++ xs) b ends in
    let before : IsFront r bytes xs a.name a.told = front-at r bytes e a xs (b ∷ zs) p in
    let after : IsFront r bytes (xs ++ b ∷ []) a.name a.told = front-at r bytes e a (xs ++ b ∷ []) zs (p ∙ sym (cons-after xs zs b)) in
    let group : bytes ++ (xs ++ b ∷ []) ≡ (bytes ++ xs) ++ b ∷ [] = sym (append_assoc bytes xs (b ∷ [])) in
    let longer : told_all r first_frame bytes ++ after.us ≡ (told_all r first_frame bytes ++ before.us) ++ told_at (frame_after r first_frame (bytes ++ xs)) b =
    sym after.all ∙ (ap (told_all r first_frame) group
    ∙ (told-last r (bytes ++ xs) b ∙ ap (λ (l : List Token). l ++ told_at (frame_after r first_frame (bytes ++ xs)) b) before.all)) in
    let open_not : IsOpenAt r (bytes ++ (xs ++ b ∷ [])) → ⊥ = λ h. never (subst (IsOpenAt r) group h) in
    by after.us (λ some. open_not (token-open r bytes (xs ++ b ∷ []) a.name a.told after a.stays some))
    (λ none. none-open r bytes xs a.name a.told before (fewer (told_all r first_frame bytes) before.us after.us _ longer none) was)
  where
    by : (us : List Token) → ((us ≡ [] → ⊥) → ⊥) → (us ≡ [] → ⊥) → ⊥
    by us some none = some none

pub none-ends : (r : Rules) (bytes : List ℕ) (e : Element) (a : IsAdding r bytes e) (xs zs : List ℕ) (b : ℕ) (i : Item) → a.front ≡ xs ++ (b ∷ zs)
    → IsItem r ((bytes ++ xs) ++ b ∷ []) i → ⊥
none-ends r bytes e a xs zs b (item.Header x space) p (root, come, named, is, default) = nothing-ends r bytes e a xs zs b p (inl (root, come))
none-ends r bytes e a xs zs b (item.Top x) p (root, f, come, named, ends, tops) = nothing-ends r bytes e a xs zs b p (inr (root, f, come, ends))
none-ends r bytes e a xs zs b item.CloseTag p (s, is, named) =
    let group : bytes ++ text e ≡ ((bytes ++ xs) ++ b ∷ []) ++ (zs ++ a.byte ∷ []) = rest-of bytes a.front (xs ++ b ∷ []) zs a.byte (text e) a.text_is (p
    ∙ sym (cons-after xs zs b)) ∙ ap (λ (x : List ℕ). x ++ (zs ++ a.byte ∷ [])) (sym (append_assoc bytes xs (b ∷ []))) in
    let on : GoesOn (frame_after r first_frame ((bytes ++ xs) ++ b ∷ [])) = front-on r bytes e a ((bytes ++ xs) ++ b ∷ []) (zs ++ a.byte ∷ []) group in
    false-true (sym on.1 ∙ spells-ended r ((bytes ++ xs) ++ b ∷ []) s ((bytes ++ xs) ++ b ∷ [], [], sym (append-nil ((bytes ++ xs) ++ b ∷ [])), tt, is))
none-ends r bytes e a xs zs b (item.Broken f k) p is = is

-- The element ends with the last byte.

pub last-whole : (r : Rules) (bytes : List ℕ) (e : Element) (a : IsAdding r bytes e) → bytes ++ text e ≡ (bytes ++ a.front) ++ a.byte ∷ []
last-whole r bytes e a = ap (λ (x : List ℕ). bytes ++ x) (sym a.text_is) ∙ sym (append_assoc bytes a.front (a.byte ∷ []))

pub is-top : (r : Rules) (bytes : List ℕ) (e : Element) (a : IsAdding r bytes e) → IsItem r (bytes ++ text e) (item.Top e)
is-top r bytes e a =
    let f : Frame = frame_after r first_frame (bytes ++ a.front) in
    let st : State = gap_state a.gap a.returned in
    let here : f ≡ frame_after r (open_at st (inside (a.name ∷ []))) a.front = frames-more r first_frame bytes a.front
    ∙ ap (λ (x : Frame). frame_after r x a.front) a.frame in
    let on : GoesOn (frame_after r (open_at st (inside (a.name ∷ []))) a.front) =
    subst GoesOn here (front-on r bytes e a (bytes ++ a.front) (a.byte ∷ []) (last-whole r bytes e a)) in
    let (frame, told) = frame-runs a.front r st a.state (inside (a.name ∷ [])) a.told a.way on in
    let last : told_at f a.byte ≡ a.last ∷ [] = ap (λ (x : Frame). told_at x a.byte) (here ∙ frame) ∙ ap tokens_told a.step.1 in
    let all : head_tokens a.head.0 a.root a.content ≡ told_all r first_frame (bytes ++ a.front) ++ a.last ∷ [] =
    sym a.head.1 ∙ (ap (told_all r first_frame) (last-whole r bytes e a)
    ∙ (told-last r (bytes ++ a.front) a.byte ∙ ap (λ (l : List Token). told_all r first_frame (bytes ++ a.front) ++ l) last)) in
    (a.root, a.content, a.come, a.named, head-ends a.head.0 a.root a.content (told_all r first_frame (bytes ++ a.front)) a.last all a.ends, a.tops)

-- it is the only item that does
pub only-top : (r : Rules) (bytes : List ℕ) (e : Element) (a : IsAdding r bytes e) (us : List ℕ) (b : ℕ) (i : Item) → bytes ++ text e ≡ us ++ b ∷ []
    → IsItem r (us ++ b ∷ []) i → i ≡ item.Top e
only-top r bytes e a us b i p is =
    let whole : is_broken (frame_after r first_frame (us ++ b ∷ [])) ≡ false = open-whole r bytes e a (us ++ b ∷ []) [] (p ∙ sym (append-nil (us ++ b ∷ []))) in
    let built : Building = build_all nothing_built (told_all r first_frame us) in
    some-same i (item.Top e) (sym (item-set-by r us b built i refl whole is)
    ∙ item-set-by r us b built (item.Top e) refl whole (subst (λ (x : List ℕ). IsItem r x (item.Top e)) p (is-top r bytes e a)))

-- No tag has a fault by its names.

one-told : (f : Frame) (st to : State) (n : Nest) (b : ℕ) (t : Token) → f ≡ open_at st n → turn st b ≡ leads to (t ∷ []) → told_at f b ≡ t ∷ []
one-told f st to n b t e step = ap (λ (x : Frame). told_at x b) e ∙ ap tokens_told step

tag-none : (b : Building) (layers : List (List Binding)) (t : RawTag) (empty : Bool) → b.layers ≡ layers → b.tag ≡ whole_tag t
    → named_at b (token.TagEnds empty) ≡ None → fault_of_tag layers (whole_tag t) ≡ None
tag-none b layers t empty e h none = sym (ap (λ (l : List (List Binding)). fault_of_tag l b.tag) e ∙ ap (fault_of_tag layers) h) ∙ none

pub no-name : (r : Rules) (bytes : List ℕ) (e : Element) (a : IsAdding r bytes e) (us vs : List ℕ) (b : ℕ) (g : FrameFault) → bytes ++ text e ≡ us ++ (b ∷ vs)
    → IsNameFault (us ++ b ∷ []) g → ⊥
no-name r bytes e a us vs b g p (path, t, (d, h, empty, rooted, read, short), (x, is, kind)) =
    let front : List Token = tokens_in d path h ++ tag-body t in
    let split : tokens_to d path h t empty ≡ front ++ token.TagEnds empty ∷ [] = tokens-split d path h t empty in
    let longer : bytes ++ text e ≡ (us ++ b ∷ []) ++ vs = p ∙ sym (cons-after us vs b) in
    let (to, m, s, at_it, step, told) =
    ends-at r us b front (token.TagEnds empty) refl (subst (Reads (us ++ b ∷ [])) split read) (subst (IsShortest (us ++ b ∷ [])) split short)
    (open-whole r bytes e a (us ++ b ∷ []) vs longer) in
    let one : told_at (frame_after r first_frame us) b ≡ token.TagEnds empty ∷ [] =
    one-told (frame_after r first_frame us) to s m b (token.TagEnds empty) at_it step in
    let all : told_all r first_frame (us ++ b ∷ []) ≡ front ++ token.TagEnds empty ∷ [] = told-last r us b
    ∙ (ap (λ (l : List Token). l ++ told_at (frame_after r first_frame us) b) told ∙ ap (λ (l : List Token). front ++ l) one) in
    let judged : AreJudged nothing_built (front ++ token.TagEnds empty ∷ []) =
    subst (AreJudged nothing_built) all
    (judged-front (told_all r first_frame (us ++ b ∷ [])) _ nothing_built
    (subst (AreJudged nothing_built) (ap (told_all r first_frame) longer ∙ told-more r first_frame (us ++ b ∷ []) vs) a.judged)) in
    let (layers, tag) = tag-at d path h t rooted in
    none-some x (sym (tag-none (build_all nothing_built front) (scope_of path) t empty layers tag
    (judged-back front (token.TagEnds empty ∷ []) nothing_built judged).0) ∙ is)

-- No byte is past the limit.

pub cut-less : (bytes xs us vs : List ℕ) (c : ℕ) → bytes ++ xs ≡ us ++ (c ∷ vs)
    → ((ws : List ℕ) × (bytes ≡ us ++ (c ∷ ws)) × (vs ≡ ws ++ xs)) ⊎ ((ws : List ℕ) × (us ≡ bytes ++ ws) × (xs ≡ ws ++ (c ∷ vs)))
cut-less [] xs us vs c e = inr (us, refl, e)
cut-less (y ∷ bytes) xs [] vs c e = inl (bytes, ap (λ (z : ℕ). z ∷ bytes) (same_head y c (bytes ++ xs) vs e), sym (same_tail y c (bytes ++ xs) vs e))
cut-less (y ∷ bytes) xs (u ∷ us) vs c e =
    by (same_head y u (bytes ++ xs) (us ++ (c ∷ vs)) e) (cut-less bytes xs us vs c (same_tail y u (bytes ++ xs) (us ++ (c ∷ vs)) e))
  where
    by : y ≡ u → ((ws : List ℕ) × (bytes ≡ us ++ (c ∷ ws)) × (vs ≡ ws ++ xs)) ⊎ ((ws : List ℕ) × (us ≡ bytes ++ ws) × (xs ≡ ws ++ (c ∷ vs)))
        → ((ws : List ℕ) × (y ∷ bytes ≡ u ∷ (us ++ (c ∷ ws))) × (vs ≡ ws ++ xs)) ⊎ ((ws : List ℕ) × (u ∷ us ≡ y ∷ (bytes ++ ws)) × (xs ≡ ws ++ (c ∷ vs)))
    by h (inl (ws, p, q)) = inl (ws, ap (λ (z : ℕ). z ∷ bytes) h ∙ ap (λ (z : List ℕ). u ∷ z) p, q)
    by h (inr (ws, p, q)) = inr (ws, ap (λ (z : List ℕ). u ∷ z) p ∙ ap (λ (z : ℕ). z ∷ (bytes ++ ws)) (sym h), q)

gap-calm : (g : Gap) (c : Bool) → after_less (gap_state g c) ≡ false
gap-calm plain c = refl
gap-calm (bracketed b) c = refl

-- nothing is open before the text, and with its first byte neither
closed-before : (r : Rules) (bytes : List ℕ) (e : Element) (a : IsAdding r bytes e) → in_item (frame_after r first_frame bytes) ≡ false
closed-before r bytes e a = ap in_item a.frame

closed-first : (r : Rules) (bytes : List ℕ) (e : Element) (a : IsAdding r bytes e) (x : ℕ) → IsOpenAt r (bytes ++ x ∷ []) → ⊥
closed-first r bytes e a x h =
    let less : AfterLess (frame_after r first_frame bytes) = opens-after r (frame_after r first_frame bytes) x (sound-at r bytes) (closed-before r bytes e a)
    (ap in_item (sym (after-last r bytes x)) ∙ h) in
    let bad : false ≡ true = sym (gap-calm a.gap a.returned) ∙ subst AfterLess a.frame less in false-true bad

two-bytes : (r : Rules) (bytes : List ℕ) (e : Element) (a : IsAdding r bytes e) → 2 ≤ length (text e)
two-bytes r bytes e a = by a.front a.way a.some (ap length (sym a.text_is) ∙ length-append a.front (a.byte ∷ []))
  where
    by : (front : List ℕ) → run (gap_state a.gap a.returned) front ≡ leads a.state a.told → (v : Token) × (vs : List Token) × (a.told ≡ v ∷ vs)
        → length (text e) ≡ length front + 1 → 2 ≤ length (text e)
    by [] way (v, vs, some) long = absurd (let bad : [] ≡ v ∷ vs = lead-told (gap_state a.gap a.returned) a.state [] a.told way ∙ some in cc)
    by (x ∷ front) way some long = omega (arith, long)

pub no-past : (l : Limits) (bytes : List ℕ) (e : Element) (a : IsAdding (rules_of l) bytes e) (xs zs : List ℕ) (b : ℕ) → text e ≡ xs ++ (b ∷ zs)
    → length (text e) ≤ l.bytes → IsPastAt l (bytes ++ xs) b → ⊥
no-past l bytes e a xs zs b p short (open_so, (us, vs, split, since, long)) = by (cut-less bytes xs us vs 60 split)
  where
    size : length (text e) ≡ length xs + suc (length zs)
    size = ap length p ∙ length-append xs (b ∷ zs)

    in_bytes : (ws : List ℕ) → bytes ≡ us ++ (60 ∷ ws) → vs ≡ ws ++ xs → ⊥
    in_bytes [] q h = first xs h
      where
        first : (xs : List ℕ) → vs ≡ xs → ⊥
        first [] h = let two : 2 ≤ length (text e) = two-bytes (rules_of l) bytes e a in let none : length vs ≡ 0 =
            ap length h in omega (arith, two, none, long, short)
        first (x ∷ more) h = closed-first (rules_of l) bytes e a x
            (subst (IsOpenAt (rules_of l)) (sym (ap (λ (z : List ℕ). z ++ x ∷ []) q ∙ append_assoc us (60 ∷ []) (x ∷ [])))
            (since.1 (x ∷ []) more h (λ n. cons_not_nil x [] n)))
    in_bytes (w ∷ ws) q h = let bad : false ≡ true = sym (closed-before (rules_of l) bytes e a)
        ∙ subst (IsOpenAt (rules_of l)) (sym q) (since.1 (w ∷ ws) xs h (λ n. cons_not_nil w ws n)) in false-true bad

    by : ((ws : List ℕ) × (bytes ≡ us ++ (60 ∷ ws)) × (vs ≡ ws ++ xs)) ⊎ ((ws : List ℕ) × (us ≡ bytes ++ ws) × (xs ≡ ws ++ (60 ∷ vs))) → ⊥
    by (inl (ws, q, h)) = in_bytes ws q h
    by (inr (ws, n, q)) = let parts : length xs ≡ length ws + suc (length vs) = ap length q
        ∙ length-append ws (60 ∷ vs) in omega (arith, size, parts, long, short)

-- A tag is refused as it ends where its names have a fault in the scope of the open elements round it, and for nothing else.
use Rattle.std.proofs.Common.{◌≡◌, ℕ, List, [], ◌∷◌, ◌++◌, refl, sym, ap, ◌∙◌, subst, append_assoc, Bool, false}
use Rattle.std.specs.Prelude.{Option, Some, None}
use Rattle.stream_lex.specs.declared.Token.{Token}
use Rattle.stream_lex.specs.declared.Token.TheVariants as token
use Rattle.stream_lex.specs.declared.stages.State.{State}
use Rattle.stream_lex.specs.machine.Turns.{Outcome, leads, fails, turn}
use Rattle.stream_lex.specs.grammar.Reading.{Reads}
use Rattle.stream_grammar.specs.declared.FrameFault.{FrameFault}
use Rattle.stream_grammar.specs.declared.namespaces.Binding.{Binding}
use Rattle.stream_grammar.specs.declared.namespaces.NameFault.{NameFault}
use Rattle.stream_grammar.specs.declared.namespaces.NameFault.TheVariants as name
use Rattle.stream_grammar.specs.declared.rules.Rules.{Rules}
use Rattle.stream_grammar.specs.grammar.Trees.{RawTag, Content, content_tokens, declaration_tokens}
use Rattle.stream_grammar.specs.grammar.Streams.{IsShortest}
use Rattle.stream_grammar.specs.machine.Nesting.{Nest, start, nest, nest_all}
use Rattle.stream_grammar.specs.machine.Framing.{Frame, open_at, ended, broken, placed, settled, frame_next, frame_after, first_frame, is_broken}
use Rattle.stream_grammar.specs.machine.Ends.{told_at, tokens_told}
use Rattle.stream_grammar.specs.grammar.Tags.{whole_tag}
use Rattle.stream_grammar.specs.grammar.Elements.{fault_of_tag}
use Rattle.stream_grammar.specs.machine.Building.{Building, nothing_built, build_all, named_fault, tag_judged, told_judged}
use Rattle.stream_grammar.specs.grammar.Paths.{Step, path_tokens, scope_of, IsRooted, tokens_to, EndsTag, name_kind, IsNameFault}
use Rattle.stream_grammar.proofs.Nested.{token_head, token_tail, no_token}
use Rattle.stream_grammar.proofs.Whole.{first-sound}
use Rattle.stream_laws.proofs.Coming.{told_all, came, last-reads, tag-words}
use Rattle.stream_laws.proofs.Made.{tag-body, body-then}
use Rattle.stream_laws.proofs.Handing.{clear, lost-broken}
use Rattle.stream_laws.proofs.Judged.{AreJudged}
use Rattle.stream_laws.proofs.LastTold.{ends-at}
use Rattle.stream_laws.proofs.PathTokens.{tokens_in, Before, before-from, tag-tokens}
use Rattle.stream_laws.proofs.PathScopes.{IsTagAt, tag-at}

none-some : {X : Type 0} (x : X) → None ≡ Some x → ⊥
none-some x e = cc

some-same : {X : Type 0} (x y : X) → Some x ≡ Some y → x ≡ y
some-same x y e = cc

-- Lists of tokens.

not-end : (ys : List Token) (y : Token) → ys ++ y ∷ [] ≡ [] → ⊥
not-end [] y e = no_token y [] e
not-end (v ∷ ys) y e = no_token v (ys ++ y ∷ []) e

pub init-same : (xs ys : List Token) (x y : Token) → xs ++ x ∷ [] ≡ ys ++ y ∷ [] → xs ≡ ys
init-same [] [] x y e = refl
init-same [] (v ∷ ys) x y e = absurd (not-end ys y (sym (token_tail x v [] (ys ++ y ∷ []) e)))
init-same (u ∷ xs) [] x y e = absurd (not-end xs x (token_tail u y (xs ++ x ∷ []) [] e))
init-same (u ∷ xs) (v ∷ ys) x y e =
    ap (λ (t : Token). t ∷ xs) (token_head u v (xs ++ x ∷ []) (ys ++ y ∷ []) e)
    ∙ ap (λ (l : List Token). v ∷ l) (init-same xs ys x y (token_tail u v (xs ++ x ∷ []) (ys ++ y ∷ []) e))

regroup-tag : (d p f b x : List Token) → d ++ (p ++ (f ++ (b ++ x))) ≡ ((d ++ (p ++ f)) ++ b) ++ x
regroup-tag d p f b x = simp append_assoc

-- up to the `>`
pub tokens-split : (d : Bool) (path : List Step) (f : Content) (t : RawTag) (e : Bool)
    → tokens_to d path f t e ≡ (tokens_in d path f ++ tag-body t) ++ token.TagEnds e ∷ []
tokens-split d path f t e =
    ap (λ (l : List Token). declaration_tokens d ++ (path_tokens path ++ (content_tokens f ++ l))) (body-then t e)
    ∙ regroup-tag (declaration_tokens d) (path_tokens path) (content_tokens f) (tag-body t) (token.TagEnds e ∷ [])

-- Kinds.

pub kinds : Option NameFault → Option FrameFault
kinds None = None
kinds (Some x) = Some (name_kind x)

kinded : (o : Option NameFault) → named_fault o ≡ kinds o
unfolding kinds
kinded None = refl
kinded (Some name.BadPrefix) = refl
kinded (Some name.NotWellFormed) = refl

some-kind : (o : Option NameFault) (g : FrameFault) → kinds o ≡ Some g → (x : NameFault) × (o ≡ Some x) × (g ≡ name_kind x)
unfolding kinds
some-kind None g e = absurd (none-some g e)
some-kind (Some x) g e = (x, refl, sym (some-same (name_kind x) g e))

kind-some : (o : Option NameFault) (x : NameFault) → o ≡ Some x → kinds o ≡ Some (name_kind x)
unfolding kinds
kind-some o x e = ap kinds e

-- A tag that ends.

-- what is built of the bytes, in which no tag had a fault
abbrev pub IsSoFar : Rules → List ℕ → Building → Type 0
IsSoFar r bytes b = (clear b ≡ clear (build_all nothing_built (told_all r first_frame bytes))) × AreJudged nothing_built (told_all r first_frame bytes)

names-at : (r : Rules) (bytes : List ℕ) (b : Building) (d : Bool) (path : List Step) (f : Content) (t : RawTag) (e : Bool) → IsSoFar r bytes b → IsRooted path f
    → told_all r first_frame bytes ≡ tokens_in d path f ++ tag-body t → tag_judged b (token.TagEnds e) ≡ kinds (fault_of_tag (scope_of path) (whole_tag t))
names-at r bytes b d path f t e (c, j) h told =
    let at_it : IsTagAt (build_all nothing_built (told_all r first_frame bytes)) (scope_of path) t =
    subst (λ (l : List Token). IsTagAt (build_all nothing_built l) (scope_of path) t) (sym told) (tag-at d path f t h) in
    let at_layers : b.layers ≡ scope_of path = ap (λ (x : Building). x.layers) c ∙ at_it.0 in
    let at_tag : b.tag ≡ whole_tag t = ap (λ (x : Building). x.tag) c ∙ at_it.1 in
    let same : fault_of_tag b.layers b.tag ≡ fault_of_tag (scope_of path) (whole_tag t) = ap (λ (l : List (List Binding)). fault_of_tag l b.tag) at_layers
    ∙ ap (fault_of_tag (scope_of path)) at_tag in
    ap named_fault same ∙ kinded (fault_of_tag (scope_of path) (whole_tag t))

tag-found : (r : Rules) (bytes : List ℕ) (byte : ℕ) (st to : State) (n : Nest) (e : Bool) (b : Building) (g : FrameFault)
    → frame_after r first_frame bytes ≡ open_at st n → turn st byte ≡ leads to (token.TagEnds e ∷ [])
    → is_broken (placed r to (nest r n (token.TagEnds e))) ≡ false → IsSoFar r bytes b → tag_judged b (token.TagEnds e) ≡ Some g
    → IsNameFault (bytes ++ byte ∷ []) g
tag-found r bytes byte st to n e b g at_it step whole so_far judged =
    let us : List Token = told_all r first_frame bytes in
    let (read, short) = last-reads r bytes byte st to n (token.TagEnds e) at_it step (tag-words st to byte e step) in
    let (leads_to, carried) = came bytes r _ st start n (first-sound r).live at_it in
    let before : Before n us = subst (λ (m : Nest). Before m us) leads_to (before-from r us) in
    let (d, path, f, t, rooted, same) = tag-tokens r n us e before (λ q. lost-broken r to (nest r n (token.TagEnds e)) q whole) in
    let told : us ≡ tokens_in d path f ++ tag-body t = init-same us (tokens_in d path f ++ tag-body t) (token.TagEnds e) (token.TagEnds e) (same
    ∙ tokens-split d path f t e) in
    let reads_so : Reads (bytes ++ byte ∷ []) (tokens_to d path f t e) = subst (Reads (bytes ++ byte ∷ [])) same read in (
      path,
      t,
      (d, f, e, rooted, reads_so, subst (IsShortest (bytes ++ byte ∷ [])) same short),
      some-kind (fault_of_tag (scope_of path) (whole_tag t)) g (sym (names-at r bytes b d path f t e so_far rooted told) ∙ judged),
    )

pub name-found : (r : Rules) (bytes : List ℕ) (byte : ℕ) (f : Frame) (b : Building) (g : FrameFault) → f ≡ frame_after r first_frame bytes
    → is_broken (frame_next r f byte) ≡ false → IsSoFar r bytes b
    → told_judged b (told_at f byte) ≡ Some g → IsNameFault (bytes ++ byte ∷ []) g
name-found r bytes byte ended b g e whole so_far judged = absurd (none-some g judged)
name-found r bytes byte broken b g e whole so_far judged = absurd (none-some g judged)
name-found r bytes byte (open_at st n) b g e whole so_far judged = by (turn st byte) refl whole judged
  where
    one : (to : State) (t : Token) → turn st byte ≡ leads to (t ∷ []) → is_broken (placed r to (nest r n t)) ≡ false → tag_judged b t ≡ Some g
        → IsNameFault (bytes ++ byte ∷ []) g
    one to (token.TagEnds x) k w j = tag-found r bytes byte st to n x b g (sym e) k w so_far j
    one to t k w j = absurd (none-some g j)

    all : (to : State) (us : List Token) → turn st byte ≡ leads to us → is_broken (placed r to (nest_all r n us)) ≡ false → told_judged b us ≡ Some g
        → IsNameFault (bytes ++ byte ∷ []) g
    all to [] k w j = absurd (none-some g j)
    all to (t ∷ []) k w j = one to t k w j
    all to (t ∷ u ∷ us) k w j = absurd (none-some g j)

    by : (o : Outcome) → turn st byte ≡ o → is_broken (settled r n o) ≡ false → told_judged b (tokens_told o) ≡ Some g → IsNameFault (bytes ++ byte ∷ []) g
    by (leads to us) k w j = all to us k w j
    by (fails x) k w j = absurd (none-some g j)

-- what a tag is judged to be
pub ends-judged : (r : Rules) (bytes : List ℕ) (byte : ℕ) (f : Frame) (b : Building) (path : List Step) (t : RawTag) → f ≡ frame_after r first_frame bytes
    → is_broken (frame_after r first_frame (bytes ++ byte ∷ [])) ≡ false → IsSoFar r bytes b
    → EndsTag (bytes ++ byte ∷ []) path t → told_judged b (told_at f byte) ≡ kinds (fault_of_tag (scope_of path) (whole_tag t))
ends-judged r bytes byte f b path t e whole so_far (d, h, empty, rooted, read, short) =
    let front : List Token = tokens_in d path h ++ tag-body t in
    let split : tokens_to d path h t empty ≡ front ++ token.TagEnds empty ∷ [] = tokens-split d path h t empty in
    let (to, m, s, at_it, step, told) = ends-at r bytes byte front (token.TagEnds empty) refl (subst (Reads (bytes ++ byte ∷ [])) split read)
    (subst (IsShortest (bytes ++ byte ∷ [])) split short) whole in
    let one : told_at f byte ≡ token.TagEnds empty ∷ [] = ap (λ (y : Frame). told_at y byte) (e ∙ at_it) ∙ ap tokens_told step in
    ap (told_judged b) one ∙ names-at r bytes b d path h t empty so_far rooted told

pub name-told : (r : Rules) (bytes : List ℕ) (byte : ℕ) (f : Frame) (b : Building) (g : FrameFault) → f ≡ frame_after r first_frame bytes
    → is_broken (frame_after r first_frame (bytes ++ byte ∷ [])) ≡ false → IsSoFar r bytes b
    → IsNameFault (bytes ++ byte ∷ []) g → told_judged b (told_at f byte) ≡ Some g
name-told r bytes byte f b g e whole so_far (path, t, ends, (x, is, kind)) =
    ends-judged r bytes byte f b path t e whole so_far ends
    ∙ (kind-some (fault_of_tag (scope_of path) (whole_tag t)) x is ∙ ap (λ (y : FrameFault). Some y) (sym kind))

-- a tag that has no fault in one scope has none in another
pub name-not : (r : Rules) (bytes : List ℕ) (byte : ℕ) (f : Frame) (b : Building) (g : FrameFault) (path : List Step) (t : RawTag)
    → f ≡ frame_after r first_frame bytes → is_broken (frame_after r first_frame (bytes ++ byte ∷ [])) ≡ false → IsSoFar r bytes b
    → EndsTag (bytes ++ byte ∷ []) path t → fault_of_tag (scope_of path) (whole_tag t) ≡ None → IsNameFault (bytes ++ byte ∷ []) g → ⊥
unfolding kinds
name-not r bytes byte f b g path t e whole so_far ends none name =
    none-some g (sym (ap kinds none) ∙ (sym (ends-judged r bytes byte f b path t e whole so_far ends) ∙ name-told r bytes byte f b g e whole so_far name))

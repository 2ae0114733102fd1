-- A byte that has a fault stops the reading with that fault.
use Rattle.std.proofs.Common.{◌≡◌, ℕ, ◌+◌, inl, inr, List, [], ◌∷◌, ◌++◌, length, refl, sym, ap, ◌∙◌, Bool, true, false, ◌==◌, arith}
use Rattle.std.proofs.lemmas.Bool.{cases_lt}
use Rattle.std.specs.Prelude.{Option, Some, None, if◌then◌else◌}
use Rattle.stream_lex.specs.declared.Token.{Token}
use Rattle.stream_lex.specs.declared.Token.TheVariants as token
use Rattle.stream_grammar.specs.declared.FrameFault.{FrameFault}
use Rattle.stream_grammar.specs.declared.FrameFault.TheVariants as fault
use Rattle.stream_grammar.specs.declared.item.Limits.{Limits}
use Rattle.stream_grammar.specs.declared.rules.Rules.{Rules}
use Rattle.stream_grammar.specs.grammar.Streams.{Begins}
use Rattle.stream_grammar.specs.grammar.Faults.{rank, IsSyntaxKind}
use Rattle.stream_grammar.specs.machine.Framing.{Frame, frame_next, frame_after, first_frame, is_broken}
use Rattle.stream_grammar.specs.machine.Ends.{told_at}
use Rattle.stream_grammar.specs.machine.Telling.{fault_told}
use Rattle.stream_grammar.specs.grammar.Elements.{fault_of_tag}
use Rattle.stream_grammar.specs.machine.Building.{Building, nothing_built, build_all, named_fault, tag_judged, told_judged}
use Rattle.stream_grammar.specs.machine.Reading.{Reading, reads, stopped, first_reading, reading_next, concluded, byte_judged}
use Rattle.stream_grammar.specs.machine.Reading.{or_else, fault_if, handed, is_stopped, went, is_past, extent_after}
use Rattle.stream_grammar.specs.grammar.Bounds.{rules_of, is_large_item, told_number}
use Rattle.stream_grammar.specs.grammar.Parts.{IsLargeEnd}
use Rattle.stream_laws.proofs.Coming.{told_all}
use Rattle.stream_laws.proofs.Handing.{clear, HasRead, went-read, went-more}
use Rattle.stream_laws.proofs.Judged.{named_at, AreJudged, reading-judged}
use Rattle.stream_laws.proofs.HandedOut.{item-named}
use Rattle.stream_laws.proofs.NameFaults.{name-told}
use Rattle.stream_laws.proofs.StandingWhole.{none-some, IsWhole, next-whole, number-next, whole}
use Rattle.stream_laws.proofs.Faulting.{IsFaultAt, IsFaultIn, Stands, open-next, syntax-of, begins-of, large-told}

-- Of the kinds of the syntax one fits.

of-rank : ℕ → FrameFault
of-rank n =
    if n == 0 then fault.TooLong
    else (if n == 1 then fault.TooDeep else (if n == 2 then fault.TooManyAttrs else (if n == 3 then fault.BadEncoding else (if n == 4 then fault.Restricted
    else (if n == 5 then fault.BadFormat else (if n == 6 then fault.BadPrefix else fault.NotWellFormed))))))

rank-back : (f : FrameFault) → of-rank (rank f) ≡ f
unfolding of-rank
rank-back fault.TooLong = refl
rank-back fault.TooDeep = refl
rank-back fault.TooManyAttrs = refl
rank-back fault.BadEncoding = refl
rank-back fault.Restricted = refl
rank-back fault.BadFormat = refl
rank-back fault.BadPrefix = refl
rank-back fault.NotWellFormed = refl

kind-one : (r : Rules) (bytes : List ℕ) (f g : FrameFault) → IsSyntaxKind r f bytes → IsSyntaxKind r g bytes → f ≡ g
kind-one r bytes f g (x, first) (y, other) = elim (cases_lt (rank f) (rank g)) [
  | inl h ↦ absurd (other f h x)
  | inr h ↦ elim (cases_lt (rank g) (rank f)) [
    | inl k ↦ absurd (first g k y)
    | inr k ↦ sym (rank-back f) ∙ (ap of-rank (let e : rank f ≡ rank g = omega (arith, h, k) in e) ∙ rank-back g)
  ]
]

-- Each kind of fault, in the order of the judging.

judged-past : (past large : Bool) (told names : Option FrameFault) → past ≡ true
    → or_else (fault_if past fault.TooLong) (or_else told (or_else names (fault_if large fault.TooLong))) ≡ Some fault.TooLong
judged-past true large told names h = refl
judged-past false large told names h = absurd (let bad : false ≡ true = h in cc)

judged-told : (past large : Bool) (told names : Option FrameFault) (g : FrameFault) → past ≡ false → told ≡ Some g
    → or_else (fault_if past fault.TooLong) (or_else told (or_else names (fault_if large fault.TooLong))) ≡ Some g
judged-told false large (Some x) names g h e = e
judged-told false large None names g h e = absurd (none-some g e)
judged-told true large told names g h e = absurd (let bad : true ≡ false = h in cc)

judged-names : (past large : Bool) (told names : Option FrameFault) (g : FrameFault) → past ≡ false → told ≡ None → names ≡ Some g
    → or_else (fault_if past fault.TooLong) (or_else told (or_else names (fault_if large fault.TooLong))) ≡ Some g
judged-names false large None (Some y) g h e k = k
judged-names false large None None g h e k = absurd (none-some g k)
judged-names false large (Some x) names g h e k = absurd (none-some x (sym e))
judged-names true large told names g h e k = absurd (let bad : true ≡ false = h in cc)

judged-large : (past large : Bool) (told names : Option FrameFault) → past ≡ false → told ≡ None → names ≡ None → large ≡ true
    → or_else (fault_if past fault.TooLong) (or_else told (or_else names (fault_if large fault.TooLong))) ≡ Some fault.TooLong
judged-large false true None None h e k m = refl
judged-large false false None None h e k m = absurd (let bad : false ≡ true = m in cc)
judged-large false large None (Some y) h e k m = absurd (none-some y (sym k))
judged-large false large (Some x) names h e k m = absurd (none-some x (sym e))
judged-large true large told names h e k m = absurd (let bad : true ≡ false = h in cc)

-- where a stream goes on there is no fault of the syntax
goes-on : (r : Rules) (f : Frame) (bytes : List ℕ) (byte : ℕ) → f ≡ frame_after r first_frame bytes → is_broken f ≡ false → Begins r (bytes ++ byte ∷ [])
    → fault_told r f byte ≡ None
goes-on r f bytes byte e h begins = by (fault_told r f byte) refl
  where
    by : (o : Option FrameFault) → fault_told r f byte ≡ o → o ≡ None
    by None k = refl
    by (Some g) k = absurd ((syntax-of r f bytes byte g e h k).0 begins)

breaks-off : (r : Rules) (f : Frame) (bytes : List ℕ) (byte : ℕ) (g : FrameFault) → f ≡ frame_after r first_frame bytes → is_broken f ≡ false
    → (fault_told r f byte ≡ None → ⊥) → IsSyntaxKind r g (bytes ++ byte ∷ []) → fault_told r f byte ≡ Some g
breaks-off r f bytes byte g e h never kind = by (fault_told r f byte) refl
  where
    by : (o : Option FrameFault) → fault_told r f byte ≡ o → o ≡ Some g
    by None k = absurd (never k)
    by (Some x) k = ap (λ (y : FrameFault). Some y) (kind-one r (bytes ++ byte ∷ []) x g (syntax-of r f bytes byte x e h k).1 kind)

-- an item's last tag is not refused
token-fault : (b : Building) (t : Token) (g : FrameFault) → named_at b t ≡ None → tag_judged b t ≡ Some g → ⊥
token-fault b (token.TagEnds e) g h k = none-some g (sym (ap named_fault h) ∙ k)
token-fault b t g h k = none-some g k

named-same : (b c : Building) (t : Token) → clear b ≡ clear c → named_at (clear b) t ≡ named_at c t
named-same b c (token.TagEnds e) h = ap (λ (x : Building). fault_of_tag x.layers x.tag) h
named-same b c t h = refl

item-judged : (l : Limits) (f : Frame) (b : Building) (bytes : List ℕ) (byte : ℕ) → Stands l bytes f b → is_broken (frame_next (rules_of l) f byte) ≡ false
    → IsLargeEnd l (bytes ++ byte ∷ []) → told_judged (clear b) (told_at f byte) ≡ None
item-judged l f b bytes byte (e, h, (c, j)) next (i, is, large) = by (told_judged (clear b) (told_at f byte)) refl
  where
    r : Rules
    r = rules_of l

    wrong : (g : FrameFault) → told_judged (clear b) (told_at f byte) ≡ Some g → ⊥
    wrong g k =
        let (t, told, none) = item-named r bytes byte i (open-next r f bytes byte e next) is in
        let one : told_at f byte ≡ t ∷ [] = ap (λ (y : Frame). told_at y byte) e ∙ told in
        token-fault (clear b) t g (named-same b (build_all nothing_built (told_all r first_frame bytes)) t c ∙ none) (ap (told_judged (clear b)) (sym one) ∙ k)

    by : (o : Option FrameFault) → told_judged (clear b) (told_at f byte) ≡ o → o ≡ None
    by None k = refl
    by (Some g) k = absurd (wrong g k)

byte-exact : (l : Limits) (f : Frame) (b : Building) (n : ℕ) (bytes : List ℕ) (byte : ℕ) (g : FrameFault) → Stands l bytes f b → IsFaultAt l f n bytes byte g
    → byte_judged l f (clear b) n byte ≡ Some g
byte-exact l f b n bytes byte g s (inl (past, is)) =
    judged-past (is_past l f (frame_next (rules_of l) f byte) n) (is_large_item l (build_all (clear b) (told_at f byte)).item) (fault_told (rules_of l) f byte)
    (told_judged (clear b) (told_at f byte)) past ∙ ap (λ (y : FrameFault). Some y) (sym is)
byte-exact l f b n bytes byte g (e, h, so_far) (inr (past, inl (never, kind))) =
    judged-told _ _ _ _ g past (breaks-off (rules_of l) f bytes byte g e h (λ none. never (begins-so none)) kind)
  where
    begins-so : fault_told (rules_of l) f byte ≡ None → Begins (rules_of l) (bytes ++ byte ∷ [])
    begins-so none = begins-of (rules_of l) f bytes byte e h none
byte-exact l f b n bytes byte g (e, h, so_far) (inr (past, inr (begins, inl name))) =
    let told : fault_told (rules_of l) f byte ≡ None = goes-on (rules_of l) f bytes byte e h begins in
    judged-names _ _ _ _ g past told
    (name-told (rules_of l) bytes byte f (clear b) g e (open-next (rules_of l) f bytes byte e (next-whole (rules_of l) f byte h told)) so_far name)
byte-exact l f b n bytes byte g (e, h, so_far) (inr (past, inr (begins, inr (end, is)))) =
    let told : fault_told (rules_of l) f byte ≡ None = goes-on (rules_of l) f bytes byte e h begins in
    let next : is_broken (frame_next (rules_of l) f byte) ≡ false = next-whole (rules_of l) f byte h told in
    judged-large _ _ _ _ past told (item-judged l f b bytes byte (e, h, so_far) next end) (large-told l f b bytes byte (e, h, so_far) next end)
    ∙ ap (λ (y : FrameFault). Some y) (sym is)

-- Of a reading.

reading-exact : (l : Limits) (bytes : List ℕ) (byte : ℕ) (s : Reading) (g : FrameFault) → HasRead (rules_of l) first_frame nothing_built bytes s
    → IsWhole s (length bytes) → (is_stopped s ≡ false → AreJudged nothing_built (told_all (rules_of l) first_frame bytes))
    → IsFaultIn l s bytes byte g → reading_next l (handed s) byte ≡ stopped g (told_number (length bytes + 1))
reading-exact l bytes byte (stopped f k0) g h w u e = absurd e
reading-exact l bytes byte (reads f b n k0) g (p, q) (w, v) u e =
    ap (λ (o : Option FrameFault). concluded o
    (reads (frame_next (rules_of l) f byte) (build_all (clear b) (told_at f byte)) (extent_after (frame_next (rules_of l) f byte) n) (told_number (k0 + 1)))
    (told_number (k0 + 1))) (byte-exact l f b n bytes byte g (p, w, (q, u refl)) e)
    ∙ ap (stopped g) (ap (λ (i : ℕ). told_number (i + 1)) v ∙ number-next (length bytes))

pub fault-stops : (l : Limits) (bytes : List ℕ) (byte : ℕ) (g : FrameFault) → IsFaultIn l (went l first_reading bytes) bytes byte g
    → went l first_reading (bytes ++ byte ∷ []) ≡ stopped g (told_number (length bytes + 1))
fault-stops l bytes byte g e =
    went-more l first_reading bytes (byte ∷ [])
    ∙ reading-exact l bytes byte (went l first_reading bytes) g (went-read bytes l first_frame nothing_built 0 0) (whole l bytes)
    (λ h. reading-judged l bytes h) e

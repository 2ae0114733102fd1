-- A reading stops at the first byte that has a fault, with that fault and the byte's number.
use Rattle.std.proofs.Common.{◌≡◌, ℕ, ◌+◌, ◌⊎◌, inl, inr, List, [], ◌∷◌, ◌++◌, length, refl, sym, ap, ◌∙◌, subst, Bool, true, false, cond}
use Rattle.std.specs.Prelude.{Option, Some, None}
use Rattle.stream_grammar.specs.declared.FrameFault.{FrameFault}
use Rattle.stream_grammar.specs.declared.FrameFault.TheVariants as fault
use Rattle.stream_lex.specs.declared.Token.{Token}
use Rattle.stream_grammar.specs.declared.item.Item.{Item}
use Rattle.stream_grammar.specs.declared.item.Limits.{Limits}
use Rattle.stream_grammar.specs.declared.rules.Rules.{Rules}
use Rattle.stream_grammar.specs.grammar.Streams.{Begins}
use Rattle.stream_grammar.specs.grammar.Faults.{IsSyntaxKind}
use Rattle.stream_grammar.specs.machine.Framing.{Frame, frame_next, frame_after, first_frame, is_broken, fault_at}
use Rattle.stream_grammar.specs.machine.Ends.{told_at}
use Rattle.stream_grammar.specs.machine.Telling.{fault_told}
use Rattle.stream_grammar.specs.machine.Building.{Building, nothing_built, build_all, told_judged}
use Rattle.stream_grammar.specs.machine.Reading.{Reading, reads, stopped, first_reading, reading_next, concluded, byte_judged}
use Rattle.stream_grammar.specs.machine.Reading.{or_else, fault_if, handed, is_stopped, went, is_past, extent_after}
use Rattle.stream_grammar.specs.grammar.Bounds.{rules_of, is_large_item, told_number}
use Rattle.stream_grammar.specs.grammar.Parts.{IsLargeEnd}
use Rattle.stream_grammar.specs.grammar.Paths.{IsNameFault}
use Rattle.stream_grammar.proofs.Whole.{open-begins, broken-begins}
use Rattle.stream_grammar.proofs.Blaming.{fault-kind}
use Rattle.stream_laws.proofs.Handing.{clear, HasRead, went-read, went-more}
use Rattle.stream_laws.proofs.StandingWhole.{none-some, or-none, IsWhole, told-fault, next-whole, number-next, whole, frames-more}
use Rattle.stream_laws.proofs.Coming.{told_all}
use Rattle.stream_laws.proofs.Judged.{AreJudged, judged-like, judged-more, frame-judged, reading-judged}
use Rattle.stream_laws.proofs.Waiting.{byte-waits}
use Rattle.stream_laws.proofs.HandedOut.{item-set-by}
use Rattle.stream_laws.proofs.NameFaults.{IsSoFar, name-found, name-told}

pub some-same : {X : Type 0} (x y : X) → Some x ≡ Some y → x ≡ y
some-same x y e = cc

-- The fault of a byte.

pub first-of : (past : Bool) (told names : Option FrameFault) (large : Bool) (g : FrameFault)
    → or_else (fault_if past fault.TooLong) (or_else told (or_else names (fault_if large fault.TooLong))) ≡ Some g
    → ((past ≡ true) × (g ≡ fault.TooLong))
    ⊎ ((past ≡ false) × ((told ≡ Some g) ⊎ ((told ≡ None) × ((names ≡ Some g) ⊎ ((names ≡ None) × (large ≡ true) × (g ≡ fault.TooLong))))))
first-of true told names large g e = inl (refl, sym (some-same _ g e))
first-of false (Some x) names large g e = inr (refl, inl e)
first-of false None (Some x) large g e = inr (refl, inr (refl, inl e))
first-of false None None true g e = inr (refl, inr (refl, inr (refl, refl, sym (some-same _ g e))))
first-of false None None false g e = absurd (none-some g e)

some-cond : (t : Bool) (x g : FrameFault) → cond t (Some x) None ≡ Some g → (t ≡ true) × (g ≡ x)
some-cond true x g e = (refl, sym (some-same x g e))
some-cond false x g e = absurd (none-some g e)

after-byte : (r : Rules) (f : Frame) (bytes : List ℕ) (byte : ℕ) → f ≡ frame_after r first_frame bytes
    → frame_after r first_frame (bytes ++ byte ∷ []) ≡ frame_next r f byte
after-byte r f bytes byte e = frames-more r first_frame bytes (byte ∷ []) ∙ ap (λ (x : Frame). frame_next r x byte) (sym e)

pub syntax-of : (r : Rules) (f : Frame) (bytes : List ℕ) (byte : ℕ) (g : FrameFault) → f ≡ frame_after r first_frame bytes → is_broken f ≡ false
    → fault_told r f byte ≡ Some g → (Begins r (bytes ++ byte ∷ []) → ⊥) × IsSyntaxKind r g (bytes ++ byte ∷ [])
syntax-of r f bytes byte g e h t =
    let (broke, is) = some-cond (is_broken (frame_next r f byte)) (fault_at r f byte) g (sym (told-fault r f byte h) ∙ t) in
    let at_it : is_broken (frame_next r (frame_after r first_frame bytes) byte) ≡ true = ap (λ (x : Frame). is_broken (frame_next r x byte)) (sym e)
    ∙ broke in (
      λ begins. broken-begins r (bytes ++ byte ∷ []) (ap is_broken (after-byte r f bytes byte e) ∙ broke) begins,
      subst (λ (x : FrameFault). IsSyntaxKind r x (bytes ++ byte ∷ [])) (sym (is ∙ ap (λ (x : Frame). fault_at r x byte) e))
          (fault-kind r bytes byte (ap is_broken (sym e) ∙ h) at_it),
    )

pub begins-of : (r : Rules) (f : Frame) (bytes : List ℕ) (byte : ℕ) → f ≡ frame_after r first_frame bytes → is_broken f ≡ false → fault_told r f byte ≡ None
    → Begins r (bytes ++ byte ∷ [])
begins-of r f bytes byte e h t = open-begins r (bytes ++ byte ∷ []) (ap is_broken (after-byte r f bytes byte e) ∙ next-whole r f byte h t)

-- the fault by the reading's own words
abbrev IsTold : Limits → Frame → Building → ℕ → ℕ → FrameFault → Type 0
IsTold l f b n byte g =
    ((is_past l f (frame_next (rules_of l) f byte) n ≡ true) × (g ≡ fault.TooLong))
    ⊎ ((is_past l f (frame_next (rules_of l) f byte) n ≡ false) × ((fault_told (rules_of l) f byte ≡ Some g)
    ⊎ ((fault_told (rules_of l) f byte ≡ None)
    × ((told_judged b (told_at f byte) ≡ Some g)
    ⊎ ((told_judged b (told_at f byte) ≡ None) × (is_large_item l (build_all b (told_at f byte)).item ≡ true) × (g ≡ fault.TooLong))))))

-- the same in the words of the grammar, but for the count of bytes
abbrev pub IsFaultAt : Limits → Frame → ℕ → List ℕ → ℕ → FrameFault → Type 0
IsFaultAt l f n bytes byte g =
    ((is_past l f (frame_next (rules_of l) f byte) n ≡ true) × (g ≡ fault.TooLong))
    ⊎ ((is_past l f (frame_next (rules_of l) f byte) n ≡ false)
    × (((Begins (rules_of l) (bytes ++ byte ∷ []) → ⊥) × IsSyntaxKind (rules_of l) g (bytes ++ byte ∷ []))
    ⊎ (Begins (rules_of l) (bytes ++ byte ∷ [])
    × (IsNameFault (bytes ++ byte ∷ []) g ⊎ (IsLargeEnd l (bytes ++ byte ∷ []) × (g ≡ fault.TooLong))))))

abbrev pub IsFaultIn : Limits → Reading → List ℕ → ℕ → FrameFault → Type 0
IsFaultIn l (stopped f k) bytes byte g = ⊥
IsFaultIn l (reads f b n k) bytes byte g = IsFaultAt l f n bytes byte g

-- where the reading stands
abbrev pub Stands : Limits → List ℕ → Frame → Building → Type 0
Stands l bytes f b = (f ≡ frame_after (rules_of l) first_frame bytes) × (is_broken f ≡ false) × IsSoFar (rules_of l) bytes b

pub open-next : (r : Rules) (f : Frame) (bytes : List ℕ) (byte : ℕ) → f ≡ frame_after r first_frame bytes → is_broken (frame_next r f byte) ≡ false
    → is_broken (frame_after r first_frame (bytes ++ byte ∷ [])) ≡ false
open-next r f bytes byte e h = ap is_broken (after-byte r f bytes byte e) ∙ h

some-item : (l : Limits) (o : Option Item) → is_large_item l o ≡ true → (i : Item) × (o ≡ Some i)
some-item l None h = absurd (let bad : false ≡ true = h in cc)
some-item l (Some i) h = (i, refl)

large-found : (l : Limits) (f : Frame) (b : Building) (bytes : List ℕ) (byte : ℕ) → Stands l bytes f b → fault_told (rules_of l) f byte ≡ None
    → told_judged (clear b) (told_at f byte) ≡ None → is_large_item l (build_all (clear b) (told_at f byte)).item ≡ true
    → IsLargeEnd l (bytes ++ byte ∷ [])
large-found l f b bytes byte (e, h, (c, j)) told names large =
    let r : Rules = rules_of l in
    let all : List Token = told_all r first_frame bytes in
    let (i, is) = some-item l (build_all (clear b) (told_at f byte)).item large in
    let last : AreJudged (build_all nothing_built all) (told_at f byte) =
    judged-like (told_at f byte) (clear b) (build_all nothing_built all) c (frame-judged f byte (clear b) names) in
    (i, byte-waits l bytes byte f b i e c told is (judged-more all (told_at f byte) nothing_built j last), ap (is_large_item l) (sym is) ∙ large)

pub large-told : (l : Limits) (f : Frame) (b : Building) (bytes : List ℕ) (byte : ℕ) → Stands l bytes f b → is_broken (frame_next (rules_of l) f byte) ≡ false
    → IsLargeEnd l (bytes ++ byte ∷ []) → is_large_item l (build_all (clear b) (told_at f byte)).item ≡ true
large-told l f b bytes byte (e, h, (c, j)) next (i, is, large) =
    ap (λ (y : Frame). is_large_item l (build_all (clear b) (told_at y byte)).item) e
    ∙ (ap (is_large_item l) (item-set-by (rules_of l) bytes byte b i c (open-next (rules_of l) f bytes byte e next) is) ∙ large)

byte-fault : (l : Limits) (f : Frame) (b : Building) (n : ℕ) (bytes : List ℕ) (byte : ℕ) (g : FrameFault) → Stands l bytes f b
    → byte_judged l f (clear b) n byte ≡ Some g → IsFaultAt l f n bytes byte g
byte-fault l f b n bytes byte g (e, h, so_far) j =
    by (first-of (is_past l f (frame_next (rules_of l) f byte) n) (fault_told (rules_of l) f byte) (told_judged (clear b) (told_at f byte))
    (is_large_item l (build_all (clear b) (told_at f byte)).item) g j)
  where
    by : IsTold l f (clear b) n byte g → IsFaultAt l f n bytes byte g
    by (inl p) = inl p
    by (inr (p, inl t)) = inr (p, inl (syntax-of (rules_of l) f bytes byte g e h t))
    by (inr (p, inr (t, inl name))) =
        inr (
          p,
          inr (
            begins-of (rules_of l) f bytes byte e h t,
            inl
                (name-found (rules_of l) bytes byte f (clear b) g e (next-whole (rules_of l) f byte h t) so_far name),
          ),
        )
    by (inr (p, inr (t, inr (none, large, is)))) =
        inr (p, inr (begins-of (rules_of l) f bytes byte e h t, inr (large-found l f b bytes byte (e, h, so_far) t none large, is)))

not-both : (t : Bool) → t ≡ true → t ≡ false → ⊥
not-both t e f = let bad : true ≡ false = sym e ∙ f in cc

no-large : (large : Bool) → fault_if large fault.TooLong ≡ None → large ≡ false
no-large true e = absurd (none-some _ (sym e))
no-large false e = refl

byte-sound : (l : Limits) (f : Frame) (b : Building) (n : ℕ) (bytes : List ℕ) (byte : ℕ) (g : FrameFault) → Stands l bytes f b
    → byte_judged l f (clear b) n byte ≡ None → IsFaultAt l f n bytes byte g → ⊥
byte-sound l f b n bytes byte g (e, h, so_far) j =
    let (past, later) = or-none _ _ j in
    let (told, more) = or-none _ _ later in
    let (names, large) = or-none _ _ more in
    by (no-large _ past) told names (no-large _ large)
  where
    by : is_past l f (frame_next (rules_of l) f byte) n ≡ false → fault_told (rules_of l) f byte ≡ None → told_judged (clear b) (told_at f byte) ≡ None
        → is_large_item l (build_all (clear b) (told_at f byte)).item ≡ false → IsFaultAt l f n bytes byte g → ⊥
    by past told names large (inl (p, q)) = not-both _ p past
    by past told names large (inr (p, inl (never, kind))) = never (begins-of (rules_of l) f bytes byte e h told)
    by past told names large (inr (p, inr (begins, inl name))) =
        none-some g (sym names ∙ name-told (rules_of l) bytes byte f (clear b) g e
        (open-next (rules_of l) f bytes byte e (next-whole (rules_of l) f byte h told)) so_far name)
    by past told names large (inr (p, inr (begins, inr (end, is)))) =
        not-both _ (large-told l f b bytes byte (e, h, so_far) (next-whole (rules_of l) f byte h told) end) large

-- Of a reading.

fault-same : (x y : FrameFault) (i j : ℕ) → stopped x i ≡ stopped y j → x ≡ y
fault-same x y i j e = cc

number-same : (x y : FrameFault) (i j : ℕ) → stopped x i ≡ stopped y j → i ≡ j
number-same x y i j e = cc

reading-fault : (l : Limits) (bytes : List ℕ) (byte : ℕ) (s : Reading) (g : FrameFault) (k : ℕ) → HasRead (rules_of l) first_frame nothing_built bytes s
    → IsWhole s (length bytes) → AreJudged nothing_built (told_all (rules_of l) first_frame bytes) → is_stopped s ≡ false
    → reading_next l (handed s) byte ≡ stopped g k → IsFaultIn l s bytes byte g × (k ≡ told_number (length bytes + 1))
reading-fault l bytes byte (stopped f k0) g k h w u o e = absurd (let bad : true ≡ false = o in cc)
reading-fault l bytes byte (reads f b n k0) g k (p, q) (w, v) u o e = by (byte_judged l f (clear b) n byte) refl e
  where
    by : (o : Option FrameFault) → byte_judged l f (clear b) n byte ≡ o
        → concluded o (reads (frame_next (rules_of l) f byte) (build_all (clear b) (told_at f byte)) (extent_after (frame_next (rules_of l) f byte) n)
        (told_number (k0 + 1))) (told_number (k0 + 1)) ≡ stopped g k
        → IsFaultIn l (reads f b n k0) bytes byte g × (k ≡ told_number (length bytes + 1))
    by None j e = absurd (let bad : false ≡ true = ap is_stopped e in cc)
    by (Some x) j e = (
      byte-fault l f b n bytes byte g (p, w, (q, u)) (j ∙ ap (λ (y : FrameFault). Some y) (fault-same x g _ k e)),
      sym (number-same x g _ k e) ∙ (ap (λ (i : ℕ). told_number (i + 1)) v ∙ number-next (length bytes)),
    )

pub fault-waits : (l : Limits) (bytes : List ℕ) (byte : ℕ) (g : FrameFault) (k : ℕ) → is_stopped (went l first_reading bytes) ≡ false
    → went l first_reading (bytes ++ byte ∷ []) ≡ stopped g k
    → IsFaultIn l (went l first_reading bytes) bytes byte g × (k ≡ told_number (length bytes + 1))
fault-waits l bytes byte g k o e =
    reading-fault l bytes byte (went l first_reading bytes) g k (went-read bytes l first_frame nothing_built 0 0) (whole l bytes) (reading-judged l bytes o) o
    (sym (went-more l first_reading bytes (byte ∷ [])) ∙ e)

reading-sound : (l : Limits) (bytes : List ℕ) (byte : ℕ) (s : Reading) (g : FrameFault) → HasRead (rules_of l) first_frame nothing_built bytes s
    → IsWhole s (length bytes) → (is_stopped s ≡ false → AreJudged nothing_built (told_all (rules_of l) first_frame bytes))
    → is_stopped (reading_next l (handed s) byte) ≡ false → IsFaultIn l s bytes byte g → ⊥
reading-sound l bytes byte (stopped f k0) g h w u o e = e
reading-sound l bytes byte (reads f b n k0) g (p, q) (w, v) u o e = by (byte_judged l f (clear b) n byte) refl o
  where
    by : (o : Option FrameFault) → byte_judged l f (clear b) n byte ≡ o
        → is_stopped (concluded o
        (reads (frame_next (rules_of l) f byte) (build_all (clear b) (told_at f byte)) (extent_after (frame_next (rules_of l) f byte) n)
        (told_number (k0 + 1))) (told_number (k0 + 1))) ≡ false → ⊥
    by None j o = byte-sound l f b n bytes byte g (p, w, (q, u refl)) j e
    by (Some x) j o = not-both true refl o

pub none-waits : (l : Limits) (bytes : List ℕ) (byte : ℕ) (g : FrameFault) → is_stopped (went l first_reading (bytes ++ byte ∷ [])) ≡ false
    → IsFaultIn l (went l first_reading bytes) bytes byte g → ⊥
none-waits l bytes byte g o e =
    reading-sound l bytes byte (went l first_reading bytes) g (went-read bytes l first_frame nothing_built 0 0) (whole l bytes) (λ h. reading-judged l bytes h)
    (ap is_stopped (sym (went-more l first_reading bytes (byte ∷ []))) ∙ o) e

-- A header or a top element is open by the grammar exactly where it is by frames.
use Rattle.std.proofs.Common.{◌≡◌, ℕ, ◌⊎◌, inl, inr, List, [], ◌∷◌, ◌++◌, refl, sym, ap, ◌∙◌, subst, append_assoc, append-nil, Bool, true, false}
use Rattle.stream_lex.specs.declared.stages.State.{State}
use Rattle.stream_lex.proofs.Lists.{false-true}
use Rattle.stream_grammar.specs.declared.item.Limits.{Limits}
use Rattle.stream_grammar.specs.declared.rules.Rules.{Rules}
use Rattle.stream_grammar.specs.grammar.Bounds.{rules_of}
use Rattle.stream_grammar.specs.grammar.Extents.{begins_tag, IsBeforeTags, IsBetweenTops, NoneEnds, HasOpenItem, IsSince, IsPastLimit}
use Rattle.stream_grammar.specs.grammar.Items.{EndsHeader, EndsTop}
use Rattle.stream_grammar.specs.grammar.Streams.{Begins}
use Rattle.stream_grammar.specs.grammar.Trees.{nothing}
use Rattle.stream_grammar.specs.machine.Nesting.{start, declared, inside}
use Rattle.stream_grammar.specs.machine.Framing.{Frame, open_at, ended, broken, frame_next, frame_after, first_frame, is_broken}
use Rattle.stream_grammar.specs.machine.Ends.{in_item, is_open}
use Rattle.stream_grammar.specs.machine.Reading.{is_past}
use Rattle.stream_grammar.proofs.Following.{Sound}
use Rattle.stream_grammar.proofs.Whole.{open-begins}
use Rattle.stream_laws.proofs.Extents.{IsOpenAt, IsOpenSince, IsPastAt, extent, open_since, past-is, is-past, after-last, sound-at}
use Rattle.stream_laws.proofs.BetweenTops.{IsBetween, between-read, between-frame, between-less, less-between}
use Rattle.stream_laws.proofs.OpenTags.{stands_outside, stands_level, outside-before, outside-all, outside-next, less-first, opened-next, opened-so}
use Rattle.stream_laws.proofs.OpenFrames.{come-after}
use Rattle.stream_laws.proofs.OpenItems.{goes-whole, item_ends}
use Rattle.stream_laws.proofs.Opens.{AfterLess, less-before}
use Rattle.stream_laws.proofs.StandingWhole.{frames-more}

abbrev At : Rules → List ℕ → Frame
At r bytes = frame_after r first_frame bytes

abbrev EndsItem : Rules → List ℕ → Type 0
EndsItem r bytes = EndsHeader r bytes ⊎ EndsTop r bytes

not-both : (t : Bool) → t ≡ true → t ≡ false → ⊥
not-both t e f = false-true (sym f ∙ e)

no-nil : (x : ℕ) (xs : List ℕ) → x ∷ xs ≡ [] → ⊥
no-nil x xs e = cc

-- Where a stream goes on with all bytes, it goes on with each front of them.

whole-before : (r : Rules) (bs : List ℕ) (f : Frame) → is_broken (frame_after r f bs) ≡ false → is_broken f ≡ false
whole-before r [] f w = w
whole-before r (b ∷ bs) (open_at st n) w = refl
whole-before r (b ∷ bs) ended w = refl
whole-before r (b ∷ bs) broken w = whole-before r bs broken w

front-whole : (r : Rules) (xs ys : List ℕ) → is_broken (At r (xs ++ ys)) ≡ false → is_broken (At r xs) ≡ false
front-whole r xs ys w = whole-before r ys (At r xs) (ap is_broken (sym (frames-more r first_frame xs ys)) ∙ w)

next-whole : (r : Rules) (xs : List ℕ) (y : ℕ) (ys : List ℕ) → is_broken (At r (xs ++ (y ∷ ys))) ≡ false → is_broken (frame_next r (At r xs) y) ≡ false
next-whole r xs y ys w =
    ap is_broken (sym (after-last r xs y)) ∙ front-whole r (xs ++ y ∷ []) ys (ap (λ (l : List ℕ). is_broken (At r l)) (append_assoc xs (y ∷ []) ys) ∙ w)

item-whole : (f : Frame) → in_item f ≡ true → is_broken f ≡ false
item-whole (open_at st n) h = refl
item-whole ended h = refl
item-whole broken h = false-true h

outside-whole : (f : Frame) → stands_outside f ≡ true → is_broken f ≡ false
outside-whole (open_at st n) h = refl
outside-whole ended h = refl
outside-whole broken h = false-true h

outside-level : (f : Frame) → stands_outside f ≡ true → stands_level f ≡ true
outside-level (open_at st start) h = refl
outside-level (open_at st declared) h = refl
outside-level (open_at st n) h = false-true h
outside-level ended h = false-true h
outside-level broken h = false-true h

outside-closed : (f : Frame) → stands_outside f ≡ true → in_item f ≡ true → ⊥
outside-closed (open_at st start) h k = false-true k
outside-closed (open_at st declared) h k = false-true k
outside-closed (open_at st n) h k = false-true h
outside-closed ended h k = false-true h
outside-closed broken h k = false-true h

-- Before the first tag.

snoc : (x : ℕ) (xs : List ℕ) → (us : List ℕ) × (b : ℕ) × (x ∷ xs ≡ us ++ b ∷ [])
snoc x [] = ([], x, refl)
snoc x (y ∷ xs) = let (us, b, e) = snoc y xs in (x ∷ us, b, ap (λ (l : List ℕ). x ∷ l) e)

less-last : (r : Rules) (bytes : List ℕ) → AfterLess (At r bytes) → (xs : List ℕ) × (bytes ≡ xs ++ 60 ∷ [])
less-last r [] h = false-true h
less-last r (x ∷ xs) h =
    let (us, b, e) = snoc x xs in
    (us, e ∙ ap (λ (y : ℕ). us ++ y ∷ []) (less-before r (At r us) b (sound-at r us) (subst AfterLess (ap (At r) e ∙ after-last r us b) h)))

all-first : (vs us : List ℕ) (r : Rules) → stands_outside (At r us) ≡ true → is_broken (At r (us ++ vs)) ≡ false → IsBeforeTags (us ++ vs)
    → stands_outside (At r (us ++ vs)) ≡ true
all-first [] us r h w none = ap (λ (l : List ℕ). stands_outside (At r l)) (append-nil us) ∙ h
all-first (v ∷ vs) us r h w none =
    by (outside-next r (At r us) v (sound-at r us) h (next-whole r us v vs w)) (append_assoc us (v ∷ []) vs) (λ o e n. all-first vs (us ++ v ∷ []) r o e n)
  where
    by : (stands_outside (frame_next r (At r us) v) ≡ true) ⊎ (AfterLess (At r us) × (begins_tag v ≡ true)) → (us ++ v ∷ []) ++ vs ≡ us ++ (v ∷ vs)
        → (stands_outside (At r (us ++ v ∷ [])) ≡ true → is_broken (At r ((us ++ v ∷ []) ++ vs)) ≡ false → IsBeforeTags ((us ++ v ∷ []) ++ vs)
        → stands_outside (At r ((us ++ v ∷ []) ++ vs)) ≡ true)
        → stands_outside (At r (us ++ (v ∷ vs))) ≡ true
    by (inl o) group go =
        ap (λ (l : List ℕ). stands_outside (At r l)) (sym group)
        ∙ go (ap stands_outside (after-last r us v) ∙ o) (ap (λ (l : List ℕ). is_broken (At r l)) group ∙ w) (subst IsBeforeTags (sym group) none)
    by (inr (less, name)) group go = let (ws, e) =
        less-last r us less in absurd (none ws v vs (ap (λ (l : List ℕ). l ++ (v ∷ vs)) e ∙ append_assoc ws (60 ∷ []) (v ∷ vs)) name)

before-tags : (r : Rules) (bytes : List ℕ) → stands_outside (At r bytes) ≡ true → IsBeforeTags bytes
before-tags r bytes h xs b ys split name =
    let f : Frame = At r xs in
    let f1 : Frame = frame_next r f 60 in
    let f2 : Frame = frame_next r f1 b in
    let out2 : stands_outside f2 ≡ true = outside-all r ys f2 (ap stands_outside (sym (ap (At r) split ∙ frames-more r first_frame xs (60 ∷ b ∷ ys))) ∙ h) in
    let out1 : stands_outside f1 ≡ true = outside-before r f1 b out2 in
    let (less, still) = less-first r f (sound-at r xs) (outside-before r f 60 out1) (outside-whole f1 out1) in
    let sound : Sound r f1 = subst (Sound r) (after-last r xs 60) (sound-at r (xs ++ 60 ∷ [])) in
    outside-closed f2 out2 (opened-next r f1 b sound (outside-level f1 out1) less name (outside-whole f2 out2))

-- What has ended is not open.

ended-closed : (r : Rules) (bytes : List ℕ) → EndsItem r bytes → IsOpenAt r bytes → ⊥
ended-closed r bytes (inl (root, come)) h = let (d, after) = come-after r bytes root nothing come in not-both _ h (ap in_item after.frame)
ended-closed r bytes (inr (root, f, come, is)) h = let (d, after) = come-after r bytes root f come in not-both _ h (ap in_item after.frame)

-- From the frames to the grammar.

false-from : (t : Bool) → (t ≡ true → ⊥) → t ≡ false
false-from true h = absurd (h refl)
false-from false h = refl

level-where : (r : Rules) (xs : List ℕ) (f : Frame) → At r (xs ++ 60 ∷ []) ≡ f → stands_level f ≡ true → AfterLess f → IsBeforeTags xs ⊎ IsBetweenTops xs
level-where r xs f e l a = by f (sym (after-last r xs 60) ∙ e) l a
  where
    outside : (f : Frame) → frame_next r (At r xs) 60 ≡ f → stands_outside f ≡ true → IsBeforeTags xs
    outside f e o = before-tags r xs (outside-before r (At r xs) 60 (ap stands_outside e ∙ o))

    between : (st : State) (i : IsBetween r xs) → IsBetweenTops xs
    between st i = between-read r xs i.gap i.returned i.name i.frame

    by : (f : Frame) → frame_next r (At r xs) 60 ≡ f → stands_level f ≡ true → AfterLess f → IsBeforeTags xs ⊎ IsBetweenTops xs
    by (open_at st (inside (m ∷ []))) e l a = inr (between st (less-between r xs st m e a))
    by (open_at st start) e l a = inl (outside (open_at st start) e refl)
    by (open_at st declared) e l a = inl (outside (open_at st declared) e refl)
    by (open_at st (inside (m ∷ x ∷ s))) e l a = false-true l
    by (open_at st (inside [])) e l a = false-true l
    by (open_at st n) e l a = false-true l
    by ended e l a = false-true l
    by broken e l a = false-true l

opened-at : (r : Rules) (bytes xs : List ℕ) (b : ℕ) (ys : List ℕ) → IsOpenAt r bytes → bytes ≡ xs ++ (60 ∷ b ∷ ys) → IsOpenSince r xs (b ∷ ys)
    → HasOpenItem r bytes
opened-at r bytes xs b ys h split (low, each) =
    let none : in_item (At r (xs ++ 60 ∷ [])) ≡ false = false-from (in_item (At r (xs ++ 60 ∷ []))) low in
    let next : in_item (frame_next r (At r (xs ++ 60 ∷ [])) b) ≡ true =
    ap in_item (sym (after-last r (xs ++ 60 ∷ []) b))
    ∙ (ap (λ (l : List ℕ). in_item (At r l)) (append_assoc xs (60 ∷ []) (b ∷ [])) ∙ each (b ∷ []) ys refl (no-nil b [])) in
    let (less, name, level) = opened-so r (At r (xs ++ 60 ∷ [])) b (sound-at r (xs ++ 60 ∷ [])) none next in (
      open-begins r bytes (item-whole (At r bytes) h),
      (
        xs,
        b,
        ys,
        split,
        name,
        level-where r xs (At r (xs ++ 60 ∷ [])) refl level less,
        λ us vs q e. ended-closed r ((xs ++ 60 ∷ b ∷ []) ++ us) e
            (subst (IsOpenAt r) (sym (append_assoc xs (60 ∷ b ∷ []) us)) (each (b ∷ us) vs (ap (λ (l : List ℕ). b ∷ l) q) (no-nil b us))),
      ),
    )

pub open_by_grammar : (r : Rules) (bytes : List ℕ) → is_open r bytes ≡ true → HasOpenItem r bytes
open_by_grammar r bytes h = let (xs, ys, split, since) = open_since r bytes h in by xs ys split since
  where
    by : (xs ys : List ℕ) → bytes ≡ xs ++ (60 ∷ ys) → IsOpenSince r xs ys → HasOpenItem r bytes
    by xs [] split since = absurd (since.0 (subst (IsOpenAt r) split h))
    by xs (b ∷ ys) split since = opened-at r bytes xs b ys h split since

-- From the grammar to the frames.

stays-open : (vs us : List ℕ) (r : Rules) → IsOpenAt r us → is_broken (At r (us ++ vs)) ≡ false → NoneEnds r us vs → IsOpenAt r (us ++ vs)
stays-open [] us r h w none = subst (IsOpenAt r) (sym (append-nil us)) h
stays-open (v ∷ vs) us r h w none = by (is_open r (us ++ v ∷ [])) refl (append_assoc us (v ∷ []) vs) (λ o e n. stays-open vs (us ++ v ∷ []) r o e n)
  where
    by : (t : Bool) → is_open r (us ++ v ∷ []) ≡ t → (us ++ v ∷ []) ++ vs ≡ us ++ (v ∷ vs)
        → (IsOpenAt r (us ++ v ∷ []) → is_broken (At r ((us ++ v ∷ []) ++ vs)) ≡ false → NoneEnds r (us ++ v ∷ []) vs → IsOpenAt r ((us ++ v ∷ []) ++ vs))
        → IsOpenAt r (us ++ (v ∷ vs))
    by true e group go =
        subst (IsOpenAt r) group
        (go e (ap (λ (l : List ℕ). is_broken (At r l)) group
        ∙ w) (λ xs ys q k. none (v ∷ xs) ys (ap (λ (l : List ℕ). v ∷ l) q) (subst (EndsItem r) (append_assoc us (v ∷ []) xs) k)))
    by false e group go =
        let begins : Begins r (us ++ v ∷ []) =
        open-begins r (us ++ v ∷ []) (front-whole r (us ++ v ∷ []) vs (ap (λ (l : List ℕ). is_broken (At r l)) group ∙ w)) in
        absurd (none (v ∷ []) vs refl (item_ends r us v h (λ k. not-both _ k e) begins))

level-less : (r : Rules) (xs : List ℕ) → is_broken (At r xs) ≡ false → is_broken (frame_next r (At r xs) 60) ≡ false → IsBeforeTags xs ⊎ IsBetweenTops xs
    → (stands_level (frame_next r (At r xs) 60) ≡ true) × AfterLess (frame_next r (At r xs) 60)
level-less r xs w v (inl before) =
    let (less, out) = less-first r (At r xs) (sound-at r xs) (all-first xs [] r refl w before) v in (outside-level (frame_next r (At r xs) 60) out, less)
level-less r xs w v (inr between) =
    let i : IsBetween r xs = between-frame r xs v between in
    let e = between-less r xs i v in
    (ap stands_level e, subst AfterLess (sym e) refl)

pub open_by_frames : (r : Rules) (bytes : List ℕ) → HasOpenItem r bytes → is_open r bytes ≡ true
open_by_frames r bytes (begins, (xs, b, ys, split, name, place, none)) =
    let whole : is_broken (At r (xs ++ (60 ∷ b ∷ ys))) ≡ false = ap (λ (l : List ℕ). is_broken (At r l)) (sym split) ∙ goes-whole r bytes begins in
    let two : (xs ++ 60 ∷ b ∷ []) ++ ys ≡ xs ++ (60 ∷ b ∷ ys) = append_assoc xs (60 ∷ b ∷ []) ys in
    let f1 : Frame = frame_next r (At r xs) 60 in
    let next : At r (xs ++ 60 ∷ b ∷ []) ≡ frame_next r f1 b = frames-more r first_frame xs (60 ∷ b ∷ []) in
    let front : is_broken (At r (xs ++ 60 ∷ b ∷ [])) ≡ false = front-whole r (xs ++ 60 ∷ b ∷ []) ys (ap (λ (l : List ℕ). is_broken (At r l)) two ∙ whole) in
    let (level, less) = level-less r xs (front-whole r xs (60 ∷ b ∷ ys) whole) (next-whole r xs 60 (b ∷ ys) whole) place in
    let sound : Sound r f1 = subst (Sound r) (after-last r xs 60) (sound-at r (xs ++ 60 ∷ [])) in
    let opened : IsOpenAt r (xs ++ 60 ∷ b ∷ []) = ap in_item next ∙ opened-next r f1 b sound level less name (ap is_broken (sym next) ∙ front) in
    subst (IsOpenAt r) (two ∙ sym split)
    (stays-open ys (xs ++ 60 ∷ b ∷ []) r opened (ap (λ (l : List ℕ). is_broken (At r l)) two ∙ whole) none)

-- What rests on it.

pub since_by_grammar : (r : Rules) (xs ys : List ℕ) → IsOpenSince r xs ys → IsSince r xs ys
since_by_grammar r xs ys (low, each) = (λ h. low (open_by_frames r (xs ++ 60 ∷ []) h), λ us vs q some. open_by_grammar r (xs ++ (60 ∷ us)) (each us vs q some))

since-frames : (r : Rules) (xs ys : List ℕ) → IsSince r xs ys → IsOpenSince r xs ys
since-frames r xs ys (low, each) = (λ h. low (open_by_grammar r (xs ++ 60 ∷ []) h), λ us vs q some. open_by_frames r (xs ++ (60 ∷ us)) (each us vs q some))

past-grammar : (l : Limits) (bytes : List ℕ) (byte : ℕ) → IsPastAt l bytes byte → IsPastLimit l bytes byte
past-grammar l bytes byte (o, (xs, ys, split, since, long)) = (
  elim o [ inl h ↦ inl (open_by_grammar (rules_of l) bytes h) | inr h ↦ inr (open_by_grammar (rules_of l) (bytes ++ byte ∷ []) h) ],
  (xs, ys, split, since_by_grammar (rules_of l) xs ys since, long),
)

pub past-frames : (l : Limits) (bytes : List ℕ) (byte : ℕ) → IsPastLimit l bytes byte → IsPastAt l bytes byte
past-frames l bytes byte (o, (xs, ys, split, since, long)) = (
  elim o [ inl h ↦ inl (open_by_frames (rules_of l) bytes h) | inr h ↦ inr (open_by_frames (rules_of l) (bytes ++ byte ∷ []) h) ],
  (xs, ys, split, since-frames (rules_of l) xs ys since, long),
)

pub past-limit : (l : Limits) (bytes : List ℕ) (byte n : ℕ) (f : Frame) → f ≡ frame_after (rules_of l) first_frame bytes
    → n ≡ extent (rules_of l) first_frame 0 bytes → is_past l f (frame_next (rules_of l) f byte) n ≡ true → IsPastLimit l bytes byte
past-limit l bytes byte n f e g h = past-grammar l bytes byte (past-is l bytes byte n f e g h)

pub limit-past : (l : Limits) (bytes : List ℕ) (byte n : ℕ) (f : Frame) → f ≡ frame_after (rules_of l) first_frame bytes
    → n ≡ extent (rules_of l) first_frame 0 bytes → IsPastLimit l bytes byte → is_past l f (frame_next (rules_of l) f byte) n ≡ true
limit-past l bytes byte n f e g past = is-past l bytes byte n f e g (past-frames l bytes byte past)

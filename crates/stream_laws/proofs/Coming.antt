-- A byte after which only the stream is open, and that ends a tag, ends the header or a top element.
use Rattle.std.proofs.Common.{◌≡◌, ℕ, ◌⊎◌, inl, inr, List, [], ◌∷◌, ◌++◌, refl, sym, ap, ◌∙◌, subst, append-nil, Bool, true, false, cond, ◌&&◌, arith}
use Rattle.std.proofs.lemmas.Bool.{cond_both}
use Rattle.stream_lex.specs.declared.Token.{Token}
use Rattle.stream_lex.specs.declared.Token.TheVariants as token
use Rattle.stream_lex.specs.declared.stages.Stage.TheVariants as stage
use Rattle.stream_lex.specs.declared.stages.State.{State}
use Rattle.stream_lex.specs.declared.characters.Pending.TheVariants as pending
use Rattle.stream_lex.specs.grammar.Expressions.{all_said}
use Rattle.stream_lex.specs.machine.Turns.{Outcome, leads, fails, at, turn}
use Rattle.stream_lex.specs.machine.Live.{is_live}
use Rattle.stream_lex.specs.grammar.Reading.{Reads}
use Rattle.stream_lex.specs.machine.Leading.{Left}
use Rattle.stream_lex.proofs.Lists.{false-true, cons_not_nil}
use Rattle.stream_lex.proofs.Living.{LeadsLive}
use Rattle.stream_grammar.specs.declared.rules.Rules.{Rules}
use Rattle.stream_grammar.specs.grammar.Trees.{RawName, RawTag, Content, nothing, Stream, end_tokens, stream_tokens, KeepsRoot}
use Rattle.stream_grammar.specs.grammar.Streams.{IsShortest, IsStream}
use Rattle.stream_grammar.specs.machine.Nesting.{Nest, start, inside, lost, nest_all, Leaves}
use Rattle.stream_grammar.specs.machine.Framing.{goes_with, Frame, open_at, ended, broken, placed, settled, frame_next, frame_after, first_frame}
use Rattle.stream_grammar.specs.grammar.Items.{head_tokens, EndsHeader, EndsTop}
use Rattle.stream_grammar.specs.machine.Ends.{is_between_tops, tokens_told, told_at, is_start_end, is_element_end, is_header_end, is_top_end}
use Rattle.stream_grammar.proofs.Nested.{no_token, all-from, all-more}
use Rattle.stream_grammar.proofs.Twins.{words, EndsSo, ends-so}
use Rattle.stream_grammar.proofs.Following.{left-from, any-live, Tight, tight-from, IsSound, Sound, words-left, after-sound}
use Rattle.stream_grammar.proofs.Finishing.{Carried, carry-step}
use Rattle.stream_grammar.proofs.Whole.{first-sound, first-left, left-first}
use Rattle.stream_laws.proofs.Ending.{head-ends, head-empty, head-of}

-- Where an open frame comes from.

broken-never : (r : Rules) (bs : List ℕ) (to : State) (m : Nest) → frame_after r broken bs ≡ open_at to m → ⊥
broken-never r [] to m e = cc
broken-never r (b ∷ bs) to m e = broken-never r bs to m e

ended-never : (r : Rules) (bs : List ℕ) (to : State) (m : Nest) → frame_after r ended bs ≡ open_at to m → ⊥
ended-never r [] to m e = cc
ended-never r (b ∷ bs) to m e =
    after (frame_next r ended b) (cond_both _ ended broken (λ (f : Frame). (f ≡ ended) ⊎ (f ≡ broken)) (λ h. inl refl) (λ h. inr refl)) (ended-never r bs to m)
    e
  where
    after : (f : Frame) → (f ≡ ended) ⊎ (f ≡ broken) → (frame_after r ended bs ≡ open_at to m → ⊥) → frame_after r f bs ≡ open_at to m → ⊥
    after f (inl h) go k = go (subst (λ (g : Frame). frame_after r g bs ≡ open_at to m) h k)
    after f (inr h) go k = broken-never r bs to m (subst (λ (g : Frame). frame_after r g bs ≡ open_at to m) h k)

cond-open : (r : Rules) (t : Bool) (s : State) (k : Nest) (bs : List ℕ) (to : State) (m : Nest) → frame_after r (cond t (open_at s k) broken) bs ≡ open_at to m
    → frame_after r (open_at s k) bs ≡ open_at to m
cond-open r true s k bs to m h = h
cond-open r false s k bs to m h = absurd (broken-never r bs to m h)

placed-open : (r : Rules) (s : State) (k : Nest) (bs : List ℕ) (to : State) (m : Nest) → frame_after r (placed r s k) bs ≡ open_at to m
    → frame_after r (open_at s k) bs ≡ open_at to m
placed-open r s lost bs to m h = absurd (broken-never r bs to m h)
placed-open r s (inside []) bs to m h = absurd (ended-never r bs to m h)
placed-open r s (inside (x ∷ st)) bs to m h = cond-open r (goes_with r s (inside (x ∷ st))) s (inside (x ∷ st)) bs to m h
placed-open r s start bs to m h = cond-open r (goes_with r s start) s start bs to m h
placed-open r s k bs to m h = cond-open r (goes_with r s k) s k bs to m h

cond-is : (r : Rules) (t : Bool) (s : State) (k : Nest) (bs : List ℕ) (to : State) (m : Nest) → frame_after r (cond t (open_at s k) broken) bs ≡ open_at to m
    → cond t (open_at s k) broken ≡ open_at s k
cond-is r true s k bs to m h = refl
cond-is r false s k bs to m h = absurd (broken-never r bs to m h)

pub placed-is : (r : Rules) (s : State) (k : Nest) (bs : List ℕ) (to : State) (m : Nest) → frame_after r (placed r s k) bs ≡ open_at to m
    → placed r s k ≡ open_at s k
placed-is r s lost bs to m h = absurd (broken-never r bs to m h)
placed-is r s (inside []) bs to m h = absurd (ended-never r bs to m h)
placed-is r s (inside (x ∷ st)) bs to m h = cond-is r (goes_with r s (inside (x ∷ st))) s (inside (x ∷ st)) bs to m h
placed-is r s start bs to m h = cond-is r (goes_with r s start) s start bs to m h
placed-is r s k bs to m h = cond-is r (goes_with r s k) s k bs to m h

state-same : (s t : State) (n m : Nest) → open_at s n ≡ open_at t m → s ≡ t
state-same s t n m e = cc

nest-same : (s t : State) (n m : Nest) → open_at s n ≡ open_at t m → n ≡ m
nest-same s t n m e = cc

-- What bytes tell.
abbrev pub told_all : Rules → Frame → List ℕ → List Token
told_all r f [] = []
told_all r f (b ∷ bs) = told_at f b ++ told_all r (frame_next r f b) bs

-- what bytes tell that lead from one frame to another
abbrev pub Came : Rules → State → Nest → State → Nest → List ℕ → Type 0
Came r st n to m bs = (nest_all r n (told_all r (open_at st n) bs) ≡ m) × Carried st to bs (told_all r (open_at st n) bs)

pub came : (bs : List ℕ) (r : Rules) (st to : State) (n m : Nest) → is_live st ≡ true → frame_after r (open_at st n) bs ≡ open_at to m → Came r st n to m bs
came [] r st to n m live e = (nest-same st to n m e, subst (λ (s : State). Carried st s [] []) (state-same st to n m e) (λ text vs some l t. (l, t)))
came (b ∷ bs) r st to n m live e = by (λ s k l f. came bs r s to k m l f) (turn st b) refl e
  where
    next : ((s : State) (k : Nest) → is_live s ≡ true → frame_after r (open_at s k) bs ≡ open_at to m → Came r s k to m bs) → (s : State) (us : List Token)
        → turn st b ≡ leads s us → frame_after r (placed r s (nest_all r n us)) bs ≡ open_at to m
        → Came r st n to m (b ∷ bs)
    next go s us f h =
        let k : Nest = nest_all r n us in
        let o : placed r s k ≡ open_at s k = placed-is r s k bs to m h in
        let (g, c) = go s k (subst LeadsLive f (any-live st b live)) (ap (λ (x : Frame). frame_after r x bs) (sym o) ∙ h) in
        let told : us ++ told_all r (open_at s k) bs ≡ told_all r (open_at st n) (b ∷ bs) = ap (λ (x : Frame). us ++ told_all r x bs) (sym o)
        ∙ ap (λ (x : Outcome). tokens_told x ++ told_all r (settled r n x) bs) (sym f) in (
          ap (nest_all r n) (sym told) ∙ (all-more r n us (told_all r (open_at s k) bs) ∙ g),
          subst (Carried st to (b ∷ bs)) told (carry-step st s to b bs us (told_all r (open_at s k) bs) live f c),
        )

    by : ((s : State) (k : Nest) → is_live s ≡ true → frame_after r (open_at s k) bs ≡ open_at to m → Came r s k to m bs) → (o : Outcome) → turn st b ≡ o
        → frame_after r (settled r n o) bs ≡ open_at to m → Came r st n to m (b ∷ bs)
    by go (leads s us) f h = next go s us f h
    by go (fails x) f h = absurd (broken-never r bs to m h)

-- The bytes up to a token after which only the stream is open.

abbrev pub Come : Rules → List ℕ → ℕ → Token → Type 0
Come r bytes b t = (d : Bool) × (root : RawTag) × (f : Content) × (head_tokens d root f ≡ told_all r first_frame bytes ++ t ∷ [])
    × Reads (bytes ++ b ∷ []) (head_tokens d root f) × IsShortest (bytes ++ b ∷ []) (head_tokens d root f)
    × KeepsRoot r root f

nil-back : (xs ys : List ℕ) → xs ++ ys ≡ [] → ys ≡ []
nil-back [] ys e = e
nil-back (x ∷ xs) ys e = absurd (cons_not_nil x (xs ++ ys) e)

pub leaves-end : (r : Rules) (m : RawName) → Leaves r (inside (m ∷ [])) (end_tokens m)
leaves-end r m = (nothing, [], tt, omega arith, sym (append-nil (end_tokens m)), refl)

-- a byte that tells a token, and leads to where a text may end
pub last-reads : (r : Rules) (bytes : List ℕ) (b : ℕ) (st to : State) (n : Nest) (t : Token) → frame_after r first_frame bytes ≡ open_at st n
    → turn st b ≡ leads to (t ∷ []) → to ≡ words
    → Reads (bytes ++ b ∷ []) (told_all r first_frame bytes ++ t ∷ []) × IsShortest (bytes ++ b ∷ []) (told_all r first_frame bytes ++ t ∷ [])
last-reads r bytes b st to n t e f w =
    let first : State = at stage.Start pending.Nothing false in
    let us : List Token = told_all r first_frame bytes in
    let (h, c) = came bytes r first st start n (first-sound r).live e in
    let sound : IsSound r st n = subst (Sound r) e (after-sound r first_frame bytes (first-sound r)) in
    let last : Left st (b ∷ []) (all_said (t ∷ [])) = left-from st to b (t ∷ []) [] [] sound.live f (subst (λ (s : State). Left s [] []) (sym w) words-left) in
    let short : Tight st (b ∷ []) (t ∷ []) = tight-from st to b (t ∷ []) [] [] sound.live f (no_token t []) (λ xs ys p l. nil-back xs ys (sym p)) in
    let (l, k) = c (b ∷ []) (t ∷ []) (no_token t []) last short in
    (left-first (bytes ++ b ∷ []) (us ++ t ∷ []) l, λ xs ys p q. k xs ys p (first-left xs (us ++ t ∷ []) q))

-- what the tokens lead to
told-nest : (r : Rules) (bytes : List ℕ) (st : State) (n m : Nest) (t : Token) → frame_after r first_frame bytes ≡ open_at st n → nest_all r n (t ∷ []) ≡ m
    → nest_all r start (told_all r first_frame bytes ++ t ∷ []) ≡ m
told-nest r bytes st n m t e g =
    let (h, c) = came bytes r (at stage.Start pending.Nothing false) st start n (first-sound r).live e in
    all-more r start (told_all r first_frame bytes) (t ∷ []) ∙ (ap (λ (x : Nest). nest_all r x (t ∷ [])) h ∙ g)

come : (r : Rules) (bytes : List ℕ) (b : ℕ) (st to : State) (n : Nest) (m : RawName) (t : Token) → frame_after r first_frame bytes ≡ open_at st n
    → turn st b ≡ leads to (t ∷ []) → to ≡ words → nest_all r n (t ∷ []) ≡ inside (m ∷ [])
    → Come r bytes b t
come r bytes b st to n m t e f w g =
    let us : List Token = told_all r first_frame bytes in
    let (told, short) = last-reads r bytes b st to n t e f w in
    let (s, keeps, is) = all-from r start (us ++ t ∷ []) (end_tokens m) tt
    (subst (λ (x : Nest). Leaves r x (end_tokens m)) (sym (told-nest r bytes st n (inside (m ∷ [])) t e g)) (leaves-end r m)) in
    let same : us ++ t ∷ [] ≡ head_tokens s.declared s.root s.content = head-of s (us ++ t ∷ []) m is in
    (s.declared, s.root, s.content, sym same, subst (Reads (bytes ++ b ∷ [])) same told, subst (IsShortest (bytes ++ b ∷ [])) same short, keeps)

-- The bytes up to the end tag of the stream.
abbrev pub EndCome : Rules → List ℕ → ℕ → Type 0
EndCome r bytes b = (s : Stream) × (stream_tokens s ≡ told_all r first_frame bytes ++ token.CloseEnds ∷ []) × IsStream r (bytes ++ b ∷ []) s

pub end-come : (r : Rules) (bytes : List ℕ) (b : ℕ) (st to : State) (n : Nest) → frame_after r first_frame bytes ≡ open_at st n
    → turn st b ≡ leads to (token.CloseEnds ∷ []) → to ≡ words → nest_all r n (token.CloseEnds ∷ []) ≡ inside []
    → EndCome r bytes b
end-come r bytes b st to n e f w g =
    let us : List Token = told_all r first_frame bytes in
    let t : Token = token.CloseEnds in
    let (told, short) = last-reads r bytes b st to n t e f w in
    let (s, keeps, is) = all-from r start (us ++ t ∷ []) [] tt (subst (λ (x : Nest). Leaves r x []) (sym (told-nest r bytes st n (inside []) t e g)) refl) in
    let same : us ++ t ∷ [] ≡ stream_tokens s = sym (append-nil (us ++ t ∷ [])) ∙ is in
    (s, sym same, (subst (Reads (bytes ++ b ∷ [])) same told, subst (IsShortest (bytes ++ b ∷ [])) same short, keeps))

-- By the byte.

cond-level : (t : Bool) (st : State) (n : Nest) → is_between_tops (cond t (open_at st n) broken) ≡ true → is_between_tops (open_at st n) ≡ true
cond-level true st n e = e
cond-level false st n e = false-true e

placed-level : (r : Rules) (st : State) (n : Nest) → is_between_tops (placed r st n) ≡ true → is_between_tops (open_at st n) ≡ true
placed-level r st lost e = e
placed-level r st (inside []) e = e
placed-level r st (inside (m ∷ s)) e = cond-level (goes_with r st (inside (m ∷ s))) st (inside (m ∷ s)) e
placed-level r st start e = cond-level (goes_with r st start) st start e
placed-level r st n e = cond-level (goes_with r st n) st n e

level-nest : (st : State) (n : Nest) → is_between_tops (open_at st n) ≡ true → (m : RawName) × (n ≡ inside (m ∷ []))
level-nest st (inside (m ∷ [])) e = (m, refl)
level-nest st (inside (m ∷ x ∷ s)) e = false-true e
level-nest st (inside []) e = false-true e
level-nest st n e = false-true e

both-parts : (s t : Bool) → (s && t) ≡ true → (s ≡ true) × (t ≡ true)
both-parts true t e = (refl, e)
both-parts false t e = false-true e

is-start : (us : List Token) → is_start_end us ≡ true → us ≡ token.TagEnds false ∷ []
is-start (token.TagEnds false ∷ []) e = refl
is-start (token.TagEnds true ∷ []) e = false-true e
is-start [] e = false-true e
is-start (u ∷ []) e = false-true e
is-start (token.TagEnds false ∷ v ∷ us) e = false-true e
is-start (token.TagEnds true ∷ v ∷ us) e = false-true e
is-start (u ∷ v ∷ us) e = false-true e

is-element : (us : List Token) → is_element_end us ≡ true → (us ≡ token.CloseEnds ∷ []) ⊎ (us ≡ token.TagEnds true ∷ [])
is-element (token.CloseEnds ∷ []) e = inl refl
is-element (token.TagEnds true ∷ []) e = inr refl
is-element (token.TagEnds false ∷ []) e = false-true e
is-element [] e = false-true e
is-element (u ∷ []) e = false-true e
is-element (token.CloseEnds ∷ v ∷ us) e = false-true e
is-element (token.TagEnds false ∷ v ∷ us) e = false-true e
is-element (token.TagEnds true ∷ v ∷ us) e = false-true e
is-element (u ∷ v ∷ us) e = false-true e

pub tag-words : (st to : State) (b : ℕ) (x : Bool) → turn st b ≡ leads to (token.TagEnds x ∷ []) → to ≡ words
tag-words st to b x e = let f : EndsSo (leads to (token.TagEnds x ∷ [])) = subst EndsSo e (ends-so st b) in f

pub close-words : (st to : State) (b : ℕ) → turn st b ≡ leads to (token.CloseEnds ∷ []) → to ≡ words
close-words st to b e = let f : EndsSo (leads to (token.CloseEnds ∷ [])) = subst EndsSo e (ends-so st b) in f

header-come : (r : Rules) (bytes : List ℕ) (b : ℕ) → Come r bytes b (token.TagEnds false) → EndsHeader r (bytes ++ b ∷ [])
header-come r bytes b (d, root, f, e, reads, short, keeps) =
    let none : f ≡ nothing = head-empty d root f (told_all r first_frame bytes) e in (
      root,
      (
        d,
        subst (λ (g : Content). Reads (bytes ++ b ∷ []) (head_tokens d root g)) none reads,
        subst
            (λ (g : Content). IsShortest (bytes ++ b ∷ []) (head_tokens d root g)) none short,
        subst (KeepsRoot r root) none keeps,
      ),
    )

close-come : (r : Rules) (bytes : List ℕ) (b : ℕ) → Come r bytes b token.CloseEnds → EndsTop r (bytes ++ b ∷ [])
close-come r bytes b (d, root, f, e, reads, short, keeps) =
    (root, f, (d, reads, short, keeps), head-ends d root f (told_all r first_frame bytes) token.CloseEnds e refl)

hollow-come : (r : Rules) (bytes : List ℕ) (b : ℕ) → Come r bytes b (token.TagEnds true) → EndsTop r (bytes ++ b ∷ [])
hollow-come r bytes b (d, root, f, e, reads, short, keeps) =
    (root, f, (d, reads, short, keeps), head-ends d root f (told_all r first_frame bytes) (token.TagEnds true) e refl)

pub told-come : (r : Rules) (bytes : List ℕ) (b : ℕ) (st to : State) (n : Nest) (us : List Token) (t : Token) → frame_after r first_frame bytes ≡ open_at st n
    → turn st b ≡ leads to us → us ≡ t ∷ [] → (turn st b ≡ leads to (t ∷ []) → to ≡ words)
    → is_between_tops (placed r to (nest_all r n us)) ≡ true → Come r bytes b t
told-come r bytes b st to n us t e f g w h =
    let k : turn st b ≡ leads to (t ∷ []) = f ∙ ap (leads to) g in
    let (m, is) = level-nest to (nest_all r n us) (placed-level r to (nest_all r n us) h) in
    come r bytes b st to n m t e k (w k) (ap (nest_all r n) (sym g) ∙ is)

header-led : (r : Rules) (bytes : List ℕ) (b : ℕ) (st : State) (n : Nest) (o : Outcome) → frame_after r first_frame bytes ≡ open_at st n → turn st b ≡ o
    → (is_between_tops (settled r n o) && is_start_end (tokens_told o)) ≡ true → EndsHeader r (bytes ++ b ∷ [])
header-led r bytes b st n (leads to us) e f h =
    let (level, told) = both-parts (is_between_tops (placed r to (nest_all r n us))) (is_start_end us) h in
    header-come r bytes b (told-come r bytes b st to n us (token.TagEnds false) e f (is-start us told) (tag-words st to b false) level)
header-led r bytes b st n (fails x) e f h = false-true h

top-led : (r : Rules) (bytes : List ℕ) (b : ℕ) (st : State) (n : Nest) (o : Outcome) → frame_after r first_frame bytes ≡ open_at st n → turn st b ≡ o
    → (is_between_tops (settled r n o) && is_element_end (tokens_told o)) ≡ true → EndsTop r (bytes ++ b ∷ [])
top-led r bytes b st n (leads to us) e f h =
    let (level, told) = both-parts (is_between_tops (placed r to (nest_all r n us))) (is_element_end us) h in
    either level (is-element us told)
  where
    either : is_between_tops (placed r to (nest_all r n us)) ≡ true → (us ≡ token.CloseEnds ∷ []) ⊎ (us ≡ token.TagEnds true ∷ []) → EndsTop r (bytes ++ b ∷ [])
    either level (inl g) = close-come r bytes b (told-come r bytes b st to n us token.CloseEnds e f g (close-words st to b) level)
    either level (inr g) = hollow-come r bytes b (told-come r bytes b st to n us (token.TagEnds true) e f g (tag-words st to b true) level)
top-led r bytes b st n (fails x) e f h = false-true h

no-start : (t : Bool) → (t && false) ≡ true → ⊥
no-start true e = let bad : false ≡ true = e in cc
no-start false e = let bad : false ≡ true = e in cc

pub header-ends : (r : Rules) (bytes : List ℕ) (b : ℕ) → is_header_end r (frame_after r first_frame bytes) b ≡ true → EndsHeader r (bytes ++ b ∷ [])
header-ends r bytes b h = by (frame_after r first_frame bytes) refl h
  where
    by : (f : Frame) → frame_after r first_frame bytes ≡ f → is_header_end r f b ≡ true → EndsHeader r (bytes ++ b ∷ [])
    by (open_at st n) e k = header-led r bytes b st n (turn st b) e refl k
    by ended e k = absurd (no-start (is_between_tops (frame_next r ended b)) k)
    by broken e k = absurd (no-start (is_between_tops (frame_next r broken b)) k)

pub top-ends : (r : Rules) (bytes : List ℕ) (b : ℕ) → is_top_end r (frame_after r first_frame bytes) b ≡ true → EndsTop r (bytes ++ b ∷ [])
top-ends r bytes b h = by (frame_after r first_frame bytes) refl h
  where
    by : (f : Frame) → frame_after r first_frame bytes ≡ f → is_top_end r f b ≡ true → EndsTop r (bytes ++ b ∷ [])
    by (open_at st n) e k = top-led r bytes b st n (turn st b) e refl k
    by ended e k = absurd (no-start (is_between_tops (frame_next r ended b)) k)
    by broken e k = absurd (no-start (is_between_tops (frame_next r broken b)) k)

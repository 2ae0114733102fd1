-- Where a text ends with the last byte that tells something, and that ends a tag: the byte tells this token alone, and those before it the others.
use Rattle.std.proofs.Common.{◌≡◌, ℕ, ◌⊎◌, inl, inr, List, [], ◌∷◌, ◌++◌, refl, sym, ap, ◌∙◌, subst, append_assoc, append-nil, Bool, true, false, cond}
use Rattle.stream_lex.specs.declared.Token.{Token}
use Rattle.stream_lex.specs.declared.Token.TheVariants as token
use Rattle.stream_lex.specs.declared.stages.State.{State}
use Rattle.stream_lex.specs.grammar.Expressions.{all_said}
use Rattle.stream_lex.specs.machine.Turns.{Outcome, leads, fails, turn}
use Rattle.stream_lex.specs.machine.Live.{is_live}
use Rattle.stream_lex.specs.machine.Leading.{Left}
use Rattle.stream_lex.specs.grammar.Reading.{Reads}
use Rattle.stream_lex.proofs.Lists.{cons_not_nil, said-same}
use Rattle.stream_lex.proofs.Living.{LeadsLive}
use Rattle.stream_lex.proofs.Ended.{left-done}
use Rattle.stream_grammar.specs.grammar.Trees.{is_space}
use Rattle.stream_grammar.specs.declared.rules.Rules.{Rules}
use Rattle.stream_grammar.specs.grammar.Streams.{AreSpaces, IsShortest}
use Rattle.stream_grammar.specs.machine.Nesting.{Nest, start, inside, lost, nest_all}
use Rattle.stream_grammar.specs.machine.Framing.{goes_with, Frame, open_at, ended, broken, placed, settled, frame_next, frame_after, first_frame, is_broken}
use Rattle.stream_grammar.specs.machine.Telling.{are_words, is_few}
use Rattle.stream_grammar.specs.machine.Ends.{tokens_told}
use Rattle.stream_grammar.proofs.Nested.{token_head, token_tail, no_token}
use Rattle.stream_grammar.proofs.Twins.{words}
use Rattle.stream_grammar.proofs.Few.{turn-few}
use Rattle.stream_grammar.proofs.Fitting.{Fits, Strays, fits-next}
use Rattle.stream_grammar.proofs.Following.{left-to, left-from, left-fails, any-live, IsSound, Sound, next-sound, words-left}
use Rattle.stream_grammar.proofs.Whole.{first-sound, first-left, left-first}
use Rattle.stream_grammar.proofs.AfterEnd.{after_end, spaced, end-live}
use Rattle.stream_laws.proofs.Coming.{told_all, tag-words, close-words}
use Rattle.stream_laws.proofs.RoundTripStreams.{first_state}

-- the end of a tag
abbrev pub ends_tag : Token → Bool
ends_tag token.CloseEnds = true
ends_tag (token.TagEnds e) = true
ends_tag t = false

not-both : (t : Bool) → t ≡ true → t ≡ false → ⊥
not-both t e f = let bad : true ≡ false = sym e ∙ f in cc

-- Lists of tokens.

nil-both : (xs ys : List Token) → xs ++ ys ≡ [] → (xs ≡ []) × (ys ≡ [])
nil-both [] ys e = (refl, e)
nil-both (x ∷ xs) ys e = absurd (no_token x (xs ++ ys) e)

-- where the last of them falls
split-last : (us ws front : List Token) (t : Token) → front ++ t ∷ [] ≡ us ++ ws
    → ((ws ≡ []) × (us ≡ front ++ t ∷ [])) ⊎ ((rest : List Token) × (front ≡ us ++ rest) × (ws ≡ rest ++ t ∷ []))
split-last [] ws front t e = inr (front, refl, sym e)
split-last (u ∷ us) ws [] t e =
    let (none, last) = nil-both us ws (sym (token_tail t u [] (us ++ ws) e)) in
    inl (last, ap (λ (l : List Token). u ∷ l) none ∙ ap (λ (x : Token). x ∷ []) (sym (token_head t u [] (us ++ ws) e)))
split-last (u ∷ us) ws (x ∷ front) t e =
    let same : u ≡ x = sym (token_head x u (front ++ t ∷ []) (us ++ ws) e) in
    by same (split-last us ws front t (token_tail x u (front ++ t ∷ []) (us ++ ws) e))
  where
    by : u ≡ x → ((ws ≡ []) × (us ≡ front ++ t ∷ [])) ⊎ ((rest : List Token) × (front ≡ us ++ rest) × (ws ≡ rest ++ t ∷ []))
        → ((ws ≡ []) × (u ∷ us ≡ x ∷ (front ++ t ∷ []))) ⊎ ((rest : List Token) × (x ∷ front ≡ u ∷ (us ++ rest)) × (ws ≡ rest ++ t ∷ []))
    by same (inl (none, is)) = inl (none, ap (λ (l : List Token). u ∷ l) is ∙ ap (λ (y : Token). y ∷ (front ++ t ∷ [])) same)
    by same (inr (rest, is, last)) = inr (rest, ap (λ (l : List Token). x ∷ l) is ∙ ap (λ (y : Token). y ∷ (us ++ rest)) (sym same), last)

no-word : (front : List Token) (t : Token) → ends_tag t ≡ true → are_words (front ++ t ∷ []) ≡ true → ⊥
no-word [] (token.Word c) h k = let bad : false ≡ true = h in cc
no-word [] t h k = let bad : false ≡ true = k in cc
no-word (token.Word c ∷ front) t h k = no-word front t h k
no-word (x ∷ front) t h k = let bad : false ≡ true = k in cc

more-words : (us vs : List Token) → are_words us ≡ true → are_words vs ≡ true → are_words (us ++ vs) ≡ true
more-words [] vs h k = k
more-words (token.Word c ∷ us) vs h k = more-words us vs h k
more-words (u ∷ us) vs h k = absurd (let bad : false ≡ true = h in cc)

few-more : (x : Token) (front : List Token) (t : Token) → is_few (x ∷ (front ++ t ∷ [])) ≡ true → are_words (x ∷ (front ++ t ∷ [])) ≡ true
few-more x [] t h = h
few-more x (y ∷ front) t h = h

one-told : (us front : List Token) (t : Token) → is_few us ≡ true → ends_tag t ≡ true → us ≡ front ++ t ∷ [] → front ≡ []
one-told us [] t f h e = refl
one-told us (x ∷ front) t f h e = absurd (no-word (x ∷ front) t h (few-more x front t (ap is_few (sym e) ∙ f)))

-- White space after the end.

spaces-words : (bs : List ℕ) (ret : Bool) (ws : List Token) → AreSpaces bs → Left (after_end ret) bs (all_said ws) → are_words ws ≡ true
spaces-words [] ret ws h l = ap are_words (said-same ws [] (left-done (after_end ret) (all_said ws) (end-live ret) l))
spaces-words (b ∷ bs) ret ws (h, more) l =
    let (ret1, us, e, k) = spaced ret b h in
    let (vs, is, m) = left-to (after_end ret) (after_end ret1) b us bs ws (end-live ret) e l in
    ap are_words is ∙ more-words us vs k (spaces-words bs ret1 vs more m)

broken-stays : (r : Rules) (bs : List ℕ) → frame_after r broken bs ≡ broken
broken-stays r [] = refl
broken-stays r (b ∷ bs) = broken-stays r bs

ended-spaces : (r : Rules) (bs : List ℕ) → is_broken (frame_after r ended bs) ≡ false → AreSpaces bs
ended-spaces r [] h = tt
ended-spaces r (b ∷ bs) h = by (is_space b) refl h (λ k. ended-spaces r bs k)
  where
    by : (t : Bool) → is_space b ≡ t → is_broken (frame_after r (cond t ended broken) bs) ≡ false → (is_broken (frame_after r ended bs) ≡ false → AreSpaces bs)
        → (is_space b ≡ true) × AreSpaces bs
    by true e k go = (e, go k)
    by false e k go = absurd (not-both true refl (ap is_broken (sym (broken-stays r bs)) ∙ k))

-- Frames.

abbrev pub Placed : Rules → State → Nest → Type 0
Placed r s k = (placed r s k ≡ open_at s k) ⊎ (((placed r s k ≡ ended) × (k ≡ inside [])) ⊎ (placed r s k ≡ broken))

cond-cases : (t : Bool) (s : State) (k : Nest) → (cond t (open_at s k) broken ≡ open_at s k) ⊎ (cond t (open_at s k) broken ≡ broken)
cond-cases true s k = inl refl
cond-cases false s k = inr refl

open-or : {P Q R : Type 0} → P ⊎ R → P ⊎ (Q ⊎ R)
open-or (inl p) = inl p
open-or (inr r) = inr (inr r)

pub placed-cases : (r : Rules) (s : State) (k : Nest) → Placed r s k
placed-cases r s lost = inr (inr refl)
placed-cases r s (inside []) = inr (inl (refl, refl))
placed-cases r s (inside (x ∷ st)) = open-or (cond-cases (goes_with r s (inside (x ∷ st))) s (inside (x ∷ st)))
placed-cases r s start = open-or (cond-cases (goes_with r s start) s start)
placed-cases r s k = open-or (cond-cases (goes_with r s k) s k)

end-words : (st to : State) (b : ℕ) (t : Token) → ends_tag t ≡ true → turn st b ≡ leads to (t ∷ []) → to ≡ words
end-words st to b token.CloseEnds h e = close-words st to b e
end-words st to b (token.TagEnds x) h e = tag-words st to b x e
end-words st to b t h e = absurd (let bad : false ≡ true = h in cc)

-- after the end of the stream
ended-words : (r : Rules) (st to : State) (n : Nest) (b : ℕ) (us : List Token) → IsSound r st n → turn st b ≡ leads to us → nest_all r n us ≡ inside []
    → to ≡ words
ended-words r st to n b us s e k = by (nest_all r n us) k (fits-next r st to b n us e s.calm_is s.opens s.fits)
  where
    at_end : (Fits to (inside [])) ⊎ (Strays to (inside [])) → to ≡ words
    at_end (inl f) = f
    at_end (inr f) = absurd f

    by : (m : Nest) → m ≡ inside [] → (Fits to m) ⊎ (Strays to m) → to ≡ words
    by m g f = at_end (subst (λ (x : Nest). (Fits to x) ⊎ (Strays to x)) g f)

-- The last byte.

-- fewer bytes are the same tokens
abbrev pub Earlier : State → List ℕ → List Token → Type 0
Earlier st bs ts = (xs : List ℕ) × (ys : List ℕ) × (bs ≡ xs ++ ys) × Left st xs (all_said ts)

-- the byte tells the token, and those before it tell these
abbrev pub LastTold : Rules → State → Nest → List ℕ → ℕ → List Token → Token → Type 0
LastTold r st n bs b front t =
    (to : State) × (m : Nest) × (s : State) × (frame_after r (open_at st n) bs ≡ open_at to m) × (turn to b ≡ leads s (t ∷ []))
    × (told_all r (open_at st n) bs ≡ front)

abbrev Ends : Rules → State → Nest → List ℕ → ℕ → List Token → Token → Type 0
Ends r st n bs b front t = Earlier st bs (front ++ t ∷ []) ⊎ LastTold r st n bs b front t

here : (r : Rules) (st to : State) (n : Nest) (c : ℕ) (bs : List ℕ) (us front : List Token) (t : Token) → is_live st ≡ true → ends_tag t ≡ true
    → turn st c ≡ leads to us → us ≡ front ++ t ∷ [] → Earlier st (c ∷ bs) (front ++ t ∷ [])
here r st to n c bs us front t live h e is =
    let none : front ≡ [] = one-told us front t (turn-few st to c us e) h is in
    let one : us ≡ t ∷ [] = is ∙ ap (λ (l : List Token). l ++ t ∷ []) none in
    let at_end : to ≡ words = end-words st to c t h (e ∙ ap (leads to) one) in (
      c ∷ [],
      bs,
      refl,
      subst (λ (l : List Token). Left st (c ∷ []) (all_said l)) (append-nil us
          ∙ is) (left-from st to c us [] [] live e (subst (λ (s : State). Left s [] []) (sym at_end) words-left)),
    )

later : (r : Rules) (st s : State) (n : Nest) (c b : ℕ) (bs : List ℕ) (us front rest : List Token) (t : Token) → is_live st ≡ true → turn st c ≡ leads s us
    → placed r s (nest_all r n us) ≡ open_at s (nest_all r n us) → front ≡ us ++ rest
    → Ends r s (nest_all r n us) bs b rest t → Ends r st n (c ∷ bs) b front t
later r st s n c b bs us front rest t live e o f (inl (xs, ys, p, l)) =
    inl (
      c ∷ xs,
      ys,
      ap (λ (x : List ℕ). c ∷ x) p,
      subst (λ (x : List Token). Left st (c ∷ xs) (all_said x)) (sym (append_assoc us rest (t ∷ []))
          ∙ ap (λ (x : List Token). x ++ t ∷ []) (sym f)) (left-from st s c us xs (rest ++ t ∷ []) live e l),
    )
later r st s n c b bs us front rest t live e o f (inr (to, m, s1, g, k, told)) =
    let next : frame_next r (open_at st n) c ≡ open_at s (nest_all r n us) = ap (settled r n) e ∙ o in
    inr (
      to,
      m,
      s1,
      ap (λ (x : Frame). frame_after r x bs) next ∙ g,
      k,
      ap (λ (x : Outcome). tokens_told x ++ told_all r (frame_next r (open_at st n) c) bs) e
          ∙ (ap (λ (x : Frame). us ++ told_all r x bs) next ∙ (ap (λ (x : List Token). us ++ x) told ∙ sym f)),
    )

pub last-told : (bs : List ℕ) (r : Rules) (st : State) (n : Nest) (b : ℕ) (front : List Token) (t : Token) → IsSound r st n → ends_tag t ≡ true
    → Left st (bs ++ b ∷ []) (all_said (front ++ t ∷ []))
    → is_broken (frame_after r (open_at st n) (bs ++ b ∷ [])) ≡ false → Ends r st n bs b front t
last-told [] r st n b front t s h l w = by (turn st b) refl
  where
    by : (o : Outcome) → turn st b ≡ o → Ends r st n [] b front t
    by (fails f) e = absurd (left-fails st b f [] (front ++ t ∷ []) s.live e l)
    by (leads to us) e =
        let (ws, f, m) = left-to st to b us [] (front ++ t ∷ []) s.live e l in
        let none : ws ≡ [] = said-same ws [] (left-done to (all_said ws) (subst LeadsLive e (any-live st b s.live)) m) in
        let is : us ≡ front ++ t ∷ [] = sym (append-nil us) ∙ (ap (λ (x : List Token). us ++ x) (sym none) ∙ sym f) in
        let empty : front ≡ [] = one-told us front t (turn-few st to b us e) h is in
        inr (st, n, to, refl, e ∙ ap (leads to) (is ∙ ap (λ (x : List Token). x ++ t ∷ []) empty), sym empty)
last-told (c ∷ bs) r st n b front t s h l w = by (turn st c) refl (λ s1 k rest. last-told bs r s1 k b rest t)
  where
    next : (s1 : State) (us ws : List Token) → turn st c ≡ leads s1 us → Left s1 (bs ++ b ∷ []) (all_said ws)
        → ((k : Nest) (rest : List Token) → IsSound r s1 k → ends_tag t ≡ true → Left s1 (bs ++ b ∷ []) (all_said (rest ++ t ∷ []))
        → is_broken (frame_after r (open_at s1 k) (bs ++ b ∷ [])) ≡ false → Ends r s1 k bs b rest t)
        → ((ws ≡ []) × (us ≡ front ++ t ∷ [])) ⊎ ((rest : List Token) × (front ≡ us ++ rest) × (ws ≡ rest ++ t ∷ [])) → Ends r st n (c ∷ bs) b front t
    next s1 us ws e m go (inl (none, is)) = inl (here r st s1 n c bs us front t s.live h e is)
    next s1 us ws e m go (inr (rest, is, last)) = placed_by (placed-cases r s1 (nest_all r n us))
      where
        open_then : is_broken (frame_after r (placed r s1 (nest_all r n us)) (bs ++ b ∷ [])) ≡ false
        open_then = ap (λ (o : Outcome). is_broken (frame_after r (settled r n o) (bs ++ b ∷ []))) (sym e) ∙ w

        placed_by : Placed r s1 (nest_all r n us) → Ends r st n (c ∷ bs) b front t
        placed_by (inl o) =
            let sound : IsSound r s1 (nest_all r n us) = subst (Sound r) (ap (settled r n) e ∙ o) (next-sound r (open_at st n) c s) in
            later r st s1 n c b bs us front rest t s.live e o is
            (go (nest_all r n us) rest sound h (subst (λ (x : List Token). Left s1 (bs ++ b ∷ []) (all_said x)) last m)
            (ap (λ (x : Frame). is_broken (frame_after r x (bs ++ b ∷ []))) (sym o) ∙ open_then))
        placed_by (inr (inl (o, k))) =
            let at_end : s1 ≡ words = ended-words r st s1 n c us s e k in
            let spaces : AreSpaces (bs ++ b ∷ []) = ended-spaces r (bs ++ b ∷ []) (ap (λ (x : Frame). is_broken (frame_after r x (bs ++ b ∷ []))) (sym o)
            ∙ open_then) in
            absurd (no-word rest t h (ap are_words (sym last)
            ∙ spaces-words (bs ++ b ∷ []) false ws spaces (subst (λ (x : State). Left x (bs ++ b ∷ []) (all_said ws)) at_end m)))
        placed_by (inr (inr o)) =
            absurd (not-both true refl (ap is_broken (sym (broken-stays r (bs ++ b ∷ [])))
            ∙ (ap (λ (x : Frame). is_broken (frame_after r x (bs ++ b ∷ []))) (sym o) ∙ open_then)))

    by : (o : Outcome) → turn st c ≡ o
        → ((s1 : State) (k : Nest) (rest : List Token) → IsSound r s1 k → ends_tag t ≡ true → Left s1 (bs ++ b ∷ []) (all_said (rest ++ t ∷ []))
        → is_broken (frame_after r (open_at s1 k) (bs ++ b ∷ [])) ≡ false → Ends r s1 k bs b rest t)
        → Ends r st n (c ∷ bs) b front t
    by (fails f) e go = absurd (left-fails st c f (bs ++ b ∷ []) (front ++ t ∷ []) s.live e l)
    by (leads s1 us) e go =
        let (ws, f, m) = left-to st s1 c us (bs ++ b ∷ []) (front ++ t ∷ []) s.live e l in
        next s1 us ws e m (go s1) (split-last us ws front t f)

not-last : (ys : List ℕ) (b : ℕ) → ys ++ b ∷ [] ≡ [] → ⊥
not-last [] b e = cons_not_nil b [] e
not-last (y ∷ ys) b e = cons_not_nil y (ys ++ b ∷ []) e

pub ends-at : (r : Rules) (bytes : List ℕ) (b : ℕ) (front : List Token) (t : Token) → ends_tag t ≡ true → Reads (bytes ++ b ∷ []) (front ++ t ∷ [])
    → IsShortest (bytes ++ b ∷ []) (front ++ t ∷ [])
    → is_broken (frame_after r first_frame (bytes ++ b ∷ [])) ≡ false → LastTold r first_state start bytes b front t
ends-at r bytes b front t h reads short w =
    by (last-told bytes r first_state start b front t (first-sound r) h (first-left (bytes ++ b ∷ []) (front ++ t ∷ []) reads) w)
  where
    by : Ends r first_state start bytes b front t → LastTold r first_state start bytes b front t
    by (inl (xs, ys, p, l)) =
        absurd (not-last ys b (short xs (ys ++ b ∷ []) (ap (λ (x : List ℕ). x ++ b ∷ []) p ∙ append_assoc xs ys (b ∷ [])) (left-first xs (front ++ t ∷ []) l)))
    by (inr k) = k

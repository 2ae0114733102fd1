-- A header or a top element is open up to the byte that ends it.
use Rattle.std.proofs.Common.{◌≡◌, ℕ, suc, ◌⊎◌, inl, inr, List, [], ◌∷◌, ◌++◌, length, refl, sym, ap, ◌∙◌}
use Rattle.std.proofs.Common.{subst, Bool, true, false, cond, ◌&&◌, ◌==◌, nat_lt, ◌+◌, arith}
use Rattle.stream_lex.specs.declared.Token.{Token}
use Rattle.stream_lex.specs.declared.Token.TheVariants as token
use Rattle.stream_lex.specs.declared.stages.State.{State}
use Rattle.stream_lex.specs.machine.Turns.{Outcome, leads, fails, turn}
use Rattle.stream_lex.specs.grammar.Reading.{Reads}
use Rattle.stream_lex.proofs.Lists.{false-true}
use Rattle.stream_grammar.specs.machine.Gathering.{nothing_gathered}
use Rattle.stream_grammar.specs.declared.rules.Rules.{Rules}
use Rattle.stream_grammar.specs.grammar.Trees.{RawName, RawTag, Content, nothing}
use Rattle.stream_grammar.specs.grammar.Streams.{IsShortest, Begins}
use Rattle.stream_grammar.specs.machine.Nesting.{Nest, start, declared, inside, naming, in_tag, naming_attribute, in_value, closing, lost}
use Rattle.stream_grammar.specs.machine.Nesting.{may_stand, in_content, after_hollow, after_name, nest, nest_all}
use Rattle.stream_grammar.specs.machine.Framing.{Frame, open_at, ended, broken, placed, settled, frame_next, frame_after, first_frame, is_broken}
use Rattle.stream_grammar.specs.machine.Telling.{are_words, is_few}
use Rattle.stream_grammar.specs.grammar.Items.{head_tokens, HasCome, EndsHeader, EndsTop}
use Rattle.stream_grammar.specs.machine.Ends.{is_between_tops, tokens_told, is_start_end, is_element_end, is_header_end, is_top_end, in_item_nest, in_item}
use Rattle.stream_grammar.specs.grammar.RoundTrips.{end_tag_of}
use Rattle.stanza_tree.specs.declared.node.Element.{Element}
use Rattle.std.specs.Prelude.{Option, Some}
use Rattle.stream_grammar.specs.declared.item.Item.{Item}
use Rattle.stream_grammar.specs.declared.item.Item.TheVariants as item
use Rattle.stream_grammar.specs.grammar.Elements.{header_of, default_of, tops_of}
use Rattle.stream_grammar.specs.machine.Building.{Opened, Building, nothing_built, closed_in, build, build_all}
use Rattle.stream_grammar.proofs.Nested.{all-more}
use Rattle.stream_grammar.proofs.Few.{turn-few}
use Rattle.stream_grammar.proofs.Whole.{first-sound, broken-begins}
use Rattle.stream_laws.proofs.Ending.{ends_element, last_in, last-nothing, head-last, last-ends}
use Rattle.stream_laws.proofs.Coming.{came, header-ends, top-ends}
use Rattle.stream_laws.proofs.Made.{last_item, head-made}
use Rattle.stream_laws.proofs.Handing.{build-more}
use Rattle.stream_laws.proofs.Opens.{placed-item}
use Rattle.stream_laws.proofs.Levels.{Levels, level-from}
use Rattle.stream_laws.proofs.LastTold.{ends_tag, Placed, placed-cases, ends-at}
use Rattle.stream_laws.proofs.HandedOut.{head-snoc, element-tag}
use Rattle.stream_laws.proofs.RoundTripInsert.{come-ends}
use Rattle.stream_laws.proofs.Extents.{IsOpenAt, after-last}

not-both : (t : Bool) → t ≡ true → t ≡ false → ⊥
not-both t e f = false-true (sym f ∙ e)

-- The token that ends what is open.

-- only the stream is open, and a start tag or an element ended
abbrev IsDone : Nest → Token → Type 0
IsDone n t = (n ≡ lost) ⊎ ((m : RawName) × (n ≡ inside (m ∷ [])) × ((is_start_end (t ∷ []) ≡ true) ⊎ (is_element_end (t ∷ []) ≡ true)))

cond-done : (c : Bool) (n : Nest) (t : Token) → in_item_nest n ≡ true → in_item_nest (cond c n lost) ≡ false → IsDone (cond c n lost) t
cond-done true n t h k = absurd (not-both _ h k)
cond-done false n t h k = inl refl

content-done : (r : Rules) (m x : RawName) (st : List RawName) (t : Token) → in_item_nest (in_content r m (x ∷ st) t) ≡ false
    → IsDone (in_content r m (x ∷ st) t) t
content-done r m x st (token.Word c) k = cond-done (may_stand r (x ∷ st) c) (inside (m ∷ x ∷ st)) (token.Word c) refl k
content-done r m x st (token.TagOpens b) k = cond-done (nat_lt (length (x ∷ st)) r.depth) (naming (m ∷ x ∷ st) (b, [])) (token.TagOpens b) refl k
content-done r m x st (token.CloseOpens b) k = cond-done (b == m.0) (closing (x ∷ st) m.1) (token.CloseOpens b) refl k
content-done r m x st t k = inl refl

name-done : (r : Rules) (st : List RawName) (n : RawName) (i : ℕ) (t : Token) → in_item_nest (after_name r st n i t) ≡ false → IsDone (after_name r st n i t) t
name-done r st n i (token.AttrOpens b) k = cond-done (nat_lt i r.attributes) (naming_attribute st n (i + 1)) (token.AttrOpens b) refl k
name-done r [] n i (token.TagEnds true) k = inl refl
name-done r (m ∷ []) n i (token.TagEnds true) k = inr (m, refl, inr refl)
name-done r (m ∷ x ∷ st) n i (token.TagEnds true) k = absurd (not-both true refl k)
name-done r [] n i (token.TagEnds false) k = inr (n, refl, inl refl)
name-done r (m ∷ st) n i (token.TagEnds false) k = absurd (not-both true refl k)
name-done r st n i t k = inl refl

close-done : (st : List RawName) (x : RawName) → in_item_nest (inside (x ∷ st)) ≡ false → IsDone (inside (x ∷ st)) token.CloseEnds
close-done [] x k = inr (x, refl, inr refl)
close-done (y ∷ st) x k = absurd (not-both true refl k)

one-done : (r : Rules) (n : Nest) (t : Token) → in_item_nest n ≡ true → in_item_nest (nest r n t) ≡ false → IsDone (nest r n t) t
unfolding nest
one-done r start t h k = false-true h
one-done r declared t h k = false-true h
one-done r (inside []) t h k = false-true h
one-done r (inside (m ∷ [])) t h k = false-true h
one-done r (inside (m ∷ x ∷ st)) t h k = content-done r m x st t k
one-done r (naming st n) (token.NameByte x) h k = absurd (not-both true refl k)
one-done r (naming st n) t h k = name-done r st n 0 t k
one-done r (in_tag st n i) t h k = name-done r st n i t k
one-done r (naming_attribute st n i) (token.AttrByte x) h k = absurd (not-both true refl k)
one-done r (naming_attribute st n i) token.ValueOpens h k = absurd (not-both true refl k)
one-done r (naming_attribute st n i) t h k = inl refl
one-done r (in_value st n i) (token.Value c) h k = absurd (not-both true refl k)
one-done r (in_value st n i) token.ValueEnds h k = absurd (not-both true refl k)
one-done r (in_value st n i) t h k = inl refl
one-done r (closing [] m) t h k = false-true h
one-done r (closing (x ∷ st) []) token.CloseEnds h k = close-done st x k
one-done r (closing (x ∷ st) []) t h k = inl refl
one-done r (closing (x ∷ st) (y ∷ m)) (token.NameByte z) h k = cond-done (z == y) (closing (x ∷ st) m) (token.NameByte z) refl k
one-done r (closing (x ∷ st) (y ∷ m)) t h k = inl refl
one-done r lost t h k = false-true h

-- words leave it open, or none goes on
lost-all : (r : Rules) (us : List Token) → nest_all r lost us ≡ lost
unfolding nest
lost-all r [] = refl
lost-all r (u ∷ us) = lost-all r us

words-lost : (r : Rules) (us : List Token) (n : Nest) → are_words us ≡ true → in_item_nest n ≡ true → in_item_nest (nest_all r n us) ≡ false
    → nest_all r n us ≡ lost
words-lost r [] n w h k = absurd (not-both _ h k)
words-lost r (token.Word c ∷ us) n w h k = by (in_item_nest (nest r n (token.Word c))) refl (λ e. words-lost r us (nest r n (token.Word c)) w e k)
  where
    by : (t : Bool) → in_item_nest (nest r n (token.Word c)) ≡ t
        → (in_item_nest (nest r n (token.Word c)) ≡ true → nest_all r (nest r n (token.Word c)) us ≡ lost) → nest_all r (nest r n (token.Word c)) us ≡ lost
    by true e go = go e
    by false e go = elim (one-done r n (token.Word c) h e) [
      | inl is ↦ ap (λ (x : Nest). nest_all r x us) is ∙ lost-all r us
      | inr p ↦ elim p.2 [ inl q ↦ false-true q | inr q ↦ false-true q ]
    ]
words-lost r (u ∷ us) n w h k = false-true w

-- By the byte.

both-true : (s t : Bool) → s ≡ true → t ≡ true → (s && t) ≡ true
both-true true t e f = f
both-true false t e f = false-true e

-- the frame is between top elements
between-so : (r : Rules) (to : State) (n : Nest) (m : RawName) → n ≡ inside (m ∷ []) → is_broken (placed r to n) ≡ false
    → is_between_tops (placed r to n) ≡ true
between-so r to n m e w = by (placed-cases r to n)
  where
    by : Placed r to n → is_between_tops (placed r to n) ≡ true
    by (inl o) = ap is_between_tops o ∙ ap (λ (x : Nest). is_between_tops (open_at to x)) e
    by (inr (inl (o, is))) = absurd (let bad : inside (m ∷ []) ≡ inside [] = sym e ∙ is in cc)
    by (inr (inr o)) = absurd (not-both _ (ap is_broken o) w)

placed-closed : (r : Rules) (to : State) (n : Nest) → in_item (placed r to n) ≡ false → is_broken (placed r to n) ≡ false
    → (in_item_nest n ≡ false) ⊎ (n ≡ inside [])
placed-closed r to n h w = by (placed-cases r to n)
  where
    by : Placed r to n → (in_item_nest n ≡ false) ⊎ (n ≡ inside [])
    by (inl o) = inl (ap in_item (sym o) ∙ h)
    by (inr (inl (o, is))) = inr is
    by (inr (inr o)) = absurd (not-both _ (ap is_broken o) w)

closed-nest : (n : Nest) → (in_item_nest n ≡ false) ⊎ (n ≡ inside []) → in_item_nest n ≡ false
closed-nest n (inl e) = e
closed-nest n (inr e) = ap in_item_nest e

never-lost : (r : Rules) (to : State) (n : Nest) → n ≡ lost → is_broken (placed r to n) ≡ false → ⊥
never-lost r to n e w = not-both true refl (ap (λ (x : Nest). is_broken (placed r to x)) (sym e) ∙ w)

abbrev EndsSome : Rules → Frame → ℕ → Type 0
EndsSome r f b = (is_header_end r f b ≡ true) ⊎ (is_top_end r f b ≡ true)

frame-done : (r : Rules) (f : Frame) (b : ℕ) → in_item f ≡ true → in_item (frame_next r f b) ≡ false → is_broken (frame_next r f b) ≡ false → EndsSome r f b
frame-done r ended b h k w = false-true h
frame-done r broken b h k w = false-true h
frame-done r (open_at st n) b h k w = by (turn st b) refl k w
  where
    one : (to : State) (t : Token) → in_item (placed r to (nest r n t)) ≡ false → is_broken (placed r to (nest r n t)) ≡ false
        → ((is_between_tops (placed r to (nest r n t)) && is_start_end (t ∷ [])) ≡ true)
        ⊎ ((is_between_tops (placed r to (nest r n t)) && is_element_end (t ∷ [])) ≡ true)
    one to t k w = elim (one-done r n t h (closed-nest (nest r n t) (placed-closed r to (nest r n t) k w))) [
      | inl is ↦ absurd (never-lost r to (nest r n t) is w)
      | inr p ↦ elim p.2 [
        | inl q ↦ inl (both-true _ _ (between-so r to (nest r n t) p.0 p.1 w) q)
        | inr q ↦ inr (both-true _ _ (between-so r to (nest r n t) p.0 p.1 w) q)
      ]
    ]

    all : (to : State) (us : List Token) → is_few us ≡ true → in_item (placed r to (nest_all r n us)) ≡ false
        → is_broken (placed r to (nest_all r n us)) ≡ false
        → ((is_between_tops (placed r to (nest_all r n us)) && is_start_end us) ≡ true)
        ⊎ ((is_between_tops (placed r to (nest_all r n us)) && is_element_end us) ≡ true)
    all to [] few k w = absurd (not-both _ h (closed-nest n (placed-closed r to n k w)))
    all to (t ∷ []) few k w = one to t k w
    all to (t ∷ u ∷ us) few k w =
        absurd (never-lost r to (nest_all r n (t ∷ u ∷ us))
        (words-lost r (t ∷ u ∷ us) n few h (closed-nest (nest_all r n (t ∷ u ∷ us)) (placed-closed r to (nest_all r n (t ∷ u ∷ us)) k w))) w)

    by : (o : Outcome) → turn st b ≡ o → in_item (settled r n o) ≡ false → is_broken (settled r n o) ≡ false
        → ((is_between_tops (settled r n o) && is_start_end (tokens_told o)) ≡ true)
        ⊎ ((is_between_tops (settled r n o) && is_element_end (tokens_told o)) ≡ true)
    by (leads to us) e k w = all to us (turn-few st to b us e) k w
    by (fails x) e k w = absurd (not-both true refl w)

pub goes-whole : (r : Rules) (bytes : List ℕ) → Begins r bytes → is_broken (frame_after r first_frame bytes) ≡ false
goes-whole r bytes begins = by (is_broken (frame_after r first_frame bytes)) refl
  where
    by : (t : Bool) → is_broken (frame_after r first_frame bytes) ≡ t → t ≡ false
    by true e = absurd (broken-begins r bytes e begins)
    by false e = refl

not-true : (t : Bool) → (t ≡ true → ⊥) → t ≡ false
not-true true h = absurd (h refl)
not-true false h = refl

pub item_ends : (r : Rules) (bytes : List ℕ) (b : ℕ) → IsOpenAt r bytes → (IsOpenAt r (bytes ++ b ∷ []) → ⊥) → Begins r (bytes ++ b ∷ [])
    → EndsHeader r (bytes ++ b ∷ []) ⊎ EndsTop r (bytes ++ b ∷ [])
item_ends r bytes b h never begins =
    let f : Frame = frame_after r first_frame bytes in
    let next : frame_after r first_frame (bytes ++ b ∷ []) ≡ frame_next r f b = after-last r bytes b in
    by (frame-done r f b h (not-true (in_item (frame_next r f b)) (λ k. never (ap in_item next ∙ k))) (ap is_broken (sym next)
    ∙ goes-whole r (bytes ++ b ∷ []) begins))
  where
    by : EndsSome r (frame_after r first_frame bytes) b → EndsHeader r (bytes ++ b ∷ []) ⊎ EndsTop r (bytes ++ b ∷ [])
    by (inl e) = inl (header-ends r bytes b e)
    by (inr e) = inr (top-ends r bytes b e)

-- An item that ends was open before, and is not open after.

inside-open : (st : List RawName) (b : Building) → in_item_nest (inside st) ≡ true → Levels (inside st) b → b.opened ≡ [] → ⊥
inside-open [] b h l e = false-true h
inside-open (m ∷ []) b h l e = false-true h
inside-open (m ∷ x ∷ st) b h (p, q) e = let f : length b.opened ≡ 0 = ap length e in let g : length b.opened ≡ suc (length st) = q in omega (arith, f, g)

hollow-open : (st : List RawName) (b : Building) → in_item_nest (after_hollow st) ≡ true → Levels (after_hollow st) b → b.opened ≡ [] → ⊥
hollow-open [] b h l e = false-true h
hollow-open (m ∷ st) b h l e = inside-open (m ∷ st) b h l e

after-open : (r : Rules) (n : Nest) (t : Token) (b : Building) → ends_tag t ≡ true → in_item_nest (nest r n t) ≡ true → Levels (nest r n t) b → b.opened ≡ []
    → ⊥
unfolding nest
after-open r (naming st n) (token.TagEnds true) b h k l e = hollow-open st b k l e
after-open r (naming st n) (token.TagEnds false) b h k l e = inside-open (n ∷ st) b k l e
after-open r (naming st n) token.CloseEnds b h k l e = false-true k
after-open r (naming st n) t b h k l e = false-true h
after-open r (in_tag st n i) (token.TagEnds true) b h k l e = hollow-open st b k l e
after-open r (in_tag st n i) (token.TagEnds false) b h k l e = inside-open (n ∷ st) b k l e
after-open r (in_tag st n i) token.CloseEnds b h k l e = false-true k
after-open r (in_tag st n i) t b h k l e = false-true h
after-open r (closing st []) token.CloseEnds b h k l e = inside-open st b k l e
after-open r (closing st []) (token.TagEnds x) b h k l e = false-true k
after-open r (closing st []) t b h k l e = false-true h
after-open r (closing st (y ∷ m)) token.CloseEnds b h k l e = false-true k
after-open r (closing st (y ∷ m)) (token.TagEnds x) b h k l e = false-true k
after-open r (closing st (y ∷ m)) t b h k l e = false-true h
after-open r start (token.TagEnds x) b h k l e = false-true k
after-open r start token.CloseEnds b h k l e = false-true k
after-open r start t b h k l e = false-true h
after-open r declared (token.TagEnds x) b h k l e = false-true k
after-open r declared token.CloseEnds b h k l e = false-true k
after-open r declared t b h k l e = false-true h
after-open r (inside []) t b h k l e = false-true k
after-open r (inside (m ∷ st)) (token.TagEnds x) b h k l e = false-true k
after-open r (inside (m ∷ st)) token.CloseEnds b h k l e = false-true k
after-open r (inside (m ∷ st)) t b h k l e = false-true h
after-open r (naming_attribute st n i) (token.TagEnds x) b h k l e = false-true k
after-open r (naming_attribute st n i) token.CloseEnds b h k l e = false-true k
after-open r (naming_attribute st n i) t b h k l e = false-true h
after-open r (in_value st n i) (token.TagEnds x) b h k l e = false-true k
after-open r (in_value st n i) token.CloseEnds b h k l e = false-true k
after-open r (in_value st n i) t b h k l e = false-true h
after-open r lost t b h k l e = false-true k

-- the end of the stream makes no top element
closes-stream : (os : List Opened) (b : Building) → length os ≡ 0 → (closed_in os b).item ≡ Some item.CloseTag
closes-stream [] b e = refl
closes-stream (o ∷ os) b e = absurd (omega (arith, e))

before-open : (r : Rules) (n : Nest) (t : Token) (b : Building) → ends_tag t ≡ true → (nest r n t ≡ lost → ⊥) → Levels n b
    → ((build b t).item ≡ Some item.CloseTag → ⊥) → in_item_nest n ≡ true
unfolding nest
before-open r (naming st n) t b h w l c = refl
before-open r (in_tag st n i) t b h w l c = refl
before-open r (naming_attribute st n i) t b h w l c = refl
before-open r (in_value st n i) t b h w l c = refl
before-open r (closing (x ∷ st) m) t b h w l c = refl
before-open r (closing [] []) token.CloseEnds b h w (p, q) c = absurd (c (closes-stream b.opened (record b { tag = nothing_gathered }) q))
before-open r (closing [] []) t b h w l c = absurd (w refl)
before-open r (closing [] (y ∷ m)) token.CloseEnds b h w l c = absurd (w refl)
before-open r (closing [] (y ∷ m)) (token.TagEnds x) b h w l c = absurd (w refl)
before-open r (closing [] (y ∷ m)) t b h w l c = false-true h
before-open r start token.CloseEnds b h w l c = absurd (w refl)
before-open r start (token.TagEnds x) b h w l c = absurd (w refl)
before-open r start t b h w l c = false-true h
before-open r declared token.CloseEnds b h w l c = absurd (w refl)
before-open r declared (token.TagEnds x) b h w l c = absurd (w refl)
before-open r declared t b h w l c = false-true h
before-open r (inside []) t b h w l c = absurd (w refl)
before-open r (inside (m ∷ st)) token.CloseEnds b h w l c = absurd (w refl)
before-open r (inside (m ∷ st)) (token.TagEnds x) b h w l c = absurd (w refl)
before-open r (inside (m ∷ st)) t b h w l c = false-true h
before-open r lost t b h w l c = absurd (w refl)

none-close : (es : List Element) (i : Option Item) → (i ≡ Some item.CloseTag → ⊥) → last_item es i ≡ Some item.CloseTag → ⊥
none-close [] i h e = h e
none-close (x ∷ es) i h e = none-close es (Some (item.Top x)) (λ k. let bad : Some (item.Top x) ≡ Some item.CloseTag = k in cc) e

header-not : (e : Element) (space : List ℕ) → Some (item.Header e space) ≡ Some item.CloseTag → ⊥
header-not e space k = cc

come-open : (r : Rules) (bytes : List ℕ) (b : ℕ) (d : Bool) (root : RawTag) (f : Content) (front : List Token) (t : Token)
    → head_tokens d root f ≡ front ++ t ∷ [] → ends_tag t ≡ true → Reads (bytes ++ b ∷ []) (head_tokens d root f)
    → IsShortest (bytes ++ b ∷ []) (head_tokens d root f)
    → is_broken (frame_after r first_frame (bytes ++ b ∷ [])) ≡ false → IsOpenAt r bytes × (IsOpenAt r (bytes ++ b ∷ []) → ⊥)
come-open r bytes b d root f front t split h told short whole =
    let (to, m, s, at_it, step, same) =
    ends-at r bytes b front t h (subst (Reads (bytes ++ b ∷ [])) split told) (subst (IsShortest (bytes ++ b ∷ [])) split short) whole in
    let (leads_to, carried) = came bytes r _ to start m (first-sound r).live at_it in
    let led : nest_all r start front ≡ m = ap (nest_all r start) (sym same) ∙ leads_to in
    let all : nest_all r start (head_tokens d root f) ≡ nest r m t = ap (nest_all r start) split
    ∙ (all-more r start front (t ∷ []) ∙ ap (λ (x : Nest). nest r x t) led) in
    let next : frame_after r first_frame (bytes ++ b ∷ []) ≡ placed r s (nest r m t) = after-last r bytes b
    ∙ (ap (λ (x : Frame). frame_next r x b) at_it ∙ ap (settled r m) step) in
    let (g, ws, is) = head-made d root f in
    let levels : Levels (nest r m t) (build_all nothing_built (head_tokens d root f)) =
    subst (λ (x : Nest). Levels x (build_all nothing_built (head_tokens d root f))) all (level-from r (head_tokens d root f)) in
    let before : Levels m (build_all nothing_built front) = subst (λ (x : Nest). Levels x (build_all nothing_built front)) led (level-from r front) in
    let made_so : build (build_all nothing_built front) t ≡ build_all nothing_built (head_tokens d root f) = sym (build-more nothing_built front (t ∷ []))
    ∙ ap (build_all nothing_built) (sym split) in (
      ap in_item at_it ∙ before-open r m t (build_all nothing_built front) h (λ e. never-lost r s (nest r m t) e (ap is_broken (sym next) ∙ whole)) before
          (λ k. none-close (tops_of root f) _ (header-not (header_of root) (default_of root)) (sym (ap (λ (y : Building). y.item) is)
          ∙ (ap (λ (y : Building). y.item) (sym made_so) ∙ k))),
      λ k. after-open r m t (build_all nothing_built (head_tokens d root f)) h (placed-item r s (nest r m t) (ap in_item (sym next) ∙ k)) levels
          (ap (λ (y : Building). y.opened) is),
    )

pub come-whole : (r : Rules) (bytes : List ℕ) (root : RawTag) (f : Content) → HasCome r bytes root f → is_broken (frame_after r first_frame bytes) ≡ false
come-whole r bytes root f come = let (d, spells) =
    come-ends r bytes root f come in goes-whole r bytes (end_tag_of root, record { declared = d; root = root; content = f }, spells)

pub item_was_open : (r : Rules) (bytes : List ℕ) (b : ℕ) → EndsHeader r (bytes ++ b ∷ []) ⊎ EndsTop r (bytes ++ b ∷ [])
    → IsOpenAt r bytes × (IsOpenAt r (bytes ++ b ∷ []) → ⊥)
item_was_open r bytes b (inl (root, (d, told, short, keeps))) =
    let (front, t, e) = head-snoc d root nothing in
    let is : token.TagEnds false ≡ t = sym (last-nothing (token.TagEnds false)) ∙ head-last d root nothing front t e in
    come-open r bytes b d root nothing front t e (ap ends_tag (sym is)) told short (come-whole r (bytes ++ b ∷ []) root nothing (d, told, short, keeps))
item_was_open r bytes b (inr (root, f, (d, told, short, keeps), h)) =
    let (front, t, e) = head-snoc d root f in
    let last : last_in f (token.TagEnds false) ≡ t = head-last d root f front t e in
    come-open r bytes b d root f front t e (element-tag t (ap ends_element (sym last) ∙ (last-ends f (token.TagEnds false) ∙ h))) told short
    (come-whole r (bytes ++ b ∷ []) root f (d, told, short, keeps))

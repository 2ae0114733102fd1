-- Runs of the names of end tags.
use Rattle.std.proofs.Common.{◌≡◌, inl, inr, ℕ, zero, suc, ◌+◌, ◌<◌, ◌≤◌, List, [], ◌∷◌, ◌++◌, length, append-nil, append_assoc, take}
use Rattle.std.proofs.Common.{drop, get_or, refl, sym, ap, ◌∙◌, subst, Bool, true, false, cond, ◌&&◌, arith}
use Rattle.std.specs.Prelude.{None, Some}
use Rattle.std.proofs.lemmas.Bool.{and_parts, and_from, eq-eqb, eqb-true, cases_lt}
use Rattle.std.proofs.lemmas.List.{take_more, drop_more, drop_all, take-take, length-take-le}
use Rattle.stream_lex.specs.declared.Token.TheVariants as token
use Rattle.stream_lex.specs.declared.stages.Half.{Half}
use Rattle.stream_lex.specs.declared.stages.NameOwner.TheVariants.{EndTag}
use Rattle.stream_lex.specs.declared.stages.Stage.{Stage}
use Rattle.stream_lex.specs.declared.stages.Stage.TheVariants as stage
use Rattle.stream_lex.specs.declared.stages.State.{State}
use Rattle.stream_lex.specs.declared.characters.Pending.TheVariants as pending
use Rattle.stream_lex.specs.machine.Turns.{at}
use Rattle.stream_grammar.specs.declared.item.Limits.{Limits}
use Rattle.stream_grammar.specs.declared.rules.Rules.{Rules}
use Rattle.stream_grammar.specs.grammar.Trees.{RawName}
use Rattle.stream_grammar.specs.machine.Nesting.{closing, lost, nest}
use Rattle.stream_grammar.specs.machine.Framing.{Frame, open_at, placed}
use Rattle.stream_grammar.specs.machine.Framing.{settled as framed}
use Rattle.stream_grammar.specs.machine.Ends.{tokens_told}
use Rattle.stream_grammar.specs.machine.Building.{Building}
use Rattle.stream_grammar.specs.grammar.Bounds.{rules_of}
use Rattle.stream_frames.specs.Runs.{is_name_byte, are_plain, is_end_stage, is_between_characters, is_in_end_name, closing_left, closing_on, Leads}
use Rattle.stream_frames.specs.Stacks.{left_of, next_is}
use Rattle.stream_frames.proofs.RunLemmas.{Quiet, no_bytes_led, more_led, between-state}
use Rattle.stream_frames.proofs.RunNames.{name_at, turn-name, named}

-- A byte that is the next of the name.

abbrev end_in : Half → RawName → List RawName → List ℕ → Frame
end_in h x ms left = open_at (name_at EndTag h) (closing (x ∷ ms) left)

end-nest : (r : Rules) (ms : List RawName) (c : ℕ) (m : List ℕ) → nest r (closing ms (c ∷ m)) (token.NameByte c) ≡ closing ms m
unfolding nest
end-nest r ms c m = ap (λ (t : Bool). cond t (closing ms m) lost) (eq-eqb c c refl)

end-placed : (r : Rules) (h : Half) (x : RawName) (ms : List RawName) (m : List ℕ) → placed r (name_at EndTag h) (closing (x ∷ ms) m) ≡ end_in h x ms m
end-placed r h x ms [] = refl
end-placed r h x ms (c ∷ m) = refl

end-quiet : (l : Limits) (h : Half) (x : RawName) (ms : List RawName) (m : List ℕ) (b : Building) (c : ℕ)
    → is_name_byte c ≡ true → Quiet l (end_in h x ms (c ∷ m)) b c (token.NameByte c ∷ []) (end_in h x ms m) (named b (b.tag.name ++ c ∷ []))
end-quiet l h x ms m b c e = record {
  framed = ap (framed (rules_of l) (closing (x ∷ ms) (c ∷ m))) (turn-name EndTag h c e)
      ∙ (ap (placed (rules_of l) (name_at EndTag h)) (end-nest (rules_of l) (x ∷ ms) c m) ∙ end-placed (rules_of l) h x ms m);
  told = ap tokens_told (turn-name EndTag h c e);
  built = refl;
  named = refl;
  unbroken = refl;
  still = refl;
  within = refl;
  same = refl;
}

end-run : (xs : List ℕ) (h : Half) (x : RawName) (ms : List RawName) (m : List ℕ) (b : Building) → are_plain is_name_byte xs ≡ true
    → Leads (end_in h x ms (xs ++ m)) b xs (end_in h x ms m) (named b (b.tag.name ++ xs))
end-run [] h x ms m b plain = no_bytes_led (end_in h x ms m) b (named b (b.tag.name ++ [])) (ap (named b) (append-nil b.tag.name))
end-run (c ∷ xs) h x ms m b plain =
    let p = and_parts (is_name_byte c) (are_plain is_name_byte xs) plain in
    let b1 : Building = named b (b.tag.name ++ c ∷ []) in
    subst (λ (w : List ℕ). Leads (end_in h x ms (c ∷ (xs ++ m))) b (c ∷ xs) (end_in h x ms m) (named b w)) (append_assoc b.tag.name (c ∷ []) xs)
    (more_led (end_in h x ms (c ∷ (xs ++ m))) (end_in h x ms (xs ++ m)) (end_in h x ms m) b b1 (named b ((b.tag.name ++ c ∷ []) ++ xs)) c
    (token.NameByte c ∷ []) xs (λ l. end-quiet l h x ms (xs ++ m) b c p.0) (end-run xs h x ms m b1 p.1))

end-state : (st : State) → (is_end_stage st.stage && is_between_characters st) ≡ true → (h : Half) × (st ≡ name_at EndTag h)
end-state st e =
    let p = and_parts (is_end_stage st.stage) (is_between_characters st) e in
    let (h, same) = end-stage st.stage p.0 in
    (h, between-state st p.1 ∙ ap (λ (s : Stage). at s pending.Nothing false) same)
  where
    end-stage : (s : Stage) → is_end_stage s ≡ true → (h : Half) × (s ≡ stage.Name EndTag h)
    end-stage (stage.Name EndTag h) e = (h, refl)
    end-stage s e = absurd (let bad : false ≡ true = e in cc)

end-led : (f g : Frame) (b c : Building) (xs : List ℕ)
    → is_in_end_name f ≡ true → are_plain is_name_byte xs ≡ true → closing_left f ≡ xs ++ closing_left g → g ≡ closing_on f (closing_left g)
    → c ≡ named b (b.tag.name ++ xs) → Leads f b xs g c
end-led (open_at st (closing (x ∷ ms) left)) g b c xs e plain is to made =
    let (h, same) = end-state st e in
    let m : List ℕ = closing_left g in
    subst (λ (y : Building). Leads (open_at st (closing (x ∷ ms) left)) b xs g y) (sym made)
    (subst (λ (y : Frame). Leads (open_at st (closing (x ∷ ms) left)) b xs y (named b (b.tag.name ++ xs))) (sym to)
    (subst (λ (w : List ℕ). Leads (open_at st (closing (x ∷ ms) w)) b xs (open_at st (closing (x ∷ ms) m)) (named b (b.tag.name ++ xs))) (sym is)
    (subst (λ (s : State). Leads (open_at s (closing (x ∷ ms) (xs ++ m))) b xs (open_at s (closing (x ∷ ms) m)) (named b (b.tag.name ++ xs))) (sym same)
    (end-run xs h x ms m b plain))))
end-led f g b c xs e plain is to made = absurd (let bad : false ≡ true = e in cc)

plain-take : (ok : ℕ → Bool) (i : ℕ) (xs : List ℕ) → are_plain ok xs ≡ true → are_plain ok (take i xs) ≡ true
plain-take ok zero xs h = refl
plain-take ok (suc i) [] h = refl
plain-take ok (suc i) (x ∷ xs) h = let p = and_parts (ok x) (are_plain ok xs) h in and_from _ _ p.0 (plain-take ok i xs p.1)

-- so many bytes of those that may go on with a name are its next
pub end_led : (f g : Frame) (b c : Building) (m v : ℕ) (bytes : List ℕ)
    → is_in_end_name f ≡ true → are_plain is_name_byte (take v bytes) ≡ true → v ≤ length bytes → m ≤ length (take v bytes)
    → closing_left f ≡ take m (take v bytes) ++ closing_left g → g ≡ closing_on f (closing_left g)
    → c ≡ record b { tag = record b.tag { name = b.tag.name ++ take m (take v bytes) } } → Leads f b (take m bytes) g c
end_led f g b c m v bytes e plain most fits is to made =
    let of_v : length (take v bytes) ≡ v = length-take-le v bytes most in
    subst (λ (xs : List ℕ). Leads f b xs g c) (take-take m v bytes (omega (arith, of_v, fits)))
    (end-led f g b c (take m (take v bytes)) e (plain-take is_name_byte m (take v bytes) plain) is to made)

-- The bytes of an end tag's name are compared with those of the name that is open.

drop-next : (xs : List ℕ) (i y : ℕ) → next_is (drop i xs) y ≡ true → drop i xs ≡ y ∷ drop (i + 1) xs
drop-next xs i y h = elim (cases_lt i (length xs)) [
  | inl lt ↦ let e : drop i xs ≡ get_or xs i 0 ∷ drop (i + 1) xs = drop_more xs i 0 lt in
      e ∙ ap (λ (c : ℕ). c ∷ drop (i + 1) xs) (sym (eqb-true y (get_or xs i 0) (ap (λ (l : List ℕ). next_is l y) (sym e) ∙ h)))
  | inr ge ↦ absurd (let bad : false ≡ true = ap (λ (l : List ℕ). next_is l y) (sym (drop_all i xs ge)) ∙ h in cc)
]

next-left : (st : List RawName) (i y : ℕ) → next_is (left_of st i) y ≡ true → left_of st i ≡ y ∷ left_of st (i + 1)
next-left [] i y h = absurd (let bad : false ≡ true = h in cc)
next-left (m ∷ st) i y h = drop-next m.1 i y h

some-next : (t : Bool) (i j : ℕ) → cond t (Some i) None ≡ Some j → (t ≡ true) × (j ≡ i)
some-next true i j e = (refl, let e1 : Some i ≡ Some j = e in cc)
some-next false i j e = absurd (let bad : None ≡ Some j = e in cc)

pub goes_on_more : (st : List RawName) (bs : List ℕ) (from next i d after : ℕ) → i < length bs → left_of st from ≡ take i bs ++ left_of st next
    → cond (next_is (left_of st next) (get_or bs i d)) (Some (next + 1)) None ≡ Some after → left_of st from ≡ take (i + 1) bs ++ left_of st after
goes_on_more st bs from next i d after h is e =
    let p = some-next (next_is (left_of st next) (get_or bs i d)) (next + 1) after e in
    is ∙ (ap (λ (l : List ℕ). take i bs ++ l) (next-left st next (get_or bs i d) p.0)
    ∙ (sym (append_assoc (take i bs) (get_or bs i d ∷ []) (left_of st (next + 1)))
    ∙ (ap (λ (l : List ℕ). l ++ left_of st (next + 1)) (sym (take_more bs i d h)) ∙ ap (λ (j : ℕ). take (i + 1) bs ++ left_of st j) (sym p.1))))

pub closing_same : (f : Frame) → f ≡ closing_on f (closing_left f)
closing_same (open_at st (closing ms m)) = refl
closing_same f = refl

pub none_named : (b : Building) (bytes : List ℕ) → b ≡ record b { tag = record b.tag { name = b.tag.name ++ take 0 bytes } }
none_named b bytes = ap (named b) (sym (append-nil b.tag.name))

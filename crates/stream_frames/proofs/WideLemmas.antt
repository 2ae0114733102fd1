-- Runs of the bytes of one character from 128 on, in words and in values.
use Rattle.std.proofs.Common.{◌≡◌, ℕ, ◌<◌, ◌≤◌, List, [], ◌∷◌, ◌++◌, append-nil, append_assoc, refl, sym, ap, ◌∙◌, subst}
use Rattle.std.proofs.Common.{true, false, ◌&&◌, nat_lt, arith, encode_utf8}
use Rattle.std.proofs.lemmas.Bool.{cond-true, cond-false, le-ltb}
use Rattle.std.proofs.lemmas.Bool.Decides.{nat_tests}
use Rattle.std.proofs.lemmas.List.{append_cancel_left}
use Rattle.stream_lex.specs.declared.Token.{Token}
use Rattle.stream_lex.specs.declared.characters.Allowed.TheVariants as allowed
use Rattle.stream_lex.specs.declared.characters.Pending.{Pending}
use Rattle.stream_lex.specs.declared.characters.Pending.TheVariants as pending
use Rattle.stream_lex.specs.declared.characters.Reach.{Reach}
use Rattle.stream_lex.specs.declared.characters.Reach.TheVariants.{Whole, Begun, Broken}
use Rattle.stream_lex.specs.declared.stages.Context.{Context}
use Rattle.stream_lex.specs.declared.stages.Stage.TheVariants as stage
use Rattle.stream_lex.specs.declared.stages.State.{State}
use Rattle.stream_lex.specs.grammar.Classes.{has_between, characters}
use Rattle.stream_lex.specs.grammar.Grammar.{text_token}
use Rattle.stream_lex.specs.machine.Characters.{bytes_of, is_begun, is_nothing, reach}
use Rattle.stream_lex.specs.machine.Machine.{allowed_at, voice, through}
use Rattle.stream_lex.specs.machine.Turns.{leads, at, turn, turn_wide}
use Rattle.stream_lex.proofs.ByteSteps.{Spelt, reach-spelt}
use Rattle.stream_lex.proofs.Classing.{has_between-of, class-low}
use Rattle.stream_lex.proofs.Lists.{same_head, cons_not_nil}
use Rattle.stream_lex.proofs.Living.{Awaited, reach-awaited}
use Rattle.stream_lex.proofs.Spans.{Within, IsRest, Width, width1, width2, width3, width4, width_of, reach-within, reach-starts}
use Rattle.stream_grammar.specs.declared.item.Limits.{Limits}
use Rattle.stream_grammar.specs.declared.rules.Rules.{Rules}
use Rattle.stream_grammar.specs.grammar.Bounds.{rules_of}
use Rattle.stream_grammar.specs.machine.Building.{Building}
use Rattle.stream_grammar.specs.machine.Ends.{tokens_told, in_item_nest}
use Rattle.stream_grammar.specs.machine.Framing.{Frame, open_at, placed}
use Rattle.stream_grammar.specs.machine.Framing.{settled as framed}
use Rattle.stream_grammar.specs.machine.Nesting.{Nest}
use Rattle.stream_frames.specs.Runs.{is_wide, Leads}
use Rattle.stream_frames.proofs.RunLemmas.{Quiet, no_bytes_led, more_led}

-- The first byte of a character.

-- an encoding is not empty, and from 128 on its first byte is too
data First (c : ℕ) : Type 0 where
  first : (x : ℕ) (zs : List ℕ) → encode_utf8 c ≡ x ∷ zs → 128 ≤ x → First c

first-of : (c : ℕ) → 128 ≤ c → First c
first-of c h = by (width_of c)
  where
    by : Width c → First c
    by (width1 k e) = absurd (omega arith)
    by (width2 k j e) = first _ _ e (omega arith)
    by (width3 k j e) = first _ _ e (omega arith)
    by (width4 k e) = first _ _ e (omega arith)

high-byte : (g : Pending) (c x : ℕ) (zs : List ℕ) → 128 ≤ c → encode_utf8 c ≡ bytes_of g ++ x ∷ zs → bytes_of g ≡ [] → 128 ≤ x
high-byte pending.Nothing c x zs h e nothing = by (first-of c h)
  where
    by : First c → 128 ≤ x
    by (first y ys e1 high) = subst (λ (n : ℕ). 128 ≤ n) (same_head y x ys zs (sym e1 ∙ e)) high
high-byte (pending.One a) c x zs h e nothing = absurd (cons_not_nil a [] nothing)
high-byte (pending.Two a b) c x zs h e nothing = absurd (cons_not_nil a (b ∷ []) nothing)
high-byte (pending.Three a b d) c x zs h e nothing = absurd (cons_not_nil a (b ∷ d ∷ []) nothing)

no-ascii : (g : Pending) (x : ℕ) → (bytes_of g ≡ [] → 128 ≤ x) → (is_nothing g && nat_lt x 128) ≡ false
no-ascii pending.Nothing x h = le-ltb x 128 (h refl)
no-ascii g x h = refl

-- What a byte of it does.

wide-top : (c : ℕ) → is_wide c ≡ true → c < 1114112
unfolding characters
wide-top c h = grind (arith, nat_tests, h)

abbrev at_text : Context → Pending → State
at_text p g = at (stage.Text p) g false

-- after the bytes g of a character the byte leads to the bytes q of it and tells these tokens
abbrev Turns : Context → Pending → ℕ → Pending → List Token → Type 0
Turns p g x q ts = turn (at_text p g) x ≡ leads (at_text p q) ts

begun-turn : (p : Context) (g q : Pending) (x low high : ℕ)
    → (is_nothing g && nat_lt x 128) ≡ false → reach g x ≡ Begun q low high → has_between characters low high ≡ true → Turns p g x q []
unfolding turn_wide allowed_at voice
begun-turn p g q x low high wide e met = cond-false _ _ _ wide ∙ (ap (turn_wide (at_text p g) x) e ∙ cond-true _ _ _ met)

whole-turn : (p : Context) (g : Pending) (x c : ℕ)
    → (is_nothing g && nat_lt x 128) ≡ false → reach g x ≡ Whole c → is_wide c ≡ true → Turns p g x pending.Nothing (text_token p c ∷ [])
unfolding turn_wide allowed_at voice through
whole-turn p g x c wide e met = cond-false _ _ _ wide ∙ (ap (turn_wide (at_text p g) x) e ∙ cond-true _ _ _ met)

-- with the bytes g before it and zs after it: it is the last and tells the character, or it tells nothing
data Stepped (p : Context) (c : ℕ) (g : Pending) (x : ℕ) (zs : List ℕ) : Type 0 where
  last : zs ≡ [] → Turns p g x pending.Nothing (text_token p c ∷ []) → Stepped p c g x zs
  further : (q : Pending) (y : ℕ) (ys : List ℕ) → zs ≡ y ∷ ys → is_begun q ≡ true → bytes_of q ≡ bytes_of g ++ x ∷ [] → Turns p g x q [] → Stepped p c g x zs

stepped : (p : Context) (c : ℕ) (g : Pending) (x : ℕ) (zs : List ℕ)
    → is_wide c ≡ true → is_begun g ≡ true → encode_utf8 c ≡ bytes_of g ++ x ∷ zs → Stepped p c g x zs
stepped p c g x zs wide begun e =
    let high = high-byte g c x zs (class-low allowed.Any c wide) e in
    let within = reach-within g x c [] zs begun high (wide-top c wide) (append-nil (encode_utf8 c) ∙ e) in
    let (rest, enc, left) = reach-starts g x c begun within in
    let same : rest ≡ zs = append_cancel_left (bytes_of g ++ x ∷ []) rest zs (sym enc ∙ (e ∙ sym (append_assoc (bytes_of g) (x ∷ []) zs))) in
    by (reach g x) refl within (subst (IsRest (reach g x)) same left) (reach-awaited g x begun) (reach-spelt g x) (no-ascii g x high)
  where
    by : (r : Reach) → reach g x ≡ r → Within r c → IsRest r zs → Awaited r → Spelt (bytes_of g ++ x ∷ []) r → (is_nothing g && nat_lt x 128) ≡ false
        → Stepped p c g x zs
    by (Whole n) is within left awaited spelt high = last left (whole-turn p g x c high (is ∙ ap Whole (sym within)) wide)
    by (Begun q low top) is within left awaited spelt high =
        let (y, ys, more) = left in
        further q y ys more awaited.0 spelt.0 (begun-turn p g q x low top high is (has_between-of characters c low top wide within.0 within.1))
    by Broken is within left awaited spelt high = absurd within

-- At a place where it tells its character at its end.

abbrev pub text_at : Context → Pending → Nest → Frame
text_at p g place = open_at (at (stage.Text p) g false) place

-- what its last byte does there, and that the others change nothing
pub record Takes (p : Context) (place : Nest) (c : ℕ) (b d : Building) : Type 0 where
  pub ending : (l : Limits) (g : Pending) (x : ℕ) → turn (at (stage.Text p) g false) x ≡ leads (at (stage.Text p) pending.Nothing false) (text_token p c ∷ [])
      → Quiet l (text_at p g place) b x (text_token p c ∷ []) (text_at p pending.Nothing place) d
  pub staying : (r : Rules) (g : Pending) → placed r (at (stage.Text p) g false) place ≡ text_at p g place
  pub within : in_item_nest place ≡ true

begun-quiet : (l : Limits) (p : Context) (place : Nest) (c : ℕ) (b d : Building) (g q : Pending) (x : ℕ)
    → Takes p place c b d → Turns p g x q [] → Quiet l (text_at p g place) b x [] (text_at p q place) b
begun-quiet l p place c b d g q x takes e = record {
  framed = ap (framed (rules_of l) place) e ∙ takes.staying (rules_of l) q;
  told = ap tokens_told e;
  built = refl;
  named = refl;
  unbroken = refl;
  still = refl;
  within = takes.within;
  same = refl;
}

-- what is left of it leads to the state between two characters
rest-led : (p : Context) (place : Nest) (c : ℕ) (b d : Building) (zs : List ℕ) (g : Pending) (x : ℕ)
    → Takes p place c b d → is_wide c ≡ true → is_begun g ≡ true → encode_utf8 c ≡ bytes_of g ++ x ∷ zs
    → Leads (text_at p g place) b (x ∷ zs) (text_at p pending.Nothing place) d
rest-led p place c b d [] g x takes wide begun e =
    let f : Frame = text_at p pending.Nothing place in
    elim (stepped p c g x [] wide begun e) [
      | last none t ↦ more_led (text_at p g place) f f b d d x (text_token p c ∷ []) [] (λ l. takes.ending l g x t) (no_bytes_led f d d refl)
      | further q y ys more begun1 bytes t ↦ absurd (cons_not_nil y ys (sym more))
    ]
rest-led p place c b d (z ∷ zs) g x takes wide begun e =
    let f : Frame = text_at p pending.Nothing place in
    let cut : bytes_of g ++ x ∷ z ∷ zs ≡ (bytes_of g ++ x ∷ []) ++ z ∷ zs = sym (append_assoc (bytes_of g) (x ∷ []) (z ∷ zs)) in
    elim (stepped p c g x (z ∷ zs) wide begun e) [
      | last none t ↦ absurd (cons_not_nil z zs none)
      | further q y ys more begun1 bytes t ↦ more_led (text_at p g place) (text_at p q place) f b b d x [] (z ∷ zs)
          (λ l. begun-quiet l p place c b d g q x takes t)
          (rest-led p place c b d zs q z takes wide begun1 (e ∙ (cut ∙ ap (λ (l : List ℕ). l ++ z ∷ zs) (sym bytes))))
    ]

pub wide_led : (p : Context) (place : Nest) (c : ℕ) (b d : Building)
    → Takes p place c b d → is_wide c ≡ true → Leads (text_at p pending.Nothing place) b (encode_utf8 c) (text_at p pending.Nothing place) d
wide_led p place c b d takes wide = by (first-of c (class-low allowed.Any c wide))
  where
    f : Frame
    f = text_at p pending.Nothing place

    by : First c → Leads f b (encode_utf8 c) f d
    by (first x zs e high) = subst (λ (xs : List ℕ). Leads f b xs f d) (sym e) (rest-led p place c b d zs pending.Nothing x takes wide refl e)

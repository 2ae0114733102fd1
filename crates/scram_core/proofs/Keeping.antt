-- Where a byte leads, what may still come is what may follow the byte.
use Rattle.std.proofs.Common.{◌≡◌, ℕ, zero, suc, ◌<◌, ◌≤◌, inl, inr, List, refl, sym, subst, arith, Bool, true, false, not, cond, ◌==◌, ◌&&◌, if◌then◌else◌}
use Rattle.std.specs.Bool.{then_some}
use Rattle.std.specs.declared.option.Option.{Option}
use Rattle.std.specs.declared.option.Option.TheVariants.{Some}
use Rattle.std.proofs.Math.Nat.{eq-or-lt_of_le}
use Rattle.scram_core.specs.declared.stage.Message.{Message}
use Rattle.scram_core.specs.declared.stage.Message.TheVariants.{First, Last}
use Rattle.scram_core.specs.declared.stage.Run.{Run}
use Rattle.scram_core.specs.declared.stage.Run.TheVariants as run
use Rattle.scram_core.specs.declared.stage.Missing.{Missing}
use Rattle.scram_core.specs.declared.stage.Missing.TheVariants as missing
use Rattle.scram_core.specs.declared.stage.Quad.{Quad}
use Rattle.scram_core.specs.declared.stage.Quad.TheVariants as quad
use Rattle.scram_core.specs.declared.stage.Coded.{Coded}
use Rattle.scram_core.specs.declared.stage.Coded.TheVariants.{Binding, Proof}
use Rattle.scram_core.specs.declared.stage.Stage.{Stage}
use Rattle.scram_core.specs.declared.stage.Stage.TheVariants as stage
use Rattle.scram_core.specs.Expressions.{has, Expression, void, up_to, concat, union, IsText}
use Rattle.scram_core.specs.Grammar.{printable}
use Rattle.scram_core.specs.Matching.{derivative}
use Rattle.scram_core.specs.Machine.{next, opens, is_printable, is_attr_letter, is_base64, is_third, is_second}
use Rattle.scram_core.proofs.Lists.{each, false-true, true-false}
use Rattle.scram_core.proofs.Normal.{Within, is_alike, alike-within, alike-back}
use Rattle.scram_core.proofs.Rests.{after_nonce, rest_at, left}

-- a test of each number below n
abbrev pub all_below : ℕ → (ℕ → Bool) → Bool
all_below zero f = true
all_below (suc n) f = f n && all_below n f

last_or_before : (b n : ℕ) (f : ℕ → Bool) → f n ≡ true → (b < n → f b ≡ true) → b ≤ n → f b ≡ true
last_or_before b n f h g l = elim (eq-or-lt_of_le l) [ inl e ↦ subst (λ (k : ℕ). f k ≡ true) (sym e) h | inr m ↦ g m ]

pub below-all : (n : ℕ) (f : ℕ → Bool) → all_below n f ≡ true → (b : ℕ) → b < n → f b ≡ true
below-all zero f h b l = absurd (omega arith)
below-all (suc n) f h b l =
    let two = each (f n) (all_below n f) h in
    last_or_before b n f two.0 (below-all n f two.1 b) (omega arith)

-- whether the byte b leads from s to where all that may follow it may come, and nothing else
abbrev pub keeps_at : Stage → ℕ → Bool
keeps_at s b = is_alike (derivative b (rest_at s)) (left (next s b))

keeps-Begins : (r : Run) → all_below 256 (keeps_at (stage.Begins r)) ≡ true
unfolding opens
keeps-Begins run.Local = refl
keeps-Begins run.Host = refl
keeps-Begins run.Name = refl
keeps-Begins (run.Value First) = refl
keeps-Begins (run.Value Last) = refl

keeps-Goes : (r : Run) → all_below 256 (keeps_at (stage.Goes r)) ≡ true
unfolding opens
keeps-Goes run.Local = refl
keeps-Goes run.Host = refl
keeps-Goes run.Name = refl
keeps-Goes (run.Value First) = refl
keeps-Goes (run.Value Last) = refl

within_local : (m : Missing) → all_below 256 (keeps_at (stage.Within run.Local m)) ≡ true
within_local missing.OneTail = refl
within_local missing.TwoTails = refl
within_local missing.ThreeTails = refl
within_local missing.AfterE0 = refl
within_local missing.AfterEd = refl
within_local missing.AfterF0 = refl
within_local missing.AfterF4 = refl
within_local missing.Escape = refl
within_local missing.EscapeC = refl
within_local missing.EscapeD = refl

within_host : (m : Missing) → all_below 256 (keeps_at (stage.Within run.Host m)) ≡ true
within_host missing.OneTail = refl
within_host missing.TwoTails = refl
within_host missing.ThreeTails = refl
within_host missing.AfterE0 = refl
within_host missing.AfterEd = refl
within_host missing.AfterF0 = refl
within_host missing.AfterF4 = refl
within_host missing.Escape = refl
within_host missing.EscapeC = refl
within_host missing.EscapeD = refl

within_name : (m : Missing) → all_below 256 (keeps_at (stage.Within run.Name m)) ≡ true
within_name missing.OneTail = refl
within_name missing.TwoTails = refl
within_name missing.ThreeTails = refl
within_name missing.AfterE0 = refl
within_name missing.AfterEd = refl
within_name missing.AfterF0 = refl
within_name missing.AfterF4 = refl
within_name missing.Escape = refl
within_name missing.EscapeC = refl
within_name missing.EscapeD = refl

within_first : (m : Missing) → all_below 256 (keeps_at (stage.Within (run.Value First) m)) ≡ true
within_first missing.OneTail = refl
within_first missing.TwoTails = refl
within_first missing.ThreeTails = refl
within_first missing.AfterE0 = refl
within_first missing.AfterEd = refl
within_first missing.AfterF0 = refl
within_first missing.AfterF4 = refl
within_first missing.Escape = refl
within_first missing.EscapeC = refl
within_first missing.EscapeD = refl

within_last : (m : Missing) → all_below 256 (keeps_at (stage.Within (run.Value Last) m)) ≡ true
within_last missing.OneTail = refl
within_last missing.TwoTails = refl
within_last missing.ThreeTails = refl
within_last missing.AfterE0 = refl
within_last missing.AfterEd = refl
within_last missing.AfterF0 = refl
within_last missing.AfterF4 = refl
within_last missing.Escape = refl
within_last missing.EscapeC = refl
within_last missing.EscapeD = refl

keeps-Within : (r : Run) (m : Missing) → all_below 256 (keeps_at (stage.Within r m)) ≡ true
keeps-Within run.Local m = within_local m
keeps-Within run.Host m = within_host m
keeps-Within run.Name m = within_name m
keeps-Within (run.Value First) m = within_first m
keeps-Within (run.Value Last) m = within_last m

keeps-Base64 : (c : Coded) (q : Quad) → all_below 256 (keeps_at (stage.Base64 c q)) ≡ true
unfolding is_base64 is_third is_second
keeps-Base64 Binding quad.Start = refl
keeps-Base64 Binding quad.One = refl
keeps-Base64 Binding quad.Two = refl
keeps-Base64 Binding quad.TwoEndable = refl
keeps-Base64 Binding quad.Three = refl
keeps-Base64 Binding quad.ThreeEndable = refl
keeps-Base64 Binding quad.Padding = refl
keeps-Base64 Binding quad.Padded = refl
keeps-Base64 Proof quad.Start = refl
keeps-Base64 Proof quad.One = refl
keeps-Base64 Proof quad.Two = refl
keeps-Base64 Proof quad.TwoEndable = refl
keeps-Base64 Proof quad.Three = refl
keeps-Base64 Proof quad.ThreeEndable = refl
keeps-Base64 Proof quad.Padding = refl
keeps-Base64 Proof quad.Padded = refl

-- a stage that nothing stands in but which message it is of
abbrev pub is_simple : Stage → Bool
is_simple (stage.Begins r) = false
is_simple (stage.Goes r) = false
is_simple (stage.Within r m) = false
is_simple (stage.Nonce m n) = false
is_simple (stage.Base64 c q) = false
is_simple s = true

keeps-simple : (s : Stage) → is_simple s ≡ true → all_below 256 (keeps_at s) ≡ true
unfolding is_printable is_attr_letter
keeps-simple stage.Flag h = refl
keeps-simple stage.FlagEnds h = refl
keeps-simple stage.Authzid h = refl
keeps-simple stage.AuthzidEquals h = refl
keeps-simple stage.NameKey h = refl
keeps-simple stage.NameEquals h = refl
keeps-simple stage.BindingKey h = refl
keeps-simple stage.BindingEquals h = refl
keeps-simple stage.ProofEquals h = refl
keeps-simple (stage.NonceKey First) h = refl
keeps-simple (stage.NonceKey Last) h = refl
keeps-simple (stage.NonceEquals First) h = refl
keeps-simple (stage.NonceEquals Last) h = refl
keeps-simple (stage.NonceBegins First) h = refl
keeps-simple (stage.NonceBegins Last) h = refl
keeps-simple (stage.Letter First) h = refl
keeps-simple (stage.Letter Last) h = refl
keeps-simple (stage.LetterEquals First) h = refl
keeps-simple (stage.LetterEquals Last) h = refl
keeps-simple s h = false-true h

-- A stage in a nonce, where so many more bytes may come.

nothing-first : (p : Bool) (q : Expression) (xs : List ℕ) {A : Type 0} → p ≡ false → IsText (cond p q void) xs → A
unfolding IsText
nothing-first true q xs h x = true-false h
nothing-first false q xs h x = absurd x

abbrev is_bool : Bool → Bool → Bool
is_bool true t = t
is_bool false t = not t

bool-same : (s t : Bool) → is_bool s t ≡ true → s ≡ t
bool-same true t h = sym h
bool-same false true h = false-true h
bool-same false false h = refl

not-true : (t : Bool) → not t ≡ true → t ≡ false
not-true true h = false-true h
not-true false h = refl

abbrev nonce_next : Message → ℕ → Bool → Bool → Option Stage
nonce_next m k t p = if t then Some (stage.Letter m) else then_some p (stage.Nonce m k)

abbrev nonce_after : Message → ℕ → Bool → Expression → Expression
nonce_after m k p d = union (concat (cond p (up_to k printable) void) (after_nonce m)) d

nonce-to : (m : Message) (k : ℕ) (t p : Bool) (d : Expression) → t && p ≡ false → Within d (left (then_some t (stage.Letter m)))
    → Within (nonce_after m k p d) (left (nonce_next m k t p))
unfolding IsText
nonce-to m k true p d h f bs (inl (xs, ys, x, y, e)) = nothing-first p (up_to k printable) xs h x
nonce-to m k true p d h f bs (inr x) = f bs x
nonce-to m k false true d h f bs (inl x) = x
nonce-to m k false true d h f bs (inr x) = absurd (f bs x)
nonce-to m k false false d h f bs (inl (xs, ys, x, y, e)) = x
nonce-to m k false false d h f bs (inr x) = f bs x

nonce-from : (m : Message) (k : ℕ) (t p : Bool) (d : Expression) → Within (left (then_some t (stage.Letter m))) d
    → Within (left (nonce_next m k t p)) (nonce_after m k p d)
unfolding IsText
nonce-from m k true p d f bs x = inr (f bs x)
nonce-from m k false true d f bs x = inl x
nonce-from m k false false d f bs x = absurd x

-- no byte of a nonce is a comma, and only a comma goes on after it
abbrev nonce_is : Message → ℕ → Bool
nonce_is m b =
    (is_alike (derivative b (after_nonce m)) (left (then_some (b == 44) (stage.Letter m))) && is_bool (is_printable b) (has printable b))
    && not (b == 44 && has printable b)

nonce-all : (m : Message) → all_below 256 (nonce_is m) ≡ true
unfolding is_printable is_attr_letter
nonce-all First = refl
nonce-all Last = refl

nonce-none : (m : Message) → all_below 256 (keeps_at (stage.Nonce m 0)) ≡ true
unfolding is_printable is_attr_letter
nonce-none First = refl
nonce-none Last = refl

pub keeps-nonce : (m : Message) (n b : ℕ) → b < 256
    → Within (derivative b (rest_at (stage.Nonce m n))) (left (next (stage.Nonce m n) b))
    × Within (left (next (stage.Nonce m n) b)) (derivative b (rest_at (stage.Nonce m n)))
keeps-nonce m zero b l =
    let h = below-all 256 (keeps_at (stage.Nonce m 0)) (nonce-none m) b l in
    let p = derivative b (rest_at (stage.Nonce m 0)) in
    let q = left (next (stage.Nonce m 0) b) in
    (alike-within p q h, alike-back p q h)
keeps-nonce m (suc k) b l =
    let three = each _ (not (b == 44 && has printable b)) (below-all 256 (nonce_is m) (nonce-all m) b l) in
    let two = each (is_alike (derivative b (after_nonce m)) (left (then_some (b == 44) (stage.Letter m)))) (is_bool (is_printable b) (has printable b)) three.0
    in
    let same : has printable b ≡ is_printable b = sym (bool-same (is_printable b) (has printable b) two.1) in
    let d = derivative b (after_nonce m) in
    let q = left (then_some (b == 44) (stage.Letter m)) in
    let P : Bool → Type 0 = λ p. Within (nonce_after m k (has printable b) d) (left (nonce_next m k (b == 44) p)) in
    let Q : Bool → Type 0 = λ p. Within (left (nonce_next m k (b == 44) p)) (nonce_after m k (has printable b) d) in (
      subst P same (nonce-to m k (b == 44) (has printable b) d (not-true (b == 44 && has printable b) three.1) (alike-within d q two.0)),
      subst Q same (nonce-from m k (b == 44) (has printable b) d (alike-back d q two.0)),
    )

-- Every stage.

simple-keeps : (s : Stage) (b : ℕ) → all_below 256 (keeps_at s) ≡ true → b < 256
    → Within (derivative b (rest_at s)) (left (next s b)) × Within (left (next s b)) (derivative b (rest_at s))
simple-keeps s b a l =
    let h = below-all 256 (keeps_at s) a b l in
    (alike-within (derivative b (rest_at s)) (left (next s b)) h, alike-back (derivative b (rest_at s)) (left (next s b)) h)

pub keeps : (s : Stage) (b : ℕ) → b < 256
    → Within (derivative b (rest_at s)) (left (next s b)) × Within (left (next s b)) (derivative b (rest_at s))
keeps (stage.Nonce m n) b l = keeps-nonce m n b l
keeps (stage.Begins r) b l = simple-keeps (stage.Begins r) b (keeps-Begins r) l
keeps (stage.Goes r) b l = simple-keeps (stage.Goes r) b (keeps-Goes r) l
keeps (stage.Within r m) b l = simple-keeps (stage.Within r m) b (keeps-Within r m) l
keeps (stage.Base64 c q) b l = simple-keeps (stage.Base64 c q) b (keeps-Base64 c q) l
keeps s b l = simple-keeps s b (keeps-simple s refl) l

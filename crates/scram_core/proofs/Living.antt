-- Each stage has a text that may still come.
use Rattle.std.proofs.Common.{◌≡◌, ℕ, List, [], ◌∷◌, ◌++◌, inl, refl, arith, Bool, true, false, ◌&&◌, nat_le}
use Rattle.std.proofs.lemmas.Bool.{le-leb}
use Rattle.scram_core.specs.declared.stage.Message.TheVariants.{First, Last}
use Rattle.scram_core.specs.declared.stage.Run.TheVariants as run
use Rattle.scram_core.specs.declared.stage.Missing.TheVariants as missing
use Rattle.scram_core.specs.declared.stage.Quad.TheVariants as quad
use Rattle.scram_core.specs.declared.stage.Coded.TheVariants.{Binding, Proof}
use Rattle.scram_core.specs.declared.stage.Stage.{Stage}
use Rattle.scram_core.specs.declared.stage.Stage.TheVariants as stage
use Rattle.scram_core.specs.Expressions.{Class, has, Expression, void, empty, byte, up_to, concat, union, star, IsText}
use Rattle.scram_core.specs.Matching.{is_nullable}
use Rattle.scram_core.specs.Machine.{is_end}
use Rattle.scram_core.proofs.Lists.{each, false-true, first_holds, both}
use Rattle.scram_core.proofs.Rests.{rest_at}

-- whether each part has a text
abbrev pub has_texts : Expression → Bool
has_texts void = false
has_texts empty = true
has_texts (byte []) = false
has_texts (byte (r ∷ rs)) = nat_le r.0 r.1
has_texts (up_to n C) = true
has_texts (concat p q) = has_texts p && has_texts q
has_texts (union p q) = has_texts p && has_texts q
has_texts (star p) = true

-- a text of it
abbrev pub sample : Expression → List ℕ
sample (byte (r ∷ rs)) = r.0 ∷ []
sample (concat p q) = sample p ++ sample q
sample (union p q) = sample p
sample p = []

le-same : (n : ℕ) → nat_le n n ≡ true
le-same n = le-leb n n (omega arith)

first-has : (r : ℕ × ℕ) (rs : Class) → nat_le r.0 r.1 ≡ true → has (r ∷ rs) r.0 ≡ true
first-has r rs h = first_holds (nat_le r.0 r.0 && nat_le r.0 r.1) (has rs r.0) (both (nat_le r.0 r.0) (nat_le r.0 r.1) (le-same r.0) h)

pub sample-text : (p : Expression) → has_texts p ≡ true → IsText p (sample p)
unfolding IsText
sample-text void h = false-true h
sample-text empty h = refl
sample-text (byte []) h = false-true h
sample-text (byte (r ∷ rs)) h = (r.0, first-has r rs h, refl)
sample-text (up_to n C) h = (omega arith, tt)
sample-text (concat p q) h =
    let two = each (has_texts p) (has_texts q) h in (sample p, sample q, sample-text p two.0, sample-text q two.1, refl)
sample-text (union p q) h = let two = each (has_texts p) (has_texts q) h in inl (sample-text p two.0)
sample-text (star p) h = (0, refl)

pub lives : (s : Stage) → has_texts (rest_at s) ≡ true
lives stage.Flag = refl
lives stage.FlagEnds = refl
lives stage.Authzid = refl
lives stage.AuthzidEquals = refl
lives stage.NameKey = refl
lives stage.NameEquals = refl
lives stage.BindingKey = refl
lives stage.BindingEquals = refl
lives stage.ProofEquals = refl
lives (stage.NonceKey First) = refl
lives (stage.NonceKey Last) = refl
lives (stage.NonceEquals First) = refl
lives (stage.NonceEquals Last) = refl
lives (stage.NonceBegins First) = refl
lives (stage.NonceBegins Last) = refl
lives (stage.Letter First) = refl
lives (stage.Letter Last) = refl
lives (stage.LetterEquals First) = refl
lives (stage.LetterEquals Last) = refl
lives (stage.Nonce First n) = refl
lives (stage.Nonce Last n) = refl
lives (stage.Begins run.Local) = refl
lives (stage.Begins run.Host) = refl
lives (stage.Begins run.Name) = refl
lives (stage.Begins (run.Value First)) = refl
lives (stage.Begins (run.Value Last)) = refl
lives (stage.Goes run.Local) = refl
lives (stage.Goes run.Host) = refl
lives (stage.Goes run.Name) = refl
lives (stage.Goes (run.Value First)) = refl
lives (stage.Goes (run.Value Last)) = refl
lives (stage.Within run.Local missing.OneTail) = refl
lives (stage.Within run.Local missing.TwoTails) = refl
lives (stage.Within run.Local missing.ThreeTails) = refl
lives (stage.Within run.Local missing.AfterE0) = refl
lives (stage.Within run.Local missing.AfterEd) = refl
lives (stage.Within run.Local missing.AfterF0) = refl
lives (stage.Within run.Local missing.AfterF4) = refl
lives (stage.Within run.Local missing.Escape) = refl
lives (stage.Within run.Local missing.EscapeC) = refl
lives (stage.Within run.Local missing.EscapeD) = refl
lives (stage.Within run.Host missing.OneTail) = refl
lives (stage.Within run.Host missing.TwoTails) = refl
lives (stage.Within run.Host missing.ThreeTails) = refl
lives (stage.Within run.Host missing.AfterE0) = refl
lives (stage.Within run.Host missing.AfterEd) = refl
lives (stage.Within run.Host missing.AfterF0) = refl
lives (stage.Within run.Host missing.AfterF4) = refl
lives (stage.Within run.Host missing.Escape) = refl
lives (stage.Within run.Host missing.EscapeC) = refl
lives (stage.Within run.Host missing.EscapeD) = refl
lives (stage.Within run.Name missing.OneTail) = refl
lives (stage.Within run.Name missing.TwoTails) = refl
lives (stage.Within run.Name missing.ThreeTails) = refl
lives (stage.Within run.Name missing.AfterE0) = refl
lives (stage.Within run.Name missing.AfterEd) = refl
lives (stage.Within run.Name missing.AfterF0) = refl
lives (stage.Within run.Name missing.AfterF4) = refl
lives (stage.Within run.Name missing.Escape) = refl
lives (stage.Within run.Name missing.EscapeC) = refl
lives (stage.Within run.Name missing.EscapeD) = refl
lives (stage.Within (run.Value First) missing.OneTail) = refl
lives (stage.Within (run.Value First) missing.TwoTails) = refl
lives (stage.Within (run.Value First) missing.ThreeTails) = refl
lives (stage.Within (run.Value First) missing.AfterE0) = refl
lives (stage.Within (run.Value First) missing.AfterEd) = refl
lives (stage.Within (run.Value First) missing.AfterF0) = refl
lives (stage.Within (run.Value First) missing.AfterF4) = refl
lives (stage.Within (run.Value First) missing.Escape) = refl
lives (stage.Within (run.Value First) missing.EscapeC) = refl
lives (stage.Within (run.Value First) missing.EscapeD) = refl
lives (stage.Within (run.Value Last) missing.OneTail) = refl
lives (stage.Within (run.Value Last) missing.TwoTails) = refl
lives (stage.Within (run.Value Last) missing.ThreeTails) = refl
lives (stage.Within (run.Value Last) missing.AfterE0) = refl
lives (stage.Within (run.Value Last) missing.AfterEd) = refl
lives (stage.Within (run.Value Last) missing.AfterF0) = refl
lives (stage.Within (run.Value Last) missing.AfterF4) = refl
lives (stage.Within (run.Value Last) missing.Escape) = refl
lives (stage.Within (run.Value Last) missing.EscapeC) = refl
lives (stage.Within (run.Value Last) missing.EscapeD) = refl
lives (stage.Base64 Binding quad.Start) = refl
lives (stage.Base64 Binding quad.One) = refl
lives (stage.Base64 Binding quad.Two) = refl
lives (stage.Base64 Binding quad.TwoEndable) = refl
lives (stage.Base64 Binding quad.Three) = refl
lives (stage.Base64 Binding quad.ThreeEndable) = refl
lives (stage.Base64 Binding quad.Padding) = refl
lives (stage.Base64 Binding quad.Padded) = refl
lives (stage.Base64 Proof quad.Start) = refl
lives (stage.Base64 Proof quad.One) = refl
lives (stage.Base64 Proof quad.Two) = refl
lives (stage.Base64 Proof quad.TwoEndable) = refl
lives (stage.Base64 Proof quad.Three) = refl
lives (stage.Base64 Proof quad.ThreeEndable) = refl
lives (stage.Base64 Proof quad.Padding) = refl
lives (stage.Base64 Proof quad.Padded) = refl

-- a text may end exactly where nothing more need come
pub ends : (s : Stage) → is_end s ≡ is_nullable (rest_at s)
ends stage.Flag = refl
ends stage.FlagEnds = refl
ends stage.Authzid = refl
ends stage.AuthzidEquals = refl
ends stage.NameKey = refl
ends stage.NameEquals = refl
ends stage.BindingKey = refl
ends stage.BindingEquals = refl
ends stage.ProofEquals = refl
ends (stage.NonceKey First) = refl
ends (stage.NonceKey Last) = refl
ends (stage.NonceEquals First) = refl
ends (stage.NonceEquals Last) = refl
ends (stage.NonceBegins First) = refl
ends (stage.NonceBegins Last) = refl
ends (stage.Letter First) = refl
ends (stage.Letter Last) = refl
ends (stage.LetterEquals First) = refl
ends (stage.LetterEquals Last) = refl
ends (stage.Nonce First n) = refl
ends (stage.Nonce Last n) = refl
ends (stage.Begins run.Local) = refl
ends (stage.Begins run.Host) = refl
ends (stage.Begins run.Name) = refl
ends (stage.Begins (run.Value First)) = refl
ends (stage.Begins (run.Value Last)) = refl
ends (stage.Goes run.Local) = refl
ends (stage.Goes run.Host) = refl
ends (stage.Goes run.Name) = refl
ends (stage.Goes (run.Value First)) = refl
ends (stage.Goes (run.Value Last)) = refl
ends (stage.Within run.Local missing.OneTail) = refl
ends (stage.Within run.Local missing.TwoTails) = refl
ends (stage.Within run.Local missing.ThreeTails) = refl
ends (stage.Within run.Local missing.AfterE0) = refl
ends (stage.Within run.Local missing.AfterEd) = refl
ends (stage.Within run.Local missing.AfterF0) = refl
ends (stage.Within run.Local missing.AfterF4) = refl
ends (stage.Within run.Local missing.Escape) = refl
ends (stage.Within run.Local missing.EscapeC) = refl
ends (stage.Within run.Local missing.EscapeD) = refl
ends (stage.Within run.Host missing.OneTail) = refl
ends (stage.Within run.Host missing.TwoTails) = refl
ends (stage.Within run.Host missing.ThreeTails) = refl
ends (stage.Within run.Host missing.AfterE0) = refl
ends (stage.Within run.Host missing.AfterEd) = refl
ends (stage.Within run.Host missing.AfterF0) = refl
ends (stage.Within run.Host missing.AfterF4) = refl
ends (stage.Within run.Host missing.Escape) = refl
ends (stage.Within run.Host missing.EscapeC) = refl
ends (stage.Within run.Host missing.EscapeD) = refl
ends (stage.Within run.Name missing.OneTail) = refl
ends (stage.Within run.Name missing.TwoTails) = refl
ends (stage.Within run.Name missing.ThreeTails) = refl
ends (stage.Within run.Name missing.AfterE0) = refl
ends (stage.Within run.Name missing.AfterEd) = refl
ends (stage.Within run.Name missing.AfterF0) = refl
ends (stage.Within run.Name missing.AfterF4) = refl
ends (stage.Within run.Name missing.Escape) = refl
ends (stage.Within run.Name missing.EscapeC) = refl
ends (stage.Within run.Name missing.EscapeD) = refl
ends (stage.Within (run.Value First) missing.OneTail) = refl
ends (stage.Within (run.Value First) missing.TwoTails) = refl
ends (stage.Within (run.Value First) missing.ThreeTails) = refl
ends (stage.Within (run.Value First) missing.AfterE0) = refl
ends (stage.Within (run.Value First) missing.AfterEd) = refl
ends (stage.Within (run.Value First) missing.AfterF0) = refl
ends (stage.Within (run.Value First) missing.AfterF4) = refl
ends (stage.Within (run.Value First) missing.Escape) = refl
ends (stage.Within (run.Value First) missing.EscapeC) = refl
ends (stage.Within (run.Value First) missing.EscapeD) = refl
ends (stage.Within (run.Value Last) missing.OneTail) = refl
ends (stage.Within (run.Value Last) missing.TwoTails) = refl
ends (stage.Within (run.Value Last) missing.ThreeTails) = refl
ends (stage.Within (run.Value Last) missing.AfterE0) = refl
ends (stage.Within (run.Value Last) missing.AfterEd) = refl
ends (stage.Within (run.Value Last) missing.AfterF0) = refl
ends (stage.Within (run.Value Last) missing.AfterF4) = refl
ends (stage.Within (run.Value Last) missing.Escape) = refl
ends (stage.Within (run.Value Last) missing.EscapeC) = refl
ends (stage.Within (run.Value Last) missing.EscapeD) = refl
ends (stage.Base64 Binding quad.Start) = refl
ends (stage.Base64 Binding quad.One) = refl
ends (stage.Base64 Binding quad.Two) = refl
ends (stage.Base64 Binding quad.TwoEndable) = refl
ends (stage.Base64 Binding quad.Three) = refl
ends (stage.Base64 Binding quad.ThreeEndable) = refl
ends (stage.Base64 Binding quad.Padding) = refl
ends (stage.Base64 Binding quad.Padded) = refl
ends (stage.Base64 Proof quad.Start) = refl
ends (stage.Base64 Proof quad.One) = refl
ends (stage.Base64 Proof quad.Two) = refl
ends (stage.Base64 Proof quad.TwoEndable) = refl
ends (stage.Base64 Proof quad.Three) = refl
ends (stage.Base64 Proof quad.ThreeEndable) = refl
ends (stage.Base64 Proof quad.Padding) = refl
ends (stage.Base64 Proof quad.Padded) = refl

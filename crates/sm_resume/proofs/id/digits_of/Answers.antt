-- The digits are written whole, since there is room for them.
use Rattle.std.proofs.Common.{rules, ◌≡◌, ◌∙◌, false, true, Result, Ok, Err}
use Rattle.std.specs.Prelude.{IsOk, OnOk}
use Rattle.sm_resume.proofs.Digits.{encoded}
use Rattle.sm_resume.proofs.id.digits_of.Goals as goal

written : {A E P : Type 0} (r : Result A E) → IsOk r → OnOk r P → P
written (Ok a) is p = p
written (Err e) is p = absurd (let z : false ≡ true = is in cc)

pub returns : goal.returns
returns c =
    written c.encode_to_slice.result (c.encode_to_slice.ensures.fits.1 (search rules)) c.encode_to_slice.ensures.written
    ∙ encoded c.args.bytes.now (λ k. search rules)

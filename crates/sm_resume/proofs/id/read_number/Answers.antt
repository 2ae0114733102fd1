-- A text is read as the number whose decimal text it is.
use Rattle.std.proofs.Common.{rules, ◌∙◌, sym, ap, subst, ℕ, List, None}
use Rattle.std.proofs.lemmas.Fmt.{parse-decimal}
use Rattle.std.specs.Result.{result_ok}
use Rattle.std.specs.Str.{IsUtf8}
use Rattle.std.specs.Str.Parse.{ParsesUnsigned}
use Rattle.sm_resume.specs.Spelling.{IsPlain}
use Rattle.sm_resume.proofs.Decimals.{IsPlain-decimal, IsUtf8-decimal, decimal-read}
use Rattle.sm_resume.proofs.Numbers.{number-read}
use Rattle.sm_resume.proofs.id.read_number.Goals as goal

pub returns-then-not-is_plain-clause-found : goal.returns-then-not-is_plain-clause-found
returns-then-not-is_plain-clause-found c = λ n fits same.
    let plain : IsPlain c.args.text.now = subst IsPlain same (IsPlain-decimal n fits) in
    let yes = c.is_plain.ensures.1 plain in
    cc

pub returns-in-Ok-clause-spelt : goal.returns-in-Ok-clause-spelt
returns-in-Ok-clause-spelt c =
    let plain : IsPlain c.args.text.now = search rules in
    let parses = subst (λ (text : List ℕ). ParsesUnsigned 64 10 text c.parse.result) c.in-Ok.ensures.cases.0 c.parse.ensures.value.0 in
    rw c.ok.ensures.value (decimal-read c.args.text.now c.parse.result plain parses)

pub returns-in-Ok-clause-found : goal.returns-in-Ok-clause-found
returns-in-Ok-clause-found c = λ n fits same.
    let read = parse-decimal 64 n c.in-Ok.written.now c.parse.result fits fits
    (c.in-Ok.ensures.cases.0 ∙ sym same) c.parse.ensures.value.0 in
    c.ok.ensures.value ∙ ap result_ok read

pub returns-in-Err-clause-found : goal.returns-in-Err-clause-found
returns-in-Err-clause-found c = λ n fits same.
    let text : IsUtf8 c.args.text.now = subst IsUtf8 same (IsUtf8-decimal n fits) in
    absurd (c.in-Err.ensures.cases.0 text)

pub returns-then-not-is_plain-clause-number : goal.returns-then-not-is_plain-clause-number
returns-then-not-is_plain-clause-number c =
    number-read c.args.text.now None tt tt (returns-then-not-is_plain-clause-found c)

pub returns-in-Ok-clause-number : goal.returns-in-Ok-clause-number
returns-in-Ok-clause-number c =
    number-read c.args.text.now c.ok.result (search rules) (returns-in-Ok-clause-spelt c) (returns-in-Ok-clause-found c)

pub returns-in-Err-clause-number : goal.returns-in-Err-clause-number
returns-in-Err-clause-number c =
    number-read c.args.text.now None tt tt (returns-in-Err-clause-found c)

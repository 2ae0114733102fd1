use Rattle.std.proofs.Common.{◌≡◌, true, sym, ap, ◌∙◌}
use Rattle.std.specs.Char.{is_ascii_digit}
use Rattle.std.specs.List.{list_all}
use Rattle.serve_words.proofs.NumberLemmas.{number_err}
use Rattle.serve_words.proofs.number.number.Goals as goal

pub returns-in-Err-clause-number : goal.returns-in-Err-clause-number
returns-in-Err-clause-number c =
    let digits : list_all is_ascii_digit c.args.text.now ≡ true =
    ap (list_all is_ascii_digit) (sym c.as_bytes.ensures.value) ∙ (sym c.are_digits.ensures ∙ c.if-not-are_digits.false) in
    sym (number_err _ c.args.text.now c.in-Err.field-0 c.args.least c.args.most c.in-Err.ensures.value.0 digits c.ranges.most.fits)

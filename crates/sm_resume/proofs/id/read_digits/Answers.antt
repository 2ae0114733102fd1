-- The digits of a text are those of the bytes that it spells.
use Rattle.std.proofs.Common.{rules, arith, ◌≡◌, ◌∙◌, sym, ap, ℕ, List, ◌+◌, ◌*◌, ◌/◌, ◌%◌, length, get_or, Some, refl}
use Rattle.std.proofs.lemmas.Grind.{common_steps}
use Rattle.std.specs.Char.{digit_char}
use Rattle.sm_resume.specs.Spelling.{hexadecimal}
use Rattle.sm_resume.proofs.Digits.{AreDigits-set, hexadecimal_injective, hexadecimal_step, high_digit, length-hexadecimal, low_digit}
use Rattle.sm_resume.proofs.id.read_digits.Goals as goal

pub returns-then-text-ne32-clause-found : goal.returns-then-text-ne32-clause-found
returns-then-text-ne32-clause-found c = λ digits are same.
    let long : length c.args.text.now ≡ 2 * length digits = sym (ap length same) ∙ length-hexadecimal digits in
    absurd (omega (arith, are.count))

pub loop-i-init : goal.loop-i-init
unfolding hexadecimal
loop-i-init c = record { bytes = record { count = refl; bytes = search rules }; spelt = refl }

pub returns-in_err-high-clause-found : goal.returns-in_err-high-clause-found
returns-in_err-high-clause-found c = λ digits are same.
    let i = c.loop-i.i in
    let byte = are.bytes i in
    let digit : digit_char (get_or digits i 0 / 16) ≡ get_or c.args.text.now (2 * i) 0 =
    sym (high_digit digits i (omega (arith, are.count))) ∙ ap (λ (text : List ℕ). get_or text (2 * i) 0) same in
    let read = c.in_err-high.ensures.found (get_or digits i 0 / 16) (omega arith) digit in
    cc

pub returns-in_err-low-clause-found : goal.returns-in_err-low-clause-found
returns-in_err-low-clause-found c = λ digits are same.
    let i = c.loop-i.i in
    let digit : digit_char (get_or digits i 0 % 16) ≡ get_or c.args.text.now (2 * i + 1) 0 =
    sym (low_digit digits i (omega (arith, are.count))) ∙ ap (λ (text : List ℕ). get_or text (2 * i + 1) 0) same in
    let read = c.in_err-low.ensures.found (get_or digits i 0 % 16) (omega arith) digit in
    cc

pub loop-i-preserved : goal.loop-i-preserved
loop-i-preserved c =
    let digits = c.loop-i.digits in
    let text = c.args.text.now in
    let high = c.in_ok-high.high in
    let low = c.in_ok-low.low in
    let first = c.in_ok-high.ensures.spelt in
    let second = c.in_ok-low.ensures.spelt in
    let count = c.loop-i.invariant.bytes.count in
    record {
      bytes = AreDigits-set digits c.loop-i.i (high * 16 + low) (omega (arith, first.0, second.0)) c.loop-i.invariant.bytes;
      spelt = hexadecimal_step digits text c.loop-i.i high low (omega arith) (omega arith) first.0 second.0
          c.loop-i.invariant.spelt first.1 second.1;
    }

pub returns-clause-found : goal.returns-clause-found
returns-clause-found c = λ digits are same.
    let count = c.loop-i.invariant.bytes.count in
    let whole : hexadecimal c.loop-i.digits ≡ c.args.text.now = grind (arith, common_steps) in
    ap Some (hexadecimal_injective c.loop-i.digits digits c.loop-i.invariant.bytes are (whole ∙ sym same))

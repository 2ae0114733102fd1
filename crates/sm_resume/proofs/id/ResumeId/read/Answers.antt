-- A text is read as the id that it spells, part by part.
use Rattle.std.proofs.Common.{rules, arith, ◌≡◌, ◌∙◌, sym, ap, ℕ, List, ◌+◌, length, drop, get_or, Some}
use Rattle.std.specs.Fmt.{decimal}
use Rattle.sm_resume.specs.declared.id.ResumeId.{ResumeId}
use Rattle.sm_resume.proofs.Parts.{behind_first, length-spelling, parts, same_id, spelling_of_parts}
use Rattle.sm_resume.proofs.id.ResumeId.read.Goals as goal

pub returns-in_err-start-clause-found : goal.returns-in_err-start-clause-found
returns-in_err-start-clause-found c = λ id is spelt.
    let size : length c.args.bytes.now ≡ length (decimal id.session) + 33 =
    sym (ap length spelt) ∙ length-spelling id is in
    absurd (c.in_err-start.ensures (omega arith))

pub returns-then-tail-ne45-clause-found : goal.returns-then-tail-ne45-clause-found
returns-then-tail-ne45-clause-found c = λ id is spelt.
    let has = parts id c.args.bytes.now c.in_ok-start.start is spelt c.in_ok-start.ensures.1 in
    absurd (c.if-tail-ne45.true (ap (λ (tail : List ℕ). get_or tail 0 0) (c.split_at.ensures.back ∙ has.tail)))

pub returns-in_err-session-clause-found : goal.returns-in_err-session-clause-found
returns-in_err-session-clause-found c = λ id is spelt.
    let has = parts id c.args.bytes.now c.in_ok-start.start is spelt c.in_ok-start.ensures.1 in
    let read = c.in_err-session.ensures.found id.session is.session
    (has.number ∙ sym c.split_at.ensures.front) in
    cc

pub returns-in_err-digits-clause-found : goal.returns-in_err-digits-clause-found
returns-in_err-digits-clause-found c = λ id is spelt.
    let has = parts id c.args.bytes.now c.in_ok-start.start is spelt c.in_ok-start.ensures.1 in
    let tail = c.split_at.result.1.now in
    let read = c.in_err-digits.ensures.found id.digits is.digits
    (sym (behind_first tail ∙ ap (drop 1) (c.split_at.ensures.back ∙ has.tail))) in
    cc

pub returns-clause-spelt : goal.returns-clause-spelt
returns-clause-spelt c =
    let id : ResumeId = record { session = c.in_ok-session.session; digits = c.in_ok-digits.digits } in
    let tail = c.split_at.result.1.now in
    let back = c.split_at.ensures.back in
    let start = c.in_ok-start.ensures in
    let digits = c.in_ok-digits.ensures.spelt in (
      record { session = search rules; digits = digits.0 },
      spelling_of_parts id c.args.bytes.now c.in_ok-start.start
          (c.in_ok-session.ensures.spelt ∙ c.split_at.ensures.front)
          (omega (arith, start.0, start.1))
          (sym (ap (λ (tail : List ℕ). get_or tail 0 0) back) ∙ c.if-tail-ne45.false)
          (digits.1 ∙ (behind_first tail ∙ ap (drop 1) back)),
    )

pub returns-clause-found : goal.returns-clause-found
returns-clause-found c = λ id is spelt.
    let has = parts id c.args.bytes.now c.in_ok-start.start is spelt c.in_ok-start.ensures.1 in
    let read : ResumeId = record { session = c.in_ok-session.session; digits = c.in_ok-digits.digits } in
    let session = c.in_ok-session.ensures.found id.session is.session
    (has.number ∙ sym c.split_at.ensures.front) in
    let tail = c.split_at.result.1.now in
    let digits = c.in_ok-digits.ensures.found id.digits is.digits
    (sym (behind_first tail ∙ ap (drop 1) (c.split_at.ensures.back ∙ has.tail))) in
    ap Some (same_id read id session digits)

use Rattle.std.proofs.Common.{rules, ◌≡◌, ◌∙◌, ap}
use Rattle.jid_core.specs.Preparation.{resource_of}
use Rattle.sm_resume.specs.Spelling.{hexadecimal}
use Rattle.house_core.proofs.DiceLemmas.{resource_of-hex, cause-read, read-once}
use Rattle.house_core.proofs.make.drawn.Goals as goal

pub no_memory-requires : goal.no_memory-requires
no_memory-requires c =
    let digits : c.as_slice.result.now ≡ hexadecimal c.args.dice.now = c.as_slice.ensures ∙ c.digits_of-digits.ensures in
    cause-read (resource_of c.as_slice.result.now) (hexadecimal c.args.dice.now) c.in-Err.fault
    (ap resource_of digits ∙ resource_of-hex c.args.dice.now (search rules) (λ i. search rules)) c.in-Err.ensures.fault

pub returns-in-Ok : goal.returns-in-Ok
returns-in-Ok c =
    let digits : c.as_slice.result.now ≡ hexadecimal c.args.dice.now = c.as_slice.ensures ∙ c.digits_of-digits.ensures in
    read-once (resource_of c.as_slice.result.now) c.in-Ok.resource (hexadecimal c.args.dice.now) c.in-Ok.ensures.ok
    (ap resource_of digits ∙ resource_of-hex c.args.dice.now (search rules) (λ i. search rules))

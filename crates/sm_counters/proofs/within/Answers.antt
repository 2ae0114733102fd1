-- The place is the distance, and the number is the base's number with the distance added.
use Rattle.std.proofs.Common.{◌≡◌, ◌∙◌, ap, ◌^◌, ◌<◌, ◌≤◌, Some, rules, arith}
use Rattle.sm_counters.specs.Numbers.{count_of, distance}
use Rattle.sm_counters.proofs.CountLaws.{number-far, number-near}
use Rattle.sm_counters.proofs.within.Goals as goal

pub returns-then-place-length-clause-number : goal.returns-then-place-length-clause-number
returns-then-place-length-clause-number c = λ a is.
    let h = c.args.h in
    let width = c.args.length in
    let fits : h < 2 ^ 32 = search rules in
    let place : c.ahead-place.result ≡ distance (count_of a) h =
    c.ahead-place.ensures.distance ∙ ap (λ base. distance base h) is in
    let near : distance (count_of a) h ≤ width = omega arith in
    rw (number-near a width h (omega arith) fits near) (ap Some (omega arith))

pub returns-else-place-length-clause-number : goal.returns-else-place-length-clause-number
returns-else-place-length-clause-number c = λ a is.
    let h = c.args.h in
    let width = c.args.length in
    let fits : h < 2 ^ 32 = search rules in
    let place : c.ahead-place.result ≡ distance (count_of a) h =
    c.ahead-place.ensures.distance ∙ ap (λ base. distance base h) is in
    let far : width < distance (count_of a) h = omega arith in
    rw (number-far a width h (omega arith) fits far)

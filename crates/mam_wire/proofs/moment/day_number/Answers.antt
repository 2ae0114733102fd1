use Rattle.std.proofs.Common.{arith, refl, w8, w16}
use Rattle.std.proofs.lemmas.Int.{to_z_pos}
use Rattle.mam_wire.proofs.MomentLemmas.{day_counted, day_is}
use Rattle.mam_wire.proofs.moment.day_number.Goals as goal

pub returns-in-Ok-clause-value : goal.returns-in-Ok-clause-value
returns-in-Ok-clause-value c =
    let year = to_z_pos w16 c.args.year (omega (arith, c.requires.year)) in
    let month = to_z_pos w8 c.args.month (omega (arith, c.requires.month)) in
    let day = to_z_pos w8 c.args.day (omega (arith, c.requires.day)) in
    let date = c.in-Ok.date in
    let is = c.in-Ok.ensures.succeeds.0 refl in
    let parts = c.in-Ok.ensures.value in
    day_is c.args.year c.args.month c.args.day date _
    (rw year at (rw month at (rw day at is)))
    (rw year at (rw month at (rw day at parts)))
    (day_counted date c.days_since_min.result c.days_since_min.ensures.value)

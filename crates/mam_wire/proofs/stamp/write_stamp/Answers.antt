use Rattle.std.proofs.Common.{◌≡◌, ℕ, pos, ◌∙◌, ◌/◌, ◌%◌, ◌<◌, ap, arith}
use Rattle.std.specs.Prelude.{unsigned_abs}
use Rattle.jiff.specs.Words.{epoch_day}
use Rattle.mam_wire.specs.Stamps.{counted, stamp_text}
use Rattle.mam_wire.proofs.DayAfterLemmas.{date-same}
use Rattle.mam_wire.proofs.DayLemmas.{abs-is, stamp-same}
use Rattle.mam_wire.proofs.stamp.write_stamp.Goals as goal

pub returns-clause-stamp : goal.returns-clause-stamp
returns-clause-stamp c =
    let d = c.date_of-date.result in
    let moment : c.min-moment.result ≡ counted c.args.moment = c.min-moment.ensures in
    record {
      date = d;
      year = unsigned_abs d.year;
      in_year = abs-is d.year c.date_of-date.ensures.year;
      on_day = c.date_of-date.ensures.day ∙ ap (λ (m : ℕ). pos (m / 86400000)) moment;
      spelt =
          c.stamp_of.ensures
          ∙ stamp-same _ _ _ _ _ _ _ _ c.year_of.ensures c.month_of.ensures c.day_of.ensures (ap (λ (m : ℕ). m % 86400000) moment);
    }

pub returns-clause-text : goal.returns-clause-text
unfolding stamp_text
returns-clause-text c =
    let d = c.date_of-date.result in
    let moment : c.min-moment.result ≡ counted c.args.moment = c.min-moment.ensures in
    let n : ℕ = counted c.args.moment / 86400000 in
    let few : n < 2932897 = omega arith in
    let on : epoch_day d ≡ pos n = c.date_of-date.ensures.day ∙ ap (λ (m : ℕ). pos (m / 86400000)) moment in
    let same = date-same n d few on in
    c.stamp_of.ensures
    ∙ stamp-same _ _ _ _ _ _ _ _ (c.year_of.ensures ∙ same.0) (c.month_of.ensures ∙ same.1) (c.day_of.ensures ∙ same.2)
    (ap (λ (m : ℕ). m % 86400000) moment)

-- Stamps, and the moments that they say (XEP-0082, 3.2).
use Rattle.std.proofs.Common.{◌≡◌, codes, refl}
use Rattle.std.specs.Prelude.{Some, None}
use Rattle.jiff_core.specs.Calendar.{day_count, days_of_months, days_of_years}
use Rattle.mam_wire.specs.Moments.{stamp_value}

with-offset : stamp_value (codes "1970-01-01T01:00:00.5+01:00") ≡ Some 500
unfolding day_count days_of_months days_of_years
with-offset = refl

before-1970 : stamp_value (codes "1969-12-31T23:59:59Z") ≡ Some 0
unfolding day_count days_of_months days_of_years
before-1970 = refl

no-such-day : stamp_value (codes "2024-02-30T00:00:00Z") ≡ None
no-such-day = refl

last-moment : stamp_value (codes "9999-12-31T23:59:59.999Z") ≡ Some 253402300799999
unfolding day_count days_of_months days_of_years
last-moment = refl

past-the-end : stamp_value (codes "9999-12-31T23:59:59.999-00:01") ≡ Some 253402300799999
unfolding day_count days_of_months days_of_years
past-the-end = refl

leap-day : stamp_value (codes "2024-02-29T12:00:00Z") ≡ Some 1709208000000
unfolding day_count days_of_months days_of_years
leap-day = refl

digits-cut : stamp_value (codes "2026-01-01T00:00:00.123456789Z") ≡ Some 1767225600123
unfolding day_count days_of_months days_of_years
digits-cut = refl

ten-digits : stamp_value (codes "2026-01-01T00:00:00.1234567890Z") ≡ None
ten-digits = refl

no-zone : stamp_value (codes "2026-01-01T00:00:00") ≡ None
no-zone = refl

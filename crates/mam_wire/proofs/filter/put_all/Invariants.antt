use Rattle.std.proofs.Common.{◌≡◌, drop, Ok}
use Rattle.mam_wire.specs.Filters.{no_filter, put_all}
use Rattle.mam_wire.proofs.filter.put_all.Given as goal

abbrev pub invariant-loop-field : goal.invariant-loop-field
invariant-loop-field l = put_all (drop l.field-index l.fields) (Ok l.filter) ≡ put_all l.fields (Ok no_filter)

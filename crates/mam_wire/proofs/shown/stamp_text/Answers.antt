use Rattle.std.proofs.Common.{rules, ◌≡◌, subst, sym}
use Rattle.std.specs.Prelude.{IsUtf8}
use Rattle.mam_wire.proofs.Utf8Lemmas.{stamp-utf8}
use Rattle.mam_wire.proofs.shown.stamp_text.Goals as goal

pub of_vec-requires : goal.of_vec-requires
of_vec-requires c =
    let same : c.in_ok-to_vec.field-0.items ≡ c.write_stamp-stamp.result = search rules in
    subst IsUtf8 (sym same) (stamp-utf8 c.args.moment c.write_stamp-stamp.result c.write_stamp-stamp.ensures.stamp)

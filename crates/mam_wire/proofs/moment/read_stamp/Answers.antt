use Rattle.std.proofs.Common.{◌∙◌}
use Rattle.mam_wire.proofs.MomentLemmas.{stamp_parts}
use Rattle.mam_wire.proofs.moment.read_stamp.Goals as goal

pub returns : goal.returns
returns c =
    c.stamp_by.ensures
    ∙ stamp_parts c.args.text.now _ _ _ _ _ _ c.min.ensures c.split_at.ensures.front c.split_at.ensures.back c.zone_place.ensures.place
    c.split_at-2.ensures.front c.split_at-2.ensures.back

use Rattle.std.proofs.Common.{sym, subst, IsUtf8}
use Rattle.stream_frames.proofs.TextLemmas.{local_utf8}
use Rattle.stream_frames.proofs.tags.copied_local.Goals as goal

pub from_utf8_unchecked-requires : goal.from_utf8_unchecked-requires
from_utf8_unchecked-requires c = subst IsUtf8 (sym c.local.ensures) (local_utf8 c.args.name.now c.requires)

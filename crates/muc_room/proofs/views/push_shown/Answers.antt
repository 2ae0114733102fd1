use Rattle.std.proofs.Common.{subst, sym, IsUtf8}
use Rattle.std.proofs.lemmas.Str.{IsUtf8-append}
use Rattle.muc_room.proofs.views.push_shown.Goals as goal

pub returns-in_ok-write_nodes-clause-utf8 : goal.returns-in_ok-write_nodes-clause-utf8
returns-in_ok-write_nodes-clause-utf8 c =
    λ u. subst IsUtf8 (sym c.in_ok-write_nodes.ensures.ok) (IsUtf8-append _ _ u c.in_ok-write_nodes.ensures.utf8)

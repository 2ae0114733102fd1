use Rattle.std.proofs.Common.{◌≡◌, drop}
use Rattle.muc_admin.specs.Afterwards.{with_roles}
use Rattle.muc_admin.proofs.afterwards.give_roles.Given as goal

abbrev pub invariant-loop-session : goal.invariant-loop-session
invariant-loop-session l = with_roles (drop l.session-index l.sessions) l.fn.role l.room ≡ with_roles l.fn.sessions l.fn.role l.fn.room

use Rattle.std.proofs.Common.{◌≡◌, take}
use Rattle.muc_service.proofs.rooms.copy_hosted.Given as goal

abbrev pub invariant-loop-h : goal.invariant-loop-h
invariant-loop-h l = l.copies.items ≡ take l.h-index l.hosted

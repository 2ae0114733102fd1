use Rattle.std.proofs.Common.{refl, ◌∙◌}
use Rattle.conn_serve.proofs.Leaving.{gone, gone_spent, gone_unturned}
use Rattle.conn_serve.proofs.Marking.{left_marked, refused_marks, unleft, unturned}
use Rattle.conn_serve.proofs.service.conclude.Goals as goal

pub returns-in-NoTurn-clause-gone : goal.returns-in-NoTurn-clause-gone
returns-in-NoTurn-clause-gone g c = λ domain accounts a v moments drawn dice h. gone_spent _ a v _ (rw c.in-NoTurn.is at h)

pub returns-in-Ok-clause-gone : goal.returns-in-Ok-clause-gone
returns-in-Ok-clause-gone g c = λ domain accounts a v moments drawn dice h.
    gone _ domain accounts a v c.in-Over.ended c.in-Over.moment _ _ _ _ _ moments drawn _ _ _ _ dice (rw c.in-Over.is at h) c.in-Ok.ensures.served.3
    c.ring_stirred.ensures.tape c.ring_stirred.ensures.faults c.ring_stirred.ensures.ends

pub returns-in-Err-clause-gone : goal.returns-in-Err-clause-gone
returns-in-Err-clause-gone g c = λ domain accounts a v moments drawn dice h.
    gone_unturned _ a v c.in-Over.ended c.in-Over.moment _ _ _ _ _ moments drawn _ _ dice (rw c.in-Over.is at h) c.in-Err.ensures.served

pub returns-in-NoTurn-clause-mark : goal.returns-in-NoTurn-clause-mark
returns-in-NoTurn-clause-mark g c = unturned _ _ _ c.in-NoTurn.is refl

pub returns-in-Ok-clause-mark : goal.returns-in-Ok-clause-mark
returns-in-Ok-clause-mark g c = left_marked _ c.in-Over.ended c.in-Over.moment _ _ c.in-Over.is c.in-Ok.ensures.mark

pub returns-in-Err-clause-mark : goal.returns-in-Err-clause-mark
returns-in-Err-clause-mark g c =
    unleft _ c.in-Over.ended c.in-Over.moment _ _ c.in-Over.is
    (c.in-Err.ensures.mark ∙ refused_marks c.in-Err.field-0 _ c.in-Over.ended c.in-Over.moment _ _ _ c.in-Err.ensures.served)

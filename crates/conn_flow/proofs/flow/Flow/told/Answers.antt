use Rattle.conn_flow.proofs.Replies.{told_keeps}
use Rattle.conn_flow.proofs.ReplyEnds.{tells_own}
use Rattle.conn_flow.proofs.flow.Flow.told.Goals as goal

pub invariant_of-self-else-told : goal.invariant_of-self-else-told
invariant_of-self-else-told c =
    let kept =
    told_keeps c.self.inside.talk _ _ c.self.inside.framer.reading (rw (← c.self.view_is) at c.requires) c.self.invariant.0 c.self.invariant.1
    c.told.ensures.state in
    (kept.0, kept.1, tells_own c.self.inside.talk _ _ (rw (← c.self.view_is) at c.requires) c.told.ensures.state)

use Rattle.std.proofs.Common.{◌≡◌, ◌<◌, length, leb-false, ◌∙◌}
use Rattle.conn_serve.proofs.Sending.{left_over}
use Rattle.conn_serve.proofs.owed.Owed.is_empty.Goals as goal

pub returns-clause-some : goal.returns-clause-some
returns-clause-some c = λ few none.
    let less : c.self.inside.sent < c.len.result = leb-false _ _ few in
    let same : c.len.result ≡ length c.self.inside.bytes.items = search in
    left_over c.self.inside.bytes.items c.self.inside.sent (rw same at less) (c.self.view_is ∙ none)

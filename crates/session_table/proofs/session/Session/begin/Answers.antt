use Rattle.std.proofs.Common.{ap}
use Rattle.session_table.specs.Sessions.{OwnRecord, begun, with_own}
use Rattle.session_table.proofs.session.Session.begin.Goals as goal

pub returns : goal.returns
returns c =
    let number = c.args.number in
    let address = c.args.address in
    let w = c.args.w in
    ap (λ (own : OwnRecord). with_own own (begun number address w)) (c.begin.ensures number w address)

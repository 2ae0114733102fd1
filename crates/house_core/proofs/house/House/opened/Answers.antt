use Rattle.std.proofs.Common.{ap, ◌∙◌}
use Rattle.house_model.proofs.Turns.{opened-counted}
use Rattle.house_core.specs.Houses.{HouseRecord, held}
use Rattle.house_core.proofs.house.House.opened.Goals as goal

pub returns-clause-history : goal.returns-clause-history
returns-clause-history c = λ o h stands.
    c.opened.ensures ∙ (ap (λ (x : HouseRecord). x.table.opened) c.self.view_is ∙ opened-counted o h (held c.args.self.now) stands)

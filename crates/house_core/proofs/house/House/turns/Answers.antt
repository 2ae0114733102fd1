use Rattle.std.proofs.Common.{ap, ◌∙◌}
use Rattle.house_model.proofs.Turns.{turns-counted}
use Rattle.house_core.specs.Houses.{HouseRecord, held}
use Rattle.house_core.proofs.house.House.turns.Goals as goal

pub returns-clause-history : goal.returns-clause-history
returns-clause-history c = λ o h stands.
    ap (λ (x : HouseRecord). x.turns) c.self.view_is ∙ turns-counted o h (held c.args.self.now) stands

use Rattle.std.proofs.Common.{◌++◌, ◌∷◌, [], refl, arith}
use Rattle.house_model.specs.Gate.{closed}
use Rattle.session_table.specs.Tables.{line_of}
use Rattle.house_model.specs.Effects.{At, Leave}
use Rattle.house_core.proofs.CallLemmas.{closed_then, later_passed, whole_is}
use Rattle.house_core.proofs.house.House.apply_close.Goals as goal

pub invariant_of-self-in_default : goal.invariant_of-self-in_default
invariant_of-self-in_default c =
    let h = c.self.inside in
    let now = c.later-self-inside.result in
    whole_is h.users h.turns h.moment now h.world c.quit.new.self (closed (line_of c.args.w h.world.table) ++ At c.args.w Leave ∷ []) 0
    c.self.invariant (later_passed h.moment c.args.t now c.self.invariant.passed c.later-self-inside.ensures) (omega arith)
    (closed_then (line_of c.args.w h.world.table) (At c.args.w Leave) (λ world. (refl, refl, refl))) c.quit.ensures

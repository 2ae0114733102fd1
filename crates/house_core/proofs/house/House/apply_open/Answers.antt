use Rattle.std.proofs.Common.{◌++◌, ◌∷◌, [], refl, arith}
use Rattle.session_table.specs.Tables.{line_of}
use Rattle.house_model.specs.Effects.{Open}
use Rattle.house_world.specs.Worlds.{left_at, seen}
use Rattle.house_core.proofs.CallLemmas.{left_then, whole_is}
use Rattle.house_core.proofs.house.House.apply_open.Goals as goal

pub invariant_of-self : goal.invariant_of-self
invariant_of-self c =
    let h = c.self.inside in
    whole_is h.users h.turns h.moment h.moment h.world c.open.new.self
    (left_at (seen h.world) h.moment (line_of c.args.w h.world.table) ++ Open c.args.w ∷ []) 1
    c.self.invariant c.self.invariant.passed (omega arith)
    (left_then (seen h.world) h.moment (line_of c.args.w h.world.table) (Open c.args.w) (λ world. (refl, refl, refl))) c.open.ensures.did

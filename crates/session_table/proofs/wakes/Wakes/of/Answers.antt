use Rattle.std.proofs.Common.{◌^◌, ◌≤◌, ◌*◌, ◌-◌, ◌%◌, ℕ, arith}
use Rattle.std.proofs.Math.Pow.{pow_mono}
use Rattle.std.specs.Vec.{vec_len}
use Rattle.session_table.proofs.WakeLemmas.{new_places}
use Rattle.session_table.proofs.wakes.Wakes.of.Goals as goal

pub returns : goal.returns
returns c =
    let k = c.args.levels in
    let small : 2 ^ k ≤ 2 ^ 40 = pow_mono c.requires in
    let many : ℕ = (2 * 2 ^ k) % 2 ^ 64 in
    new_places (2 ^ k) many (many - vec_len c.new-nodes.result) c.new-nodes.result.items c.resize.new.self.items
    c.new-nodes.ensures.items c.in_ok-resize.ensures.items (omega (arith, small, c.new-nodes.ensures.len))

use Rattle.std.proofs.Common.{◌≡◌, ◌++◌, drop, map}
use Rattle.muc_settings.specs.Settings.{choice_node}
use Rattle.muc_settings.proofs.setting.push_choices.Given as goal

abbrev pub invariant-loop-value : goal.invariant-loop-value
invariant-loop-value l =
    l.nodes.items ++ map choice_node (map (λ v. v.now) (drop l.value-index l.values))
    ≡ l.fn.nodes.items ++ map choice_node (map (λ v. v.now) l.fn.values)

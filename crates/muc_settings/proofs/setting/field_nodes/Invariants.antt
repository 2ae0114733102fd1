use Rattle.std.proofs.Common.{◌≡◌, ◌++◌, drop, map}
use Rattle.muc_settings.specs.Settings.{field_node}
use Rattle.muc_settings.proofs.setting.field_nodes.Given as goal

abbrev pub invariant-loop-setting : goal.invariant-loop-setting
invariant-loop-setting l =
    l.nodes.items ++ map (field_node l.fn.config) (drop l.setting-index l.settings) ≡ map (field_node l.fn.config) l.fn.settings

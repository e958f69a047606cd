-- The fusion sets so far keep the rule, and those of the rest decide.
use Rattle.std.proofs.Common.{◌≡◌, drop, map}
use Rattle.cpn_readings.specs.Rules.{first_broken, each_item}
use Rattle.cpn_module.specs.Views.{fusion_set_view, hierarchy_view}
use Rattle.cpn_module.specs.ModuleRules.{fusion_port_rules}
use Rattle.cpn_module.proofs.FusionRules.{no_port_rules}
use Rattle.cpn_module.proofs.fusions.check_fusion_ports.Given as goal

abbrev pub invariant-loop-number : goal.invariant-loop-number
invariant-loop-number l = first_broken (each_item (no_port_rules (hierarchy_view l.hierarchy)) l.number (map fusion_set_view (drop l.number l.fusion-items))) ≡ first_broken (fusion_port_rules (hierarchy_view l.hierarchy))

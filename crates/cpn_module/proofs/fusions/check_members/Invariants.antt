-- The members so far are no ports, and those of the rest decide.
use Rattle.std.proofs.Common.{◌≡◌, drop, map}
use Rattle.cpn_readings.specs.Rules.{first_broken, each_item}
use Rattle.cpn_module.specs.Views.{fused_view, hierarchy_view}
use Rattle.cpn_module.specs.ModuleRules.{rule}
use Rattle.cpn_module.proofs.FusionRules.{is_no_port, is_port_there, no_port_rules}
use Rattle.cpn_module.proofs.fusions.check_members.Given as goal

abbrev pub invariant-loop-number : goal.invariant-loop-number
invariant-loop-number l = first_broken (each_item (λ k member. rule (is_no_port (hierarchy_view l.hierarchy) k member) (is_port_there l.in_fusion k member)) l.number (map fused_view (drop l.number l.members))) ≡ first_broken (no_port_rules (hierarchy_view l.hierarchy) l.in_fusion (map fused_view l.members))

-- The modules so far keep the rule, and those of the rest decide.
use Rattle.std.proofs.Common.{◌≡◌, drop, map}
use Rattle.cpn_readings.specs.Rules.{first_broken, each_item}
use Rattle.cpn_module.specs.Views.{structure_view, hierarchy_view}
use Rattle.cpn_module.specs.ModuleRules.{port_rules}
use Rattle.cpn_module.proofs.PortRules.{substitution_rules}
use Rattle.cpn_module.proofs.ports.check_ports.Given as goal

abbrev pub invariant-loop-number : goal.invariant-loop-number
invariant-loop-number l = first_broken (each_item substitution_rules l.number (map structure_view (drop l.number l.structure-items))) ≡ first_broken (port_rules (hierarchy_view l.hierarchy))

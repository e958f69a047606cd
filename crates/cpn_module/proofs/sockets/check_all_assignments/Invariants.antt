-- The substitution transitions so far keep the rule, and those of the rest decide.
use Rattle.std.proofs.Common.{◌≡◌, drop, map}
use Rattle.cpn_readings.specs.Rules.{first_broken, each_item}
use Rattle.cpn_module.specs.Views.{substitution_view, structure_view, hierarchy_view}
use Rattle.cpn_module.proofs.SocketRules.{assignment_rules, substitution_rules}
use Rattle.cpn_module.proofs.sockets.check_all_assignments.Given as goal

abbrev pub invariant-loop-number : goal.invariant-loop-number
invariant-loop-number l = first_broken (each_item (assignment_rules (hierarchy_view l.hierarchy) l.in_module (structure_view l.structure)) l.number (map substitution_view (drop l.number l.substitution-items))) ≡ first_broken (substitution_rules (hierarchy_view l.hierarchy) l.in_module (structure_view l.structure))

-- The sockets so far are of the types of their ports, and those of the rest decide.
use Rattle.std.proofs.Common.{◌≡◌, drop, map}
use Rattle.cpn_readings.specs.Rules.{first_broken, each_item}
use Rattle.cpn_module.specs.Hierarchy.{structure_at}
use Rattle.cpn_module.specs.Views.{assigned_view, hierarchy_view}
use Rattle.cpn_module.specs.ModuleRules.{rule}
use Rattle.cpn_module.proofs.SocketRules.{is_of_type, is_other_type, paired_rules}
use Rattle.cpn_module.proofs.sockets.check_assignments.Given as goal

abbrev pub invariant-loop-number : goal.invariant-loop-number
invariant-loop-number l = first_broken (each_item (λ k a. rule (is_of_type l.sockets.inputs l.sockets.outputs (structure_at (hierarchy_view l.hierarchy) l.substitution.submodule) l.in_sub k a) (is_other_type l.in_module l.in_sub k a)) l.number (map assigned_view (drop l.number l.assignment-items))) ≡ first_broken (paired_rules l.sockets.inputs l.sockets.outputs (structure_at (hierarchy_view l.hierarchy) l.substitution.submodule) l.in_module l.in_sub (map assigned_view l.substitution.assignments.items))

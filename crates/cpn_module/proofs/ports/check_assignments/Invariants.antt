-- The ports so far are apart, and those of the rest decide.
use Rattle.std.proofs.Common.{◌≡◌, drop, take, map}
use Rattle.cpn_readings.specs.Rules.{first_broken, each_item}
use Rattle.cpn_module.specs.Views.{assigned_view}
use Rattle.cpn_module.specs.ModuleRules.{rule}
use Rattle.cpn_module.proofs.PortRules.{is_new_port, is_port_twice, ports_of}
use Rattle.cpn_module.proofs.ports.check_assignments.Given as goal

abbrev pub invariant-loop-number : goal.invariant-loop-number
invariant-loop-number l = record {
  ports : l.assigned ≡ ports_of (take l.number l.assignments);
  rest : first_broken (each_item (λ k a. rule (is_new_port (map assigned_view l.assignments) k a) (is_port_twice l.in_module l.in_sub k a)) l.number (map assigned_view (drop l.number l.assignments))) ≡ first_broken (each_item (λ k a. rule (is_new_port (map assigned_view l.assignments) k a) (is_port_twice l.in_module l.in_sub k a)) 0 (map assigned_view l.assignments));
}

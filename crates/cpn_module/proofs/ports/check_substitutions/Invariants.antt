-- The substitution transitions so far keep the rule, and those of the rest decide.
use Rattle.std.proofs.Common.{◌≡◌, drop, map}
use Rattle.cpn_readings.specs.Rules.{first_broken, each_item}
use Rattle.cpn_module.specs.Views.{substitution_view}
use Rattle.cpn_module.proofs.PortRules.{assignment_rules}
use Rattle.cpn_module.proofs.ports.check_substitutions.Given as goal

abbrev pub invariant-loop-number : goal.invariant-loop-number
invariant-loop-number l = first_broken (each_item (assignment_rules l.in_module) l.number (map substitution_view (drop l.number l.substitutions))) ≡ first_broken (each_item (assignment_rules l.in_module) 0 (map substitution_view l.substitutions))

-- The rules are looked at one group behind the other.
use Rattle.std.proofs.Common.{rules}
use Rattle.cpn_module.specs.ModuleRules.{relation_rules}
use Rattle.cpn_readings.proofs.BrokenRules.{broken_append}
use Rattle.cpn_module.proofs.checking.check_relations.Goals as goal

pub returns-in_err-check_sockets : goal.returns-in_err-check_sockets
unfolding relation_rules
returns-in_err-check_sockets c = search (rules, broken_append)

pub returns-in_err-check_colours : goal.returns-in_err-check_colours
unfolding relation_rules
returns-in_err-check_colours c = search (rules, broken_append)

pub returns-in_err-check_ports : goal.returns-in_err-check_ports
unfolding relation_rules
returns-in_err-check_ports c = search (rules, broken_append)

pub returns-in_err-check_fusion_ports : goal.returns-in_err-check_fusion_ports
unfolding relation_rules
returns-in_err-check_fusion_ports c = search (rules, broken_append)

pub returns-in_err-check_two_fusions : goal.returns-in_err-check_two_fusions
unfolding relation_rules
returns-in_err-check_two_fusions c = search (rules, broken_append)

pub returns : goal.returns
unfolding relation_rules
returns c = search (rules, broken_append)

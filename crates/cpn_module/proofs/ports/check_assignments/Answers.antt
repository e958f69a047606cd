-- Each assignment is the next one, of a new port or of one that was there.
use Rattle.std.proofs.Common.{sym, ◌∙◌, map, arith}
use Rattle.cpn_readings.specs.Rules.{first_broken, each_item}
use Rattle.cpn_readings.proofs.BrokenRules.{items_kept}
use Rattle.cpn_module.specs.Views.{assigned_view}
use Rattle.cpn_module.specs.ModuleRules.{rule}
use Rattle.cpn_module.proofs.PortRules.{is_new_port, is_port_twice, new_told, ports_more}
use Rattle.cpn_module.proofs.OneRule.{one_kept, one_broken}
use Rattle.cpn_module.proofs.ports.check_assignments.Goals as goal

pub returns-then-not-branch : goal.returns-then-not-branch
returns-then-not-branch c =
    let all = c.args.assignments.now in
    let k = c.loop-number.number in
    record {
      checks = rw c.at_assignment-here.ensures.exact (one_broken assigned_view all k (record { port = 0; socket = 0 }) c.loop-number-test.true (is_new_port (map assigned_view all)) (is_port_twice c.args.in_module c.args.in_sub) (each_item (λ k a. rule (is_new_port (map assigned_view all) k a) (is_port_twice c.args.in_module c.args.in_sub k a)) 0 (map assigned_view all)) (sym (new_told all k (record { port = 0; socket = 0 }) c.loop-number-test.true c.loop-number.assigned c.loop-number.invariant.ports c.in_ok-add.field-0 c.in_ok-add.ensures.added) ∙ c.if-not-branch.true) c.loop-number.invariant.rest);
    }

pub loop-number-preserved : goal.loop-number-preserved
loop-number-preserved c =
    let all = c.args.assignments.now in
    let k = c.loop-number.number in
    record {
      ports = ports_more all k (record { port = 0; socket = 0 }) c.loop-number-test.true c.loop-number.assigned c.loop-number.invariant.ports c.in_ok-add.field-0 c.in_ok-add.ensures.added c.add.new.self c.in_ok-add.ensures.numbers c.if-not-branch.false;
      rest = one_kept assigned_view all k (record { port = 0; socket = 0 }) c.loop-number-test.true (is_new_port (map assigned_view all)) (is_port_twice c.args.in_module c.args.in_sub) (first_broken (each_item (λ k a. rule (is_new_port (map assigned_view all) k a) (is_port_twice c.args.in_module c.args.in_sub k a)) 0 (map assigned_view all))) (sym (new_told all k (record { port = 0; socket = 0 }) c.loop-number-test.true c.loop-number.assigned c.loop-number.invariant.ports c.in_ok-add.field-0 c.in_ok-add.ensures.added) ∙ c.if-not-branch.false) c.loop-number.invariant.rest;
    }

pub returns : goal.returns
returns c = record { checks = items_kept assigned_view c.args.assignments.now c.loop-number.number (omega arith) _ _ c.loop-number.invariant.rest }

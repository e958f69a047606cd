-- Each assignment is the next one, and its socket is of the type of its port or of another.
use Rattle.std.proofs.Common.{refl, sym, ap₂, ◌∙◌, map, arith}
use Rattle.cpn_readings.specs.Rules.{first_broken}
use Rattle.cpn_readings.proofs.BrokenRules.{items_kept}
use Rattle.cpn_module.specs.Hierarchy.{structure_at}
use Rattle.cpn_module.specs.Views.{assigned_view, hierarchy_view}
use Rattle.cpn_module.specs.ModuleRules.{are_one_type}
use Rattle.cpn_module.proofs.SocketRules.{is_of_type, is_other_type, paired_rules}
use Rattle.cpn_module.proofs.OneRule.{one_kept, one_broken}
use Rattle.cpn_module.proofs.sockets.check_assignments.Goals as goal

pub loop-number-init : goal.loop-number-init
loop-number-init c = rw c.deref-assignment-items.ensures.value refl

pub returns-then-not-are_one_type : goal.returns-then-not-are_one_type
returns-then-not-are_one_type c =
    let sockets = c.args.sockets.now in
    let submodule = structure_at (hierarchy_view c.args.hierarchy.now) c.args.substitution.now.submodule in
    record {
      checks = rw c.at_assignment-here.ensures.exact (one_broken assigned_view c.deref-assignment-items.result.now c.loop-number.number (record { port = 0; socket = 0 }) c.loop-number-test.true (is_of_type sockets.inputs sockets.outputs submodule c.args.in_sub) (is_other_type c.args.in_module c.args.in_sub) (paired_rules sockets.inputs sockets.outputs submodule c.args.in_module c.args.in_sub (map assigned_view c.args.substitution.now.assignments.items)) (sym (c.if-not-are_one_type.ensures.exact ∙ ap₂ are_one_type c.type_of-socket.ensures.exact c.port_at-port.ensures.exact)) c.loop-number.invariant);
    }

pub loop-number-preserved : goal.loop-number-preserved
loop-number-preserved c =
    let sockets = c.args.sockets.now in
    let submodule = structure_at (hierarchy_view c.args.hierarchy.now) c.args.substitution.now.submodule in
    one_kept assigned_view c.deref-assignment-items.result.now c.loop-number.number (record { port = 0; socket = 0 }) c.loop-number-test.true (is_of_type sockets.inputs sockets.outputs submodule c.args.in_sub) (is_other_type c.args.in_module c.args.in_sub) (first_broken (paired_rules sockets.inputs sockets.outputs submodule c.args.in_module c.args.in_sub (map assigned_view c.args.substitution.now.assignments.items))) (sym (c.if-not-are_one_type.ensures.exact ∙ ap₂ are_one_type c.type_of-socket.ensures.exact c.port_at-port.ensures.exact)) c.loop-number.invariant

pub returns : goal.returns
returns c = record { checks = items_kept assigned_view c.deref-assignment-items.result.now c.loop-number.number (omega arith) _ _ c.loop-number.invariant }

-- Each member is the next one of the set, and is a port or none.
use Rattle.std.proofs.Common.{sym, ap, ◌∙◌, not, map, arith}
use Rattle.std.specs.Prelude.{is_some}
use Rattle.cpn_readings.specs.Rules.{first_broken}
use Rattle.cpn_readings.proofs.BrokenRules.{items_kept}
use Rattle.cpn_module.specs.Views.{fused_view, hierarchy_view}
use Rattle.cpn_module.proofs.FusionRules.{is_no_port, is_port_there, no_port_rules}
use Rattle.cpn_module.proofs.OneRule.{one_kept, one_broken}
use Rattle.cpn_module.proofs.fusions.check_members.Goals as goal

pub returns-then-is_some : goal.returns-then-is_some
returns-then-is_some c =
    let h = hierarchy_view c.args.hierarchy.now in
    record {
      checks = rw c.at_member.ensures.exact (one_broken fused_view c.args.members.now c.loop-number.number (record { of_module = 0; place = 0 }) c.loop-number-test.true (is_no_port h) (is_port_there c.args.in_fusion) (no_port_rules h c.args.in_fusion (map fused_view c.args.members.now)) (sym (ap not (c.if-is_some.ensures ∙ ap is_some c.port_at.ensures.exact))) c.loop-number.invariant);
    }

pub loop-number-preserved : goal.loop-number-preserved
loop-number-preserved c =
    let h = hierarchy_view c.args.hierarchy.now in
    one_kept fused_view c.args.members.now c.loop-number.number (record { of_module = 0; place = 0 }) c.loop-number-test.true (is_no_port h) (is_port_there c.args.in_fusion) (first_broken (no_port_rules h c.args.in_fusion (map fused_view c.args.members.now))) (sym (ap not (c.if-is_some.ensures ∙ ap is_some c.port_at.ensures.exact))) c.loop-number.invariant

pub returns : goal.returns
returns c = record { checks = items_kept fused_view c.args.members.now c.loop-number.number (omega arith) _ _ c.loop-number.invariant }

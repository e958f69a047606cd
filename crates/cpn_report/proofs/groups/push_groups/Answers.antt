-- Each turn writes the next group, and what stands between it and the next one unless it is the last.
use Rattle.std.proofs.Common.{rules}
use Rattle.std.specs.Prelude.{codes}
use Rattle.std.specs.String.{string_bytes}
use Rattle.cpn_definitions.specs.Sound.{may_hold}
use Rattle.cpn_core.specs.Colours.{colour_view}
use Rattle.cpn_core.specs.Nets.{net_view}
use Rattle.cpn_tmset.specs.ListedViews.{group_view}
use Rattle.cpn_report.specs.Lines.{group_text}
use Rattle.cpn_report.proofs.PrintableNets.{passes_seen}
use Rattle.cpn_report.proofs.JoinedTexts.{joined_more, joined_last}
use Rattle.cpn_report.proofs.groups.push_groups.Goals as goal
use Rattle.cpn_report.proofs.groups.push_groups.Goals.{then-number-groups+in_ok-push_str, else-number-groups}

pub push_group-requires-clause-held : goal.push_group-requires-clause-held
push_group-requires-clause-held c = passes_seen (λ group. may_hold (colour_view c.args.colour.now) group.token) group_view c.args.groups.now c.loop-number.number c.index-groups-number.result c.loop-number-test.true c.index-groups-number.is c.requires.held

pub loop-number-preserved : goal.loop-number-preserved
loop-number-preserved c =
    elim c.if-number-groups.branch [
      | then-number-groups+in_ok-push_str w ↦ joined_more (codes " ++ ") (group_text (net_view c.args.net.now) (colour_view c.args.colour.now)) group_view c.args.groups.now c.loop-number.number c.index-groups-number.result (string_bytes c.loop-number.out) (string_bytes c.if-number-groups.out) _ c.loop-number-test.true c.index-groups-number.is w.if-number-groups.true c.loop-number.invariant (search rules)
      | else-number-groups w ↦ joined_last (codes " ++ ") (group_text (net_view c.args.net.now) (colour_view c.args.colour.now)) group_view c.args.groups.now c.loop-number.number c.index-groups-number.result (string_bytes c.loop-number.out) (string_bytes c.if-number-groups.out) _ c.loop-number-test.true c.index-groups-number.is w.if-number-groups.false c.loop-number.invariant (search rules)
    ]

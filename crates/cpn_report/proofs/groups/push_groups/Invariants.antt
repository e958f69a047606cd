-- The groups so far are written, each with what stands between it and the next; with the rest they are all.
use Rattle.std.proofs.Common.{◌≡◌, ◌++◌, map, drop}
use Rattle.std.specs.Prelude.{codes}
use Rattle.std.specs.String.{string_bytes}
use Rattle.cpn_core.specs.Colours.{colour_view}
use Rattle.cpn_core.specs.Nets.{net_view}
use Rattle.cpn_tmset.specs.ListedViews.{groups_view}
use Rattle.cpn_report.specs.Lines.{group_text}
use Rattle.cpn_report.specs.ValueText.{joined}
use Rattle.cpn_report.proofs.groups.push_groups.Given as goal

abbrev pub invariant-loop-number : goal.invariant-loop-number
invariant-loop-number l =
    string_bytes l.out ++ joined (codes " ++ ") (map (group_text (net_view l.net) (colour_view l.colour)) (groups_view (drop l.number l.groups)))
    ≡ string_bytes l.initial.out ++ joined (codes " ++ ") (map (group_text (net_view l.net) (colour_view l.colour)) (groups_view l.groups))

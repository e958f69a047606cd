-- The pairs so far are written, each with what stands between it and the next; with the rest they are all.
use Rattle.std.proofs.Common.{◌≡◌, ◌++◌, map, drop}
use Rattle.std.specs.Prelude.{codes}
use Rattle.std.specs.String.{string_bytes}
use Rattle.cpn_core.specs.Nets.{net_view}
use Rattle.cpn_core.specs.Pairs.{pairs_view}
use Rattle.cpn_report.specs.Lines.{pair_text}
use Rattle.cpn_report.specs.ValueText.{joined}
use Rattle.cpn_report.proofs.elements.push_pairs.Given as goal

abbrev pub invariant-loop-number : goal.invariant-loop-number
invariant-loop-number l =
    string_bytes l.out ++ joined (codes ", ") (map (pair_text (net_view l.net)) (pairs_view (drop l.number l.pairs)))
    ≡ string_bytes l.initial.out ++ joined (codes ", ") (map (pair_text (net_view l.net)) (pairs_view l.pairs))

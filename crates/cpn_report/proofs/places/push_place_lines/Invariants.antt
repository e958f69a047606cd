-- The lines so far are written; with those of the places that are left they are all.
use Rattle.std.proofs.Common.{◌≡◌, ◌++◌, map, drop}
use Rattle.std.specs.String.{string_bytes}
use Rattle.cpn_core.specs.Nets.{net_view, place_view}
use Rattle.cpn_report.specs.Lines.{lines_text}
use Rattle.cpn_report.specs.Report.{place_lines_from, place_lines}
use Rattle.cpn_report.proofs.places.push_place_lines.Given as goal

abbrev pub invariant-loop-number : goal.invariant-loop-number
invariant-loop-number l =
    string_bytes l.out ++ lines_text (net_view l.net) (place_lines_from l.number (map place_view (drop l.number l.places)) l.marking)
    ≡ string_bytes l.initial.out ++ lines_text (net_view l.net) (place_lines (map place_view l.places) l.marking)

-- The lines so far are written; with the rest they are those of all the occurrences.
use Rattle.std.proofs.Common.{◌≡◌, ◌++◌, map, drop}
use Rattle.std.specs.String.{string_bytes}
use Rattle.cpn_core.specs.Nets.{net_view}
use Rattle.cpn_core.specs.Occurrences.{occurrence_view}
use Rattle.cpn_report.specs.Lines.{occurrence_line, lines_text}
use Rattle.cpn_report.proofs.elements.push_occurrences.Given as goal

abbrev pub invariant-loop-occurrence : goal.invariant-loop-occurrence
invariant-loop-occurrence l =
    string_bytes l.out ++ lines_text (net_view l.net) (map occurrence_line (map occurrence_view (drop l.occurrence-index l.occurrences)))
    ≡ string_bytes l.initial.out ++ lines_text (net_view l.net) (map occurrence_line (map occurrence_view l.occurrences))

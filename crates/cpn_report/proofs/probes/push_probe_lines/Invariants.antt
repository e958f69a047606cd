-- The lines so far are written; with those of the texts that are left they are all.
use Rattle.std.proofs.Common.{◌≡◌, ◌++◌, drop}
use Rattle.std.specs.List.{flat_map}
use Rattle.std.specs.String.{string_bytes}
use Rattle.cpn_report.specs.Lines.{ended}
use Rattle.cpn_report.specs.Report.{probes_texts}
use Rattle.cpn_report.proofs.probes.push_probe_lines.Given as goal

abbrev pub invariant-loop-number : goal.invariant-loop-number
invariant-loop-number l = string_bytes l.out ++ flat_map ended (probes_texts l.number (drop l.number l.said)) ≡ string_bytes l.initial.out ++ flat_map ended (probes_texts 0 l.said)

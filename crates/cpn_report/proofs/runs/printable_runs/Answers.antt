-- A run of a printable net can be printed.
use Rattle.cpn_report.proofs.PrintableRuns.{is_printable_in_part, is_printable}
use Rattle.cpn_report.proofs.runs.printable_runs.Goals as goal

pub returns : goal.returns
returns c = record { in_part = is_printable_in_part; printable = is_printable }

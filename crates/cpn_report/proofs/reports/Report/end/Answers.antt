-- The lines of probes and the total are written after the runs.
use Rattle.std.specs.String.{string_bytes}
use Rattle.cpn_report.proofs.ReportTexts.{all_written}
use Rattle.cpn_report.proofs.reports.Report.end.Goals as goal

pub returns : goal.returns
returns c = record {
  text = λ trace tolds is.
      all_written trace tolds c.args.said.now c.args.self.occurrences (string_bytes c.args.self.text) (string_bytes c.push_probe_lines.new.out) (string_bytes c.push_total_line.new.out) is.text_is is.occurrences_are c.in_ok-push_probe_lines.ensures.written
      c.in_ok-push_total_line.ensures.written;
}

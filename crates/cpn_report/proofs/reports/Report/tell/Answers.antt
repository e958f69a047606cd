-- What is written are the lines of the next run, and it is counted.
use Rattle.std.proofs.Common.{◌∷◌, [], length-append, arith}
use Rattle.std.proofs.lemmas.List.{length-map}
use Rattle.std.specs.String.{string_bytes}
use Rattle.cpn_core.specs.Occurrences.{occurrence_view}
use Rattle.cpn_report.specs.Tells.{told_run}
use Rattle.cpn_report.proofs.ReportTexts.{told_more, tell_total}
use Rattle.cpn_report.proofs.reports.Report.tell.Goals as goal

pub returns : goal.returns
returns c = record {
  tells = λ trace tolds is.
      let told = told_run c.args.start c.args.finished.now in
      record {
        trace_is = is.trace_is;
        text_is = told_more trace c.args.self.now.trace tolds told c.args.self.now.runs (string_bytes c.args.self.now.text) (string_bytes c.push_run.new.out) is.trace_is is.runs_are is.text_is c.in_ok-push_run.ensures.written;
        runs_are = omega (arith, is.runs_are, length-append tolds (told ∷ []));
        occurrences_are = omega (arith, is.occurrences_are, tell_total tolds told, c.len.ensures, length-map c.args.finished.now.occurrences.items occurrence_view, c.args.finished.now.occurrences.ok.0);
      };
}

-- The parts of a run are written one after another.
use Rattle.std.proofs.Common.{rules, arith}
use Rattle.std.specs.String.{string_bytes}
use Rattle.std.proofs.lemmas.Grind.{common_steps}
use Rattle.cpn_runs.specs.FinishedViews.{setup_view, finished_view}
use Rattle.cpn_report.proofs.ReportTexts.{run_parts}
use Rattle.cpn_report.proofs.reports.push_run.Goals as goal

pub returns : goal.returns
returns c = record { written = rw (run_parts (string_bytes c.args.out.now) c.args.trace (setup_view c.args.finished.now.setup) c.args.number c.args.start (finished_view c.args.finished.now)) (first_of (search rules, grind (arith, common_steps))) }

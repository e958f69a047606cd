-- With the trace its lines are written, and without it none.
use Rattle.std.proofs.Common.{rules, arith, sym}
use Rattle.std.specs.String.{string_bytes}
use Rattle.std.proofs.lemmas.Grind.{common_steps}
use Rattle.cpn_core.specs.Nets.{net_view}
use Rattle.cpn_runs.specs.FinishedViews.{finished_view}
use Rattle.cpn_report.proofs.ReportTexts.{trace_on, trace_off, trace_brief}
use Rattle.cpn_report.proofs.reports.push_trace.Goals as goal

pub returns-in_ok-push_schedule_line-in-On : goal.returns-in_ok-push_schedule_line-in-On
returns-in_ok-push_schedule_line-in-On c = record { written = rw (c.in-On.is, trace_on (string_bytes c.args.out.now) (net_view c.args.finished.now.setup.net.value) (finished_view c.args.finished.now)) (first_of (search rules, grind (arith, common_steps))) }

pub returns-in-Off : goal.returns-in-Off
returns-in-Off c = record { written = rw c.in-Off.is (sym (trace_off (string_bytes c.args.out.now) (net_view c.args.finished.now.setup.net.value) (finished_view c.args.finished.now))) }

pub returns-in-Brief : goal.returns-in-Brief
returns-in-Brief c = record { written = rw c.in-Brief.is (sym (trace_brief (string_bytes c.args.out.now) (net_view c.args.finished.now.setup.net.value) (finished_view c.args.finished.now))) }

-- Texts tell apart what they tell.
use Rattle.cpn_report.proofs.ElementsApart.{elements_differ}
use Rattle.cpn_report.proofs.JournalsTold.{lines_differ, journals_differ, values_of_runs_differ}
use Rattle.cpn_report.proofs.LineFeeds.{lines_end_once}
use Rattle.cpn_report.proofs.MonitorsApart.{monitors_differ}
use Rattle.cpn_report.proofs.ScheduleLines.{schedules_differ}
use Rattle.cpn_report.proofs.ValuesApart.{values_differ}
use Rattle.cpn_report.proofs.told.told_texts.Goals as goal

pub returns : goal.returns
returns c = record { values = values_differ; elements = elements_differ; line_ends = lines_end_once; monitors = monitors_differ; schedules = schedules_differ; lines = lines_differ; journals = journals_differ; values_of_runs = values_of_runs_differ }

-- The plain setup, outlook and run that those of the program stand for.
use Rattle.std.specs.Prelude.{map}
use Rattle.cpn_core.specs.Nets.{net_view}
use Rattle.cpn_core.specs.Occurrences.{occurrence_view}
use Rattle.cpn_core.specs.Inscriptions.{funs_view}
use Rattle.cpn_monitor.specs.Views.{monitors_view, values_view}
use Rattle.cpn_runs.specs.State.{PlainSetup}
use Rattle.cpn_runs.specs.Run as plain
use Rattle.cpn_runs.specs.Views.{event_view, end_view, limits_view}
use Rattle.cpn_runs.specs.declared.runs.Setup.{Setup}
use Rattle.cpn_runs.specs.declared.runs.Outlook.{Outlook}
use Rattle.cpn_runs.specs.declared.runs.Finished.{Finished}

abbrev pub setup_view : Setup → PlainSetup
setup_view s = record { net = net_view s.net.value; start = s.start; clock = s.clock; limits = limits_view s.limits; functions = funs_view s.monitors.value.funs.value; monitors = monitors_view s.monitors.value; seed = s.seed }

abbrev pub outlook_view : Outlook → plain.Outlook
outlook_view o = record { ready_count = o.ready; next = o.next }

-- what a finished run shows
abbrev pub finished_view : Finished → plain.PlainFinished
finished_view f = record {
  opening = outlook_view f.opening;
  journal = map event_view f.journal.items;
  occurrences = map occurrence_view f.occurrences.items;
  marking = f.marking;
  clock = f.clock;
  cause = end_view f.cause;
  closing = outlook_view f.closing;
  values = values_view f.values;
}

-- The events so far are written; with the rest they are all of the journal.
use Rattle.std.proofs.Common.{◌≡◌, ◌++◌, map, drop}
use Rattle.std.specs.List.{flat_map}
use Rattle.std.specs.String.{string_bytes}
use Rattle.cpn_report.specs.Lines.{event_text}
use Rattle.cpn_runs.specs.Views.{event_view}
use Rattle.cpn_report.proofs.lines.push_events.Given as goal

abbrev pub invariant-loop-event : goal.invariant-loop-event
invariant-loop-event l =
    string_bytes l.out ++ flat_map event_text (map event_view (drop l.event-index l.journal))
    ≡ string_bytes l.initial.out ++ flat_map event_text (map event_view l.journal)

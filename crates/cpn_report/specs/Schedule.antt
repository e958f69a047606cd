-- What the schedule line of a report tells of a journal. Source: own choice.
use Rattle.std.specs.Prelude.{◌≡◌}
use Rattle.cpn_runs.specs.Playable.{IsPlayable}
use Rattle.cpn_runs.specs.Run.{PlainFinished, IsRun}
use Rattle.cpn_runs.specs.State.{PlainSetup}
use Rattle.cpn_runs.specs.WithoutSeats.{without_seats}
use Rattle.cpn_report.specs.Lines.{schedule_text}

-- Two runs whose journals differ in more than their seats have different schedule lines.
abbrev pub SchedulesDiffer : Type 0
SchedulesDiffer = (setup setup' : PlainSetup) (run run' : PlainFinished) → IsPlayable setup → IsPlayable setup' → IsRun setup run → IsRun setup' run'
    → schedule_text run.journal ≡ schedule_text run'.journal → without_seats run.journal ≡ without_seats run'.journal

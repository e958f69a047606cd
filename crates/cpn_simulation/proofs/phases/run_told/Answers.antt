-- The run is the next one of a session, so it can be told.
use Rattle.std.proofs.Common.{arith}
use Rattle.cpn_edit.specs.Sessions.{IsNextRun}
use Rattle.cpn_edit.specs.Standing.{run_view}
use Rattle.cpn_simulation.proofs.NextRuns.{begun_run, its_few, its_printable}
use Rattle.cpn_simulation.proofs.phases.run_told.Goals as goal

pub tell_run-requires-clause-printable : goal.tell_run-requires-clause-printable
tell_run-requires-clause-printable g c =
    let w = c.requires.begins in
    let run = run_view c.in_ok-finished.finished in
    let next : IsNextRun w.0 c.args.start run = begun_run w.0 c.args.start w.1 c.args.book w.3 c.in_ok-finished.finished c.in_ok-finished.ensures.setup c.in_ok-finished.ensures.run in
    its_printable w.0 w.2 c.args.start run next c.printable_runs.ensures.printable c.in_ok-finished.ensures.ends_otherwise

pub tell_run-requires-clause-few_occurrences : goal.tell_run-requires-clause-few_occurrences
tell_run-requires-clause-few_occurrences g c =
    let w = c.requires.begins in
    let run = run_view c.in_ok-finished.finished in
    let next : IsNextRun w.0 c.args.start run = begun_run w.0 c.args.start w.1 c.args.book w.3 c.in_ok-finished.finished c.in_ok-finished.ensures.setup c.in_ok-finished.ensures.run in
    let few = its_few w.0 w.2 c.args.start run next in
    let room = c.requires.few_occurrences in
    omega (arith, few, room)

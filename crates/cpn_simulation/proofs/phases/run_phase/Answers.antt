-- The run is the next one of the session.
use Rattle.cpn_edit.specs.Sessions.{IsNextRun}
use Rattle.cpn_edit.specs.Standing.{Stands, run_view}
use Rattle.cpn_simulation.proofs.NextRuns.{begun_run}
use Rattle.cpn_simulation.proofs.phases.run_phase.Goals as goal

pub run_told-requires-clause-begins : goal.run_told-requires-clause-begins
run_told-requires-clause-begins g c κs within =
    let s = c.requires.stands.0 in
    let stands : Stands s c.args.session = c.requires.stands.1 in
    (s, c.in_ok-between.between, stands.but_latest.valid, c.in_ok-between.ensures.begins s stands)

pub returns-clause-run : goal.returns-clause-run
returns-clause-run g c = λ s stands.
    let begun = c.in_ok-between.ensures.begins s stands in
    let finished = c.in_ok-finished.finished in
    let run = run_view finished in
    let next : IsNextRun s c.args.start run = begun_run s c.args.start c.in_ok-between.between c.in_ok-between.book begun finished c.in_ok-finished.ensures.setup c.in_ok-finished.ensures.run in (
      run,
      next,
      c.in_ok-finished.ensures.ends_otherwise,
      c.end.ensures.stands s c.args.start begun.stands next,
      c.status_after-status.ensures.status,
      c.in_ok-finished.ensures.is_told,
      c.in_ok-finished.ensures.are_told,
    )

-- What a run of a printable net has is printed in part, and whole where it did not end for want of memory.
use Rattle.cpn_runs.specs.FinishedViews.{setup_view, finished_view}
use Rattle.cpn_test_program.proofs.ToldEnds.{told_end}
use Rattle.cpn_test_program.proofs.ends.push_end.Goals as goal

pub push_parts-requires-clause-parts : goal.push_parts-requires-clause-parts
push_parts-requires-clause-parts c =
    c.printable_runs.ensures.in_part (setup_view c.args.finished.now.setup) (finished_view c.args.finished.now) (record { sound = c.requires.shown.playable.sound; named = c.requires.shown.named }) c.requires.shown.playable.marking c.requires.run

pub push_report-requires : goal.push_report-requires
push_report-requires c = record {
  printable = c.printable_runs.ensures.printable (setup_view c.args.finished.now.setup) (finished_view c.args.finished.now) (record { sound = c.requires.shown.playable.sound; named = c.requires.shown.named }) c.requires.shown.playable.marking c.requires.run (told_end c.args.finished.now.cause c.in_default.not-Memory);
}

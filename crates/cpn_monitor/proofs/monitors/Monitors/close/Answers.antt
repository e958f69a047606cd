-- Brought up to the clock, the values are those of the run at the clock.
use Rattle.std.proofs.Common.{◌∙◌}
use Rattle.cpn_core.specs.Inscriptions.{funs_view}
use Rattle.cpn_monitor.specs.Views.{monitors_view, measuring_view}
use Rattle.cpn_monitor.proofs.ToldRuns.{closed_values}
use Rattle.cpn_monitor.proofs.monitors.Monitors.close.Goals as goal

pub count_until-requires : goal.count_until-requires
count_until-requires c = record { up_to = c.requires.may.up_to; in_time = c.requires.may.in_time }

pub returns : goal.returns
returns c = record {
  until = c.count_until.ensures.until;
  closed = λ n run are to. c.count_until.ensures.until ∙ closed_values n (funs_view c.args.self.now.funs.value) (monitors_view c.args.self.now) run c.args.clock (measuring_view c.args.measuring) are to;
}

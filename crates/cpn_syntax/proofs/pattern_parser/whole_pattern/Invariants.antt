-- What was read until now leads from where no form is open to here, and each turn comes nearer to the end.
use Rattle.std.proofs.Common.{[]}
use Rattle.cpn_syntax.specs.Progress.{Leads}
use Rattle.cpn_syntax.specs.Unread.{unread}
use Rattle.cpn_syntax.specs.ReadPatterns.{wanting, ReadPat, TakesPat, steps_left}
use Rattle.cpn_syntax.specs.OpenPatViews.{opens_view}
use Rattle.cpn_syntax.specs.PatternSteps.{step_state}
use Rattle.cpn_syntax.proofs.pattern_parser.whole_pattern.Given as goal

abbrev pub invariant-loop-step : goal.invariant-loop-step
invariant-loop-step l = Leads ReadPat TakesPat (wanting []) (unread l.fn.reader) (step_state l.step (opens_view l.forms)) (unread l.reader)

abbrev pub decreases-loop-step : goal.decreases-loop-step
decreases-loop-step l = steps_left (step_state l.step (opens_view l.forms)) (unread l.reader)

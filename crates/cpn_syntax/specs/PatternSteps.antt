-- The steps of reading a pattern.
use Rattle.std.specs.Prelude.{◌<◌}
use Rattle.cpn_syntax.specs.declared.refusals.SyntaxError.{SyntaxError}
use Rattle.cpn_syntax.specs.declared.pattern_parser.Part.{Part}
use Rattle.cpn_syntax.specs.declared.pattern_parser.Step.{Step}
use Rattle.cpn_syntax.specs.Texts.{Text}
use Rattle.cpn_syntax.specs.Progress.{Leads, Stops}
use Rattle.cpn_syntax.specs.OpenPatterns.{OpenPats}
use Rattle.cpn_syntax.specs.PatternReadings.{IsPattern}
use Rattle.cpn_syntax.specs.ReadPatterns.{PatState, wanting, having, whole, ReadPat, TakesPat, steps_left}
use Rattle.cpn_trees.specs.PatViews.{pat_view}

-- from a state before a text to another before its rest, and nearer to the end
pub record PatComes (old : PatState) (from : Text) (new : PatState) (to : Text) : Type 0 where
  pub leads : Leads ReadPat TakesPat old from new to
  pub nearer : steps_left new to < steps_left old from

-- from a state before a text to a token with which nothing goes on
abbrev pub PatBreaksOff : PatState → Text → SyntaxError → Type 0
PatBreaksOff = Stops ReadPat TakesPat IsPattern

-- where the reading stands, with the forms around
abbrev pub part_state : Part → OpenPats → PatState
part_state part st = having part.at part.precedence (pat_view part.tree) st

abbrev pub step_state : Step → OpenPats → PatState
step_state Step.Wants st = wanting st
step_state (Step.Has part) st = part_state part st
step_state (Step.Whole tree) st = whole (pat_view tree)

-- All frames need nothing of the locals where those that are left do not.
use Rattle.std.proofs.Common.{map, take, length, ◌-◌}
use Rattle.cpn_eval.specs.Frames.{frame_view}
use Rattle.cpn_eval.specs.Spare.{Spare}
use Rattle.cpn_eval.proofs.spare.is_spare.Given as goal

abbrev pub invariant-loop-passed : goal.invariant-loop-passed
invariant-loop-passed l = Spare (map frame_view (take (length l.frames - l.passed) l.frames)) l.number → Spare (map frame_view l.frames) l.number

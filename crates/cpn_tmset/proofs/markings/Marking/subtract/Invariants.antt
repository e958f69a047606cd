-- What is left of the needs is still to be taken out, and those so far have left the stamps that their thresholds leave.
use Rattle.std.proofs.Common.{◌≡◌, drop, take}
use Rattle.cpn_definitions.specs.Occurrence.{subtract, threshold}
use Rattle.cpn_core.specs.NeedsViews.{needed_views}
use Rattle.cpn_tmset.proofs.SubtractedNeeds.{IsLessFor}
use Rattle.cpn_tmset.proofs.markings.Marking.subtract.Given as goal

abbrev pub invariant-loop-need : goal.invariant-loop-need
invariant-loop-need l = record {
  subtracted : subtract (threshold l.time) (needed_views (drop l.need-index l.need-items)) l.self ≡ subtract (threshold l.time) (needed_views l.need-items) l.initial.self;
  left : IsLessFor l.time (needed_views (take l.need-index l.need-items)) l.initial.self l.self;
}

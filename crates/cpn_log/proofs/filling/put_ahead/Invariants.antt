-- The outputs that are left are still to be carried past what the claims take now, and there is room for them.
use Rattle.std.proofs.Common.{◌≡◌, drop, length}
use Rattle.std.specs.List.{AllByRecursion}
use Rattle.cpn_definitions.specs.Occurrence.{add_made}
use Rattle.cpn_core.specs.OutputsViews.{made_views}
use Rattle.cpn_tmset.specs.Limits.{HaveRoomFor}
use Rattle.cpn_runs.specs.Filling.{carried_past, picks_after}
use Rattle.cpn_log.specs.ClaimViews.{claim_views, jobs_of, taken_views}
use Rattle.cpn_log.specs.Kept.{IsInRange}
use Rattle.cpn_log.specs.MarkingViews.{settled_in, unclaimed_in}
use Rattle.cpn_log.proofs.filling.put_ahead.Given as goal

abbrev pub invariant-loop-made : goal.invariant-loop-made
invariant-loop-made l =
    let left = made_views (drop l.made-index l.tokens) in
    record {
      unclaimed : add_made (carried_past left (taken_views l.later)) (unclaimed_in l.markings) ≡ add_made (carried_past (made_views l.tokens) (taken_views l.initial.later)) (unclaimed_in l.initial.markings);
      taken : picks_after left (taken_views l.later) ≡ picks_after (made_views l.tokens) (taken_views l.initial.later);
      room : HaveRoomFor (length left) (unclaimed_in l.markings);
      settled : settled_in l.markings ≡ settled_in l.initial.markings;
      same : claim_views l.later ≡ claim_views l.initial.later;
      in_range : AllByRecursion IsInRange (claim_views l.later);
      jobs : jobs_of l.later ≡ jobs_of l.initial.later;
    }

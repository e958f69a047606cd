-- What was taken so far, and what is left to be carried past.
use Rattle.std.proofs.Common.{◌≡◌}
use Rattle.cpn_core.specs.NeedsViews.{needed_views}
use Rattle.cpn_log.specs.ClaimViews.{with_stamp}
use Rattle.cpn_log.proofs.CarriedPast.{left_past, taken_past}
use Rattle.cpn_log.proofs.claims.carry_past_needs.Given as goal

abbrev pub invariant-loop-index : goal.invariant-loop-index
invariant-loop-index l = record {
  left : left_past l.time (with_stamp l.carried l.made) (needed_views l.tokens) l.stamps.items l.index ≡ left_past l.time (with_stamp l.stamp l.made) (needed_views l.tokens) l.initial.stamps.items 0;
  taken : taken_past l.time (with_stamp l.carried l.made) (needed_views l.tokens) l.stamps.items l.index ≡ taken_past l.time (with_stamp l.stamp l.made) (needed_views l.tokens) l.initial.stamps.items 0;
}

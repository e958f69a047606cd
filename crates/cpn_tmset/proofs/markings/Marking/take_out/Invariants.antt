-- The stamps so far, the needs that are left, and the room for their stamps.
use Rattle.std.proofs.Common.{◌≡◌, ◌+◌, ◌-◌, ◌≤◌, ◌++◌, drop, length}
use Rattle.std.specs.Prelude.{vec_len, vec_capacity}
use Rattle.cpn_definitions.specs.Occurrence.{subtract, threshold}
use Rattle.cpn_core.specs.NeedsViews.{needed_views}
use Rattle.cpn_tmset.specs.StampsTaken.{stamps_taken}
use Rattle.cpn_tmset.proofs.markings.Marking.take_out.Given as goal

abbrev pub invariant-loop-need : goal.invariant-loop-need
invariant-loop-need l = record {
  subtracted : subtract (threshold l.time) (needed_views (drop l.need-index l.tokens)) l.self ≡ subtract (threshold l.time) (needed_views l.tokens) l.initial.self;
  taken : l.stamps.items ++ stamps_taken l.time (needed_views (drop l.need-index l.tokens)) l.self ≡ stamps_taken l.time (needed_views l.tokens) l.initial.self;
  room : vec_len l.stamps + (length l.tokens - l.need-index) ≤ vec_capacity l.stamps;
}

-- What is left of the outputs is still to be put in, and there is room for it.
use Rattle.std.proofs.Common.{◌≡◌, length}
use Rattle.std.specs.Vec.Iter.{into_iter_items, into_iter_len}
use Rattle.cpn_definitions.specs.Occurrence.{add_made}
use Rattle.cpn_core.specs.OutputsViews.{made_views}
use Rattle.cpn_tmset.specs.Limits.{HaveRoomFor}
use Rattle.cpn_tmset.proofs.markings.Marking.add_made.Given as goal

abbrev pub invariant-loop-made : goal.invariant-loop-made
invariant-loop-made l = record {
  left : into_iter_len l.made-iterator ≡ length (into_iter_items l.made-iterator);
  room : HaveRoomFor (length (into_iter_items l.made-iterator)) l.self;
  added : add_made (made_views (into_iter_items l.made-iterator)) l.self ≡ add_made (made_views (into_iter_items l.initial.made-iterator)) l.initial.self;
}

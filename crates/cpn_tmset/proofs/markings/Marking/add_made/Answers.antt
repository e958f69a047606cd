-- After the first of the outputs that are left there is room for the others.
use Rattle.std.proofs.Common.{rules, ◌≡◌, ◌+◌, length, arith, subst, sym}
use Rattle.std.specs.Vec.Iter.{into_iter_items}
use Rattle.std.proofs.lemmas.Grind.{common_steps}
use Rattle.cpn_definitions.specs.Marking.{token_at}
use Rattle.cpn_core.specs.Views.{value_view}
use Rattle.cpn_tmset.specs.Limits.{HaveRoomFor}
use Rattle.cpn_tmset.proofs.RoomLeft.{room_after}
use Rattle.cpn_tmset.proofs.markings.Marking.add_made.Goals as goal

pub loop-made-preserved : goal.loop-made-preserved
loop-made-preserved c = record {
  left = search rules;
  room =
      subst (HaveRoomFor (length (into_iter_items c.next.new.self))) (sym c.in_ok-put.ensures.added)
      (room_after (length (into_iter_items c.next.new.self)) c.in-Some.made.place (token_at (value_view c.in-Some.made.value) c.in-Some.made.stamp) c.loop-made.self
      (λ p. let room = c.loop-made.invariant.room p in let long : length (into_iter_items c.loop-made.made-iterator) ≡ length (into_iter_items c.next.new.self) + 1 = grind (arith, common_steps) in omega (arith, room, long)));
  added = search rules;
}

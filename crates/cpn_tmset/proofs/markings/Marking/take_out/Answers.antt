-- One need more is taken out, and its stamp is given.
use Rattle.std.proofs.Common.{ℕ, ◌++◌, List, refl, ap, arith}
use Rattle.cpn_core.specs.NeedsViews.{needed_views}
use Rattle.cpn_tmset.specs.StampsTaken.{stamps_taken}
use Rattle.cpn_tmset.proofs.SubtractedNeeds.{subtracted_next, stamps_next, all_out, all_stamps}
use Rattle.cpn_tmset.proofs.markings.Marking.take_out.Goals as goal

pub loop-need-init : goal.loop-need-init
loop-need-init c =
    let none = c.in_ok-stamps.ensures.len in
    let room = c.in_ok-stamps.ensures.capacity in
    record {
      subtracted = refl;
      taken = ap (λ (ss : List ℕ). ss ++ stamps_taken c.args.time (needed_views c.tokens-tokens.result.now) c.args.self.now) c.in_ok-stamps.ensures.items;
      room = omega (arith, none, room);
    }

pub loop-need-preserved : goal.loop-need-preserved
loop-need-preserved c =
    let needs = c.tokens-tokens.result.now in
    let i = c.loop-need.need-index in
    let need = c.need-item.result in
    record {
      subtracted = subtracted_next c.args.time needs i need c.loop-need-test.true c.need-item.is c.loop-need.self c.take_stamp-stamp.new.self _ c.take_stamp-stamp.ensures.taken c.loop-need.invariant.subtracted;
      taken =
          stamps_next c.args.time needs i need c.loop-need-test.true c.need-item.is c.loop-need.stamps.items c.push_reserved.new.self.items c.take_stamp-stamp.result c.loop-need.self c.take_stamp-stamp.new.self _
          c.push_reserved.ensures.items c.take_stamp-stamp.ensures.stamp c.take_stamp-stamp.ensures.taken c.loop-need.invariant.taken;
      room = omega arith;
    }

pub returns : goal.returns
returns c =
    let needs = c.tokens-tokens.result.now in
    let i = c.loop-need.need-index in
    record {
      subtracted = all_out c.args.time needs i c.args.needs.now c.loop-need-test.false c.tokens-tokens.ensures.items c.args.self.now c.loop-need.self c.loop-need.invariant.subtracted;
      stamps = all_stamps c.args.time needs i c.args.needs.now c.loop-need-test.false c.tokens-tokens.ensures.items c.loop-need.stamps.items c.args.self.now c.loop-need.self c.loop-need.invariant.taken;
      unchanged = tt;
    }

-- The rank falls among the tokens of the first stamp that is left, or behind them.
use Rattle.std.proofs.Common.{ap, sym, ◌∙◌, arith}
use Rattle.std.specs.List.{slice_get}
use Rattle.std.specs.Map.Iter.{deref_pair}
use Rattle.std.proofs.lemmas.Map.Iter.{rest_more}
use Rattle.cpn_tmset.specs.StampCounts.{repeated}
use Rattle.cpn_tmset.proofs.RepeatedStamps.{at_rank_here, at_rank_past}
use Rattle.cpn_tmset.proofs.stamps.Stamps.at.Goals as goal

pub returns-then-left-count : goal.returns-then-left-count
returns-then-left-count c =
    let first = rest_more deref_pair c.loop-stamp.stamp-iterator c.next.new.self c.next.result (c.in-Some.stamp, c.in-Some.count) c.in-Some.is c.next.ensures.steps in
    record {
      stamp = sym (at_rank_here c.in-Some.count.now c.in-Some.stamp.now (repeated c.next.new.self) c.loop-stamp.left c.if-left-count.true) ∙ sym (ap (λ es. slice_get (repeated es) c.loop-stamp.left) first) ∙ c.loop-stamp.invariant;
    }

pub loop-stamp-preserved : goal.loop-stamp-preserved
loop-stamp-preserved c =
    let first = rest_more deref_pair c.loop-stamp.stamp-iterator c.next.new.self c.next.result (c.in-Some.stamp, c.in-Some.count) c.in-Some.is c.next.ensures.steps in
    sym (at_rank_past c.in-Some.count.now c.in-Some.stamp.now (repeated c.next.new.self) c.loop-stamp.left (omega arith)) ∙ sym (ap (λ es. slice_get (repeated es) c.loop-stamp.left) first) ∙ c.loop-stamp.invariant

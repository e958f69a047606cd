-- The copy of one pair more.
use Rattle.std.proofs.Common.{List, ap, ◌∙◌}
use Rattle.cpn_match.specs.declared.partials.PartialPair.{PartialPair}
use Rattle.cpn_match.specs.Pairs.{pair_view, pairs_view}
use Rattle.cpn_match.proofs.GrownLists.{grown_next, grown_all}
use Rattle.cpn_match.proofs.partials.Partial.copy.Goals as goal

pub loop-pair-init : goal.loop-pair-init
loop-pair-init c = ap (λ (ps : List PartialPair). pairs_view ps) c.in_ok-pairs.ensures.items

pub loop-pair-preserved : goal.loop-pair-preserved
loop-pair-preserved c =
    grown_next pair_view pair_view c.deref-pair-items.result.now c.loop-pair.pairs.items c.push.new.self.items c.loop-pair.pair-index c.pair-item.result c.in_ok-copy.field-0 c.loop-pair-test.true c.pair-item.is c.in_ok-copy.ensures.same
    c.in_ok-push.ensures.items c.loop-pair.invariant

pub returns : goal.returns
returns c = record {
  same = grown_all pair_view pair_view c.deref-pair-items.result.now c.loop-pair.pairs.items c.loop-pair.pair-index c.loop-pair-test.false c.loop-pair.invariant ∙ ap pairs_view c.deref-pair-items.ensures.value ∙ c.self.view_is;
}

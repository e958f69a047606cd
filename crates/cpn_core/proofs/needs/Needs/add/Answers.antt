-- The token is added at its place, and the tokens stay in order.
use Rattle.cpn_definitions.specs.Occurrence.{needed_cmp}
use Rattle.cpn_definitions.proofs.TokenOrder.{needed_cmp_total}
use Rattle.cpn_core.specs.NeedsViews.{needed_view}
use Rattle.cpn_definitions.proofs.InsertIndexes.{inserted_views, inserted_in_order}
use Rattle.cpn_core.proofs.needs.Needs.add.Goals as goal

pub returns-clause-added : goal.returns-clause-added
returns-clause-added c = rw (c.in_ok-insert.ensures.items, ← c.self.view_is) (inserted_views needed_view needed_cmp c.args.needed c.self.inside.tokens.items _ c.index_among-at.result c.as_slice.ensures.value c.index_among-at.ensures.within c.index_among-at.ensures.index)

pub invariant_of-self-2 : goal.invariant_of-self-2
invariant_of-self-2 c = rw c.in_ok-insert.ensures.items (inserted_in_order needed_view needed_cmp c.args.needed c.self.inside.tokens.items _ c.index_among-at.result c.as_slice.ensures.value c.index_among-at.ensures.within c.index_among-at.ensures.index needed_cmp_total c.self.invariant)

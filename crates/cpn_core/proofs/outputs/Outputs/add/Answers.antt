-- The token is added at its place, and the tokens stay in order.
use Rattle.cpn_definitions.specs.Occurrence.{made_cmp}
use Rattle.cpn_definitions.proofs.TokenOrder.{made_cmp_total}
use Rattle.cpn_core.specs.OutputsViews.{made_view}
use Rattle.cpn_definitions.proofs.InsertIndexes.{inserted_views, inserted_in_order}
use Rattle.cpn_core.proofs.outputs.Outputs.add.Goals as goal

pub returns-clause-added : goal.returns-clause-added
returns-clause-added c = rw (c.in_ok-insert.ensures.items, ← c.self.view_is) (inserted_views made_view made_cmp c.args.made c.self.inside.tokens.items _ c.index_among-at.result c.as_slice.ensures.value c.index_among-at.ensures.within c.index_among-at.ensures.index)

pub invariant_of-self-2 : goal.invariant_of-self-2
invariant_of-self-2 c = rw c.in_ok-insert.ensures.items (inserted_in_order made_view made_cmp c.args.made c.self.inside.tokens.items _ c.index_among-at.result c.as_slice.ensures.value c.index_among-at.ensures.within c.index_among-at.ensures.index made_cmp_total c.self.invariant)

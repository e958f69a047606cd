-- Tokens in order are divided by whether the token comes before them.
use Rattle.std.proofs.Common.{not, is_lt, rules}
use Rattle.std.proofs.lemmas.List.Sorted.{IsPartitionPoint-from_clause}
use Rattle.cpn_definitions.specs.Occurrence.{made_cmp}
use Rattle.cpn_definitions.proofs.TokenOrder.{made_cmp_total}
use Rattle.cpn_core.specs.OutputsViews.{made_view}
use Rattle.cpn_definitions.proofs.InsertIndexes.{divided_by_item, item_index}
use Rattle.cpn_core.proofs.outputs.index_among.Goals as goal

pub returns-clause-index : goal.returns-clause-index
returns-clause-index c =
    let split = divided_by_item made_view made_cmp made_cmp_total (made_view c.args.made.now) c.args.tokens.now c.requires.in_order in
    let point =
    IsPartitionPoint-from_clause (λ y. not (is_lt (made_cmp (made_view c.args.made.now) (made_view y)))) c.args.tokens.now c.partition_point.result c.partition_point.ensures.partitioned split (λ a r f k. search rules) in
    item_index made_view made_cmp (made_view c.args.made.now) c.args.tokens.now c.partition_point.result c.partition_point.ensures.bound point

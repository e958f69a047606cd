-- The list that is turned round, with the item before it, is the definition's.
use Rattle.std.proofs.Common.{ap, sym, ◌∙◌, map, arith}
use Rattle.cpn_definitions.specs.Value.{list, nodes_of}
use Rattle.cpn_definitions.specs.Operations.{consed}
use Rattle.cpn_definitions.specs.Outcome.{gives}
use Rattle.cpn_core.specs.Views.{value_view, values_view}
use Rattle.cpn_eval.proofs.BackwardLists.{list_of, put_before_turned, too_long, put_first}
use Rattle.cpn_eval.proofs.backwards.turned.Goals as goal

pub returns-then-nodes-gt-MOST_NODES : goal.returns-then-nodes-gt-MOST_NODES
returns-then-nodes-gt-MOST_NODES c =
    let is = list_of (value_view c.args.list) (map value_view c.in_ok-items.items.items) c.in_ok-items.ensures.items in
    let nodes = ap nodes_of is in
    record { list = ap (consed (value_view c.args.item)) is ∙ too_long (value_view c.args.item) (values_view c.in_ok-items.items.items) (omega arith) }

pub invariant_of-result : goal.invariant_of-result
invariant_of-result c =
    let is = list_of (value_view c.args.list) (map value_view c.in_ok-items.items.items) c.in_ok-items.ensures.items in
    let nodes = ap nodes_of is in
    let front = ap (λ vs. nodes_of (list vs)) (put_before_turned c.in_ok-items.items.items c.reverse.new.self.items c.push.new.self.items c.args.item c.reverse.ensures.items c.in_ok-push.ensures.items) in
    record { counted = omega arith }

pub returns : goal.returns
returns c =
    let is = list_of (value_view c.args.list) (map value_view c.in_ok-items.items.items) c.in_ok-items.ensures.items in
    let nodes = ap nodes_of is in
    record {
      list = ap (consed (value_view c.args.item)) is ∙ put_first (value_view c.args.item) (values_view c.in_ok-items.items.items) (omega arith)
          ∙ ap (λ vs. gives (list vs)) (sym (put_before_turned c.in_ok-items.items.items c.reverse.new.self.items c.push.new.self.items c.args.item c.reverse.ensures.items c.in_ok-push.ensures.items));
    }

-- The list with the item before it is the definition's.
use Rattle.std.proofs.Common.{ap, sym, ◌∙◌, reverse, arith}
use Rattle.cpn_definitions.specs.Value.{list}
use Rattle.cpn_core.specs.Views.{value_view, values_view}
use Rattle.cpn_definitions.specs.Outcome.{gives}
use Rattle.cpn_eval.proofs.BackwardLists.{put_before, too_long, put_first}
use Rattle.cpn_eval.proofs.held.Backwards.with.Goals as goal

pub returns-then-nodes-gt-MOST_NODES : goal.returns-then-nodes-gt-MOST_NODES
returns-then-nodes-gt-MOST_NODES c = record { list = too_long (value_view c.args.item) (values_view (reverse c.args.self.items.items)) (omega arith) }

pub returns : goal.returns
returns c = record {
  list = put_first (value_view c.args.item) (values_view (reverse c.args.self.items.items)) (omega arith)
      ∙ ap (λ vs. gives (list vs)) (sym (put_before c.args.self.items.items c.push.new.self.items c.args.item c.in_ok-push.ensures.items));
}

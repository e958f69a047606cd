-- The copies of the items are those of the list, and as many nodes.
use Rattle.std.proofs.Common.{ap, sym, ◌∙◌}
use Rattle.cpn_definitions.specs.Value.{list, nodes_of}
use Rattle.cpn_eval.proofs.BackwardLists.{same_backwards}
use Rattle.cpn_eval.proofs.held.Backwards.copy.Goals as goal

pub invariant_of-result : goal.invariant_of-result
invariant_of-result c = record { counted = c.args.self.now.counted ∙ ap (λ vs. nodes_of (list vs)) (sym (same_backwards c.in_ok-items.items.items c.args.self.now.items.items c.in_ok-items.ensures.same)) }

pub returns : goal.returns
returns c = record { same = ap list (same_backwards c.in_ok-items.items.items c.args.self.now.items.items c.in_ok-items.ensures.same) }

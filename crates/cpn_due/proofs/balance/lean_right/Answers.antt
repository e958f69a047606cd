-- The items stay in their order.
use Rattle.std.proofs.Common.{◌∷◌, ◌++◌, subst}
use Rattle.cpn_definitions.specs.Lists.{Rises}
use Rattle.cpn_due.specs.Marked.{plain_marked, marked_cmp}
use Rattle.cpn_due.specs.Sides.{around}
use Rattle.cpn_due.proofs.RisingSides.{rises_inner_left, rises_inner_right}
use Rattle.cpn_due.proofs.TurnedForks.{rises_left_apart}
use Rattle.cpn_due.proofs.balance.lean_right.Goals as goal

pub join-requires-clause-rises : goal.join-requires-clause-rises
join-requires-clause-rises c =
    let rise = rises_left_apart c.args.fork.now.left c.args.fork.now.right c.args.fork.now.root c.replace-high.result c.replace-right.result c.replace-root.result c.replace-high.ensures.value c.replace-right.ensures.value c.replace-root.ensures.value c.requires.rises (around c.take_apart-second.result.left (plain_marked c.take_apart-second.result.root) c.take_apart-second.result.right) c.take_apart-second.ensures.items in
    rises_inner_right marked_cmp c.take_apart-second.result.left.items (plain_marked c.take_apart-second.result.root) c.take_apart-second.result.right.items (plain_marked c.replace-root.result) c.replace-right.result.items rise

pub join-requires-2-clause-rises : goal.join-requires-2-clause-rises
join-requires-2-clause-rises c =
    let inner = subst (λ xs. Rises marked_cmp (c.take_apart-second.result.left.items ++ plain_marked c.take_apart-second.result.root ∷ xs)) c.take_apart-middle.ensures.items c.take_apart-second.ensures.rises in
    rises_inner_left marked_cmp c.take_apart-second.result.left.items (plain_marked c.take_apart-second.result.root) c.take_apart-middle.result.left.items (plain_marked c.take_apart-middle.result.root) c.take_apart-middle.result.right.items inner

pub join-requires-3-clause-rises : goal.join-requires-3-clause-rises
join-requires-3-clause-rises c =
    let rise = rises_left_apart c.args.fork.now.left c.args.fork.now.right c.args.fork.now.root c.replace-high.result c.replace-right.result c.replace-root-2.result c.replace-high.ensures.value c.replace-right.ensures.value c.replace-root-2.ensures.value c.requires.rises (around c.take_apart-second.result.left (plain_marked c.take_apart-second.result.root) c.take_apart-second.result.right) c.take_apart-second.ensures.items in
    let low = rises_inner_right marked_cmp c.take_apart-second.result.left.items (plain_marked c.take_apart-second.result.root) c.take_apart-second.result.right.items (plain_marked c.replace-root-2.result) c.replace-right.result.items rise in
    let inner = subst (λ xs. Rises marked_cmp (xs ++ plain_marked c.replace-root-2.result ∷ c.replace-right.result.items)) c.take_apart-middle.ensures.items low in
    rises_inner_right marked_cmp c.take_apart-middle.result.left.items (plain_marked c.take_apart-middle.result.root) c.take_apart-middle.result.right.items (plain_marked c.replace-root-2.result) c.replace-right.result.items inner

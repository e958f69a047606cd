-- The item goes to the side where the order has it.
use Rattle.std.proofs.Common.{◌≡◌, ◌∷◌, ◌++◌, false, sym, ap, subst, ◌∙◌}
use Rattle.cpn_definitions.specs.Lists.{Rises, with_item}
use Rattle.cpn_due.specs.Marked.{plain_marked, marked_cmp, has_item}
use Rattle.cpn_due.specs.Trees.{items_at, items_of, IsBalancedAt, IsBalanced}
use Rattle.cpn_due.proofs.MarkedItems.{with_left, with_right, rises_with_left, rises_with_right}
use Rattle.cpn_due.proofs.inserting.+insert.Goals as goal

pub settle-requires-clause-rises : goal.settle-requires-clause-rises
settle-requires-clause-rises t c =
    let k = plain_marked c.in-Some.fork.root in
    let l = c.in-Some.fork.left.items in
    let r = c.in-Some.fork.right.items in
    let items = ap items_at (sym c.in-Some.is ∙ c.deref_mut.ensures.value) ∙ ap items_of (sym c.in-Fork.is) ∙ ap (λ d. d.items) c.tree.view_is in
    let good = subst IsBalancedAt (sym c.deref_mut.ensures.value ∙ c.in-Some.is) (subst IsBalanced c.in-Fork.is c.tree.invariant) in
    let absent = subst (λ xs. has_item (plain_marked c.args.item) xs ≡ false) (sym items) c.requires.absent in
    subst (λ xs. Rises marked_cmp (xs ++ k ∷ r)) (sym c.insert.ensures.items) (rises_with_left (plain_marked c.args.item) k l r good.rises absent (sym c.if-is_before.ensures.exact))

pub returns-then-is_before-clause-items : goal.returns-then-is_before-clause-items
returns-then-is_before-clause-items t c =
    let k = plain_marked c.in-Some.fork.root in
    let l = c.in-Some.fork.left.items in
    let r = c.in-Some.fork.right.items in
    let items = ap items_at (sym c.in-Some.is ∙ c.deref_mut.ensures.value) ∙ ap items_of (sym c.in-Fork.is) ∙ ap (λ d. d.items) c.tree.view_is in
    c.settle.ensures.items ∙ ap (λ xs. xs ++ k ∷ r) c.insert.ensures.items ∙ sym (with_left (plain_marked c.args.item) k l r (sym c.if-is_before.ensures.exact)) ∙ ap (with_item marked_cmp (plain_marked c.args.item)) items

pub settle-requires-in-Some-clause-rises : goal.settle-requires-in-Some-clause-rises
settle-requires-in-Some-clause-rises t c =
    let k = plain_marked c.in-Some.fork.root in
    let l = c.in-Some.fork.left.items in
    let r = c.in-Some.fork.right.items in
    let items = ap items_at (sym c.in-Some.is ∙ c.deref_mut.ensures.value) ∙ ap items_of (sym c.in-Fork.is) ∙ ap (λ d. d.items) c.tree.view_is in
    let good = subst IsBalancedAt (sym c.deref_mut.ensures.value ∙ c.in-Some.is) (subst IsBalanced c.in-Fork.is c.tree.invariant) in
    let absent = subst (λ xs. has_item (plain_marked c.args.item) xs ≡ false) (sym items) c.requires.absent in
    subst (λ xs. Rises marked_cmp (l ++ k ∷ xs)) (sym c.insert-in-Some.ensures.items) (rises_with_right (plain_marked c.args.item) k l r good.rises absent (sym c.if-is_before.ensures.exact))

pub returns-else-is_before-clause-items : goal.returns-else-is_before-clause-items
returns-else-is_before-clause-items t c =
    let k = plain_marked c.in-Some.fork.root in
    let l = c.in-Some.fork.left.items in
    let r = c.in-Some.fork.right.items in
    let items = ap items_at (sym c.in-Some.is ∙ c.deref_mut.ensures.value) ∙ ap items_of (sym c.in-Fork.is) ∙ ap (λ d. d.items) c.tree.view_is in
    let good = subst IsBalancedAt (sym c.deref_mut.ensures.value ∙ c.in-Some.is) (subst IsBalanced c.in-Fork.is c.tree.invariant) in
    let absent = subst (λ xs. has_item (plain_marked c.args.item) xs ≡ false) (sym items) c.requires.absent in
    c.settle-in-Some.ensures.items ∙ ap (λ xs. l ++ k ∷ xs) c.insert-in-Some.ensures.items ∙ sym (with_right (plain_marked c.args.item) k l r good.rises absent (sym c.if-is_before.ensures.exact))
    ∙ ap (with_item marked_cmp (plain_marked c.args.item)) items

-- The element is taken out of the side where the order has it, or is the root.
use Rattle.std.proofs.Common.{◌≡◌, [], ◌∷◌, ◌++◌, Some, sym, ap, subst, ◌∙◌, arith}
use Rattle.cpn_definitions.specs.Lists.{Rises}
use Rattle.cpn_core.specs.Elements.{element_view}
use Rattle.cpn_due.specs.Marked.{PlainTree, plain_marked, marked_cmp, item_of, without_item}
use Rattle.cpn_due.specs.Trees.{items_at, items_of, IsBalancedAt, IsBalanced}
use Rattle.cpn_due.proofs.MarkedItems.{without_left, without_right, without_root, rises_without, item_left, item_right, item_root}
use Rattle.cpn_due.proofs.removing.+remove.Goals as goal

pub settle-requires-clause-rises : goal.settle-requires-clause-rises
settle-requires-clause-rises t c =
    let e = element_view c.args.element.now in
    let k = plain_marked c.in-Some.fork.root in
    let l = c.in-Some.fork.left.items in
    let r = c.in-Some.fork.right.items in
    let good = subst IsBalancedAt (sym c.deref_mut.ensures.value ∙ c.in-Some.is) (subst IsBalanced c.in-Fork.is c.tree.invariant) in
    subst (λ xs. Rises marked_cmp (xs ++ k ∷ r)) (sym c.remove-taken.ensures.items) (subst (Rises marked_cmp) (without_left e k l r good.rises (sym c.in-Less.ensures.exact)) (rises_without e k l r good.rises))

pub settle-requires-in-Greater-clause-rises : goal.settle-requires-in-Greater-clause-rises
settle-requires-in-Greater-clause-rises t c =
    let e = element_view c.args.element.now in
    let k = plain_marked c.in-Some.fork.root in
    let l = c.in-Some.fork.left.items in
    let r = c.in-Some.fork.right.items in
    let good = subst IsBalancedAt (sym c.deref_mut.ensures.value ∙ c.in-Some.is) (subst IsBalanced c.in-Fork.is c.tree.invariant) in
    subst (λ xs. Rises marked_cmp (l ++ k ∷ xs)) (sym c.remove-taken-in-Greater.ensures.items) (subst (Rises marked_cmp) (without_right e k l r good.rises (sym c.in-Greater.ensures.exact)) (rises_without e k l r good.rises))

pub returns-in-Less-clause-items : goal.returns-in-Less-clause-items
returns-in-Less-clause-items t c =
    let e = element_view c.args.element.now in
    let k = plain_marked c.in-Some.fork.root in
    let l = c.in-Some.fork.left.items in
    let r = c.in-Some.fork.right.items in
    let items = ap items_at (sym c.in-Some.is ∙ c.deref_mut.ensures.value) ∙ ap items_of (sym c.in-Fork.is) ∙ ap (λ d. d.items) c.tree.view_is in
    let good = subst IsBalancedAt (sym c.deref_mut.ensures.value ∙ c.in-Some.is) (subst IsBalanced c.in-Fork.is c.tree.invariant) in
    c.settle.ensures.items ∙ ap (λ xs. xs ++ k ∷ r) c.remove-taken.ensures.items ∙ sym (without_left e k l r good.rises (sym c.in-Less.ensures.exact)) ∙ ap (without_item e) items

pub returns-in-Less-clause-taken : goal.returns-in-Less-clause-taken
returns-in-Less-clause-taken t c =
    let e = element_view c.args.element.now in
    let k = plain_marked c.in-Some.fork.root in
    let l = c.in-Some.fork.left.items in
    let r = c.in-Some.fork.right.items in
    let items = ap items_at (sym c.in-Some.is ∙ c.deref_mut.ensures.value) ∙ ap items_of (sym c.in-Fork.is) ∙ ap (λ d. d.items) c.tree.view_is in
    let good = subst IsBalancedAt (sym c.deref_mut.ensures.value ∙ c.in-Some.is) (subst IsBalanced c.in-Fork.is c.tree.invariant) in
    c.remove-taken.ensures.taken ∙ sym (item_left e k l r good.rises (sym c.in-Less.ensures.exact)) ∙ ap (item_of e) items

pub returns-in-Greater-clause-items : goal.returns-in-Greater-clause-items
returns-in-Greater-clause-items t c =
    let e = element_view c.args.element.now in
    let k = plain_marked c.in-Some.fork.root in
    let l = c.in-Some.fork.left.items in
    let r = c.in-Some.fork.right.items in
    let items = ap items_at (sym c.in-Some.is ∙ c.deref_mut.ensures.value) ∙ ap items_of (sym c.in-Fork.is) ∙ ap (λ d. d.items) c.tree.view_is in
    let good = subst IsBalancedAt (sym c.deref_mut.ensures.value ∙ c.in-Some.is) (subst IsBalanced c.in-Fork.is c.tree.invariant) in
    c.settle-in-Greater.ensures.items ∙ ap (λ xs. l ++ k ∷ xs) c.remove-taken-in-Greater.ensures.items ∙ sym (without_right e k l r good.rises (sym c.in-Greater.ensures.exact)) ∙ ap (without_item e) items

pub returns-in-Greater-clause-taken : goal.returns-in-Greater-clause-taken
returns-in-Greater-clause-taken t c =
    let e = element_view c.args.element.now in
    let k = plain_marked c.in-Some.fork.root in
    let l = c.in-Some.fork.left.items in
    let r = c.in-Some.fork.right.items in
    let items = ap items_at (sym c.in-Some.is ∙ c.deref_mut.ensures.value) ∙ ap items_of (sym c.in-Fork.is) ∙ ap (λ d. d.items) c.tree.view_is in
    let good = subst IsBalancedAt (sym c.deref_mut.ensures.value ∙ c.in-Some.is) (subst IsBalanced c.in-Fork.is c.tree.invariant) in
    c.remove-taken-in-Greater.ensures.taken ∙ sym (item_right e k l r good.rises (sym c.in-Greater.ensures.exact)) ∙ ap (item_of e) items

pub returns-then-height-eq0-clause-items : goal.returns-then-height-eq0-clause-items
returns-then-height-eq0-clause-items t c =
    let e = element_view c.args.element.now in
    let k = plain_marked c.in-Some.fork.root in
    let l = c.in-Some.fork.left.items in
    let r = c.in-Some.fork.right.items in
    let items = ap items_at (sym c.in-Some.is ∙ c.deref_mut.ensures.value) ∙ ap items_of (sym c.in-Fork.is) ∙ ap (λ d. d.items) c.tree.view_is in
    let good = subst IsBalancedAt (sym c.deref_mut.ensures.value ∙ c.in-Some.is) (subst IsBalanced c.in-Fork.is c.tree.invariant) in
    let none : l ≡ [] = c.height.ensures.empty (omega (arith, c.height.ensures.height, c.if-height-eq0.true)) in
    ap (λ (tree : PlainTree). tree.items) (c.lift.ensures.same_view ∙ c.replace-right.ensures.value) ∙ sym (ap (λ xs. xs ++ r) none)
    ∙ sym (without_root e k l r good.rises (sym c.in-Equal.ensures.exact)) ∙ ap (without_item e) items

pub returns-else-height-eq0-clause-items : goal.returns-else-height-eq0-clause-items
returns-else-height-eq0-clause-items t c =
    let e = element_view c.args.element.now in
    let k = plain_marked c.in-Some.fork.root in
    let l = c.in-Some.fork.left.items in
    let r = c.in-Some.fork.right.items in
    let items = ap items_at (sym c.in-Some.is ∙ c.deref_mut.ensures.value) ∙ ap items_of (sym c.in-Fork.is) ∙ ap (λ d. d.items) c.tree.view_is in
    let good = subst IsBalancedAt (sym c.deref_mut.ensures.value ∙ c.in-Some.is) (subst IsBalanced c.in-Fork.is c.tree.invariant) in
    c.take_root.ensures.items ∙ sym (without_root e k l r good.rises (sym c.in-Equal.ensures.exact)) ∙ ap (without_item e) items

pub returns-else-height-eq0-clause-taken : goal.returns-else-height-eq0-clause-taken
returns-else-height-eq0-clause-taken t c =
    let e = element_view c.args.element.now in
    let k = plain_marked c.in-Some.fork.root in
    let l = c.in-Some.fork.left.items in
    let r = c.in-Some.fork.right.items in
    let items = ap items_at (sym c.in-Some.is ∙ c.deref_mut.ensures.value) ∙ ap items_of (sym c.in-Fork.is) ∙ ap (λ d. d.items) c.tree.view_is in
    let good = subst IsBalancedAt (sym c.deref_mut.ensures.value ∙ c.in-Some.is) (subst IsBalanced c.in-Fork.is c.tree.invariant) in
    ap Some c.take_root.ensures.item ∙ sym (item_root e k l r good.rises (sym c.in-Equal.ensures.exact)) ∙ ap (item_of e) items

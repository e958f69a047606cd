-- The element stands on the side where the order has it, if anywhere.
use Rattle.std.proofs.Common.{◌≡◌, sym, ap, subst, ◌∙◌}
use Rattle.cpn_core.specs.Elements.{element_view}
use Rattle.cpn_due.specs.Due.{is_kept}
use Rattle.cpn_due.specs.Marked.{plain_marked, enabled_in}
use Rattle.cpn_due.specs.Trees.{items_at, items_of, IsBalancedAt, IsBalanced}
use Rattle.cpn_due.proofs.RankedItems.{kept_left, kept_right}
use Rattle.cpn_due.proofs.trees.Tree.+contains.Goals as goal

pub returns-in-Less : goal.returns-in-Less
returns-in-Less t c =
    let e = element_view c.args.element.now in
    let items = ap items_at (sym c.in-Some.is ∙ c.deref.ensures) ∙ ap items_of (sym c.in-Fork.is) ∙ ap (λ d. d.items) c.self.view_is in
    let rise = (subst IsBalancedAt (sym c.deref.ensures ∙ c.in-Some.is) (subst IsBalanced c.in-Fork.is c.self.invariant)).rises in
    let there : c.contains.result ≡ is_kept e (enabled_in c.in-Some.fork.left.items) = cc (c.contains.ensures.exact) in
    record {
      exact =
          there ∙ kept_left e (plain_marked c.in-Some.fork.root) c.in-Some.fork.left.items c.in-Some.fork.right.items rise (sym c.in-Less.ensures.exact)
          ∙ ap (λ xs. is_kept e (enabled_in xs)) items;
    }

pub returns-in-Greater : goal.returns-in-Greater
returns-in-Greater t c =
    let e = element_view c.args.element.now in
    let items = ap items_at (sym c.in-Some.is ∙ c.deref.ensures) ∙ ap items_of (sym c.in-Fork.is) ∙ ap (λ d. d.items) c.self.view_is in
    let rise = (subst IsBalancedAt (sym c.deref.ensures ∙ c.in-Some.is) (subst IsBalanced c.in-Fork.is c.self.invariant)).rises in
    let there : c.contains-in-Greater.result ≡ is_kept e (enabled_in c.in-Some.fork.right.items) = cc (c.contains-in-Greater.ensures.exact) in
    record {
      exact =
          there ∙ kept_right e (plain_marked c.in-Some.fork.root) c.in-Some.fork.left.items c.in-Some.fork.right.items rise (sym c.in-Greater.ensures.exact)
          ∙ ap (λ xs. is_kept e (enabled_in xs)) items;
    }

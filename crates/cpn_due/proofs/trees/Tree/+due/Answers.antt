-- The item at the rank stands on the left, is the root, or stands on the right.
use Rattle.std.proofs.Common.{◌≡◌, ◌+◌, ◌-◌, [], ◌∷◌, length, slice_get, Some, sym, ap, ◌∙◌, arith}
use Rattle.cpn_due.specs.Due.{plain_enabled}
use Rattle.cpn_due.specs.Marked.{plain_marked, enabled_in, are_due}
use Rattle.cpn_due.specs.Trees.{items_at, items_of}
use Rattle.cpn_due.proofs.RankedItems.{due_before, due_root, due_after}
use Rattle.cpn_due.proofs.trees.Tree.+due.Goals as goal

pub returns-then-rank-before : goal.returns-then-rank-before
returns-then-rank-before t c =
    let items = ap items_at (sym c.in-Some.is ∙ c.deref.ensures) ∙ ap items_of (sym c.in-Fork.is) ∙ ap (λ d. d.items) c.self.view_is in
    let number : c.summary-before.result.due ≡ length (are_due c.in-Some.fork.left.items) = cc (ap (λ s. s.due) c.summary-before.ensures.summary) in
    let item : slice_get (enabled_in (are_due c.in-Some.fork.left.items)) c.args.rank ≡ Some (plain_enabled c.due.result.now) = cc (c.due.ensures.item) in
    record {
      item =
          ap (λ xs. slice_get (enabled_in (are_due xs)) c.args.rank) (sym items)
          ∙ due_before c.in-Some.fork.left.items (plain_marked c.in-Some.fork.root) c.in-Some.fork.right.items c.args.rank (omega (arith, number, c.if-rank-before.true)) ∙ item;
    }

pub returns-then-rest-here : goal.returns-then-rest-here
returns-then-rest-here t c =
    let items = ap items_at (sym c.in-Some.is ∙ c.deref.ensures) ∙ ap items_of (sym c.in-Fork.is) ∙ ap (λ d. d.items) c.self.view_is in
    let number : c.summary-before.result.due ≡ length (are_due c.in-Some.fork.left.items) = cc (ap (λ s. s.due) c.summary-before.ensures.summary) in
    let rest = c.args.rank - length (are_due c.in-Some.fork.left.items) in
    let rank : c.args.rank ≡ length (are_due c.in-Some.fork.left.items) + rest = omega (arith, number, c.if-rank-before.false) in
    record {
      item =
          ap (λ xs. slice_get (enabled_in (are_due xs)) c.args.rank) (sym items)
          ∙ ap (slice_get (enabled_in (are_due (items_at (Some c.in-Some.fork))))) rank
          ∙ due_root c.in-Some.fork.left.items (plain_marked c.in-Some.fork.root) c.in-Some.fork.right.items rest (omega (arith, number, c.if-rank-before.false, c.if-rest-here.true, c.due_count-here.ensures.count));
    }

pub returns : goal.returns
returns t c =
    let items = ap items_at (sym c.in-Some.is ∙ c.deref.ensures) ∙ ap items_of (sym c.in-Fork.is) ∙ ap (λ d. d.items) c.self.view_is in
    let number : c.summary-before.result.due ≡ length (are_due c.in-Some.fork.left.items) = cc (ap (λ s. s.due) c.summary-before.ensures.summary) in
    let before = length (are_due c.in-Some.fork.left.items) in
    let here = length (are_due (plain_marked c.in-Some.fork.root ∷ [])) in
    let rest = c.args.rank - c.summary-before.result.due - c.due_count-here.result in
    let count : c.due_count-here.result ≡ length (are_due (plain_marked c.in-Some.fork.root ∷ [])) = c.due_count-here.ensures.count in
    let rank : c.args.rank ≡ before + (here + rest) = omega (arith, number, c.if-rank-before.false, c.if-rest-here.false, count) in
    let item : slice_get (enabled_in (are_due c.in-Some.fork.right.items)) (c.args.rank - c.summary-before.result.due - c.due_count-here.result) ≡ Some (plain_enabled c.due-in-Some.result.now) = cc (c.due-in-Some.ensures.item) in
    record {
      item =
          ap (λ xs. slice_get (enabled_in (are_due xs)) c.args.rank) (sym items)
          ∙ ap (slice_get (enabled_in (are_due (items_at (Some c.in-Some.fork))))) rank
          ∙ due_after c.in-Some.fork.left.items (plain_marked c.in-Some.fork.root) c.in-Some.fork.right.items rest ∙ item;
    }

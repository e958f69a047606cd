-- The last item of the left side stands between both sides as the root did.
use Rattle.std.proofs.Common.{[], ◌∷◌, ◌++◌, ap, sym, subst, append_assoc, ◌∙◌}
use Rattle.cpn_definitions.specs.Lists.{Rises}
use Rattle.cpn_due.specs.declared.marked.Marked.{Marked}
use Rattle.cpn_due.specs.Marked.{plain_marked, marked_cmp}
use Rattle.cpn_due.proofs.RisingSides.{rises_past}
use Rattle.cpn_due.proofs.removing.take_root.Goals as goal

pub settle-requires-clause-rises : goal.settle-requires-clause-rises
settle-requires-clause-rises c =
    let r = c.args.fork.now.right.items in
    let past = rises_past marked_cmp c.args.fork.now.left.items (plain_marked c.args.fork.now.root) r c.requires.rises in
    let parts = subst (λ xs. Rises marked_cmp (xs ++ r)) c.pop_last-last.ensures.items past in
    let joined = subst (Rises marked_cmp) (append_assoc c.pop_last-last.new.tree.items (plain_marked c.pop_last-last.result.item ∷ []) r) parts in
    subst (λ (root : Marked). Rises marked_cmp (c.pop_last-last.new.tree.items ++ plain_marked root ∷ r)) (sym c.replace-item.ensures.after) joined

pub returns-clause-items : goal.returns-clause-items
returns-clause-items c =
    let r = c.args.fork.now.right.items in
    c.settle.ensures.items ∙ ap (λ (root : Marked). c.pop_last-last.new.tree.items ++ plain_marked root ∷ r) c.replace-item.ensures.after
    ∙ sym (append_assoc c.pop_last-last.new.tree.items (plain_marked c.pop_last-last.result.item ∷ []) r) ∙ sym (ap (λ xs. xs ++ r) c.pop_last-last.ensures.items)

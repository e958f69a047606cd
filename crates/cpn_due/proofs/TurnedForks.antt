-- The items of a fork, of which a side that stood in it is taken apart.
use Rattle.std.proofs.Common.{◌≡◌, List, ◌∷◌, ◌++◌, sym, subst}
use Rattle.cpn_definitions.specs.Lists.{Rises}
use Rattle.cpn_due.specs.declared.marked.Marked.{Marked}
use Rattle.cpn_due.specs.Marked.{PlainMarked, PlainTree, plain_marked, marked_cmp}
use Rattle.cpn_due.specs.Sides.{around}

module _ (l r : PlainTree) (k : Marked) (left right : PlainTree) (root : Marked) (same_left : left ≡ l) (same_right : right ≡ r) (same_root : root ≡ k) (rise : Rises marked_cmp (around l (plain_marked k) r)) where
  rises_there : Rises marked_cmp (around left (plain_marked root) right)
  rises_there =
      let first = subst (λ (t : PlainTree). Rises marked_cmp (around t (plain_marked k) r)) (sym same_left) rise in
      let second = subst (λ (t : PlainTree). Rises marked_cmp (around left (plain_marked k) t)) (sym same_right) first in
      subst (λ (m : Marked). Rises marked_cmp (around left (plain_marked m) right)) (sym same_root) second

  pub rises_left_apart : (xs : List PlainMarked) → left.items ≡ xs → Rises marked_cmp (xs ++ plain_marked root ∷ right.items)
  rises_left_apart xs is = subst (λ zs. Rises marked_cmp (zs ++ plain_marked root ∷ right.items)) is rises_there

  pub rises_right_apart : (xs : List PlainMarked) → right.items ≡ xs → Rises marked_cmp (left.items ++ plain_marked root ∷ xs)
  rises_right_apart xs is = subst (λ zs. Rises marked_cmp (left.items ++ plain_marked root ∷ zs)) is rises_there

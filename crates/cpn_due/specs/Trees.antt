-- What a node of a tree is seen as, and what holds of it.
use Rattle.std.specs.Prelude.{◌≡◌, ℕ, ◌≤◌, List, [], Option, Some, None}
use Rattle.cpn_definitions.specs.Lists.{Rises}
use Rattle.cpn_due.specs.Marked.{PlainMarked, PlainTree, plain_marked, marked_cmp, summary_of}
use Rattle.cpn_due.specs.Sides.{around, above, count_around, DifferByAtMost}
use Rattle.cpn_due.specs.declared.summaries.Summary.{Summary}
use Rattle.cpn_due.specs.declared.trees.Fork.{Fork}
use Rattle.cpn_due.specs.declared.trees.Node.{Node}
use Rattle.cpn_due.specs.declared.trees.Node.TheVariants as node

-- the items in order
abbrev pub items_at : Option Fork → List PlainMarked
items_at None = []
items_at (Some f) = around f.left (plain_marked f.root) f.right

abbrev pub items_of : Node → List PlainMarked
items_of node.Leaf = []
items_of (node.Fork cell) = items_at cell.value

abbrev pub height_at : Option Fork → ℕ
height_at None = 0
height_at (Some f) = f.summary.height

abbrev pub height_of : Node → ℕ
height_of node.Leaf = 0
height_of (node.Fork cell) = height_at cell.value

abbrev pub node_view : Node → PlainTree
node_view n = record { items = items_of n; height = height_of n }

-- Around a root the items rise, the sides differ in height by at most one, and the summary is that of all the items; and the tree
-- is not higher than it has items.
pub record AreBalanced (left : PlainTree) (root : PlainMarked) (right : PlainTree) (summary : Summary) : Type 0 where
  pub rises : Rises marked_cmp (around left root right)
  pub level : DifferByAtMost 1 left right
  pub summed : summary ≡ summary_of (around left root right) (above left right)
  pub low : above left right ≤ count_around left right

abbrev pub IsBalancedAt : Option Fork → Type 0
IsBalancedAt None = Unit {0}
IsBalancedAt (Some f) = AreBalanced f.left (plain_marked f.root) f.right f.summary

abbrev pub IsBalanced : Node → Type 0
IsBalanced node.Leaf = Unit {0}
IsBalanced (node.Fork cell) = IsBalancedAt cell.value

-- the node has a root, and which one
abbrev pub IsForkAt : Option Fork → Type 0
IsForkAt None = ⊥
IsForkAt (Some f) = Unit {0}

abbrev pub IsFork : Node → Type 0
IsFork node.Leaf = ⊥
IsFork (node.Fork cell) = IsForkAt cell.value

abbrev pub HasRootAt : Option Fork → PlainMarked → Type 0
HasRootAt None root = ⊥
HasRootAt (Some f) root = root ≡ plain_marked f.root

abbrev pub HasRoot : Node → PlainMarked → Type 0
HasRoot node.Leaf root = ⊥
HasRoot (node.Fork cell) root = HasRootAt cell.value root

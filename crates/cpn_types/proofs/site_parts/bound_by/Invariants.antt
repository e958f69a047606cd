-- The values that are left, around what has been made, are all of them around the tokens.
use Rattle.std.proofs.Common.{◌≡◌, map, length}
use Rattle.cpn_core.specs.Inscriptions.{expr_view, multiset_view}
use Rattle.cpn_types.specs.Sites.{all_bound}
use Rattle.cpn_types.proofs.site_parts.bound_by.Given as goal

abbrev pub invariant-loop-value : goal.invariant-loop-value
invariant-loop-value l = all_bound (map expr_view l.values.items) (multiset_view l.tokens) ≡ all_bound (map expr_view l.initial.values.items) (multiset_view l.initial.tokens)

abbrev pub decreases-loop-value : goal.decreases-loop-value
decreases-loop-value l = length l.values.items

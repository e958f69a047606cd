-- What is checked so far, in front of what the rules say of the rest, is what they say of all.
use Rattle.std.proofs.Common.{◌≡◌, map, drop}
use Rattle.cpn_trees.specs.PatViews.{pat_view}
use Rattle.cpn_trees.specs.Trees.{pats_from}
use Rattle.cpn_core.specs.Inscriptions.{pattern_view}
use Rattle.cpn_typing.specs.PatternRules.{bound_by_parts, bound_by_items}
use Rattle.cpn_forms.specs.BoundViews.{around_view}
use Rattle.cpn_forms.specs.ScopeViews.{scope_view}
use Rattle.cpn_declared.specs.TypeViews.{ty_view, tys_view}
use Rattle.cpn_forms.proofs.PatternFronts.{before_patterns}
use Rattle.cpn_forms.proofs.patterns.+bind.Given as goal

abbrev pub invariant-bind_parts-loop-i : goal.invariant-bind_parts-loop-i
invariant-bind_parts-loop-i l =
    before_patterns (map pattern_view l.patterns.items) (bound_by_parts (around_view l.decls l.scope) (pats_from (map pat_view (drop l.i l.parts))) l.at (tys_view (drop l.i l.types)) (scope_view l.bound.items))
    ≡ bound_by_parts (around_view l.decls l.scope) (pats_from (map pat_view l.parts)) l.at (tys_view l.types) (scope_view l.fn.bound.items)

abbrev pub invariant-bind_items-loop-item : goal.invariant-bind_items-loop-item
invariant-bind_items-loop-item l =
    before_patterns (map pattern_view l.patterns.items) (bound_by_items (around_view l.decls l.scope) (pats_from (map pat_view (drop l.item-index l.items))) (ty_view l.ty) (scope_view l.bound.items))
    ≡ bound_by_items (around_view l.decls l.scope) (pats_from (map pat_view l.items)) (ty_view l.ty) (scope_view l.fn.bound.items)

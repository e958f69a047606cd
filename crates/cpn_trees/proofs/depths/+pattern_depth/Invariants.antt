-- As deep as all the patterns, above so many levels, are those that are left.
use Rattle.std.proofs.Common.{◌≡◌, max, map, drop}
use Rattle.cpn_trees.specs.Depth.{deepest_pat}
use Rattle.cpn_trees.specs.PatViews.{pat_view}
use Rattle.cpn_trees.specs.Trees.{pats_from}
use Rattle.cpn_trees.proofs.depths.+pattern_depth.Given as goal

abbrev pub invariant-is_any_pattern_deeper-loop-pattern : goal.invariant-is_any_pattern_deeper-loop-pattern
invariant-is_any_pattern_deeper-loop-pattern l =
    max l.most (deepest_pat (pats_from (map pat_view (drop l.pattern-index l.patterns)))) ≡ max l.most (deepest_pat (pats_from (map pat_view l.patterns)))

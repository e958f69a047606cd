-- The pattern that is left is no larger than the whole.
use Rattle.std.proofs.Common.{◌≤◌}
use Rattle.cpn_trees.specs.declared.patterns.Pat.{size-Pat}
use Rattle.cpn_trees.proofs.patterns.Pat.+pattern.Given as goal

abbrev pub invariant-loop-name : goal.invariant-loop-name
invariant-loop-name l = size-Pat l.self ≤ size-Pat l.initial.self

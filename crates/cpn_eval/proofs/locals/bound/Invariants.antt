-- None of the pairs so far has the variable.
use Rattle.std.proofs.Common.{◌≡◌, drop}
use Rattle.cpn_definitions.specs.Meaning.{bound_value}
use Rattle.cpn_core.specs.Pairs.{pairs_view}
use Rattle.cpn_eval.proofs.locals.bound.Given as goal

abbrev pub invariant-loop-pair : goal.invariant-loop-pair
invariant-loop-pair l = bound_value l.number (pairs_view l.pair-items) ≡ bound_value l.number (pairs_view (drop l.pair-index l.pair-items))

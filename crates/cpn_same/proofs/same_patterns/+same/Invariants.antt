-- The rows are the same where those that are left are.
use Rattle.std.proofs.Common.{◌≡◌, drop}
use Rattle.cpn_core.specs.Inscriptions.{patterns_view}
use Rattle.cpn_same.specs.SamePatterns.{same_patterns}
use Rattle.cpn_same.proofs.same_patterns.+same.Given as goal

abbrev pub invariant-same_patterns-loop-i : goal.invariant-same_patterns-loop-i
invariant-same_patterns-loop-i l =
    same_patterns (patterns_view l.patterns.items) (patterns_view l.others.items) ≡ same_patterns (patterns_view (drop l.i l.patterns.items)) (patterns_view (drop l.i l.others.items))

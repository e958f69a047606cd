-- What was found so far and what is left to find are what is to be found.
use Rattle.std.proofs.Common.{◌≡◌, ◌++◌, drop}
use Rattle.cpn_definitions.specs.Bindable.{patterns_variables}
use Rattle.cpn_core.specs.Inscriptions.{patterns_view}
use Rattle.cpn_bindable.proofs.variables.+pattern_variables.Given as goal

abbrev pub invariant-push_of_patterns-loop-pattern : goal.invariant-push_of_patterns-loop-pattern
invariant-push_of_patterns-loop-pattern l =
    l.found.items ++ patterns_variables (patterns_view (drop l.pattern-index l.patterns.items)) ≡ l.initial.found.items ++ patterns_variables (patterns_view l.patterns.items)

-- What was found so far and what is left to find are what is to be found.
use Rattle.std.proofs.Common.{◌≡◌, ◌++◌, map, drop}
use Rattle.std.specs.List.{flat_map}
use Rattle.cpn_definitions.specs.Bindable.{pattern_variables}
use Rattle.cpn_core.specs.Inscriptions.{term_view}
use Rattle.cpn_bindable.proofs.variables.push_of_terms.Given as goal

abbrev pub invariant-loop-term : goal.invariant-loop-term
invariant-loop-term l =
    l.found.items ++ flat_map (λ term. pattern_variables term.pattern) (map term_view (drop l.term-index l.terms)) ≡ l.initial.found.items ++ flat_map (λ term. pattern_variables term.pattern) (map term_view l.terms)

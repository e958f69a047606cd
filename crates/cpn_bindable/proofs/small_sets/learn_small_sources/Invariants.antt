-- The sources so far are known where their colour sets are small.
use Rattle.std.proofs.Common.{map, take}
use Rattle.cpn_core.specs.Nets.{variable_view}
use Rattle.cpn_bindable.specs.Equations.{equations_view}
use Rattle.cpn_bindable.specs.Known.{sources_of, AddsSmall}
use Rattle.cpn_bindable.proofs.small_sets.learn_small_sources.Given as goal

abbrev pub invariant-loop-equation : goal.invariant-loop-equation
invariant-loop-equation l = AddsSmall (map variable_view l.variables) (sources_of (equations_view (take l.equation-index l.equations))) l.initial.known.items l.known.items

-- The variables so far are known where their colour sets are small.
use Rattle.std.proofs.Common.{map, take}
use Rattle.cpn_core.specs.Nets.{variable_view}
use Rattle.cpn_bindable.specs.Known.{AddsSmall}
use Rattle.cpn_bindable.proofs.small_sets.learn_small.Given as goal

abbrev pub invariant-loop-number : goal.invariant-loop-number
invariant-loop-number l = AddsSmall (map variable_view l.variables) (take l.number-index l.numbers) l.initial.known.items l.known.items

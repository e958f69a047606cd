-- What is held now and the values that are left are all of them.
use Rattle.std.proofs.Common.{◌≡◌, ◌++◌, map}
use Rattle.std.specs.Vec.Iter.{into_iter_items}
use Rattle.cpn_core.specs.Views.{value_view}
use Rattle.cpn_eval.specs.Held.{all_held}
use Rattle.cpn_eval.proofs.backwards.hold_all.Given as goal

abbrev pub invariant-loop-value : goal.invariant-loop-value
invariant-loop-value l = all_held l.held ++ map value_view (into_iter_items l.value-iterator) ≡ all_held l.initial.held ++ map value_view (into_iter_items l.initial.value-iterator)

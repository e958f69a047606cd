-- The values so far and those that are left are all of them.
use Rattle.std.proofs.Common.{◌≡◌, ◌++◌, map}
use Rattle.std.specs.Vec.Iter.{into_iter_items}
use Rattle.cpn_core.specs.Views.{value_view}
use Rattle.cpn_eval.specs.Held.{held_view}
use Rattle.cpn_eval.proofs.backwards.values_of.Given as goal

abbrev pub invariant-loop-one : goal.invariant-loop-one
invariant-loop-one l = map value_view l.values.items ++ map held_view (into_iter_items l.one-iterator) ≡ map held_view (into_iter_items l.initial.one-iterator)

-- The pairs so far are the first ones.
use Rattle.std.proofs.Common.{◌≡◌, take}
use Rattle.cpn_core.specs.Pairs.{pairs_view}
use Rattle.cpn_core.proofs.bindings.Binding.copy.Given as goal

abbrev pub invariant-loop-pair : goal.invariant-loop-pair
invariant-loop-pair l = l.copied ≡ pairs_view (take l.pair-index l.pair-items)

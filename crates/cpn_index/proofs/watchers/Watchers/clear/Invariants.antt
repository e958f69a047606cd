-- Nothing waits on the places so far.
use Rattle.std.proofs.Common.{◌≡◌, [], take}
use Rattle.std.specs.List.{AllByRecursion}
use Rattle.cpn_index.proofs.watchers.Watchers.clear.Given as goal

abbrev pub invariant-loop-waiting : goal.invariant-loop-waiting
invariant-loop-waiting l = AllByRecursion (λ place. place.sets.entries ≡ []) (take l.waiting-index l.waiting-items)

-- The entries so far, and those that are left to copy.
use Rattle.std.proofs.Common.{◌≡◌, ◌++◌}
use Rattle.cpn_tmset.specs.Views.{entries_view}
use Rattle.cpn_tmset.proofs.tmsets.TMSet.copy.Given as goal

abbrev pub invariant-loop-value : goal.invariant-loop-value
invariant-loop-value l = entries_view l.entries.entries ++ entries_view l.value-iterator ≡ entries_view l.self-inside.entries.entries

-- The groups so far are the same.
use Rattle.std.proofs.Common.{◌≡◌, take}
use Rattle.cpn_tmset.specs.ListedViews.{groups_view}
use Rattle.cpn_flat.proofs.tokens.are_same_groups.Given as goal

abbrev pub invariant-loop-number : goal.invariant-loop-number
invariant-loop-number l = groups_view (take l.number l.groups) ≡ groups_view (take l.number l.others)

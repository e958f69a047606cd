-- The set has the transitions that read otherwise what was told so far.
use Rattle.std.proofs.Common.{◌≡◌, ℕ, take}
use Rattle.std.specs.BTreeSet.{contains}
use Rattle.std.specs.Ordering.{nat_cmp}
use Rattle.cpn_tmset.specs.ChangedViews.{change_views}
use Rattle.cpn_index.specs.Readers.{is_read}
use Rattle.cpn_index.proofs.searching.read_otherwise.Given as goal

abbrev pub invariant-loop-change : goal.invariant-loop-change
invariant-loop-change l = (t : ℕ) → contains nat_cmp l.read t ≡ is_read l.readers.otherwise.items (change_views (take l.change-index l.changes)) t

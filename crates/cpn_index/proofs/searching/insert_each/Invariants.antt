-- The numbers so far are in the set.
use Rattle.std.proofs.Common.{◌≡◌, ℕ, ◌||◌, take}
use Rattle.std.specs.BTreeSet.{contains}
use Rattle.std.specs.Ordering.{nat_cmp}
use Rattle.cpn_index.specs.Readers.{is_one_of}
use Rattle.cpn_index.proofs.searching.insert_each.Given as goal

abbrev pub invariant-loop-number : goal.invariant-loop-number
invariant-loop-number l = (t : ℕ) → contains nat_cmp l.set t ≡ (contains nat_cmp l.initial.set t || is_one_of (take l.number-index l.numbers) t)

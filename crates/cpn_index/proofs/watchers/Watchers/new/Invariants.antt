-- So many places so far, and nothing waits on them.
use Rattle.std.proofs.Common.{◌≡◌, [], length}
use Rattle.std.specs.List.{AllByRecursion}
use Rattle.cpn_index.proofs.watchers.Watchers.new.Given as goal

abbrev pub invariant-loop-place : goal.invariant-loop-place
invariant-loop-place l = record {
  empty : AllByRecursion (λ place. place.sets.entries ≡ []) l.empty.items;
  count : length l.empty.items ≡ l._place;
}

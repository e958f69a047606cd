-- So many lists so far, all empty.
use Rattle.std.proofs.Common.{◌≡◌, ℕ, [], length, slice_index_or}
use Rattle.cpn_flat.specs.WrittenViews.{lists_view}
use Rattle.cpn_flat.proofs.written.empty_lists.Given as goal

abbrev pub invariant-loop-class : goal.invariant-loop-class
invariant-loop-class l = record {
  number : length l.lists.items ≡ l.«_class»;
  empty : (c : ℕ) → slice_index_or (lists_view l.lists.items) c [] ≡ [];
}

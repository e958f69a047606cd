-- So many lists so far, all empty.
use Rattle.std.proofs.Common.{◌≡◌, ℕ, [], length}
use Rattle.cpn_index.specs.Readers.{numbers_at}
use Rattle.cpn_index.proofs.readers.empty_lists.Given as goal

abbrev pub invariant-loop-place : goal.invariant-loop-place
invariant-loop-place l = record {
  as_many : length l.lists.items ≡ l.«_place»;
  empty : (p : ℕ) → numbers_at l.lists.items p ≡ [];
}

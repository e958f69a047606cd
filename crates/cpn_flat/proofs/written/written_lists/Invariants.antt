-- Of each class, those of the members so far.
use Rattle.std.proofs.Common.{◌≡◌, ℕ, ◌<◌, [], length, take, slice_index_or}
use Rattle.cpn_flat.specs.InitialMarking.{written_in}
use Rattle.cpn_flat.specs.WrittenViews.{optional_view, lists_view}
use Rattle.cpn_flat.proofs.written.written_lists.Given as goal

abbrev pub invariant-loop-number : goal.invariant-loop-number
invariant-loop-number l = record {
  each : length l.lists.items ≡ length l.classes.firsts;
  written : (c : ℕ) → c < length l.classes.firsts → slice_index_or (lists_view l.lists.items) c [] ≡ written_in c (take l.number l.classes.numbers) (optional_view (take l.number l.initials));
}

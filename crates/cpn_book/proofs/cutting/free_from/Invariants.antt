-- Of the seats before this one each holds a claim ahead of the number still, or none; the others hold what they held.
use Rattle.std.proofs.Common.{◌≡◌, ℕ, ◌<◌, ◌≤◌, length, slice_get}
use Rattle.std.specs.Option.{option_map}
use Rattle.cpn_book.specs.Held.{held_below}
use Rattle.cpn_book.proofs.cutting.free_from.Given as goal

abbrev pub invariant-loop-seat : goal.invariant-loop-seat
invariant-loop-seat l = record {
  long : length l.held.items ≡ length l.initial.held.items;
  freed : (s : ℕ) → s < l.seat → slice_get l.held.items s ≡ option_map (held_below l.number) (slice_get l.initial.held.items s);
  others : (s : ℕ) → l.seat ≤ s → slice_get l.held.items s ≡ slice_get l.initial.held.items s;
}

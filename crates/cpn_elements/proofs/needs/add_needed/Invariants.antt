-- The needs so far with the tokens that are left are the needs with all of them.
use Rattle.std.proofs.Common.{◌≡◌, ◌-◌, replicate}
use Rattle.cpn_definitions.specs.Lists.{with_items}
use Rattle.cpn_definitions.specs.Occurrence.{Needed, needed_cmp}
use Rattle.cpn_core.specs.Views.{value_view}
use Rattle.cpn_elements.proofs.needs.add_needed.Given as goal

abbrev pub invariant-loop-token : goal.invariant-loop-token
invariant-loop-token l =
    let need : Needed = record { place = l.place; value = value_view l.initial.value; offset = l.delay } in
    record {
      value : value_view l.value ≡ value_view l.initial.value;
      added : with_items needed_cmp (replicate (l.count - (l._token - 1)) need) l.needs ≡ with_items needed_cmp (replicate l.count need) l.initial.needs;
    }

-- The outputs so far with the tokens that are left are the outputs with all of them.
use Rattle.std.proofs.Common.{◌≡◌, ◌-◌, replicate}
use Rattle.cpn_definitions.specs.Lists.{with_items}
use Rattle.cpn_definitions.specs.Occurrence.{Made, made_cmp}
use Rattle.cpn_core.specs.Views.{value_view}
use Rattle.cpn_jobs.proofs.outputs.add_made.Given as goal

abbrev pub invariant-loop-token : goal.invariant-loop-token
invariant-loop-token l =
    let made : Made = record { place = l.place; value = value_view l.initial.value; stamp = l.stamp } in
    record {
      value : value_view l.value ≡ value_view l.initial.value;
      added : with_items made_cmp (replicate (l.count - (l._token - 1)) made) l.outputs ≡ with_items made_cmp (replicate l.count made) l.initial.outputs;
    }

-- The outputs so far with the tokens of the terms that are left are the outputs with those of all terms.
use Rattle.std.proofs.Common.{◌≡◌, ◌+◌, length}
use Rattle.std.specs.Vec.Iter.{into_iter_items, into_iter_len}
use Rattle.cpn_definitions.specs.Lists.{with_items}
use Rattle.cpn_definitions.specs.Occurrence.{made_cmp}
use Rattle.cpn_eval.specs.Terms.{terms_view}
use Rattle.cpn_jobs.specs.Gathered.{made_of_terms}
use Rattle.cpn_jobs.specs.Views.{work_arc_view}
use Rattle.cpn_jobs.proofs.outputs.add_outputs.Given as goal

abbrev pub invariant-loop-term : goal.invariant-loop-term
invariant-loop-term l = record {
  left : into_iter_len l.term-iterator ≡ length (into_iter_items l.term-iterator);
  added : with_items made_cmp (made_of_terms (work_arc_view l.arc) (l.time + l.delay) (terms_view (into_iter_items l.term-iterator))) l.outputs ≡ with_items made_cmp (made_of_terms (work_arc_view l.arc) (l.time + l.delay) (terms_view (into_iter_items l.initial.term-iterator))) l.initial.outputs;
}

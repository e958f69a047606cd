-- The needs so far with the tokens of the terms that are left are the needs with those of all terms.
use Rattle.std.proofs.Common.{◌≡◌, length}
use Rattle.std.specs.Vec.Iter.{into_iter_items, into_iter_len}
use Rattle.cpn_definitions.specs.Lists.{with_items}
use Rattle.cpn_definitions.specs.Occurrence.{needed_cmp}
use Rattle.cpn_eval.specs.Terms.{terms_view}
use Rattle.cpn_elements.specs.Summed.{tokens_of}
use Rattle.cpn_elements.specs.Needs.{needed_of}
use Rattle.cpn_elements.proofs.needs.add_needs.Given as goal

abbrev pub invariant-loop-term : goal.invariant-loop-term
invariant-loop-term l = record {
  left : into_iter_len l.term-iterator ≡ length (into_iter_items l.term-iterator);
  added : with_items needed_cmp (tokens_of (needed_of l.arc.place) (terms_view (into_iter_items l.term-iterator))) l.needs
      ≡ with_items needed_cmp (tokens_of (needed_of l.arc.place) (terms_view (into_iter_items l.initial.term-iterator))) l.initial.needs;
}

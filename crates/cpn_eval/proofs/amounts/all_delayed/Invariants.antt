-- The terms that are delayed, and those that are left, delayed, are all of them.
use Rattle.std.proofs.Common.{◌≡◌, length}
use Rattle.std.specs.Vec.Iter.{into_iter_items, into_iter_len}
use Rattle.cpn_definitions.specs.Terms.{all_delayed}
use Rattle.cpn_eval.specs.Terms.{terms_view}
use Rattle.cpn_eval.proofs.TermAmounts.{behind}
use Rattle.cpn_eval.proofs.amounts.all_delayed.Given as goal

abbrev pub invariant-loop-term : goal.invariant-loop-term
invariant-loop-term l = record {
  left : into_iter_len l.term-iterator ≡ length (into_iter_items l.term-iterator);
  delayed : behind (terms_view l.delayed.items) (all_delayed (terms_view (into_iter_items l.term-iterator)) l.delay) ≡ all_delayed (terms_view (into_iter_items l.initial.term-iterator)) l.delay;
}

-- None of the transitions that were seen has too many, so those that are left decide.
use Rattle.std.proofs.Common.{◌≡◌, drop, map}
use Rattle.cpn_document.specs.Document.{have_few_arcs}
use Rattle.cpn_document.specs.Views.{arc_view}
use Rattle.cpn_document.proofs.arc_counts.have_few_arcs.Given as goal

abbrev pub invariant-loop-number : goal.invariant-loop-number
invariant-loop-number l = have_few_arcs l.transitions (map arc_view l.arcs) ≡ have_few_arcs (drop l.number l.transitions) (map arc_view l.arcs)

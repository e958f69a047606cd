-- The rows are the same where those that are left are.
use Rattle.std.proofs.Common.{◌≡◌, drop, map}
use lib.Pointwise.{pointwise}
use Rattle.cpn_core.specs.Inscriptions.{term_view}
use Rattle.cpn_same.specs.SameArcs.{same_term}
use Rattle.cpn_same.proofs.same_arcs.same_terms.Given as goal

abbrev pub invariant-loop-i : goal.invariant-loop-i
invariant-loop-i l =
    pointwise same_term (map term_view l.terms.items) (map term_view l.others.items) ≡ pointwise same_term (map term_view (drop l.i l.terms.items)) (map term_view (drop l.i l.others.items))

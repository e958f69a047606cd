-- The rows are the same where those that are left are.
use Rattle.std.proofs.Common.{◌≡◌, drop, map}
use Rattle.cpn_core.specs.Inscriptions.{function_view}
use Rattle.cpn_same.specs.SameInscriptions.{same_functions}
use Rattle.cpn_same.proofs.same_functions.same_each.Given as goal

abbrev pub invariant-loop-i : goal.invariant-loop-i
invariant-loop-i l =
    same_functions (map function_view l.functions.items) (map function_view l.others.items) ≡ same_functions (map function_view (drop l.i l.functions.items)) (map function_view (drop l.i l.others.items))

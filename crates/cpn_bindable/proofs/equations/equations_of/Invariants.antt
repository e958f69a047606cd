-- The equations so far, and then those of the rest, are the equations of all.
use Rattle.std.proofs.Common.{◌≡◌, ◌++◌, map, drop}
use Rattle.std.specs.List.{flat_map, AllByRecursion}
use Rattle.cpn_definitions.specs.Bindable.{conjuncts_of}
use Rattle.cpn_core.specs.Inscriptions.{expr_view}
use Rattle.cpn_typing.specs.Closure.{equations_of}
use Rattle.cpn_stages.specs.Stages.{equations_at}
use Rattle.cpn_bindable.specs.Equations.{equations_view, equation_pair, HasItsSources}
use Rattle.cpn_bindable.proofs.equations.equations_of.Given as goal

abbrev pub invariant-loop-conjunct : goal.invariant-loop-conjunct
invariant-loop-conjunct l =
    (equations_view l.equations.items ++ equations_of (map expr_view (drop l.conjunct-index l.guard.conjuncts.items)) ≡ equations_of (map expr_view l.guard.conjuncts.items))
    × (map equation_pair l.equations.items ++ flat_map equations_at (flat_map conjuncts_of (map expr_view (drop l.conjunct-index l.guard.conjuncts.items))) ≡ flat_map equations_at (flat_map conjuncts_of (map expr_view l.guard.conjuncts.items)))
    × AllByRecursion HasItsSources l.equations.items

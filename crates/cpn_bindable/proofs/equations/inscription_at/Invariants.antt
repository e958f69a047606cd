-- None is reached in the conjuncts so far.
use Rattle.std.proofs.Common.{map, take, None}
use Rattle.std.specs.List.{flat_map}
use Rattle.cpn_definitions.specs.Bindable.{conjuncts_of}
use Rattle.cpn_core.specs.Inscriptions.{expr_view}
use Rattle.cpn_stages.specs.Stages.{equations_at}
use Rattle.cpn_bindable.specs.Equations.{inscriptions_of, IsReached}
use Rattle.cpn_bindable.proofs.equations.inscription_at.Given as goal

abbrev pub invariant-loop-conjunct : goal.invariant-loop-conjunct
invariant-loop-conjunct l = IsReached (inscriptions_of (flat_map equations_at (flat_map conjuncts_of (map expr_view (take l.conjunct-index l.guard.conjuncts.items))))) l.number l.passed None

-- No equation before the index is ready.
use Rattle.std.proofs.Common.{◌≡◌, take, drop}
use Rattle.cpn_typing.specs.Closure.{ready_among}
use Rattle.cpn_bindable.specs.Equations.{equations_view}
use Rattle.cpn_bindable.specs.Known.{is_listed}
use Rattle.cpn_bindable.proofs.FoundSteps.{with_others}
use Rattle.cpn_bindable.proofs.closure.ready_index.Given as goal

abbrev pub invariant-loop-index : goal.invariant-loop-index
invariant-loop-index l =
    ready_among (is_listed l.known) (equations_view l.equations) ≡ with_others (equations_view (take l.index l.equations)) (ready_among (is_listed l.known) (equations_view (drop l.index l.equations)))

-- The values so far have the tokens of the place.
use Rattle.std.proofs.Common.{◌≡◌, take}
use Rattle.std.specs.Prelude.{All}
use Rattle.cpn_flat.specs.InitialMarking.{tokens_of}
use Rattle.cpn_flat.specs.Values.{values_view}
use Rattle.cpn_flat.proofs.sharing.hold_against.Given as goal

abbrev pub invariant-loop-other : goal.invariant-loop-other
invariant-loop-other l = All (λ other. tokens_of l.holder.colour.timed other ≡ l.tokens) (values_view (take l.other-index l.others))

-- The values so far are those of the initial markings so far.
use Rattle.std.proofs.Common.{take}
use Rattle.cpn_core.specs.Inscriptions.{funs_view}
use Rattle.cpn_core.specs.Nets.{place_view}
use Rattle.cpn_readings.proofs.RelatedLists.{AreRead}
use Rattle.cpn_flat.specs.InitialMarking.{value_so}
use Rattle.cpn_flat.specs.WrittenViews.{written_view}
use Rattle.cpn_flat.specs.Values.{values_view}
use Rattle.cpn_flat.proofs.values.values_of.Given as goal

abbrev pub invariant-loop-initial : goal.invariant-loop-initial
invariant-loop-initial l = AreRead (λ i. value_so (funs_view l.funs) (place_view l.place)) 0 (written_view (take l.initial-index l.written)) (values_view l.values.items)

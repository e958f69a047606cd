-- The values of the compound places so far are read.
use Rattle.std.proofs.Common.{take}
use Rattle.cpn_core.specs.Nets.{net_view}
use Rattle.cpn_readings.proofs.RelatedLists.{AreRead}
use Rattle.cpn_flat.specs.InitialMarking.{values_so}
use Rattle.cpn_flat.specs.WrittenViews.{lists_view}
use Rattle.cpn_flat.specs.Values.{value_lists_view}
use Rattle.cpn_flat.proofs.values.all_values.Given as goal

abbrev pub invariant-loop-place : goal.invariant-loop-place
invariant-loop-place l = AreRead (values_so (net_view l.net)) 0 (lists_view (take l.place l.written)) (value_lists_view l.values.items)

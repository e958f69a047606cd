-- The transitions of the instances so far are counted, and are not too many.
use Rattle.std.proofs.Common.{◌≡◌, ◌≤◌, take, sum}
use Rattle.cpn_module.specs.Views.{hierarchy_view}
use Rattle.cpn_fuse.specs.PlaceInstances.{transition_counts}
use Rattle.cpn_fuse.specs.Unfolded.{most_transitions}
use Rattle.cpn_fuse.specs.Views.{instances_view}
use Rattle.cpn_fuse.proofs.counts.count_transitions.Given as goal

abbrev pub invariant-loop-instance : goal.invariant-loop-instance
invariant-loop-instance l = record { counted : l.count ≡ sum (take l.instance-index (transition_counts (hierarchy_view l.hierarchy) (instances_view l.instances))); few : l.count ≤ most_transitions }

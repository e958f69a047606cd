-- Instances have come, and the others wait; there are not too many yet.
use Rattle.std.proofs.Common.{◌≤◌, ◌-◌, length}
use Rattle.cpn_module.specs.Views.{hierarchy_view}
use Rattle.cpn_fuse.specs.Unfolded.{most_instances}
use Rattle.cpn_fuse.specs.Views.{instances_view}
use Rattle.cpn_fuse.specs.Waiting.{waiting_instances, AreWaiting, HaveCome}
use Rattle.cpn_fuse.proofs.preorder.instances_of.Given as goal

abbrev pub invariant-loop-waiting : goal.invariant-loop-waiting
invariant-loop-waiting l =
    record {
      come : HaveCome (hierarchy_view l.hierarchy) (instances_view l.instances.items) (waiting_instances (hierarchy_view l.hierarchy) l.waiting.items);
      waiting : AreWaiting (hierarchy_view l.hierarchy) l.waiting.items;
      few : length l.instances.items ≤ most_instances;
    }

abbrev pub decreases-loop-waiting : goal.decreases-loop-waiting
decreases-loop-waiting l = most_instances - length l.instances.items

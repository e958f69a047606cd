-- Of the instances so far some are picked.
use Rattle.std.proofs.Common.{◌≡◌, length}
use Rattle.cpn_fuse.specs.Views.{instances_view}
use Rattle.cpn_fuse.proofs.LoopSteps.{ArePickedTo}
use Rattle.cpn_fuse.proofs.fusions.pick_instances.Given as goal

abbrev pub invariant-loop-number : goal.invariant-loop-number
invariant-loop-number l = record { each : length l.picked.items ≡ length l.hierarchy.modules.items; picked : ArePickedTo (instances_view l.unfolded.instances.items) l.picked.items l.number }

-- The places of the members so far.
use Rattle.std.proofs.Common.{◌≡◌, take, map}
use Rattle.cpn_module.specs.Views.{hierarchy_view, fused_view}
use Rattle.cpn_fuse.specs.Views.{instances_view}
use Rattle.cpn_fuse.specs.FewerPairs.{picked_places}
use Rattle.cpn_fuse.proofs.fusions.picked_places.Given as goal

abbrev pub invariant-loop-member : goal.invariant-loop-member
invariant-loop-member l = l.places.items ≡ picked_places (hierarchy_view l.hierarchy) (instances_view l.unfolded.instances.items) l.picked (map fused_view (take l.member-index l.members))

-- The numbers of the first places of the instances so far, and of the next one.
use Rattle.std.proofs.Common.{◌≡◌, ℕ, ◌<◌, length}
use Rattle.std.specs.Prelude.{slice_index}
use Rattle.cpn_module.specs.Views.{hierarchy_view}
use Rattle.cpn_fuse.specs.PlaceInstances.{first_place}
use Rattle.cpn_fuse.specs.Views.{instances_view}
use Rattle.cpn_fuse.proofs.counts.first_places.Given as goal

abbrev pub invariant-loop-instance : goal.invariant-loop-instance
invariant-loop-instance l =
    record {
      each : length l.firsts.items ≡ l.instance-index;
      firsts : (i : ℕ) → i < l.instance-index → slice_index l.firsts.items i ≡ first_place (hierarchy_view l.hierarchy) (instances_view l.instances) i;
      next : l.first ≡ first_place (hierarchy_view l.hierarchy) (instances_view l.instances) l.instance-index;
    }

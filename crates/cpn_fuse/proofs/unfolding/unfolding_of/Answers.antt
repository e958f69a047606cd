-- The instances are of modules that there are.
use Rattle.cpn_module.specs.Views.{hierarchy_view}
use Rattle.cpn_fuse.specs.Views.{instances_view}
use Rattle.cpn_fuse.proofs.InstanceLaws.{in_modules}
use Rattle.cpn_fuse.proofs.unfolding.unfolding_of.Goals as goal

pub count_places-requires-clause-in_modules : goal.count_places-requires-clause-in_modules
count_places-requires-clause-in_modules c = rw c.deref.ensures.value (in_modules (hierarchy_view c.args.hierarchy.now) c.requires.numbers (instances_view c.in_ok-instances.instances.items) c.in_ok-instances.ensures.instances)

pub count_transitions-requires-clause-in_modules : goal.count_transitions-requires-clause-in_modules
count_transitions-requires-clause-in_modules c = rw c.deref-2.ensures.value (in_modules (hierarchy_view c.args.hierarchy.now) c.requires.numbers (instances_view c.in_ok-instances.instances.items) c.in_ok-instances.ensures.instances)

pub first_places-requires-clause-in_modules : goal.first_places-requires-clause-in_modules
first_places-requires-clause-in_modules c = rw c.deref-3.ensures.value (in_modules (hierarchy_view c.args.hierarchy.now) c.requires.numbers (instances_view c.in_ok-instances.instances.items) c.in_ok-instances.ensures.instances)

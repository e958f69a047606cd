-- Instances that the program has, as plain data.
use Rattle.std.specs.Prelude.{List, map, Option, Some, None}
use Rattle.cpn_fuse.specs.Instances.{PlainPart, PlainInstance}
use Rattle.cpn_fuse.specs.declared.instances.PartOf.{PartOf}
use Rattle.cpn_fuse.specs.declared.instances.Instance.{Instance}

abbrev pub part_view : PartOf → PlainPart
part_view part = record { instance = part.instance; substitution = part.substitution }

abbrev pub part_of_view : Option PartOf → Option PlainPart
part_of_view None = None
part_of_view (Some part) = Some (part_view part)

abbrev pub instance_view : Instance → PlainInstance
instance_view x = record { of_module = x.of_module; part_of = part_of_view x.part_of }

abbrev pub instances_view : List Instance → List PlainInstance
instances_view is = map instance_view is

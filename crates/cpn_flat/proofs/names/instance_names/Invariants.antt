-- As many names as instances so far, each that of its instance.
use Rattle.std.proofs.Common.{◌≡◌, map, length, string_bytes}
use Rattle.cpn_document.specs.Views.{document_view}
use Rattle.cpn_fuse.specs.Views.{instances_view}
use Rattle.cpn_flat.proofs.InstanceNames.{AreNamesSoFar}
use Rattle.cpn_flat.proofs.names.instance_names.Given as goal

abbrev pub invariant-loop-instance : goal.invariant-loop-instance
invariant-loop-instance l = record {
  number : length l.names.items ≡ l.instance-index;
  so_far : AreNamesSoFar (document_view l.document) (instances_view l.instances) (map string_bytes l.names.items);
}

-- The sockets are those of the module's arcs.
use Rattle.cpn_module.proofs.sockets.check_substitutions.Goals as goal

pub check_all_assignments-requires : goal.check_all_assignments-requires
check_all_assignments-requires c = record {
  inputs = rw c.deref.ensures.value at c.in_ok-sockets.ensures.inputs;
  outputs = rw c.deref.ensures.value at c.in_ok-sockets.ensures.outputs;
}

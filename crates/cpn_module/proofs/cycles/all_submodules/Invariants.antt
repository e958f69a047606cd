-- The lists so far are those of the modules so far.
use Rattle.std.proofs.Common.{◌≡◌, take, map}
use Rattle.cpn_module.specs.Submodules.{submodule_lists}
use Rattle.cpn_module.specs.Views.{structure_view}
use Rattle.cpn_module.proofs.cycles.all_submodules.Given as goal

abbrev pub invariant-loop-structure : goal.invariant-loop-structure
invariant-loop-structure l = l.lists.items ≡ submodule_lists (map structure_view (take l.structure-index l.modules))

-- The submodules so far are added.
use Rattle.std.proofs.Common.{◌≡◌, take, map}
use Rattle.cpn_module.specs.Submodules.{each_once}
use Rattle.cpn_module.proofs.cycles.submodules_of.Given as goal

abbrev pub invariant-loop-substitution : goal.invariant-loop-substitution
invariant-loop-substitution l = l.submodules ≡ each_once (map (λ sub. sub.submodule) (take l.substitution-index l.structure.substitutions.items))

-- What is found are parts; at most as many as there are modules are left to be looked at.
use Rattle.std.proofs.Common.{◌-◌, length}
use Rattle.cpn_module.proofs.PartsOfModules.{Search}
use Rattle.cpn_module.proofs.cycles.parts_of.Given as goal

abbrev pub invariant-loop-seen : goal.invariant-loop-seen
invariant-loop-seen l = Search l.submodules l.whole l.parts l.seen

abbrev pub decreases-loop-seen : goal.decreases-loop-seen
decreases-loop-seen l = length l.submodules - l.seen

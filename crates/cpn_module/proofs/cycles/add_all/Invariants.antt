-- The numbers so far are added.
use Rattle.std.proofs.Common.{◌≡◌, take}
use Rattle.cpn_module.specs.Submodules.{with_numbers}
use Rattle.cpn_module.proofs.cycles.add_all.Given as goal

abbrev pub invariant-loop-number : goal.invariant-loop-number
invariant-loop-number l = l.numbers ≡ with_numbers l.initial.numbers (take l.number-index l.more)

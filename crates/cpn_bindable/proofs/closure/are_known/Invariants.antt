-- All are known where the rest is.
use Rattle.std.proofs.Common.{◌≡◌, drop}
use Rattle.std.specs.List.{list_all}
use Rattle.cpn_bindable.specs.Known.{is_listed}
use Rattle.cpn_bindable.proofs.closure.are_known.Given as goal

abbrev pub invariant-loop-number : goal.invariant-loop-number
invariant-loop-number l = list_all (is_listed l.known) l.numbers ≡ list_all (is_listed l.known) (drop l.number-index l.numbers)

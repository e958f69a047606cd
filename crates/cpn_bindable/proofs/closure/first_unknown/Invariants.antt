-- The first that is not known is the first of the rest.
use Rattle.std.proofs.Common.{◌≡◌, drop}
use Rattle.cpn_bindable.specs.Known.{is_listed, first_not}
use Rattle.cpn_bindable.proofs.closure.first_unknown.Given as goal

abbrev pub invariant-loop-number : goal.invariant-loop-number
invariant-loop-number l = first_not (is_listed l.known) l.numbers ≡ first_not (is_listed l.known) (drop l.number-index l.numbers)

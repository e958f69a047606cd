-- The size of the digits that were seen.
use Rattle.std.proofs.Common.{◌≡◌, ◌-◌, ◌^◌, min, take}
use Rattle.std.specs.Str.Parse.{digits_value}
use Rattle.cpn_lex.proofs.numbers.size_of.Given as goal

abbrev pub invariant-loop-digit : goal.invariant-loop-digit
invariant-loop-digit l = l.size ≡ min (digits_value 10 (take l.digit-index l.digits)) (2 ^ 64 - 1)

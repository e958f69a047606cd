-- The names so far are those of the constructors so far.
use Rattle.std.proofs.Common.{◌≡◌, map, take, string_bytes}
use Rattle.cpn_declared.proofs.parts.names_of.Given as goal

abbrev pub invariant-loop-constructor : goal.invariant-loop-constructor
invariant-loop-constructor l = map string_bytes l.names.items ≡ map (λ c. string_bytes c.name) (take l.constructor-index l.constructors)

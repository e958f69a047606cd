-- The lists so far are those of the unions so far.
use Rattle.std.proofs.Common.{◌≡◌, map, take}
use Rattle.cpn_core.specs.Nets.{names_view}
use Rattle.cpn_declared.specs.DeclsViews.{constructor_names, constructor_view}
use Rattle.cpn_declared.proofs.parts.names_of_all.Given as goal

abbrev pub invariant-loop-union : goal.invariant-loop-union
invariant-loop-union l = names_view l.all.items ≡ map (λ union. constructor_names (map constructor_view union.items)) (take l.union-index l.unions)

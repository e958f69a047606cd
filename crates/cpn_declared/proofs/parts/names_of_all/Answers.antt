-- The lists so far, and at the end of all unions.
use Rattle.std.proofs.Common.{◌∙◌, map, ap, arith}
use Rattle.std.proofs.lemmas.List.{take_all}
use Rattle.cpn_core.specs.Nets.{names_view}
use Rattle.cpn_declared.specs.DeclsViews.{constructor_names, constructor_view}
use Rattle.cpn_declared.proofs.parts.names_of_all.Goals as goal

pub loop-union-init : goal.loop-union-init
loop-union-init c = ap names_view c.in_ok-all.ensures.items

pub returns : goal.returns
returns c =
    record { exact = c.loop-union.invariant ∙ ap (map (λ union. constructor_names (map constructor_view union.items))) (take_all c.loop-union.union-index c.args.unions.now (omega arith)) }

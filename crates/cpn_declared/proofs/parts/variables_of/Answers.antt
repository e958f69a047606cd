-- The copies so far, and at the end of all variables.
use Rattle.std.proofs.Common.{◌∙◌, map, ap, arith}
use Rattle.std.proofs.lemmas.List.{take_all}
use Rattle.cpn_core.specs.Nets.{variable_view}
use Rattle.cpn_declared.proofs.parts.variables_of.Goals as goal

pub loop-variable-init : goal.loop-variable-init
loop-variable-init c = ap (map variable_view) c.in_ok-copies.ensures.items

pub returns : goal.returns
returns c = record { exact = c.loop-variable.invariant ∙ ap (map variable_view) (take_all c.loop-variable.variable-index c.args.variables.now (omega arith)) }

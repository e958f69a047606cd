-- The copies so far, and at the end of all lists.
use Rattle.std.proofs.Common.{◌∙◌, ap, arith}
use Rattle.std.proofs.lemmas.List.{take_all}
use Rattle.cpn_core.specs.Nets.{names_view}
use Rattle.cpn_declared.proofs.parts.copies_of.Goals as goal

pub loop-names-init : goal.loop-names-init
loop-names-init c = ap names_view c.in_ok-copies.ensures.items

pub returns : goal.returns
returns c = record { exact = c.loop-names.invariant ∙ ap names_view (take_all c.loop-names.names-index c.args.lists.now (omega arith)) }

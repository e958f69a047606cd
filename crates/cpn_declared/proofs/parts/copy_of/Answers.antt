-- The copies so far, and at the end of all names.
use Rattle.std.proofs.Common.{◌∙◌, map, ap, string_bytes, arith}
use Rattle.std.proofs.lemmas.List.{take_all}
use Rattle.cpn_declared.proofs.parts.copy_of.Goals as goal

pub loop-name-init : goal.loop-name-init
loop-name-init c = ap (map string_bytes) c.in_ok-copies.ensures.items

pub returns : goal.returns
returns c = record { exact = c.loop-name.invariant ∙ ap (map string_bytes) (take_all c.loop-name.name-index c.args.names.now (omega arith)) }

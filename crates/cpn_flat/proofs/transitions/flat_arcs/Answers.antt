-- Each arc is at an item.
use Rattle.std.proofs.Common.{◌+◌, ◌<◌, length, map, ap, ◌∙◌, arith}
use Rattle.std.proofs.lemmas.List.{take_all}
use Rattle.cpn_core.specs.Nets.{arc_view, arcs_view}
use Rattle.cpn_flat.specs.FlatNet.{flat_arc}
use Rattle.cpn_flat.proofs.AllItems.{all_item}
use Rattle.cpn_flat.proofs.transitions.flat_arcs.Goals as goal

pub flat_arc-requires-clause-item : goal.flat_arc-requires-clause-item
flat_arc-requires-clause-item c = all_item (λ arc. c.args.first + arc.place < length c.args.classes.now.numbers) arc_view c.args.arcs.now c.loop-arc.arc-index c.arc-item.result (omega arith) c.arc-item.is c.requires.items

pub loop-arc-init : goal.loop-arc-init
loop-arc-init c = ap arcs_view c.in_ok-made.ensures.items

pub returns : goal.returns
returns c = record { made = c.loop-arc.invariant ∙ ap (λ arcs. map (flat_arc c.args.classes.now c.args.first) (arcs_view arcs)) (take_all c.loop-arc.arc-index c.args.arcs.now (omega arith)) }

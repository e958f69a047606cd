-- What was seen is there by its numbers.
use Rattle.std.proofs.Common.{◌≡◌, take, map}
use Rattle.cpn_document.specs.Views.{fusion_view}
use Rattle.cpn_module.specs.Names.{fusion_among}
use Rattle.cpn_module.specs.Views.{fusion_set_view}
use Rattle.cpn_module.proofs.numbered.fusions_of.Given as goal

abbrev pub invariant-loop-fusion : goal.invariant-loop-fusion
invariant-loop-fusion l = map fusion_set_view l.sets.items ≡ map (fusion_among l.names.modules l.names.places.items) (map fusion_view (take l.fusion-index l.fusions))

-- What was seen is there by its numbers.
use Rattle.std.proofs.Common.{◌≡◌, take, map}
use Rattle.cpn_document.specs.Views.{arc_view}
use Rattle.cpn_module.specs.Named.{ends_among}
use Rattle.cpn_module.specs.Views.{ends_view}
use Rattle.cpn_module.proofs.numbered.ends_of.Given as goal

abbrev pub invariant-loop-arc : goal.invariant-loop-arc
invariant-loop-arc l = map ends_view l.ends.items ≡ map (ends_among l.places l.transitions l.subs) (map arc_view (take l.arc-index l.arcs))

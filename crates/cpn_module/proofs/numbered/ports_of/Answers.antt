-- All ports were seen.
use Rattle.std.proofs.Common.{arith}
use Rattle.cpn_document.specs.Views.{place_view}
use Rattle.cpn_module.proofs.MappedLists.{mapped_all}
use Rattle.cpn_module.proofs.numbered.ports_of.Goals as goal

pub loop-place-init : goal.loop-place-init
loop-place-init c = c.in_ok-ports.ensures.items

pub returns : goal.returns
returns c = record { ports = mapped_all (λ p. p.port) place_view c.args.places.now c.loop-place.place-index (omega arith) _ c.loop-place.invariant }

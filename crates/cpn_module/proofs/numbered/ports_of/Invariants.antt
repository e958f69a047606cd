-- The ports that were seen are there.
use Rattle.std.proofs.Common.{◌≡◌, take, map}
use Rattle.cpn_document.specs.Views.{place_view}
use Rattle.cpn_module.proofs.numbered.ports_of.Given as goal

abbrev pub invariant-loop-place : goal.invariant-loop-place
invariant-loop-place l = l.ports.items ≡ map (λ p. p.port) (map place_view (take l.place-index l.places))

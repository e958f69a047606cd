-- The names that were seen are there.
use Rattle.std.proofs.Common.{◌≡◌, take, map}
use Rattle.cpn_document.specs.Views.{place_view}
use Rattle.cpn_module.specs.Names.{texts_of}
use Rattle.cpn_module.proofs.name_lists.Names.of_places.Given as goal

abbrev pub invariant-loop-place : goal.invariant-loop-place
invariant-loop-place l = texts_of l.names.items ≡ map (λ p. p.name) (map place_view (take l.place-index l.places))

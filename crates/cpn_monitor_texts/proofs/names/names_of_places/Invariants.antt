-- The names that were seen are there.
use Rattle.std.proofs.Common.{◌≡◌, take, map}
use Rattle.cpn_core.specs.Nets.{place_view}
use Rattle.cpn_names.specs.Names.{texts_of}
use Rattle.cpn_monitor_texts.proofs.names.names_of_places.Given as goal

abbrev pub invariant-loop-place : goal.invariant-loop-place
invariant-loop-place l = texts_of l.names.items ≡ map (λ x. x.name) (map place_view (take l.place-index l.places))

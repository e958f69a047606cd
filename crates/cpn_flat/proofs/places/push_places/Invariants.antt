-- The places so far stand behind those that were there.
use Rattle.std.proofs.Common.{◌≡◌, ◌++◌, map, take}
use Rattle.cpn_core.specs.Nets.{place_view}
use Rattle.cpn_flat.specs.FlatNet.{joined_place}
use Rattle.cpn_flat.proofs.places.push_places.Given as goal

abbrev pub invariant-loop-place : goal.invariant-loop-place
invariant-loop-place l = map place_view l.places.items ≡ map place_view l.initial.places.items ++ map (joined_place l.whole) (map place_view (take l.place-index l.module.places.items))

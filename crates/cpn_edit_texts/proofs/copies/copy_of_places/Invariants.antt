-- The places so far.
use Rattle.std.proofs.Common.{◌≡◌, map, take}
use Rattle.cpn_core.specs.Nets.{place_view}
use Rattle.cpn_edit_texts.proofs.copies.copy_of_places.Given as goal

abbrev pub invariant-loop-place : goal.invariant-loop-place
invariant-loop-place l = map place_view l.copies.items ≡ map place_view (take l.place-index l.places)

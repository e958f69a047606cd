-- The first members so far.
use Rattle.std.proofs.Common.{◌≡◌, map, take}
use Rattle.cpn_core.specs.Nets.{place_view}
use Rattle.cpn_flat.specs.FlatNet.{compound_among}
use Rattle.cpn_flat.proofs.places.compound_places.Given as goal

abbrev pub invariant-loop-class : goal.invariant-loop-class
invariant-loop-class l = map place_view l.made.items ≡ compound_among (map place_view l.places) (take l.class l.classes.firsts)

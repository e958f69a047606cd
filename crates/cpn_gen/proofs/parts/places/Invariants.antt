use Rattle.std.proofs.Common.{◌≡◌, map}
use Rattle.serde_json.specs.View.{view}
use Rattle.cpn_gen.specs.GeneratedNets.{numbers_below, place}
use Rattle.cpn_gen.proofs.parts.places.Given as goal

-- the first of them
abbrev pub invariant-loop-i : goal.invariant-loop-i
invariant-loop-i l = map view l.places.items ≡ map place (numbers_below l.i)

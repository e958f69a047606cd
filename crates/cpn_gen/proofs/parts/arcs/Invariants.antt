use Rattle.std.proofs.Common.{◌≡◌, map}
use Rattle.std.specs.List.{flat_map}
use Rattle.serde_json.specs.View.{view}
use Rattle.cpn_gen.specs.GeneratedNets.{numbers_below, arcs_of}
use Rattle.cpn_gen.proofs.parts.arcs.Given as goal

-- those of the first transitions
abbrev pub invariant-loop-i : goal.invariant-loop-i
invariant-loop-i l = map view l.arcs.items ≡ flat_map (arcs_of l.n) (numbers_below l.i)

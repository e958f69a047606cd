use Rattle.std.proofs.Common.{◌≡◌, map}
use Rattle.serde_json.specs.View.{view}
use Rattle.cpn_gen.specs.GeneratedNets.{numbers_below, transition}
use Rattle.cpn_gen.proofs.parts.transitions.Given as goal

-- the first of them
abbrev pub invariant-loop-i : goal.invariant-loop-i
invariant-loop-i l = map view l.transitions.items ≡ map transition (numbers_below l.i)

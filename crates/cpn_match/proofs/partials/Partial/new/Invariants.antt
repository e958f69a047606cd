-- The pairs so far are those of the variables so far.
use Rattle.std.proofs.Common.{◌≡◌, take}
use Rattle.cpn_stages.specs.Partial.{unbound}
use Rattle.cpn_match.specs.Pairs.{pairs_view}
use Rattle.cpn_match.proofs.partials.Partial.new.Given as goal

abbrev pub invariant-loop-variable : goal.invariant-loop-variable
invariant-loop-variable l = pairs_view l.pairs.items ≡ unbound (take l.variable-index l.variables)

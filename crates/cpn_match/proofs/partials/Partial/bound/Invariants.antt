-- What is bound so far, and then what the pairs that are left bind, is what all bind.
use Rattle.std.proofs.Common.{◌≡◌, ◌++◌, drop}
use Rattle.cpn_stages.specs.Partial.{bound_in}
use Rattle.cpn_match.specs.Pairs.{pairs_view}
use Rattle.cpn_match.proofs.partials.Partial.bound.Given as goal

abbrev pub invariant-loop-pair : goal.invariant-loop-pair
invariant-loop-pair l = bound_in (pairs_view l.pair-items) ≡ l.binding ++ bound_in (pairs_view (drop l.pair-index l.pair-items))

-- All values are admitted exactly where those that are left are; and the variables that are left are declared.
use Rattle.std.proofs.Common.{◌≡◌, length, drop}
use Rattle.cpn_core.specs.Nets.{net_view}
use Rattle.cpn_stages.specs.Trials.{are_admitted}
use Rattle.cpn_match.specs.Pairs.{pairs_view}
use Rattle.cpn_search.specs.Searches.{AreDeclared}
use Rattle.cpn_search.proofs.extending.are_admitted.Given as goal

abbrev pub invariant-loop-pair : goal.invariant-loop-pair
invariant-loop-pair l =
    (are_admitted (net_view l.net) l.partial ≡ are_admitted (net_view l.net) (pairs_view (drop l.pair-index l.pair-items)))
    × AreDeclared (length l.net.variables.items) (pairs_view (drop l.pair-index l.pair-items))
